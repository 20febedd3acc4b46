-- The laws of joined words: each part is asked for its gains, and the correlations of the parts add up.
use Rattle.std.specs.Prelude.{ℕ, ◌+◌, ◌*◌, ◌^◌, ◌<◌, ◌≤◌, List, take, drop, ℤ, ◌≤ℤ◌, min}
use Rattle.std.proofs.Common.{ap₂, refl, arith}
use Rattle.std.proofs.lemmas.Int.{ints}
use Rattle.std.proofs.lemmas.List.{length-take-le, length-drop}
use Rattle.std.proofs.lemmas.Nat.{mod_low, shr_high, shr_split, pow-add, mul-add-lt}
use Rattle.finders.specs.declared.refusals.Refusal.TheVariants.{Width}
use Rattle.finders.specs.Meanings.{Meaning, fit, unfit}
use Rattle.finders.specs.Sizes.{in_range}
use Rattle.finders.specs.Words.{correlation}
use Rattle.finders.specs.WordFinders.{WordFit, WordLaws, Lawful, Asked, SameFit, Same}
use Rattle.finders.proofs.Fitness.{unfit_unless_keeps, unfit_unless_agrees}
use Rattle.finders.proofs.Within.{within_front, within_back, range}
use Rattle.code_layers.specs.Parts.{front, back}
use Rattle.code_layers.specs.PartsLaws.{correlation_parts, correlation_joined}
use Rattle.code_layers.specs.Join.{joined_fit, joined}

module _ (m n : WordFit) (l : WordLaws m) (k : WordLaws n) where
  module _ (gs : List ℤ) (a : Asked (joined_fit m n) gs) where
    pub asked_first : Asked m (take m.width gs)
    asked_first = record {
      as_wide = length-take-le m.width gs (omega (arith, a.as_wide));
      gains_within = within_front m.gain_limit n.gain_limit m.width gs a.gains_within;
    }

    pub asked_second : Asked n (drop m.width gs)
    asked_second = record {
      as_wide = rw length-drop (omega (arith, a.as_wide));
      gains_within = within_back m.gain_limit n.gain_limit m.width gs a.gains_within;
    }

    abbrev pub low : ℕ
    low = m.pick (take m.width gs)

    abbrev pub high : ℕ
    high = n.pick (drop m.width gs)

    pub low_fits : low < 2 ^ m.width
    low_fits = l.members_are_as_wide low (l.pick_is_a_member (take m.width gs) asked_first)

    pick_is_joined : m.member (front m.width (high * 2 ^ m.width + low)) × n.member (back m.width (high * 2 ^ m.width + low))
    pick_is_joined = rw (mod_low high m.width low low_fits, shr_high high m.width low low_fits) (l.pick_is_a_member (take m.width gs) asked_first, k.pick_is_a_member (drop m.width gs) asked_second)

    none_better : (w : ℕ) → m.member (front m.width w) × n.member (back m.width w) → correlation w gs ≤ℤ correlation (high * 2 ^ m.width + low) gs
    none_better w h =
        let a = l.no_member_is_better (take m.width gs) asked_first (front m.width w) h.0 in
        let b = k.no_member_is_better (drop m.width gs) asked_second (back m.width w) h.1 in
        rw (correlation_parts m.width w gs, correlation_joined m.width low high gs low_fits) (omega (arith, ints))

  joined_below : (w : ℕ) → m.member (front m.width w) × n.member (back m.width w) → w < 2 ^ (m.width + n.width)
  joined_below w h =
      let f = l.members_are_as_wide (front m.width w) h.0 in
      let b = k.members_are_as_wide (back m.width w) h.1 in
      omega (arith, shr_split w m.width, pow-add 2 m.width n.width, mul-add-lt (back m.width w) (2 ^ m.width) (front m.width w) (2 ^ n.width) b f)

  joined_laws : (1 ≤ m.width + n.width) × (m.width + n.width ≤ 32) → WordLaws (joined_fit m n)
  joined_laws r = record {
    some_cell = r.0;
    few_cells = r.1;
    some_gain = omega (arith, l.some_gain, k.some_gain);
    small_gains = omega (arith, l.small_gains);
    members_are_as_wide = joined_below;
    pick_is_a_member = pick_is_joined;
    no_member_is_better = none_better;
  }

pub joined_lawful : (M N : Meaning WordFit) → Lawful M → Lawful N → Lawful (joined M N)
joined_lawful (unfit e) N l k = tt
joined_lawful (fit m) (unfit e) l k = tt
joined_lawful (fit m) (fit n) l k = unfit_unless_keeps WordLaws (in_range (m.width + n.width)) Width (fit (joined_fit m n)) (λ e. joined_laws m n l k (range (m.width + n.width) e))

-- over finders that mean the same
pub joined_alike : (M M' N N' : Meaning WordFit) → Same M M' → Same N N' → Same (joined M N) (joined M' N')
joined_alike (unfit e) (unfit f) N N' s t = s
joined_alike (unfit e) (fit m') N N' s t = absurd s
joined_alike (fit m) (unfit f) N N' s t = absurd s
joined_alike (fit m) (fit m') (unfit e) (unfit f) s t = t
joined_alike (fit m) (fit m') (unfit e) (fit n') s t = absurd t
joined_alike (fit m) (fit m') (fit n) (unfit f) s t = absurd t
joined_alike (fit m) (fit m') (fit n) (fit n') s t =
    let cut = s.same_width in
    unfit_unless_agrees SameFit (in_range (m.width + n.width)) (in_range (m'.width + n'.width)) Width (fit (joined_fit m n)) (fit (joined_fit m' n')) (ap₂ (λ (j k : ℕ). in_range (j + k)) cut t.same_width) (record {
      same_width = ap₂ ◌+◌ cut t.same_width;
      same_gain_limit = ap₂ min s.same_gain_limit t.same_gain_limit;
      same_members = λ w. (
        λ h. ((s.same_members (front m'.width w)).0 (rw cut at h.0), (t.same_members (back m'.width w)).0 (rw cut at h.1)),
        λ h. (rw cut ((s.same_members (front m'.width w)).1 h.0), rw cut ((t.same_members (back m'.width w)).1 h.1)),
      );
      same_picks = λ gs. rw (cut, s.same_picks (take m'.width gs), t.same_picks (drop m'.width gs)) refl;
    })
