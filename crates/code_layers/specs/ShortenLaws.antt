-- The laws of words without their last cell: what a word below gains is what is left of it gains.
use Rattle.std.specs.Prelude.{◌≡◌, ℕ, ◌-◌, ◌≤◌, List, [], ◌∷◌, length, ℤ, pos, refl}
use Rattle.std.proofs.Common.{sym, ap, ap₂, ◌∙◌, arith, zero-le}
use Rattle.std.proofs.lemmas.Bool.{le-leb}
use Rattle.std.proofs.lemmas.Int.{ints}
use Rattle.std.proofs.lemmas.List.{length-append}
use Rattle.finders.specs.declared.refusals.Refusal.TheVariants.{Width}
use Rattle.finders.specs.Meanings.{Meaning, fit, unfit}
use Rattle.finders.specs.Sizes.{in_range}
use Rattle.finders.specs.Words.{digit, correlation}
use Rattle.finders.specs.WordFinders.{WordFit, WordLaws, Lawful, Asked, SameFit, Same}
use Rattle.finders.proofs.Correlation.{correlation_push, signed_size}
use Rattle.finders.proofs.Fitness.{unfit_unless_keeps, unfit_unless_agrees}
use Rattle.finders.proofs.Within.{within_append, range}
use Rattle.code_layers.specs.Parts.{front}
use Rattle.code_layers.specs.PartsLaws.{front_below, correlation_front}
use Rattle.code_layers.specs.Shorten.{with_last, shortened_fit, shortened}

pub correlation_with_last : (w : ℕ) (gs : List ℤ) → correlation w (with_last gs) ≡ correlation (front (length gs) w) gs
correlation_with_last w gs =
    let z = signed_size (digit w (length gs)) (pos 0) in
    rw (correlation_push w gs (pos 0), sym (correlation_front w gs)) (omega (arith, ints))

module _ (m : WordFit) (l : WordLaws m) (some : 1 ≤ m.width - 1) where
  pub asked_below : (gs : List ℤ) → Asked (shortened_fit m) gs → Asked m (with_last gs)
  asked_below gs a = record {
    as_wide = rw length-append (omega (arith, a.as_wide));
    gains_within = within_append m.gain_limit gs (pos 0 ∷ []) a.gains_within (rw (le-leb 0 m.gain_limit zero-le));
  }

  shortened_laws : (m.width - 1 ≤ 32) → WordLaws (shortened_fit m)
  shortened_laws few = record {
    some_cell = some;
    few_cells = few;
    some_gain = l.some_gain;
    small_gains = l.small_gains;
    members_are_as_wide = λ w h. rw h.2 (front_below (m.width - 1) h.0);
    pick_is_a_member = λ gs a. (m.pick (with_last gs), l.pick_is_a_member (with_last gs) (asked_below gs a), refl);
    no_member_is_better = λ gs a w h. rw (h.2, sym a.as_wide, sym (correlation_with_last h.0 gs), sym (correlation_with_last (m.pick (with_last gs)) gs)) (l.no_member_is_better (with_last gs) (asked_below gs a) h.0 h.1);
  }

pub shortened_lawful : (M : Meaning WordFit) → Lawful M → Lawful (shortened M)
shortened_lawful (unfit e) l = tt
shortened_lawful (fit m) l = unfit_unless_keeps WordLaws (in_range (m.width - 1)) Width (fit (shortened_fit m)) (λ e. let r = range (m.width - 1) e in shortened_laws m l r.0 r.1)

-- over finders that mean the same
pub shortened_alike : (M N : Meaning WordFit) → Same M N → Same (shortened M) (shortened N)
shortened_alike (unfit e) (unfit f) s = s
shortened_alike (unfit e) (fit n) s = absurd s
shortened_alike (fit m) (unfit f) s = absurd s
shortened_alike (fit m) (fit n) s =
    unfit_unless_agrees SameFit (in_range (m.width - 1)) (in_range (n.width - 1)) Width (fit (shortened_fit m)) (fit (shortened_fit n)) (ap (λ (k : ℕ). in_range (k - 1)) s.same_width) (record {
      same_width = ap (λ (k : ℕ). k - 1) s.same_width;
      same_gain_limit = s.same_gain_limit;
      same_members = λ w. (λ h. (h.0, (s.same_members h.0).0 h.1, h.2 ∙ ap (λ (k : ℕ). front (k - 1) h.0) s.same_width), λ h. (h.0, (s.same_members h.0).1 h.1, h.2 ∙ ap (λ (k : ℕ). front (k - 1) h.0) (sym s.same_width)));
      same_picks = λ gs. ap₂ (λ (k w : ℕ). front (k - 1) w) s.same_width (s.same_picks (with_last gs));
    })
