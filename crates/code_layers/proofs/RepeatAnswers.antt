-- What the finder below repeated words answers, and what they answer by it.
use Rattle.std.proofs.Common.{◌≡◌, ℕ, ◌*◌, ◌/◌, ◌^◌, ◌<◌, ◌≤◌, Bool, true, false, eqb, leb, List, ℤ, Ok, Err, Result, sym, refl, ap, ◌∙◌, subst, arith}
use Rattle.std.proofs.Math.Nat.{div-mul-le_self}
use Rattle.std.proofs.lemmas.Nat.{le-div}
use Rattle.std.proofs.lemmas.Bool.{leb-true, ne_eqb, and_parts, both_ways}
use Rattle.finders.specs.declared.refusals.Refusal.{Refusal}
use Rattle.finders.specs.declared.refusals.Refusal.TheVariants.{Width, Exhausted, Factor}
use Rattle.finders.specs.declared.words.WordShape.{WordShape}
use Rattle.finders.specs.Meanings.{Meaning, fit, unfit, Tells}
use Rattle.finders.specs.Points.{within}
use Rattle.finders.specs.Sizes.{in_range}
use Rattle.finders.specs.WordFinders.{WordFit, WordLaws, Asked, Lawful, shape_of, width_of, find_checked, find_answer, test_checked, Contains}
use Rattle.finders.proofs.Fitness.{not_err}
use Rattle.finders.proofs.FoundWords.{find_granted}
use Rattle.finders.proofs.GrantedWords.{found_at, shape_passed, granted_fits, contains_tells, tells_contains}
use Rattle.finders.proofs.Within.{within_wider}
use Rattle.code_layers.specs.Repeat.{repeated, group_sums, repeated_fit, times_in_range, repeated_words}
use Rattle.code_layers.specs.Groups.{firsts}
use Rattle.code_layers.specs.RepeatLaws.{sums_asked, repeated_correlation}
use Rattle.code_layers.proofs.GroupDigits.{firsts_below, firsts_repeated}

-- repeated words that have this shape
record Shaped (a : ℕ) (m : WordFit) (s : WordShape) : Type 0 where
  some : times_in_range a ≡ true
  cells : in_range (a * m.width) ≡ true
  gains : leb 1 (m.gain_limit / a) ≡ true
  wide : s.width ≡ a * m.width
  limited : s.gain_limit ≡ m.gain_limit / a

shaped : (a : ℕ) (m : WordFit) (s : WordShape) → Ok s ≡ shape_of (repeated_words a (fit m)) → Shaped a m s
shaped a m s h =
    let p = shape_passed (times_in_range a) Factor _ s h in
    let q = shape_passed (in_range (a * m.width)) Width _ s p.1 in
    let r = shape_passed (leb 1 (m.gain_limit / a)) Exhausted (fit (repeated_fit a m)) s q.1 in
    let e = r.1 in
    record { some = p.0; cells = q.0; gains = r.0; wide = cc; limited = cc }

means : (a : ℕ) (m : WordFit) (s : WordShape) → Shaped a m s → repeated_words a (fit m) ≡ fit (repeated_fit a m)
means a m s p = rw (p.some, p.cells, p.gains) refl

at_least_one : (a : ℕ) → times_in_range a ≡ true → 1 ≤ a
at_least_one a h = omega (arith, leb-true 2 a (and_parts (leb 2 a) (leb a 32) h).0)

-- ---- a find that is granted

asked : (a : ℕ) (m : WordFit) (s : WordShape) (gs : List ℤ) → Shaped a m s → Ok tt ≡ find_checked s.width s.gain_limit gs → Asked (repeated_fit a m) gs
asked a m s gs p h = find_granted (repeated_fit a m) gs (rw (p.wide, p.limited) at (sym h))

-- a granted find of repeated words, of n digits below
pub record FindGranted (a n : ℕ) (gs : List ℤ) (M : Meaning WordFit) (s : WordShape) : Type 0 where
  pub lawful : Lawful M
  pub has_shape : Ok s ≡ shape_of (repeated_words a M)
  pub granted : Ok tt ≡ find_checked s.width s.gain_limit gs
  pub wide : n ≡ width_of M

-- what is answered below, with the word repeated
abbrev pub with_repeated : (a n : ℕ) → Result (ℕ × ℤ) Refusal → Result (ℕ × ℤ) Refusal
with_repeated a n (Ok r) = Ok (repeated a n r.0, r.1)
with_repeated a n (Err e) = Err e

module _ {a n : ℕ} {gs : List ℤ} {s : WordShape} where
  -- the gains of each group add up to a sum that fits
  pub sums_fit : {M : Meaning WordFit} → FindGranted a n gs M s → within (2 ^ 30 / a) gs ≡ true
  sums_fit {M = unfit e} f = absurd (not_err f.has_shape)
  sums_fit {M = fit m} f =
      let p = shaped a m s f.has_shape in
      let less : m.gain_limit / a ≤ 2 ^ 30 / a = le-div (m.gain_limit / a) (2 ^ 30) a (at_least_one a p.some) (omega (arith, f.lawful.small_gains, div-mul-le_self m.gain_limit a)) in
      within_wider (m.gain_limit / a) (2 ^ 30 / a) gs less (asked a m s gs p f.granted).gains_within

  pub answers_below : {M : Meaning WordFit} → FindGranted a n gs M s → (sums : List ℤ) (r : Result (ℕ × ℤ) Refusal) → sums ≡ group_sums a n gs → r ≡ find_answer M sums → with_repeated a n r ≡ find_answer (repeated_words a M) gs
  answers_below {M = unfit e} f sums r i d = absurd (not_err f.has_shape)
  answers_below {M = fit m} f sums r i d =
      let p = shaped a m s f.has_shape in
      let q = asked a m s gs p f.granted in
      let added = group_sums a m.width gs in
      rw (d, i, f.wide, means a m s p, found_at m added (sums_asked a m f.lawful gs q), found_at (repeated_fit a m) gs q, repeated_correlation a m.width (m.pick added) gs q.as_wide)

-- ---- a test that is granted

module _ (a w : ℕ) (m : WordFit) (l : WordLaws m) where
  abbrev first : ℕ
  first = firsts a m.width w

  -- the word below that a member repeats is that of its first digits
  repeats_firsts : 1 ≤ a → (p : (repeated_fit a m).member w) → first ≡ p.0
  repeats_firsts some p = rw p.2 (firsts_repeated a m.width p.0 some (l.members_are_as_wide p.0 p.1))

  tells_members : 1 ≤ a → repeated a m.width first ≡ w → (r : Result Bool Refusal) → Tells (Ok tt) (m.member first) r → Tells (Ok tt) ((repeated_fit a m).member w) r
  tells_members some k (Ok b) d = (λ e. (first, d.0 e, sym k), λ p. d.1 (subst m.member (sym (repeats_firsts some p)) p.1))
  tells_members some k (Err e) d = absurd d

  tells_none : 1 ≤ a → (repeated a m.width first ≡ w → ⊥) → Tells (Ok tt) ((repeated_fit a m).member w) (Ok false)
  tells_none some n = (λ e. absurd (both_ways false refl e), λ p. absurd (n (ap (repeated a m.width) (repeats_firsts some p) ∙ sym p.2)))

-- a granted test of a repeated word, of n digits below: those are v, as the first of each group, and u repeats them
pub record TestGranted (a n w v u : ℕ) (M : Meaning WordFit) (s : WordShape) : Type 0 where
  pub lawful : Lawful M
  pub has_shape : Ok s ≡ shape_of (repeated_words a M)
  pub granted : Ok tt ≡ test_checked s.width w
  pub wide : n ≡ width_of M
  pub first_digits : v ≡ firsts a n w
  pub repeats : u ≡ repeated a n v

module _ {a n w v u : ℕ} {s : WordShape} where
  as_wide : (m : WordFit) → TestGranted a n w v u (fit m) s → w < 2 ^ (a * m.width)
  as_wide m t = rw (shaped a m s t.has_shape).wide at (granted_fits s.width w t.granted)

  pub told_below : {M : Meaning WordFit} → TestGranted a n w v u M s → (r : Result Bool Refusal) → u ≡ w → Contains M v r → Contains (repeated_words a M) w r
  told_below {M = unfit e} t r k d = absurd (not_err t.has_shape)
  told_below {M = fit m} t r k d =
      let p = shaped a m s t.has_shape in
      let below = contains_tells m (firsts a m.width w) r (firsts_below a m.width w) (rw (t.first_digits, t.wide) at d) in
      rw (means a m s p) (tells_contains (repeated_fit a m) w r (as_wide m t) (tells_members a w m t.lawful (at_least_one a p.some) (rw (t.repeats, t.first_digits, t.wide) at k) r below))

  pub told_none : {M : Meaning WordFit} → TestGranted a n w v u M s → (u ≡ w → ⊥) → Contains (repeated_words a M) w (Ok (eqb u w))
  told_none {M = unfit e} t k = absurd (not_err t.has_shape)
  told_none {M = fit m} t k =
      let p = shaped a m s t.has_shape in
      rw (ne_eqb u w k, means a m s p) (tells_contains (repeated_fit a m) w (Ok false) (as_wide m t) (tells_none a w m t.lawful (at_least_one a p.some) (rw (t.repeats, t.first_digits, t.wide) at k)))
