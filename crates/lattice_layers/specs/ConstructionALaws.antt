-- The laws of Construction A: of the points with the same parities none is nearer than that of the nearest numbers, and the distance of that
-- one falls as the correlation of the parities with the gains grows.
use Rattle.std.specs.Prelude.{◌≡◌, ℕ, zero, suc, ◌+◌, ◌*◌, ◌/◌, ◌%◌, ◌^◌, ◌<◌, ◌≤◌, true, List, [], ◌∷◌, map, length, ℤ, pos, ◌+ℤ◌, ◌-ℤ◌, ◌*ℤ◌, neg_ℤ, ◌≤ℤ◌, min, slice_index_or, unsigned_abs}
use Rattle.std.proofs.Common.{sym, refl, ap, ◌∙◌, arith, mul-le-mul}
use Rattle.std.proofs.Math.Nat.{pow-succ'}
use Rattle.std.proofs.lemmas.Bool.{le-leb}
use Rattle.std.proofs.lemmas.Int.{ints}
use Rattle.std.proofs.lemmas.List.{length-map}
use Rattle.integers.specs.Nearest.{residue}
use Rattle.integers.specs.Ring.{k, ◌⊕◌, ◌⊖◌, ◌⊗◌, neg}
use Rattle.integers.specs.Sums.{sumℤ}
use Rattle.integers.proofs.Laws.{*ℤ-+ℤ}
use Rattle.integers.proofs.Order.{*ℤ-≤ℤ, pos_nonneg}
use Rattle.integers.proofs.Ring.{ring2}
use Rattle.finders.specs.Meanings.{Meaning, fit, unfit}
use Rattle.finders.specs.Points.{square, distance, SmallResidues, within}
use Rattle.finders.specs.PointFinders.{Lawful, Asked, Same}
use Rattle.finders.specs.WordFinders.{WordFit, WordLaws, Lawful as WordLawful, Same as WordSame, Asked as WordAsked}
use Rattle.finders.specs.Words.{digit, signed, correlation}
use Rattle.finders.proofs.Correlation.{half_above}
use Rattle.finders.proofs.Digits.{first_digit, other_digits}
use Rattle.finders.proofs.Within.{within_wider}
use Rattle.lattice_layers.specs.ConstructionA.{nearest_even, nearest_odd, nearest_of, gain, parities, with_parities, construction_a_fit, construction_a}
use Rattle.lattice_layers.specs.EvenOddLaws.{is_even, even_left, even_best, is_odd, odd_left, odd_best}

-- ---- one cell

-- a digit is 0 or 1
by_digit : (P : ℕ → Type 0) → P 0 → P 1 → (d : ℕ) → d < 2 → P d
by_digit P a b zero h = a
by_digit P a b (suc zero) h = b
by_digit P a b (suc (suc d)) h = absurd (omega arith)

of_parity : (d q : ℕ) (r : ℤ) → d < 2 → unsigned_abs (nearest_of d q r) % 2 ≡ d
of_parity d q r h = by_digit (λ d. unsigned_abs (nearest_of d q r) % 2 ≡ d) (is_even q r) (is_odd q r) d h

-- of its parity no number leaves less
best_of : (q : ℕ) (r y : ℤ) → 1 ≤ q → unsigned_abs (residue q r (nearest_of (unsigned_abs y % 2) q r)) ≤ unsigned_abs (residue q r y)
best_of q r y h = by_digit (λ d. unsigned_abs y % 2 ≡ d → unsigned_abs (residue q r (nearest_of d q r)) ≤ unsigned_abs (residue q r y)) (even_best q r y h) (odd_best q r y h) (unsigned_abs y % 2) (omega arith) refl

left_of : (d q : ℕ) (r : ℤ) → 1 ≤ q → d < 2 → unsigned_abs (residue q r (nearest_of d q r)) ≤ q
left_of d q r h l = by_digit (λ d. unsigned_abs (residue q r (nearest_of d q r)) ≤ q) (even_left q r h) (omega (arith, odd_left q r h)) d l

-- twice the squared residue, and the step times the gain by its sign, add to the same for both digits: for digit 1, which leaves the rest t
-- of the step, as for digit 0
turned_balance : (t a q : ℕ) → t + a ≡ q → pos (2 * (t * t)) +ℤ pos q *ℤ neg_ℤ (pos q -ℤ pos (2 * a)) ≡ pos (2 * (a * a)) +ℤ pos q *ℤ (pos q -ℤ pos (2 * a))
turned_balance t a q e = rw (sym e) (ring2 (pos t) (pos a)
    (λ t a. k (pos 2) ⊗ (t ⊗ t) ⊕ (t ⊕ a) ⊗ neg ((t ⊕ a) ⊖ k (pos 2) ⊗ a))
    (λ t a. k (pos 2) ⊗ (a ⊗ a) ⊕ (t ⊕ a) ⊗ ((t ⊕ a) ⊖ k (pos 2) ⊗ a)) tt)

cell_balance : (d q : ℕ) (r : ℤ) → 1 ≤ q → d < 2 → pos (2 * square (residue q r (nearest_of d q r))) +ℤ pos q *ℤ signed d (gain q r) ≡ pos (2 * square (residue q r (nearest_even q r))) +ℤ pos q *ℤ gain q r
cell_balance d q r h l = by_digit (λ d. pos (2 * square (residue q r (nearest_of d q r))) +ℤ pos q *ℤ signed d (gain q r) ≡ pos (2 * square (residue q r (nearest_even q r))) +ℤ pos q *ℤ gain q r) refl (turned_balance (unsigned_abs (residue q r (nearest_odd q r))) (unsigned_abs (residue q r (nearest_even q r))) q (odd_left q r h)) d l

gain_within : (q : ℕ) (r : ℤ) → 1 ≤ q → unsigned_abs (gain q r) ≤ q
gain_within q r h = omega (arith, ints, even_left q r h)

-- ---- all cells

pub length_with : (w q : ℕ) (rs : List ℤ) → length (with_parities w q rs) ≡ length rs
length_with w q [] = refl
length_with w q (r ∷ rs) = ap suc (length_with (w / 2) q rs)

pub parities_with : (w q : ℕ) (rs : List ℤ) → w < 2 ^ length rs → parities (with_parities w q rs) ≡ w
parities_with w q [] h = omega arith
parities_with w q (r ∷ rs) h = omega (arith, of_parity (w % 2) q r (omega arith), parities_with (w / 2) q rs (omega (arith, pow-succ' 2 (length rs))))

pub parities_below : (xs : List ℤ) → parities xs < 2 ^ length xs
parities_below [] = omega arith
parities_below (x ∷ xs) = omega (arith, parities_below xs, pow-succ' 2 (length xs))

-- the digits of the parities, and the numbers of a word's digits
pub digit_is_parity : (xs : List ℤ) (i : ℕ) → i < length xs → digit (parities xs) i ≡ unsigned_abs (slice_index_or xs i (pos 0)) % 2
digit_is_parity [] i h = absurd (omega arith)
digit_is_parity (x ∷ xs) zero h = omega arith
digit_is_parity (x ∷ xs) (suc i) h = rw (sym (half_above (parities (x ∷ xs)) i), other_digits (unsigned_abs x % 2) (parities xs) (omega arith)) (digit_is_parity xs i (omega arith))

pub number_of_digit : (w q : ℕ) (rs : List ℤ) (i : ℕ) → i < length rs → slice_index_or (with_parities w q rs) i (pos 0) ≡ nearest_of (digit w i) q (slice_index_or rs i (pos 0))
number_of_digit w q [] i h = absurd (omega arith)
number_of_digit w q (r ∷ rs) zero h = let one : w / 1 ≡ w = omega arith in rw one refl
number_of_digit w q (r ∷ rs) (suc i) h = rw (sym (half_above w i)) (number_of_digit (w / 2) q rs i (omega arith))

of_its_parities : (q : ℕ) (rs y : List ℤ) → 1 ≤ q → length y ≡ length rs → distance q rs (with_parities (parities y) q rs) ≤ distance q rs y
of_its_parities q [] y h l = omega arith
of_its_parities q (r ∷ rs) [] h l = absurd (omega arith)
of_its_parities q (r ∷ rs) (y ∷ ys) h l =
    let p = unsigned_abs y % 2 in
    let b = best_of q r y h in
    rw (first_digit p (parities ys) (omega arith), other_digits p (parities ys) (omega arith)) (omega (arith, mul-le-mul b b, of_its_parities q rs ys h (omega arith)))

pub none_is_nearer : (w q : ℕ) (rs y : List ℤ) → 1 ≤ q → length y ≡ length rs → parities y ≡ w → distance q rs (with_parities w q rs) ≤ distance q rs y
none_is_nearer w q rs y h l e = rw (sym e) (of_its_parities q rs y h l)

-- twice the distance and the step times the correlation add to what does not depend on the parities
pub balance : (w q : ℕ) (rs : List ℤ) → 1 ≤ q →
    pos (2 * distance q rs (with_parities w q rs)) +ℤ pos q *ℤ correlation w (map (gain q) rs) ≡ pos (2 * distance q rs (map (nearest_even q) rs)) +ℤ pos q *ℤ sumℤ (map (gain q) rs)
balance w q [] h = refl
balance w q (r ∷ rs) h =
    let gs = map (gain q) rs in
    rw (*ℤ-+ℤ (pos q) (signed (w % 2) (gain q r)) (correlation (w / 2) gs), *ℤ-+ℤ (pos q) (gain q r) (sumℤ gs))
    (omega (arith, ints, cell_balance (w % 2) q r h (omega arith), balance (w / 2) q rs h))

-- so that of two words the one that correlates more gives the nearer point
pub more_is_nearer : (v w q : ℕ) (rs : List ℤ) → 1 ≤ q → correlation v (map (gain q) rs) ≤ℤ correlation w (map (gain q) rs) → distance q rs (with_parities w q rs) ≤ distance q rs (with_parities v q rs)
more_is_nearer v w q rs h better = omega (arith, ints, *ℤ-≤ℤ {c = pos q} (pos_nonneg q) better, balance v q rs h, balance w q rs h)

pub small_with : (w q : ℕ) (rs : List ℤ) → 1 ≤ q → q ≤ 2 ^ 20 → SmallResidues q rs (with_parities w q rs)
small_with w q [] h l = tt
small_with w q (r ∷ rs) h l = (omega (arith, left_of (w % 2) q r h (omega arith)), small_with (w / 2) q rs h l)

pub gains_within : (q : ℕ) (rs : List ℤ) → 1 ≤ q → within q (map (gain q) rs) ≡ true
gains_within q [] h = refl
gains_within q (r ∷ rs) h = rw (le-leb (unsigned_abs (gain q r)) q (gain_within q r h), gains_within q rs h)

-- ---- the laws

module _ (m : WordFit) (l : WordLaws m) (rs : List ℤ) (q : ℕ) (a : Asked (construction_a_fit m) rs q) where
  -- the gains are asked below as they should be
  pub asked_below : WordAsked m (map (gain q) rs)
  asked_below = record {
    as_wide = length-map rs (gain q) ∙ a.as_wide;
    gains_within = within_wider q m.gain_limit (map (gain q) rs) (omega (arith, a.step_within)) (gains_within q rs a.step_from_one);
  }

  abbrev best : ℕ
  best = m.pick (map (gain q) rs)

  best_is_below : m.member best
  best_is_below = l.pick_is_a_member (map (gain q) rs) asked_below

  picks_a_member : (construction_a_fit m).member (with_parities best q rs)
  picks_a_member = (length_with best q rs ∙ a.as_wide, rw (parities_with best q rs (rw a.as_wide (l.members_are_as_wide best best_is_below))) best_is_below)

  picks_the_nearest : (x : List ℤ) → (construction_a_fit m).member x → distance q rs (with_parities best q rs) ≤ distance q rs x
  picks_the_nearest x h =
      let better = l.no_member_is_better (map (gain q) rs) asked_below (parities x) h.1 in
      omega (arith, more_is_nearer (parities x) best q rs a.step_from_one better, of_its_parities q rs x a.step_from_one (h.0 ∙ sym a.as_wide))

pub construction_a_lawful : (M : Meaning WordFit) → WordLawful M → Lawful (construction_a M)
construction_a_lawful (unfit e) l = tt
construction_a_lawful (fit m) l = record {
  some_cell = l.some_cell;
  few_cells = l.few_cells;
  some_reading = omega arith;
  small_readings = omega arith;
  some_step = omega (arith, l.some_gain);
  small_steps = omega arith;
  members_are_as_wide = λ x h. h.0;
  pick_is_a_member = picks_a_member m l;
  no_member_is_nearer = picks_the_nearest m l;
  residues_are_small = λ rs q a. small_with (best m l rs q a) q rs a.step_from_one (omega (arith, a.step_within));
}

-- over finders that mean the same
pub construction_a_alike : (M N : Meaning WordFit) → WordSame M N → Same (construction_a M) (construction_a N)
construction_a_alike (unfit e) (unfit f) s = s
construction_a_alike (unfit e) (fit n) s = absurd s
construction_a_alike (fit m) (unfit f) s = absurd s
construction_a_alike (fit m) (fit n) s = record {
  same_width = s.same_width;
  same_reading_limit = refl;
  same_step_limit = ap (min (2 ^ 20)) s.same_gain_limit;
  same_members = λ x. (λ h. (h.0 ∙ s.same_width, (s.same_members (parities x)).0 h.1), λ h. (h.0 ∙ sym s.same_width, (s.same_members (parities x)).1 h.1));
  same_picks = λ rs q. ap (λ w. with_parities w q rs) (s.same_picks (map (gain q) rs));
}
