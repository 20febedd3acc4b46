-- The count times the total of a point, and the squares of the sums, are the count times the energy, and the squared
-- distance of the point from the sums at the count times the step. So of the points of a set those that are nearest to
-- the sums have the least total.
use Rattle.std.proofs.Common.{◌≡◌, ℕ, zero, suc, ◌+◌, ◌*◌, List, [], ◌∷◌, length, ℤ, pos, ◌+ℤ◌, ◌*ℤ◌, sym, refl, ap, ◌∙◌}
use Rattle.std.proofs.Common.{arith}
use Rattle.std.proofs.lemmas.Int.{ints}
use Rattle.integers.specs.Nearest.{residue}
use Rattle.integers.specs.Ring.{k, ◌⊕◌, ◌⊖◌, ◌⊗◌}
use Rattle.integers.specs.Sums.{sumℤ, zip_with, plus, zeros}
use Rattle.integers.proofs.Ring.{ring2, ring3, ring4}
use Rattle.integers.proofs.Order.{square_is}
use Rattle.integers.proofs.Sums.{length_plus, length_zeros, sumℤ-zip-≡, sumℤ-zip-*}
use Rattle.finders.specs.Points.{square, distance}
use Rattle.blocks.specs.Senses.{total, sums, squares, energy}
use Rattle.blocks.specs.Tally.{AreSenses}

pub length_sums : (n : ℕ) (ss : List (List ℤ)) → AreSenses n ss → length (sums n ss) ≡ n
length_sums n [] h = length_zeros n
length_sums n (rs ∷ ss) h =
    let before = length_sums n ss h.1 in
    length_plus (sums n ss) rs (before ∙ sym h.0.as_wide) ∙ before

-- ---- the squared distance, taken apart

-- the step times reading times coordinate
abbrev cross_cell : ℕ → ℤ → ℤ → ℤ
cross_cell q r x = pos q *ℤ (r *ℤ x)

abbrev cross : ℕ → List ℤ → List ℤ → ℤ
cross q rs xs = sumℤ (zip_with (cross_cell q) rs xs)

cell_apart : (q : ℕ) (r x : ℤ) →
    pos (square (residue q r x)) +ℤ pos 2 *ℤ cross_cell q r x ≡ pos (square r) +ℤ pos (q * q * square x)
cell_apart q r x =
    let e = ring3 r (pos q) x
    (λ r q x. (r ⊖ q ⊗ x) ⊗ (r ⊖ q ⊗ x) ⊕ k (pos 2) ⊗ (q ⊗ (r ⊗ x)))
    (λ r q x. r ⊗ r ⊕ q ⊗ q ⊗ (x ⊗ x)) tt in
    rw (square_is (residue q r x), square_is r, square_is x) at e

distance_apart : (q : ℕ) (rs xs : List ℤ) → length rs ≡ length xs →
    pos (distance q rs xs) +ℤ pos 2 *ℤ cross q rs xs ≡ pos (squares rs) +ℤ pos (q * q * squares xs)
distance_apart q [] [] e = omega (arith, ints)
distance_apart q [] (x ∷ xs) e = absurd (omega arith)
distance_apart q (r ∷ rs) [] e = absurd (omega arith)
distance_apart q (r ∷ rs) (x ∷ xs) e = omega (arith, ints, cell_apart q r x, distance_apart q rs xs (omega arith))

-- ---- it adds up over the senses

cross_cell_adds : (q : ℕ) (r s x : ℤ) → cross_cell q (r +ℤ s) x ≡ cross_cell q r x +ℤ cross_cell q s x
cross_cell_adds q r s x =
    ring4 (pos q) r s x (λ q r s x. q ⊗ ((r ⊕ s) ⊗ x)) (λ q r s x. q ⊗ (r ⊗ x) ⊕ q ⊗ (s ⊗ x)) tt

cross_adds : (q : ℕ) (rs ss xs : List ℤ) → length rs ≡ length ss →
    cross q (plus rs ss) xs ≡ cross q rs xs +ℤ cross q ss xs
cross_adds q [] [] xs e = refl
cross_adds q [] (s ∷ ss) xs e = absurd (omega arith)
cross_adds q (r ∷ rs) [] xs e = absurd (omega arith)
cross_adds q (r ∷ rs) (s ∷ ss) [] e = refl
cross_adds q (r ∷ rs) (s ∷ ss) (x ∷ xs) e =
    omega (arith, ints, cross_cell_adds q r s x, cross_adds q rs ss xs (omega arith))

cross_cell_of_zero : (q : ℕ) (x : ℤ) → cross_cell q (pos 0) x ≡ pos 0
cross_cell_of_zero q x = ring2 (pos q) x (λ q x. q ⊗ (k (pos 0) ⊗ x)) (λ q x. k (pos 0)) tt

cross_of_zeros : (n q : ℕ) (xs : List ℤ) → cross q (zeros n) xs ≡ pos 0
cross_of_zeros zero q xs = refl
cross_of_zeros (suc n) q [] = refl
cross_of_zeros (suc n) q (x ∷ xs) = omega (arith, ints, cross_cell_of_zero q x, cross_of_zeros n q xs)

-- the total, taken apart
total_apart : (n q : ℕ) (ss : List (List ℤ)) (x : List ℤ) → AreSenses n ss → length x ≡ n →
    pos (total q ss x) +ℤ pos 2 *ℤ cross q (sums n ss) x ≡ pos (energy ss) +ℤ pos (length ss * (q * q * squares x))
total_apart n q [] x h e = omega (arith, ints, cross_of_zeros n q x)
total_apart n q (rs ∷ ss) x h e =
    let here = distance_apart q rs x (h.0.as_wide ∙ sym e) in
    let added = cross_adds q (sums n ss) rs x (length_sums n ss h.1 ∙ sym h.0.as_wide) in
    omega (arith, ints, here, total_apart n q ss x h.1 e, added)

-- ---- the balance

cross_at_the_count : (m q : ℕ) (rs xs : List ℤ) → cross (m * q) rs xs ≡ pos m *ℤ cross q rs xs
cross_at_the_count m q rs xs =
    let cell = λ (r x : ℤ). ring4 (pos m) (pos q) r x (λ m q r x. (m ⊗ q) ⊗ (r ⊗ x)) (λ m q r x. m ⊗ (q ⊗ (r ⊗ x))) tt in
    sumℤ-zip-≡ (cross_cell (m * q)) (λ r x. pos m *ℤ cross_cell q r x) rs xs cell ∙ sumℤ-zip-* (pos m) (cross_cell q) rs xs

pub balance : (n q : ℕ) (ss : List (List ℤ)) (x : List ℤ) → AreSenses n ss → length x ≡ n →
    length ss * total q ss x + squares (sums n ss) ≡ length ss * energy ss + distance (length ss * q) (sums n ss) x
balance n q ss x h e =
    let m = length ss in
    let c = cross q (sums n ss) x in
    let all = ap (λ (z : ℤ). pos m *ℤ z) (total_apart n q ss x h e) in
    let left = ring3 (pos m) (pos (total q ss x)) c
    (λ m t c. m ⊗ (t ⊕ k (pos 2) ⊗ c))
    (λ m t c. m ⊗ t ⊕ k (pos 2) ⊗ (m ⊗ c)) tt in
    let at_sums = distance_apart (m * q) (sums n ss) x (length_sums n ss h ∙ sym e) in
    omega (arith, ints, all, left, at_sums, cross_at_the_count m q (sums n ss) x)
