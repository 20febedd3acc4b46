-- The laws of sums of rows: how long they are, how large, and which rows are in them.
use Rattle.std.specs.Prelude.{◌≡◌, ℕ, zero, suc, ◌+◌, ◌*◌, ◌/◌, ◌%◌, ◌^◌, ◌<◌, ◌≤◌, true, false, cond, List, [], ◌∷◌, length, ℤ, ◌==◌, nat_le, unsigned_abs, slice_index_or, refl}
use Rattle.std.proofs.Math.Nat.{pow-succ'}
use Rattle.std.proofs.Common.{sym, ap, ◌∙◌, arith}
use Rattle.std.proofs.lemmas.Bool.{and_parts, leb-true, le-leb, eqb-true}
use Rattle.integers.proofs.Sums.{plus_comm, plus_assoc, zeros_plus, length_plus, length_zeros}
use Rattle.finders.specs.Points.{within}
use Rattle.finders.specs.Words.{digit}
use Rattle.finders.proofs.Correlation.{half_above}
use Rattle.finders.proofs.Within.{within_wider, within_zeros, within_plus}
use Rattle.integers.specs.Sums.{plus, zeros}
use Rattle.lattice_layers.specs.Rows.{row_sum, all_as_wide, all_within, largest, reach}

-- ---- how long a sum is

-- a row that is in a sum or not
length_taken : (n j : ℕ) (r : List ℤ) → length r ≡ n → length (cond (j % 2 == 0) (zeros n) r) ≡ n
length_taken n j r e = elim (j % 2 == 0) as (λ b. length (cond b (zeros n) r) ≡ n) [ true ↦ length_zeros n | false ↦ e ]

pub length_sum : (n : ℕ) (rows : List (List ℤ)) (j : ℕ) → all_as_wide n rows ≡ true → length (row_sum n rows j) ≡ n
length_sum n [] j h = length_zeros n
length_sum n (r ∷ rows) j h =
    let p = and_parts (length r == n) (all_as_wide n rows) h in
    let here = length_taken n j r (eqb-true (length r) n p.0) in
    length_plus (cond (j % 2 == 0) (zeros n) r) (row_sum n rows (j / 2)) (here ∙ sym (length_sum n rows (j / 2) p.1)) ∙ here

-- ---- how large its numbers are

pub within_largest : (zs : List ℤ) → within (largest zs) zs ≡ true
within_largest [] = refl
within_largest (z ∷ zs) =
    rw (le-leb (unsigned_abs z) (largest (z ∷ zs)) (omega arith), within_wider (largest zs) (largest (z ∷ zs)) zs (omega arith) (within_largest zs)) refl

-- no sum moves a coordinate by more than the reach of the rows
pub within_reach : (n : ℕ) (rows : List (List ℤ)) (j : ℕ) → within (reach rows) (row_sum n rows j) ≡ true
within_reach n [] j = within_zeros 0 n
within_reach n (r ∷ rows) j =
    let here : within (largest r) (cond (j % 2 == 0) (zeros n) r) ≡ true = elim (j % 2 == 0) as (λ b. within (largest r) (cond b (zeros n) r) ≡ true) [ true ↦ within_zeros (largest r) n | false ↦ within_largest r ] in
    within_plus (largest r) (reach rows) (cond (j % 2 == 0) (zeros n) r) (row_sum n rows (j / 2)) here (within_reach n rows (j / 2))

pub largest_within : (limit : ℕ) (zs : List ℤ) → within limit zs ≡ true → largest zs ≤ limit
largest_within limit [] h = omega arith
largest_within limit (z ∷ zs) h = let p = and_parts (nat_le (unsigned_abs z) limit) (within limit zs) h in omega (arith, leb-true (unsigned_abs z) limit p.0, largest_within limit zs p.1)

pub small_reach : (limit : ℕ) (rows : List (List ℤ)) → all_within limit rows ≡ true → reach rows ≤ length rows * limit
small_reach limit [] h = omega arith
small_reach limit (r ∷ rows) h = let p = and_parts (within limit r) (all_within limit rows) h in omega (arith, largest_within limit r p.0, small_reach limit rows p.1)

-- ---- which rows are in it

pub sum_zero : (n : ℕ) (rows : List (List ℤ)) → row_sum n rows 0 ≡ zeros n
sum_zero n [] = refl
sum_zero n (r ∷ rows) = rw (sum_zero n rows) (zeros_plus n (zeros n) (length_zeros n))

pub sum_one_bit : (n : ℕ) (rows : List (List ℤ)) (b : ℕ) → all_as_wide n rows ≡ true → b < length rows → row_sum n rows (2 ^ b) ≡ slice_index_or rows b []
sum_one_bit n [] b h i = absurd (omega arith)
sum_one_bit n (r ∷ rows) zero h i =
    let p = and_parts (length r == n) (all_as_wide n rows) h in
    rw (sum_zero n rows) (plus_comm r (zeros n) ∙ zeros_plus n r (eqb-true (length r) n p.0))
sum_one_bit n (r ∷ rows) (suc b) h i =
    let p = and_parts (length r == n) (all_as_wide n rows) h in
    let half : 2 ^ suc b / 2 ≡ 2 ^ b = omega (arith, pow-succ' 2 b) in
    let even : 2 ^ suc b % 2 ≡ 0 = omega (arith, pow-succ' 2 b) in
    rw (half, even) (zeros_plus n (row_sum n rows (2 ^ b)) (length_sum n rows (2 ^ b) p.1) ∙ sum_one_bit n rows b p.1 (omega arith))

-- a row more is added to a sum that has it not
pub sum_bit : (n : ℕ) (rows : List (List ℤ)) (j b : ℕ) → all_as_wide n rows ≡ true → b < length rows → digit j b ≡ 0 → row_sum n rows (j + 2 ^ b) ≡ plus (row_sum n rows j) (slice_index_or rows b [])
sum_bit n [] j b h i d = absurd (omega arith)
sum_bit n (r ∷ rows) j zero h i d =
    let p = and_parts (length r == n) (all_as_wide n rows) h in
    let even : j % 2 ≡ 0 = omega arith in
    let odd : (j + 1) % 2 ≡ 1 = omega arith in
    let half : (j + 1) / 2 ≡ j / 2 = omega arith in
    let rest = row_sum n rows (j / 2) in
    rw (odd, half, even) (plus_comm r rest ∙ ap (λ (xs : List ℤ). plus xs r) (sym (zeros_plus n rest (length_sum n rows (j / 2) p.1))))
sum_bit n (r ∷ rows) j (suc b) h i d =
    let p = and_parts (length r == n) (all_as_wide n rows) h in
    let half : (j + 2 ^ suc b) / 2 ≡ j / 2 + 2 ^ b = omega (arith, pow-succ' 2 b) in
    let same : (j + 2 ^ suc b) % 2 ≡ j % 2 = omega (arith, pow-succ' 2 b) in
    let here = cond (j % 2 == 0) (zeros n) r in
    rw (half, same) (ap (plus here) (sum_bit n rows (j / 2) b p.1 (omega arith) (rw (half_above j b) d)) ∙ sym (plus_assoc here (row_sum n rows (j / 2)) (slice_index_or rows b [])))
