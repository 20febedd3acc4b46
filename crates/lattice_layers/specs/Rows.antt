-- Rows of numbers and their sums.
use Rattle.std.specs.Prelude.{ℕ, ◌/◌, ◌%◌, cond, Bool, List, [], ◌∷◌, map, length, ℤ, ◌==◌, max, unsigned_abs}
use Rattle.std.specs.List.{list_all}
use Rattle.integers.specs.Sums.{sumℕ, plus, zeros}
use Rattle.finders.specs.Points.{within}

-- the sum of those rows of n numbers whose bit in j is 1, where the first of them has the lowest bit
abbrev pub row_sum : ℕ → List (List ℤ) → ℕ → List ℤ
row_sum n [] j = zeros n
row_sum n (r ∷ rows) j = plus (cond (j % 2 == 0) (zeros n) r) (row_sum n rows (j / 2))

-- each row has n numbers
abbrev pub all_as_wide : ℕ → List (List ℤ) → Bool
all_as_wide n rows = list_all (λ r. length r == n) rows

-- no number of a row is larger in size than the limit
abbrev pub all_within : ℕ → List (List ℤ) → Bool
all_within limit rows = list_all (within limit) rows

-- the largest size of some numbers
abbrev pub largest : List ℤ → ℕ
largest [] = 0
largest (z ∷ zs) = max (unsigned_abs z) (largest zs)

-- how far a sum of rows can move a coordinate: the largest sizes of the rows, added
abbrev pub reach : List (List ℤ) → ℕ
reach rows = sumℕ (map largest rows)
