-- One stage of the fast Hadamard transform: two halves of a table, cell by cell.
use Rattle.std.specs.Prelude.{List, ◌++◌, ℤ, ◌+ℤ◌, ◌-ℤ◌}
use Rattle.integers.specs.Sums.{zip_with}

-- the sums of the halves, and then their differences
abbrev pub crossed : List ℤ → List ℤ → List ℤ
crossed xs ys = zip_with (λ x y. x +ℤ y) xs ys ++ zip_with (λ x y. x -ℤ y) xs ys
