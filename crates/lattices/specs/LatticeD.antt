-- The lattice D: the points with an even sum.
use Rattle.std.specs.Prelude.{◌≡◌, ℕ, ◌%◌, cond, List, map, length, ℤ, pos, ◌==◌, slice_index_or, slice_set, unsigned_abs}
use Rattle.integers.specs.Nearest.{nearest, residue}
use Rattle.integers.specs.Sums.{sumℤ}
use Rattle.finders.specs.Choice.{first_best, no_smaller}
use Rattle.finders.specs.Meanings.{Meaning}
use Rattle.finders.specs.PointFinders.{PointFit}
use Rattle.finders.specs.Rounding.{turned}
use Rattle.lattices.specs.LatticeZ.{rounded}
use Rattle.lattices.specs.Widest.{widest}

-- 0 for an even sum, 1 for an odd one
abbrev pub parity : List ℤ → ℕ
parity xs = unsigned_abs (sumℤ xs) % 2

-- the size of the residue that rounding leaves of a reading
abbrev pub left_over : ℕ → ℤ → ℕ
left_over q r = unsigned_abs (residue q r (nearest q r))

-- the cell whose residue is largest in size, the first of equals
abbrev pub worst_cell : ℕ → List ℤ → ℕ
worst_cell q rs = first_best no_smaller (map (left_over q) rs)

-- the rounded point, where the cell at an index goes the other way
abbrev pub turned_at : ℕ → List ℤ → ℕ → List ℤ
turned_at q rs i = slice_set (rounded q rs) i (turned q (slice_index_or rs i (pos 0)))

-- the rounded point, where the worst cell goes the other way
abbrev pub repaired : ℕ → List ℤ → List ℤ
repaired q rs = turned_at q rs (worst_cell q rs)

abbrev pub d_pick : List ℤ → ℕ → List ℤ
d_pick rs q = cond (parity (rounded q rs) == 0) (rounded q rs) (repaired q rs)

abbrev pub lattice_d : ℕ → Meaning PointFit
lattice_d n = widest n (λ x. (length x ≡ n) × (parity x ≡ 0)) d_pick
