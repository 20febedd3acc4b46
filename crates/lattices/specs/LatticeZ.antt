-- The lattice Z: every point of whole numbers.
use Rattle.std.specs.Prelude.{◌≡◌, ℕ, List, map, length, ℤ}
use Rattle.integers.specs.Nearest.{nearest}
use Rattle.finders.specs.Meanings.{Meaning}
use Rattle.finders.specs.PointFinders.{PointFit}
use Rattle.lattices.specs.Widest.{widest}

-- each reading, rounded
abbrev pub rounded : ℕ → List ℤ → List ℤ
rounded q rs = map (nearest q) rs

abbrev pub lattice_z : ℕ → Meaning PointFit
lattice_z n = widest n (λ x. length x ≡ n) (λ rs q. rounded q rs)
