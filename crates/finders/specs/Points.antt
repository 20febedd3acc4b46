-- Readings and points are lists of integers, one for each cell. A cell's residue is its reading minus the step times its
-- coordinate (`residue`); here are the squared distance and the sizes.
use Rattle.std.specs.Prelude.{ℕ, ◌+◌, ◌*◌, ◌^◌, ◌≤◌, Bool, true, ◌&&◌, List, [], ◌∷◌, ℤ, nat_le, unsigned_abs}
use Rattle.integers.specs.Nearest.{residue}

abbrev pub square : ℤ → ℕ
square z = unsigned_abs z * unsigned_abs z

-- the squared residues of a point at the step q, added over the cells
abbrev pub distance : ℕ → List ℤ → List ℤ → ℕ
distance q [] xs = 0
distance q (r ∷ rs) [] = 0
distance q (r ∷ rs) (x ∷ xs) = square (residue q r x) + distance q rs xs

-- each residue is at most 2^20 in size
abbrev pub SmallResidues : ℕ → List ℤ → List ℤ → Type 0
SmallResidues q [] xs = Unit {0}
SmallResidues q (r ∷ rs) [] = Unit {0}
SmallResidues q (r ∷ rs) (x ∷ xs) = (unsigned_abs (residue q r x) ≤ 2 ^ 20) × SmallResidues q rs xs

-- no number is larger in size than the limit
abbrev pub within : ℕ → List ℤ → Bool
within limit [] = true
within limit (z ∷ zs) = nat_le (unsigned_abs z) limit && within limit zs
