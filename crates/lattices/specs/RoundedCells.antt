-- The rounded point: its length, its residues, and that no point is nearer.
use Rattle.std.specs.Prelude.{◌≡◌, ℕ, ◌^◌, ◌≤◌, List, [], ◌∷◌, length, ℤ}
use Rattle.std.proofs.Common.{mul-le-mul, arith}
use Rattle.std.proofs.lemmas.List.{length-map}
use Rattle.integers.specs.Nearest.{nearest}
use Rattle.integers.proofs.Nearest.{nearest_near, nearest_best}
use Rattle.finders.specs.Points.{distance, SmallResidues}
use Rattle.lattices.specs.LatticeZ.{rounded}

pub length_rounded : (q : ℕ) (rs : List ℤ) → length (rounded q rs) ≡ length rs
length_rounded q rs = length-map rs (nearest q)

pub near_rounded : (q : ℕ) (rs : List ℤ) → 1 ≤ q → q ≤ 2 ^ 20 → SmallResidues q rs (rounded q rs)
near_rounded q [] h k = tt
near_rounded q (r ∷ rs) h k = (omega (arith, nearest_near q r h), near_rounded q rs h k)

pub rounded_is_nearest : (q : ℕ) (rs xs : List ℤ) → 1 ≤ q → length xs ≡ length rs → distance q rs (rounded q rs) ≤ distance q rs xs
rounded_is_nearest q [] xs h e = omega arith
rounded_is_nearest q (r ∷ rs) [] h e = omega arith
rounded_is_nearest q (r ∷ rs) (x ∷ xs) h e =
    let b = nearest_best q r x h in
    omega (arith, mul-le-mul b b, rounded_is_nearest q rs xs h (omega arith))
