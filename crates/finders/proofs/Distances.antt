-- The squared distance: its size, a cell more, and a cell changed.
use Rattle.std.proofs.Common.{◌≡◌, ℕ, zero, suc, ◌+◌, ◌*◌, ◌^◌, ◌<◌, ◌≤◌, List, [], ◌∷◌, ◌++◌, length, get_or, set, ℤ, pos, mul-le-mul, arith}
use Rattle.integers.specs.Nearest.{residue}
use Rattle.finders.specs.Points.{square, distance, SmallResidues}

-- a squared distance of residues that are small
pub distance_small : (q : ℕ) (rs xs : List ℤ) → SmallResidues q rs xs → distance q rs xs ≤ length rs * 2 ^ 40
distance_small q [] xs h = omega arith
distance_small q (r ∷ rs) [] h = omega arith
distance_small q (r ∷ rs) (x ∷ xs) h = let b = h.0 in omega (arith, mul-le-mul b b, distance_small q rs xs h.1)

pub distance_push : (q : ℕ) (rs xs : List ℤ) (r x : ℤ) → length xs ≡ length rs → distance q (rs ++ r ∷ []) (xs ++ x ∷ []) ≡ distance q rs xs + square (residue q r x)
distance_push q [] [] r x e = omega arith
distance_push q [] (y ∷ xs) r x e = absurd (omega arith)
distance_push q (s ∷ rs) [] r x e = absurd (omega arith)
distance_push q (s ∷ rs) (y ∷ xs) r x e = omega (arith, distance_push q rs xs r x (omega arith))

-- one coordinate is changed
pub distance_set : (q : ℕ) (rs xs : List ℤ) (i : ℕ) (y : ℤ) → length xs ≡ length rs → i < length rs →
    distance q rs (set xs i y) + square (residue q (get_or rs i (pos 0)) (get_or xs i (pos 0))) ≡ distance q rs xs + square (residue q (get_or rs i (pos 0)) y)
distance_set q [] xs i y e h = absurd (omega arith)
distance_set q (r ∷ rs) [] i y e h = absurd (omega arith)
distance_set q (r ∷ rs) (x ∷ xs) zero y e h = omega arith
distance_set q (r ∷ rs) (x ∷ xs) (suc i) y e h = omega (arith, distance_set q rs xs i y (omega arith) (omega arith))

-- a squared residue is part of the distance
pub distance_at : (q : ℕ) (rs xs : List ℤ) (i : ℕ) → length xs ≡ length rs → i < length rs → square (residue q (get_or rs i (pos 0)) (get_or xs i (pos 0))) ≤ distance q rs xs
distance_at q [] xs i e h = absurd (omega arith)
distance_at q (r ∷ rs) [] i e h = absurd (omega arith)
distance_at q (r ∷ rs) (x ∷ xs) zero e h = omega arith
distance_at q (r ∷ rs) (x ∷ xs) (suc i) e h = omega (arith, distance_at q rs xs i (omega arith) (omega arith))
