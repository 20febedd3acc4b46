-- A list that is written over the front of a filling.
use Rattle.std.proofs.Common.{◌≡◌, ℕ, zero, suc, ◌+◌, ◌<◌, List, [], ◌∷◌, ◌++◌, length, take, drop, refl, ap, arith, add-one}
use Rattle.std.proofs.Math.ListN.{replicate}

-- the list, and one of the filling
pub padded : {A : Type 0} (z : A) (n : ℕ) (xs : List A) → length xs < n → take (length xs + 1) (xs ++ drop (length xs) (replicate n z)) ≡ xs ++ z ∷ []
padded z zero xs h = absurd (omega arith)
padded z (suc n) [] h = refl
padded z (suc n) (x ∷ xs) h = rw add-one (ap (λ ys. x ∷ ys) (rw add-one at (padded z n xs (omega arith))))
