-- Points as answers have them: the numbers of a place, with zeros behind them.
use Rattle.std.proofs.Common.{◌≡◌, ℕ, zero, suc, ◌-◌, ◌≤◌, min, List, [], ◌∷◌, ◌++◌, length, take, drop, ℤ, pos, ap, arith, rules}
use Rattle.std.proofs.lemmas.List.{take-replicate}
use Rattle.integers.specs.Sums.{zeros}
use Rattle.blocks.specs.Calls.{padded}

-- the first m numbers of a place that has as many, else all of them and zeros behind them
with_zeros : (m k : ℕ) (xs : List ℤ) → m ≤ k →
    take (min (length xs) m) xs ++ drop (min (length xs) m) (zeros m) ≡ take m (xs ++ zeros k)
with_zeros zero k xs h = search rules
with_zeros (suc m) k [] h = search (rules, take-replicate (suc m) k (pos 0) h)
with_zeros (suc m) k (x ∷ xs) h =
    let more : min (suc (length xs)) (suc m) ≡ suc (min (length xs) m) = omega arith in
    rw more (search (rules, with_zeros m k xs))

pub point_padded : (xs front : List ℤ) (n : ℕ) → n ≡ min (length xs) 32 → front ≡ take n xs →
    front ++ drop n (zeros 32) ≡ padded xs
point_padded xs front n e f = rw (f, e) (with_zeros 32 32 xs (omega arith))

-- a point that fits
pub short_padded : (x : List ℤ) → length x ≤ 32 → padded x ≡ x ++ zeros (32 - length x)
short_padded x h = go 32 x h (omega arith)
  where
    go : (m : ℕ) (x : List ℤ) → length x ≤ m → m ≤ 32 → take m (x ++ zeros 32) ≡ x ++ zeros (m - length x)
    go m [] h k = let e : m - 0 ≡ m = omega arith in rw e (take-replicate m 32 (pos 0) k)
    go zero (y ∷ x) h k = absurd (omega arith)
    go (suc m) (y ∷ x) h k =
        let e : suc m - suc (length x) ≡ m - length x = omega arith in
        rw e (ap (λ (ys : List ℤ). y ∷ ys) (go m x (omega arith) (omega arith)))
