-- The transform of a table by that of its halves.
use Rattle.std.proofs.Common.{◌≡◌, ℕ, suc, ◌+◌, ◌^◌, List, ◌++◌, length, ℤ, ◌+ℤ◌, ◌-ℤ◌, sym, ap, ◌∙◌, arith}
use Rattle.std.proofs.lemmas.List.{length-append}
use Rattle.finders.proofs.Within.{within_take, within_drop}
use Rattle.integers.specs.Sums.{zip_with}
use Rattle.codes.specs.ReedMuller.{spectrum}
use Rattle.codes.specs.RowLaws.{double}
use Rattle.codes.specs.SpectrumLaws.{spectrum_one, spectrum_halves, spectrum_small}

-- a table of one cell
pub transform_none : (m : ℕ) (t : List ℤ) → m ≡ 0 → length t ≡ 2 ^ m → t ≡ spectrum m t
transform_none m t e l = rw e (sym (spectrum_one t (l ∙ ap (λ (k : ℕ). 2 ^ k) e)))

-- the upper half of a table
pub other_half : (M m n : ℕ) (t low high : List ℤ) → M ≡ m + 1 → n ≡ 2 ^ m → length t ≡ 2 ^ M → t ≡ low ++ high → length low ≡ n → length high ≡ 2 ^ m
other_half M m n t low high whole half wide parts front =
    let up : M ≡ suc m = omega arith in
    let l : length t ≡ length low + length high = ap length parts ∙ length-append low high in
    omega (arith, rw up at wide, double m, l, half, front)

-- a table of two halves, which are transformed to xs and ys
pub transformed : (M m : ℕ) (t low high xs ys : List ℤ) → M ≡ m + 1 → t ≡ low ++ high → length low ≡ 2 ^ m → length high ≡ 2 ^ m → xs ≡ spectrum m low → ys ≡ spectrum m high → zip_with (λ x y. x +ℤ y) xs ys ++ zip_with (λ x y. x -ℤ y) xs ys ≡ spectrum M t
transformed M m t low high xs ys whole parts low_wide high_wide is_low is_high =
    let up : M ≡ suc m = omega arith in
    rw (is_low, is_high, up, parts) (sym (spectrum_halves m low high low_wide high_wide))

-- what the transform rests on
pub ruleset transforms = (transform_none, other_half, transformed, spectrum_small, within_take, within_drop)
