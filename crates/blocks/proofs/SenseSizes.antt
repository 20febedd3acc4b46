-- How large the sums and the energy of senses are.
use Rattle.std.proofs.Common.{◌≡◌, ℕ, ◌+◌, ◌*◌, ◌^◌, ◌≤◌, true, leb, List, [], ◌∷◌, length, ℤ, nat_abs, mul-le-mul, arith}
use Rattle.std.proofs.lemmas.Bool.{leb-true, and_parts}
use Rattle.finders.specs.Points.{within}
use Rattle.finders.proofs.Within.{within_wider, within_zeros, within_plus}
use Rattle.blocks.specs.Senses.{sums, squares, energy}
use Rattle.blocks.specs.Tally.{AreSenses}

pub within_sums : (n : ℕ) (ss : List (List ℤ)) → AreSenses n ss → within (length ss * 2 ^ 15) (sums n ss) ≡ true
within_sums n [] h = within_zeros (0 * 2 ^ 15) n
within_sums n (rs ∷ ss) h =
    let limit = length ss * 2 ^ 15 in
    let more = within_plus limit (2 ^ 15) (sums n ss) rs (within_sums n ss h.1) h.0.small in
    within_wider (limit + 2 ^ 15) (length (rs ∷ ss) * 2 ^ 15) (sums n (rs ∷ ss)) (omega arith) more

pub squares_within : (limit : ℕ) (zs : List ℤ) → within limit zs ≡ true → squares zs ≤ length zs * (limit * limit)
squares_within limit [] h = omega arith
squares_within limit (z ∷ zs) h =
    let p = and_parts (leb (nat_abs z) limit) (within limit zs) h in
    let here = leb-true (nat_abs z) limit p.0 in
    omega (arith, mul-le-mul here here, squares_within limit zs p.1)

pub energy_small : (n : ℕ) (ss : List (List ℤ)) → AreSenses n ss → energy ss ≤ length ss * (n * 2 ^ 30)
energy_small n [] h = omega arith
energy_small n (rs ∷ ss) h = omega (arith, h.0.as_wide, squares_within (2 ^ 15) rs h.0.small, energy_small n ss h.1)
