-- Construction A over the words of even weight has the points of even sum.
use Rattle.std.specs.Prelude.{◌≡◌, ℕ, ◌%◌, ◌^◌, ◌<◌, Bool, true, false, List, [], ◌∷◌, length, ℤ, count_ones, unsigned_abs, refl}
use Rattle.std.proofs.Common.{arith, sym, ◌∙◌}
use Rattle.std.proofs.lemmas.Int.{ints}
use lib.Count.{ones}
use Rattle.finders.specs.declared.refusals.Refusal.TheVariants.{Width}
use Rattle.finders.specs.Meanings.{fit, unfit_unless}
use Rattle.finders.specs.PointFinders.{Member, OneSet}
use Rattle.finders.specs.Sizes.{in_range}
use Rattle.codes.specs.Codes.{code_fit}
use Rattle.codes.specs.DigitLaws.{ones_cons}
use Rattle.codes.specs.EvenWeight.{even_pick, even_weight}
use Rattle.lattices.specs.LatticeD.{parity, d_pick, lattice_d}
use Rattle.lattices.specs.Widest.{widest_fit}
use Rattle.lattice_layers.specs.ConstructionA.{parities, construction_a}
use Rattle.lattice_layers.specs.ConstructionALaws.{parities_below}

zero_ones : count_ones 0 % 2 ≡ 0
unfolding ones
zero_ones = refl

-- the ones of the parities are as the sum: both even, or both odd
pub ones_as_sum : (xs : List ℤ) → count_ones (parities xs) % 2 ≡ parity xs
ones_as_sum [] = zero_ones
ones_as_sum (x ∷ xs) = omega (arith, ints, ones_as_sum xs, ones_cons (unsigned_abs x % 2) (parities xs) (omega arith))

-- the two sets, whether n cells are in range or not
pub even_points : (n : ℕ) → OneSet (construction_a (even_weight n)) (lattice_d n)
even_points n x = go (in_range n)
  where
    Words : Bool → Type 0
    Words b = Member (construction_a (unfit_unless b Width (fit (code_fit n (λ w. (w < 2 ^ n) × (count_ones w % 2 ≡ 0)) even_pick)))) x

    Points : Bool → Type 0
    Points b = Member (unfit_unless b Width (fit (widest_fit n (λ y. (length y ≡ n) × (parity y ≡ 0)) d_pick))) x

    go : (b : Bool) → (Words b → Points b) × (Points b → Words b)
    go true = (λ m. (m.0, sym (ones_as_sum x) ∙ m.1.1), λ m. (m.0, (rw m.0 at (parities_below x), ones_as_sum x ∙ m.1)))
    go false = (λ m. m, λ m. m)
