use Rattle.lattice_layers.specs.ConstructionALaws.{digit_is_parity, number_of_digit, parities_with}
use Rattle.lattice_layers.proofs.laws.digits_are_parities.Goals as goal

pub returns : goal.returns
returns c = record { digits_of_the_word = digit_is_parity; numbers_of_the_point = number_of_digit; has_the_parities = parities_with }
