use Rattle.lattice_layers.specs.EvenOddLaws.{is_odd, odd_best, odd_least, odd_left, odd_of_zero}
use Rattle.lattice_layers.proofs.laws.no_odd_number_is_nearer.Goals as goal

pub returns : goal.returns
returns c = record { is_odd = is_odd; no_odd_number_is_nearer = odd_best; a_tie_goes_towards_zero = odd_least; leaves_the_rest_of_the_step = odd_left; of_zero_it_is_one = odd_of_zero }
