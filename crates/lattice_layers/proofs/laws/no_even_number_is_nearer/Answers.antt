use Rattle.lattice_layers.specs.EvenOddLaws.{is_even, even_best, even_least}
use Rattle.lattice_layers.proofs.laws.no_even_number_is_nearer.Goals as goal

pub returns : goal.returns
returns c = record { is_even = is_even; no_even_number_is_nearer = even_best; a_tie_goes_towards_zero = even_least }
