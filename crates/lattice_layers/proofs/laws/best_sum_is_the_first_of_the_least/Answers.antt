use Rattle.lattice_layers.specs.GlueLaws.{best_is_first}
use Rattle.lattice_layers.proofs.laws.best_sum_is_the_first_of_the_least.Goals as goal

pub returns : goal.returns
returns c = record { first_of_the_least = best_is_first }
