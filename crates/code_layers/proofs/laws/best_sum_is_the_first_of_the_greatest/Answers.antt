use Rattle.code_layers.specs.GlueLaws.{best_is_first}
use Rattle.code_layers.proofs.laws.best_sum_is_the_first_of_the_greatest.Goals as goal

pub returns : goal.returns
returns c = record { first_of_the_greatest = best_is_first }
