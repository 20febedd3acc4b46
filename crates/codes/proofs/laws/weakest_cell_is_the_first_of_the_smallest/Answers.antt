use Rattle.codes.specs.EvenWeightLaws.{weakest_is}
use Rattle.codes.proofs.laws.weakest_cell_is_the_first_of_the_smallest.Goals as goal

pub returns : goal.returns
returns c = record { first_of_the_smallest = weakest_is }
