use Rattle.lattices.specs.Repair.{worst_is}
use Rattle.lattices.proofs.laws.worst_cell_is_the_first_of_the_largest.Goals as goal

pub returns : goal.returns
returns c = record { first_of_the_largest = worst_is }
