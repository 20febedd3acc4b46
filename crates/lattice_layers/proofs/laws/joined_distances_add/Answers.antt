use Rattle.lattice_layers.specs.JoinLaws.{distance_parts}
use Rattle.lattice_layers.proofs.laws.joined_distances_add.Goals as goal

pub returns : goal.returns
returns c = record { adds_those_of_the_parts = distance_parts }
