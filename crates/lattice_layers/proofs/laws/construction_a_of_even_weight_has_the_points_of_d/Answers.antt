use Rattle.lattice_layers.specs.EvenLaws.{even_points}
use Rattle.lattice_layers.proofs.laws.construction_a_of_even_weight_has_the_points_of_d.Goals as goal

pub returns : goal.returns
returns c = record { points_of_d = even_points }
