use Rattle.lattice_layers.specs.ConstructionALaws.{construction_a_alike}
use Rattle.lattice_layers.proofs.laws.constructions_over_the_same_mean_the_same.Goals as goal

pub returns : goal.returns
returns g c = record { construction = construction_a_alike _ _ }
