use Rattle.lattice_layers.specs.JoinLaws.{joined_alike}
use Rattle.lattice_layers.proofs.laws.joins_of_the_same_mean_the_same.Goals as goal

pub returns : goal.returns
returns g c = record { joined = joined_alike _ _ _ _ }
