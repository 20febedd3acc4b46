use Rattle.lattice_layers.specs.ScaleLaws.{scaled_alike}
use Rattle.lattice_layers.specs.GlueLaws.{glued_alike}
use Rattle.lattice_layers.proofs.laws.layers_over_the_same_mean_the_same.Goals as goal

pub returns : goal.returns
returns g c = record { scaled = λ k. scaled_alike k _ _; glued = λ rows. glued_alike rows _ _ }
