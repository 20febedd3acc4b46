use Rattle.lattice_layers.specs.ScaleLaws.{distance_scaled}
use Rattle.lattice_layers.proofs.laws.scaled_points_are_as_far_as_those_below.Goals as goal

pub returns : goal.returns
returns c = record { as_far_at_the_step_below = distance_scaled }
