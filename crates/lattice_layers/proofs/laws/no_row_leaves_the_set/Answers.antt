use Rattle.lattice_layers.specs.GlueLaws.{no_row_one_set}
use Rattle.lattice_layers.proofs.laws.no_row_leaves_the_set.Goals as goal

pub returns : goal.returns
returns g c = record { same_points = no_row_one_set _ (g.met.F.PointFinder.lawful c.args.below.now) }
