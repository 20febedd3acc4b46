use Rattle.lattice_layers.specs.Table.{slices}
use Rattle.lattice_layers.specs.GlueLaws.{held_alike}
use Rattle.lattice_layers.proofs.glue.Glue.new.Goals as goal

pub returns : goal.returns
returns g c = record { means_the_glued_points = rw c.new.ensures (held_alike (slices c.args.rows.now) (g.F.PointFinder.meaning c.args.below) (g.met.F.PointFinder.lawful c.args.below)) }
