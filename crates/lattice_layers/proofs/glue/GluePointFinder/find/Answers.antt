use Rattle.lattice_layers.specs.Table.{rows_in}
use Rattle.lattice_layers.specs.GlueFinds.{granted}
use Rattle.lattice_layers.proofs.glue.GluePointFinder.find.Goals as goal

pub best-requires : goal.best-requires
best-requires g c = record { granted = granted _ (rows_in c.in_ok-rows.field-0.now) (g.F.PointFinder.meaning c.args.self.now.below) c.in_ok-shape.field-0 c.args.readings.now c.args.place.now c.args.step c.in_ok-rows.ensures (g.met.F.PointFinder.lawful c.args.self.now.below) c.in_ok-shape.ensures.tells_the_shape c.in_ok-check_find.ensures.is_the_first_refusal }
