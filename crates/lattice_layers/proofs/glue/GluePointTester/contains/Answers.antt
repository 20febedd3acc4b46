use Rattle.lattice_layers.specs.Table.{rows_in}
use Rattle.lattice_layers.specs.GlueFinds.{tested}
use Rattle.lattice_layers.proofs.glue.GluePointTester.contains.Goals as goal

pub moves_below-requires : goal.moves_below-requires
moves_below-requires g c = record { tested = tested _ (rows_in c.in_ok-rows.field-0.now) (g.F.PointFinder.meaning c.args.self.now.below) c.in_ok-shape.field-0 c.args.point.now c.in_ok-rows.ensures (g.met.F.PointFinder.lawful c.args.self.now.below) c.in_ok-shape.ensures.tells_the_shape c.in_ok-check_test.ensures.is_the_first_refusal }
