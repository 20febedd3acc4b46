use Rattle.code_layers.specs.GlueFinds.{granted}
use Rattle.code_layers.proofs.glue.GlueWordFinder.find.Goals as goal

pub best-requires : goal.best-requires
best-requires g c = record { granted = granted _ c.in_ok-words.field-0.now (g.F.WordFinder.meaning c.args.self.now.below) c.in_ok-shape.field-0 c.args.gains.now c.in_ok-words.ensures (g.met.F.WordFinder.lawful c.args.self.now.below) c.in_ok-shape.ensures.tells_the_shape c.in_ok-check_find.ensures.is_the_first_refusal }
