use Rattle.code_layers.specs.GlueFinds.{tested}
use Rattle.code_layers.proofs.glue.GlueWordTester.contains.Goals as goal

pub moves_below-requires : goal.moves_below-requires
moves_below-requires g c = record { tested = tested _ c.in_ok-words.field-0.now (g.F.WordFinder.meaning c.args.self.now.below) c.in_ok-shape.field-0 c.args.word c.in_ok-words.ensures (g.met.F.WordFinder.lawful c.args.self.now.below) c.in_ok-shape.ensures.tells_the_shape c.in_ok-check_test.ensures.is_the_first_refusal }
