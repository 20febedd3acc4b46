use Rattle.blocks.proofs.RunSteps.{SoFar}
use Rattle.blocks.proofs.block.Block.run.Given as goal

abbrev pub invariant-loop-i : goal.invariant-loop-i
invariant-loop-i g l = SoFar l.fn.self l.self l.step l.calls l.i l.answers
