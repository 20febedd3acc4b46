use Rattle.std.proofs.Common.{ap}
use Rattle.blocks.specs.declared.calls.Answer.TheVariants as answer
use Rattle.blocks.proofs.block.Block.make.Goals as goal

pub returns-in-Sense-clause-answers_the_call : goal.returns-in-Sense-clause-answers_the_call
returns-in-Sense-clause-answers_the_call g c = λ q S s.
    rw c.in-Sense.is (ap answer.Sense (c.sense.ensures.answers_how_many_stand q S s))

pub returns-in-Clear-clause-answers_the_call : goal.returns-in-Clear-clause-answers_the_call
returns-in-Clear-clause-answers_the_call g c = λ q S s.
    rw c.in-Clear.is (ap answer.Clear (c.clear.ensures.answers_how_many_stood q S s))
