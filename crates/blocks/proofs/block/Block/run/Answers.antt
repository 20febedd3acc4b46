use Rattle.std.proofs.Common.{◌≡◌, Ok, rules}
use Rattle.blocks.specs.Block.{meaning_of}
use Rattle.blocks.specs.Calls.{open_checked, answers_to}
use Rattle.blocks.proofs.RunLaws.{each_sense, each_clear, each_misfit, each_decide}
use Rattle.blocks.proofs.RunSteps.{one_made, all_answered, all_are_senses}
use Rattle.blocks.proofs.block.Block.run.Goals as goal

pub loop-i-preserved : goal.loop-i-preserved
loop-i-preserved g c = one_made c.loop-i.invariant _ c.make.result c.loop-i-test.true (record {
  answers = c.make.ensures.answers_the_call;
  stands = c.make.ensures.stands_after_the_call;
  finder = c.make.ensures.keeps_the_finder;
})

answers : (g : _) (c : goal.After-loop-i g) →
    c.loop-i.answers ≡ answers_to (meaning_of c.args.self.now) c.args.step c.args.calls.now
answers g c = all_answered c.loop-i.invariant c.loop-i-test.false

pub returns-clause-each_sense_is_granted_unless_full : goal.returns-clause-each_sense_is_granted_unless_full
returns-clause-each_sense_is_granted_unless_full g c =
    each_sense _ c.args.step c.args.calls.now c.loop-i.answers (answers g c)

pub returns-clause-each_clear_tells_how_many_stood : goal.returns-clause-each_clear_tells_how_many_stood
returns-clause-each_clear_tells_how_many_stood g c =
    each_clear (meaning_of c.args.self.now) c.args.step c.args.calls.now c.loop-i.answers (answers g c)

pub returns-clause-each_misfit_is_refused : goal.returns-clause-each_misfit_is_refused
returns-clause-each_misfit_is_refused g c =
    each_misfit (meaning_of c.args.self.now) c.args.step c.args.calls.now c.loop-i.answers (answers g c)

pub returns-clause-each_decide_has_the_least_total : goal.returns-clause-each_decide_has_the_least_total
returns-clause-each_decide_has_the_least_total g c =
    let senses = all_are_senses c.loop-i.invariant c.loop-i-test.false in
    let l = g.met.F.PointFinder.lawful c.args.self.now.finder in
    let opens : open_checked (meaning_of c.args.self.now) c.args.step ≡ Ok tt = search rules in
    each_decide _ c.args.step c.args.calls.now c.loop-i.answers l opens senses (answers g c)
