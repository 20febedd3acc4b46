use Rattle.std.proofs.Common.{rules}
use Rattle.std.specs.Iterator.Adapters.{enumerate_steps}
use Rattle.std.proofs.iter.SoFar.{exit_by}
use Rattle.finders.proofs.FirstRuns.{chosen_of_numbered}
use Rattle.finders.proofs.choice.first_best.Goals as goal

pub loop-i-preserved : goal.loop-i-preserved
loop-i-preserved g c = (search rules, search rules, c.offer.ensures.holds_the_first_best c.loop-i.yielded c.loop-i.invariant.2)

pub returns : goal.returns
returns g c =
    let ran = exit_by (enumerate_steps g.I.Iterator.next_gives) (c.loop-i.yielded, c.loop-i.yielded_by) c.next.new.self (search rules) in
    record { is_the_first_best = chosen_of_numbered g.S.Score.good c.loop-i.yielded c.loop-i.best.held c.enumerate-i-items.ensures.runs (search rules) ran c.loop-i.invariant.2 }
