use Rattle.finders.specs.Choice.{Chosen}
use Rattle.finders.proofs.choice.first_best.Given as goal

abbrev pub invariant-loop-i : goal.invariant-loop-i
invariant-loop-i g l =
    (goal.iterator-loop-i g).can_next l.i-iterator × (goal.iterator-loop-i g).is_finite l.i-iterator × Chosen g.S.Score.good l.yielded l.best.held
