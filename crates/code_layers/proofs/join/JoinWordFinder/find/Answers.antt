use Rattle.std.proofs.Common.{sym}
use Rattle.finders.specs.WordFinders.{find_answer}
use Rattle.code_layers.specs.Join.{joined}
use Rattle.code_layers.proofs.Joining.{Parts, find_joined, sum_is_small, made}
use Rattle.code_layers.proofs.join.JoinWordFinder.find.Goals as goal
use Rattle.code_layers.proofs.join.JoinWordFinder.find.Goals.{After-split_at, In_ok-high}

parts : (g : _) (c : After-split_at g) → (let M = g.F.WordFinder.meaning c.args.self.now.first in let N = g.G.WordFinder.meaning c.args.self.now.second in Parts c.in_ok-shape.cut (find_answer M c.split_at.result.0.now) (find_answer N c.split_at.result.1.now) (find_answer (joined M N) c.args.gains.now))
parts g c =
    rw (c.split_at.ensures.front, c.split_at.ensures.back, c.in_ok-shape.ensures.1)
    (find_joined _ _ c.in_ok-shape.shape c.args.gains.now (g.met.F.WordFinder.lawful c.args.self.now.first) (g.met.G.WordFinder.lawful c.args.self.now.second) c.in_ok-shape.ensures.0 c.in_ok-check_find.ensures.is_the_first_refusal)

pub returns-in_err-low : goal.returns-in_err-low
returns-in_err-low g c = absurd (rw (sym c.in_err-low.ensures.answers_the_pick_and_its_correlation) at (parts g (goal.at.returns-in_err-low g c).After-split_at).first_is)

pub returns-in_err-high : goal.returns-in_err-high
returns-in_err-high g c = absurd (rw (sym c.in_err-high.ensures.answers_the_pick_and_its_correlation) at (parts g (goal.at.returns-in_err-high g c).After-split_at).second_is)

pub overflow_add-result : goal.overflow_add-result
overflow_add-result g c = sum_is_small (rw (sym c.in_ok-low.ensures.answers_the_pick_and_its_correlation, sym c.in_ok-high.ensures.answers_the_pick_and_its_correlation) at (parts g (goal.at.overflow_add-result g c).After-split_at))

pub returns : goal.returns
returns g c = record {
  answers_the_pick_and_its_correlation =
      made (rw (sym c.in_ok-low.ensures.answers_the_pick_and_its_correlation, sym c.in_ok-high.ensures.answers_the_pick_and_its_correlation) at (parts g (goal.at.returns g c).After-split_at));
}
