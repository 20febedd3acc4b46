use Rattle.finders.specs.PointFinders.{find_answer}
use Rattle.lattice_layers.specs.Join.{joined}
use Rattle.lattice_layers.proofs.Joining.{Parts, find_joined, first_not_refused, second_not_refused, sum_fits, made}
use Rattle.lattice_layers.proofs.join.JoinPointFinder.find.Goals as goal
use Rattle.lattice_layers.proofs.join.JoinPointFinder.find.Goals.{After-split_at_mut-front_place}

parts : (g : _) (c : After-split_at_mut-front_place g) → let M = g.F.PointFinder.meaning c.args.self.now.first in let N = g.G.PointFinder.meaning c.args.self.now.second in
    Parts (find_answer M c.split_at.result.0.now c.args.step c.split_at_mut-front_place.result.0.now) (find_answer N c.split_at.result.1.now c.args.step c.split_at_mut-front_place.result.1.now) (find_answer (joined M N) c.args.readings.now c.args.step c.args.place.now)
parts g c =
    rw (c.split_at.ensures.front, c.split_at.ensures.back, c.split_at_mut-front_place.ensures.front, c.split_at_mut-front_place.ensures.back, c.in_ok-shape.ensures.1)
    (find_joined _ _ c.in_ok-shape.shape c.args.readings.now c.args.place.now c.args.step (g.met.F.PointFinder.lawful c.args.self.now.first) (g.met.G.PointFinder.lawful c.args.self.now.second) c.in_ok-shape.ensures.0 c.in_ok-check_find.ensures.is_the_first_refusal)

pub returns-in_err-first-clause-answers_the_distance :
    goal.returns-in_err-first-clause-answers_the_distance
returns-in_err-first-clause-answers_the_distance g c = absurd (first_not_refused (parts g (goal.at.returns-in_err-first-clause-answers_the_distance g c).After-split_at_mut-front_place) c.in_err-first.ensures.answers_the_distance)

pub returns-in_err-first-clause-writes_the_pick : goal.returns-in_err-first-clause-writes_the_pick
returns-in_err-first-clause-writes_the_pick g c = absurd (first_not_refused (parts g (goal.at.returns-in_err-first-clause-writes_the_pick g c).After-split_at_mut-front_place) c.in_err-first.ensures.answers_the_distance)

pub returns-in_err-second-clause-answers_the_distance :
    goal.returns-in_err-second-clause-answers_the_distance
returns-in_err-second-clause-answers_the_distance g c = absurd (second_not_refused (parts g (goal.at.returns-in_err-second-clause-answers_the_distance g c).After-split_at_mut-front_place) c.in_err-second.ensures.answers_the_distance)

pub returns-in_err-second-clause-writes_the_pick :
    goal.returns-in_err-second-clause-writes_the_pick
returns-in_err-second-clause-writes_the_pick g c = absurd (second_not_refused (parts g (goal.at.returns-in_err-second-clause-writes_the_pick g c).After-split_at_mut-front_place) c.in_err-second.ensures.answers_the_distance)

pub overflow_add-result : goal.overflow_add-result
overflow_add-result g c = sum_fits (parts g (goal.at.overflow_add-result g c).After-split_at_mut-front_place) c.in_ok-first.ensures.answers_the_distance c.in_ok-second.ensures.answers_the_distance

pub returns-clause-answers_the_distance : goal.returns-clause-answers_the_distance
returns-clause-answers_the_distance g c = made (parts g (goal.at.returns-clause-answers_the_distance g c).After-split_at_mut-front_place) c.in_ok-first.ensures.answers_the_distance c.in_ok-second.ensures.answers_the_distance
