use Rattle.std.proofs.Common.{◌≡◌, ◌+◌, ◌*◌, ◌^◌, true, ◌∙◌}
use Rattle.finders.specs.Points.{within}
use Rattle.finders.specs.PointFinders.{find_answer, find_place}
use Rattle.lattice_layers.specs.Scale.{times, scaled}
use Rattle.lattice_layers.proofs.Scaling.{find_scaled}
use Rattle.lattice_layers.proofs.scale.ScalePointFinder.find.Goals as goal
use Rattle.lattice_layers.proofs.scale.ScalePointFinder.find.Goals.{In_ok-check_find}

below : (g : _) (c : In_ok-check_find g) → let M = g.F.PointFinder.meaning c.args.self.now.below in let k = c.args.self.now.factor in
    (find_answer M c.args.readings.now (k * c.args.step) c.args.place.now ≡ find_answer (scaled k M) c.args.readings.now c.args.step c.args.place.now)
    × (within (2 ^ 30 + 2 ^ 20) (times k (find_place M c.args.readings.now (k * c.args.step) c.args.place.now)) ≡ true)
below g c = find_scaled c.args.self.now.factor _ c.in_ok-shape.field-0 c.args.readings.now c.args.place.now c.args.step (g.met.F.PointFinder.lawful c.args.self.now.below) c.in_ok-shape.ensures.tells_the_shape c.in_ok-check_find.ensures.is_the_first_refusal

pub multiply-requires-clause-small_products : goal.multiply-requires-clause-small_products
multiply-requires-clause-small_products g c = rw c.find.ensures.writes_the_pick (below g (goal.at.multiply-requires-clause-small_products g c).In_ok-check_find).1

pub returns-clause-answers_the_distance : goal.returns-clause-answers_the_distance
returns-clause-answers_the_distance g c = c.in_ok-distance.ensures.answers_the_distance ∙ (below g (goal.at.returns-clause-answers_the_distance g c).In_ok-check_find).0
