use Rattle.std.proofs.Common.{◌≡◌, ◌+◌, ◌*◌, ◌/◌, ◌<◌, ap, drop, length, w32, SFits, arith, rules, ◌∙◌}
use Rattle.std.proofs.lemmas.Int.{to_z-of_z}
use Rattle.std.proofs.lemmas.List.{length-map}
use Rattle.finders.specs.Points.{distance as distance_of}
use Rattle.finders.proofs.Writing.{left_more}
use Rattle.lattice_layers.specs.ConstructionA.{nearest_even, with_parities}
use Rattle.lattice_layers.proofs.CellByCell.{reading_is, reading_small, point_more, distance_more, distance_fits}
use Rattle.lattice_layers.proofs.construction_a.cells.Group.turn_odd.Goals as goal
use Rattle.lattice_layers.proofs.construction_a.cells.Group.turn_odd.Goals.{After-turned-number}

more : (c : After-turned-number) → let q = c.args.self.now.step in let rs = c.args.self.now.readings.now in let left = drop (c.loop-i.i + 1) rs in
    c.loop-i.distance + c.turned-number.result.1 * c.turned-number.result.1 + distance_of q left (with_parities (c.loop-i.rest / 2) q left) ≡ distance_of q rs (with_parities c.args.word q rs)
more c =
    let s = c.args.self.now in
    distance_more s.readings.now c.loop-i.i c.loop-i.rest s.step c.loop-i.distance c.turned-number.result.1 _ c.loop-i-test.true
    (rw (reading_is s.readings.now c.loop-i.i s.small_readings c.loop-i-test.true) at c.turned-number.ensures.size) c.loop-i.invariant.distance

pub turned-number-requires-clause-small : goal.turned-number-requires-clause-small
turned-number-requires-clause-small c = reading_small c.args.self.now.readings.now c.loop-i.i c.args.self.now.small_readings c.loop-i-test.true

pub overflow_mul-distance : goal.overflow_mul-distance
overflow_mul-distance c =
    let s = c.args.self.now in
    omega (arith, more (goal.at.overflow_mul-distance c).After-turned-number, distance_fits c.args.word s.step s.readings.now s.some_step s.small_step s.few_cells)

pub overflow_add-distance : goal.overflow_add-distance
overflow_add-distance c =
    let s = c.args.self.now in
    omega (arith, more (goal.at.overflow_add-distance c).After-turned-number, distance_fits c.args.word s.step s.readings.now s.some_step s.small_step s.few_cells)

pub loop-i-preserved : goal.loop-i-preserved
loop-i-preserved c =
    let s = c.args.self.now in
    let q = s.step in
    let rs = s.readings.now in
    let i = c.loop-i.i in
    let here = c.loop-i-test.true in
    let f : SFits w32 c.turned-number.result.0 = search rules in
    let room : i < length c.loop-i.place = omega (arith, c.loop-i.auto.place, ap length c.requires.evens, length-map rs (nearest_even q)) in
    record {
      left = left_more (nearest_even q) rs c.loop-i.place i _ c.loop-i.invariant.left;
      point = point_more rs c.loop-i.place i _ here c.loop-i.rest q _ room (to_z-of_z w32 _ f ∙ (rw (reading_is rs i s.small_readings here) at c.turned-number.ensures.number)) c.loop-i.invariant.point;
      distance = more (goal.at.loop-i-preserved c).After-turned-number;
    }
