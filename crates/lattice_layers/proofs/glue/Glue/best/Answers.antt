use Rattle.std.proofs.Common.{◌≡◌, ◌^◌, length, Some, rules}
use Rattle.lattice_layers.specs.Table.{rows_in}
use Rattle.lattice_layers.specs.GlueFinds.{best_of}
use Rattle.lattice_layers.proofs.GlueSearch.{offer, offers, Turned, turn, chosen_more, held_last}
use Rattle.lattice_layers.proofs.glue.Glue.best.Given.{Over}
use Rattle.lattice_layers.proofs.glue.Glue.best.Goals as goal
use Rattle.lattice_layers.proofs.glue.Glue.best.Goals.{then-offer, else-offer, In_ok-distance, After-loop-j}

turned : (g : Over) (c : In_ok-distance g) → Turned (rows_in c.args.rows.now) (g.F.PointFinder.meaning c.args.self.now.below) c.args.readings.now c.args.step c.loop-j.j c.write_sum.new.sum c.find.new.place c.in_ok-distance.distance
turned g c =
    turn (rows_in c.args.rows.now) (g.F.PointFinder.meaning c.args.self.now.below) c.args.readings.now c.args.step c.args.place.now c.requires.granted
    c.loop-j.j c.loop-j.sum c.write_sum.new.sum c.take_off.new.place c.loop-j.point c.find.new.place c.in_ok-distance.distance
    c.loop-j.invariant.sum_as_wide c.write_sum.ensures c.take_off.ensures c.loop-j.invariant.point_as_wide c.in_ok-distance.ensures.answers_the_distance c.in_ok-distance.ensures.writes_the_pick

pub add-requires-clause-fit : goal.add-requires-clause-fit
add-requires-clause-fit g c =
    let t = turned g (goal.at.add-requires-clause-fit g c).In_ok-distance in
    rw (c.copy_from_slice.ensures.after, t.point) (c.requires.granted.points_fit c.loop-j.j)

pub loop-j-preserved : goal.loop-j-preserved
loop-j-preserved g c =
    let t = turned g (goal.at.loop-j-preserved g c).In_ok-distance in
    let M = g.F.PointFinder.meaning c.args.self.now.below in
    record {
      sum_as_wide = search rules;
      moved_as_wide = search rules;
      point_as_wide = search rules;
      place_as_wide = search rules;
      chosen = chosen_more (rows_in c.args.rows.now) M c.args.readings.now c.args.step c.loop-j.j c.in_ok-distance.distance c.offer.new.self.held t.distance (c.offer.ensures.holds_the_first_best (offers (rows_in c.args.rows.now) M c.args.readings.now c.args.step c.loop-j.j) c.loop-j.invariant.chosen);
      placed = elim c.if-offer.branch [
        | then-offer w ↦ rw (w.if-offer.ensures.tells_whether_it_is_held, w.place-is, w.add.ensures, w.copy_from_slice.ensures.after) t.point
        | else-offer w ↦ rw (w.if-offer.ensures.tells_whether_it_is_held, w.place-is) c.loop-j.invariant.placed
      ];
    }

-- what is held after the last sum
last : (g : Over) (c : After-loop-j g) → c.loop-j.best.held ≡ Some (offer (rows_in c.args.rows.now) (g.F.PointFinder.meaning c.args.self.now.below) c.args.readings.now c.args.step (best_of (rows_in c.args.rows.now) (g.F.PointFinder.meaning c.args.self.now.below) c.args.readings.now c.args.step))
last g c =
    let all : c.loop-j.j ≡ 2 ^ length (rows_in c.args.rows.now) = search rules in
    held_last (rows_in c.args.rows.now) (g.F.PointFinder.meaning c.args.self.now.below) c.args.readings.now c.args.step c.loop-j.best.held (rw all at c.loop-j.invariant.chosen)

pub unwrap-distance-requires : goal.unwrap-distance-requires
unwrap-distance-requires g c = let held = last g (goal.at.unwrap-distance-requires g c).After-loop-j in search rules

pub returns-clause-distance : goal.returns-clause-distance
returns-clause-distance g c =
    let M = g.F.PointFinder.meaning c.args.self.now.below in
    let held = last g (goal.at.returns-clause-distance g c).After-loop-j in
    let is : c.unwrap-distance.result ≡ offer (rows_in c.args.rows.now) M c.args.readings.now c.args.step (best_of (rows_in c.args.rows.now) M c.args.readings.now c.args.step) = cc in
    rw (c.requires.granted.whole.0, is)

pub returns-clause-point : goal.returns-clause-point
returns-clause-point g c = rw c.requires.granted.whole.1 (rw (last g (goal.at.returns-clause-point g c).After-loop-j) at c.loop-j.invariant.placed)
