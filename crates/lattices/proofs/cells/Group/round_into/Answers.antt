use Rattle.std.proofs.Common.{◌≡◌, ℕ, ◌^◌, ◌<◌, length, get_or, take, ap, ◌∙◌, pos, arith, w32, SFits, rules, ◌+◌}
use Rattle.std.proofs.lemmas.Int.{to_z-of_z, ints}
use Rattle.integers.specs.Nearest.{nearest}
use Rattle.finders.specs.Points.{distance as distance_of}
use Rattle.lattices.specs.LatticeZ.{rounded}
use Rattle.finders.proofs.Within.{within_at}
use Rattle.finders.proofs.Writing.{written_more}
use Rattle.lattices.proofs.OneCell.{Told, cell_told, distance_more, distance_fits}
use Rattle.lattices.proofs.cells.Group.round_into.Goals as goal

here : (c : goal.After-square-distance) → c.loop-i.i < length c.args.self.now.readings.now
here c = omega (arith, c.requires.as_wide)

cell : (c : goal.After-square-distance) → Told c.args.self.now.step (get_or c.args.self.now.readings.now c.loop-i.i (pos 0)) c.round-cell.result.number c.round-cell.result.residue c.unsigned_abs.result
cell c =
    let f : SFits w32 (get_or c.args.self.now.readings.now c.loop-i.i (pos 0)) = omega (arith, ints, within_at (2 ^ 30) c.args.self.now.readings.now c.loop-i.i c.args.self.now.small_readings (here c)) in
    let g : SFits w32 c.round-cell.result.residue = search rules in
    cell_told c.args.self.now.step _ _ _ c.unsigned_abs.result c.args.self.now.some_step f g c.round-cell.ensures.is_the_nearest_number c.round-cell.ensures.leaves_the_residue c.unsigned_abs.ensures.value

more : (c : goal.After-square-distance) → let rs = take (c.loop-i.i + 1) c.args.self.now.readings.now in
    c.loop-i.distance + c.square-distance.result ≡ distance_of c.args.self.now.step rs (rounded c.args.self.now.step rs)
more c =
    ap (λ (n : ℕ). c.loop-i.distance + n) c.square-distance.ensures
    ∙ distance_more c.args.self.now.step c.args.self.now.readings.now c.loop-i.i (here c) c.loop-i.distance c.unsigned_abs.result (cell c).size c.loop-i.invariant.distance

pub overflow_add-distance : goal.overflow_add-distance
overflow_add-distance c =
    let b = distance_fits c.args.self.now.step (c.loop-i.i + 1) c.args.self.now.readings.now c.args.self.now.some_step c.args.self.now.small_step c.args.self.now.few_cells in
    omega (arith, more c)

pub loop-i-preserved : goal.loop-i-preserved
loop-i-preserved c =
    let g : SFits w32 c.round-cell.result.number = search rules in
    record {
      done = written_more (nearest c.args.self.now.step) c.args.self.now.readings.now c.loop-i.place c.loop-i.i _ (pos 0) (here c) (omega arith) (to_z-of_z w32 _ g ∙ (cell c).number) c.loop-i.invariant.done;
      distance = more c;
    }
