use Rattle.std.proofs.Common.{◌≡◌, ◌+◌, ◌-◌, ◌*◌, ◌^◌, ◌≤◌, List, get_or, set, ℤ, pos, nat_abs, ap, ap₂, ◌∙◌, arith, w32, w64, SFits, to_z, of_z, rules}
use Rattle.std.proofs.lemmas.Int.{ints}
use Rattle.integers.proofs.Nearest.{nearest_near}
use Rattle.finders.specs.Points.{distance as distance_of}
use Rattle.finders.specs.Rounding.{other_way, turned}
use Rattle.finders.proofs.Distances.{distance_small}
use Rattle.lattices.specs.LatticeD.{turned_at, repaired}
use Rattle.lattices.specs.Repair.{turn_costs, turned_small, near_turned}
use Rattle.lattices.proofs.OneCell.{Told, cell_told}
use Rattle.lattices.proofs.cells.Group.repair.Goals as goal
use Rattle.lattices.proofs.cells.Group.repair.Goals.{After-other_way}

cell : (c : After-other_way) → Told c.args.self.now.step (get_or c.args.self.now.readings.now c.in-Some.i (pos 0)) c.round-cell.result.number c.round-cell.result.residue c.unsigned_abs-size.result
cell c =
    let f : SFits w32 (get_or c.args.self.now.readings.now c.in-Some.i (pos 0)) = search rules in
    let g : SFits w32 c.round-cell.result.residue = search rules in
    cell_told c.args.self.now.step _ _ _ c.unsigned_abs-size.result c.args.self.now.some_step f g c.round-cell.ensures.is_the_nearest_number c.round-cell.ensures.leaves_the_residue c.unsigned_abs-size.ensures.value

turn : (c : After-other_way) → c.other_way.result ≡ turned c.args.self.now.step (get_or c.args.self.now.readings.now c.in-Some.i (pos 0))
turn c = c.other_way.ensures.is_the_other_way ∙ ap₂ other_way (cell c).residue (cell c).number

small : (c : After-other_way) → nat_abs c.other_way.result ≤ 2 ^ 30 + 1
small c = rw (turn c) (turned_small c.args.self.now.step c.args.self.now.readings.now c.in-Some.i c.in-Some.ensures.1 c.args.self.now.some_step c.args.self.now.small_readings)

-- the distance after the turn, which is small
costs : (c : After-other_way) → let q = c.args.self.now.step in let n = c.unsigned_abs-size.result in let after = distance_of q c.args.self.now.readings.now (repaired q c.args.self.now.readings.now) in
    (n ≤ q) × (n * n ≤ c.args.distance) × (after + n * n ≡ c.args.distance + (q - n) * (q - n)) × (after ≤ 2 ^ 45)
costs c =
    let q = c.args.self.now.step in
    let rs = c.args.self.now.readings.now in
    let here = c.in-Some.ensures.1 in
    let some = c.args.self.now.some_step in
    let t = rw (← (cell c).size, ← c.requires.distance) at (turn_costs q rs c.in-Some.i here some) in
    let d : distance_of q rs (turned_at q rs c.in-Some.i) ≤ 2 ^ 45 = omega (arith, distance_small q rs (turned_at q rs c.in-Some.i) (near_turned q rs c.in-Some.i here some c.args.self.now.small_step)) in
    (omega (arith, (cell c).size, nearest_near q (get_or rs c.in-Some.i (pos 0)) some), t.0, rw c.in-Some.ensures.0 at t.1, rw c.in-Some.ensures.0 at d)

cast : (t : ℤ) → nat_abs t ≤ 2 ^ 30 + 1 → to_z w32 (of_z w32 (to_z w64 (of_z w64 t))) ≡ t
cast t h = omega (arith, ints)

pub overflow_cast-place : goal.overflow_cast-place
overflow_cast-place c = omega (arith, ints, small c)

pub overflow_sub-self : goal.overflow_sub-self
overflow_sub-self c = (costs (goal.at.overflow_sub-self c).After-other_way).0

pub overflow_sub-result : goal.overflow_sub-result
overflow_sub-result c = rw c.square.ensures (costs (goal.at.overflow_sub-result c).After-other_way).1

pub overflow_add-result : goal.overflow_add-result
overflow_add-result c = let t = costs (goal.at.overflow_add-result c).After-other_way in omega (arith, c.square.ensures, c.square-2.ensures, t.1, t.2, t.3)

pub returns-clause-point : goal.returns-clause-point
returns-clause-point c =
    let a = (goal.at.returns-clause-point c).After-other_way in
    let q = c.args.self.now.step in
    let rs = c.args.self.now.readings.now in
    ap₂ (λ (xs : List ℤ) (y : ℤ). set xs c.in-Some.i y) c.requires.rounded (cast c.other_way.result (small a) ∙ turn a) ∙ ap (turned_at q rs) c.in-Some.ensures.0

pub returns-clause-distance : goal.returns-clause-distance
returns-clause-distance c = let t = costs (goal.at.returns-clause-distance c).After-other_way in omega (arith, c.square.ensures, c.square-2.ensures, t.1, t.2)
