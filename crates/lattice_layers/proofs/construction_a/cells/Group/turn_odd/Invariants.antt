use Rattle.std.proofs.Common.{◌≡◌, ◌+◌, ◌++◌, map, take, drop}
use Rattle.finders.specs.Points.{distance as distance_of}
use Rattle.lattice_layers.specs.ConstructionA.{nearest_even, with_parities}
use Rattle.lattice_layers.proofs.construction_a.cells.Group.turn_odd.Given as goal

-- the numbers that are left, and what they add to the distance
abbrev pub invariant-loop-i : goal.invariant-loop-i
invariant-loop-i l =
    let rs = drop l.i l.self.readings.now in
    let xs = with_parities l.rest l.self.step rs in
    record {
      left : drop l.i l.place ≡ map (nearest_even l.self.step) rs;
      point : take l.i l.place ++ xs ≡ with_parities l.word l.self.step l.self.readings.now;
      distance : l.distance + distance_of l.self.step rs xs ≡ distance_of l.self.step l.self.readings.now (with_parities l.word l.self.step l.self.readings.now);
    }
