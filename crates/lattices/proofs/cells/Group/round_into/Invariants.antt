use Rattle.std.proofs.Common.{◌≡◌, take}
use Rattle.finders.specs.Points.{distance as distance_of}
use Rattle.lattices.specs.LatticeZ.{rounded}
use Rattle.lattices.proofs.cells.Group.round_into.Given as goal

abbrev pub invariant-loop-i : goal.invariant-loop-i
invariant-loop-i l = record {
  done : take l.i l.place ≡ rounded l.self.step (take l.i l.self.readings.now);
  distance : l.distance ≡ distance_of l.self.step (take l.i l.self.readings.now) (rounded l.self.step (take l.i l.self.readings.now));
}
