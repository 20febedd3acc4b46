use Rattle.std.proofs.Common.{◌≡◌, map, length, take}
use Rattle.lattice_layers.specs.ConstructionA.{nearest_even, gain}
use Rattle.lattice_layers.proofs.construction_a.cells.Group.round_even.Given as goal

abbrev pub invariant-loop-i : goal.invariant-loop-i
invariant-loop-i l = record {
  long : length l.place ≡ length l.self.readings.now;
  room : length l.gains ≡ 32;
  evens : take l.i l.place ≡ map (nearest_even l.self.step) (take l.i l.self.readings.now);
  gains : take l.i l.gains ≡ map (gain l.self.step) (take l.i l.self.readings.now);
}
