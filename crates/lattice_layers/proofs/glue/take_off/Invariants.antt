use Rattle.std.proofs.Common.{◌≡◌, length}
use Rattle.integers.specs.Nearest.{residue}
use Rattle.lattice_layers.specs.Glue.{taken_off}
use Rattle.finders.proofs.WritingTwo.{written}
use Rattle.lattice_layers.proofs.glue.take_off.Given as goal

abbrev pub invariant-loop-i : goal.invariant-loop-i
invariant-loop-i l = record {
  room : length l.place ≡ length l.readings;
  all : written (residue l.step) l.place l.readings l.numbers l.i ≡ taken_off l.step l.numbers l.readings;
}
