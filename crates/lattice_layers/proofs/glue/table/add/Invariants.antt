use Rattle.std.proofs.Common.{◌≡◌, ◌+ℤ◌, length}
use Rattle.integers.specs.Sums.{plus}
use Rattle.finders.proofs.WritingTwo.{written}
use Rattle.lattice_layers.proofs.glue.table.add.Given as goal

abbrev pub invariant-loop-i : goal.invariant-loop-i
invariant-loop-i l = record {
  long : length l.more ≡ length l.numbers;
  all : written ◌+ℤ◌ l.numbers l.numbers l.more l.i ≡ plus l.initial.numbers l.more;
}
