use Rattle.std.proofs.Common.{◌≡◌, ◌+ℤ◌, length}
use Rattle.integers.specs.Sums.{plus}
use Rattle.finders.proofs.WritingTwo.{written}
use Rattle.blocks.proofs.tally.add_each.Given as goal

abbrev pub invariant-loop-i : goal.invariant-loop-i
invariant-loop-i l = record {
  as_many : length l.readings ≡ length l.sums;
  all : written ◌+ℤ◌ l.sums l.sums l.readings l.i ≡ plus l.initial.sums l.readings;
}
