use Rattle.std.proofs.Common.{◌+ℤ◌, ◌-ℤ◌}
use Rattle.codes.proofs.ButterflyLaws.{Partly}
use Rattle.codes.proofs.reed_muller.transform.butterflies.Given as goal

abbrev pub invariant-loop-i : goal.invariant-loop-i
invariant-loop-i l = Partly (λ x y. x +ℤ y) l.initial.low l.initial.high l.i l.initial.low l.low × Partly (λ x y. x -ℤ y) l.initial.low l.initial.high l.i l.initial.high l.high
