use Rattle.std.proofs.Common.{◌≡◌, ◌*◌, ◌/◌, ◌^◌, ◌≤◌, length, drop, nat_abs, ◌+ℤ◌}
use Rattle.integers.specs.Sums.{sumℤ}
use Rattle.code_layers.proofs.repeat.groups.sum.Given as goal

-- the gains that are left bring the rest of the sum
abbrev pub invariant-loop-gain : goal.invariant-loop-gain
invariant-loop-gain l = (l.sum +ℤ sumℤ (drop l.gain-index l.gains) ≡ sumℤ l.gains) × (nat_abs l.sum ≤ l.gain-index * (2 ^ 30 / length l.gains))
