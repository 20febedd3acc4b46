use Rattle.std.proofs.Common.{◌≡◌, ◌*◌, ◌^◌, ◌≤◌, drop, nat_abs, ◌+ℤ◌}
use Rattle.finders.specs.Words.{correlation}
use Rattle.codes.proofs.gains.Gains.correlation.Given as goal

-- the digits and gains that are left bring the rest of the correlation
abbrev pub invariant-loop-gain : goal.invariant-loop-gain
invariant-loop-gain l = (l.sum +ℤ correlation l.rest (drop l.gain-index l.gain-items) ≡ correlation l.word l.gain-items) × (nat_abs l.sum ≤ l.gain-index * 2 ^ 30)
