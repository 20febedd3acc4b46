use Rattle.std.proofs.Common.{◌≡◌, ◌^◌, true, take, drop, ◌++◌}
use Rattle.finders.specs.Points.{within}
use Rattle.code_layers.specs.Glue.{negated}
use Rattle.code_layers.proofs.glue.negate.Given as goal

abbrev pub invariant-loop-gain : goal.invariant-loop-gain
invariant-loop-gain l = record {
  all : take l.gain-index l.gains ++ negated l.rest (drop l.gain-index l.gains) ≡ negated l.word l.initial.gains;
  small : within (2 ^ 30) (drop l.gain-index l.gains) ≡ true;
}
