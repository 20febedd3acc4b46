use Rattle.std.proofs.Common.{◌≡◌, drop, bit_xor}
use Rattle.code_layers.specs.Glue.{glue_sum}
use Rattle.code_layers.proofs.glue.glue_sum.Given as goal

-- the sum so far, and that of the words that are left
abbrev pub invariant-loop-word : goal.invariant-loop-word
invariant-loop-word l = bit_xor l.sum (glue_sum (drop l.word-index l.words) l.rest) ≡ glue_sum l.words l.j
