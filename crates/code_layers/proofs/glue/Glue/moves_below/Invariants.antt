use Rattle.std.proofs.Common.{ℕ, ◌<◌, bit_xor}
use Rattle.finders.specs.WordFinders.{Member}
use Rattle.code_layers.specs.Glue.{glue_sum}
use Rattle.code_layers.proofs.glue.Glue.moves_below.Given as goal

-- no sum before moves the word to one below
abbrev pub invariant-loop-j : goal.invariant-loop-j
invariant-loop-j g l = (k : ℕ) → k < l.j → Member (g.F.WordFinder.meaning l.self.below) (bit_xor (glue_sum l.words k) l.word) → ⊥
