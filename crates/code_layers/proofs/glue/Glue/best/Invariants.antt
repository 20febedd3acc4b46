use Rattle.std.proofs.Common.{◌≡◌, length}
use Rattle.finders.specs.Choice.{Chosen}
use Rattle.finders.proofs.Scores.{Great}
use Rattle.code_layers.specs.GlueFinds.{pick_of}
use Rattle.code_layers.proofs.GlueSearch.{offers}
use Rattle.code_layers.proofs.glue.Glue.best.Given as goal

-- what is held is chosen of the best words of the sums before
abbrev pub invariant-loop-j : goal.invariant-loop-j
invariant-loop-j g l = record {
  long : length l.negated ≡ length l.gains;
  chosen : Chosen Great (offers l.words (pick_of (g.F.WordFinder.meaning l.self.below)) l.gains l.j) l.best.held;
}
