use Rattle.std.proofs.Common.{◌≡◌, ℕ, ◌<◌, length}
use Rattle.finders.specs.PointFinders.{Member}
use Rattle.lattice_layers.specs.Glue.{taken_off}
use Rattle.lattice_layers.specs.GlueFinds.{sum_of}
use Rattle.lattice_layers.specs.Table.{rows_in}
use Rattle.lattice_layers.proofs.glue.Glue.moves_below.Given as goal

-- no sum before moves a point below to this one
abbrev pub invariant-loop-j : goal.invariant-loop-j
invariant-loop-j g l =
    let M = g.F.PointFinder.meaning l.self.below in
    record {
      sum_as_wide : length l.sum ≡ length l.point;
      moved_as_wide : length l.moved ≡ length l.point;
      none : (k : ℕ) → k < l.j → Member M (taken_off 1 (sum_of (rows_in l.rows) M k) l.point) → ⊥;
    }
