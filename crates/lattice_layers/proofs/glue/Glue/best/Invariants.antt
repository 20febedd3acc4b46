use Rattle.std.proofs.Common.{◌≡◌, length}
use Rattle.finders.specs.Choice.{Chosen}
use Rattle.finders.proofs.Scores.{Little}
use Rattle.lattice_layers.specs.Table.{rows_in}
use Rattle.lattice_layers.proofs.GlueSearch.{offers, Holds}
use Rattle.lattice_layers.proofs.glue.Glue.best.Given as goal

-- what is held is chosen of the sums before, and the place holds its point
abbrev pub invariant-loop-j : goal.invariant-loop-j
invariant-loop-j g l =
    let M = g.F.PointFinder.meaning l.self.below in
    record {
      sum_as_wide : length l.sum ≡ length l.readings;
      moved_as_wide : length l.moved ≡ length l.readings;
      point_as_wide : length l.point ≡ length l.readings;
      place_as_wide : length l.place ≡ length l.readings;
      chosen : Chosen Little (offers (rows_in l.rows) M l.readings l.step l.j) l.best.held;
      placed : Holds (rows_in l.rows) M l.readings l.step l.best.held l.place;
    }
