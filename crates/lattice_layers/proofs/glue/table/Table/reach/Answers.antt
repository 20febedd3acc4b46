use Rattle.std.proofs.Common.{◌≤◌, length, arith}
use Rattle.std.proofs.lemmas.List.{length-map}
use Rattle.lattice_layers.specs.RowLaws.{small_reach}
use Rattle.lattice_layers.specs.Table.{numbers_in, rows_in}
use Rattle.lattice_layers.proofs.RowSteps.{reach_more}
use Rattle.lattice_layers.proofs.glue.table.Table.reach.Goals as goal

pub overflow_add-reach : goal.overflow_add-reach
overflow_add-reach c =
    let more = reach_more numbers_in c.all-row-items.result.now c.loop-row.row-index c.row-item.result (omega arith) c.row-item.is c.loop-row.reach in
    let few : length (rows_in c.args.self.now) ≤ 13 = rw (← c.all-row-items.ensures.rows, length-map) c.all-row-items.ensures.few in
    omega (arith, c.largest-reach.ensures, more, c.loop-row.invariant, few, small_reach 1024 (rows_in c.args.self.now) c.requires.small)
