use Rattle.std.proofs.Common.{rules, arith, ◌≤◌, length}
use Rattle.lattice_layers.proofs.RowTables.{too_long, held_more}
use Rattle.lattice_layers.proofs.glue.table.Table.new.Goals as goal

pub returns-in_err-array : goal.returns-in_err-array
returns-in_err-array c =
    let few : length c.args.rows.now ≤ 13 = omega arith in
    let long = too_long c.args.rows.now c.loop-i.i _ c.loop-i-test.true few c.in_err-array.ensures.1 in
    search rules

pub loop-i-preserved : goal.loop-i-preserved
loop-i-preserved c =
    let more = held_more c.args.rows.now c.loop-i.i _ c.loop-i-test.true c.loop-i.array c.in_ok-array.field-0 (omega (arith, c.loop-i.invariant.room)) c.in_ok-array.ensures.0 c.in_ok-array.ensures.1 c.loop-i.invariant.held c.loop-i.invariant.short in
    record { room = search rules; held = more.0; short = more.1 }
