use Rattle.std.proofs.Common.{◌≡◌, ◌+◌, ◌*◌, ◌^◌, ◌-◌, [], length, drop, ap, ◌∙◌, arith}
use Rattle.std.proofs.lemmas.List.{drop_all}
use Rattle.finders.proofs.Within.{within_wider}
use Rattle.lattice_layers.specs.Table.{numbers_in, rows_in}
use Rattle.lattice_layers.proofs.RowSteps.{row_adds, sum_with, sum_without, sum_begins, sum_ends}
use Rattle.lattice_layers.proofs.glue.table.Table.write_sum.Goals as goal
use Rattle.lattice_layers.proofs.glue.table.Table.write_sum.Goals.{then-rest-ne0, else-rest-ne0}

pub loop-row-init : goal.loop-row-init
loop-row-init c =
    let b = sum_begins (length c.args.sum.now) c.fill.new.self _ (rows_in c.args.self.now) c.args.j (c.fill.ensures.after (λ y h. h)) c.all-row-items.ensures.rows c.requires.as_wide in
    record { all = b.0; small = b.1 }

pub add-requires : goal.add-requires
add-requires c =
    let adds = row_adds numbers_in c.all-row-items.result.now c.loop-row.row-index c.row-item.result (omega arith) c.row-item.is
    (rows_in c.args.self.now) (length c.args.sum.now) c.loop-row.sum c.all-row-items.ensures.rows c.requires.as_wide c.requires.small (c.loop-row.auto.sum ∙ c.fill.ensures.len) c.loop-row.invariant.small in
    record { as_many = ap length c.all.ensures ∙ adds.0; fit = rw c.all.ensures (within_wider ((c.loop-row.row-index + 1) * 1024) (2 ^ 31 - 1) _ (omega (arith, c.all-row-items.ensures.few)) adds.1) }

pub loop-row-preserved : goal.loop-row-preserved
loop-row-preserved c =
    let items = c.all-row-items.result.now in
    let i = c.loop-row.row-index in
    let row = c.row-item.result in
    let long = c.loop-row.auto.sum ∙ c.fill.ensures.len in
    elim c.if-rest-ne0.branch [
      | then-rest-ne0 w ↦ record {
        all = sum_with numbers_in items i row (omega arith) c.row-item.is _ c.loop-row.sum w.all.result.now c.if-rest-ne0.sum c.loop-row.rest w.if-rest-ne0.true w.all.ensures (w.sum-is ∙ w.add.ensures) ∙ c.loop-row.invariant.all;
        small = rw (w.sum-is, w.add.ensures, w.all.ensures) (row_adds numbers_in items i row (omega arith) c.row-item.is (rows_in c.args.self.now) (length c.args.sum.now) c.loop-row.sum c.all-row-items.ensures.rows c.requires.as_wide c.requires.small long c.loop-row.invariant.small).1;
      }
      | else-rest-ne0 w ↦ record {
        all = rw w.sum-is (sum_without numbers_in items i row (omega arith) c.row-item.is _ c.loop-row.sum c.loop-row.rest w.if-rest-ne0.false c.loop-row.auto.sum ∙ c.loop-row.invariant.all);
        small = rw w.sum-is (within_wider (i * 1024) ((i + 1) * 1024) c.loop-row.sum (omega arith) c.loop-row.invariant.small);
      }
    ]

pub returns : goal.returns
returns c =
    let none : drop c.loop-row.row-index c.all-row-items.result.now ≡ [] = drop_all c.loop-row.row-index c.all-row-items.result.now c.loop-row-test.false in
    rw (← c.fill.ensures.len) (sum_ends (length c.fill.new.self) c.loop-row.sum (rows_in c.args.self.now) c.loop-row.rest c.args.j c.loop-row.auto.sum (rw none at c.loop-row.invariant.all))
