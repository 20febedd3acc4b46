use Rattle.std.proofs.Common.{◌≡◌, ◌*◌, true, map, length, drop}
use Rattle.finders.specs.Points.{within}
use Rattle.integers.specs.Sums.{plus}
use Rattle.lattice_layers.specs.Rows.{row_sum}
use Rattle.lattice_layers.specs.Table.{numbers_in, rows_in}
use Rattle.lattice_layers.proofs.glue.table.Table.write_sum.Given as goal

-- the sum so far, and that of the rows that are left
abbrev pub invariant-loop-row : goal.invariant-loop-row
invariant-loop-row l = record {
  all : plus l.sum (row_sum (length l.initial.sum) (map numbers_in (drop l.row-index l.row-items)) l.rest) ≡ row_sum (length l.initial.sum) (rows_in l.self) l.j;
  small : within (l.row-index * 1024) l.sum ≡ true;
}
