use Rattle.std.proofs.Common.{◌≡◌, ◌+◌, map, drop}
use Rattle.lattice_layers.specs.Rows.{reach as reach_of}
use Rattle.lattice_layers.specs.Table.{numbers_in, rows_in}
use Rattle.lattice_layers.proofs.glue.table.Table.reach.Given as goal

-- the reach so far, and that of the rows that are left
abbrev pub invariant-loop-row : goal.invariant-loop-row
invariant-loop-row l = l.reach + reach_of (map numbers_in (drop l.row-index l.row-items)) ≡ reach_of (rows_in l.self)
