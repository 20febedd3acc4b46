use Rattle.std.proofs.Common.{◌≡◌, true, length, map, take}
use Rattle.lattice_layers.specs.Table.{slices, numbers_in, all_short}
use Rattle.lattice_layers.proofs.glue.table.Table.new.Given as goal

-- the rows before are held
abbrev pub invariant-loop-i : goal.invariant-loop-i
invariant-loop-i l = record {
  room : length l.array ≡ 13;
  held : map numbers_in (take l.i l.array) ≡ slices (take l.i l.rows);
  short : all_short (slices (take l.i l.rows)) ≡ true;
}
