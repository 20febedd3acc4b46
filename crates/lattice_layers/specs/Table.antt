-- Rows as a layer holds them: copied, where a table takes them.
use Rattle.std.specs.Prelude.{Bool, List, map, length, take, ℤ, nat_le, Result, Ok, Err}
use Rattle.std.specs.Borrow.{Bor}
use Rattle.std.specs.List.{list_all}
use Rattle.finders.specs.declared.refusals.Refusal.{Refusal}
use Rattle.finders.specs.declared.refusals.Refusal.TheVariants.{GlueCount, Length}
use Rattle.finders.specs.Meanings.{checked, answered}
use Rattle.lattice_layers.specs.declared.glue.table.Row.{Row}
use Rattle.lattice_layers.specs.declared.glue.table.Table.{Table}

abbrev pub numbers_in : Row → List ℤ
numbers_in r = take r.count r.numbers

abbrev pub rows_in : Table → List (List ℤ)
rows_in t = map numbers_in (take t.count t.rows)

-- the rows of a table, or the refusal that is held in its place
abbrev pub rows_held : Result Table Refusal → Result (List (List ℤ)) Refusal
rows_held (Ok t) = Ok (rows_in t)
rows_held (Err e) = Err e

-- no row has more numbers than are held of one
abbrev pub all_short : List (List ℤ) → Bool
all_short rows = list_all (λ r. nat_le (length r) 32) rows

-- what is held of these rows: themselves, or the refusal of so many, or of so long ones
abbrev pub table_held : List (List ℤ) → Result (List (List ℤ)) Refusal
table_held rows =
    answered
    (checked (nat_le (length rows) 13) GlueCount
    (checked (all_short rows) Length
    (Ok tt)))
    rows

-- rows as they are handed over
abbrev pub slices : List (Bor (List ℤ)) → List (List ℤ)
slices rows = map (λ r. r.now) rows
