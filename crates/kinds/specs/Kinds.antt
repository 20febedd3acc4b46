-- The kinds of lattices, and the set of each.
use Rattle.std.specs.Prelude.{ℕ, ◌==◌, Bool, true, false}
use Rattle.finders.specs.declared.refusals.Refusal.TheVariants.{Kind, Length}
use Rattle.finders.specs.Meanings.{Meaning, unfit, unfit_unless}
use Rattle.finders.specs.PointFinders.{PointFit}
use Rattle.lattice_layers.specs.E8.{e8_by_glue, e8_by_words}
use Rattle.lattices.specs.LatticeZ.{lattice_z}
use Rattle.lattices.specs.LatticeD.{lattice_d}

-- M where the test holds, and else N
abbrev pub if_so : Bool → Meaning PointFit → Meaning PointFit → Meaning PointFit
if_so true M N = M
if_so false M N = N

-- the set of a kind, in n cells: both forms of E8 have eight
abbrev pub set_of : ℕ → ℕ → Meaning PointFit
set_of kind n =
    if_so (kind == 1) (lattice_z n)
    (if_so (kind == 2) (lattice_d n)
    (if_so (kind == 3) (unfit_unless (n == 8) Length e8_by_glue)
    (if_so (kind == 4) (unfit_unless (n == 8) Length e8_by_words)
    (unfit Kind))))
