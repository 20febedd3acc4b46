-- The sets that a task can name.
use Rattle.std.specs.Prelude.{ℕ, cond, List, Ok, Err, codes, Result}
use Rattle.std.specs.Str.{bytes_eq as same_text}
use Rattle.finders.specs.declared.refusals.Refusal.{Refusal}
use Rattle.finders.specs.declared.refusals.Refusal.TheVariants.{Kind}
use Rattle.finders.specs.Meanings.{Meaning}
use Rattle.finders.specs.PointFinders.{PointFit}
use Rattle.codes.specs.EvenWeight.{even_weight}
use Rattle.lattice_layers.specs.ConstructionA.{construction_a}
use Rattle.lattice_layers.specs.E8.{e8_by_glue, e8_by_words}
use Rattle.lattices.specs.LatticeZ.{lattice_z}
use Rattle.lattices.specs.LatticeD.{lattice_d}
use Rattle.nearest.specs.declared.sets.Lattice.{Lattice}
use Rattle.nearest.specs.declared.sets.Lattice.TheVariants.{Z, D, DWords, E8Glue, E8Words}

abbrev pub named : List ℕ → Result Lattice Refusal
named name =
    cond (same_text name (codes "Z")) (Ok Z)
    (cond (same_text name (codes "D")) (Ok D)
    (cond (same_text name (codes "D-words")) (Ok DWords)
    (cond (same_text name (codes "E8-glue")) (Ok E8Glue)
    (cond (same_text name (codes "E8-words")) (Ok E8Words)
    (Err Kind)))))

-- Z and D have n cells, D in either way, and E8 has eight
abbrev pub meaning_of : Lattice → ℕ → Meaning PointFit
meaning_of Z n = lattice_z n
meaning_of D n = lattice_d n
meaning_of DWords n = construction_a (even_weight n)
meaning_of E8Glue n = e8_by_glue
meaning_of E8Words n = e8_by_words
