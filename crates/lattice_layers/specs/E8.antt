-- The lattice E8 in two ways.
use Rattle.std.specs.Prelude.{[], ◌∷◌, replicate, pos}
use Rattle.finders.specs.Meanings.{Meaning}
use Rattle.finders.specs.PointFinders.{PointFit}
use Rattle.codes.specs.ReedMuller.{reed_muller}
use Rattle.lattices.specs.LatticeD.{lattice_d}
use Rattle.lattice_layers.specs.ConstructionA.{construction_a}
use Rattle.lattice_layers.specs.Glue.{glued}
use Rattle.lattice_layers.specs.Scale.{scaled}

-- twice D of 8 cells, and the same moved by eight ones
abbrev pub e8_by_glue : Meaning PointFit
e8_by_glue = glued (replicate 8 (pos 1) ∷ []) (scaled 2 (lattice_d 8))

-- the points whose parities form a word of the Reed-Muller code of 8 cells
abbrev pub e8_by_words : Meaning PointFit
e8_by_words = construction_a (reed_muller 3)
