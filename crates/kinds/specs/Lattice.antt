-- A lattice of any kind: it means what the finder that it is means, and keeps the laws that this keeps.
use Rattle.finders.specs.Meanings.{Meaning, unfit}
use Rattle.finders.specs.PointFinders.{PointFit, Lawful}
use Rattle.codes.specs.declared.reed_muller.ReedMuller.{ReedMuller}
use Rattle.lattice_layers.specs.declared.construction_a.ConstructionA.{ConstructionA}
use Rattle.lattice_layers.specs.declared.glue.Glue.{Glue}
use Rattle.lattice_layers.specs.declared.scale.Scale.{Scale}
use Rattle.lattices.specs.declared.lattice_d.LatticeD.{LatticeD}
use Rattle.lattices.specs.declared.lattice_z.LatticeZ.{LatticeZ}
use Rattle.kinds.specs.declared.lattice.Lattice.{Lattice}
use Rattle.kinds.specs.declared.lattice.Lattice.TheVariants as lattice

-- the meanings of finders of one type
abbrev pub MeaningOf : Type 0 → Type 1
MeaningOf F = F → Meaning PointFit

-- the meaning of a lattice, by those of the finders that it may be
abbrev pub meaning_by : MeaningOf LatticeZ → MeaningOf LatticeD → MeaningOf (Glue (Scale LatticeD)) →
    MeaningOf (ConstructionA ReedMuller) → MeaningOf Lattice
meaning_by z d glue words (lattice.Z x) = z x
meaning_by z d glue words (lattice.D x) = d x
meaning_by z d glue words (lattice.E8ByGlue x) = glue x
meaning_by z d glue words (lattice.E8ByWords x) = words x
meaning_by z d glue words (lattice.Unfit e) = unfit e

-- ---- its laws

-- every finder of a type keeps its laws
abbrev pub AreLawful : {F : Type 0} → MeaningOf F → Type 0
AreLawful {F} meaning = (x : F) → Lawful (meaning x)

pub lattice_lawful : (z : MeaningOf LatticeZ) (d : MeaningOf LatticeD) (glue : MeaningOf (Glue (Scale LatticeD)))
    (words : MeaningOf (ConstructionA ReedMuller)) →
    AreLawful z → AreLawful d → AreLawful glue → AreLawful words → AreLawful (meaning_by z d glue words)
lattice_lawful z d glue words h i j k (lattice.Z x) = h x
lattice_lawful z d glue words h i j k (lattice.D x) = i x
lattice_lawful z d glue words h i j k (lattice.E8ByGlue x) = j x
lattice_lawful z d glue words h i j k (lattice.E8ByWords x) = k x
lattice_lawful z d glue words h i j k (lattice.Unfit e) = tt
