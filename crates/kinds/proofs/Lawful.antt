-- The set of every kind keeps the laws of finders.
use Rattle.std.proofs.Common.{ℕ, ◌==◌}
use Rattle.finders.specs.declared.refusals.Refusal.TheVariants.{Kind, Length}
use Rattle.finders.specs.Meanings.{Meaning, unfit, unfit_unless}
use Rattle.finders.specs.PointFinders.{PointFit, PointLaws, Lawful}
use Rattle.finders.proofs.Fitness.{unfit_unless_keeps}
use Rattle.lattice_layers.specs.E8.{e8_by_glue, e8_by_words}
use Rattle.lattice_layers.specs.E8Laws.{e8_by_glue_lawful, e8_by_words_lawful}
use Rattle.lattices.specs.DLaws.{d_lawful}
use Rattle.lattices.specs.LatticeD.{lattice_d}
use Rattle.lattices.specs.LatticeZ.{lattice_z}
use Rattle.lattices.specs.ZLaws.{z_lawful}
use Rattle.kinds.specs.Kinds.{set_of}
use Rattle.kinds.proofs.Widths.{by_test}

pub set_lawful : (kind n : ℕ) → Lawful (set_of kind n)
set_lawful kind n =
    let eight : (M : Meaning PointFit) → Lawful M → Lawful (unfit_unless (n == 8) Length M) =
    λ M h. unfit_unless_keeps PointLaws (n == 8) Length M (λ _. h) in
    by_test Lawful (kind == 1) (lattice_z n) _ (z_lawful n)
    (by_test Lawful (kind == 2) (lattice_d n) _ (d_lawful n)
    (by_test Lawful (kind == 3) (unfit_unless (n == 8) Length e8_by_glue) _ (eight e8_by_glue e8_by_glue_lawful)
    (by_test Lawful (kind == 4) (unfit_unless (n == 8) Length e8_by_words) (unfit Kind) (eight e8_by_words e8_by_words_lawful) tt)))
