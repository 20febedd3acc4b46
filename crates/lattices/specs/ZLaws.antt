-- The laws of Z.
use Rattle.std.specs.Prelude.{◌≡◌, ℕ, length}
use Rattle.std.proofs.Common.{sym, ◌∙◌}
use Rattle.finders.specs.PointFinders.{Lawful}
use Rattle.lattices.specs.LatticeZ.{rounded, lattice_z}
use Rattle.lattices.specs.RoundedCells.{length_rounded, near_rounded, rounded_is_nearest}
use Rattle.lattices.specs.WidestLaws.{widest_lawful}

pub z_lawful : (n : ℕ) → Lawful (lattice_z n)
z_lawful n = widest_lawful n (λ x. length x ≡ n) (λ rs q. rounded q rs)
    (λ x m. m)
    (λ rs q some a. length_rounded q rs ∙ a.as_wide)
    (λ rs q some a x m. rounded_is_nearest q rs x a.step_from_one (m ∙ sym a.as_wide))
    (λ rs q some a. near_rounded q rs a.step_from_one a.step_within)
