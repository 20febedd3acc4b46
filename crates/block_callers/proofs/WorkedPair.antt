-- The worked pair over D of two cells at the step 10.
use Rattle.std.proofs.Common.{◌≡◌, List, [], ◌∷◌, ℤ, pos, Ok, refl, ap}
use Rattle.finders.specs.Meanings.{Meaning, fit, unfit}
use Rattle.finders.specs.PointFinders.{PointFit, Same, width_of}
use Rattle.lattices.specs.LatticeD.{lattice_d}
use Rattle.blocks.specs.Senses.{total}
use Rattle.blocks.specs.Calls.{open_checked, decided_point, decided_total}

abbrev pub worked_pair : List (List ℤ)
worked_pair = (pos 5 ∷ pos 6 ∷ []) ∷ (pos 15 ∷ pos 4 ∷ []) ∷ []

pub record IsWorked (M : Meaning PointFit) : Type 0 where
  pub opens : open_checked M 10 ≡ Ok tt
  pub width : width_of M ≡ 2
  pub point : decided_point M 10 worked_pair ≡ pos 1 ∷ pos 1 ∷ []
  pub total : decided_total M 10 worked_pair ≡ 102

pub worked : (M : Meaning PointFit) → Same M (lattice_d 2) → IsWorked M
worked (unfit e) s = absurd s
worked (fit m) s =
    let at : m.pick (pos 20 ∷ pos 10 ∷ []) 20 ≡ pos 1 ∷ pos 1 ∷ [] = s.same_picks (pos 20 ∷ pos 10 ∷ []) 20 in
    let point : decided_point (fit m) 10 worked_pair ≡ pos 1 ∷ pos 1 ∷ [] = rw s.same_width at in
    record {
      opens = rw (s.same_step_limit, s.same_reading_limit) refl;
      width = s.same_width;
      point = point;
      total = ap (total 10 worked_pair) point;
    }
