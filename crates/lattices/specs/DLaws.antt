-- The laws of D: no point of even sum is nearer than the rounded point, or than the repaired one where the rounded sum is odd.
use Rattle.std.specs.Prelude.{◌≡◌, ℕ, ◌≤◌, List, length, ℤ, ◌==◌, ◌≢◌}
use Rattle.std.proofs.Common.{sym, ◌∙◌, arith}
use Rattle.std.proofs.lemmas.Bool.{eqb-true, eqb-false, cond_both}
use Rattle.finders.specs.Points.{distance, SmallResidues}
use Rattle.finders.specs.PointFinders.{Lawful}
use Rattle.lattices.specs.LatticeZ.{rounded}
use Rattle.lattices.specs.LatticeD.{parity, repaired, d_pick, lattice_d}
use Rattle.lattices.specs.RoundedCells.{length_rounded, near_rounded, rounded_is_nearest}
use Rattle.lattices.specs.WidestLaws.{widest_lawful}
use Rattle.lattices.specs.Repair.{repair_costs, other_parity_costs, repair_turns, near_repaired, length_repaired}

-- what holds of the rounded point where its sum is even, and of the repaired one where not, holds of the pick
by_parity : (q : ℕ) (rs : List ℤ) (P : List ℤ → Type 0) → (parity (rounded q rs) ≡ 0 → P (rounded q rs)) → ((parity (rounded q rs) ≢ 0) → P (repaired q rs)) → P (d_pick rs q)
by_parity q rs P even odd = cond_both (parity (rounded q rs) == 0) (rounded q rs) (repaired q rs) P (λ e. even (eqb-true (parity (rounded q rs)) 0 e)) (λ e. odd (eqb-false (parity (rounded q rs)) 0 e))

pub pick_is_even : (q : ℕ) (rs : List ℤ) → 1 ≤ length rs → parity (d_pick rs q) ≡ 0
pick_is_even q rs k = by_parity q rs (λ x. parity x ≡ 0) (λ e. e) (λ o. let t = repair_turns q rs k in omega arith)

pub none_is_nearer : (q : ℕ) (rs y : List ℤ) → 1 ≤ q → 1 ≤ length rs → length y ≡ length rs → parity y ≡ 0 → distance q rs (d_pick rs q) ≤ distance q rs y
none_is_nearer q rs y p k l e = by_parity q rs (λ x. distance q rs x ≤ distance q rs y)
    (λ _. rounded_is_nearest q rs y p l)
    (λ o. omega (arith, repair_costs q rs p k, other_parity_costs q rs y p l (λ f. o (sym f ∙ e))))

pub d_lawful : (n : ℕ) → Lawful (lattice_d n)
d_lawful n = widest_lawful n (λ x. (length x ≡ n) × (parity x ≡ 0)) d_pick
    (λ x m. m.0)
    (λ rs q some a. (by_parity q rs (λ x. length x ≡ n) (λ _. length_rounded q rs ∙ a.as_wide) (λ _. length_repaired q rs ∙ a.as_wide), pick_is_even q rs some))
    (λ rs q some a y m. none_is_nearer q rs y a.step_from_one some (m.0 ∙ sym a.as_wide) m.1)
    (λ rs q some a. by_parity q rs (SmallResidues q rs) (λ _. near_rounded q rs a.step_from_one a.step_within) (λ _. near_repaired q rs a.step_from_one a.step_within some))
