-- A kind that is fit has as many cells as it is asked for.
use Rattle.std.proofs.Common.{◌≡◌, ℕ, Bool, true, false, Ok, ◌==◌, List, length, ℤ, refl, sym}
use Rattle.std.proofs.lemmas.Bool.{eqb-true}
use Rattle.finders.specs.declared.refusals.Refusal.{Refusal}
use Rattle.finders.specs.declared.refusals.Refusal.TheVariants.{Kind, Length, Width}
use Rattle.finders.specs.Meanings.{Meaning, fit, unfit, unfit_unless, fitness_of}
use Rattle.finders.specs.PointFinders.{PointFit, width_of}
use Rattle.finders.proofs.Fitness.{not_err}
use Rattle.lattice_layers.specs.E8.{e8_by_glue, e8_by_words}
use Rattle.finders.specs.Sizes.{in_range}
use Rattle.lattices.specs.Widest.{widest, widest_fit}
use Rattle.lattices.specs.LatticeZ.{lattice_z, rounded}
use Rattle.lattices.specs.LatticeD.{lattice_d, parity, d_pick}
use Rattle.kinds.specs.Kinds.{if_so, set_of}

-- M has n cells, if it is fit
abbrev HasCells : ℕ → Meaning PointFit → Type 0
HasCells n M = fitness_of M ≡ Ok tt → width_of M ≡ n

-- what holds either way holds by any test
pub by_test : (P : Meaning PointFit → Type 0) (b : Bool) (M N : Meaning PointFit) → P M → P N → P (if_so b M N)
by_test P true M N h k = h
by_test P false M N h k = k

unless : (b : Bool) (e : Refusal) (M : Meaning PointFit) (n : ℕ) → (b ≡ true → width_of M ≡ n) → HasCells n (unfit_unless b e M)
unless true e M n h is = h refl
unless false e M n h is = absurd (not_err (sym is))

all_cells : (n : ℕ) (member : List ℤ → Type 0) (pick : List ℤ → ℕ → List ℤ) → HasCells n (widest n member pick)
all_cells n member pick = unless (in_range n) Width (fit (widest_fit n member pick)) n (λ is. refl)

pub as_many_cells : (kind n : ℕ) → HasCells n (set_of kind n)
as_many_cells kind n =
    let eight : (M : Meaning PointFit) → width_of M ≡ 8 → HasCells n (unfit_unless (n == 8) Length M) =
    λ M wide. unless (n == 8) Length M n (λ is. rw (eqb-true n 8 is) wide) in
    by_test (HasCells n) (kind == 1) (lattice_z n) _ (all_cells n (λ x. length x ≡ n) (λ rs q. rounded q rs))
    (by_test (HasCells n) (kind == 2) (lattice_d n) _ (all_cells n (λ x. (length x ≡ n) × (parity x ≡ 0)) d_pick)
    (by_test (HasCells n) (kind == 3) _ _ (eight e8_by_glue refl)
    (by_test (HasCells n) (kind == 4) _ (unfit Kind) (eight e8_by_words refl) (λ is. absurd (not_err (sym is))))))
