-- What is promised of Scale is kept.
use Rattle.std.proofs.Common.{◌≡◌, ℕ, ◌*◌, ◌/◌, true, leb, List, ℤ, Ok, Result, sym, refl, ap, ◌∙◌, arith}
use Rattle.finders.specs.declared.refusals.Refusal.{Refusal}
use Rattle.finders.specs.declared.refusals.Refusal.TheVariants.{Factor, Exhausted}
use Rattle.finders.specs.Meanings.{Meaning, fit, unfit, fitness_of, checked}
use Rattle.finders.specs.PointFinders.{PointFit, PointLaws, Lawful, find_answer, find_place}
use Rattle.finders.proofs.GrantedPoints.{found_at}
use Rattle.lattice_layers.specs.Scale.{times, scaled_fit, factor_in_range, scaled}
use Rattle.lattice_layers.specs.ScaleLaws.{distance_scaled, factor_range, asked_below, scaled_lawful}
use Rattle.guarantees.specs.PointLayers.{PointsTold, ScalePromise}
use Rattle.guarantees.proofs.Cases.{by_test, fitness_by_test}
use Rattle.guarantees.proofs.PointsKept.{Kept, kept_unfit, told, AsPicked, kept_fit}

module _ (k : ℕ) (m : PointFit) (l : PointLaws m) where
  abbrev answer : List ℤ → ℕ → List ℤ → Result ℕ Refusal
  answer rs q place = find_answer (fit m) rs (k * q) place

  abbrev point : List ℤ → ℕ → List ℤ → List ℤ
  point rs q place = times k (find_place (fit m) rs (k * q) place)

  abbrev fitness : Result (Unit {0}) Refusal
  fitness = checked (factor_in_range k) Factor (checked (leb 1 (m.step_limit / k)) Exhausted (Ok tt))

  picks : factor_in_range k ≡ true → AsPicked (scaled_fit k m) fitness answer point
  picks range rs place q a e =
      let below = found_at m rs place (k * q) (asked_below k m l (omega (arith, factor_range k range)) rs q a) e in
      (below.0 ∙ ap (λ (d : ℕ). Ok d) (sym (distance_scaled k q rs (m.pick rs (k * q)))), ap (times k) below.1)

  abbrev scale_told : PointsTold
  scale_told = told (scaled_fit k m) fitness answer point

  kept : Kept scale_told (scaled k (fit m))
  kept =
      by_test (Kept scale_told) (kept_unfit scale_told) (factor_in_range k) Factor _ (λ range.
      by_test (Kept scale_told) (kept_unfit scale_told) (leb 1 (m.step_limit / k)) Exhausted (fit (scaled_fit k m)) (λ step.
      kept_fit (scaled_fit k m) fitness answer point (picks range)))

  fitness_is : fitness_of (scaled k (fit m)) ≡ fitness
  fitness_is =
      fitness_by_test (factor_in_range k) Factor _ _
      (fitness_by_test (leb 1 (m.step_limit / k)) Exhausted (fit (scaled_fit k m)) (Ok tt) refl)

pub scale_kept : (k : ℕ) (M : Meaning PointFit) → Lawful M → ScalePromise k M
scale_kept k (unfit e) l = kept_unfit _ e refl tt
scale_kept k (fit m) l = kept k m l (fitness_is k m l) (scaled_lawful k (fit m) l)
