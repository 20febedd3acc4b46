-- What is promised of Join of points is kept.
use Rattle.std.proofs.Common.{◌≡◌, ℕ, ◌+◌, List, ◌++◌, take, drop, ℤ, Ok, Result, sym, refl, ap, ap₂, ◌∙◌, arith}
use Rattle.std.proofs.lemmas.List.{length-take-le, length-drop}
use Rattle.finders.specs.declared.refusals.Refusal.{Refusal}
use Rattle.finders.specs.declared.refusals.Refusal.TheVariants.{Width}
use Rattle.finders.specs.Meanings.{Meaning, fit, unfit, fitness_of, checked}
use Rattle.finders.specs.PointFinders.{PointFit, PointLaws, Lawful, find_answer, find_place}
use Rattle.finders.specs.Sizes.{in_range}
use Rattle.finders.proofs.GrantedPoints.{found_at}
use Rattle.lattice_layers.specs.Join.{joined_fit, joined}
use Rattle.lattice_layers.specs.JoinLaws.{asked_first, asked_second, first_wide, distance_joined, joined_lawful}
use Rattle.guarantees.specs.Answers.{with_answers}
use Rattle.guarantees.specs.PointLayers.{PointsTold, PointJoinPromise}
use Rattle.guarantees.proofs.Cases.{by_test, fitness_by_test}
use Rattle.guarantees.proofs.PointsKept.{Kept, kept_unfit, told, AsPicked, kept_fit}

module _ (m n : PointFit) (l : PointLaws m) (k : PointLaws n) where
  abbrev answer : List ℤ → ℕ → List ℤ → Result ℕ Refusal
  answer rs q place =
      with_answers ◌+◌
      (find_answer (fit m) (take m.width rs) q (take m.width place))
      (find_answer (fit n) (drop m.width rs) q (drop m.width place))

  abbrev point : List ℤ → ℕ → List ℤ → List ℤ
  point rs q place = find_place (fit m) (take m.width rs) q (take m.width place) ++ find_place (fit n) (drop m.width rs) q (drop m.width place)

  abbrev fitness : Result (Unit {0}) Refusal
  fitness = checked (in_range (m.width + n.width)) Width (Ok tt)

  picks : AsPicked (joined_fit m n) fitness answer point
  picks rs place q a e =
      let front = found_at m (take m.width rs) (take m.width place) q (asked_first m n l k rs q a) (length-take-le m.width place (omega (arith, e))) in
      let back = found_at n (drop m.width rs) (drop m.width place) q (asked_second m n l k rs q a) (omega (arith, length-drop m.width place, e)) in
      let first : List ℤ = m.pick (take m.width rs) q in
      let second : List ℤ = n.pick (drop m.width rs) q in (
        ap₂ (with_answers ◌+◌) front.0 back.0 ∙ ap (λ (d : ℕ). Ok d) (sym (distance_joined m.width first second (first_wide m n l k rs q a) q rs)),
        ap₂ ◌++◌ front.1 back.1,
      )

  abbrev join_told : PointsTold
  join_told = told (joined_fit m n) fitness answer point

  kept : Kept join_told (joined (fit m) (fit n))
  kept =
      by_test (Kept join_told) (kept_unfit join_told) (in_range (m.width + n.width)) Width (fit (joined_fit m n)) (λ range.
      kept_fit (joined_fit m n) fitness answer point picks)

  fitness_is : fitness_of (joined (fit m) (fit n)) ≡ fitness
  fitness_is = fitness_by_test (in_range (m.width + n.width)) Width (fit (joined_fit m n)) (Ok tt) refl

pub point_join_kept : (M N : Meaning PointFit) → Lawful M → Lawful N → PointJoinPromise M N
point_join_kept (unfit e) N l k = kept_unfit _ e refl tt
point_join_kept (fit m) (unfit e) l k = kept_unfit _ e refl tt
point_join_kept (fit m) (fit n) l k = kept m n l k (fitness_is m n l k) (joined_lawful (fit m) (fit n) l k)
