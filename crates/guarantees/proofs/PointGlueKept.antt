-- What is promised of Glue of points is kept.
use Rattle.std.proofs.Common.{◌≡◌, ℕ, ◌-◌, ◌*◌, true, leb, List, length, ℤ, Ok, Result, sym, refl, ap, ◌∙◌, pow_pos}
use Rattle.std.proofs.lemmas.Bool.{leb-true}
use Rattle.std.proofs.lemmas.List.{length-map}
use Rattle.std.proofs.lemmas.List.FromFn.{length-range_with_len}
use Rattle.integers.specs.Sums.{plus}
use Rattle.finders.specs.declared.refusals.Refusal.{Refusal}
use Rattle.finders.specs.declared.refusals.Refusal.TheVariants.{GlueCount, Length, Entry, Exhausted}
use Rattle.finders.specs.Choice.{no_larger, IsFirst}
use Rattle.finders.specs.Meanings.{Meaning, fit, unfit, fitness_of, checked}
use Rattle.finders.specs.Points.{distance}
use Rattle.finders.specs.PointFinders.{PointFit, Asked, Lawful, find_checked, find_answer}
use Rattle.finders.proofs.Fitness.{not_err}
use Rattle.finders.proofs.FirstNumbers.{first_best_alike}
use Rattle.finders.proofs.Firsts.{first_best_is}
use Rattle.finders.proofs.GrantedPoints.{found_at}
use Rattle.finders.proofs.Scores.{no_larger_total, no_larger_chain}
use Rattle.lattice_layers.specs.Glue.{taken_off, sum_numbers, score, best_sum, glued_fit, glued}
use Rattle.lattice_layers.specs.GlueLaws.{distance_moved, asked_below, glued_lawful}
use Rattle.lattice_layers.specs.Rows.{row_sum, all_as_wide, all_within, reach}
use Rattle.guarantees.specs.Answers.{distance_in}
use Rattle.guarantees.specs.PointLayers.{PointsTold, answer_below, point_below, distances_below, nearest_sum, PointGluePromise}
use Rattle.guarantees.proofs.Cases.{by_test, fitness_by_test, granted_at}
use Rattle.guarantees.proofs.PointsKept.{asked, Kept, kept_unfit, told, AsPicked, kept_fit}

module _ (rows : List (List ℤ)) (m : PointFit) where
  abbrev sum : ℕ → List ℤ
  sum = row_sum m.width rows

  abbrev left : ℕ
  left = m.reading_limit - reach rows * m.step_limit

  -- what is answered and written below for each sum
  module _
      (wide : all_as_wide m.width rows ≡ true) (some : leb 1 left ≡ true)
      (rs place : List ℤ) (q : ℕ) (a : Asked (glued_fit rows m) rs q) (e : length place ≡ m.width) where
    abbrev below : ℕ → List ℤ
    below j = m.pick (taken_off q (sum j) rs) q

    found : (j : ℕ) → (answer_below rows (fit m) rs q place j ≡ Ok (score rows m.width m.pick rs q j)) × (point_below rows (fit m) rs q place j ≡ below j)
    found j =
        let f = found_at m (taken_off q (sum j) rs) place q (asked_below rows m wide (leb-true 1 left some) rs q j a) e in
        (f.0 ∙ ap (λ (d : ℕ). Ok d) (sym (distance_moved q rs (sum j) (below j))), f.1)

    same_sum : nearest_sum rows (fit m) rs q place ≡ best_sum rows m.width m.pick rs q
    same_sum =
        first_best_alike no_larger (λ j. distance_in (answer_below rows (fit m) rs q place j)) (score rows m.width m.pick rs q)
        (λ j. ap distance_in (found j).0) (sum_numbers rows)

  abbrev answer : List ℤ → ℕ → List ℤ → Result ℕ Refusal
  answer rs q place = answer_below rows (fit m) rs q place (nearest_sum rows (fit m) rs q place)

  abbrev point : List ℤ → ℕ → List ℤ → List ℤ
  point rs q place = let j = nearest_sum rows (fit m) rs q place in plus (sum j) (point_below rows (fit m) rs q place j)

  abbrev fitness : Result (Unit {0}) Refusal
  fitness =
      checked (leb (length rows) 13) GlueCount
      (checked (all_as_wide m.width rows) Length
      (checked (all_within 1024 rows) Entry
      (checked (leb 1 left) Exhausted
      (Ok tt))))

  picks : all_as_wide m.width rows ≡ true → leb 1 left ≡ true → AsPicked (glued_fit rows m) fitness answer point
  picks wide some rs place q a e =
      let best = best_sum rows m.width m.pick rs q in
      let same = same_sum wide some rs place q a e in
      let f = found wide some rs place q a e best in (
        ap (answer_below rows (fit m) rs q place) same ∙ f.0,
        ap (λ (j : ℕ). plus (sum j) (point_below rows (fit m) rs q place j)) same ∙ ap (plus (sum best)) f.1,
      )

  abbrev glue_told : PointsTold
  glue_told = told (glued_fit rows m) fitness answer point

  -- what holds of the glued points where they are unfit, and where they have passed the tests
  by_tests : (P : Meaning PointFit → Type 0) → ((e : Refusal) → P (unfit e))
      → (all_as_wide m.width rows ≡ true → leb 1 left ≡ true → P (fit (glued_fit rows m)))
      → P (glued rows (fit m))
  by_tests P none h =
      by_test P none (leb (length rows) 13) GlueCount _ (λ few.
      by_test P none (all_as_wide m.width rows) Length _ (λ wide.
      by_test P none (all_within 1024 rows) Entry _ (λ small.
      by_test P none (leb 1 left) Exhausted (fit (glued_fit rows m)) (λ some.
      h wide some))))

  kept : Kept glue_told (glued rows (fit m))
  kept = by_tests (Kept glue_told) (kept_unfit glue_told) (λ wide some. kept_fit (glued_fit rows m) fitness answer point (picks wide some))

  fitness_is : fitness_of (glued rows (fit m)) ≡ fitness
  fitness_is =
      fitness_by_test (leb (length rows) 13) GlueCount _ _
      (fitness_by_test (all_as_wide m.width rows) Length _ _
      (fitness_by_test (all_within 1024 rows) Entry _ _
      (fitness_by_test (leb 1 left) Exhausted (fit (glued_fit rows m)) (Ok tt) refl)))

  -- where L answers, each sum is found below
  abbrev EachFound : Meaning PointFit → Type 0
  EachFound L = (rs place : List ℤ) (q d : ℕ) → find_answer L rs q place ≡ Ok d
      → (j : ℕ) → (c : ℕ) × (answer_below rows (fit m) rs q place j ≡ Ok c)

  each_found : EachFound (glued rows (fit m))
  each_found = by_tests EachFound (λ e rs place q d h. absurd (not_err (sym h))) (λ wide some rs place q d h j.
      let check = find_checked m.width left m.step_limit rs q (length place) in
      let a = asked (glued_fit rows m) rs place q (granted_at check (distance q rs ((glued_fit rows m).pick rs q)) d h) in
      (score rows m.width m.pick rs q j, (found wide some rs place q a.0 a.1 j).0))

first_of_the_least : (rows : List (List ℤ)) (M : Meaning PointFit) (rs place : List ℤ) (q : ℕ)
    → IsFirst no_larger 0 (distances_below rows M rs q place) (nearest_sum rows M rs q place)
first_of_the_least rows M rs place q =
    first_best_is no_larger no_larger_total no_larger_chain 0 (distances_below rows M rs q place)
    (rw (length-map, length-range_with_len) (pow_pos (length rows)))

pub point_glue_kept : (rows : List (List ℤ)) (M : Meaning PointFit) → Lawful M → PointGluePromise rows M
point_glue_kept rows (unfit e) l = record {
  is_a_layer = kept_unfit _ e refl tt;
  each_sum_is_found = λ rs place q d h. absurd (not_err (sym h));
  the_first_of_the_least_wins = first_of_the_least rows (unfit e);
}
point_glue_kept rows (fit m) l = record {
  is_a_layer = kept rows m (fitness_is rows m) (glued_lawful (Ok rows) (fit m) l);
  each_sum_is_found = each_found rows m;
  the_first_of_the_least_wins = first_of_the_least rows (fit m);
}
