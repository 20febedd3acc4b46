-- What is promised of each layer of points, over any meaning below, fit or not.
use Rattle.std.specs.Prelude.{◌≡◌, ℕ, ◌+◌, ◌-◌, ◌*◌, ◌/◌, ◌^◌, ◌<◌, ◌↔◌, min, List, ◌++◌, map, length, take, drop}
use Rattle.std.specs.Prelude.{ℤ, Ok, Result, nat_le}
use Rattle.integers.specs.Sums.{plus}
use Rattle.finders.specs.declared.points.PointShape.{PointShape}
use Rattle.finders.specs.declared.refusals.Refusal.{Refusal}
use Rattle.finders.specs.declared.refusals.Refusal.TheVariants.{Width, Length, GlueCount, Entry, Exhausted, Factor}
use Rattle.finders.specs.Choice.{first_best, no_larger, IsFirst}
use Rattle.finders.specs.Meanings.{Meaning, fitness_of, checked, placed, and_then}
use Rattle.finders.specs.Points.{distance}
use Rattle.finders.specs.PointFinders.{PointFit, Lawful, Member, shape_of, width_of, reading_limit_of}
use Rattle.finders.specs.PointFinders.{step_limit_of, find_checked, find_answer, find_place}
use Rattle.finders.specs.Sizes.{in_range}
use Rattle.finders.specs.WordFinders.{WordFit, Member as WordMember, width_of as word_width_of, gain_limit_of}
use Rattle.finders.specs.WordFinders.{find_answer as word_answer}
use Rattle.lattice_layers.specs.ConstructionA.{gain, parities, with_parities, construction_a}
use Rattle.lattice_layers.specs.Glue.{taken_off, sum_numbers, glued}
use Rattle.lattice_layers.specs.Join.{joined}
use Rattle.lattice_layers.specs.Rows.{row_sum, all_as_wide, all_within, reach}
use Rattle.lattice_layers.specs.Scale.{times, factor_in_range, scaled}
use Rattle.guarantees.specs.Answers.{with_answer, with_answers, word_in, distance_in}

-- What is told of a layer by what is below it: the first refusal that makes it unfit, or Ok; and where it is fit its
-- shape, its set, and what a find of readings at a step answers and writes, with this place, where its check grants it.
pub record PointsTold : Type 1 where
  pub fitness : Result (Unit {0}) Refusal
  pub shape : PointShape
  pub member : List ℤ → Type 0
  pub answer : List ℤ → ℕ → List ℤ → Result ℕ Refusal
  pub point : List ℤ → ℕ → List ℤ → List ℤ

-- what a find is refused for, first that applies
abbrev pub find_check : PointsTold → List ℤ → ℕ → List ℤ → Result (Unit {0}) Refusal
find_check t rs q place =
    and_then t.fitness
    (find_checked t.shape.width t.shape.reading_limit t.shape.step_limit rs q (length place))

-- A layer that means L is as told, ties included. It is lawful too: what a find writes is a nearest member of the set,
-- at the distance that it answers.
pub record PointsPromise (L : Meaning PointFit) (t : PointsTold) : Type 0 where
  pub is_fit_unless_refused : fitness_of L ≡ t.fitness
  pub has_the_shape : t.fitness ≡ Ok tt → shape_of L ≡ Ok t.shape
  pub has_the_members : t.fitness ≡ Ok tt → (x : List ℤ) → Member L x ↔ t.member x
  pub answers_the_distance : (rs place : List ℤ) (q : ℕ)
      → find_answer L rs q place ≡ and_then (find_check t rs q place) (t.answer rs q place)
  pub writes_the_point : (rs place : List ℤ) (q : ℕ)
      → find_place L rs q place ≡ placed (find_check t rs q place) (t.point rs q place) place
  pub is_lawful : Lawful L

-- ---- the layers

-- Construction A: the points whose parities form a word below. Written is the nearest point of the word that is found
-- below for the gains of the readings.
abbrev pub ConstructionAPromise : Meaning WordFit → Type 0
ConstructionAPromise M = PointsPromise (construction_a M) (record {
  fitness = fitness_of M;
  shape = record { width = word_width_of M; reading_limit = 2 ^ 30; step_limit = min (2 ^ 20) (gain_limit_of M) };
  member = λ x. (length x ≡ word_width_of M) × WordMember M (parities x);
  answer = λ rs q place. with_answer (λ r. distance q rs (with_parities r.0 q rs)) (word_answer M (map (gain q) rs));
  point = λ rs q place. with_parities (word_in (word_answer M (map (gain q) rs))) q rs;
})

-- Scale by k: each point times k. What is found below at the step k * q is found at q.
abbrev pub ScalePromise : ℕ → Meaning PointFit → Type 0
ScalePromise k M = PointsPromise (scaled k M) (record {
  fitness =
      and_then (fitness_of M)
      (checked (factor_in_range k) Factor
      (checked (nat_le 1 (step_limit_of M / k)) Exhausted
      (Ok tt)));
  shape = record { width = width_of M; reading_limit = reading_limit_of M; step_limit = step_limit_of M / k };
  member = λ x. (p : List ℤ) × Member M p × (x ≡ times k p);
  answer = λ rs q place. find_answer M rs (k * q) place;
  point = λ rs q place. times k (find_place M rs (k * q) place);
})

-- Join: a point of the first, and after it a point of the second. Each part is found for its readings, and the
-- distances are added.
abbrev pub PointJoinPromise : Meaning PointFit → Meaning PointFit → Type 0
PointJoinPromise M N = PointsPromise (joined M N) (record {
  fitness =
      and_then (fitness_of M)
      (and_then (fitness_of N)
      (checked (in_range (width_of M + width_of N)) Width
      (Ok tt)));
  shape = record {
    width = width_of M + width_of N;
    reading_limit = min (reading_limit_of M) (reading_limit_of N);
    step_limit = min (step_limit_of M) (step_limit_of N);
  };
  member = λ x. Member M (take (width_of M) x) × Member N (drop (width_of M) x);
  answer = λ rs q place.
      with_answers ◌+◌
      (find_answer M (take (width_of M) rs) q (take (width_of M) place))
      (find_answer N (drop (width_of M) rs) q (drop (width_of M) place));
  point = λ rs q place.
      find_place M (take (width_of M) rs) q (take (width_of M) place)
      ++ find_place N (drop (width_of M) rs) q (drop (width_of M) place);
})

-- Glue: the points below, each moved by each sum of the rows. For each sum what is below is asked with the readings
-- that have the step times the sum taken off. The least distance wins, and of equal ones that of the first sum.
module _ (rows : List (List ℤ)) (M : Meaning PointFit) where
  abbrev pub sum_at : ℕ → List ℤ
  sum_at = row_sum (width_of M) rows

  -- what is answered and written below for the sum with number j
  abbrev pub answer_below : List ℤ → (q : ℕ) → List ℤ → (j : ℕ) → Result ℕ Refusal
  answer_below rs q place j = find_answer M (taken_off q (sum_at j) rs) q place

  abbrev pub point_below : List ℤ → (q : ℕ) → List ℤ → (j : ℕ) → List ℤ
  point_below rs q place j = find_place M (taken_off q (sum_at j) rs) q place

  -- the distances that are answered below, in the order of the sums, and the number of the sum that has the first of
  -- the least
  abbrev pub distances_below : List ℤ → ℕ → List ℤ → List ℕ
  distances_below rs q place = map (λ j. distance_in (answer_below rs q place j)) (sum_numbers rows)

  abbrev pub nearest_sum : List ℤ → ℕ → List ℤ → ℕ
  nearest_sum rs q place = first_best no_larger (distances_below rs q place)

  pub record PointGluePromise : Type 0 where
    pub is_a_layer : PointsPromise (glued rows M) (record {
      fitness =
          and_then (fitness_of M)
          (checked (nat_le (length rows) 13) GlueCount
          (checked (all_as_wide (width_of M) rows) Length
          (checked (all_within 1024 rows) Entry
          (checked (nat_le 1 (reading_limit_of M - reach rows * step_limit_of M)) Exhausted
          (Ok tt)))));
      shape = record {
        width = width_of M;
        reading_limit = reading_limit_of M - reach rows * step_limit_of M;
        step_limit = step_limit_of M;
      };
      member = λ x. (j : ℕ) × (c : List ℤ) × (j < 2 ^ length rows) × Member M c × (x ≡ plus (sum_at j) c);
      answer = λ rs q place. answer_below rs q place (nearest_sum rs q place);
      point = λ rs q place. plus (sum_at (nearest_sum rs q place)) (point_below rs q place (nearest_sum rs q place));
    })
    -- where the whole answers a distance, no find below is refused
    pub each_sum_is_found : (rs place : List ℤ) (q d : ℕ) → find_answer (glued rows M) rs q place ≡ Ok d
        → (j : ℕ) → (c : ℕ) × (answer_below rs q place j ≡ Ok c)
    pub the_first_of_the_least_wins : (rs place : List ℤ) (q : ℕ)
        → IsFirst no_larger 0 (distances_below rs q place) (nearest_sum rs q place)
