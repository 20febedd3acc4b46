-- What is promised of a layer of points is kept where it is unfit, and where it is fit by what its pick comes to.
use Rattle.std.proofs.Common.{◌≡◌, ℕ, List, length, ℤ, Ok, Result, sym, refl, ◌∙◌}
use Rattle.finders.specs.declared.points.PointShape.{PointShape}
use Rattle.finders.specs.declared.refusals.Refusal.{Refusal}
use Rattle.finders.specs.Meanings.{Meaning, fit, unfit, fitness_of}
use Rattle.finders.specs.Points.{distance}
use Rattle.finders.specs.PointFinders.{PointFit, Asked, Lawful, find_checked}
use Rattle.finders.proofs.Fitness.{not_err}
use Rattle.finders.proofs.GrantedPoints.{find_asked}
use Rattle.guarantees.specs.PointLayers.{PointsTold, PointsPromise}
use Rattle.guarantees.proofs.Cases.{answers_at, writes_at}

-- a find that a fit finder grants was asked as it should be, with a place as wide
pub asked : (m : PointFit) (rs place : List ℤ) (q : ℕ) → find_checked m.width m.reading_limit m.step_limit rs q (length place) ≡ Ok tt
    → Asked m rs q × (length place ≡ m.width)
asked m rs place q h =
    let shape : PointShape = record { width = m.width; reading_limit = m.reading_limit; step_limit = m.step_limit } in
    find_asked m shape rs q (length place) (record { width = refl; reading_limit = refl; step_limit = refl }) (sym h)

-- where L has the fitness that is told, the promise is kept
abbrev pub Kept : PointsTold → Meaning PointFit → Type 0
Kept t L = fitness_of L ≡ t.fitness → Lawful L → PointsPromise L t

pub kept_unfit : (t : PointsTold) (e : Refusal) → Kept t (unfit e)
kept_unfit t e h l = record {
  is_fit_unless_refused = h;
  has_the_shape = λ f. absurd (not_err (sym (h ∙ f)));
  has_the_members = λ f. absurd (not_err (sym (h ∙ f)));
  answers_the_distance = λ rs place q. rw (sym h) refl;
  writes_the_point = λ rs place q. rw (sym h) refl;
  is_lawful = l;
}

module _ (m : PointFit) (fitness : Result (Unit {0}) Refusal) (answer : List ℤ → ℕ → List ℤ → Result ℕ Refusal) (point : List ℤ → ℕ → List ℤ → List ℤ) where
  -- what is told of m, with this fitness
  abbrev pub told : PointsTold
  told = record {
    fitness = fitness;
    shape = record { width = m.width; reading_limit = m.reading_limit; step_limit = m.step_limit };
    member = m.member;
    answer = answer;
    point = point;
  }

  abbrev check : List ℤ → List ℤ → ℕ → Result (Unit {0}) Refusal
  check rs place q = find_checked m.width m.reading_limit m.step_limit rs q (length place)

  -- the answer and the point are those of the pick of m
  abbrev pub Picked : List ℤ → List ℤ → ℕ → Type 0
  Picked rs place q = (answer rs q place ≡ Ok (distance q rs (m.pick rs q))) × (point rs q place ≡ m.pick rs q)

  -- for whatever is asked as it should be
  abbrev pub AsPicked : Type 0
  AsPicked = (rs place : List ℤ) (q : ℕ) → Asked m rs q → length place ≡ m.width → Picked rs place q

  granted : AsPicked → (rs place : List ℤ) (q : ℕ) → check rs place q ≡ Ok tt → Picked rs place q
  granted picks rs place q g = let a = asked m rs place q g in picks rs place q a.0 a.1

  pub kept_fit : AsPicked → Kept told (fit m)
  kept_fit picks h l = record {
    is_fit_unless_refused = h;
    has_the_shape = λ f. refl;
    has_the_members = λ f x. (λ p. p, λ p. p);
    answers_the_distance = λ rs place q.
        rw (sym h) (answers_at (check rs place q) (distance q rs (m.pick rs q)) (answer rs q place) (λ g. (granted picks rs place q g).0));
    writes_the_point = λ rs place q.
        rw (sym h) (writes_at (check rs place q) (m.pick rs q) (point rs q place) place (λ g. (granted picks rs place q g).1));
    is_lawful = l;
  }
