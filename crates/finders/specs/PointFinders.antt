-- What a finder of points means, the laws of that meaning, and what each of its calls answers.
use Rattle.std.specs.Prelude.{◌≡◌, ℕ, ◌^◌, ◌≤◌, Bool, true, ◌&&◌, List, length, ℤ, Ok, Err, Result, ◌==◌, ◌↔◌, nat_le}
use Rattle.finders.specs.declared.refusals.Refusal.{Refusal}
use Rattle.finders.specs.declared.refusals.Refusal.TheVariants.{Length, Magnitude, Step}
use Rattle.finders.specs.declared.points.PointShape.{PointShape}
use Rattle.finders.specs.Meanings.{Meaning, fit, unfit, Keeps, Agree, or_zero, checked, answered, placed, Tells}
use Rattle.finders.specs.Points.{distance, SmallResidues, within}
use Rattle.finders.specs.Sizes.{list_checked}

-- a fit finder: the cells of its points, the largest size of a reading, the largest step, its set, and the point that it
-- picks for readings at a step
pub record PointFit : Type 1 where
  pub width : ℕ
  pub reading_limit : ℕ
  pub step_limit : ℕ
  pub member : List ℤ → Type 0
  pub pick : List ℤ → ℕ → List ℤ

-- what a pick is promised for
pub record Asked (m : PointFit) (rs : List ℤ) (q : ℕ) : Type 0 where
  pub as_wide : length rs ≡ m.width
  pub readings_within : within m.reading_limit rs ≡ true
  pub step_from_one : 1 ≤ q
  pub step_within : q ≤ m.step_limit

pub record PointLaws (m : PointFit) : Type 0 where
  pub some_cell : 1 ≤ m.width
  pub few_cells : m.width ≤ 32
  pub some_reading : 1 ≤ m.reading_limit
  pub small_readings : m.reading_limit ≤ 2 ^ 30
  pub some_step : 1 ≤ m.step_limit
  pub small_steps : m.step_limit ≤ 2 ^ 20
  pub members_are_as_wide : (x : List ℤ) → m.member x → length x ≡ m.width
  pub pick_is_a_member : (rs : List ℤ) (q : ℕ) → Asked m rs q → m.member (m.pick rs q)
  pub no_member_is_nearer : (rs : List ℤ) (q : ℕ) → Asked m rs q → (x : List ℤ) → m.member x → distance q rs (m.pick rs q) ≤ distance q rs x
  pub residues_are_small : (rs : List ℤ) (q : ℕ) → Asked m rs q → SmallResidues q rs (m.pick rs q)

abbrev pub Lawful : Meaning PointFit → Type 0
Lawful = Keeps PointLaws

-- the two mean the same
pub record SameFit (m n : PointFit) : Type 0 where
  pub same_width : m.width ≡ n.width
  pub same_reading_limit : m.reading_limit ≡ n.reading_limit
  pub same_step_limit : m.step_limit ≡ n.step_limit
  pub same_members : (x : List ℤ) → (m.member x → n.member x) × (n.member x → m.member x)
  pub same_picks : (rs : List ℤ) (q : ℕ) → m.pick rs q ≡ n.pick rs q

abbrev pub Same : Meaning PointFit → Meaning PointFit → Type 0
Same = Agree SameFit

-- ---- what the questions answer

abbrev pub shape_of : Meaning PointFit → Result PointShape Refusal
shape_of (unfit e) = Err e
shape_of (fit m) = Ok (record { width = m.width; reading_limit = m.reading_limit; step_limit = m.step_limit })

abbrev pub width_of : Meaning PointFit → ℕ
width_of = or_zero (λ m. m.width)

abbrev pub reading_limit_of : Meaning PointFit → ℕ
reading_limit_of = or_zero (λ m. m.reading_limit)

abbrev pub step_limit_of : Meaning PointFit → ℕ
step_limit_of = or_zero (λ m. m.step_limit)

-- the set: empty where the finder is unfit
abbrev pub Member : Meaning PointFit → List ℤ → Type 0
Member (unfit e) x = ⊥
Member (fit m) x = m.member x

-- each point of one is a point of the other
abbrev pub OneSet : Meaning PointFit → Meaning PointFit → Type 0
OneSet M N = (x : List ℤ) → Member M x ↔ Member N x

-- ---- what a find is refused for, first that applies; k is the length of the place

abbrev pub find_checked : (width reading_limit step_limit : ℕ) → List ℤ → ℕ → ℕ → Result (Unit {0}) Refusal
find_checked n l t rs q k =
    checked (length rs == n && k == n) Length
    (checked (within l rs) Magnitude
    (checked (nat_le 1 q && nat_le q t) Step
    (Ok tt)))

-- what `find` answers, and what it leaves in the place
abbrev pub find_answer : Meaning PointFit → List ℤ → ℕ → List ℤ → Result ℕ Refusal
find_answer (unfit e) rs q place = Err e
find_answer (fit m) rs q place = answered (find_checked m.width m.reading_limit m.step_limit rs q (length place)) (distance q rs (m.pick rs q))

abbrev pub find_place : Meaning PointFit → List ℤ → ℕ → List ℤ → List ℤ
find_place (unfit e) rs q place = place
find_place (fit m) rs q place = placed (find_checked m.width m.reading_limit m.step_limit rs q (length place)) (m.pick rs q) place

-- x is a member at the squared distance d, and no member is nearer
pub record IsNearestMember (M : Meaning PointFit) (rs : List ℤ) (q : ℕ) (x : List ℤ) (d : ℕ) : Type 0 where
  pub is_a_member : Member M x
  pub is_at_the_distance : distance q rs x ≡ d
  pub no_member_is_nearer : (y : List ℤ) → Member M y → d ≤ distance q rs y
  pub has_small_residues : SmallResidues q rs x

-- what a find comes to, in a word: the nearest member is written and its distance answered, or nothing is written
abbrev pub Outcome : Meaning PointFit → List ℤ → ℕ → List ℤ → List ℤ → Result ℕ Refusal → Type 0
Outcome M rs q before after (Ok d) = IsNearestMember M rs q after d
Outcome M rs q before after (Err e) = after ≡ before

-- ---- what a test is refused for, first that applies

abbrev pub test_checked : (width reading_limit : ℕ) → List ℤ → Result (Unit {0}) Refusal
test_checked = list_checked

-- what `contains` answers
abbrev pub Contains : Meaning PointFit → List ℤ → Result Bool Refusal → Type 0
Contains (unfit e) x r = r ≡ Err e
Contains (fit m) x r = Tells (test_checked m.width m.reading_limit x) (m.member x) r
