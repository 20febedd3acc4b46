-- What a finder of words means, the laws of that meaning, and what each of its calls answers.
use Rattle.std.specs.Prelude.{◌≡◌, ℕ, ◌^◌, ◌<◌, ◌≤◌, Bool, true, List, length, ℤ, ◌≤ℤ◌, Ok, Err, Result}
use Rattle.finders.specs.declared.refusals.Refusal.{Refusal}
use Rattle.finders.specs.declared.refusals.Refusal.TheVariants.{Entry}
use Rattle.finders.specs.declared.words.WordShape.{WordShape}
use Rattle.finders.specs.Meanings.{Meaning, fit, unfit, Keeps, Agree, or_zero, checked, answered, Tells}
use Rattle.finders.specs.Points.{within}
use Rattle.finders.specs.Sizes.{list_checked}
use Rattle.finders.specs.Words.{fits, correlation}

-- a fit finder: the cells of its words, the largest size of a gain, its set, and the word that it picks for gains
pub record WordFit : Type 1 where
  pub width : ℕ
  pub gain_limit : ℕ
  pub member : ℕ → Type 0
  pub pick : List ℤ → ℕ

-- what a pick is promised for
pub record Asked (m : WordFit) (gs : List ℤ) : Type 0 where
  pub as_wide : length gs ≡ m.width
  pub gains_within : within m.gain_limit gs ≡ true

pub record WordLaws (m : WordFit) : Type 0 where
  pub some_cell : 1 ≤ m.width
  pub few_cells : m.width ≤ 32
  pub some_gain : 1 ≤ m.gain_limit
  pub small_gains : m.gain_limit ≤ 2 ^ 30
  pub members_are_as_wide : (w : ℕ) → m.member w → w < 2 ^ m.width
  pub pick_is_a_member : (gs : List ℤ) → Asked m gs → m.member (m.pick gs)
  pub no_member_is_better : (gs : List ℤ) → Asked m gs → (w : ℕ) → m.member w → correlation w gs ≤ℤ correlation (m.pick gs) gs

abbrev pub Lawful : Meaning WordFit → Type 0
Lawful = Keeps WordLaws

-- the two mean the same
pub record SameFit (m n : WordFit) : Type 0 where
  pub same_width : m.width ≡ n.width
  pub same_gain_limit : m.gain_limit ≡ n.gain_limit
  pub same_members : (w : ℕ) → (m.member w → n.member w) × (n.member w → m.member w)
  pub same_picks : (gs : List ℤ) → m.pick gs ≡ n.pick gs

abbrev pub Same : Meaning WordFit → Meaning WordFit → Type 0
Same = Agree SameFit

-- ---- what the questions answer

abbrev pub shape_of : Meaning WordFit → Result WordShape Refusal
shape_of (unfit e) = Err e
shape_of (fit m) = Ok (record { width = m.width; gain_limit = m.gain_limit })

abbrev pub width_of : Meaning WordFit → ℕ
width_of = or_zero (λ m. m.width)

abbrev pub gain_limit_of : Meaning WordFit → ℕ
gain_limit_of = or_zero (λ m. m.gain_limit)

-- the set: empty where the finder is unfit
abbrev pub Member : Meaning WordFit → ℕ → Type 0
Member (unfit e) w = ⊥
Member (fit m) w = m.member w

-- ---- what a find is refused for, first that applies

abbrev pub find_checked : (width gain_limit : ℕ) → List ℤ → Result (Unit {0}) Refusal
find_checked = list_checked

-- what `find` answers
abbrev pub find_answer : Meaning WordFit → List ℤ → Result (ℕ × ℤ) Refusal
find_answer (unfit e) gs = Err e
find_answer (fit m) gs = answered (find_checked m.width m.gain_limit gs) (m.pick gs, correlation (m.pick gs) gs)

-- w is a member with the correlation c, and no member has a greater one
pub record IsBestMember (M : Meaning WordFit) (gs : List ℤ) (w : ℕ) (c : ℤ) : Type 0 where
  pub is_a_member : Member M w
  pub has_the_correlation : correlation w gs ≡ c
  pub no_member_is_better : (v : ℕ) → Member M v → correlation v gs ≤ℤ c

-- what a find comes to, in short
abbrev pub Outcome : Meaning WordFit → List ℤ → Result (ℕ × ℤ) Refusal → Type 0
Outcome M gs (Ok r) = IsBestMember M gs r.0 r.1
Outcome M gs (Err e) = Unit {0}

-- ---- what a test is refused for

abbrev pub test_checked : (width : ℕ) → ℕ → Result (Unit {0}) Refusal
test_checked n w = checked (fits n w) Entry (Ok tt)

-- what `contains` answers
abbrev pub Contains : Meaning WordFit → ℕ → Result Bool Refusal → Type 0
Contains (unfit e) w r = r ≡ Err e
Contains (fit m) w r = Tells (test_checked m.width w) (m.member w) r
