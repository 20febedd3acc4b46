-- Runs of calls, in the order in which a block answers them, from its opening on. What stands before a call follows
-- from the calls before it alone.
use Rattle.std.specs.Prelude.{◌≡◌, ◌≢◌, ℕ, suc, ◌&&◌, ◌↔◌, ◌==◌, List, [], ◌∷◌, length, take, slice_get, ℤ}
use Rattle.std.specs.Prelude.{Ok, Err, Result, Some, Option}
use Rattle.std.specs.Borrow.{Bor}
use Rattle.finders.specs.declared.refusals.Refusal.{Refusal}
use Rattle.finders.specs.declared.refusals.Refusal.TheVariants.{Length, Full, Empty}
use Rattle.finders.specs.Meanings.{Meaning, checked, and_then}
use Rattle.finders.specs.PointFinders.{PointFit, width_of}
use Rattle.blocks.specs.declared.calls.Call.{Call}
use Rattle.blocks.specs.declared.calls.Call.TheVariants as call
use Rattle.blocks.specs.declared.calls.Answer.{Answer}
use Rattle.blocks.specs.declared.calls.Answer.TheVariants as answer
use Rattle.blocks.specs.declared.calls.Decision.{Decision}
use Rattle.blocks.specs.Senses.{Standing, count_of, IsLeastTotal, IsAttainedAtMostOnce}
use Rattle.blocks.specs.Calls.{depth, open_checked, standing, padded, answers_to}

-- what a run is refused for, first that applies; a is the number of places for the answers
abbrev pub run_checked : Meaning PointFit → ℕ → List Call → ℕ → Result (Unit {0}) Refusal
run_checked M q cs a = checked (a == length cs) Length (open_checked M q)

-- what stands before the call with index i
abbrev pub standing_before : Meaning PointFit → ℕ → List Call → ℕ → Standing
standing_before M q cs i = standing M q (take i cs)

-- ---- senses

-- the answer to a sense of fitting width, where S stands
pub record AnswersSense (M : Meaning PointFit) (q : ℕ) (S : Standing) (a : Option Answer) : Type 0 where
  pub full_exactly_where_as_many_stand : (a ≡ Some (answer.Sense (Err Full))) ↔ (count_of S ≡ depth M q)
  pub granted_otherwise : count_of S ≢ depth M q → a ≡ Some (answer.Sense (Ok (suc (count_of S))))

abbrev pub EachSenseIsGrantedUnlessFull : Meaning PointFit → ℕ → List Call → List Answer → Type 0
EachSenseIsGrantedUnlessFull M q cs answers =
    (i : ℕ) (rs : Bor (List ℤ)) → slice_get cs i ≡ Some (call.Sense rs) → length rs.now ≡ width_of M →
    AnswersSense M q (standing_before M q cs i) (slice_get answers i)

-- ---- decides

-- a point of least total is answered, with its total
pub record DecidesTheLeast (M : Meaning PointFit) (q : ℕ) (S : Standing) (a : Option Answer) : Type 0 where
  pub point : List ℤ
  pub total : ℕ
  pub is_the_least : IsLeastTotal M q S.senses point total
  pub is_answered : a ≡ Some (answer.Decide (Ok (record { point = padded point; total = total })))

-- the answer to a decide whose place fits, where S stands
pub record AnswersDecide (M : Meaning PointFit) (q : ℕ) (S : Standing) (a : Option Answer) : Type 0 where
  pub empty_exactly_where_none_stands : (a ≡ Some (answer.Decide (Err Empty))) ↔ (count_of S ≡ 0)
  pub least_total_otherwise : count_of S ≢ 0 → DecidesTheLeast M q S a

abbrev pub EachDecideHasTheLeastTotal : Meaning PointFit → ℕ → List Call → List Answer → Type 0
EachDecideHasTheLeastTotal M q cs answers =
    (i : ℕ) → slice_get cs i ≡ Some (call.Decide (width_of M)) →
    AnswersDecide M q (standing_before M q cs i) (slice_get answers i)

-- ---- clears, and calls that do not fit

abbrev pub EachClearTellsHowManyStood : Meaning PointFit → ℕ → List Call → List Answer → Type 0
EachClearTellsHowManyStood M q cs answers =
    (i : ℕ) → slice_get cs i ≡ Some call.Clear →
    slice_get answers i ≡ Some (answer.Clear (Ok (count_of (standing_before M q cs i))))

-- a sense that has not a reading for each cell, and a decide whose place has not a number for each, whatever stands
pub record EachMisfitIsRefused (M : Meaning PointFit) (cs : List Call) (answers : List Answer) : Type 0 where
  pub senses : (i : ℕ) (rs : Bor (List ℤ)) → slice_get cs i ≡ Some (call.Sense rs) → length rs.now ≢ width_of M →
      slice_get answers i ≡ Some (answer.Sense (Err Length))
  pub decides : (i k : ℕ) → slice_get cs i ≡ Some (call.Decide k) → k ≢ width_of M →
      slice_get answers i ≡ Some (answer.Decide (Err Length))

-- ---- a whole run: these are the answers to the calls, each as it should be

pub record AnswersTheRun (M : Meaning PointFit) (q : ℕ) (cs : List Call) (answers : List Answer) : Type 0 where
  pub follow_from_the_calls_alone : answers ≡ answers_to M q cs
  pub each_sense_is_granted_unless_full : EachSenseIsGrantedUnlessFull M q cs answers
  pub each_clear_tells_how_many_stood : EachClearTellsHowManyStood M q cs answers
  pub each_decide_has_the_least_total : EachDecideHasTheLeastTotal M q cs answers
  pub each_misfit_is_refused : EachMisfitIsRefused M cs answers

-- ---- two runs of the same calls

-- what two runs are refused for, first that applies; a and b are the numbers of places for the answers
abbrev pub crosscheck_checked : (M N : Meaning PointFit) → ℕ → List Call → (a b : ℕ) → Result (Unit {0}) Refusal
crosscheck_checked M N q cs a b =
    checked (a == length cs && b == length cs) Length (and_then (open_checked M q) (open_checked N q))

-- two answers are the same, but for the point that is decided
abbrev pub Alike : Answer → Answer → Type 0
Alike (answer.Sense r) (answer.Sense s) = r ≡ s
Alike (answer.Clear r) (answer.Clear s) = r ≡ s
Alike (answer.Decide (Ok d)) (answer.Decide (Ok e)) = d.total ≡ e.total
Alike (answer.Decide (Err e)) (answer.Decide (Err f)) = e ≡ f
Alike _ _ = ⊥

abbrev pub AnsweredAlike : List Answer → List Answer → Type 0
AnsweredAlike [] [] = Unit {0}
AnsweredAlike (a ∷ answers) (b ∷ others) = Alike a b × AnsweredAlike answers others
AnsweredAlike _ _ = ⊥

-- the decided points are the same where no two points of the set have the total
abbrev pub OnePointWhereOneHasTheTotal : Meaning PointFit → ℕ → List Call → List Answer → List Answer → Type 0
OnePointWhereOneHasTheTotal M q cs answers others =
    (i : ℕ) (d e : Decision) →
    slice_get answers i ≡ Some (answer.Decide (Ok d)) → slice_get others i ≡ Some (answer.Decide (Ok e)) →
    IsAttainedAtMostOnce M q (standing_before M q cs i).senses d.total → d.point ≡ e.point
