-- What is promised of blocks over any meaning, fit or not, whatever calls are made of them.
use Rattle.std.specs.Prelude.{◌≡◌, ℕ, ◌*◌, ◌≤◌, ◌&&◌, ◌⊎◌, nat_le, List, [], ◌∷◌, ◌++◌, reverse, take, Ok, Result}
use Rattle.std.specs.List.{AllByRecursion}
use Rattle.finders.specs.declared.refusals.Refusal.{Refusal}
use Rattle.finders.specs.declared.refusals.Refusal.TheVariants.{Step, Depth}
use Rattle.finders.specs.Meanings.{Meaning, fitness_of, checked, and_then}
use Rattle.finders.specs.PointFinders.{PointFit, OneSet, width_of, reading_limit_of, step_limit_of}
use Rattle.blocks.specs.declared.calls.Call.{Call}
use Rattle.blocks.specs.declared.calls.Call.TheVariants as call
use Rattle.blocks.specs.Senses.{largest_reading, none_standing, count_of}
use Rattle.blocks.specs.Calls.{depth, open_checked, after_call, standing, answers_to}
use Rattle.blocks.specs.CallLists.{HasNoClear, EndsAfterAClear, senses_of_width, HasSmallReadings}
use Rattle.blocks.specs.Runs.{EachSenseIsGrantedUnlessFull, EachClearTellsHowManyStood, EachDecideHasTheLeastTotal}
use Rattle.blocks.specs.Runs.{EachMisfitIsRefused, AnsweredAlike}
use Rattle.blocks.specs.Runs.{OnePointWhereOneHasTheTotal}

-- What an opening at the step q is refused for, first that applies: an unfit finder; a step below 1; a step or readings
-- that, added over as many senses as the block holds, are beyond the finder's limits.
abbrev pub opening_told : Meaning PointFit → ℕ → Result (Unit {0}) Refusal
opening_told M q =
    let most = depth M q in
    and_then (fitness_of M)
    (checked (nat_le 1 q) Step
    (checked (nat_le (most * q) (step_limit_of M) && nat_le (most * largest_reading) (reading_limit_of M)) Depth
    (Ok tt)))

-- A block over M that is opened at the step q, and any calls that it then answers. What stands follows from the calls
-- alone; a decide comes to a point of least total.
pub record BlockPromise (M : Meaning PointFit) : Type 0 where
  pub opens_unless_refused : (q : ℕ) → open_checked M q ≡ opening_told M q
  pub holds_64_senses : (q : ℕ) → depth M q ≡ 64
  pub none_stands_at_an_opening : (q : ℕ) → standing M q [] ≡ none_standing
  pub each_call_changes_what_stands : (q : ℕ) (cs : List Call) (c : Call)
      → standing M q (cs ++ c ∷ []) ≡ after_call M q (standing M q cs) c
  pub a_clear_ends_what_was_before : (q : ℕ) (cs ds : List Call)
      → standing M q (cs ++ call.Clear ∷ ds) ≡ standing M q ds
  pub a_last_clear_or_none : (cs : List Call) → HasNoClear cs ⊎ EndsAfterAClear cs
  pub the_first_of_fitting_width_stand : (q : ℕ) (cs : List Call) → HasNoClear cs
      → (standing M q cs).senses ≡ reverse (take (depth M q) (senses_of_width (width_of M) cs))
  pub no_more_stand_than_it_holds : (q : ℕ) (cs : List Call) → count_of (standing M q cs) ≤ depth M q
  pub each_sense_is_granted_unless_full : (q : ℕ) (cs : List Call)
      → EachSenseIsGrantedUnlessFull M q cs (answers_to M q cs)
  pub each_clear_tells_how_many_stood : (q : ℕ) (cs : List Call)
      → EachClearTellsHowManyStood M q cs (answers_to M q cs)
  pub each_misfit_is_refused : (q : ℕ) (cs : List Call) → EachMisfitIsRefused M cs (answers_to M q cs)
  pub each_decide_has_the_least_total : (q : ℕ) (cs : List Call)
      → open_checked M q ≡ Ok tt → AllByRecursion HasSmallReadings cs
      → EachDecideHasTheLeastTotal M q cs (answers_to M q cs)

-- Two blocks over one set, which are opened at one step and answer the same calls.
pub record TwoBlocksPromise (M N : Meaning PointFit) : Type 0 where
  pub are_answered_alike : OneSet M N → (q : ℕ) (cs : List Call)
      → open_checked M q ≡ Ok tt → open_checked N q ≡ Ok tt → AllByRecursion HasSmallReadings cs
      → AnsweredAlike (answers_to M q cs) (answers_to N q cs)
  pub decide_one_point_where_one_has_the_total : OneSet M N → (q : ℕ) (cs : List Call)
      → open_checked M q ≡ Ok tt → open_checked N q ≡ Ok tt → AllByRecursion HasSmallReadings cs
      → OnePointWhereOneHasTheTotal M q cs (answers_to M q cs) (answers_to N q cs)
