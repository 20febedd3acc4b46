-- The calls that an open block takes, what each is refused for and answered, and what stands after it.
use Rattle.std.specs.Prelude.{◌≡◌, ℕ, suc, ◌*◌, ◌&&◌, ◌==◌, nat_le, nat_lt, List, [], ◌∷◌, ◌++◌, length, take, ℤ}
use Rattle.std.specs.Prelude.{Ok, Err, Result, IsErr}
use Rattle.integers.specs.Sums.{zeros}
use Rattle.finders.specs.declared.refusals.Refusal.{Refusal}
use Rattle.finders.specs.declared.refusals.Refusal.TheVariants.{Length, Step, Depth, Full, Empty, Closed}
use Rattle.finders.specs.Meanings.{Meaning, fit, unfit, checked, answered, placed}
use Rattle.finders.specs.PointFinders.{PointFit, width_of}
use Rattle.blocks.specs.declared.calls.Call.{Call}
use Rattle.blocks.specs.declared.calls.Call.TheVariants as call
use Rattle.blocks.specs.declared.calls.Answer.{Answer}
use Rattle.blocks.specs.declared.calls.Answer.TheVariants as answer
use Rattle.blocks.specs.declared.calls.Decision.{Decision}
use Rattle.blocks.specs.Senses.{largest_reading, total, sums, Standing, none_standing, one_more, count_of, IsLeastTotal}

-- the most senses that stand at once in a block that is open at the step q
abbrev pub depth : Meaning PointFit → ℕ → ℕ
depth M q = 64

-- ---- opening: what it is refused for, first that applies

-- the step times as many senses is to be within the step limit, and so many of the largest readings, added, within the
-- reading limit
abbrev pub open_checked : Meaning PointFit → ℕ → Result (Unit {0}) Refusal
open_checked (unfit e) q = Err e
open_checked (fit m) q =
    let most = depth (fit m) q in
    checked (nat_le 1 q) Step
    (checked (nat_le (most * q) m.step_limit && nat_le (most * largest_reading) m.reading_limit) Depth
    (Ok tt))

-- ---- where S stands in a block that is open at the step q: what a call is refused for, first that applies

-- a sense, where `count` stand, of `most` at most
abbrev pub room_checked : (width most count : ℕ) → List ℤ → Result (Unit {0}) Refusal
room_checked width most count rs = checked (length rs == width) Length (checked (nat_lt count most) Full (Ok tt))

abbrev pub sense_checked : Meaning PointFit → ℕ → Standing → List ℤ → Result (Unit {0}) Refusal
sense_checked M q S rs = room_checked (width_of M) (depth M q) (count_of S) rs

-- k is the length of the place
abbrev pub decide_checked : Meaning PointFit → Standing → ℕ → Result (Unit {0}) Refusal
decide_checked M S k =
    checked (k == width_of M) Length
    (checked (nat_le 1 (count_of S)) Empty
    (Ok tt))

-- ---- what it answers

abbrev pub sense_answer : Meaning PointFit → ℕ → Standing → List ℤ → Result ℕ Refusal
sense_answer M q S rs = answered (sense_checked M q S rs) (suc (count_of S))

abbrev pub clear_answer : Standing → Result ℕ Refusal
clear_answer S = Ok (count_of S)

-- the point that the finder picks for the sums of the cells, at the step times the number of senses
abbrev pub decided_point : Meaning PointFit → ℕ → List (List ℤ) → List ℤ
decided_point (unfit e) q ss = []
decided_point (fit m) q ss = m.pick (sums m.width ss) (length ss * q)

abbrev pub decided_total : Meaning PointFit → ℕ → List (List ℤ) → ℕ
decided_total M q ss = total q ss (decided_point M q ss)

abbrev pub decide_answer : Meaning PointFit → ℕ → Standing → ℕ → Result ℕ Refusal
decide_answer M q S k = answered (decide_checked M S k) (decided_total M q S.senses)

-- what it leaves in the place
abbrev pub decide_place : Meaning PointFit → ℕ → Standing → List ℤ → List ℤ
decide_place M q S place = placed (decide_checked M S (length place)) (decided_point M q S.senses) place

-- what a decide comes to, in a word: a point of least total is written and its total answered, or nothing is written
abbrev pub DecideOutcome : Meaning PointFit → ℕ → Standing → List ℤ → List ℤ → Result ℕ Refusal → Type 0
DecideOutcome M q S before after (Ok t) = IsLeastTotal M q S.senses after t
DecideOutcome M q S before after (Err e) = after ≡ before

-- ---- what stands, by the calls alone

-- after a sense
abbrev pub after_sense : Meaning PointFit → ℕ → Standing → List ℤ → Standing
after_sense M q S rs = placed (sense_checked M q S rs) (one_more rs S) S

-- after a call
abbrev pub after_call : Meaning PointFit → ℕ → Standing → Call → Standing
after_call M q S (call.Sense rs) = after_sense M q S rs.now
after_call M q S call.Clear = none_standing
after_call M q S (call.Decide k) = S

-- after calls, one after the other, where S stood before them
abbrev pub after_calls : Meaning PointFit → ℕ → Standing → List Call → Standing
after_calls M q S [] = S
after_calls M q S (c ∷ cs) = after_calls M q (after_call M q S c) cs

-- after the calls of a block that was newly opened before them
abbrev pub standing : Meaning PointFit → ℕ → List Call → Standing
standing M q cs = after_calls M q none_standing cs

-- ---- calls and answers as values

-- a point in an answer: its numbers, and zeros behind them, 32 in all
abbrev pub padded : List ℤ → List ℤ
padded x = take 32 (x ++ zeros 32)

abbrev pub decision_of : Meaning PointFit → ℕ → Standing → Decision
decision_of M q S = record { point = padded (decided_point M q S.senses); total = decided_total M q S.senses }

abbrev pub decision_answer : Meaning PointFit → ℕ → Standing → ℕ → Result Decision Refusal
decision_answer M q S k = answered (decide_checked M S k) (decision_of M q S)

abbrev pub answer_to : Meaning PointFit → ℕ → Standing → Call → Answer
answer_to M q S (call.Sense rs) = answer.Sense (sense_answer M q S rs.now)
answer_to M q S call.Clear = answer.Clear (clear_answer S)
answer_to M q S (call.Decide k) = answer.Decide (decision_answer M q S k)

-- in a closed block
abbrev pub closed_answer : Call → Answer
closed_answer (call.Sense rs) = answer.Sense (Err Closed)
closed_answer call.Clear = answer.Clear (Err Closed)
closed_answer (call.Decide k) = answer.Decide (Err Closed)

abbrev pub IsRefused : Answer → Type 0
IsRefused (answer.Sense r) = IsErr r
IsRefused (answer.Clear r) = IsErr r
IsRefused (answer.Decide r) = IsErr r

-- to calls, one after the other, where S stood before them
abbrev pub answers_from : Meaning PointFit → ℕ → Standing → List Call → List Answer
answers_from M q S [] = []
answers_from M q S (c ∷ cs) = answer_to M q S c ∷ answers_from M q (after_call M q S c) cs

-- to the calls of a block that was newly opened before them
abbrev pub answers_to : Meaning PointFit → ℕ → List Call → List Answer
answers_to M q cs = answers_from M q none_standing cs
