-- Two runs of the same calls, at one step over finders of one set.
use Rattle.std.proofs.Common.{◌≡◌, ℕ, zero, suc, List, [], ◌∷◌, take, ◌≤◌, Some, Ok, Err, Result, sym, refl, ap, ◌∙◌, subst, arith}
use Rattle.std.specs.List.{slice_get, AllByRecursion}
use Rattle.std.proofs.Math.Decide.{ℕ_discrete}
use Rattle.std.proofs.lemmas.Bool.{eq-eqb, ne_eqb, le-leb}
use Rattle.finders.specs.declared.refusals.Refusal.{Refusal}
use Rattle.finders.specs.declared.refusals.Refusal.TheVariants.{Length, Empty}
use Rattle.finders.specs.Meanings.{Meaning, answered}
use Rattle.finders.specs.PointFinders.{PointFit, Lawful, OneSet, width_of}
use Rattle.blocks.specs.declared.calls.Call.{Call}
use Rattle.blocks.specs.declared.calls.Call.TheVariants as call
use Rattle.blocks.specs.declared.calls.Answer.{Answer}
use Rattle.blocks.specs.declared.calls.Answer.TheVariants as answer
use Rattle.blocks.specs.declared.calls.Decision.{Decision}
use Rattle.blocks.specs.Senses.{IsAttainedAtMostOnce, Standing, none_standing, count_of}
use Rattle.blocks.specs.Calls.{open_checked, decide_checked, decision_of, padded}
use Rattle.blocks.specs.Calls.{after_call, after_calls, answer_to, answers_from, answers_to}
use Rattle.blocks.specs.Runs.{AnswersDecide, EachDecideHasTheLeastTotal, Alike, AnsweredAlike}
use Rattle.blocks.specs.Runs.{OnePointWhereOneHasTheTotal}
use Rattle.blocks.specs.CallLists.{HasSmallReadings}
use Rattle.blocks.proofs.CallLists.{small_readings_are_senses}
use Rattle.blocks.proofs.OneSet.{one_width, one_total, one_point}
use Rattle.blocks.proofs.RunLaws.{each_decide}

-- what holds of each check that a decide may come to holds of the one that it comes to
decide_by_checks : (M : Meaning PointFit) (S : Standing) (k : ℕ) (P : Result (Unit {0}) Refusal → Type 0) →
    ((k ≡ width_of M → ⊥) → P (Err Length)) →
    (k ≡ width_of M → count_of S ≡ 0 → P (Err Empty)) →
    (k ≡ width_of M → 1 ≤ count_of S → P (Ok tt)) → P (decide_checked M S k)
decide_by_checks M S k P other none some = elim (ℕ_discrete k (width_of M)) [
  | no n ↦ rw (ne_eqb k (width_of M) n) (other n)
  | yes e ↦ rw (eq-eqb k (width_of M) e) (elim (ℕ_discrete (count_of S) 0) [
    | yes z ↦ rw z (none e z)
    | no n ↦ let s : 1 ≤ count_of S = omega arith in rw (le-leb 1 (count_of S) s) (some e s)
  ])
]

-- two answers to one call, where S stands: the same but for the point, which is one where one has the total
record AnswerOneCall (M : Meaning PointFit) (q : ℕ) (S : Standing) (a b : Answer) : Type 0 where
  alike : Alike a b
  one_point : (d e : Decision) → a ≡ answer.Decide (Ok d) → b ≡ answer.Decide (Ok e) →
      IsAttainedAtMostOnce M q S.senses d.total → d.point ≡ e.point

-- what is answered to each decide of a fitting place, where S stood before the calls
abbrev DecidesFrom : Meaning PointFit → ℕ → Standing → List Call → Type 0
DecidesFrom M q S cs =
    (i : ℕ) → slice_get cs i ≡ Some (call.Decide (width_of M)) →
    AnswersDecide M q (after_calls M q S (take i cs)) (slice_get (answers_from M q S cs) i)

module _ (M N : Meaning PointFit) (q : ℕ) (set : OneSet M N) (wide : width_of N ≡ width_of M) where
  -- ---- one call

  same_after_call : (S : Standing) (c : Call) → after_call N q S c ≡ after_call M q S c
  same_after_call S (call.Sense rs) = rw wide refl
  same_after_call S call.Clear = refl
  same_after_call S (call.Decide k) = refl

  decided_alike : (S : Standing) (d e : Decision) → (count_of S ≡ 0 → ⊥) →
      AnswersDecide M q S (Some (answer.Decide (Ok d))) → AnswersDecide N q S (Some (answer.Decide (Ok e))) →
      AnswerOneCall M q S (answer.Decide (Ok d)) (answer.Decide (Ok e))
  decided_alike S d e some f g =
      let x = f.least_total_otherwise some in
      let y = g.least_total_otherwise some in
      let at_x : d ≡ record { point = padded x.point; total = x.total } = cc (x.is_answered) in
      let at_y : e ≡ record { point = padded y.point; total = y.total } = cc (y.is_answered) in
      let total = one_total set x.is_the_least y.is_the_least in
      rw (at_x, at_y) (record {
        alike = total;
        one_point = λ v w is other alone.
            let at_v : record { point = padded x.point; total = x.total } ≡ v = cc in
            let at_w : record { point = padded y.point; total = y.total } ≡ w = cc in
            let one = one_point set x.is_the_least y.is_the_least (rw (← at_v) at alone) in
            rw (← at_v, ← at_w) (ap padded one);
      })

  -- what is answered to a decide that is so checked
  abbrev as_checked : Meaning PointFit → Standing → Result (Unit {0}) Refusal → Answer
  as_checked L S c = answer.Decide (answered c (decision_of L q S))

  -- so checked, two decides are answered alike, where a place that fits is answered as a block promises
  abbrev AlikeAt : Standing → ℕ → (c d : Result (Unit {0}) Refusal) → Type 0
  AlikeAt S k c d =
      (k ≡ width_of M → AnswersDecide M q S (Some (as_checked M S c))) →
      (k ≡ width_of N → AnswersDecide N q S (Some (as_checked N S d))) →
      AnswerOneCall M q S (as_checked M S c) (as_checked N S d)

  alike_decides : (S : Standing) (k : ℕ) → AlikeAt S k (decide_checked M S k) (decide_checked N S k)
  alike_decides S k =
      let alike = decided_alike S (decision_of M q S) (decision_of N q S) in
      let same : decide_checked N S k ≡ decide_checked M S k = rw wide refl in
      subst (AlikeAt S k (decide_checked M S k)) (sym same) (decide_by_checks M S k (λ c. AlikeAt S k c c)
      (λ other f g. record { alike = refl; one_point = λ d e is. cc })
      (λ fits none f g. record { alike = refl; one_point = λ d e is. cc })
      (λ fits some f g. alike (λ none. omega arith) (f fits) (g (fits ∙ sym wide))))

  alike_answers : (S : Standing) (c : Call) →
      (c ≡ call.Decide (width_of M) → AnswersDecide M q S (Some (answer_to M q S c))) →
      (c ≡ call.Decide (width_of N) → AnswersDecide N q S (Some (answer_to N q S c))) →
      AnswerOneCall M q S (answer_to M q S c) (answer_to N q S c)
  alike_answers S (call.Sense rs) f g = record { alike = rw wide refl; one_point = λ d e is. cc }
  alike_answers S call.Clear f g = record { alike = refl; one_point = λ d e is. cc }
  alike_answers S (call.Decide k) f g = alike_decides S k (λ e. f (ap call.Decide e)) (λ e. g (ap call.Decide e))

  -- ---- one call after the other

  later : (S : Standing) (c : Call) (cs : List Call) → DecidesFrom N q S (c ∷ cs) →
      DecidesFrom N q (after_call M q S c) cs
  later S c cs e = subst (λ (T : Standing). DecidesFrom N q T cs) (same_after_call S c) (λ i. e (suc i))

  alike_head : (S : Standing) (c : Call) (cs : List Call) → DecidesFrom M q S (c ∷ cs) → DecidesFrom N q S (c ∷ cs) →
      AnswerOneCall M q S (answer_to M q S c) (answer_to N q S c)
  alike_head S c cs d e = alike_answers S c (λ is. d 0 (ap Some is)) (λ is. e 0 (ap Some is))

  alike_from : (S : Standing) (cs : List Call) → DecidesFrom M q S cs → DecidesFrom N q S cs →
      AnsweredAlike (answers_from M q S cs) (answers_from N q S cs)
  alike_from S [] d e = tt
  alike_from S (c ∷ cs) d e =
      let head = alike_head S c cs d e in
      let tail = alike_from (after_call M q S c) cs (λ i. d (suc i)) (later S c cs e) in
      rw (same_after_call S c) (head.alike, tail)

  one_point_from : (S : Standing) (cs : List Call) → DecidesFrom M q S cs → DecidesFrom N q S cs →
      (i : ℕ) (a b : Decision) →
      slice_get (answers_from M q S cs) i ≡ Some (answer.Decide (Ok a)) →
      slice_get (answers_from N q S cs) i ≡ Some (answer.Decide (Ok b)) →
      IsAttainedAtMostOnce M q (after_calls M q S (take i cs)).senses a.total → a.point ≡ b.point
  one_point_from S [] d e i a b f g alone = cc
  one_point_from S (c ∷ cs) d e zero a b f g alone = (alike_head S c cs d e).one_point a b (cc) (cc) alone
  one_point_from S (c ∷ cs) d e (suc i) a b f g alone =
      let there = rw (same_after_call S c) at g in
      one_point_from (after_call M q S c) cs (λ i. d (suc i)) (later S c cs e) i a b f there alone

-- ---- whole runs

-- a block over a finder that means M has opened, and answered the calls so
pub record Run (M : Meaning PointFit) (q : ℕ) (cs : List Call) (answers : List Answer) : Type 0 where
  pub lawful : Lawful M
  pub opens : open_checked M q ≡ Ok tt
  pub answered : answers ≡ answers_to M q cs
  pub decides : EachDecideHasTheLeastTotal M q cs answers

-- so it is with any calls, where no reading is beyond 16 bits
pub run_of : (M : Meaning PointFit) (q : ℕ) (cs : List Call) → Lawful M → open_checked M q ≡ Ok tt →
    AllByRecursion HasSmallReadings cs → Run M q cs (answers_to M q cs)
run_of M q cs l opens small = record {
  lawful = l;
  opens = opens;
  answered = refl;
  decides = each_decide M q cs _ l opens (small_readings_are_senses M q cs small) refl;
}

module _ {M N : Meaning PointFit} {q : ℕ} {cs : List Call} {answers others : List Answer} (set : OneSet M N)
    (one : Run M q cs answers) (other : Run N q cs others) where
  wide : width_of N ≡ width_of M
  wide = one_width M N q one.lawful other.lawful set one.opens other.opens

  decides : DecidesFrom M q none_standing cs
  decides = rw one.answered at one.decides

  other_decides : DecidesFrom N q none_standing cs
  other_decides = rw other.answered at other.decides

  pub runs_alike : AnsweredAlike answers others
  runs_alike = rw (one.answered, other.answered) (alike_from M N q set wide none_standing cs decides other_decides)

  pub runs_at_one_point : OnePointWhereOneHasTheTotal M q cs answers others
  runs_at_one_point =
      rw (one.answered, other.answered) (one_point_from M N q set wide none_standing cs decides other_decides)
