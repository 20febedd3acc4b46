-- Runs of calls, by the definitions alone: one call more, what stands before a call, and what is answered to it.
use Rattle.std.proofs.Common.{◌≡◌, ℕ, zero, suc, ◌<◌, ◌≤◌, List, [], ◌∷◌, ◌++◌, length, take, ℤ, Some, Ok, Option}
use Rattle.std.proofs.Common.{refl, ap, ◌∙◌, arith, rules}
use Rattle.std.specs.List.{slice_get}
use Rattle.std.proofs.lemmas.Bool.{ne_eqb}
use Rattle.std.proofs.lemmas.Option.{slice_get_within}
use Rattle.finders.specs.Meanings.{Meaning, answered}
use Rattle.finders.specs.PointFinders.{PointFit, Lawful, width_of}
use Rattle.blocks.specs.declared.calls.Call.{Call}
use Rattle.blocks.specs.declared.calls.Call.TheVariants as call
use Rattle.blocks.specs.declared.calls.Answer.{Answer}
use Rattle.blocks.specs.declared.calls.Answer.TheVariants as answer
use Rattle.blocks.specs.Senses.{Standing, none_standing, count_of}
use Rattle.blocks.specs.Tally.{AreSenses}
use Rattle.blocks.specs.Calls.{depth, open_checked, sense_checked}
use Rattle.blocks.specs.Calls.{after_call, after_calls, standing, answer_to, answers_from, answers_to}
use Rattle.blocks.specs.Runs.{standing_before, AnswersSense, EachSenseIsGrantedUnlessFull}
use Rattle.blocks.specs.Runs.{EachClearTellsHowManyStood, EachMisfitIsRefused, AnswersDecide, EachDecideHasTheLeastTotal}
use Rattle.blocks.proofs.Deciding.{least}

module _ (M : Meaning PointFit) (q : ℕ) where
  -- ---- one call more

  pub after_more : (S : Standing) (cs : List Call) (c : Call) →
      after_calls M q S (cs ++ c ∷ []) ≡ after_call M q (after_calls M q S cs) c
  after_more S [] c = refl
  after_more S (d ∷ cs) c = after_more (after_call M q S d) cs c

  pub answers_more : (S : Standing) (cs : List Call) (c : Call) →
      answers_from M q S (cs ++ c ∷ []) ≡ answers_from M q S cs ++ answer_to M q (after_calls M q S cs) c ∷ []
  answers_more S [] c = refl
  answers_more S (d ∷ cs) c =
      ap (λ (answers : List Answer). answer_to M q S d ∷ answers) (answers_more (after_call M q S d) cs c)

  answer_at : (S : Standing) (cs : List Call) (i : ℕ) (c : Call) → slice_get cs i ≡ Some c →
      slice_get (answers_from M q S cs) i ≡ Some (answer_to M q (after_calls M q S (take i cs)) c)
  answer_at S [] i c e = cc
  answer_at S (d ∷ cs) zero c e = let same : d ≡ c = cc in rw same refl
  answer_at S (d ∷ cs) (suc i) c e = answer_at (after_call M q S d) cs i c e

  -- ---- no more stand than a block holds

  few_after_call : (S : Standing) (c : Call) → count_of S ≤ depth M q → count_of (after_call M q S c) ≤ depth M q
  few_after_call S (call.Sense rs) few = search rules
  few_after_call S call.Clear few = omega arith
  few_after_call S (call.Decide k) few = few

  few_after_calls : (S : Standing) (cs : List Call) → count_of S ≤ depth M q →
      count_of (after_calls M q S cs) ≤ depth M q
  few_after_calls S [] few = few
  few_after_calls S (c ∷ cs) few = few_after_calls (after_call M q S c) cs (few_after_call S c few)

  pub few_standing : (cs : List Call) → count_of (standing M q cs) ≤ depth M q
  few_standing cs = few_after_calls none_standing cs (omega arith)

  -- ---- what a sense of fitting width is answered

  sense_answered : (S : Standing) (rs : List ℤ) (a : Option Answer) → length rs ≡ width_of M → count_of S ≤ depth M q →
      a ≡ Some (answer.Sense (answered (sense_checked M q S rs) (suc (count_of S)))) → AnswersSense M q S a
  sense_answered S rs a wide few is = search rules

  pub each_sense : (cs : List Call) (answers : List Answer) → answers ≡ answers_to M q cs →
      EachSenseIsGrantedUnlessFull M q cs answers
  each_sense cs answers is i rs here wide =
      let told = ap (λ (l : List Answer). slice_get l i) is ∙ answer_at none_standing cs i (call.Sense rs) here in
      sense_answered (standing_before M q cs i) rs.now (slice_get answers i) wide (few_standing (take i cs)) told

  -- ---- what a clear, and what does not fit, is answered

  pub each_clear : (cs : List Call) (answers : List Answer) → answers ≡ answers_to M q cs →
      EachClearTellsHowManyStood M q cs answers
  each_clear cs answers is i here =
      ap (λ (l : List Answer). slice_get l i) is ∙ answer_at none_standing cs i call.Clear here

  pub each_misfit : (cs : List Call) (answers : List Answer) → answers ≡ answers_to M q cs →
      EachMisfitIsRefused M cs answers
  each_misfit cs answers is = record {
    senses = λ i rs here other.
        told i (call.Sense rs) here ∙ rw (ne_eqb (length rs.now) (width_of M) other) refl;
    decides = λ i k here other. told i (call.Decide k) here ∙ rw (ne_eqb k (width_of M) other) refl;
  }
    where
      told : (i : ℕ) (c : Call) → slice_get cs i ≡ Some c →
          slice_get answers i ≡ Some (answer_to M q (standing_before M q cs i) c)
      told i c here = ap (λ (l : List Answer). slice_get l i) is ∙ answer_at none_standing cs i c here

  -- ---- what a decide of a fitting place is answered

  -- what stands before each of the first n calls, and after them, are senses of the block's cells
  abbrev pub AllAreSenses : List Call → ℕ → Type 0
  AllAreSenses cs n = (i : ℕ) → i ≤ n → AreSenses (width_of M) (standing M q (take i cs)).senses

  decide_answered : (S : Standing) (a : Option Answer) →
      Lawful M → open_checked M q ≡ Ok tt → count_of S ≤ depth M q → AreSenses (width_of M) S.senses →
      a ≡ Some (answer_to M q S (call.Decide (width_of M))) → AnswersDecide M q S a
  decide_answered S a l opens few senses is = search (rules, least M q S.senses l)

  pub each_decide : (cs : List Call) (answers : List Answer) → Lawful M → open_checked M q ≡ Ok tt →
      AllAreSenses cs (length cs) → answers ≡ answers_to M q cs → EachDecideHasTheLeastTotal M q cs answers
  each_decide cs answers l opens senses is i here =
      let decide = call.Decide (width_of M) in
      let before : i < length cs = slice_get_within cs i decide here in
      let told = ap (λ (l : List Answer). slice_get l i) is ∙ answer_at none_standing cs i decide here in
      let few = few_standing (take i cs) in
      decide_answered (standing_before M q cs i) (slice_get answers i) l opens few (senses i (omega arith)) told
