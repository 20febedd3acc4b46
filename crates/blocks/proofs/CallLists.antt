-- Lists of calls: what stands after them, in words; and lists that are the same calls.
use Rattle.std.proofs.Common.{◌≡◌, ℕ, zero, suc, cond, ◌==◌, ◌-◌, ◌<◌, ◌≤◌, List, [], ◌∷◌, ◌++◌, length, take, reverse, ℤ, sym, refl}
use Rattle.std.proofs.Common.{ap, ◌∙◌, arith, rules, zero-le, append_assoc, ◌⊎◌, inl, inr}
use Rattle.std.specs.List.{AllByRecursion}
use Rattle.std.proofs.lemmas.List.{reverse-append, append-nil, take_all}
use Rattle.finders.specs.Meanings.{Meaning}
use Rattle.finders.specs.PointFinders.{PointFit, width_of}
use Rattle.blocks.specs.declared.calls.Call.{Call}
use Rattle.blocks.specs.declared.calls.Call.TheVariants as call
use Rattle.blocks.specs.Senses.{Standing, none_standing, count_of}
use Rattle.blocks.specs.Tally.{AreSenses}
use Rattle.blocks.specs.Calls.{depth, after_sense, after_call, after_calls, standing, answer_to, answers_from}
use Rattle.blocks.specs.CallLists.{SameCall, SameCalls, HasNoClear, EndsAfterAClear, senses_of_width, HasSmallReadings}
use Rattle.blocks.proofs.RunLaws.{AllAreSenses}

module _ (M : Meaning PointFit) (q : ℕ) where
  -- ---- what stands are senses

  senses_after_call : (S : Standing) (c : Call) → HasSmallReadings c → AreSenses (width_of M) S.senses →
      AreSenses (width_of M) (after_call M q S c).senses
  senses_after_call S (call.Sense rs) small h = search rules
  senses_after_call S call.Clear small h = tt
  senses_after_call S (call.Decide k) small h = h

  senses_after_calls : (S : Standing) (cs : List Call) (i : ℕ) → AllByRecursion HasSmallReadings cs →
      AreSenses (width_of M) S.senses → AreSenses (width_of M) (after_calls M q S (take i cs)).senses
  senses_after_calls S cs zero small h = h
  senses_after_calls S [] (suc i) small h = h
  senses_after_calls S (c ∷ cs) (suc i) small h =
      senses_after_calls (after_call M q S c) cs i small.1 (senses_after_call S c small.0 h)

  pub small_readings_are_senses : (cs : List Call) → AllByRecursion HasSmallReadings cs → AllAreSenses M q cs (length cs)
  small_readings_are_senses cs small i h = senses_after_calls none_standing cs i small tt

  -- ---- what stands, in words

  after_append : (S : Standing) (cs ds : List Call) →
      after_calls M q S (cs ++ ds) ≡ after_calls M q (after_calls M q S cs) ds
  after_append S [] ds = refl
  after_append S (c ∷ cs) ds = after_append (after_call M q S c) cs ds

  pub after_clear : (cs ds : List Call) → standing M q (cs ++ call.Clear ∷ ds) ≡ standing M q ds
  after_clear cs ds = after_append none_standing cs (call.Clear ∷ ds)

  -- the senses of fitting width for which there is room, on top of those that stand
  abbrev pub topped : List (List ℤ) → List (List ℤ) → List (List ℤ)
  topped ss fit = reverse (take (depth M q - length ss) fit) ++ ss

  topped_more : (ss fit : List (List ℤ)) (rs : List ℤ) → length ss < depth M q →
      topped (rs ∷ ss) fit ≡ topped ss (rs ∷ fit)
  topped_more ss fit rs room =
      let more : depth M q - length ss ≡ suc (depth M q - length (rs ∷ ss)) = omega arith in
      let taken = take (depth M q - length (rs ∷ ss)) fit in
      rw (more, reverse-append (rs ∷ []) taken) (sym (append_assoc (reverse taken) (rs ∷ []) ss))

  topped_full : (ss fit more : List (List ℤ)) → depth M q ≤ length ss → topped ss fit ≡ topped ss more
  topped_full ss fit more full = search rules

  -- a sense is one of them, where it fits
  pub topped_by_sense : (S : Standing) (rs : List ℤ) (fit : List (List ℤ)) → count_of S ≤ depth M q →
      topped (after_sense M q S rs).senses fit ≡
      topped S.senses (cond (length rs == width_of M) (rs ∷ fit) fit)
  topped_by_sense S rs fit few =
      search (rules, topped_full S.senses fit (rs ∷ fit), topped_more S.senses fit rs)

  pub few_after_sense : (S : Standing) (rs : List ℤ) → count_of S ≤ depth M q → count_of (after_sense M q S rs) ≤ depth M q
  few_after_sense S rs few = search rules

  pub none_on_top : (ss : List (List ℤ)) → topped ss [] ≡ ss
  none_on_top ss = rw (take_all (depth M q - length ss) [] zero-le) refl

  first_senses : (S : Standing) (cs : List Call) → count_of S ≤ depth M q → HasNoClear cs →
      (after_calls M q S cs).senses ≡ topped S.senses (senses_of_width (width_of M) cs)
  first_senses S [] few h = sym (none_on_top S.senses)
  first_senses S (call.Clear ∷ cs) few h = absurd h
  first_senses S (call.Decide k ∷ cs) few h = first_senses S cs few h
  first_senses S (call.Sense rs ∷ cs) few h =
      first_senses (after_sense M q S rs.now) cs (few_after_sense S rs.now few) h
      ∙ topped_by_sense S rs.now (senses_of_width (width_of M) cs) few

  pub first_of_fitting_width : (cs : List Call) → HasNoClear cs →
      (standing M q cs).senses ≡ reverse (take (depth M q) (senses_of_width (width_of M) cs))
  first_of_fitting_width cs h = first_senses none_standing cs (omega arith) h ∙ append-nil _

  -- ---- the same calls

  same_after_call : (S : Standing) (c d : Call) → SameCall c d → after_call M q S c ≡ after_call M q S d
  same_after_call S (call.Sense rs) (call.Sense ss) h = ap (after_sense M q S) h
  same_after_call S call.Clear call.Clear h = refl
  same_after_call S (call.Decide k) (call.Decide l) h = refl
  same_after_call S _ _ h = absurd h

  same_answer : (S : Standing) (c d : Call) → SameCall c d → answer_to M q S c ≡ answer_to M q S d
  same_answer S (call.Sense rs) (call.Sense ss) h = rw h refl
  same_answer S call.Clear call.Clear h = refl
  same_answer S (call.Decide k) (call.Decide l) h = rw h refl
  same_answer S _ _ h = absurd h

  pub same_answers : (S : Standing) (cs ds : List Call) → SameCalls cs ds → answers_from M q S cs ≡ answers_from M q S ds
  same_answers S [] [] h = refl
  same_answers S (c ∷ cs) (d ∷ ds) h =
      let rest = same_answers (after_call M q S d) cs ds h.1 in
      rw (same_answer S c d h.0, same_after_call S c d h.0, rest) refl
  same_answers S _ _ h = absurd h

pub same_as_itself : (cs : List Call) → SameCalls cs cs
same_as_itself [] = tt
same_as_itself (call.Sense rs ∷ cs) = (refl, same_as_itself cs)
same_as_itself (call.Clear ∷ cs) = (tt, same_as_itself cs)
same_as_itself (call.Decide k ∷ cs) = (refl, same_as_itself cs)

-- a list of calls has no clear, or a last one
pub last_clear : (cs : List Call) → HasNoClear cs ⊎ EndsAfterAClear cs
last_clear [] = inl tt
last_clear (c ∷ cs) = elim (last_clear cs) [
  | inl none ↦ at_head c none
  | inr later ↦ inr (record {
    before = c ∷ later.before;
    after = later.after;
    is = ap (λ (l : List Call). c ∷ l) later.is;
    has_none_after = later.has_none_after;
  })
]
  where
    at_head : (c : Call) → HasNoClear cs → HasNoClear (c ∷ cs) ⊎ EndsAfterAClear (c ∷ cs)
    at_head (call.Sense rs) none = inl none
    at_head call.Clear none = inr (record { before = []; after = cs; is = refl; has_none_after = none })
    at_head (call.Decide k) none = inl none
