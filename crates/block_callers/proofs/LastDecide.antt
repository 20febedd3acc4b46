-- Calls of which the last is a decide: what stands before it stands at the end.
use Rattle.std.proofs.Common.{◌≡◌, ℕ, zero, suc, ◌-◌, List, [], ◌∷◌, length, take, slice_get, Some, refl, arith, sym}
use Rattle.finders.specs.Meanings.{Meaning}
use Rattle.finders.specs.PointFinders.{PointFit, width_of}
use Rattle.blocks.specs.declared.calls.Call.{Call}
use Rattle.blocks.specs.declared.calls.Call.TheVariants as call
use Rattle.blocks.specs.declared.calls.Answer.{Answer}
use Rattle.blocks.specs.Senses.{Standing, none_standing}
use Rattle.blocks.specs.Calls.{after_call, after_calls, standing}
use Rattle.blocks.specs.Runs.{AnswersDecide, EachDecideHasTheLeastTotal}

module _ (M : Meaning PointFit) (q k : ℕ) where
  nothing_changed : (S : Standing) (cs : List Call) (i : ℕ) → length cs ≡ suc i → slice_get cs i ≡ Some (call.Decide k) →
      after_calls M q S (take i cs) ≡ after_calls M q S cs
  nothing_changed S [] i h is = absurd (omega (arith, h))
  nothing_changed S (call.Decide l ∷ []) zero h is = refl
  nothing_changed S (call.Decide l ∷ d ∷ cs) zero h is = absurd (omega (arith, h))
  nothing_changed S (call.Clear ∷ cs) zero h is = absurd (let z : ◌≡◌ {A = ℕ} 0 1 = cc in omega arith)
  nothing_changed S (call.Sense rs ∷ cs) zero h is = absurd (let z : ◌≡◌ {A = ℕ} 0 1 = cc in omega arith)
  nothing_changed S (c ∷ cs) (suc i) h is = nothing_changed (after_call M q S c) cs i (omega (arith, h)) is

pub last_decide : (M : Meaning PointFit) (q : ℕ) (cs : List Call) (answers : List Answer) → EachDecideHasTheLeastTotal M q cs answers →
    slice_get cs (length cs - 1) ≡ Some (call.Decide (width_of M)) → AnswersDecide M q (standing M q cs) (slice_get answers (length cs - 1))
last_decide M q [] answers each is = absurd (let z : ◌≡◌ {A = ℕ} 0 1 = cc in omega arith)
last_decide M q (c ∷ cs) answers each is =
    let last = length (c ∷ cs) - 1 in
    rw (sym (nothing_changed M q (width_of M) none_standing (c ∷ cs) last (omega arith) is)) (each last is)
