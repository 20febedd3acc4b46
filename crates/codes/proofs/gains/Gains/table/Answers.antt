use Rattle.std.proofs.Common.{◌≡◌, ℕ, zero, suc, ◌+◌, ◌<◌, ◌≤◌, List, map, length, get_or, take, ℤ, pos, refl, sym, ap, ◌∙◌, arith, rules, inl, inr}
use Rattle.std.specs.Array.{IsFromFnResultFrom}
use Rattle.std.specs.Fn.{Called}
use Rattle.std.specs.List.{range_with_len}
use denote.Param.Members.{Mut}
use Rattle.std.proofs.lemmas.Bool.{cases_lt}
use Rattle.std.proofs.lemmas.List.FromFn.{fill_by_all, take-map-range_with_len}
use Rattle.codes.proofs.gains.Gains.table.Goals as goal

-- calls that compute h, and leave the closure as it was, gave h of each number
from : {F B : Type 0} (g : Mut F (ℕ × Unit {0}) B) (f : F) (h : ℕ → B) → ((i : ℕ) (y : B) (q : F) → Called g f (i, tt) y q → (q ≡ f) × (y ≡ h i)) → (ys : List B) (d : B) (k n : ℕ) → IsFromFnResultFrom g f ys k n → (i : ℕ) → k ≤ i → i < k + n → get_or ys i d ≡ h i
from g f h says ys d k zero each i low high = absurd (omega arith)
from g f h says ys d k (suc n) (q, y, here, call, rest) i low high = elim (cases_lt k i) [
  | inl later ↦ from g f h says ys d (k + 1) n (rw (says k y q call).0 at rest) i (omega arith) (omega arith)
  | inr same ↦ let e : i ≡ k = omega arith in rw e (here.1 d ∙ (says k y q call).1)
]

pub returns : goal.returns
returns c =
    let gs = c.args.self.all.now in
    let few = c.args.self.few in
    let gain : ℕ → ℤ = λ i. get_or gs i (pos 0) in
    let items = c.from_fn.ensures.items in
    let all : c.from_fn.result ≡ map gain (range_with_len 0 32) = fill_by_all gain c.from_fn.result 32 (pos 0) items.long (λ i l. from _ _ gain (λ i y q k. search rules) c.from_fn.result (pos 0) 0 32 items.each i (omega arith) (omega arith)) in
    ap (take (length gs)) all ∙ take-map-range_with_len gain 0 32 (length gs) few ∙ sym (fill_by_all gain gs (length gs) (pos 0) refl (λ i l. refl))
