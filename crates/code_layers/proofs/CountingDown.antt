-- What a range of numbers gives from its end.
use Rattle.std.proofs.Common.{◌≡◌, ℕ, zero, suc, ◌+◌, ◌-◌, ◌<◌, List, [], ◌∷◌, fold, Option, Some, refl, sym, ap, ◌∙◌, subst, arith}
use Rattle.std.specs.declared.iter.Rev.{Rev}
use Rattle.std.specs.declared.ops.Range.{Range}
use Rattle.std.specs.Iterator.{CallableAtEachTurn}
use Rattle.std.specs.Iterator.Adapters.{rev_source, rev_steps}
use Rattle.std.proofs.iter.Serving.{rev_range, same_first}
use Rattle.std.proofs.iter.runs.Sources.{nat_range_steps_back}
use Rattle.std.proofs.lemmas.Iterator.{YieldsList}
use Rattle.std.proofs.lemmas.Iterator.Consumers.{YieldsList-from_shown}

-- the n numbers from k on, the last first
abbrev pub down : (k n : ℕ) → List ℕ
down k zero = []
down k (suc n) = (k + n) ∷ down k n

-- a fold over them, where each turn leads from what is held at i + 1 to what is held at i
pub fold_down : {B : Type 0} (h : B → ℕ → B) (f : ℕ → B) (n : ℕ) → ((i : ℕ) → i < n → h (f (suc i)) i ≡ f i) → fold h (f n) (down 0 n) ≡ f 0
fold_down h f zero turn = refl
fold_down {B} h f (suc n) turn =
    let z : 0 + n ≡ n = omega arith in
    ap (λ (b : B). fold h b (down 0 n)) (rw z (turn n (omega arith))) ∙ fold_down h f n (λ i l. turn i (omega arith))

abbrev left : Rev (Range ℕ) → List ℕ
left s = down (rev_source s).start ((rev_source s).end - (rev_source s).start)

abbrev steps : Rev (Range ℕ) → Option ℕ → Rev (Range ℕ) → Type 0
steps = rev_steps nat_range_steps_back

one_less : (s : Rev (Range ℕ)) (x : ℕ) (t : Rev (Range ℕ)) → steps s (Some x) t → left s ≡ x ∷ left t
one_less s x t h =
    let g : (rev_source s).end - (rev_source s).start ≡ suc ((rev_source t).end - (rev_source s).start) = omega (arith, h.1.0, h.1.2) in
    let y : (rev_source s).start + ((rev_source t).end - (rev_source s).start) ≡ x = omega (arith, h.1.0, h.1.1, h.1.2) in
    rw (h.0, g, y)

pub YieldsList-from_rev_range : {s : Rev (Range ℕ)} (n : ℕ) → rev_source s ≡ record { start = 0; end = n } → YieldsList steps (λ x. x) s (down 0 n)
YieldsList-from_rev_range {s} n e =
    let z : n - 0 ≡ n = omega arith in
    subst (YieldsList steps (λ x. x) s) (ap (λ (r : Range ℕ). down r.start (r.end - r.start)) e ∙ ap (down 0) z) (YieldsList-from_shown steps (λ x. x) left (λ s t h. rw h.1.0) one_less s)

-- a fold may call what its calls leave as it was, if that may be called at each of the numbers
pub fold_serves : {F B : Type 0} {R : F × B → ℕ → F × B → Type 0} {Q : F × B → ℕ → Type 0} {s : Rev (Range ℕ)} (n : ℕ) → rev_source s ≡ record { start = 0; end = n }
    → ((p : F × B) (x : ℕ) (q : F × B) → R p x q → q.0 ≡ p.0) → (f : F) (b : B) → ((x : ℕ) (c : B) → x < n → Q (f, c) x) → CallableAtEachTurn steps R Q s (f, b)
fold_serves {Q = Q} n e keeps f b serves = record {
  at = λ xs t q x u gave folded next.
      let below = rev_range steps (λ s x t h. (omega (arith, h.0), omega (arith, h.1.2))) xs _ t gave in
      subst (λ g. Q (g, q.1) x) (sym (same_first _ keeps xs (f, b) q folded)) (serves x q.1 (omega (arith, below.1, next.1.1, next.1.2, ap (λ (r : Range ℕ). r.end) e)));
}
