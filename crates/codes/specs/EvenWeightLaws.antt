-- The laws of the even-weight code: no word of even weight has a greater correlation than the word of signs, or than the
-- repaired one where the signs have an odd number of ones.
use Rattle.std.specs.Prelude.{◌≡◌, ℕ, zero, suc, ◌+◌, ◌*◌, ◌/◌, ◌%◌, ◌^◌, ◌<◌, ◌≤◌, true, false, ◌⊎◌, List, [], ◌∷◌, map, length, ℤ, pos, negsuc, ◌+ℤ◌, neg_ℤ, ◌≤ℤ◌, ◌≢◌, bit_xor, count_ones, slice_index, slice_index_or, unsigned_abs, refl}
use Rattle.std.proofs.Common.{sym, ap, ap₂, ◌∙◌, inl, inr, arith, length-set}
use Rattle.std.proofs.Math.Nat.{pow-succ'}
use Rattle.std.specs.Int.Bits.{differ, xor_step, xor_zero_r}
use Rattle.std.specs.Int.Count.{ones_step}
use Rattle.std.specs.List.{AllByRecursion}
use Rattle.std.proofs.lemmas.Nat.{one_shl}
use Rattle.std.proofs.ByRecursion.{All-weaker}
use Rattle.std.proofs.lemmas.List.{length-map}
use Rattle.std.proofs.lemmas.List.Sums.{sum_by-cons}
use Rattle.std.proofs.lemmas.Int.{ints}
use Rattle.std.proofs.lemmas.Bool.{leb-true, eqb-true, eqb-false, cond_both, cases_eq}
use Rattle.finders.specs.Choice.{IsFirst, no_larger}
use Rattle.finders.specs.Points.{within}
use Rattle.finders.specs.Sizes.{in_range}
use Rattle.finders.specs.Words.{correlation, signed}
use Rattle.finders.specs.WordFinders.{Lawful}
use Rattle.finders.proofs.Firsts.{first_best_is, best_measured}
use Rattle.finders.proofs.Scores.{no_larger_total, no_larger_chain}
use Rattle.codes.specs.Digits.{word, reversed, reversed_at}
use Rattle.codes.specs.Universe.{sign, signs}
use Rattle.codes.specs.EvenWeight.{even, weakest, repaired, even_pick, even_weight}
use Rattle.finders.proofs.Within.{range, within_at}
use Rattle.codes.specs.CodeLaws.{code_lawful}
use Rattle.codes.specs.DigitLaws.{Digit, reversed_digit, word_below, correlation_cons, ones_cons}
use Rattle.finders.proofs.Digits.{first_digit, other_digits}
use Rattle.codes.specs.SignLaws.{total, sign_digit, signs_digits, signs_below, signed_most, signed_own, correlation_most, correlation_signs}

-- the other digit than a gain's sign takes the gain's size off
signed_other : (d : ℕ) (g : ℤ) → Digit d → (d ≢ sign g) → signed d g ≡ neg_ℤ (pos (unsigned_abs g))
signed_other zero (pos n) h o = absurd (o refl)
signed_other (suc zero) (pos n) h o = refl
signed_other zero (negsuc n) h o = refl
signed_other (suc zero) (negsuc n) h o = absurd (o refl)
signed_other (suc (suc d)) g h o = absurd (omega arith)

-- ---- words of the other parity

-- no gain is smaller in size than m: then a word whose parity is not that of the signs loses at least twice m
pub other_parity_loses : (m w : ℕ) (gs : List ℤ) → w < 2 ^ length gs → AllByRecursion (λ g. m ≤ unsigned_abs g) gs → (count_ones w % 2 ≢ count_ones (word (signs gs)) % 2) → (correlation w gs +ℤ pos (2 * m)) ≤ℤ pos (total gs)
other_parity_loses m w [] b a o = let z : w ≡ 0 = omega arith in absurd (o (ap (λ (v : ℕ). count_ones v % 2) z))
other_parity_loses m w (g ∷ gs) b a o = go (cases_eq (w % 2) (sign g)) (other_parity_loses m (w / 2) gs below a.1)
  where
    below : w / 2 < 2 ^ length gs
    below = let e : w < 2 * 2 ^ length gs = rw (pow-succ' 2 (length gs)) at b in omega arith

    go : (w % 2 ≡ sign g) ⊎ (w % 2 ≢ sign g) → ((count_ones (w / 2) % 2 ≢ count_ones (word (signs gs)) % 2) → (correlation (w / 2) gs +ℤ pos (2 * m)) ≤ℤ pos (total gs)) → (correlation w (g ∷ gs) +ℤ pos (2 * m)) ≤ℤ pos (total (g ∷ gs))
    go (inl e) ih =
        let rest = ih (λ f. o (omega (arith, ones_step w, ones_cons (sign g) (word (signs gs)) (sign_digit g)))) in
        let s = signed_most (w % 2) g in omega (arith, ints, sum_by-cons unsigned_abs g gs)
    go (inr n) ih =
        let s = signed_other (w % 2) g (omega arith) n in
        let rest = correlation_most (w / 2) gs in
        let l = a.0 in omega (arith, ints, sum_by-cons unsigned_abs g gs)

-- ---- a cell reversed

pub reversed_at_digits : (ds : List ℕ) (i : ℕ) → AllByRecursion Digit ds → i < length ds → AllByRecursion Digit (reversed_at ds i)
reversed_at_digits [] i h k = absurd (omega arith)
reversed_at_digits (d ∷ ds) zero h k = (reversed_digit d, h.1)
reversed_at_digits (d ∷ ds) (suc i) h k = (h.0, reversed_at_digits ds i h.1 (omega arith))

pub reversed_at_correlation : (gs : List ℤ) (i : ℕ) → i < length gs → (correlation (word (reversed_at (signs gs) i)) gs +ℤ pos (2 * unsigned_abs (slice_index_or gs i (pos 0)))) ≡ pos (total gs)
reversed_at_correlation [] i k = absurd (omega arith)
reversed_at_correlation (g ∷ gs) zero k =
    let d = reversed_digit (sign g) in
    let s = signed_other (reversed (sign g)) g d (λ e. omega (arith, sign_digit g)) in
    rw (correlation_cons (reversed (sign g)) (word (signs gs)) g gs d, s, correlation_signs gs) (omega (arith, ints, sum_by-cons unsigned_abs g gs))
reversed_at_correlation (g ∷ gs) (suc i) k =
    let ih = reversed_at_correlation gs i (omega arith) in
    rw (correlation_cons (sign g) (word (reversed_at (signs gs) i)) g gs (sign_digit g), signed_own g) (omega (arith, ints, sum_by-cons unsigned_abs g gs))

pub reversed_at_parity : (ds : List ℕ) (i : ℕ) → AllByRecursion Digit ds → i < length ds → count_ones (word (reversed_at ds i)) % 2 + count_ones (word ds) % 2 ≡ 1
reversed_at_parity [] i h k = absurd (omega arith)
reversed_at_parity (d ∷ ds) zero h k = let a = h.0 in omega (arith, ones_cons (reversed d) (word ds) (reversed_digit d), ones_cons d (word ds) a)
reversed_at_parity (d ∷ ds) (suc i) h k = let a = h.0 in omega (arith, ones_cons d (word (reversed_at ds i)) a, ones_cons d (word ds) a, reversed_at_parity ds i h.1 (omega arith))

-- as the machine reverses it
differs : (d : ℕ) → Digit d → (differ d 1 ≡ reversed d) × (differ d 0 ≡ d)
differs zero h = (refl, refl)
differs (suc zero) h = (refl, refl)
differs (suc (suc d)) h = absurd (omega arith)

pub reversed_at_xor : (ds : List ℕ) (i : ℕ) → AllByRecursion Digit ds → i < length ds → bit_xor (word ds) (2 ^ i) ≡ word (reversed_at ds i)
reversed_at_xor [] i h k = absurd (omega arith)
reversed_at_xor (d ∷ ds) zero h k = rw (xor_step (d + 2 * word ds) 1, first_digit d (word ds) h.0, other_digits d (word ds) h.0, xor_zero_r (word ds), (differs d h.0).0) (omega arith)
reversed_at_xor (d ∷ ds) (suc i) h k =
    let half : 2 ^ suc i / 2 ≡ 2 ^ i = omega (arith, pow-succ' 2 i) in
    let low : 2 ^ suc i % 2 ≡ 0 = omega (arith, pow-succ' 2 i) in
    rw (xor_step (d + 2 * word ds) (2 ^ suc i), first_digit d (word ds) h.0, other_digits d (word ds) h.0, half, low, (differs d h.0).1, reversed_at_xor ds i h.1 (omega arith)) (omega arith)

-- ---- the weakest cell

pub weakest_is : (gs : List ℤ) → 1 ≤ length gs → IsFirst no_larger 0 (map unsigned_abs gs) (weakest gs)
weakest_is gs h = first_best_is no_larger no_larger_total no_larger_chain 0 (map unsigned_abs gs) (rw (length-map gs unsigned_abs) h)

module _ (gs : List ℤ) (some : 1 ≤ length gs) where
  weak : (weakest gs < length gs) × AllByRecursion (λ g. no_larger (unsigned_abs (slice_index_or gs (weakest gs) (pos 0))) (unsigned_abs g) ≡ true) gs
  weak = best_measured no_larger no_larger_total no_larger_chain unsigned_abs (pos 0) gs some

  pub weakest_stands : weakest gs < length gs
  weakest_stands = weak.0

  none_is_weaker : AllByRecursion (λ g. unsigned_abs (slice_index_or gs (weakest gs) (pos 0)) ≤ unsigned_abs g) gs
  none_is_weaker =
      let m = unsigned_abs (slice_index_or gs (weakest gs) (pos 0)) in
      All-weaker (λ g. no_larger m (unsigned_abs g) ≡ true) (λ g. m ≤ unsigned_abs g) (λ g. leb-true m (unsigned_abs g)) gs weak.1

-- ---- the pick

-- what holds of the signs where their ones are even in number, and of the repaired word where not, holds of the pick
by_parity : (gs : List ℤ) (P : ℕ → Type 0) → (count_ones (word (signs gs)) % 2 ≡ 0 → P (word (signs gs))) → ((count_ones (word (signs gs)) % 2 ≢ 0) → P (word (repaired gs))) → P (even_pick gs)
by_parity gs P y n = cond_both (even (word (signs gs))) (word (signs gs)) (word (repaired gs)) P (λ e. y (eqb-true (count_ones (word (signs gs)) % 2) 0 e)) (λ e. n (eqb-false (count_ones (word (signs gs)) % 2) 0 e))

module _ (gs : List ℤ) (some : 1 ≤ length gs) where
  stands : weakest gs < length (signs gs)
  stands = rw (length-map gs sign) (weakest_stands gs some)

  pick_below : even_pick gs < 2 ^ length gs
  pick_below = by_parity gs (λ w. w < 2 ^ length gs) (λ _. signs_below gs) (λ _. rw (length-set (signs gs) (weakest gs) (reversed (slice_index (signs gs) (weakest gs))), length-map gs sign) at (word_below (repaired gs) (reversed_at_digits (signs gs) (weakest gs) (signs_digits gs) stands)))

  pick_is_even : count_ones (even_pick gs) % 2 ≡ 0
  pick_is_even = by_parity gs (λ w. count_ones w % 2 ≡ 0) (λ e. e) (λ n. omega (arith, reversed_at_parity (signs gs) (weakest gs) (signs_digits gs) stands))

  none_is_better : (w : ℕ) → w < 2 ^ length gs → count_ones w % 2 ≡ 0 → correlation w gs ≤ℤ correlation (even_pick gs) gs
  none_is_better w b e = by_parity gs (λ v. correlation w gs ≤ℤ correlation v gs)
      (λ _. rw (correlation_signs gs) (correlation_most w gs))
      (λ n.
      let l = other_parity_loses (unsigned_abs (slice_index_or gs (weakest gs) (pos 0))) w gs b (none_is_weaker gs some) (λ f. n (sym f ∙ e)) in
      let t = reversed_at_correlation gs (weakest gs) (weakest_stands gs some) in omega (arith, ints))

pub even_weight_lawful : (n : ℕ) → Lawful (even_weight n)
even_weight_lawful n = code_lawful n (λ w. (w < 2 ^ n) × (count_ones w % 2 ≡ 0)) even_pick
    (λ w h. h.0)
    (λ gs some e. (rw e at (pick_below gs some), pick_is_even gs some))
    (λ gs some e w h. none_is_better gs some w (rw e h.0) h.1)
    (in_range n) (range n)

-- how large the weakest gain is, where all are within a limit
pub weakest_small : (gs : List ℤ) (i n : ℕ) → within (2 ^ 30) gs ≡ true → i < length gs → n ≡ unsigned_abs (slice_index_or gs i (pos 0)) → n ≤ 2 ^ 30
weakest_small gs i n small here e = rw e (within_at (2 ^ 30) gs i small here)

-- ---- the repair as the machine works it out: i is the weakest cell, n its gain's size, and w the word of signs, whose correlation is c

module _ (gs : List ℤ) (i n : ℕ) (few : length gs ≤ 32) (here : i < length gs) (is_weakest : i ≡ weakest gs) where
  pub repaired_pick : (w : ℕ) (c x : ℤ) → w ≡ word (signs gs) → c ≡ correlation (word (signs gs)) gs → false ≡ even w → n ≡ unsigned_abs (slice_index_or gs i (pos 0)) → c ≡ (x +ℤ pos (2 * n)) → ◌≡◌ {A = ℕ × ℤ} (bit_xor w ((1 * 2 ^ i) % 2 ^ 32), x) (even_pick gs, correlation (even_pick gs) gs)
  repaired_pick w c x signs_are is odd size left =
      let k : i < length (signs gs) = rw (length-map gs sign) here in
      let turned : bit_xor w ((1 * 2 ^ i) % 2 ^ 32) ≡ word (repaired gs) = rw (one_shl i 32 (omega arith), signs_are) (reversed_at_xor (signs gs) i (signs_digits gs) k ∙ ap (λ (j : ℕ). word (reversed_at (signs gs) j)) is_weakest) in
      let sum : c ≡ (correlation (word (repaired gs)) gs +ℤ pos (2 * n)) =
      is ∙ correlation_signs gs ∙ sym (reversed_at_correlation gs i here)
      ∙ ap₂ (λ (j m : ℕ). correlation (word (reversed_at (signs gs) j)) gs +ℤ pos (2 * m)) is_weakest (sym size) in
      let no : even (word (signs gs)) ≡ false = rw signs_are at (sym odd) in
      rw no (ap₂ {C = ℕ × ℤ} (λ (w : ℕ) (c : ℤ). (w, c)) turned (omega (arith, ints, sum, left)))
