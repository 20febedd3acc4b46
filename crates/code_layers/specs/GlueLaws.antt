-- The laws of glued words.
use Rattle.std.specs.Prelude.{◌≡◌, ℕ, zero, suc, ◌+◌, ◌/◌, ◌%◌, ◌^◌, ◌<◌, true, false, cond, List, [], ◌∷◌, map, length, ℤ, pos, ◌≤ℤ◌, ◌==◌, Result, Ok, Err, bit_xor, nat_le, slice_index, slice_index_or, refl}
use Rattle.std.specs.Int.Bits.{xor_assoc, xor_self, xor_zero_l, xor_zero_r}
use Rattle.std.proofs.Math.Nat.{pow-succ'}
use Rattle.std.proofs.lemmas.List.{length-map}
use Rattle.std.proofs.Common.{sym, ap, ◌∙◌, arith, pow_pos}
use Rattle.std.proofs.lemmas.Int.{ints}
use Rattle.std.proofs.lemmas.Nat.{xor_comm, xor_lt, xor_shr}
use Rattle.std.proofs.lemmas.Nat.Bits.{bit_at_xor, bit_at_lowest}
use Rattle.std.proofs.lemmas.Bool.{and_parts, ltb-true}
use Rattle.std.proofs.lemmas.List.FromFn.{length-range_with_len}
use Rattle.finders.specs.declared.refusals.Refusal.{Refusal}
use Rattle.finders.specs.declared.refusals.Refusal.TheVariants.{GlueCount, Entry}
use Rattle.finders.specs.Choice.{no_less, IsFirst}
use Rattle.finders.specs.Meanings.{Meaning, fit, unfit}
use Rattle.finders.specs.Points.{within}
use Rattle.finders.specs.WordFinders.{WordFit, WordLaws, Lawful, Asked, SameFit, Same}
use Rattle.finders.specs.Words.{digit, signed, fits, all_fit, correlation}
use Rattle.finders.proofs.Correlation.{signed_size, half_above}
use Rattle.finders.proofs.Fitness.{unfit_unless_keeps, unfit_unless_agrees}
use Rattle.finders.proofs.FirstNumbers.{best_number, first_best_alike}
use Rattle.finders.proofs.Firsts.{first_best_is}
use Rattle.finders.proofs.Scores.{no_less_total, no_less_chain, great_decides}
use Rattle.code_layers.specs.Glue.{glue_sum, negated, sum_numbers, best_in, score, best_sum, glued_fit, glued, glued_by}

-- ---- XOR

xor_lowest : (p c : ℕ) → bit_xor p c % 2 ≡ (p % 2 + c % 2) % 2
xor_lowest p c = rw (bit_at_lowest (bit_xor p c), bit_at_lowest p, bit_at_lowest c) at (bit_at_xor p c 0)

xor_half : (p c : ℕ) → bit_xor p c / 2 ≡ bit_xor (p / 2) (c / 2)
xor_half p c = xor_shr p c 1

-- a word that is moved twice is back
pub xor_twice : (p c : ℕ) → bit_xor p (bit_xor p c) ≡ c
xor_twice p c = sym (xor_assoc p p c) ∙ rw (xor_self p) (xor_zero_l c)

-- ---- the gains of a moved word

-- two signs, one after the other
two_signs : (p c d : ℕ) (g : ℤ) → p < 2 → c < 2 → d ≡ (p + c) % 2 → signed d g ≡ signed c (signed p g)
two_signs zero zero d g h k e = rw e refl
two_signs zero (suc zero) d g h k e = rw e refl
two_signs (suc zero) zero d g h k e = rw e refl
two_signs (suc zero) (suc zero) d g h k e = rw e (omega (arith, ints))
two_signs (suc (suc p)) c d g h k e = absurd (omega arith)
two_signs p (suc (suc c)) d g h k e = absurd (omega arith)

pub correlation_moved : (p c : ℕ) (gs : List ℤ) → correlation (bit_xor p c) gs ≡ correlation c (negated p gs)
correlation_moved p c [] = refl
correlation_moved p c (g ∷ gs) = rw (xor_half p c, correlation_moved (p / 2) (c / 2) gs, two_signs (p % 2) (c % 2) (bit_xor p c % 2) g (omega arith) (omega arith) (xor_lowest p c)) refl

pub length_negated : (p : ℕ) (gs : List ℤ) → length (negated p gs) ≡ length gs
length_negated p [] = refl
length_negated p (g ∷ gs) = ap suc (length_negated (p / 2) gs)

pub within_negated : (limit p : ℕ) (gs : List ℤ) → within limit (negated p gs) ≡ within limit gs
within_negated limit p [] = refl
within_negated limit p (g ∷ gs) = rw (signed_size (p % 2) g, within_negated limit (p / 2) gs) refl

-- ---- the sums of glue words

pub glue_below : (n : ℕ) (ws : List ℕ) (j : ℕ) → all_fit n ws ≡ true → glue_sum ws j < 2 ^ n
glue_below n [] j h = pow_pos n
glue_below n (w ∷ ws) j h =
    let p = and_parts (fits n w) (all_fit n ws) h in
    let small : cond (j % 2 == 0) 0 w < 2 ^ n = elim (j % 2 == 0) as (λ b. cond b 0 w < 2 ^ n) [ true ↦ pow_pos n | false ↦ ltb-true w (2 ^ n) p.0 ] in
    xor_lt n (cond (j % 2 == 0) 0 w) (glue_sum ws (j / 2)) small (glue_below n ws (j / 2) p.1)

-- ---- the laws

-- the best coset is one of them, and none has a better word
pub best_is : (ws : List ℕ) (pick : List ℤ → ℕ) (gs : List ℤ) → (best_sum ws pick gs < 2 ^ length ws) × ((j : ℕ) → j < 2 ^ length ws → score ws pick gs j ≤ℤ score ws pick gs (best_sum ws pick gs))
best_is ws pick gs =
    let best = best_sum ws pick gs in
    let b = best_number no_less no_less_total no_less_chain (score ws pick gs) (2 ^ length ws) (pow_pos (length ws)) in
    (b.0, λ j h. (great_decides (score ws pick gs best) (score ws pick gs j)).0 (b.1 j h))

-- what is asked below, for gains that the whole may be asked with
pub asked_below : (ws : List ℕ) (m : WordFit) (gs : List ℤ) (p : ℕ) → Asked (glued_fit ws m) gs → Asked m (negated p gs)
asked_below ws m gs p a = record { as_wide = length_negated p gs ∙ a.as_wide; gains_within = within_negated m.gain_limit p gs ∙ a.gains_within }

module _ (ws : List ℕ) (m : WordFit) (l : WordLaws m) (fitting : all_fit m.width ws ≡ true) where
  glued_laws : WordLaws (glued_fit ws m)
  glued_laws = record {
    some_cell = l.some_cell;
    few_cells = l.few_cells;
    some_gain = l.some_gain;
    small_gains = l.small_gains;
    members_are_as_wide = λ w (j, c, here, member, is). rw is (xor_lt m.width (glue_sum ws j) c (glue_below m.width ws j fitting) (l.members_are_as_wide c member));
    pick_is_a_member = λ gs a. (best_sum ws m.pick gs, m.pick (negated (glue_sum ws (best_sum ws m.pick gs)) gs), (best_is ws m.pick gs).0, l.pick_is_a_member _ (asked_below ws m gs _ a), refl);
    no_member_is_better = λ gs a w (j, c, here, member, is).
        let p = glue_sum ws j in
        let below = l.no_member_is_better (negated p gs) (asked_below ws m gs p a) c member in
        let moved = correlation_moved p (m.pick (negated p gs)) gs in
        rw (is, correlation_moved p c gs) (omega (arith, ints, below, moved, (best_is ws m.pick gs).1 j here));
  }

pub glued_lawful : (r : Result (List ℕ) Refusal) (M : Meaning WordFit) → Lawful M → Lawful (glued_by r M)
glued_lawful (Ok ws) (unfit e) l = tt
glued_lawful (Ok ws) (fit m) l =
    unfit_unless_keeps WordLaws (nat_le (length ws) 7) GlueCount _ (λ few.
    unfit_unless_keeps WordLaws (all_fit m.width ws) Entry _ (λ fitting.
    glued_laws ws m l fitting))
glued_lawful (Err e) (unfit f) l = tt
glued_lawful (Err e) (fit m) l = tt

-- ---- what the sums are

pub glue_zero : (ws : List ℕ) → glue_sum ws 0 ≡ 0
glue_zero [] = refl
glue_zero (w ∷ ws) = rw (glue_zero ws) refl

pub glue_bit : (ws : List ℕ) (b : ℕ) → b < length ws → glue_sum ws (2 ^ b) ≡ slice_index ws b
glue_bit [] b h = absurd (omega arith)
glue_bit (w ∷ ws) zero h = rw (glue_zero ws) (xor_zero_r w)
glue_bit (w ∷ ws) (suc b) h =
    let half : 2 ^ suc b / 2 ≡ 2 ^ b = omega (arith, pow-succ' 2 b) in
    let even : 2 ^ suc b % 2 ≡ 0 = omega (arith, pow-succ' 2 b) in
    rw (half, even) (xor_zero_l (glue_sum ws (2 ^ b)) ∙ glue_bit ws b (omega arith))

taken_xor : (w d e f : ℕ) → d < 2 → e < 2 → f ≡ (d + e) % 2 → cond (f == 0) 0 w ≡ bit_xor (cond (d == 0) 0 w) (cond (e == 0) 0 w)
taken_xor w zero zero f h k i = rw i refl
taken_xor w zero (suc zero) f h k i = rw i refl
taken_xor w (suc zero) zero f h k i = rw i (sym (xor_zero_r w))
taken_xor w (suc zero) (suc zero) f h k i = rw i (sym (xor_self w))
taken_xor w (suc (suc d)) e f h k i = absurd (omega arith)
taken_xor w d (suc (suc e)) f h k i = absurd (omega arith)

xor_pairs : (a b c d : ℕ) → bit_xor (bit_xor a b) (bit_xor c d) ≡ bit_xor (bit_xor a c) (bit_xor b d)
xor_pairs a b c d =
    let middle = sym (xor_assoc b c d) ∙ ap (λ (x : ℕ). bit_xor x d) (xor_comm b c) ∙ xor_assoc c b d in
    xor_assoc a b (bit_xor c d) ∙ ap (bit_xor a) middle ∙ sym (xor_assoc a c (bit_xor b d))

pub glue_xor : (ws : List ℕ) (i j : ℕ) → glue_sum ws (bit_xor i j) ≡ bit_xor (glue_sum ws i) (glue_sum ws j)
glue_xor [] i j = refl
glue_xor (w ∷ ws) i j = rw (xor_half i j, glue_xor ws (i / 2) (j / 2), taken_xor w (i % 2) (j % 2) (bit_xor i j % 2) (omega arith) (omega arith) (xor_lowest i j)) (xor_pairs (cond (i % 2 == 0) 0 w) (cond (j % 2 == 0) 0 w) (glue_sum ws (i / 2)) (glue_sum ws (j / 2)))

pub negated_at : (p i : ℕ) (gs : List ℤ) → i < length gs → slice_index_or (negated p gs) i (pos 0) ≡ signed (digit p i) (slice_index_or gs i (pos 0))
negated_at p i [] h = absurd (omega arith)
negated_at p zero (g ∷ gs) h = let one : p / 1 ≡ p = omega arith in rw one refl
negated_at p (suc i) (g ∷ gs) h = rw (sym (half_above p i)) (negated_at (p / 2) i gs (omega arith))

pub best_is_first : (ws : List ℕ) (pick : List ℤ → ℕ) (gs : List ℤ) → IsFirst no_less (pos 0) (map (score ws pick gs) (sum_numbers ws)) (best_sum ws pick gs)
best_is_first ws pick gs = first_best_is no_less no_less_total no_less_chain (pos 0) (map (score ws pick gs) (sum_numbers ws)) (rw (length-map, length-range_with_len) (pow_pos (length ws)))

-- ---- over finders that mean the same

module _ (ws : List ℕ) (p q : List ℤ → ℕ) (same : (gs : List ℤ) → p gs ≡ q gs) where
  best_alike : (gs : List ℤ) (j : ℕ) → best_in ws p gs j ≡ best_in ws q gs j
  best_alike gs j = ap (bit_xor (glue_sum ws j)) (same (negated (glue_sum ws j) gs))

  pub picks_alike : (gs : List ℤ) → best_in ws p gs (best_sum ws p gs) ≡ best_in ws q gs (best_sum ws q gs)
  picks_alike gs = rw (first_best_alike no_less (score ws p gs) (score ws q gs) (λ j. ap (λ (w : ℕ). correlation w gs) (best_alike gs j)) (sum_numbers ws)) (best_alike gs (best_sum ws q gs))

pub glued_alike : (ws : List ℕ) (M N : Meaning WordFit) → Same M N → Same (glued ws M) (glued ws N)
glued_alike ws (unfit e) (unfit f) s = s
glued_alike ws (unfit e) (fit n) s = absurd s
glued_alike ws (fit m) (unfit f) s = absurd s
glued_alike ws (fit m) (fit n) s =
    unfit_unless_agrees SameFit (nat_le (length ws) 7) (nat_le (length ws) 7) GlueCount _ _ refl
    (unfit_unless_agrees SameFit (all_fit m.width ws) (all_fit n.width ws) Entry (fit (glued_fit ws m)) (fit (glued_fit ws n)) (ap (λ (k : ℕ). all_fit k ws) s.same_width) (record {
      same_width = s.same_width;
      same_gain_limit = s.same_gain_limit;
      same_members = λ w. (λ h. (h.0, h.1, h.2, (s.same_members h.1).0 h.3, h.4), λ h. (h.0, h.1, h.2, (s.same_members h.1).1 h.3, h.4));
      same_picks = picks_alike ws m.pick n.pick s.same_picks;
    }))
