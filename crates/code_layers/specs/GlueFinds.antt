-- What a find of glued words asks below, and what it comes to.
use Rattle.std.specs.Prelude.{◌≡◌, ℕ, ◌^◌, ◌≤◌, Bool, true, List, length, ℤ, Ok, Result, nat_le, bit_xor, ◌<◌, Decides}
use Rattle.std.proofs.Common.{sym, ap, ◌∙◌, arith}
use Rattle.std.proofs.lemmas.Bool.{leb-true}
use Rattle.std.proofs.lemmas.Nat.{xor_lt}
use Rattle.finders.specs.declared.refusals.Refusal.{Refusal}
use Rattle.finders.specs.declared.refusals.Refusal.TheVariants.{GlueCount, Entry}
use Rattle.finders.specs.declared.words.WordShape.{WordShape}
use Rattle.finders.specs.Meanings.{Meaning, fit, unfit}
use Rattle.finders.specs.Points.{within}
use Rattle.finders.specs.WordFinders.{WordFit, Lawful, Member, shape_of, find_checked, find_answer, test_checked, Contains}
use Rattle.finders.specs.Words.{all_fit}
use Rattle.finders.proofs.Fitness.{not_err, told_at}
use Rattle.finders.proofs.FoundWords.{find_granted}
use Rattle.finders.proofs.GrantedWords.{found_at, shape_passed, granted_fits, contains_tells, tells_contains}
use Rattle.finders.proofs.Within.{within_wider}
use Rattle.code_layers.specs.Glue.{glue_sum, negated, best_in, score, best_sum, glued_fit, glued, glued_by}
use Rattle.code_layers.specs.GlueLaws.{correlation_moved, asked_below, glue_below, xor_twice}

-- the pick of a meaning
abbrev pub pick_of : Meaning WordFit → List ℤ → ℕ
pick_of (unfit e) gs = 0
pick_of (fit m) gs = m.pick gs

-- what a shape tells of a fit finder below
record Known (ws : List ℕ) (m : WordFit) (s : WordShape) : Type 0 where
  counted : nat_le (length ws) 7 ≡ true
  fitting : all_fit m.width ws ≡ true
  width : s.width ≡ m.width
  limit : s.gain_limit ≡ m.gain_limit

known : (ws : List ℕ) (m : WordFit) (s : WordShape) → Ok s ≡ shape_of (glued ws (fit m)) → Known ws m s
known ws m s h =
    let a = shape_passed (nat_le (length ws) 7) GlueCount _ s h in
    let b = shape_passed (all_fit m.width ws) Entry (fit (glued_fit ws m)) s a.1 in
    record { counted = a.0; fitting = b.0; width = cc; limit = cc }

-- what is known of a find that is granted: what each find below answers, and what the whole is to answer
pub record Granted (ws : List ℕ) (M : Meaning WordFit) (gs : List ℤ) : Type 0 where
  pub few_gains : length gs ≤ 32
  pub small_gains : within (2 ^ 30) gs ≡ true
  pub few_words : length ws ≤ 7
  pub below : (j : ℕ) → find_answer M (negated (glue_sum ws j) gs) ≡ Ok (pick_of M (negated (glue_sum ws j) gs), score ws (pick_of M) gs j)
  pub whole : find_answer (glued ws M) gs ≡ Ok (best_in ws (pick_of M) gs (best_sum ws (pick_of M) gs), score ws (pick_of M) gs (best_sum ws (pick_of M) gs))

granted_at : (ws : List ℕ) (M : Meaning WordFit) (s : WordShape) (gs : List ℤ) → Lawful M → Ok s ≡ shape_of (glued ws M) → Ok tt ≡ find_checked s.width s.gain_limit gs → Granted ws M gs
granted_at ws (unfit e) s gs l h g = absurd (not_err h)
granted_at ws (fit m) s gs l h g =
    let k = known ws m s h in
    let a = find_granted (glued_fit ws m) gs (rw (k.width, k.limit) at (sym g)) in
    record {
      few_gains = omega (arith, a.as_wide, l.few_cells);
      small_gains = within_wider m.gain_limit (2 ^ 30) gs l.small_gains a.gains_within;
      few_words = leb-true (length ws) 7 k.counted;
      below = λ j.
          let p = glue_sum ws j in
          let found = found_at m (negated p gs) (asked_below ws m gs p a) in
          found ∙ ap (λ (z : ℤ). Ok (m.pick (negated p gs), z)) (sym (correlation_moved p (m.pick (negated p gs)) gs));
      whole = rw (k.counted, k.fitting) (found_at (glued_fit ws m) gs a);
    }

pub granted : (r : Result (List ℕ) Refusal) (ws : List ℕ) (M : Meaning WordFit) (s : WordShape) (gs : List ℤ) → r ≡ Ok ws → Lawful M → Ok s ≡ shape_of (glued_by r M) → Ok tt ≡ find_checked s.width s.gain_limit gs → Granted ws M gs
granted r ws M s gs is l h = granted_at ws M s gs l (rw is at h)

-- ---- a test

-- w is moved to a word below by some sum
abbrev pub MovesBelow : List ℕ → Meaning WordFit → ℕ → Type 0
MovesBelow ws M w = (j : ℕ) × (j < 2 ^ length ws) × Member M (bit_xor (glue_sum ws j) w)

-- what is known of a test that is granted: no test below is refused, and what the whole is to answer
pub record Tested (ws : List ℕ) (M : Meaning WordFit) (w : ℕ) : Type 0 where
  pub few_words : length ws ≤ 7
  pub below : (j : ℕ) (r : Result Bool Refusal) → Contains M (bit_xor (glue_sum ws j) w) r → (b : Bool) × (r ≡ Ok b) × Decides b (Member M (bit_xor (glue_sum ws j) w))
  pub whole : (b : Bool) → Decides b (MovesBelow ws M w) → Contains (glued ws M) w (Ok b)

tested_at : (ws : List ℕ) (M : Meaning WordFit) (s : WordShape) (w : ℕ) → Lawful M → Ok s ≡ shape_of (glued ws M) → Ok tt ≡ test_checked s.width w → Tested ws M w
tested_at ws (unfit e) s w l h g = absurd (not_err h)
tested_at ws (fit m) s w l h g =
    let k = known ws m s h in
    let low : w < 2 ^ m.width = rw k.width at (granted_fits s.width w g) in
    let moved : (j : ℕ) → bit_xor (glue_sum ws j) w < 2 ^ m.width = λ j. xor_lt m.width (glue_sum ws j) w (glue_below m.width ws j k.fitting) low in
    record {
      few_words = leb-true (length ws) 7 k.counted;
      below = λ j r t. told_at (m.member (bit_xor (glue_sum ws j) w)) r (contains_tells m (bit_xor (glue_sum ws j) w) r (moved j) t);
      whole = λ b d. rw (k.counted, k.fitting) (tells_contains (glued_fit ws m) w (Ok b) low (
        λ t. let p = d.0 t in (p.0, bit_xor (glue_sum ws p.0) w, p.1, p.2, sym (xor_twice (glue_sum ws p.0) w)),
        λ q. d.1 (q.0, q.2, rw (q.4, xor_twice (glue_sum ws q.0) q.1) q.3),
      ));
    }

pub tested : (r : Result (List ℕ) Refusal) (ws : List ℕ) (M : Meaning WordFit) (s : WordShape) (w : ℕ) → r ≡ Ok ws → Lawful M → Ok s ≡ shape_of (glued_by r M) → Ok tt ≡ test_checked s.width w → Tested ws M w
tested r ws M s w is l h = tested_at ws M s w l (rw is at h)
