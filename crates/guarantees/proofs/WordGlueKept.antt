-- What is promised of Glue of words is kept.
use Rattle.std.proofs.Common.{◌≡◌, ℕ, leb, List, length, ℤ, pos, Ok, Result, bit_xor, sym, refl, ap, ◌∙◌, pow_pos}
use Rattle.std.proofs.lemmas.List.{length-map}
use Rattle.std.proofs.lemmas.List.FromFn.{length-range_with_len}
use Rattle.finders.specs.declared.refusals.Refusal.{Refusal}
use Rattle.finders.specs.declared.refusals.Refusal.TheVariants.{GlueCount, Entry}
use Rattle.finders.specs.Choice.{no_less, IsFirst}
use Rattle.finders.specs.Meanings.{Meaning, fit, unfit, fitness_of, checked}
use Rattle.finders.specs.WordFinders.{WordFit, Asked, Lawful, find_checked, find_answer}
use Rattle.finders.specs.Words.{all_fit, correlation}
use Rattle.finders.proofs.Fitness.{not_err}
use Rattle.finders.proofs.FirstNumbers.{first_best_alike}
use Rattle.finders.proofs.Firsts.{first_best_is}
use Rattle.finders.proofs.FoundWords.{find_granted}
use Rattle.finders.proofs.GrantedWords.{found_at}
use Rattle.finders.proofs.Scores.{no_less_total, no_less_chain}
use Rattle.code_layers.specs.Glue.{glue_sum, negated, sum_numbers, score, best_sum, glued_fit, glued}
use Rattle.code_layers.specs.GlueLaws.{correlation_moved, asked_below, glued_lawful}
use Rattle.guarantees.specs.Answers.{with_answer, correlation_in}
use Rattle.guarantees.specs.WordLayers.{WordsTold, answer_below, correlations_below, winning_sum, WordGluePromise}
use Rattle.guarantees.proofs.Cases.{by_test, fitness_by_test, granted_at}
use Rattle.guarantees.proofs.WordsKept.{Kept, kept_unfit, told, AsPicked, kept_fit}

module _ (ws : List ℕ) (m : WordFit) where
  -- what is answered below for each sum
  module _ (gs : List ℤ) (a : Asked (glued_fit ws m) gs) where
    abbrev below : ℕ → ℕ
    below j = m.pick (negated (glue_sum ws j) gs)

    found : (j : ℕ) → answer_below ws (fit m) gs j ≡ Ok (below j, score ws m.pick gs j)
    found j =
        let p = glue_sum ws j in
        found_at m (negated p gs) (asked_below ws m gs p a) ∙ ap (λ (c : ℤ). Ok (below j, c)) (sym (correlation_moved p (below j) gs))

    same_sum : winning_sum ws (fit m) gs ≡ best_sum ws m.pick gs
    same_sum =
        first_best_alike no_less (λ j. correlation_in (answer_below ws (fit m) gs j)) (score ws m.pick gs)
        (λ j. ap correlation_in (found j)) (sum_numbers ws)

  abbrev moved : ℕ → ℕ × ℤ → ℕ × ℤ
  moved j r = (bit_xor (glue_sum ws j) r.0, r.1)

  abbrev answer : List ℤ → Result (ℕ × ℤ) Refusal
  answer gs = let j = winning_sum ws (fit m) gs in with_answer (moved j) (answer_below ws (fit m) gs j)

  abbrev fitness : Result (Unit {0}) Refusal
  fitness =
      checked (leb (length ws) 7) GlueCount
      (checked (all_fit m.width ws) Entry
      (Ok tt))

  picks : AsPicked (glued_fit ws m) fitness answer
  picks gs a =
      let best = best_sum ws m.pick gs in
      ap (λ (j : ℕ). with_answer (moved j) (answer_below ws (fit m) gs j)) (same_sum gs a) ∙ ap (with_answer (moved best)) (found gs a best)

  abbrev glue_told : WordsTold
  glue_told = told (glued_fit ws m) fitness answer

  -- what holds of the glued words where they are unfit, and where they have passed the tests
  by_tests : (P : Meaning WordFit → Type 0) → ((e : Refusal) → P (unfit e)) → P (fit (glued_fit ws m)) → P (glued ws (fit m))
  by_tests P none h =
      by_test P none (leb (length ws) 7) GlueCount _ (λ few.
      by_test P none (all_fit m.width ws) Entry (fit (glued_fit ws m)) (λ fitting.
      h))

  kept : Kept glue_told (glued ws (fit m))
  kept = by_tests (Kept glue_told) (kept_unfit glue_told) (kept_fit (glued_fit ws m) fitness answer picks)

  fitness_is : fitness_of (glued ws (fit m)) ≡ fitness
  fitness_is =
      fitness_by_test (leb (length ws) 7) GlueCount _ _
      (fitness_by_test (all_fit m.width ws) Entry (fit (glued_fit ws m)) (Ok tt) refl)

  -- where L answers, each sum is found below
  abbrev EachFound : Meaning WordFit → Type 0
  EachFound L = (gs : List ℤ) (r : ℕ × ℤ) → find_answer L gs ≡ Ok r
      → (j : ℕ) → (s : ℕ × ℤ) × (answer_below ws (fit m) gs j ≡ Ok s)

  each_found : EachFound (glued ws (fit m))
  each_found = by_tests EachFound (λ e gs r h. absurd (not_err (sym h))) (λ gs r h j.
      let w = (glued_fit ws m).pick gs in
      let a = find_granted (glued_fit ws m) gs (granted_at (find_checked m.width m.gain_limit gs) (w, correlation w gs) r h) in
      ((below gs a j, score ws m.pick gs j), found gs a j))

first_of_the_greatest : (ws : List ℕ) (M : Meaning WordFit) (gs : List ℤ) → IsFirst no_less (pos 0) (correlations_below ws M gs) (winning_sum ws M gs)
first_of_the_greatest ws M gs =
    first_best_is no_less no_less_total no_less_chain (pos 0) (correlations_below ws M gs)
    (rw (length-map, length-range_with_len) (pow_pos (length ws)))

pub word_glue_kept : (ws : List ℕ) (M : Meaning WordFit) → Lawful M → WordGluePromise ws M
word_glue_kept ws (unfit e) l = record {
  is_a_layer = kept_unfit _ e refl tt;
  each_sum_is_found = λ gs r h. absurd (not_err (sym h));
  the_first_of_the_greatest_wins = first_of_the_greatest ws (unfit e);
}
word_glue_kept ws (fit m) l = record {
  is_a_layer = kept ws m (fitness_is ws m) (glued_lawful (Ok ws) (fit m) l);
  each_sum_is_found = each_found ws m;
  the_first_of_the_greatest_wins = first_of_the_greatest ws (fit m);
}
