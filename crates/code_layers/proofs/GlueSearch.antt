-- The search for the best of the glued words, over the sums of glue words in order.
use Rattle.std.proofs.Common.{◌≡◌, ℕ, ◌+◌, ◌^◌, List, [], ◌∷◌, ◌++◌, map, length, ℤ, Some, Option, Ok, Result, bit_xor, sym, ap, ap₂, ◌∙◌, arith, pow_pos}
use Rattle.std.specs.List.{range_with_len}
use Rattle.std.proofs.lemmas.List.FromFn.{map-range_with_len_more}
use Rattle.finders.specs.declared.choice.Greatest.{Greatest}
use Rattle.finders.specs.declared.refusals.Refusal.{Refusal}
use Rattle.finders.specs.Choice.{Chosen, no_less}
use Rattle.finders.specs.Meanings.{Meaning}
use Rattle.finders.specs.WordFinders.{WordFit, find_answer}
use Rattle.finders.proofs.FirstNumbers.{chosen_number}
use Rattle.finders.proofs.Scores.{Great, great, great_decides, no_less_total, no_less_chain}
use Rattle.code_layers.specs.Glue.{glue_sum, negated, best_in, score, best_sum}
use Rattle.code_layers.specs.GlueFinds.{pick_of}

module _ (ws : List ℕ) (pick : List ℤ → ℕ) (gs : List ℤ) where
  -- the best word that the sum with number j moves, with its score
  abbrev pub offer : ℕ → ℕ × Greatest
  offer j = (best_in ws pick gs j, great (score ws pick gs j))

  -- what was offered before number k
  abbrev pub offers : ℕ → List (ℕ × Greatest)
  offers k = map offer (range_with_len 0 k)

  -- what is held after all of them is the pick
  pub held_last : (held : Option (ℕ × Greatest)) → Chosen Great (offers (2 ^ length ws)) held → held ≡ Some (offer (best_sum ws pick gs))
  held_last = chosen_number no_less no_less_total no_less_chain (score ws pick gs) (2 ^ length ws) (pow_pos (length ws)) (best_in ws pick gs) great Great great_decides

-- one turn: the find below answers the word w, with the correlation c, for the gains as the sum with number k turns them
pub turn : (ws : List ℕ) (M : Meaning WordFit) (gs copied turned : List ℤ) (k s w : ℕ) (c d : ℤ) (held : Option (ℕ × Greatest))
    → find_answer M (negated (glue_sum ws k) gs) ≡ Ok (pick_of M (negated (glue_sum ws k) gs), score ws (pick_of M) gs k)
    → s ≡ glue_sum ws k
    → copied ≡ gs
    → turned ≡ negated s copied
    → Ok (w, c) ≡ find_answer M turned
    → d ≡ c
    → Chosen Great (offers ws (pick_of M) gs k ++ (bit_xor s w, great d) ∷ []) held
    → Chosen Great (offers ws (pick_of M) gs (k + 1)) held
turn ws M gs copied turned k s w c d held below sum copy turns found same chosen =
    let pick = pick_of M in
    let told : ◌≡◌ {A = Result (ℕ × ℤ) Refusal} (Ok (w, c)) (Ok (pick (negated (glue_sum ws k) gs), score ws pick gs k)) = found ∙ ap (find_answer M) (turns ∙ ap₂ negated sum copy) ∙ below in
    let pair : ◌≡◌ {A = ℕ × ℤ} (w, c) (pick (negated (glue_sum ws k) gs), score ws pick gs k) = cc in
    let is : (bit_xor s w, great d) ≡ offer ws pick gs k = rw (sum, same) (ap (λ (p : ℕ × ℤ). (bit_xor (glue_sum ws k) p.0, great p.1)) pair) in
    rw (map-range_with_len_more (offer ws pick gs) 0 k k (omega arith), sym is) chosen
