-- The words of a finder, each moved by each sum of some glue words.
use Rattle.std.specs.Prelude.{◌≡◌, ℕ, ◌/◌, ◌%◌, ◌^◌, ◌<◌, cond, List, [], ◌∷◌, map, length, ℤ, ◌==◌, bit_xor, nat_le, Option, Some, None, Result, Ok, Err}
use Rattle.std.specs.List.{range_with_len}
use Rattle.finders.specs.declared.lists.WordList.{WordList}
use Rattle.finders.specs.declared.refusals.Refusal.{Refusal}
use Rattle.finders.specs.declared.refusals.Refusal.TheVariants.{GlueCount, Entry}
use Rattle.finders.specs.Choice.{first_best, no_less}
use Rattle.finders.specs.Lists.{words_in}
use Rattle.finders.specs.Meanings.{Meaning, fit, unfit, unfit_unless}
use Rattle.finders.specs.WordFinders.{WordFit}
use Rattle.finders.specs.Words.{signed, all_fit, correlation}

-- the XOR of those glue words whose bit in j is 1, where the first of them has the lowest bit
abbrev pub glue_sum : List ℕ → ℕ → ℕ
glue_sum [] j = 0
glue_sum (w ∷ ws) j = bit_xor (cond (j % 2 == 0) 0 w) (glue_sum ws (j / 2))

-- the gains, each times the sign of its digit in a word
abbrev pub negated : ℕ → List ℤ → List ℤ
negated p [] = []
negated p (g ∷ gs) = signed (p % 2) g ∷ negated (p / 2) gs

-- the numbers of the sums
abbrev pub sum_numbers : List ℕ → List ℕ
sum_numbers ws = range_with_len 0 (2 ^ length ws)

-- where the words below are picked by `pick`: the best word of those that the sum with number j moves
abbrev pub best_in : List ℕ → (pick : List ℤ → ℕ) → List ℤ → (j : ℕ) → ℕ
best_in ws pick gs j = bit_xor (glue_sum ws j) (pick (negated (glue_sum ws j) gs))

-- its correlation
abbrev pub score : List ℕ → (pick : List ℤ → ℕ) → List ℤ → (j : ℕ) → ℤ
score ws pick gs j = correlation (best_in ws pick gs j) gs

-- the first number of the greatest correlation
abbrev pub best_sum : List ℕ → (pick : List ℤ → ℕ) → List ℤ → ℕ
best_sum ws pick gs = first_best no_less (map (score ws pick gs) (sum_numbers ws))

abbrev pub glued_fit : List ℕ → WordFit → WordFit
glued_fit ws m = record {
  width = m.width;
  gain_limit = m.gain_limit;
  member = λ w. (j c : ℕ) × (j < 2 ^ length ws) × m.member c × (w ≡ bit_xor (glue_sum ws j) c);
  pick = λ gs. best_in ws m.pick gs (best_sum ws m.pick gs);
}

abbrev pub glued : List ℕ → Meaning WordFit → Meaning WordFit
glued ws (unfit e) = unfit e
glued ws (fit m) =
    unfit_unless (nat_le (length ws) 7) GlueCount
    (unfit_unless (all_fit m.width ws) Entry
    (fit (glued_fit ws m)))

-- ---- as a layer holds its glue words: listed, where they are few enough

abbrev pub glue_words : Option (WordList 7) → Result (List ℕ) Refusal
glue_words (Some l) = Ok (words_in l)
glue_words None = Err GlueCount

-- what is below comes first where both are refused
abbrev pub glued_by : Result (List ℕ) Refusal → Meaning WordFit → Meaning WordFit
glued_by (Ok ws) M = glued ws M
glued_by (Err e) (unfit f) = unfit f
glued_by (Err e) (fit m) = unfit e
