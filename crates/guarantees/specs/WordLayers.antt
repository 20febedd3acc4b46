-- What is promised of each layer of words, over any meaning below, fit or not.
use Rattle.std.specs.Prelude.{◌≡◌, ℕ, ◌+◌, ◌-◌, ◌*◌, ◌/◌, ◌^◌, ◌<◌, ◌↔◌, min, List, map, length, take, drop, ℤ, pos}
use Rattle.std.specs.Prelude.{◌+ℤ◌, Ok, Result, nat_le, bit_xor}
use Rattle.finders.specs.declared.words.WordShape.{WordShape}
use Rattle.finders.specs.declared.refusals.Refusal.{Refusal}
use Rattle.finders.specs.declared.refusals.Refusal.TheVariants.{Width, GlueCount, Entry, Exhausted, Factor}
use Rattle.finders.specs.Choice.{first_best, no_less, IsFirst}
use Rattle.finders.specs.Meanings.{Meaning, fitness_of, checked, and_then}
use Rattle.finders.specs.Sizes.{in_range}
use Rattle.finders.specs.WordFinders.{WordFit, Lawful, Member, shape_of, width_of, gain_limit_of, find_checked}
use Rattle.finders.specs.WordFinders.{find_answer}
use Rattle.finders.specs.Words.{all_fit}
use Rattle.code_layers.specs.Glue.{glue_sum, negated, sum_numbers, glued}
use Rattle.code_layers.specs.Join.{joined}
use Rattle.code_layers.specs.Parts.{front, back}
use Rattle.code_layers.specs.Repeat.{repeated, group_sums, times_in_range, repeated_words}
use Rattle.code_layers.specs.Shorten.{with_last, shortened}
use Rattle.guarantees.specs.Answers.{with_answer, with_answers, correlation_in}

-- What is told of a layer by what is below it: the first refusal that makes it unfit, or Ok; and where it is fit its
-- shape, its set, and what a find of gains answers, a word and its correlation, where its check grants it.
pub record WordsTold : Type 1 where
  pub fitness : Result (Unit {0}) Refusal
  pub shape : WordShape
  pub member : ℕ → Type 0
  pub answer : List ℤ → Result (ℕ × ℤ) Refusal

-- what a find is refused for, first that applies
abbrev pub find_check : WordsTold → List ℤ → Result (Unit {0}) Refusal
find_check t gs = and_then t.fitness (find_checked t.shape.width t.shape.gain_limit gs)

-- A layer that means L is as told, ties included. It is lawful too: what a find answers is a member of the greatest
-- correlation, with that correlation.
pub record WordsPromise (L : Meaning WordFit) (t : WordsTold) : Type 0 where
  pub is_fit_unless_refused : fitness_of L ≡ t.fitness
  pub has_the_shape : t.fitness ≡ Ok tt → shape_of L ≡ Ok t.shape
  pub has_the_members : t.fitness ≡ Ok tt → (w : ℕ) → Member L w ↔ t.member w
  pub answers_the_word_and_its_correlation : (gs : List ℤ) → find_answer L gs ≡ and_then (find_check t gs) (t.answer gs)
  pub is_lawful : Lawful L

-- ---- the layers

-- Repeat, a times: each digit of a word so often in a row. The word that is found below for the sums of the groups of
-- gains is written out.
abbrev pub RepeatPromise : ℕ → Meaning WordFit → Type 0
RepeatPromise a M = WordsPromise (repeated_words a M) (record {
  fitness =
      and_then (fitness_of M)
      (checked (times_in_range a) Factor
      (checked (in_range (a * width_of M)) Width
      (checked (nat_le 1 (gain_limit_of M / a)) Exhausted
      (Ok tt))));
  shape = record { width = a * width_of M; gain_limit = gain_limit_of M / a };
  member = λ w. (v : ℕ) × Member M v × (w ≡ repeated a (width_of M) v);
  answer = λ gs. with_answer (λ r. (repeated a (width_of M) r.0, r.1)) (find_answer M (group_sums a (width_of M) gs));
})

-- Join: a word of the first, and after it a word of the second. Each part is found for its gains, and the correlations
-- are added.
abbrev pub WordJoinPromise : Meaning WordFit → Meaning WordFit → Type 0
WordJoinPromise M N = WordsPromise (joined M N) (record {
  fitness =
      and_then (fitness_of M)
      (and_then (fitness_of N)
      (checked (in_range (width_of M + width_of N)) Width
      (Ok tt)));
  shape = record { width = width_of M + width_of N; gain_limit = min (gain_limit_of M) (gain_limit_of N) };
  member = λ w. Member M (front (width_of M) w) × Member N (back (width_of M) w);
  answer = λ gs.
      with_answers (λ r s. (s.0 * 2 ^ width_of M + r.0, r.1 +ℤ s.1))
      (find_answer M (take (width_of M) gs))
      (find_answer N (drop (width_of M) gs));
})

-- Shorten: each word without its last digit. The word that is found below with a gain of 0 behind the gains loses its
-- last digit.
abbrev pub ShortenPromise : Meaning WordFit → Type 0
ShortenPromise M = WordsPromise (shortened M) (record {
  fitness =
      and_then (fitness_of M)
      (checked (in_range (width_of M - 1)) Width
      (Ok tt));
  shape = record { width = width_of M - 1; gain_limit = gain_limit_of M };
  member = λ w. (v : ℕ) × Member M v × (w ≡ front (width_of M - 1) v);
  answer = λ gs. with_answer (λ r. (front (width_of M - 1) r.0, r.1)) (find_answer M (with_last gs));
})

-- Glue: the words below, each moved by each sum of the glue words. For each sum what is below is asked with the gains
-- that are negated where the sum has digit 1. The greatest correlation wins, and of equal ones that of the first sum.
module _ (ws : List ℕ) (M : Meaning WordFit) where
  -- what is answered below for the sum with number j
  abbrev pub answer_below : List ℤ → (j : ℕ) → Result (ℕ × ℤ) Refusal
  answer_below gs j = find_answer M (negated (glue_sum ws j) gs)

  -- the correlations that are answered below, in the order of the sums, and the number of the sum that has the first of
  -- the greatest
  abbrev pub correlations_below : List ℤ → List ℤ
  correlations_below gs = map (λ j. correlation_in (answer_below gs j)) (sum_numbers ws)

  abbrev pub winning_sum : List ℤ → ℕ
  winning_sum gs = first_best no_less (correlations_below gs)

  pub record WordGluePromise : Type 0 where
    pub is_a_layer : WordsPromise (glued ws M) (record {
      fitness =
          and_then (fitness_of M)
          (checked (nat_le (length ws) 7) GlueCount
          (checked (all_fit (width_of M) ws) Entry
          (Ok tt)));
      shape = record { width = width_of M; gain_limit = gain_limit_of M };
      member = λ w. (j c : ℕ) × (j < 2 ^ length ws) × Member M c × (w ≡ bit_xor (glue_sum ws j) c);
      answer = λ gs.
          with_answer (λ r. (bit_xor (glue_sum ws (winning_sum gs)) r.0, r.1))
          (answer_below gs (winning_sum gs));
    })
    -- where the whole answers a word, no find below is refused
    pub each_sum_is_found : (gs : List ℤ) (r : ℕ × ℤ) → find_answer (glued ws M) gs ≡ Ok r
        → (j : ℕ) → (s : ℕ × ℤ) × (answer_below gs j ≡ Ok s)
    pub the_first_of_the_greatest_wins : (gs : List ℤ)
        → IsFirst no_less (pos 0) (correlations_below gs) (winning_sum gs)
