-- What is promised of Repeat is kept.
use Rattle.std.proofs.Common.{◌≡◌, ℕ, ◌*◌, ◌/◌, leb, List, ℤ, Ok, Result, sym, refl, ap, ◌∙◌}
use Rattle.finders.specs.declared.refusals.Refusal.{Refusal}
use Rattle.finders.specs.declared.refusals.Refusal.TheVariants.{Width, Exhausted, Factor}
use Rattle.finders.specs.Meanings.{Meaning, fit, unfit, fitness_of, checked}
use Rattle.finders.specs.Sizes.{in_range}
use Rattle.finders.specs.WordFinders.{WordFit, WordLaws, Lawful, find_answer}
use Rattle.finders.proofs.GrantedWords.{found_at}
use Rattle.code_layers.specs.Repeat.{repeated, group_sums, repeated_fit, times_in_range, repeated_words}
use Rattle.code_layers.specs.RepeatLaws.{sums_asked, repeated_correlation, repeated_lawful}
use Rattle.guarantees.specs.Answers.{with_answer}
use Rattle.guarantees.specs.WordLayers.{WordsTold, RepeatPromise}
use Rattle.guarantees.proofs.Cases.{by_test, fitness_by_test}
use Rattle.guarantees.proofs.WordsKept.{Kept, kept_unfit, told, AsPicked, kept_fit}

module _ (a : ℕ) (m : WordFit) (l : WordLaws m) where
  abbrev written_out : ℕ × ℤ → ℕ × ℤ
  written_out r = (repeated a m.width r.0, r.1)

  abbrev answer : List ℤ → Result (ℕ × ℤ) Refusal
  answer gs = with_answer written_out (find_answer (fit m) (group_sums a m.width gs))

  abbrev fitness : Result (Unit {0}) Refusal
  fitness =
      checked (times_in_range a) Factor
      (checked (in_range (a * m.width)) Width
      (checked (leb 1 (m.gain_limit / a)) Exhausted
      (Ok tt)))

  picks : AsPicked (repeated_fit a m) fitness answer
  picks gs q =
      let sums = group_sums a m.width gs in
      let w = repeated a m.width (m.pick sums) in
      let same = repeated_correlation a m.width (m.pick sums) gs q.as_wide in
      ap (with_answer written_out) (found_at m sums (sums_asked a m l gs q)) ∙ ap (λ (c : ℤ). Ok (w, c)) (sym same)

  abbrev repeat_told : WordsTold
  repeat_told = told (repeated_fit a m) fitness answer

  kept : Kept repeat_told (repeated_words a (fit m))
  kept =
      by_test (Kept repeat_told) (kept_unfit repeat_told) (times_in_range a) Factor _ (λ some.
      by_test (Kept repeat_told) (kept_unfit repeat_told) (in_range (a * m.width)) Width _ (λ cells.
      by_test (Kept repeat_told) (kept_unfit repeat_told) (leb 1 (m.gain_limit / a)) Exhausted (fit (repeated_fit a m)) (λ gains.
      kept_fit (repeated_fit a m) fitness answer picks)))

  fitness_is : fitness_of (repeated_words a (fit m)) ≡ fitness
  fitness_is =
      fitness_by_test (times_in_range a) Factor _ _
      (fitness_by_test (in_range (a * m.width)) Width _ _
      (fitness_by_test (leb 1 (m.gain_limit / a)) Exhausted (fit (repeated_fit a m)) (Ok tt) refl))

pub repeat_kept : (a : ℕ) (M : Meaning WordFit) → Lawful M → RepeatPromise a M
repeat_kept a (unfit e) l = kept_unfit _ e refl tt
repeat_kept a (fit m) l = kept a m l (fitness_is a m l) (repeated_lawful a (fit m) l)
