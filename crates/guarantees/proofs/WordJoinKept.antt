-- What is promised of Join of words is kept.
use Rattle.std.proofs.Common.{◌≡◌, ℕ, ◌+◌, ◌*◌, ◌^◌, List, take, drop, ℤ, ◌+ℤ◌, Ok, Result, sym, refl, ap, ap₂, ◌∙◌}
use Rattle.finders.specs.declared.refusals.Refusal.{Refusal}
use Rattle.finders.specs.declared.refusals.Refusal.TheVariants.{Width}
use Rattle.finders.specs.Meanings.{Meaning, fit, unfit, fitness_of, checked}
use Rattle.finders.specs.Sizes.{in_range}
use Rattle.finders.specs.WordFinders.{WordFit, WordLaws, Lawful, find_answer}
use Rattle.finders.proofs.GrantedWords.{found_at}
use Rattle.code_layers.specs.Join.{joined_fit, joined}
use Rattle.code_layers.specs.JoinLaws.{asked_first, asked_second, low_fits, joined_lawful}
use Rattle.code_layers.specs.PartsLaws.{correlation_joined}
use Rattle.guarantees.specs.Answers.{with_answers}
use Rattle.guarantees.specs.WordLayers.{WordsTold, WordJoinPromise}
use Rattle.guarantees.proofs.Cases.{by_test, fitness_by_test}
use Rattle.guarantees.proofs.WordsKept.{Kept, kept_unfit, told, AsPicked, kept_fit}

module _ (m n : WordFit) (l : WordLaws m) (k : WordLaws n) where
  abbrev together : ℕ × ℤ → ℕ × ℤ → ℕ × ℤ
  together r s = (s.0 * 2 ^ m.width + r.0, r.1 +ℤ s.1)

  abbrev answer : List ℤ → Result (ℕ × ℤ) Refusal
  answer gs = with_answers together (find_answer (fit m) (take m.width gs)) (find_answer (fit n) (drop m.width gs))

  abbrev fitness : Result (Unit {0}) Refusal
  fitness = checked (in_range (m.width + n.width)) Width (Ok tt)

  picks : AsPicked (joined_fit m n) fitness answer
  picks gs a =
      let low = m.pick (take m.width gs) in
      let high = n.pick (drop m.width gs) in
      let front = found_at m (take m.width gs) (asked_first m n l k gs a) in
      let back = found_at n (drop m.width gs) (asked_second m n l k gs a) in
      ap₂ (with_answers together) front back
      ∙ ap (λ (c : ℤ). Ok (high * 2 ^ m.width + low, c)) (sym (correlation_joined m.width low high gs (low_fits m n l k gs a)))

  abbrev join_told : WordsTold
  join_told = told (joined_fit m n) fitness answer

  kept : Kept join_told (joined (fit m) (fit n))
  kept =
      by_test (Kept join_told) (kept_unfit join_told) (in_range (m.width + n.width)) Width (fit (joined_fit m n)) (λ range.
      kept_fit (joined_fit m n) fitness answer picks)

  fitness_is : fitness_of (joined (fit m) (fit n)) ≡ fitness
  fitness_is = fitness_by_test (in_range (m.width + n.width)) Width (fit (joined_fit m n)) (Ok tt) refl

pub word_join_kept : (M N : Meaning WordFit) → Lawful M → Lawful N → WordJoinPromise M N
word_join_kept (unfit e) N l k = kept_unfit _ e refl tt
word_join_kept (fit m) (unfit e) l k = kept_unfit _ e refl tt
word_join_kept (fit m) (fit n) l k = kept m n l k (fitness_is m n l k) (joined_lawful (fit m) (fit n) l k)
