-- What is promised of Shorten is kept.
use Rattle.std.proofs.Common.{◌≡◌, ℕ, ◌-◌, true, List, ℤ, Ok, Result, refl, ap, ◌∙◌}
use Rattle.finders.specs.declared.refusals.Refusal.{Refusal}
use Rattle.finders.specs.declared.refusals.Refusal.TheVariants.{Width}
use Rattle.finders.specs.Meanings.{Meaning, fit, unfit, fitness_of, checked}
use Rattle.finders.specs.Sizes.{in_range}
use Rattle.finders.specs.WordFinders.{WordFit, WordLaws, Lawful, find_answer}
use Rattle.finders.proofs.GrantedWords.{found_at}
use Rattle.finders.proofs.Within.{range}
use Rattle.code_layers.specs.Parts.{front}
use Rattle.code_layers.specs.Shorten.{with_last, shortened_fit, shortened}
use Rattle.code_layers.specs.ShortenLaws.{asked_below, correlation_with_last, shortened_lawful}
use Rattle.guarantees.specs.Answers.{with_answer}
use Rattle.guarantees.specs.WordLayers.{WordsTold, ShortenPromise}
use Rattle.guarantees.proofs.Cases.{by_test, fitness_by_test}
use Rattle.guarantees.proofs.WordsKept.{Kept, kept_unfit, told, AsPicked, kept_fit}

module _ (m : WordFit) (l : WordLaws m) where
  abbrev cut : ℕ × ℤ → ℕ × ℤ
  cut r = (front (m.width - 1) r.0, r.1)

  abbrev answer : List ℤ → Result (ℕ × ℤ) Refusal
  answer gs = with_answer cut (find_answer (fit m) (with_last gs))

  abbrev fitness : Result (Unit {0}) Refusal
  fitness = checked (in_range (m.width - 1)) Width (Ok tt)

  picks : in_range (m.width - 1) ≡ true → AsPicked (shortened_fit m) fitness answer
  picks e gs a =
      let w = m.pick (with_last gs) in
      let same = rw a.as_wide at (correlation_with_last w gs) in
      let below = found_at m (with_last gs) (asked_below m l (range (m.width - 1) e).0 gs a) in
      ap (with_answer cut) below ∙ ap (λ (c : ℤ). Ok (front (m.width - 1) w, c)) same

  abbrev shorten_told : WordsTold
  shorten_told = told (shortened_fit m) fitness answer

  kept : Kept shorten_told (shortened (fit m))
  kept =
      by_test (Kept shorten_told) (kept_unfit shorten_told) (in_range (m.width - 1)) Width (fit (shortened_fit m)) (λ e.
      kept_fit (shortened_fit m) fitness answer (picks e))

  fitness_is : fitness_of (shortened (fit m)) ≡ fitness
  fitness_is = fitness_by_test (in_range (m.width - 1)) Width (fit (shortened_fit m)) (Ok tt) refl

pub shorten_kept : (M : Meaning WordFit) → Lawful M → ShortenPromise M
shorten_kept (unfit e) l = kept_unfit _ e refl tt
shorten_kept (fit m) l = kept m l (fitness_is m l) (shortened_lawful (fit m) l)
