-- What is promised of a layer of words is kept where it is unfit, and where it is fit by what its pick comes to.
use Rattle.std.proofs.Common.{◌≡◌, ℕ, List, ℤ, Ok, Result, sym, refl, ◌∙◌}
use Rattle.finders.specs.declared.refusals.Refusal.{Refusal}
use Rattle.finders.specs.Meanings.{Meaning, fit, unfit, fitness_of}
use Rattle.finders.specs.WordFinders.{WordFit, Asked, Lawful, find_checked}
use Rattle.finders.specs.Words.{correlation}
use Rattle.finders.proofs.Fitness.{not_err}
use Rattle.finders.proofs.FoundWords.{find_granted}
use Rattle.guarantees.specs.WordLayers.{WordsTold, WordsPromise}
use Rattle.guarantees.proofs.Cases.{answers_at}

-- where L has the fitness that is told, the promise is kept
abbrev pub Kept : WordsTold → Meaning WordFit → Type 0
Kept t L = fitness_of L ≡ t.fitness → Lawful L → WordsPromise L t

pub kept_unfit : (t : WordsTold) (e : Refusal) → Kept t (unfit e)
kept_unfit t e h l = record {
  is_fit_unless_refused = h;
  has_the_shape = λ f. absurd (not_err (sym (h ∙ f)));
  has_the_members = λ f. absurd (not_err (sym (h ∙ f)));
  answers_the_word_and_its_correlation = λ gs. rw (sym h) refl;
  is_lawful = l;
}

module _ (m : WordFit) (fitness : Result (Unit {0}) Refusal) (answer : List ℤ → Result (ℕ × ℤ) Refusal) where
  -- what is told of m, with this fitness
  abbrev pub told : WordsTold
  told = record {
    fitness = fitness;
    shape = record { width = m.width; gain_limit = m.gain_limit };
    member = m.member;
    answer = answer;
  }

  -- what is asked as it should be is answered as m picks
  abbrev pub AsPicked : Type 0
  AsPicked = (gs : List ℤ) → Asked m gs → answer gs ≡ Ok (m.pick gs, correlation (m.pick gs) gs)

  pub kept_fit : AsPicked → Kept told (fit m)
  kept_fit picks h l = record {
    is_fit_unless_refused = h;
    has_the_shape = λ f. refl;
    has_the_members = λ f w. (λ p. p, λ p. p);
    answers_the_word_and_its_correlation = λ gs.
        let picked : ℕ × ℤ = (m.pick gs, correlation (m.pick gs) gs) in
        rw (sym h) (answers_at (find_checked m.width m.gain_limit gs) picked (answer gs) (λ g. picks gs (find_granted m gs g)));
    is_lawful = l;
  }
