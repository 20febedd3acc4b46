-- What is promised of Construction A is kept.
use Rattle.std.proofs.Common.{ℕ, List, map, ℤ, Ok, Result, refl, ap}
use Rattle.finders.specs.declared.refusals.Refusal.{Refusal}
use Rattle.finders.specs.Meanings.{Meaning, fit, unfit}
use Rattle.finders.specs.Points.{distance}
use Rattle.finders.specs.WordFinders.{WordFit, WordLaws, Lawful, find_answer}
use Rattle.finders.proofs.GrantedWords.{found_at}
use Rattle.lattice_layers.specs.ConstructionA.{gain, with_parities, construction_a_fit}
use Rattle.lattice_layers.specs.ConstructionALaws.{asked_below, construction_a_lawful}
use Rattle.guarantees.specs.Answers.{with_answer, word_in}
use Rattle.guarantees.specs.PointLayers.{ConstructionAPromise}
use Rattle.guarantees.proofs.PointsKept.{kept_unfit, AsPicked, kept_fit}

module _ (m : WordFit) (l : WordLaws m) where
  abbrev found : List ℤ → ℕ → Result (ℕ × ℤ) Refusal
  found rs q = find_answer (fit m) (map (gain q) rs)

  abbrev answer : List ℤ → ℕ → List ℤ → Result ℕ Refusal
  answer rs q place = with_answer (λ r. distance q rs (with_parities r.0 q rs)) (found rs q)

  abbrev point : List ℤ → ℕ → List ℤ → List ℤ
  point rs q place = with_parities (word_in (found rs q)) q rs

  picks : AsPicked (construction_a_fit m) (Ok tt) answer point
  picks rs place q a e =
      let below = found_at m (map (gain q) rs) (asked_below m l rs q a) in (
        ap (with_answer (λ (r : ℕ × ℤ). distance q rs (with_parities r.0 q rs))) below,
        ap (λ (r : Result (ℕ × ℤ) Refusal). with_parities (word_in r) q rs) below,
      )

pub construction_a_kept : (M : Meaning WordFit) → Lawful M → ConstructionAPromise M
construction_a_kept (unfit e) l = kept_unfit _ e refl tt
construction_a_kept (fit m) l = kept_fit (construction_a_fit m) (Ok tt) (answer m l) (point m l) (picks m l) refl (construction_a_lawful (fit m) l)
