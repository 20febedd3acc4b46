-- What any finder of words finds has the greatest correlation, by the laws of its meaning.
use Rattle.std.proofs.Common.{◌≡◌, ℕ, eqb, List, length, ℤ, Ok, Err, Result, refl, ap, ◌∙◌}
use Rattle.std.proofs.lemmas.Bool.{eqb-true}
use Rattle.finders.specs.declared.refusals.Refusal.{Refusal}
use Rattle.finders.specs.declared.refusals.Refusal.TheVariants.{Length, Magnitude}
use Rattle.finders.specs.Meanings.{Meaning, fit, unfit, answered}
use Rattle.finders.specs.Points.{within}
use Rattle.finders.specs.Words.{correlation}
use Rattle.finders.specs.WordFinders.{WordFit, WordLaws, Lawful, Asked, Outcome, Same, SameFit, find_checked, find_answer}
use Rattle.finders.proofs.Fitness.{passed, agrees_trans}

-- what is granted was asked as it should be
pub find_granted : (m : WordFit) (gs : List ℤ) → find_checked m.width m.gain_limit gs ≡ Ok tt → Asked m gs
find_granted m gs h =
    let wide = passed (eqb (length gs) m.width) Length _ h in
    record { as_wide = eqb-true (length gs) m.width wide.0; gains_within = (passed (within m.gain_limit gs) Magnitude (Ok tt) wide.1).0 }

-- the outcome at a check g of a fit finder's find
at_check : (m : WordFit) (gs : List ℤ) (g : Result (Unit {0}) Refusal) → WordLaws m → (g ≡ Ok tt → Asked m gs) → Outcome (fit m) gs (answered g (m.pick gs, correlation (m.pick gs) gs))
at_check m gs (Ok _) l a = record { is_a_member = l.pick_is_a_member gs (a refl); has_the_correlation = refl; no_member_is_better = l.no_member_is_better gs (a refl) }
at_check m gs (Err e) l a = tt

pub outcome : (M : Meaning WordFit) (gs : List ℤ) → Lawful M → Outcome M gs (find_answer M gs)
outcome (unfit e) gs l = tt
outcome (fit m) gs l = at_check m gs (find_checked m.width m.gain_limit gs) l (find_granted m gs)

-- the same of an answer r that is as it should be
pub outcome_of : (M : Meaning WordFit) (gs : List ℤ) (r : Result (ℕ × ℤ) Refusal) → Lawful M → r ≡ find_answer M gs → Outcome M gs r
outcome_of M gs r l e = rw e (outcome M gs l)

pub same_trans : (L M N : Meaning WordFit) → Same L M → Same M N → Same L N
same_trans = agrees_trans SameFit (λ l m n s t. record {
  same_width = s.same_width ∙ t.same_width;
  same_gain_limit = s.same_gain_limit ∙ t.same_gain_limit;
  same_members = λ w. (λ h. (t.same_members w).0 ((s.same_members w).0 h), λ h. (s.same_members w).1 ((t.same_members w).1 h));
  same_picks = λ gs. s.same_picks gs ∙ t.same_picks gs;
})

-- two finders that mean the same find the same
pub same_finds : (M N : Meaning WordFit) (gs : List ℤ) → Same M N → find_answer M gs ≡ find_answer N gs
same_finds (unfit e) (unfit f) gs s = ap Err s
same_finds (unfit e) (fit n) gs s = absurd s
same_finds (fit m) (unfit f) gs s = absurd s
same_finds (fit m) (fit n) gs s = rw (s.same_width, s.same_gain_limit, s.same_picks gs)
