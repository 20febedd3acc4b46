-- Finders that mean the same have one set, and blocks over them open and decide alike.
use Rattle.std.proofs.Common.{◌≡◌, ℕ, ◌*◌, List, length, ℤ, Ok, Err, Result, MatchResult, refl}
use Rattle.finders.specs.declared.refusals.Refusal.{Refusal}
use Rattle.finders.specs.Meanings.{Meaning, fit, unfit}
use Rattle.finders.specs.PointFinders.{PointFit, OneSet, Same, width_of}
use Rattle.blocks.specs.Senses.{sums, IsLeastTotal}
use Rattle.blocks.specs.Calls.{open_checked, decided_point}

pub one_set : (M N : Meaning PointFit) → Same M N → OneSet M N
one_set (unfit e) (unfit f) s x = (λ h. h, λ h. h)
one_set (unfit e) (fit n) s x = absurd s
one_set (fit m) (unfit f) s x = absurd s
one_set (fit m) (fit n) s x = s.same_members x

pub same_width : (M N : Meaning PointFit) → Same M N → width_of M ≡ width_of N
same_width (unfit e) (unfit f) s = refl
same_width (unfit e) (fit n) s = absurd s
same_width (fit m) (unfit f) s = absurd s
same_width (fit m) (fit n) s = s.same_width

pub same_open : (M N : Meaning PointFit) → Same M N → (q : ℕ) → open_checked M q ≡ open_checked N q
same_open (unfit e) (unfit f) s q = rw s refl
same_open (unfit e) (fit n) s q = absurd s
same_open (fit m) (unfit f) s q = absurd s
same_open (fit m) (fit n) s q = rw (s.same_step_limit, s.same_reading_limit) refl

-- a least total over the one is one over the other
pub least_total_of_the_same : (M N : Meaning PointFit) (q : ℕ) (ss : List (List ℤ)) (x : List ℤ) (t : ℕ) → IsLeastTotal M q ss x t → Same M N →
    IsLeastTotal N q ss x t
least_total_of_the_same M N q ss x t h s = record {
  is_a_member = (one_set M N s x).0 h.is_a_member;
  is_its_total = h.is_its_total;
  no_member_has_less = λ y m. h.no_member_has_less y ((one_set M N s y).1 m);
}

-- so is what is answered of a place
pub outcome_of_the_same : (M N : Meaning PointFit) (q : ℕ) (ss : List (List ℤ)) (before after : List ℤ) (r : Result ℕ Refusal) → Same M N →
    MatchResult r (λ t. IsLeastTotal M q ss after t) (λ e. after ≡ before) →
    MatchResult r (λ t. IsLeastTotal N q ss after t) (λ e. after ≡ before)
outcome_of_the_same M N q ss before after (Ok t) s h = least_total_of_the_same M N q ss after t h s
outcome_of_the_same M N q ss before after (Err e) s h = h

pub same_decided : (M N : Meaning PointFit) → Same M N → (q : ℕ) (ss : List (List ℤ)) → decided_point M q ss ≡ decided_point N q ss
same_decided (unfit e) (unfit f) s q ss = refl
same_decided (unfit e) (fit n) s q ss = absurd s
same_decided (fit m) (unfit f) s q ss = absurd s
same_decided (fit m) (fit n) s q ss = rw s.same_width (s.same_picks (sums n.width ss) (length ss * q))
