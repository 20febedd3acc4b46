-- What any finder finds is nearest, by the laws of its meaning.
use Rattle.std.proofs.Common.{◌≡◌, ℕ, ◌&&◌, eqb, leb, List, length, ℤ, Ok, Err, Result, refl, ap, ◌∙◌, arith}
use Rattle.std.proofs.lemmas.Bool.{leb-true, eqb-true, and_parts}
use Rattle.finders.specs.declared.refusals.Refusal.{Refusal}
use Rattle.finders.specs.declared.refusals.Refusal.TheVariants.{Length, Magnitude, Step}
use Rattle.finders.specs.Meanings.{Meaning, fit, unfit, answered, placed}
use Rattle.finders.specs.Points.{distance, within}
use Rattle.finders.specs.PointFinders.{PointFit, PointLaws, Lawful, Asked, Outcome, IsNearestMember, OneSet, Same, SameFit, find_checked, find_answer, find_place}
use Rattle.finders.proofs.Fitness.{not_err, passed, agrees_trans}

-- what is granted was asked as it should be
pub find_granted : (m : PointFit) (rs : List ℤ) (q k : ℕ) → find_checked m.width m.reading_limit m.step_limit rs q k ≡ Ok tt → Asked m rs q
find_granted m rs q k h =
    let wide = passed (eqb (length rs) m.width && eqb k m.width) Length _ h in
    let sized = passed (within m.reading_limit rs) Magnitude _ wide.1 in
    let stepped = and_parts (leb 1 q) (leb q m.step_limit) (passed (leb 1 q && leb q m.step_limit) Step (Ok tt) sized.1).0 in
    record {
      as_wide = eqb-true (length rs) m.width (and_parts (eqb (length rs) m.width) (eqb k m.width) wide.0).0;
      readings_within = sized.0;
      step_from_one = leb-true 1 q stepped.0;
      step_within = leb-true q m.step_limit stepped.1;
    }

-- the outcome at a check g of a fit finder's find
at_check : (m : PointFit) (rs place : List ℤ) (q : ℕ) (g : Result (Unit {0}) Refusal) → PointLaws m → (g ≡ Ok tt → Asked m rs q) → Outcome (fit m) rs q place (placed g (m.pick rs q) place) (answered g (distance q rs (m.pick rs q)))
at_check m rs place q (Ok _) l a = record {
  is_a_member = l.pick_is_a_member rs q (a refl);
  is_at_the_distance = refl;
  no_member_is_nearer = l.no_member_is_nearer rs q (a refl);
  has_small_residues = l.residues_are_small rs q (a refl);
}
at_check m rs place q (Err e) l a = refl

pub outcome : (M : Meaning PointFit) (rs place : List ℤ) (q : ℕ) → Lawful M → Outcome M rs q place (find_place M rs q place) (find_answer M rs q place)
outcome (unfit e) rs place q l = refl
outcome (fit m) rs place q l = at_check m rs place q (find_checked m.width m.reading_limit m.step_limit rs q (length place)) l (find_granted m rs q (length place))

-- the same of an answer r and a place after it that are as they should be
pub outcome_of : (M : Meaning PointFit) (rs place after : List ℤ) (q : ℕ) (r : Result ℕ Refusal) → Lawful M → r ≡ find_answer M rs q place → after ≡ find_place M rs q place → Outcome M rs q place after r
outcome_of M rs place after q r l e f = rw (e, f) (outcome M rs place q l)

-- two finders that mean the same find the same
pub same_finds : (M N : Meaning PointFit) (rs place : List ℤ) (q : ℕ) → Same M N → (find_answer M rs q place ≡ find_answer N rs q place) × (find_place M rs q place ≡ find_place N rs q place)
same_finds (unfit e) (unfit f) rs place q s = (ap Err s, refl)
same_finds (unfit e) (fit n) rs place q s = absurd s
same_finds (fit m) (unfit f) rs place q s = absurd s
same_finds (fit m) (fit n) rs place q s = rw (s.same_width, s.same_reading_limit, s.same_step_limit, s.same_picks rs q) (refl, refl)

-- of a place only its length counts, and where a distance is answered, not even that
pub found_by_length : (M : Meaning PointFit) (rs place other : List ℤ) (q d : ℕ) → length place ≡ length other → Ok d ≡ find_answer M rs q place → (Ok d ≡ find_answer M rs q other) × (find_place M rs q place ≡ find_place M rs q other)
found_by_length (unfit e) rs place other q d l h = absurd (not_err h)
found_by_length (fit m) rs place other q d l h = let t = rw l at h in (t, rw l (written (find_checked m.width m.reading_limit m.step_limit rs q (length other)) t))
  where
    written : (g : Result (Unit {0}) Refusal) → Ok d ≡ answered g (distance q rs (m.pick rs q)) → placed g (m.pick rs q) place ≡ placed g (m.pick rs q) other
    written (Ok _) e = refl
    written (Err f) e = absurd (not_err e)

-- two finders of one set find at one distance
pub one_distance : (M N : Meaning PointFit) (rs place : List ℤ) (q d e : ℕ) → Lawful M → Lawful N → OneSet M N → find_answer M rs q place ≡ Ok d → find_answer N rs q place ≡ Ok e → d ≡ e
one_distance M N rs place q d e l k s f g =
    let x = find_place M rs q place in
    let y = find_place N rs q place in
    let a : IsNearestMember M rs q x d = rw f at (outcome M rs place q l) in
    let b : IsNearestMember N rs q y e = rw g at (outcome N rs place q k) in
    omega (arith, a.is_at_the_distance, b.is_at_the_distance, a.no_member_is_nearer y ((s y).1 b.is_a_member), b.no_member_is_nearer x ((s x).0 a.is_a_member))

pub same_itself : (M : Meaning PointFit) → Same M M
same_itself (unfit e) = refl
same_itself (fit m) = record { same_width = refl; same_reading_limit = refl; same_step_limit = refl; same_members = λ x. (λ h. h, λ h. h); same_picks = λ rs q. refl }

pub same_trans : (L M N : Meaning PointFit) → Same L M → Same M N → Same L N
same_trans = agrees_trans SameFit (λ l m n s t. record {
  same_width = s.same_width ∙ t.same_width;
  same_reading_limit = s.same_reading_limit ∙ t.same_reading_limit;
  same_step_limit = s.same_step_limit ∙ t.same_step_limit;
  same_members = λ x. (λ h. (t.same_members x).0 ((s.same_members x).0 h), λ h. (s.same_members x).1 ((t.same_members x).1 h));
  same_picks = λ rs q. s.same_picks rs q ∙ t.same_picks rs q;
})
