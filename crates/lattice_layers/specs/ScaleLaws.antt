-- The laws of scaled points: a point that is scaled by k leaves at the step q what it leaves itself at the step k * q.
use Rattle.std.specs.Prelude.{◌≡◌, ℕ, ◌*◌, ◌/◌, ◌≤◌, true, List, [], ◌∷◌, ℤ, pos, ◌*ℤ◌, nat_le}
use Rattle.std.proofs.Common.{refl, ap, arith}
use Rattle.std.proofs.Math.Nat.{mul-le-mul, mul-le-mul_left, mul-div-le, div-le_self}
use Rattle.std.proofs.lemmas.Bool.{and_parts, leb-true}
use Rattle.std.proofs.lemmas.List.{length-map}
use Rattle.integers.specs.Nearest.{residue}
use Rattle.integers.specs.Ring.{◌⊖◌, ◌⊗◌}
use Rattle.integers.proofs.Ring.{ring4}
use Rattle.finders.specs.declared.refusals.Refusal.TheVariants.{Factor, Exhausted}
use Rattle.finders.specs.Meanings.{Meaning, fit, unfit}
use Rattle.finders.specs.Points.{distance, SmallResidues}
use Rattle.finders.specs.PointFinders.{PointFit, PointLaws, Asked, Lawful, SameFit, Same}
use Rattle.finders.proofs.Fitness.{unfit_unless_keeps, unfit_unless_agrees}
use Rattle.lattice_layers.specs.Scale.{times, scaled_fit, factor_in_range, scaled}

residue_scaled : (k q : ℕ) (r x : ℤ) → residue q r (pos k *ℤ x) ≡ residue (k * q) r x
residue_scaled k q r x = ring4 r (pos k) (pos q) x (λ r k q x. r ⊖ q ⊗ (k ⊗ x)) (λ r k q x. r ⊖ (k ⊗ q) ⊗ x) tt

pub distance_scaled : (k q : ℕ) (rs p : List ℤ) → distance q rs (times k p) ≡ distance (k * q) rs p
distance_scaled k q [] p = refl
distance_scaled k q (r ∷ rs) [] = refl
distance_scaled k q (r ∷ rs) (x ∷ p) = rw (residue_scaled k q r x, distance_scaled k q rs p) refl

small_scaled : (k q : ℕ) (rs p : List ℤ) → SmallResidues (k * q) rs p → SmallResidues q rs (times k p)
small_scaled k q [] p h = tt
small_scaled k q (r ∷ rs) [] h = tt
small_scaled k q (r ∷ rs) (x ∷ p) h = (rw (residue_scaled k q r x) h.0, small_scaled k q rs p h.1)

pub factor_range : (k : ℕ) → factor_in_range k ≡ true → (2 ≤ k) × (k ≤ 1024)
factor_range k h = let p = and_parts (nat_le 2 k) (nat_le k 1024) h in (leb-true 2 k p.0, leb-true k 1024 p.1)

-- ---- the laws

module _ (k : ℕ) (m : PointFit) (l : PointLaws m) (some : 1 ≤ k) where
  -- the finder below may be asked at the step k * q
  pub asked_below : (rs : List ℤ) (q : ℕ) → Asked (scaled_fit k m) rs q → Asked m rs (k * q)
  asked_below rs q a = record {
    as_wide = a.as_wide;
    readings_within = a.readings_within;
    step_from_one = mul-le-mul some a.step_from_one;
    step_within = omega (arith, mul-le-mul_left k a.step_within, mul-div-le m.step_limit k);
  }

  pub scaled_laws : nat_le 1 (m.step_limit / k) ≡ true → PointLaws (scaled_fit k m)
  scaled_laws step = record {
    some_cell = l.some_cell;
    few_cells = l.few_cells;
    some_reading = l.some_reading;
    small_readings = l.small_readings;
    some_step = leb-true 1 (m.step_limit / k) step;
    small_steps = omega (arith, l.small_steps, div-le_self m.step_limit k);
    members_are_as_wide = λ x h. rw (h.2, length-map) (l.members_are_as_wide h.0 h.1);
    pick_is_a_member = λ rs q a. (m.pick rs (k * q), l.pick_is_a_member rs (k * q) (asked_below rs q a), refl);
    no_member_is_nearer = λ rs q a x h. rw (h.2, distance_scaled k q rs (m.pick rs (k * q)), distance_scaled k q rs h.0) (l.no_member_is_nearer rs (k * q) (asked_below rs q a) h.0 h.1);
    residues_are_small = λ rs q a. small_scaled k q rs (m.pick rs (k * q)) (l.residues_are_small rs (k * q) (asked_below rs q a));
  }

pub scaled_lawful : (k : ℕ) (M : Meaning PointFit) → Lawful M → Lawful (scaled k M)
scaled_lawful k (unfit e) l = tt
scaled_lawful k (fit m) l =
    unfit_unless_keeps PointLaws (factor_in_range k) Factor _ (λ range.
    unfit_unless_keeps PointLaws (nat_le 1 (m.step_limit / k)) Exhausted (fit (scaled_fit k m)) (scaled_laws k m l (omega (arith, factor_range k range))))

-- ---- over finders that mean the same

pub scaled_alike : (k : ℕ) (M N : Meaning PointFit) → Same M N → Same (scaled k M) (scaled k N)
scaled_alike k (unfit e) (unfit f) s = s
scaled_alike k (unfit e) (fit n) s = absurd s
scaled_alike k (fit m) (unfit f) s = absurd s
scaled_alike k (fit m) (fit n) s =
    unfit_unless_agrees SameFit (factor_in_range k) (factor_in_range k) Factor _ _ refl
    (unfit_unless_agrees SameFit (nat_le 1 (m.step_limit / k)) (nat_le 1 (n.step_limit / k)) Exhausted (fit (scaled_fit k m)) (fit (scaled_fit k n)) (ap (λ (t : ℕ). nat_le 1 (t / k)) s.same_step_limit) (record {
      same_width = s.same_width;
      same_reading_limit = s.same_reading_limit;
      same_step_limit = ap (λ (t : ℕ). t / k) s.same_step_limit;
      same_members = λ x. (λ h. (h.0, (s.same_members h.0).0 h.1, h.2), λ h. (h.0, (s.same_members h.0).1 h.1, h.2));
      same_picks = λ rs q. ap (times k) (s.same_picks rs (k * q));
    }))
