-- The laws of glued points.
use Rattle.std.specs.Prelude.{◌≡◌, ℕ, ◌+◌, ◌-◌, ◌*◌, ◌^◌, ◌<◌, ◌≤◌, Bool, true, false, List, [], ◌∷◌, map, length, ℤ, pos, ◌+ℤ◌, Result, Ok, Err, nat_le, unsigned_abs, ◌==◌, refl}
use Rattle.std.proofs.Common.{sym, ap, ap₂, ◌∙◌, arith, pow_pos, mul-le-mul_left}
use Rattle.std.proofs.lemmas.Bool.{and_parts, leb-true, le-leb, eqb-true, both_ways}
use Rattle.std.proofs.lemmas.Int.{ints}
use Rattle.std.proofs.lemmas.List.{length-map}
use Rattle.std.proofs.lemmas.List.FromFn.{length-range_with_len}
use Rattle.integers.specs.Nearest.{residue}
use Rattle.integers.specs.Ring.{◌⊕◌, ◌⊖◌, ◌⊗◌}
use Rattle.integers.proofs.Order.{nat_abs-*ℤ}
use Rattle.integers.proofs.Ring.{ring4}
use Rattle.integers.proofs.Sums.{length_zip_with, zeros_plus, length_plus}
use Rattle.finders.specs.declared.refusals.Refusal.{Refusal}
use Rattle.finders.specs.declared.refusals.Refusal.TheVariants.{GlueCount, Length, Entry, Exhausted}
use Rattle.finders.specs.Choice.{no_larger, IsFirst}
use Rattle.finders.specs.Meanings.{Meaning, fit, unfit}
use Rattle.finders.specs.Points.{distance, SmallResidues, within}
use Rattle.finders.specs.PointFinders.{PointFit, PointLaws, Lawful, Asked, OneSet, SameFit, Same}
use Rattle.finders.proofs.Fitness.{unfit_unless_keeps, unfit_unless_agrees}
use Rattle.finders.proofs.Found.{same_itself}
use Rattle.finders.proofs.FirstNumbers.{best_number, first_best_alike}
use Rattle.finders.proofs.Firsts.{first_best_is}
use Rattle.finders.proofs.Scores.{no_larger_total, no_larger_chain, small_decides}
use Rattle.integers.specs.Sums.{plus, zeros}
use Rattle.lattice_layers.specs.Rows.{row_sum, all_as_wide, all_within, reach}
use Rattle.lattice_layers.specs.RowLaws.{length_sum, within_reach}
use Rattle.lattice_layers.specs.Table.{all_short, table_held}
use Rattle.lattice_layers.specs.Glue.{taken_off, sum_numbers, nearest_in, score, best_sum, glued_fit, glued, glued_by}

-- ---- a point c that is moved by p leaves of the readings what c leaves of them with q p taken off

moved_residue : (q : ℕ) (r p c : ℤ) → residue q r (p +ℤ c) ≡ residue q (residue q r p) c
moved_residue q r p c = ring4 r (pos q) p c (λ r q p c. r ⊖ q ⊗ (p ⊕ c)) (λ r q p c. (r ⊖ q ⊗ p) ⊖ q ⊗ c) tt

pub distance_moved : (q : ℕ) (rs p c : List ℤ) → distance q rs (plus p c) ≡ distance q (taken_off q p rs) c
distance_moved q [] p c = refl
distance_moved q (r ∷ rs) [] c = refl
distance_moved q (r ∷ rs) (x ∷ p) [] = refl
distance_moved q (r ∷ rs) (x ∷ p) (y ∷ c) = rw (moved_residue q r x y, distance_moved q rs p c) refl

pub residues_moved : (q : ℕ) (rs p c : List ℤ) → SmallResidues q (taken_off q p rs) c → SmallResidues q rs (plus p c)
residues_moved q [] p c h = tt
residues_moved q (r ∷ rs) [] c h = tt
residues_moved q (r ∷ rs) (x ∷ p) [] h = tt
residues_moved q (r ∷ rs) (x ∷ p) (y ∷ c) h = (rw (moved_residue q r x y) h.0, residues_moved q rs p c h.1)

pub length_taken_off : (q : ℕ) (p rs : List ℤ) → length p ≡ length rs → length (taken_off q p rs) ≡ length rs
length_taken_off q p rs e = length_zip_with (residue q) rs p (sym e)

-- numbers of p within g move readings within l by no more than q g
pub within_taken_off : (q g l k : ℕ) (p rs : List ℤ) → q * g + l ≤ k → within g p ≡ true → within l rs ≡ true → within k (taken_off q p rs) ≡ true
within_taken_off q g l k p [] h a b = refl
within_taken_off q g l k [] (r ∷ rs) h a b = refl
within_taken_off q g l k (x ∷ p) (r ∷ rs) h a b =
    let s = and_parts (nat_le (unsigned_abs x) g) (within g p) a in
    let t = and_parts (nat_le (unsigned_abs r) l) (within l rs) b in
    let small : unsigned_abs (residue q r x) ≤ k = omega (arith, ints, nat_abs-*ℤ (pos q) x, mul-le-mul_left q (leb-true (unsigned_abs x) g s.0), leb-true (unsigned_abs r) l t.0) in
    rw (le-leb (unsigned_abs (residue q r x)) k small, within_taken_off q g l k p rs h s.1 t.1) refl

-- readings that the whole may be asked with, with a sum taken off, may be asked below
pub within_below : (n l t q j : ℕ) (rows : List (List ℤ)) (rs : List ℤ) → 1 ≤ l - reach rows * t → q ≤ t → within (l - reach rows * t) rs ≡ true → within l (taken_off q (row_sum n rows j) rs) ≡ true
within_below n l t q j rows rs left step w =
    within_taken_off q (reach rows) (l - reach rows * t) l (row_sum n rows j) rs (omega (arith, mul-le-mul_left (reach rows) step)) (within_reach n rows j) w

-- ---- the search over the sums

module _ (rows : List (List ℤ)) (n : ℕ) (pick : List ℤ → ℕ → List ℤ) (rs : List ℤ) (q : ℕ) where
  abbrev measure : ℕ → ℕ
  measure = score rows n pick rs q

  abbrev best : ℕ
  best = best_sum rows n pick rs q

  -- the best sum is one of them, and none comes nearer
  pub best_is : (best < 2 ^ length rows) × ((j : ℕ) → j < 2 ^ length rows → measure best ≤ measure j)
  best_is =
      let b = best_number no_larger no_larger_total no_larger_chain measure (2 ^ length rows) (pow_pos (length rows)) in
      (b.0, λ j h. (small_decides (measure best) (measure j)).0 (b.1 j h))

  pub best_is_first : IsFirst no_larger 0 (map measure (sum_numbers rows)) best
  best_is_first = first_best_is no_larger no_larger_total no_larger_chain 0 (map measure (sum_numbers rows)) (rw (length-map, length-range_with_len) (pow_pos (length rows)))

-- ---- the laws

module _ (rows : List (List ℤ)) (m : PointFit) (wide : all_as_wide m.width rows ≡ true) (left : 1 ≤ m.reading_limit - reach rows * m.step_limit) where
  abbrev sum_at : ℕ → List ℤ
  sum_at = row_sum m.width rows

  -- what is asked below, for readings that the whole may be asked with
  pub asked_below : (rs : List ℤ) (q j : ℕ) → Asked (glued_fit rows m) rs q → Asked m (taken_off q (sum_at j) rs) q
  asked_below rs q j a = record {
    as_wide = length_taken_off q (sum_at j) rs (length_sum m.width rows j wide ∙ sym a.as_wide) ∙ a.as_wide;
    readings_within = within_below m.width m.reading_limit m.step_limit q j rows rs left a.step_within a.readings_within;
    step_from_one = a.step_from_one;
    step_within = a.step_within;
  }

  module _ (l : PointLaws m) where
    pub glued_laws : PointLaws (glued_fit rows m)
    glued_laws = record {
      some_cell = l.some_cell;
      few_cells = l.few_cells;
      some_reading = left;
      small_readings = omega (arith, l.small_readings);
      some_step = l.some_step;
      small_steps = l.small_steps;
      members_are_as_wide = λ x (j, c, here, member, is).
          let long = length_sum m.width rows j wide in
          rw is (length_plus (sum_at j) c (long ∙ sym (l.members_are_as_wide c member)) ∙ long);
      pick_is_a_member = λ rs q a.
          let j = best_sum rows m.width m.pick rs q in
          (j, m.pick (taken_off q (sum_at j) rs) q, (best_is rows m.width m.pick rs q).0, l.pick_is_a_member _ q (asked_below rs q j a), refl);
      no_member_is_nearer = λ rs q a x (j, c, here, member, is).
          let p = sum_at j in
          let below = l.no_member_is_nearer (taken_off q p rs) q (asked_below rs q j a) c member in
          rw (is, distance_moved q rs p c) (omega (arith, below, distance_moved q rs p (m.pick (taken_off q p rs) q), (best_is rows m.width m.pick rs q).1 j here));
      residues_are_small = λ rs q a.
          let p = sum_at (best_sum rows m.width m.pick rs q) in
          residues_moved q rs p (m.pick (taken_off q p rs) q) (l.residues_are_small (taken_off q p rs) q (asked_below rs q _ a));
    }

pub glued_lawful : (r : Result (List (List ℤ)) Refusal) (M : Meaning PointFit) → Lawful M → Lawful (glued_by r M)
glued_lawful (Ok rows) (unfit e) l = tt
glued_lawful (Ok rows) (fit m) l =
    unfit_unless_keeps PointLaws (nat_le (length rows) 13) GlueCount _ (λ few.
    unfit_unless_keeps PointLaws (all_as_wide m.width rows) Length _ (λ wide.
    unfit_unless_keeps PointLaws (all_within 1024 rows) Entry _ (λ small.
    unfit_unless_keeps PointLaws (nat_le 1 (m.reading_limit - reach rows * m.step_limit)) Exhausted _ (λ left.
    glued_laws rows m wide (leb-true 1 (m.reading_limit - reach rows * m.step_limit) left) l))))
glued_lawful (Err e) (unfit f) l = tt
glued_lawful (Err e) (fit m) l = tt

-- ---- over finders that mean the same

module _ (rows : List (List ℤ)) (n : ℕ) (f g : List ℤ → ℕ → List ℤ) (same : (rs : List ℤ) (q : ℕ) → f rs q ≡ g rs q) (rs : List ℤ) (q : ℕ) where
  nearest_alike : (j : ℕ) → nearest_in rows n f rs q j ≡ nearest_in rows n g rs q j
  nearest_alike j = ap (plus (row_sum n rows j)) (same (taken_off q (row_sum n rows j) rs) q)

  picks_alike : nearest_in rows n f rs q (best_sum rows n f rs q) ≡ nearest_in rows n g rs q (best_sum rows n g rs q)
  picks_alike = rw (first_best_alike no_larger (score rows n f rs q) (score rows n g rs q) (λ j. ap (distance q rs) (nearest_alike j)) (sum_numbers rows)) (nearest_alike (best_sum rows n g rs q))

pub glued_alike : (rows : List (List ℤ)) (M N : Meaning PointFit) → Same M N → Same (glued rows M) (glued rows N)
glued_alike rows (unfit e) (unfit f) s = s
glued_alike rows (unfit e) (fit n) s = absurd s
glued_alike rows (fit m) (unfit f) s = absurd s
glued_alike rows (fit m) (fit n) s =
    let left : m.reading_limit - reach rows * m.step_limit ≡ n.reading_limit - reach rows * n.step_limit = ap₂ (λ (a b : ℕ). a - reach rows * b) s.same_reading_limit s.same_step_limit in
    unfit_unless_agrees SameFit _ _ GlueCount _ _ refl
    (unfit_unless_agrees SameFit _ _ Length _ _ (ap (λ (k : ℕ). all_as_wide k rows) s.same_width)
    (unfit_unless_agrees SameFit _ _ Entry _ _ refl
    (unfit_unless_agrees SameFit _ _ Exhausted (fit (glued_fit rows m)) (fit (glued_fit rows n)) (ap (nat_le 1) left) (record {
      same_width = s.same_width;
      same_reading_limit = left;
      same_step_limit = s.same_step_limit;
      same_members = λ x. (λ h. (h.0, h.1, h.2, (s.same_members h.1).0 h.3, rw (← s.same_width) h.4), λ h. (h.0, h.1, h.2, (s.same_members h.1).1 h.3, rw s.same_width h.4));
      same_picks = λ rs q. rw s.same_width (picks_alike rows n.width m.pick n.pick s.same_picks rs q);
    }))))

-- ---- rows as a layer holds them

-- rows as wide as a finder below can be held
wide_short : (n : ℕ) (rows : List (List ℤ)) → n ≤ 32 → all_as_wide n rows ≡ true → all_short rows ≡ true
wide_short n [] h w = refl
wide_short n (r ∷ rows) h w =
    let p = and_parts (length r == n) (all_as_wide n rows) w in
    rw (le-leb (length r) 32 (omega (arith, eqb-true (length r) n p.0)), wide_short n rows h p.1) refl

-- what is held of rows makes the same glued points
pub held_alike : (rows : List (List ℤ)) (M : Meaning PointFit) → Lawful M → Same (glued_by (table_held rows) M) (glued rows M)
held_alike rows M l = go M l (nat_le (length rows) 13) (all_short rows) refl refl
  where
    go : (M : Meaning PointFit) → Lawful M → (a b : Bool) → nat_le (length rows) 13 ≡ a → all_short rows ≡ b → Same (glued_by (table_held rows) M) (glued rows M)
    go M l true true e f = rw (e, f) (same_itself (glued rows M))
    go (unfit u) l true false e f = rw (e, f) refl
    go (unfit u) l false b e f = rw e refl
    go (fit m) l false b e f = rw e refl
    go (fit m) l true false e f =
        let long : all_as_wide m.width rows ≡ false = elim (all_as_wide m.width rows) as (λ w. all_as_wide m.width rows ≡ w → all_as_wide m.width rows ≡ false) [
          | true ↦ λ w. absurd (both_ways _ f (wide_short m.width rows l.few_cells w))
          | false ↦ λ w. w
        ] refl in
        rw (e, f, long) refl

-- ---- no row

-- the set is that of what is below
pub no_row_one_set : (M : Meaning PointFit) → Lawful M → OneSet (glued [] M) M
no_row_one_set (unfit e) l x = (λ h. h, λ h. h)
no_row_one_set (fit m) l x =
    let some : nat_le 1 (m.reading_limit - reach [] * m.step_limit) ≡ true = le-leb 1 (m.reading_limit - reach [] * m.step_limit) (omega (arith, l.some_reading)) in
    let same : (c : List ℤ) → m.member c → plus (zeros m.width) c ≡ c = λ c h. zeros_plus m.width c (l.members_are_as_wide c h) in
    rw some (
      λ (j, c, here, member, is). rw (is, same c member) member,
      λ h. (0, x, omega arith, h, sym (same x h)),
    )
