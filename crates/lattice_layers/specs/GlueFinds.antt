-- What a find of glued points asks below, and what it comes to.
use Rattle.std.specs.Prelude.{◌≡◌, ℕ, ◌+◌, ◌-◌, ◌*◌, ◌^◌, ◌<◌, ◌≤◌, Bool, true, List, [], ◌∷◌, length, ℤ, ◌+ℤ◌, Ok, Result, nat_le, Decides, refl}
use Rattle.std.proofs.Common.{sym, ap, ◌∙◌, arith}
use Rattle.std.proofs.lemmas.Bool.{leb-true}
use Rattle.std.proofs.lemmas.Int.{ints}
use Rattle.integers.specs.Nearest.{residue}
use Rattle.finders.specs.declared.refusals.Refusal.{Refusal}
use Rattle.finders.specs.declared.refusals.Refusal.TheVariants.{GlueCount, Length, Entry, Exhausted}
use Rattle.finders.specs.declared.points.PointShape.{PointShape}
use Rattle.finders.specs.Meanings.{Meaning, fit, unfit}
use Rattle.finders.specs.Points.{within}
use Rattle.finders.specs.PointFinders.{PointFit, Lawful, Asked, Member, width_of, shape_of, find_checked, find_answer, find_place, test_checked, Contains}
use Rattle.finders.proofs.Fitness.{not_err, told_at}
use Rattle.finders.proofs.GrantedPoints.{Shaped, shape_passed, shape_told, find_asked, found_at, test_asked, contains_tells, tells_contains}
use Rattle.finders.proofs.PickSizes.{near_small}
use Rattle.finders.proofs.Within.{within_wider}
use Rattle.integers.specs.Sums.{plus}
use Rattle.lattice_layers.specs.Rows.{row_sum, all_as_wide, all_within, reach}
use Rattle.integers.proofs.Sums.{length_plus}
use Rattle.lattice_layers.specs.RowLaws.{length_sum}
use Rattle.lattice_layers.specs.Glue.{taken_off, nearest_in, score, best_sum, glued_fit, glued, glued_by}
use Rattle.lattice_layers.specs.GlueLaws.{distance_moved, residues_moved, length_taken_off, within_below, asked_below}

-- the pick of a meaning
abbrev pub pick_of : Meaning PointFit → List ℤ → ℕ → List ℤ
pick_of (unfit e) rs q = []
pick_of (fit m) rs q = m.pick rs q

-- what a shape tells of a fit finder below
record Known (rows : List (List ℤ)) (m : PointFit) (s : PointShape) : Type 0 where
  counted : nat_le (length rows) 13 ≡ true
  wide : all_as_wide m.width rows ≡ true
  small : all_within 1024 rows ≡ true
  left : nat_le 1 (m.reading_limit - reach rows * m.step_limit) ≡ true
  shaped : Shaped (glued_fit rows m) s

known : (rows : List (List ℤ)) (m : PointFit) (s : PointShape) → Ok s ≡ shape_of (glued rows (fit m)) → Known rows m s
known rows m s h =
    let a = shape_passed (nat_le (length rows) 13) GlueCount _ s h in
    let b = shape_passed (all_as_wide m.width rows) Length _ s a.1 in
    let c = shape_passed (all_within 1024 rows) Entry _ s b.1 in
    let d = shape_passed (nat_le 1 (m.reading_limit - reach rows * m.step_limit)) Exhausted (fit (glued_fit rows m)) s c.1 in
    record { counted = a.0; wide = b.0; small = c.0; left = d.0; shaped = shape_told (glued_fit rows m) s d.1 }

-- ---- a find: the sums, and what is looked for over any meaning below

module _ (rows : List (List ℤ)) (M : Meaning PointFit) where
  abbrev pub sum_of : ℕ → List ℤ
  sum_of = row_sum (width_of M) rows

  module _ (rs : List ℤ) (q : ℕ) where
    abbrev pub nearest_of : ℕ → List ℤ
    nearest_of = nearest_in rows (width_of M) (pick_of M) rs q

    abbrev pub score_of : ℕ → ℕ
    score_of = score rows (width_of M) (pick_of M) rs q

    abbrev pub best_of : ℕ
    best_of = best_sum rows (width_of M) (pick_of M) rs q

    -- what is known of a find that is granted: that it keeps within 32 bits, what each find below comes to, and what the whole is to
    pub record Granted (place : List ℤ) : Type 0 where
      pub few_cells : width_of M ≤ 32
      pub as_wide : length rs ≡ width_of M
      pub place_as_wide : length place ≡ width_of M
      pub rows_as_wide : all_as_wide (width_of M) rows ≡ true
      pub few_rows : length rows ≤ 13
      pub small_rows : all_within 1024 rows ≡ true
      pub readings_fit : (j : ℕ) → within (2 ^ 30) (taken_off q (sum_of j) rs) ≡ true
      pub points_fit : (j : ℕ) → within (2 ^ 31 - 1) (nearest_of j) ≡ true
      pub below : (j : ℕ) (point : List ℤ) → length point ≡ width_of M → (find_answer M (taken_off q (sum_of j) rs) q point ≡ Ok (score_of j)) × (find_place M (taken_off q (sum_of j) rs) q point ≡ pick_of M (taken_off q (sum_of j) rs) q)
      pub whole : (find_answer (glued rows M) rs q place ≡ Ok (score_of best_of)) × (find_place (glued rows M) rs q place ≡ nearest_of best_of)

granted_at : (rows : List (List ℤ)) (M : Meaning PointFit) (s : PointShape) (rs place : List ℤ) (q : ℕ) → Lawful M → Ok s ≡ shape_of (glued rows M) → Ok tt ≡ find_checked s.width s.reading_limit s.step_limit rs q (length place) → Granted rows M rs q place
granted_at rows (unfit e) s rs place q l h g = absurd (not_err h)
granted_at rows (fit m) s rs place q l h g =
    let k = known rows m s h in
    let left = leb-true 1 (m.reading_limit - reach rows * m.step_limit) k.left in
    let asked = find_asked (glued_fit rows m) s rs q (length place) k.shaped g in
    let a = asked.0 in
    let sum : ℕ → List ℤ = row_sum m.width rows in
    let moved : (j : ℕ) → Asked m (taken_off q (sum j) rs) q = λ j. asked_below rows m k.wide left rs q j a in
    let long : (j : ℕ) → length (sum j) ≡ m.width = λ j. length_sum m.width rows j k.wide in
    let as_long : (j : ℕ) → length (m.pick (taken_off q (sum j) rs) q) ≡ m.width = λ j. l.members_are_as_wide _ (l.pick_is_a_member (taken_off q (sum j) rs) q (moved j)) in
    record {
      few_cells = l.few_cells;
      as_wide = a.as_wide;
      place_as_wide = asked.1;
      rows_as_wide = k.wide;
      few_rows = leb-true (length rows) 13 k.counted;
      small_rows = k.small;
      readings_fit = λ j. within_wider m.reading_limit (2 ^ 30) _ l.small_readings (moved j).readings_within;
      points_fit = λ j.
          let p = sum j in
          let c = m.pick (taken_off q p rs) q in
          let near = residues_moved q rs p c (l.residues_are_small (taken_off q p rs) q (moved j)) in
          let as_wide = length_plus p c (long j ∙ sym (as_long j)) ∙ long j ∙ sym a.as_wide in
          within_wider (m.reading_limit - reach rows * m.step_limit + 2 ^ 20) (2 ^ 31 - 1) _ (omega (arith, l.small_readings)) (near_small (m.reading_limit - reach rows * m.step_limit) q rs (plus p c) a.step_from_one as_wide a.readings_within near);
      below = λ j point e.
          let found = found_at m (taken_off q (sum j) rs) point q (moved j) e in
          (found.0 ∙ ap (λ (d : ℕ). Ok d) (sym (distance_moved q rs (sum j) (m.pick (taken_off q (sum j) rs) q))), found.1);
      whole = rw (k.counted, k.wide, k.small, k.left) (found_at (glued_fit rows m) rs place q a asked.1);
    }

pub granted : (r : Result (List (List ℤ)) Refusal) (rows : List (List ℤ)) (M : Meaning PointFit) (s : PointShape) (rs place : List ℤ) (q : ℕ) → r ≡ Ok rows → Lawful M → Ok s ≡ shape_of (glued_by r M) → Ok tt ≡ find_checked s.width s.reading_limit s.step_limit rs q (length place) → Granted rows M rs q place
granted r rows M s rs place q is l h = granted_at rows M s rs place q l (rw is at h)

-- ---- a test

-- some sum moves a point below to x
abbrev pub MovedTo : List (List ℤ) → Meaning PointFit → List ℤ → Type 0
MovedTo rows M x = (j : ℕ) × (j < 2 ^ length rows) × Member M (taken_off 1 (sum_of rows M j) x)

-- what is known of a test that is granted: that it keeps within 32 bits, that no test below is refused, and what the whole is to answer
pub record Tested (rows : List (List ℤ)) (M : Meaning PointFit) (x : List ℤ) : Type 0 where
  pub few_cells : width_of M ≤ 32
  pub as_wide : length x ≡ width_of M
  pub rows_as_wide : all_as_wide (width_of M) rows ≡ true
  pub few_rows : length rows ≤ 13
  pub small_rows : all_within 1024 rows ≡ true
  pub points_fit : (j : ℕ) → within (2 ^ 30) (taken_off 1 (sum_of rows M j) x) ≡ true
  pub below : (j : ℕ) (r : Result Bool Refusal) → Contains M (taken_off 1 (sum_of rows M j) x) r → (b : Bool) × (r ≡ Ok b) × Decides b (Member M (taken_off 1 (sum_of rows M j) x))
  pub whole : (b : Bool) → Decides b (MovedTo rows M x) → Contains (glued rows M) x (Ok b)

-- what is taken off and added again, or added and taken off
back_added : (p x : List ℤ) → length p ≡ length x → plus p (taken_off 1 p x) ≡ x
back_added [] [] e = refl
back_added [] (y ∷ x) e = absurd (omega arith)
back_added (z ∷ p) [] e = absurd (omega arith)
back_added (z ∷ p) (y ∷ x) e = let same : (z +ℤ residue 1 y z) ≡ y = omega (arith, ints) in rw same (ap (λ (ws : List ℤ). y ∷ ws) (back_added p x (omega arith)))

back_taken : (p c : List ℤ) → length p ≡ length c → taken_off 1 p (plus p c) ≡ c
back_taken [] [] e = refl
back_taken [] (y ∷ c) e = absurd (omega arith)
back_taken (z ∷ p) [] e = absurd (omega arith)
back_taken (z ∷ p) (y ∷ c) e = let same : residue 1 (z +ℤ y) z ≡ y = omega (arith, ints) in rw same (ap (λ (ws : List ℤ). y ∷ ws) (back_taken p c (omega arith)))

tested_at : (rows : List (List ℤ)) (M : Meaning PointFit) (s : PointShape) (x : List ℤ) → Lawful M → Ok s ≡ shape_of (glued rows M) → Ok tt ≡ test_checked s.width s.reading_limit x → Tested rows M x
tested_at rows (unfit e) s x l h g = absurd (not_err h)
tested_at rows (fit m) s x l h g =
    let k = known rows m s h in
    let left = leb-true 1 (m.reading_limit - reach rows * m.step_limit) k.left in
    let asked = test_asked (glued_fit rows m) s x k.shaped g in
    let sum : ℕ → List ℤ = row_sum m.width rows in
    let long : (j : ℕ) → length (sum j) ≡ length x = λ j. length_sum m.width rows j k.wide ∙ sym asked.0 in
    let as_long : (j : ℕ) → length (taken_off 1 (sum j) x) ≡ m.width = λ j. length_taken_off 1 (sum j) x (long j) ∙ asked.0 in
    let moved : (j : ℕ) → within m.reading_limit (taken_off 1 (sum j) x) ≡ true = λ j. within_below m.width m.reading_limit m.step_limit 1 j rows x left l.some_step asked.1 in
    record {
      few_cells = l.few_cells;
      as_wide = asked.0;
      rows_as_wide = k.wide;
      few_rows = leb-true (length rows) 13 k.counted;
      small_rows = k.small;
      points_fit = λ j. within_wider m.reading_limit (2 ^ 30) _ l.small_readings (moved j);
      below = λ j r t. told_at (m.member (taken_off 1 (sum j) x)) r (contains_tells m (taken_off 1 (sum j) x) r (as_long j) (moved j) t);
      whole = λ b d. rw (k.counted, k.wide, k.small, k.left) (tells_contains (glued_fit rows m) x (Ok b) asked.0 asked.1 (
        λ t. let p = d.0 t in (p.0, taken_off 1 (sum p.0) x, p.1, p.2, sym (back_added (sum p.0) x (long p.0))),
        λ (j, c, here, member, is).
            let same : taken_off 1 (sum j) x ≡ c = rw is (back_taken (sum j) c (length_sum m.width rows j k.wide ∙ sym (l.members_are_as_wide c member))) in
            d.1 (j, here, rw same member),
      ));
    }

pub tested : (r : Result (List (List ℤ)) Refusal) (rows : List (List ℤ)) (M : Meaning PointFit) (s : PointShape) (x : List ℤ) → r ≡ Ok rows → Lawful M → Ok s ≡ shape_of (glued_by r M) → Ok tt ≡ test_checked s.width s.reading_limit x → Tested rows M x
tested r rows M s x is l h = tested_at rows M s x l (rw is at h)
