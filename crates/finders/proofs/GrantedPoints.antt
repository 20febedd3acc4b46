-- What is known of a finder of points once its shape is told and a call of it is granted.
use Rattle.std.proofs.Common.{◌≡◌, ℕ, ◌&&◌, Bool, true, false, eqb, List, length, ℤ, Ok, Result, sym, refl}
use Rattle.std.proofs.lemmas.Bool.{eq-eqb, eqb-true, le-leb, and_parts}
use Rattle.finders.specs.declared.refusals.Refusal.{Refusal}
use Rattle.finders.specs.declared.refusals.Refusal.TheVariants.{Length, Magnitude}
use Rattle.finders.specs.declared.points.PointShape.{PointShape}
use Rattle.finders.specs.Meanings.{Meaning, fit, unfit_unless, Tells}
use Rattle.finders.specs.Points.{distance, within}
use Rattle.finders.specs.PointFinders.{PointFit, Asked, shape_of, find_checked, find_answer, find_place, test_checked, Contains}
use Rattle.finders.proofs.Fitness.{not_err, passed}
use Rattle.finders.proofs.Found.{find_granted}

-- where the shape is told, the test has passed
pub shape_passed : (b : Bool) (e : Refusal) (M : Meaning PointFit) (s : PointShape) → Ok s ≡ shape_of (unfit_unless b e M) → (b ≡ true) × (Ok s ≡ shape_of M)
shape_passed true e M s h = (refl, h)
shape_passed false e M s h = absurd (not_err h)

-- s is the shape of a fit finder
pub record Shaped (m : PointFit) (s : PointShape) : Type 0 where
  pub width : s.width ≡ m.width
  pub reading_limit : s.reading_limit ≡ m.reading_limit
  pub step_limit : s.step_limit ≡ m.step_limit

pub shape_told : (m : PointFit) (s : PointShape) → Ok s ≡ shape_of (fit m) → Shaped m s
shape_told m s h = record { width = cc; reading_limit = cc; step_limit = cc }

-- a granted find was asked as it should be, and has a place as wide
pub find_asked : (m : PointFit) (s : PointShape) (rs : List ℤ) (q k : ℕ) → Shaped m s → Ok tt ≡ find_checked s.width s.reading_limit s.step_limit rs q k → Asked m rs q × (k ≡ m.width)
find_asked m s rs q k t h =
    let g = sym (rw (t.width, t.reading_limit, t.step_limit) at h) in
    let wide = passed (eqb (length rs) m.width && eqb k m.width) Length _ g in
    (find_granted m rs q k g, eqb-true k m.width (and_parts (eqb (length rs) m.width) (eqb k m.width) wide.0).1)

-- what was asked as it should be, into a place as wide, is found
pub found_at : (m : PointFit) (rs place : List ℤ) (q : ℕ) → Asked m rs q → length place ≡ m.width → (find_answer (fit m) rs q place ≡ Ok (distance q rs (m.pick rs q))) × (find_place (fit m) rs q place ≡ m.pick rs q)
found_at m rs place q a e = rw (eq-eqb (length rs) m.width a.as_wide, eq-eqb (length place) m.width e, a.readings_within, le-leb 1 q a.step_from_one, le-leb q m.step_limit a.step_within) (refl, refl)

-- a point whose test is granted is as wide, and within the limit
pub test_asked : (m : PointFit) (s : PointShape) (x : List ℤ) → Shaped m s → Ok tt ≡ test_checked s.width s.reading_limit x → (length x ≡ m.width) × (within m.reading_limit x ≡ true)
test_asked m s x t h =
    let wide = passed (eqb (length x) m.width) Length _ (sym (rw (t.width, t.reading_limit) at h)) in
    (eqb-true (length x) m.width wide.0, (passed (within m.reading_limit x) Magnitude (Ok tt) wide.1).0)

-- of such a point, what `contains` answers is told
pub contains_tells : (m : PointFit) (x : List ℤ) (r : Result Bool Refusal) → length x ≡ m.width → within m.reading_limit x ≡ true → Contains (fit m) x r → Tells (Ok tt) (m.member x) r
contains_tells m x r e w t = rw (eq-eqb (length x) m.width e, w) at t

pub tells_contains : (m : PointFit) (x : List ℤ) (r : Result Bool Refusal) → length x ≡ m.width → within m.reading_limit x ≡ true → Tells (Ok tt) (m.member x) r → Contains (fit m) x r
tells_contains m x r e w t = rw (eq-eqb (length x) m.width e, w) t
