-- What is found and told of scaled points, from what is found and told below.
use Rattle.std.proofs.Common.{◌≡◌, ℕ, ◌+◌, ◌*◌, ◌/◌, ◌^◌, ◌≤◌, Bool, true, leb, List, [], ◌∷◌, length, get_or, drop, ℤ, pos, ◌*ℤ◌, nat_abs, Ok, Err, Result, sym, refl, ap, ap₂, ◌∙◌, subst, mul-le-mul_right, arith}
use Rattle.std.proofs.lemmas.Bool.{le-leb, leb-true, and_parts}
use Rattle.std.proofs.lemmas.Int.{ints}
use Rattle.std.proofs.lemmas.List.{length-map}
use Rattle.integers.proofs.Order.{nat_abs-*ℤ, *ℤ-cancel-≡}
use Rattle.finders.specs.declared.refusals.Refusal.{Refusal}
use Rattle.finders.specs.declared.refusals.Refusal.TheVariants.{Factor, Exhausted}
use Rattle.finders.specs.declared.points.PointShape.{PointShape}
use Rattle.finders.specs.Meanings.{Meaning, fit, unfit, Tells}
use Rattle.finders.specs.Points.{within}
use Rattle.finders.specs.PointFinders.{PointFit, Lawful, shape_of, find_checked, find_answer, find_place, test_checked, Contains}
use Rattle.finders.proofs.Fitness.{not_err}
use Rattle.finders.proofs.GrantedPoints.{Shaped, shape_passed, shape_told, find_asked, found_at, test_asked, contains_tells, tells_contains}
use Rattle.lattice_layers.specs.Scale.{times, scaled_fit, factor_in_range, scaled}
use Rattle.finders.proofs.PickSizes.{pick_is_small}
use Rattle.lattice_layers.specs.ScaleLaws.{distance_scaled, factor_range, asked_below, scaled_laws}

-- ---- products

-- what is small when multiplied is small itself
within_unscaled : (k limit : ℕ) (xs : List ℤ) → 1 ≤ k → within limit (times k xs) ≡ true → within limit xs ≡ true
within_unscaled k limit [] some h = refl
within_unscaled k limit (x ∷ xs) some h =
    let p = and_parts (leb (nat_abs (pos k *ℤ x)) limit) (within limit (times k xs)) h in
    let small = leb-true (nat_abs (pos k *ℤ x)) limit p.0 in
    rw (le-leb (nat_abs x) limit (omega (arith, small, nat_abs-*ℤ (pos k) x, mul-le-mul_right (nat_abs x) some)), within_unscaled k limit xs some p.1) refl

times_injective : (k : ℕ) (xs ys : List ℤ) → 1 ≤ k → times k xs ≡ times k ys → xs ≡ ys
times_injective k [] [] some e = refl
times_injective k [] (y ∷ ys) some e = absurd (omega (arith, ap length e))
times_injective k (x ∷ xs) [] some e = absurd (omega (arith, ap length e))
times_injective k (x ∷ xs) (y ∷ ys) some e =
    ap₂ (λ (z : ℤ) (zs : List ℤ). z ∷ zs)
    (*ℤ-cancel-≡ (pos k) x y (λ z. omega (arith, ints)) (ap (λ (zs : List ℤ). get_or zs 0 (pos 0)) e))
    (times_injective k xs ys some (ap (drop 1) e))

-- ---- what a shape tells

record Known (k : ℕ) (m : PointFit) (s : PointShape) : Type 0 where
  in_range : factor_in_range k ≡ true
  some : 1 ≤ k
  some_step : leb 1 (m.step_limit / k) ≡ true
  shaped : Shaped (scaled_fit k m) s

known : (k : ℕ) (m : PointFit) (s : PointShape) → Ok s ≡ shape_of (scaled k (fit m)) → Known k m s
known k m s h =
    let a = shape_passed (factor_in_range k) Factor _ s h in
    let b = shape_passed (leb 1 (m.step_limit / k)) Exhausted (fit (scaled_fit k m)) s a.1 in
    record { in_range = a.0; some = omega (arith, factor_range k a.0); some_step = b.0; shaped = shape_told (scaled_fit k m) s b.1 }

-- ---- a find that is granted

pub find_scaled : (k : ℕ) (M : Meaning PointFit) (s : PointShape) (rs place : List ℤ) (q : ℕ) → Lawful M → Ok s ≡ shape_of (scaled k M) → Ok tt ≡ find_checked s.width s.reading_limit s.step_limit rs q (length place)
    → (find_answer M rs (k * q) place ≡ find_answer (scaled k M) rs q place) × (within (2 ^ 30 + 2 ^ 20) (times k (find_place M rs (k * q) place)) ≡ true)
find_scaled k (unfit e) s rs place q l h g = absurd (not_err h)
find_scaled k (fit m) s rs place q l h g =
    let p = known k m s h in
    let a = find_asked (scaled_fit k m) s rs q (length place) p.shaped g in
    let below = found_at m rs place (k * q) (asked_below k m l p.some rs q a.0) a.1 in (
      rw (p.in_range, p.some_step, below.0, (found_at (scaled_fit k m) rs place q a.0 a.1).0, distance_scaled k q rs (m.pick rs (k * q))) refl,
      rw below.1 (pick_is_small (scaled_fit k m) rs q (scaled_laws k m l p.some p.some_step) a.0),
    )

-- ---- a test that is granted, of a point x that is the product of y

tells_product : (k : ℕ) (m : PointFit) (x y : List ℤ) → 1 ≤ k → x ≡ times k y → (r : Result Bool Refusal) → Tells (Ok tt) (m.member y) r → Tells (Ok tt) ((scaled_fit k m).member x) r
tells_product k m x y some is (Ok b) d = (λ e. (y, d.0 e, is), λ h. d.1 (subst m.member (times_injective k h.0 y some (sym h.2 ∙ is)) h.1))
tells_product k m x y some is (Err e) d = absurd d

pub contains_scaled : (k : ℕ) (M : Meaning PointFit) (s : PointShape) (x y : List ℤ) (r : Result Bool Refusal) → Lawful M → Ok s ≡ shape_of (scaled k M) → Ok tt ≡ test_checked s.width s.reading_limit x → x ≡ times k y
    → Contains M y r → Contains (scaled k M) x r
contains_scaled k (unfit e) s x y r l h g is t = absurd (not_err h)
contains_scaled k (fit m) s x y r l h g is t =
    let p = known k m s h in
    let a = test_asked (scaled_fit k m) s x p.shaped g in
    let wide : length y ≡ m.width = rw (is, length-map) at a.0 in
    let below = contains_tells m y r wide (within_unscaled k m.reading_limit y p.some (rw is at a.1)) t in
    rw (p.in_range, p.some_step) (tells_contains (scaled_fit k m) x r a.0 a.1 (tells_product k m x y p.some is r below))
