-- What is found and told of joined points, from what is found and told of the two parts.
use Rattle.std.proofs.Common.{◌≡◌, ℕ, ◌+◌, ◌^◌, ◌≤◌, List, length, take, drop, ℤ, Fits, w64, Ok, Err, Result, sym, refl, ap₂, ◌∙◌, arith}
use Rattle.std.proofs.lemmas.List.{length-take-le, length-drop}
use Rattle.finders.specs.declared.refusals.Refusal.{Refusal}
use Rattle.finders.specs.declared.refusals.Refusal.TheVariants.{Width}
use Rattle.finders.specs.declared.points.PointShape.{PointShape}
use Rattle.finders.specs.Meanings.{Meaning, fit, unfit}
use Rattle.finders.specs.Points.{distance}
use Rattle.finders.specs.Sizes.{in_range}
use Rattle.finders.specs.PointFinders.{PointFit, Lawful, width_of, shape_of, find_checked, find_answer, test_checked, Contains}
use Rattle.finders.proofs.Fitness.{not_err}
use Rattle.finders.proofs.GrantedPoints.{shape_passed, shape_told, find_asked, found_at, test_asked, contains_tells}
use Rattle.finders.proofs.Within.{within_front, within_back}
use Rattle.lattice_layers.specs.Join.{joined_fit, joined}
use Rattle.finders.proofs.PickSizes.{pick_is_near}
use Rattle.lattice_layers.specs.JoinLaws.{asked_first, asked_second, first_wide, distance_joined}

-- both parts are found, at distances that are small, and the whole is found at their sum
pub record Parts (first second whole : Result ℕ Refusal) : Type 0 where
  pub near : ℕ
  pub far : ℕ
  pub first_is : first ≡ Ok near
  pub second_is : second ≡ Ok far
  pub whole_is : whole ≡ Ok (near + far)
  pub small : near + far ≤ 2 ^ 46

pub find_joined : (M N : Meaning PointFit) (s : PointShape) (rs place : List ℤ) (q : ℕ) → Lawful M → Lawful N → Ok s ≡ shape_of (joined M N) → Ok tt ≡ find_checked s.width s.reading_limit s.step_limit rs q (length place)
    → Parts (find_answer M (take (width_of M) rs) q (take (width_of M) place)) (find_answer N (drop (width_of M) rs) q (drop (width_of M) place)) (find_answer (joined M N) rs q place)
find_joined (unfit e) N s rs place q l k h t = absurd (not_err h)
find_joined (fit m) (unfit e) s rs place q l k h t = absurd (not_err h)
find_joined (fit m) (fit n) s rs place q l k h t =
    let p = shape_passed (in_range (m.width + n.width)) Width (fit (joined_fit m n)) s h in
    let a = find_asked (joined_fit m n) s rs q (length place) (shape_told (joined_fit m n) s p.1) t in
    let f = asked_first m n l k rs q a.0 in
    let b = asked_second m n l k rs q a.0 in
    let front : length (take m.width place) ≡ m.width = length-take-le m.width place (omega (arith, a.1)) in
    let back : length (drop m.width place) ≡ n.width = omega (arith, length-drop m.width place, a.1) in
    record {
      near = distance q (take m.width rs) (m.pick (take m.width rs) q);
      far = distance q (drop m.width rs) (n.pick (drop m.width rs) q);
      first_is = (found_at m (take m.width rs) (take m.width place) q f front).0;
      second_is = (found_at n (drop m.width rs) (drop m.width place) q b back).0;
      whole_is = rw (p.0, (found_at (joined_fit m n) rs place q a.0 a.1).0, distance_joined m.width (m.pick (take m.width rs) q) (n.pick (drop m.width rs) q) (first_wide m n l k rs q a.0) q rs) refl;
      small = omega (arith, pick_is_near m (take m.width rs) q l f, pick_is_near n (drop m.width rs) q k b);
    }

told : {a b : ℕ} → ◌≡◌ {A = Result ℕ Refusal} (Ok a) (Ok b) → a ≡ b
told e = cc

module _ {first second whole : Result ℕ Refusal} (p : Parts first second whole) where
  pub first_not_refused : {e : Refusal} → Err e ≡ first → ⊥
  first_not_refused h = not_err (sym (h ∙ p.first_is))

  pub second_not_refused : {e : Refusal} → Err e ≡ second → ⊥
  second_not_refused h = not_err (sym (h ∙ p.second_is))

  module _ {a b : ℕ} (h : Ok a ≡ first) (k : Ok b ≡ second) where
    sum : a + b ≡ p.near + p.far
    sum = ap₂ ◌+◌ (told (h ∙ p.first_is)) (told (k ∙ p.second_is))

    pub sum_fits : Fits w64 (a + b)
    sum_fits = omega (arith, sum, p.small)

    pub made : Ok (a + b) ≡ whole
    made = rw (sum, p.whole_is) refl

-- a test of the two parts is not refused where that of the whole is not
pub parts_told : (M N : Meaning PointFit) (s : PointShape) (x : List ℤ) (e : Refusal) → Lawful M → Lawful N → Ok s ≡ shape_of (joined M N) → Ok tt ≡ test_checked s.width s.reading_limit x
    → (Contains M (take (width_of M) x) (Err e) → ⊥) × (Contains N (drop (width_of M) x) (Err e) → ⊥)
parts_told (unfit f) N s x e l k h t = absurd (not_err h)
parts_told (fit m) (unfit f) s x e l k h t = absurd (not_err h)
parts_told (fit m) (fit n) s x e l k h t =
    let p = shape_passed (in_range (m.width + n.width)) Width (fit (joined_fit m n)) s h in
    let a = test_asked (joined_fit m n) s x (shape_told (joined_fit m n) s p.1) t in
    let front = within_front m.reading_limit n.reading_limit m.width x a.1 in
    let back = within_back m.reading_limit n.reading_limit m.width x a.1 in (
      contains_tells m (take m.width x) (Err e) (length-take-le m.width x (omega (arith, a.0))) front,
      contains_tells n (drop m.width x) (Err e) (omega (arith, length-drop m.width x, a.0)) back,
    )
