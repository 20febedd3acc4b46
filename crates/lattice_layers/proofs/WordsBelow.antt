-- What the words below answer to a find and to a test that are granted.
use Rattle.std.proofs.Common.{◌≡◌, ℕ, ◌^◌, ◌<◌, Bool, List, length, map, ℤ, Ok, Err, Result, sym, ◌∙◌}
use Rattle.finders.specs.declared.points.PointShape.{PointShape}
use Rattle.finders.specs.declared.refusals.Refusal.{Refusal}
use Rattle.finders.specs.Meanings.{Meaning, fit, unfit, Tells}
use Rattle.finders.specs.PointFinders.{shape_of, find_checked, test_checked, Contains}
use Rattle.finders.specs.WordFinders.{WordFit, Lawful, find_answer, Contains as WordContains}
use Rattle.finders.proofs.Fitness.{not_err}
use Rattle.finders.proofs.GrantedPoints.{shape_told, find_asked, test_asked, tells_contains}
use Rattle.finders.proofs.GrantedWords.{found_at, contains_tells}
use Rattle.lattice_layers.specs.ConstructionA.{gain, parities, construction_a_fit, construction_a}
use Rattle.lattice_layers.specs.ConstructionALaws.{parities_below, asked_below}

-- a find of the gains is never refused
pub not_refused : (M : Meaning WordFit) (s : PointShape) (rs gs : List ℤ) (q n : ℕ) (e : Refusal) → Lawful M → Ok s ≡ shape_of (construction_a M) → Ok tt ≡ find_checked s.width s.reading_limit s.step_limit rs q n → gs ≡ map (gain q) rs → Err e ≡ find_answer M gs → ⊥
not_refused (unfit f) s rs gs q n e l h g i r = not_err h
not_refused (fit m) s rs gs q n e l h g i r =
    let a = (find_asked (construction_a_fit m) s rs q n (shape_told (construction_a_fit m) s h) g).0 in
    not_err (sym (found_at m (map (gain q) rs) (asked_below m l rs q a)) ∙ sym (rw i at r))

-- a point is a member where its parities are one below
wide_and_below : (m : WordFit) (x : List ℤ) (r : Result Bool Refusal) → length x ≡ m.width → Tells (Ok tt) (m.member (parities x)) r → Tells (Ok tt) ((construction_a_fit m).member x) r
wide_and_below m x (Ok b) e t = (λ h. (e, t.0 h), λ p. t.1 p.1)
wide_and_below m x (Err f) e t = absurd t

pub told_below : (M : Meaning WordFit) (s : PointShape) (x : List ℤ) (w : ℕ) (r : Result Bool Refusal) → Ok s ≡ shape_of (construction_a M) → Ok tt ≡ test_checked s.width s.reading_limit x → w ≡ parities x → WordContains M w r → Contains (construction_a M) x r
told_below (unfit f) s x w r h g i t = t
told_below (fit m) s x w r h g i t =
    let a = test_asked (construction_a_fit m) s x (shape_told (construction_a_fit m) s h) g in
    let low : parities x < 2 ^ m.width = rw a.0 at (parities_below x) in
    tells_contains (construction_a_fit m) x r a.0 a.1 (wide_and_below m x r a.0 (contains_tells m (parities x) r low (rw i at t)))
