-- What is known of a finder of words that is fit if a test passes, once its shape is told and a call of it is granted.
use Rattle.std.proofs.Common.{◌≡◌, ℕ, ◌^◌, ◌<◌, Bool, true, false, List, length, ℤ, Ok, Result, sym, refl}
use Rattle.std.proofs.lemmas.Bool.{eq-eqb, lt-ltb, ltb-true}
use Rattle.finders.specs.declared.refusals.Refusal.{Refusal}
use Rattle.finders.specs.declared.refusals.Refusal.TheVariants.{Entry}
use Rattle.finders.specs.declared.words.WordShape.{WordShape}
use Rattle.finders.specs.Meanings.{Meaning, fit, unfit_unless, Tells}
use Rattle.finders.specs.Words.{fits, correlation}
use Rattle.finders.specs.WordFinders.{WordFit, Asked, shape_of, find_checked, find_answer, test_checked, Contains}
use Rattle.finders.proofs.Fitness.{not_err, passed}
use Rattle.finders.proofs.FoundWords.{find_granted}

-- where the shape is told, the test has passed
pub shape_passed : (b : Bool) (e : Refusal) (M : Meaning WordFit) (s : WordShape) → Ok s ≡ shape_of (unfit_unless b e M) → (b ≡ true) × (Ok s ≡ shape_of M)
shape_passed true e M s h = (refl, h)
shape_passed false e M s h = absurd (not_err h)

pub shape_told : (b : Bool) (e : Refusal) (m : WordFit) (s : WordShape) → Ok s ≡ shape_of (unfit_unless b e (fit m)) → (b ≡ true) × (s.width ≡ m.width) × (s.gain_limit ≡ m.gain_limit)
shape_told b e m s h = let p = shape_passed b e (fit m) s h in let same = p.1 in (p.0, cc, cc)

pub find_asked : (b : Bool) (e : Refusal) (m : WordFit) (s : WordShape) (gs : List ℤ) → Ok s ≡ shape_of (unfit_unless b e (fit m)) → Ok tt ≡ find_checked s.width s.gain_limit gs → (b ≡ true) × Asked m gs
find_asked b e m s gs h k = let t = shape_told b e m s h in (t.0, find_granted m gs (sym (rw (t.1, t.2) at k)))

-- what was asked as it should be is found
pub found_at : (m : WordFit) (gs : List ℤ) → Asked m gs → find_answer (fit m) gs ≡ Ok (m.pick gs, correlation (m.pick gs) gs)
found_at m gs a = rw (eq-eqb (length gs) m.width a.as_wide, a.gains_within)

-- a word whose test is granted fits
pub granted_fits : (n w : ℕ) → Ok tt ≡ test_checked n w → w < 2 ^ n
granted_fits n w h = ltb-true w (2 ^ n) (passed (fits n w) Entry (Ok tt) (sym h)).0

-- of a word that fits, what `contains` answers is told
pub contains_tells : (m : WordFit) (w : ℕ) (r : Result Bool Refusal) → w < 2 ^ m.width → Contains (fit m) w r → Tells (Ok tt) (m.member w) r
contains_tells m w r h t = rw (lt-ltb w (2 ^ m.width) h) at t

pub tells_contains : (m : WordFit) (w : ℕ) (r : Result Bool Refusal) → w < 2 ^ m.width → Tells (Ok tt) (m.member w) r → Contains (fit m) w r
tells_contains m w r h t = rw (lt-ltb w (2 ^ m.width) h) t
