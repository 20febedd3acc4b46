-- A layer by cases: unfit by a test, or fit; a find of it refused, or granted.
use Rattle.std.proofs.Common.{◌≡◌, Bool, true, false, Ok, Err, Result, sym, refl}
use Rattle.finders.specs.declared.refusals.Refusal.{Refusal}
use Rattle.finders.specs.Meanings.{Meaning, unfit, unfit_unless, fitness_of, checked, answered, placed, and_then}
use Rattle.finders.proofs.Fitness.{not_err}

-- what holds of what is unfit, and of what is left where a test passes
pub by_test : {F : Type 1} (P : Meaning F → Type 0) → ((e : Refusal) → P (unfit e)) → (b : Bool) (e : Refusal) (M : Meaning F) → (b ≡ true → P M)
    → P (unfit_unless b e M)
by_test P none true e M h = h refl
by_test P none false e M h = none e

pub fitness_by_test : {F : Type 1} (b : Bool) (e : Refusal) (M : Meaning F) (next : Result (Unit {0}) Refusal) → fitness_of M ≡ next
    → fitness_of (unfit_unless b e M) ≡ checked b e next
fitness_by_test true e M next h = h
fitness_by_test false e M next h = refl

-- at a check g: what is granted is as it is below
pub answers_at : {A : Type 0} (g : Result (Unit {0}) Refusal) (x : A) (below : Result A Refusal) → (g ≡ Ok tt → below ≡ Ok x)
    → answered g x ≡ and_then g below
answers_at (Ok _) x below h = sym (h refl)
answers_at (Err e) x below h = refl

pub writes_at : {A : Type 0} (g : Result (Unit {0}) Refusal) (x below place : A) → (g ≡ Ok tt → below ≡ x) → placed g x place ≡ placed g below place
writes_at (Ok _) x below place h = sym (h refl)
writes_at (Err e) x below place h = refl

-- what is answered was granted
pub granted_at : {A : Type 0} (g : Result (Unit {0}) Refusal) (x y : A) → ◌≡◌ {A = Result A Refusal} (answered g x) (Ok y) → g ≡ Ok tt
granted_at (Ok _) x y h = refl
granted_at (Err e) x y h = absurd (not_err (sym h))
