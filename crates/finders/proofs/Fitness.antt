-- A meaning that is unfit unless a test passes.
use Rattle.std.proofs.Common.{◌≡◌, ℕ, Bool, true, false, Ok, Err, Result, Decides, sym, refl, ◌∙◌, arith}
use Rattle.finders.specs.declared.refusals.Refusal.{Refusal}
use Rattle.finders.specs.Meanings.{Meaning, fit, unfit, unfit_unless, Keeps, Agree, checked, Tells}

-- what is granted is not refused
pub not_err : {A : Type 0} {x : A} {e : Refusal} → ◌≡◌ {A = Result A Refusal} (Ok x) (Err e) → ⊥
not_err h = let z : ◌≡◌ {A = ℕ} 0 1 = cc in omega arith

-- the laws are owed only where the test passes
pub unfit_unless_keeps : {F : Type 1} (Laws : F → Type 0) (b : Bool) (e : Refusal) (M : Meaning F) → (b ≡ true → Keeps Laws M) → Keeps Laws (unfit_unless b e M)
unfit_unless_keeps Laws true e M l = l refl
unfit_unless_keeps Laws false e M l = tt

-- two meanings that agree, agree under the same test
pub unfit_unless_agrees : {F : Type 1} (Alike : F → F → Type 0) (b c : Bool) (e : Refusal) (M N : Meaning F) → b ≡ c → Agree Alike M N → Agree Alike (unfit_unless b e M) (unfit_unless c e N)
unfit_unless_agrees Alike b true e M N h a = rw h a
unfit_unless_agrees Alike b false e M N h a = rw h refl

-- what is alike to what is alike agrees too
pub agrees_trans : {F : Type 1} (Alike : F → F → Type 0) → ((l m n : F) → Alike l m → Alike m n → Alike l n) → (L M N : Meaning F) → Agree Alike L M → Agree Alike M N → Agree Alike L N
agrees_trans Alike trans (unfit e) (unfit f) (unfit h) s t = s ∙ t
agrees_trans Alike trans (unfit e) (unfit f) (fit n) s t = absurd t
agrees_trans Alike trans (unfit e) (fit m) N s t = absurd s
agrees_trans Alike trans (fit l) (unfit f) N s t = absurd s
agrees_trans Alike trans (fit l) (fit m) (unfit h) s t = absurd t
agrees_trans Alike trans (fit l) (fit m) (fit n) s t = trans l m n s t

-- a test that a grant has passed
pub passed : (b : Bool) (e : Refusal) (r : Result (Unit {0}) Refusal) → checked b e r ≡ Ok tt → (b ≡ true) × (r ≡ Ok tt)
passed true e r h = (refl, h)
passed false e r h = absurd (not_err (sym h))

-- what a test answers that is granted
pub told_at : (P : Type 0) (r : Result Bool Refusal) → Tells (Ok tt) P r → (b : Bool) × (r ≡ Ok b) × Decides b P
told_at P (Ok b) t = (b, refl, t)
told_at P (Err e) t = absurd t
