-- The meaning of a finder: fit, with what that brings, or unfit by the refusal that made it so.
use Rattle.std.specs.Prelude.{◌≡◌, ℕ, Bool, true, false, cond, Ok, Err, Decides, Result}
use Rattle.finders.specs.declared.refusals.Refusal.{Refusal}

pub data Meaning (F : Type 1) : Type 1 where
  unfit : Refusal → Meaning F
  fit : F → Meaning F

-- unfit by e where a test fails, and else as what follows
abbrev pub unfit_unless : {F : Type 1} → Bool → Refusal → Meaning F → Meaning F
unfit_unless true e M = M
unfit_unless false e M = unfit e

-- laws that are owed where a finder is fit
abbrev pub Keeps : {F : Type 1} → (F → Type 0) → Meaning F → Type 0
Keeps Laws (unfit e) = Unit {0}
Keeps Laws (fit m) = Laws m

-- both unfit by the same refusal, or both fit and alike
abbrev pub Agree : {F : Type 1} → (F → F → Type 0) → Meaning F → Meaning F → Type 0
Agree Alike (unfit e) (unfit f) = e ≡ f
Agree Alike (unfit e) (fit n) = ⊥
Agree Alike (fit m) (unfit f) = ⊥
Agree Alike (fit m) (fit n) = Alike m n

-- what a question answers of a fit finder, and 0 where it is unfit
abbrev pub or_zero : {F : Type 1} → (F → ℕ) → Meaning F → ℕ
or_zero f (unfit e) = 0
or_zero f (fit m) = f m

abbrev pub fitness_of : {F : Type 1} → Meaning F → Result (Unit {0}) Refusal
fitness_of (unfit e) = Err e
fitness_of (fit m) = Ok tt

-- one check of a call: refused by e where the test fails, and else as what follows
abbrev pub checked : Bool → Refusal → Result (Unit {0}) Refusal → Result (Unit {0}) Refusal
checked b e next = cond b next (Err e)

-- what follows, unless a refusal comes before it
abbrev pub and_then : {A : Type 0} → Result (Unit {0}) Refusal → Result A Refusal → Result A Refusal
and_then (Ok _) next = next
and_then (Err e) next = Err e

-- what a call answers that grants x: x, or the refusal that applies
abbrev pub answered : {A : Type 0} → Result (Unit {0}) Refusal → A → Result A Refusal
answered (Ok _) x = Ok x
answered (Err e) x = Err e

-- what a place holds after a call that writes new where it is granted: a refusal leaves it
abbrev pub placed : {A : Type 0} → Result (Unit {0}) Refusal → A → A → A
placed (Ok _) new old = new
placed (Err e) new old = old

-- what a test answers: yes exactly where P holds, or the refusal that applies
abbrev pub Tells : Result (Unit {0}) Refusal → Type 0 → Result Bool Refusal → Type 0
Tells (Ok _) P (Ok b) = Decides b P
Tells (Ok _) P (Err e) = ⊥
Tells (Err e) P r = r ≡ Err e
