-- Words that write numbers of 32 bits, in decimal.
use Rattle.std.specs.Prelude.{◌≡◌, ℕ, ◌^◌, ◌<◌, List, ℤ, Ok, Err, vec_items, Result, Vec, FitsSigned}
use Rattle.std.specs.Int.{w32}
use Rattle.std.specs.List.{AllZip, Any}
use Rattle.std.specs.Str.Parse.{IsNumeral, digits_value, without_leading_plus, without_leading_sign, signed_digits_value}
use Rattle.std.specs.declared.alloc.Global.{Global}
use Rattle.tasks.specs.declared.failure.Failure.{Failure}
use Rattle.tasks.specs.declared.failure.Failure.TheVariants.{Refused, Unreadable, Memory}

-- w writes the number z of a signed type
pub record WritesSigned (w : List ℕ) (z : ℤ) : Type 0 where
  pub digits : IsNumeral 10 (without_leading_sign w)
  pub fits : FitsSigned w32 (signed_digits_value 10 w)
  pub is : z ≡ signed_digits_value 10 w

-- w writes the number n of an unsigned type
pub record WritesUnsigned (w : List ℕ) (n : ℕ) : Type 0 where
  pub digits : IsNumeral 10 (without_leading_plus w)
  pub fits : digits_value 10 (without_leading_plus w) < 2 ^ 32
  pub is : n ≡ digits_value 10 (without_leading_plus w)

-- as many numbers as words, and each word writes its number
abbrev pub Signeds : List (List ℕ) → List ℤ → Type 0
Signeds = AllZip WritesSigned

abbrev pub Unsigneds : List (List ℕ) → List ℕ → Type 0
Unsigneds = AllZip WritesUnsigned

-- x writes nothing
abbrev pub Unwritten : {X N : Type 0} → (X → N → Type 0) → X → Type 0
Unwritten {X} {N} Writes x = (n : N) → Writes x n → ⊥

-- r answers x: by what Then says of what x writes, or as `Unreadable` where x writes nothing
pub record Reads {X N T : Type 0} (Writes : X → N → Type 0) (x : X) (Then : N → Result T Failure → Type 0) (r : Result T Failure) : Type 0 where
  pub unwritten : Unwritten Writes x → r ≡ Err Unreadable
  pub written : (n : N) → Writes x n → Then n r

-- r answers x and y: by what Then says of what they write, or as `Unreadable` where one of them writes nothing
pub record ReadsBoth {X Y M N T : Type 0} (Writes : X → M → Type 0) (x : X) (WritesToo : Y → N → Type 0) (y : Y) (Then : M → N → Result T Failure → Type 0) (r : Result T Failure) : Type 0 where
  pub first_unwritten : Unwritten Writes x → r ≡ Err Unreadable
  pub second_unwritten : Unwritten WritesToo y → r ≡ Err Unreadable
  pub written : (m : M) (n : N) → Writes x m → WritesToo y n → Then m n r

-- what is made of words by a parse that gives for a word what Gives says: a number for each, or `Unreadable` where one is refused
abbrev pub Parses : {N E : Type 0} → (List ℕ → Result N E → Type 0) → List (List ℕ) → Result (Vec N Global) Failure → Type 0
Parses Gives ws (Ok v) = AllZip (λ w x. Gives w (Ok x)) ws (vec_items v)
Parses Gives ws (Err (Refused e)) = ⊥
Parses {N} {E} Gives ws (Err Unreadable) = Any (λ w. (e : E) × Gives w (Err e)) ws
Parses Gives ws (Err (Memory _)) = Unit {0}
