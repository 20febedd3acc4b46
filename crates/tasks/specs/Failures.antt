-- Why a task is not answered, and how that is written.
use Rattle.std.specs.Prelude.{ℕ, List, Ok, Err, codes, Result}
use Rattle.finders.specs.Refusals.{refusal_text}
use Rattle.tasks.specs.declared.failure.Failure.{Failure}
use Rattle.tasks.specs.declared.failure.Failure.TheVariants.{Refused, Unreadable, Memory}

abbrev pub failure_text : Failure → List ℕ
failure_text (Refused e) = refusal_text e
failure_text Unreadable = codes "unreadable"
failure_text (Memory _) = codes "out of memory"

abbrev pub IsMemory : Failure → Type 0
IsMemory (Refused e) = ⊥
IsMemory Unreadable = ⊥
IsMemory (Memory _) = Unit {0}

-- P holds of a result, unless memory ran out
abbrev pub UnlessMemory : {T : Type 0} → Result T Failure → (Result T Failure → Type 0) → Type 0
UnlessMemory (Ok x) P = P (Ok x)
UnlessMemory (Err (Refused e)) P = P (Err (Refused e))
UnlessMemory (Err Unreadable) P = P (Err Unreadable)
UnlessMemory (Err (Memory _)) P = Unit {0}
