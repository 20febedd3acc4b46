-- What holds unless memory ran out.
use Rattle.std.proofs.Common.{Ok, Err, Result}
use Rattle.tasks.specs.declared.failure.Failure.{Failure}
use Rattle.tasks.specs.declared.failure.Failure.TheVariants.{Refused, Unreadable, Memory}
use Rattle.tasks.specs.Failures.{UnlessMemory}

pub unless_at_all : {T : Type 0} (r : Result T Failure) (P : Result T Failure → Type 0) → P r → UnlessMemory r P
unless_at_all (Ok x) P h = h
unless_at_all (Err (Refused e)) P h = h
unless_at_all (Err Unreadable) P h = h
unless_at_all (Err (Memory _)) P h = tt

pub unless_weaker : {T : Type 0} (r : Result T Failure) (P Q : Result T Failure → Type 0) → ((s : Result T Failure) → P s → Q s) → UnlessMemory r P → UnlessMemory r Q
unless_weaker (Ok x) P Q to h = to (Ok x) h
unless_weaker (Err (Refused e)) P Q to h = to (Err (Refused e)) h
unless_weaker (Err Unreadable) P Q to h = to (Err Unreadable) h
unless_weaker (Err (Memory _)) P Q to h = h
