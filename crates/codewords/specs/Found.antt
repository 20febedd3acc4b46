-- What is told and printed of what was found.
use Rattle.std.specs.Prelude.{ℕ, List, ◌++◌, ℤ, Ok, Err, codes, decimal, Result}
use Rattle.std.specs.Fmt.{signed_decimal}
use Rattle.finders.specs.declared.refusals.Refusal.{Refusal}
use Rattle.tasks.specs.declared.failure.Failure.{Failure}
use Rattle.tasks.specs.declared.failure.Failure.TheVariants.{Refused}
use Rattle.codewords.specs.declared.found.Codeword.{Codeword}

-- the answer to a task that tells what a find answers
abbrev pub told : Result (ℕ × ℤ) Refusal → Result Codeword Failure
told (Ok r) = Ok (record { word = r.0; correlation = r.1 })
told (Err e) = Err (Refused e)

abbrev pub codeword_text : Codeword → List ℕ
codeword_text found = codes "word " ++ (decimal found.word ++ (codes " correlation " ++ signed_decimal found.correlation))
