-- What callers of a block are answered.
use Rattle.std.specs.Prelude.{ℕ, ◌==◌, List, [], ◌∷◌, length, ℤ, Ok, Result}
use Rattle.finders.specs.declared.refusals.Refusal.{Refusal}
use Rattle.finders.specs.declared.refusals.Refusal.TheVariants.{Length}
use Rattle.finders.specs.Meanings.{Meaning, checked, and_then}
use Rattle.finders.specs.PointFinders.{PointFit, width_of}
use Rattle.blocks.specs.Calls.{open_checked}

-- what an opening, then senses, and then a decide into a place are refused for, first that applies; the senses and the
-- place are each as long as the lists say
abbrev pub all_as_wide : ℕ → List (List ℤ) → Result (Unit {0}) Refusal
all_as_wide n [] = Ok tt
all_as_wide n (l ∷ ls) = checked (length l == n) Length (all_as_wide n ls)

abbrev pub calls_checked : Meaning PointFit → ℕ → List (List ℤ) → Result (Unit {0}) Refusal
calls_checked M q lists = and_then (open_checked M q) (all_as_wide (width_of M) lists)
