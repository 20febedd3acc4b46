-- How many cells there are, and how large their numbers.
use Rattle.std.specs.Prelude.{ℕ, Bool, ◌&&◌, List, length, ℤ, Ok, Result, ◌==◌, nat_le}
use Rattle.finders.specs.declared.refusals.Refusal.{Refusal}
use Rattle.finders.specs.declared.refusals.Refusal.TheVariants.{Width, Length, Magnitude}
use Rattle.finders.specs.Meanings.{checked}
use Rattle.finders.specs.Points.{within}

-- 1 to 32 cells
abbrev pub in_range : ℕ → Bool
in_range n = nat_le 1 n && nat_le n 32

-- what n cells are refused for
abbrev pub width_checked : ℕ → Result (Unit {0}) Refusal
width_checked n = checked (in_range n) Width (Ok tt)

-- what a list of n numbers, none larger in size than the limit, is refused for, first that applies
abbrev pub list_checked : (width limit : ℕ) → List ℤ → Result (Unit {0}) Refusal
list_checked n l zs = checked (length zs == n) Length (checked (within l zs) Magnitude (Ok tt))
