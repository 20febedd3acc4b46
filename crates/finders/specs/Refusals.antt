-- The number of each refusal, and how it is written.
use Rattle.std.specs.Prelude.{ℕ, List, ◌++◌, codes, decimal}
use Rattle.finders.specs.declared.refusals.Refusal.{Refusal}
use Rattle.finders.specs.declared.refusals.Refusal.TheVariants.{Width, Length, Magnitude, Step, GlueCount, Entry, Exhausted, Factor, WordCount, Depth, Full, Empty, Closed, Kind}

abbrev pub number_of : Refusal → ℕ
number_of Width = 1
number_of Length = 2
number_of Magnitude = 3
number_of Step = 4
number_of GlueCount = 5
number_of Entry = 6
number_of Exhausted = 7
number_of Factor = 8
number_of WordCount = 9
number_of Depth = 10
number_of Full = 11
number_of Empty = 12
number_of Closed = 13
number_of Kind = 14

abbrev pub refusal_text : Refusal → List ℕ
refusal_text e = codes "refused " ++ decimal (number_of e)
