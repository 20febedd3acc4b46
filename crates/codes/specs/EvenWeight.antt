-- The words with an even number of ones.
use Rattle.std.specs.Prelude.{◌≡◌, ℕ, ◌%◌, ◌^◌, ◌<◌, Bool, cond, List, map, ℤ, ◌==◌, count_ones, unsigned_abs}
use Rattle.finders.specs.Choice.{first_best, no_larger}
use Rattle.finders.specs.Meanings.{Meaning}
use Rattle.finders.specs.Sizes.{in_range}
use Rattle.finders.specs.WordFinders.{WordFit}
use Rattle.codes.specs.Codes.{code}
use Rattle.codes.specs.Digits.{word, reversed_at}
use Rattle.codes.specs.Universe.{signs}

-- whether the ones of a word are even in number
abbrev pub even : ℕ → Bool
even w = count_ones w % 2 == 0

-- the cell whose gain is smallest in size, the first of equals
abbrev pub weakest : List ℤ → ℕ
weakest gs = first_best no_larger (map unsigned_abs gs)

-- the signs, where the weakest cell is reversed
abbrev pub repaired : List ℤ → List ℕ
repaired gs = reversed_at (signs gs) (weakest gs)

abbrev pub even_pick : List ℤ → ℕ
even_pick gs = cond (even (word (signs gs))) (word (signs gs)) (word (repaired gs))

abbrev pub even_weight : ℕ → Meaning WordFit
even_weight n = code (in_range n) n (λ w. (w < 2 ^ n) × (count_ones w % 2 ≡ 0)) even_pick
