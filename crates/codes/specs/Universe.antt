-- All words.
use Rattle.std.specs.Prelude.{ℕ, ◌^◌, ◌<◌, List, map, ℤ, pos, negsuc}
use Rattle.finders.specs.Meanings.{Meaning}
use Rattle.finders.specs.Sizes.{in_range}
use Rattle.finders.specs.WordFinders.{WordFit}
use Rattle.codes.specs.Codes.{code}
use Rattle.codes.specs.Digits.{word}

-- digit 1 exactly where the gain is negative
abbrev pub sign : ℤ → ℕ
sign (pos n) = 0
sign (negsuc n) = 1

abbrev pub signs : List ℤ → List ℕ
signs gs = map sign gs

abbrev pub universe : ℕ → Meaning WordFit
universe n = code (in_range n) n (λ w. w < 2 ^ n) (λ gs. word (signs gs))
