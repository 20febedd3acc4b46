-- The laws of all words.
use Rattle.std.specs.Prelude.{ℕ, ◌^◌, ◌<◌}
use Rattle.finders.specs.Sizes.{in_range}
use Rattle.finders.specs.WordFinders.{Lawful}
use Rattle.codes.specs.Digits.{word}
use Rattle.codes.specs.Universe.{signs, universe}
use Rattle.finders.proofs.Within.{range}
use Rattle.codes.specs.CodeLaws.{code_lawful}
use Rattle.codes.specs.SignLaws.{signs_below, correlation_most, correlation_signs}

pub universe_lawful : (n : ℕ) → Lawful (universe n)
universe_lawful n = code_lawful n (λ w. w < 2 ^ n) (λ gs. word (signs gs))
    (λ w h. h)
    (λ gs some e. rw e at (signs_below gs))
    (λ gs some e w h. rw (correlation_signs gs) (correlation_most w gs))
    (in_range n) (range n)
