-- Words by their digits, the lowest first.
use Rattle.std.specs.Prelude.{ℕ, ◌+◌, ◌-◌, ◌*◌, List, [], ◌∷◌, slice_index, slice_set}

abbrev pub word : List ℕ → ℕ
word [] = 0
word (d ∷ ds) = d + 2 * word ds

-- the other digit
abbrev pub reversed : ℕ → ℕ
reversed d = 1 - d

-- the digits, where that at an index is reversed
abbrev pub reversed_at : List ℕ → ℕ → List ℕ
reversed_at ds i = slice_set ds i (reversed (slice_index ds i))
