-- The digits of a word in groups.
use Rattle.std.specs.Prelude.{ℕ, zero, suc, ◌+◌, ◌*◌, ◌/◌, ◌%◌, ◌^◌}

-- the first digits of n groups of a cells
abbrev pub firsts : (a n : ℕ) → ℕ → ℕ
firsts a zero w = 0
firsts a (suc n) w = w % 2 + 2 * firsts a n (w / 2 ^ a)
