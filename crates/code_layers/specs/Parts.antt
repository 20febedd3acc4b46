-- A word in two parts: its first n digits, and those behind them.
use Rattle.std.specs.Prelude.{ℕ, ◌/◌, ◌%◌, ◌^◌}

abbrev pub front : (n : ℕ) → ℕ → ℕ
front n w = w % 2 ^ n

abbrev pub back : (n : ℕ) → ℕ → ℕ
back n w = w / 2 ^ n
