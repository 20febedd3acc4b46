-- A word has one binary digit for each cell: it is a number, and cell i has its digit i - 1, counted from the lowest. A gain is
-- the signed weight of a cell.
use Rattle.std.specs.Prelude.{ℕ, ◌/◌, ◌%◌, ◌^◌, Bool, cond, List, [], ◌∷◌, ℤ, pos, ◌+ℤ◌, neg_ℤ, ◌==◌, nat_lt}
use Rattle.std.specs.List.{list_all}

-- the digit at an index, which is that of cell i + 1
abbrev pub digit : ℕ → ℕ → ℕ
digit w i = w / 2 ^ i % 2

-- a word has no digit 1 beyond n cells
abbrev pub fits : ℕ → ℕ → Bool
fits n w = nat_lt w (2 ^ n)

abbrev pub all_fit : ℕ → List ℕ → Bool
all_fit n ws = list_all (fits n) ws

-- a gain times the sign of a digit, which is +1 for 0 and -1 for 1
abbrev pub signed : ℕ → ℤ → ℤ
signed d g = cond (d == 0) g (neg_ℤ g)

-- gain times sign, added over the cells: the lowest digit goes with the first gain
abbrev pub correlation : ℕ → List ℤ → ℤ
correlation w [] = pos 0
correlation w (g ∷ gs) = signed (w % 2) g +ℤ correlation (w / 2) gs
