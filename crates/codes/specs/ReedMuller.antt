-- The first-order Reed-Muller code of 2^m cells: the rows of the Hadamard matrix, read as words, and their complements.
use Rattle.std.specs.Prelude.{◌≡◌, ℕ, ◌%◌, ◌^◌, ◌<◌, Bool, cond, ◌&&◌, ◌⊎◌, List, map, ℤ, pos, bit_and, count_ones, int_lt, nat_le, unsigned_abs}
use Rattle.std.specs.List.{range_with_len}
use Rattle.finders.specs.Choice.{first_best, no_smaller}
use Rattle.finders.specs.Meanings.{Meaning}
use Rattle.finders.specs.WordFinders.{WordFit}
use Rattle.finders.specs.Words.{correlation}
use Rattle.codes.specs.Codes.{code}
use Rattle.codes.specs.Digits.{word, reversed}

-- the parity of the ones in (a AND i)
abbrev pub parity : ℕ → ℕ → ℕ
parity a i = count_ones (bit_and a i) % 2

-- row a of the matrix: at cell i + 1, the parity of a and i
abbrev pub row : ℕ → ℕ → List ℕ
row m a = map (parity a) (range_with_len 0 (2 ^ m))

-- word a
abbrev pub row_word : ℕ → ℕ → ℕ
row_word m a = word (row m a)

-- its complement: each digit reversed
abbrev pub complement : ℕ → ℕ → ℕ
complement m a = word (map reversed (row m a))

-- the correlation of each word
abbrev pub spectrum : ℕ → List ℤ → List ℤ
spectrum m gs = map (λ a. correlation (row_word m a) gs) (range_with_len 0 (2 ^ m))

-- the word whose correlation is largest in size, the first of equals
abbrev pub strongest : ℕ → List ℤ → ℕ
strongest m gs = first_best no_smaller (map unsigned_abs (spectrum m gs))

-- word a, or its complement where its correlation is negative
abbrev pub signed_pick : ℕ → ℕ → List ℤ → ℕ
signed_pick m a gs = cond (int_lt (correlation (row_word m a) gs) (pos 0)) (complement m a) (row_word m a)

abbrev pub rm_pick : ℕ → List ℤ → ℕ
rm_pick m gs = signed_pick m (strongest m gs) gs

-- the pick, and its correlation
abbrev pub picked : ℕ → List ℤ → ℕ × ℤ
picked m gs = (rm_pick m gs, correlation (rm_pick m gs) gs)

abbrev pub rm_sized : ℕ → Bool
rm_sized m = nat_le 1 m && nat_le m 5

abbrev pub Codeword : ℕ → ℕ → Type 0
Codeword m w = (a : ℕ) × (a < 2 ^ m) × ((w ≡ row_word m a) ⊎ (w ≡ complement m a))

abbrev pub reed_muller : ℕ → Meaning WordFit
reed_muller m = code (rm_sized m) (2 ^ m) (Codeword m) (rm_pick m)
