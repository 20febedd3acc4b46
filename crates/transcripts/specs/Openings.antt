-- What opens and what stands, by the records in a few words.
use Rattle.std.specs.Prelude.{◌≡◌, ℕ, ◌^◌, ◌≤◌, ◌⊎◌, cond, ◌==◌, List, [], ◌∷◌, length, ℤ, IsErr, Option, None, Some}
use Rattle.blocks.specs.Senses.{count_of}
use Rattle.transcripts.specs.Sessions.{OpenBlock, opening_checked}
use Rattle.records.specs.Records.{Entry, Open, Sense, Decide}

-- ---- opens

-- a kind, in a number of cells that it has
abbrev pub IsKind : (kind cells : ℕ) → Type 0
IsKind kind n = (((kind ≡ 1) ⊎ (kind ≡ 2)) × (1 ≤ n) × (n ≤ 32)) ⊎ (((kind ≡ 3) ⊎ (kind ≡ 4)) × (n ≡ 8))

-- the largest step of a find: E8 by glue doubles the step
abbrev pub largest_step : ℕ → ℕ
largest_step kind = cond (kind == 3) (2 ^ 19) (2 ^ 20)

abbrev pub EachOpenIsRefused : List Entry → Type 0
EachOpenIsRefused [] = Unit {0}
EachOpenIsRefused (Open kind n q ∷ es) = IsErr (opening_checked kind n q) × EachOpenIsRefused es
EachOpenIsRefused (_ ∷ es) = EachOpenIsRefused es

-- ---- senses

-- a block is open, and so many senses stand in it
abbrev pub SoManyStand : ℕ → Option OpenBlock → Type 0
SoManyStand m None = ⊥
SoManyStand m (Some g) = count_of g.stands ≡ m

-- neither opens nor clears
abbrev pub AreSensesAndDecides : List Entry → Type 0
AreSensesAndDecides [] = Unit {0}
AreSensesAndDecides (Sense rs ∷ es) = AreSensesAndDecides es
AreSensesAndDecides (Decide ∷ es) = AreSensesAndDecides es
AreSensesAndDecides (_ ∷ es) = ⊥

-- the readings of the senses of n cells, in the order of the records
abbrev pub senses_of_cells : ℕ → List Entry → List (List ℤ)
senses_of_cells n [] = []
senses_of_cells n (Sense rs ∷ es) =
    let rest = senses_of_cells n es in
    cond (length rs == n) (rs ∷ rest) rest
senses_of_cells n (_ ∷ es) = senses_of_cells n es
