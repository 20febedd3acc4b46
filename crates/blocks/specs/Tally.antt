-- What a tally holds of senses.
use Rattle.std.specs.Prelude.{◌≡◌, ℕ, ◌+◌, true, List, length, take, ℤ}
use Rattle.std.specs.List.{AllByRecursion}
use Rattle.integers.specs.Sums.{plus, zeros}
use Rattle.finders.specs.Points.{within}
use Rattle.blocks.specs.declared.tally.Tally.{Tally}
use Rattle.blocks.specs.Senses.{largest_reading, sums, squares, energy}

-- a sense of n cells: no reading is beyond 16 bits
pub record IsSense (n : ℕ) (rs : List ℤ) : Type 0 where
  pub as_wide : length rs ≡ n
  pub small : within largest_reading rs ≡ true

-- each of a list is a sense of n cells
abbrev pub AreSenses : ℕ → List (List ℤ) → Type 0
AreSenses n ss = AllByRecursion (IsSense n) ss

-- the tally is that of these senses of n cells
pub record Tallies (n : ℕ) (ss : List (List ℤ)) (t : Tally) : Type 0 where
  pub senses : AreSenses n ss
  pub count : t.count ≡ length ss
  pub sums : take n t.sums ≡ sums n ss
  pub energy : t.energy ≡ energy ss

-- ---- how it is kept

pub record TalliesNone (t : Tally) : Type 0 where
  pub sums : t.sums ≡ zeros 32
  pub count : t.count ≡ 0
  pub energy : t.energy ≡ 0

-- the new tally is the old one with a sense more
pub record Adds (rs : List ℤ) (old new : Tally) : Type 0 where
  pub sums : take (length rs) new.sums ≡ plus (take (length rs) old.sums) rs
  pub count : new.count ≡ old.count + 1
  pub energy : new.energy ≡ squares rs + old.energy
  pub small_readings : within largest_reading rs ≡ true
