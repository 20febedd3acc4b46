-- Senses, the newest first: each is a list of readings, one for each cell.
use Rattle.std.specs.Prelude.{◌≡◌, ℕ, ◌+◌, ◌^◌, ◌≤◌, List, [], ◌∷◌, length, ℤ}
use Rattle.integers.specs.Sums.{plus, zeros}
use Rattle.finders.specs.Meanings.{Meaning}
use Rattle.finders.specs.Points.{square, distance}
use Rattle.finders.specs.PointFinders.{PointFit, Member}

-- the largest size of a reading, which has 16 bits
abbrev pub largest_reading : ℕ
largest_reading = 2 ^ 15

-- ---- the total of a point

-- its squared distance from each sense at the step q, added
abbrev pub total : ℕ → List (List ℤ) → List ℤ → ℕ
total q [] x = 0
total q (rs ∷ ss) x = distance q rs x + total q ss x

-- x is a member, t is its total, and every member has at least that
pub record IsLeastTotal (M : Meaning PointFit) (q : ℕ) (ss : List (List ℤ)) (x : List ℤ) (t : ℕ) : Type 0 where
  pub is_a_member : Member M x
  pub is_its_total : total q ss x ≡ t
  pub no_member_has_less : (y : List ℤ) → Member M y → t ≤ total q ss y

-- no two points of the set have the total t
abbrev pub IsAttainedAtMostOnce : Meaning PointFit → ℕ → List (List ℤ) → ℕ → Type 0
IsAttainedAtMostOnce M q ss t = (x y : List ℤ) → Member M x → Member M y → total q ss x ≡ t → total q ss y ≡ t → x ≡ y

-- ---- what stands in an open block

-- the senses that were granted, and not removed since
pub record Standing : Type 0 where
  pub senses : List (List ℤ)

abbrev pub none_standing : Standing
none_standing = record { senses = [] }

abbrev pub one_more : List ℤ → Standing → Standing
one_more rs S = record { senses = rs ∷ S.senses }

-- how many stand
abbrev pub count_of : Standing → ℕ
count_of S = length S.senses

-- ---- what is kept of senses

-- the readings of each of n cells, added over the senses
abbrev pub sums : ℕ → List (List ℤ) → List ℤ
sums n [] = zeros n
sums n (rs ∷ ss) = plus (sums n ss) rs

-- the squares of numbers, added
abbrev pub squares : List ℤ → ℕ
squares [] = 0
squares (z ∷ zs) = square z + squares zs

-- the squares of the readings, added over the cells and the senses
abbrev pub energy : List (List ℤ) → ℕ
energy [] = 0
energy (rs ∷ ss) = squares rs + energy ss
