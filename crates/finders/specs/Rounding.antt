-- Rounding one cell, and the number on the other side of the reading.
use Rattle.std.specs.Prelude.{◌≡◌, ℕ, zero, suc, ◌<◌, ◌≤◌, ℤ, pos, negsuc, ◌+ℤ◌, ◌*ℤ◌, unsigned_abs}
use Rattle.integers.specs.Nearest.{nearest, residue, Side}

-- n and m are the quotient of r by q, cut off towards zero, and the remainder, which is on r's side of zero
pub record Division (q : ℕ) (r n m : ℤ) : Type 0 where
  pub parts : r ≡ pos q *ℤ n +ℤ m
  pub remainder_is_small : unsigned_abs m < q
  pub remainder_side : Side r m
  pub quotient_is_small : unsigned_abs n ≤ unsigned_abs r

-- x is nearest to r ÷ q
abbrev pub NoNearer : ℕ → ℤ → ℤ → Type 0
NoNearer q r x = (y : ℤ) → unsigned_abs (residue q r x) ≤ unsigned_abs (residue q r y)

-- of the numbers as near as x, none is smaller in size
abbrev pub TowardsZero : ℕ → ℤ → ℤ → Type 0
TowardsZero q r x = (y : ℤ) → unsigned_abs (residue q r y) ≤ unsigned_abs (residue q r x) → unsigned_abs x ≤ unsigned_abs y

-- from the number x that a reading was rounded to, with this residue: the next above for a positive residue, the next
-- below for a negative one; for residue zero away from zero, and from 0 to 1
abbrev pub other_way : (residue x : ℤ) → ℤ
other_way (pos (suc n)) x = x +ℤ pos 1
other_way (negsuc n) x = x +ℤ negsuc 0
other_way (pos zero) (pos a) = pos a +ℤ pos 1
other_way (pos zero) (negsuc a) = negsuc a +ℤ negsuc 0

-- from a reading's nearest number
abbrev pub turned : ℕ → ℤ → ℤ
turned q r = other_way (residue q r (nearest q r)) (nearest q r)
