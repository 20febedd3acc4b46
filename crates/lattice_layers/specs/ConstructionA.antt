-- The points whose parities form a word of a finder.
use Rattle.std.specs.Prelude.{◌≡◌, ℕ, zero, suc, ◌+◌, ◌*◌, ◌/◌, ◌%◌, ◌^◌, cond, List, [], ◌∷◌, map, length, ℤ, pos, negsuc, ◌+ℤ◌, ◌-ℤ◌, ◌*ℤ◌, ◌==◌, min, unsigned_abs}
use Rattle.integers.specs.Nearest.{nearest, residue}
use Rattle.finders.specs.Meanings.{Meaning, fit, unfit}
use Rattle.finders.specs.PointFinders.{PointFit}
use Rattle.finders.specs.WordFinders.{WordFit}

-- the even number nearest to r / q: twice the number nearest to half of that
abbrev pub nearest_even : ℕ → ℤ → ℤ
nearest_even q r = pos 2 *ℤ nearest (2 * q) r

-- the odd number nearest to a reading whose nearest even number x leaves this residue: the next above for a positive residue, the next
-- below for a negative one; for residue zero the next towards zero, and from 0 it is 1
abbrev pub odd_beside : (residue x : ℤ) → ℤ
odd_beside (pos (suc n)) x = x +ℤ pos 1
odd_beside (negsuc n) x = x +ℤ negsuc 0
odd_beside (pos zero) (pos zero) = pos 1
odd_beside (pos zero) (pos (suc a)) = pos (suc a) +ℤ negsuc 0
odd_beside (pos zero) (negsuc a) = negsuc a +ℤ pos 1

abbrev pub nearest_odd : ℕ → ℤ → ℤ
nearest_odd q r = odd_beside (residue q r (nearest_even q r)) (nearest_even q r)

-- the nearest number of a digit's parity
abbrev pub nearest_of : (digit q : ℕ) → ℤ → ℤ
nearest_of d q r = cond (d == 0) (nearest_even q r) (nearest_odd q r)

-- the step less twice the distance to the nearest even number
abbrev pub gain : ℕ → ℤ → ℤ
gain q r = pos q -ℤ pos (2 * unsigned_abs (residue q r (nearest_even q r)))

-- the word with digit 0 where a coordinate is even, and 1 where it is odd
abbrev pub parities : List ℤ → ℕ
parities [] = 0
parities (x ∷ xs) = unsigned_abs x % 2 + 2 * parities xs

-- the nearest numbers of the parities of a word
abbrev pub with_parities : (w q : ℕ) → List ℤ → List ℤ
with_parities w q [] = []
with_parities w q (r ∷ rs) = nearest_of (w % 2) q r ∷ with_parities (w / 2) q rs

abbrev pub construction_a_fit : WordFit → PointFit
construction_a_fit m = record {
  width = m.width;
  reading_limit = 2 ^ 30;
  step_limit = min (2 ^ 20) m.gain_limit;
  member = λ x. (length x ≡ m.width) × m.member (parities x);
  pick = λ rs q. with_parities (m.pick (map (gain q) rs)) q rs;
}

abbrev pub construction_a : Meaning WordFit → Meaning PointFit
construction_a (unfit e) = unfit e
construction_a (fit m) = fit (construction_a_fit m)
