-- The whole number nearest to r / q, of two the one nearer to zero.
use Rattle.std.specs.Prelude.{◌≡◌, ℕ, suc, ◌+◌, ◌-◌, ◌*◌, ◌/◌, ◌≤◌, ℤ, pos, negsuc, ◌-ℤ◌, ◌*ℤ◌, neg_ℤ, ◌≤ℤ◌, unsigned_abs}

-- of a ÷ q, both natural: with almost half a step added the quotient is cut off, so that a tie stays below
abbrev pub nearestℕ : ℕ → ℕ → ℕ
nearestℕ q a = (2 * a + q - 1) / (2 * q)

abbrev pub nearest : ℕ → ℤ → ℤ
nearest q (pos a) = pos (nearestℕ q a)
nearest q (negsuc a) = neg_ℤ (pos (nearestℕ q (suc a)))

-- what the number x leaves of r
abbrev pub residue : ℕ → ℤ → ℤ → ℤ
residue q r x = r -ℤ pos q *ℤ x

-- s is on r's side of zero
abbrev pub Side : ℤ → ℤ → Type 0
Side r s = (pos 0 ≤ℤ r → pos 0 ≤ℤ s) × (r ≤ℤ pos 0 → s ≤ℤ pos 0)

-- x comes within half a step of r, and where it comes no nearer than that, it lies between zero and r
pub record IsNearest (q : ℕ) (r x : ℤ) : Type 0 where
  pub near : 2 * unsigned_abs (residue q r x) ≤ q
  pub tie : 2 * unsigned_abs (residue q r x) ≡ q → Side r (residue q r x)
