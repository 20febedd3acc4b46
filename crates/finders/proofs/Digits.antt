-- The first digit of a word, and digits beyond so many cells.
use Rattle.std.proofs.Common.{◌≡◌, ℕ, ◌+◌, ◌*◌, ◌/◌, ◌%◌, ◌^◌, ◌<◌, ◌≤◌, false, not, eqb, sym, ap, inl, inr, arith, pow_pos, pow_mono}
use native.Mathlib.Nat.{div-eq_of_lt}
use Rattle.std.proofs.lemmas.Nat.{le-div}
use Rattle.std.proofs.lemmas.Bool.{cases_lt, lt-ltb, le-ltb, eq-eqb, ne_eqb}
use Rattle.finders.specs.Words.{fits}

-- the first digit of a word, and the others
pub first_digit : (d w : ℕ) → d < 2 → (d + 2 * w) % 2 ≡ d
first_digit d w h = omega arith

pub other_digits : (d w : ℕ) → d < 2 → (d + 2 * w) / 2 ≡ w
other_digits d w h = omega arith

none_beyond : (w n : ℕ) → eqb (w / 2 ^ n) 0 ≡ fits n w
none_beyond w n = elim (cases_lt w (2 ^ n)) [
  | inl h ↦ rw (lt-ltb w (2 ^ n) h, eq-eqb (w / 2 ^ n) 0 (div-eq_of_lt h))
  | inr h ↦ let p : 1 ≤ w / 2 ^ n = le-div 1 w (2 ^ n) (pow_pos n) (omega arith) in rw (le-ltb w (2 ^ n) h, ne_eqb (w / 2 ^ n) 0 (λ e. omega arith))
]

pub beyond_some : (w n : ℕ) → not (eqb (w / 2 ^ n) 0) ≡ not (fits n w)
beyond_some w n = ap not (none_beyond w n)

pub beyond_all : (w n : ℕ) → 32 ≤ n → w < 2 ^ 32 → false ≡ not (fits n w)
beyond_all w n h k = sym (ap not (lt-ltb w (2 ^ n) (omega (arith, pow_mono h))))
