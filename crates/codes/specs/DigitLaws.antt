-- Words by their digits.
use Rattle.std.specs.Prelude.{◌≡◌, ℕ, zero, suc, ◌+◌, ◌*◌, ◌^◌, ◌<◌, List, [], ◌∷◌, ◌++◌, map, length, ℤ, ◌+ℤ◌, count_ones, slice_index}
use Rattle.std.proofs.Common.{sym, mul_left_comm, arith}
use Rattle.std.proofs.Math.Nat.{pow-succ'}
use Rattle.std.specs.Int.Count.{ones_step}
use Rattle.std.specs.List.{AllByRecursion}
use Rattle.finders.specs.Words.{digit, signed, correlation}
use Rattle.finders.proofs.Correlation.{half_above}
use Rattle.finders.proofs.Digits.{first_digit, other_digits}
use Rattle.codes.specs.Digits.{word, reversed}

abbrev pub Digit : ℕ → Type 0
Digit d = d < 2

pub reversed_digit : (d : ℕ) → Digit (reversed d)
reversed_digit d = omega arith

-- what a function makes of a list, where it always makes a digit
pub map_digits : {X : Type 0} (f : X → ℕ) → ((x : X) → Digit (f x)) → (xs : List X) → AllByRecursion Digit (map f xs)
map_digits f h [] = tt
map_digits f h (x ∷ xs) = (h x, map_digits f h xs)

pub word_below : (ds : List ℕ) → AllByRecursion Digit ds → word ds < 2 ^ length ds
word_below [] h = omega arith
word_below (d ∷ ds) h = let a = h.0 in let b = word_below ds h.1 in rw (pow-succ' 2 (length ds)) (omega arith)

pub word_append : (ds es : List ℕ) → word (ds ++ es) ≡ word es * 2 ^ length ds + word ds
word_append [] es = omega arith
word_append (d ∷ ds) es = rw (word_append ds es, pow-succ' 2 (length ds)) (omega (arith, mul_left_comm (word es) 2 (2 ^ length ds)))

pub correlation_cons : (d w : ℕ) (g : ℤ) (gs : List ℤ) → Digit d → correlation (d + 2 * w) (g ∷ gs) ≡ signed d g +ℤ correlation w gs
correlation_cons d w g gs h = rw (first_digit d w h, other_digits d w h)

pub ones_cons : (d w : ℕ) → Digit d → count_ones (d + 2 * w) ≡ d + count_ones w
ones_cons d w h = rw (ones_step (d + 2 * w), first_digit d w h, other_digits d w h)

-- the digit at an index is that of the list
pub word_digit : (ds : List ℕ) (i : ℕ) → AllByRecursion Digit ds → i < length ds → digit (word ds) i ≡ slice_index ds i
word_digit [] i h k = absurd (omega arith)
word_digit (d ∷ ds) zero h k = let a = h.0 in omega arith
word_digit (d ∷ ds) (suc i) h k = rw (sym (half_above (d + 2 * word ds) i), other_digits d (word ds) h.0) (word_digit ds i h.1 (omega arith))
