-- The word of signs: no word has a greater correlation.
use Rattle.std.specs.Prelude.{◌≡◌, ℕ, sum_by, ◌/◌, ◌%◌, ◌^◌, ◌<◌, true, false, cond, List, [], ◌∷◌, length, ℤ, pos, negsuc, neg_ℤ, ◌≤ℤ◌, ◌==◌, unsigned_abs, refl}
use Rattle.std.proofs.Common.{arith}
use Rattle.std.specs.List.{AllByRecursion}
use Rattle.std.proofs.lemmas.List.{length-map}
use Rattle.std.proofs.lemmas.List.Sums.{sum_by-cons}
use Rattle.std.proofs.lemmas.Int.{ints}
use Rattle.finders.specs.Words.{correlation, signed}
use Rattle.codes.specs.Digits.{word}
use Rattle.codes.specs.Universe.{sign, signs}
use Rattle.codes.specs.DigitLaws.{Digit, map_digits, word_below, correlation_cons}

-- the sizes of the gains, added
abbrev pub total : List ℤ → ℕ
total = sum_by unsigned_abs

pub sign_digit : (g : ℤ) → Digit (sign g)
sign_digit (pos n) = omega arith
sign_digit (negsuc n) = omega arith

pub signs_digits : (gs : List ℤ) → AllByRecursion Digit (signs gs)
signs_digits gs = map_digits sign sign_digit gs

pub signs_below : (gs : List ℤ) → word (signs gs) < 2 ^ length gs
signs_below gs = rw (length-map gs sign) at (word_below (signs gs) (signs_digits gs))

-- no sign makes more of a gain than its size, and its own sign makes all of it
pub signed_most : (d : ℕ) (g : ℤ) → signed d g ≤ℤ pos (unsigned_abs g)
signed_most d g = elim (d == 0) as (λ b. cond b g (neg_ℤ g) ≤ℤ pos (unsigned_abs g)) [ true ↦ omega (arith, ints) | false ↦ omega (arith, ints) ]

pub signed_own : (g : ℤ) → signed (sign g) g ≡ pos (unsigned_abs g)
signed_own (pos n) = refl
signed_own (negsuc n) = refl

pub correlation_most : (w : ℕ) (gs : List ℤ) → correlation w gs ≤ℤ pos (total gs)
correlation_most w [] = omega (arith, ints)
correlation_most w (g ∷ gs) = let a = signed_most (w % 2) g in let b = correlation_most (w / 2) gs in omega (arith, ints, sum_by-cons unsigned_abs g gs)

pub correlation_signs : (gs : List ℤ) → correlation (word (signs gs)) gs ≡ pos (total gs)
correlation_signs [] = refl
correlation_signs (g ∷ gs) = rw (correlation_cons (sign g) (word (signs gs)) g gs (sign_digit g), signed_own g, correlation_signs gs, sum_by-cons unsigned_abs g gs)
