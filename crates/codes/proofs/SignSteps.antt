-- The word of signs and its correlation, as the machine works them out.
use Rattle.std.proofs.Common.{◌≡◌, ◌*◌, ◌%◌, ◌^◌, ◌≤◌, true, List, [], ◌∷◌, length, ℤ, nat_abs, reverse, fold, sum_by, refl, arith}
use mathlib.Core.List.{reverse-cons}
use lib.Bits.{bit_or}
use Rattle.std.proofs.lemmas.Int.{ints}
use Rattle.std.proofs.lemmas.Nat.{shl_whole, or_shifted}
use Rattle.std.proofs.lemmas.List.Sums.{fold-append}
use Rattle.finders.specs.Points.{within}
use Rattle.finders.proofs.Correlation.{correlation_size}
use Rattle.codes.specs.Digits.{word}
use Rattle.codes.specs.Universe.{sign, signs}
use Rattle.codes.specs.SignLaws.{sign_digit, signs_below, correlation_signs}

-- each sign is shifted in below those of the later gains
pub pushed : (gs : List ℤ) → length gs ≤ 32 → fold (λ w g. bit_or ((w * 2) % 2 ^ 32) (sign g)) 0 (reverse gs) ≡ word (signs gs)
pushed [] h = refl
pushed (g ∷ gs) h =
    let w = word (signs gs) in
    let whole : (w * 2) % 2 ^ 32 ≡ w * 2 ^ 1 = shl_whole w (length gs) 1 32 (signs_below gs) (omega arith) in
    rw (reverse-cons, fold-append, pushed gs (omega arith), whole, or_shifted w 1 (sign g) (sign_digit g)) (omega arith)

pub added_small : (gs : List ℤ) → length gs ≤ 32 → within (2 ^ 30) gs ≡ true → sum_by nat_abs gs ≤ 2 ^ 35
added_small gs few small = omega (arith, ints, correlation_signs gs, correlation_size (2 ^ 30) (word (signs gs)) gs small)
