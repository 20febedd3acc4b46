-- The correlation of a word: one cell more, and how large it is.
use Rattle.std.proofs.Common.{◌≡◌, ℕ, suc, ◌*◌, ◌/◌, ◌%◌, ◌^◌, ◌≤◌, true, false, cond, eqb, leb, List, [], ◌∷◌, ◌++◌, length, ℤ, ◌+ℤ◌, neg_ℤ, nat_abs, refl, zero-le, suc-mul, one-add, arith}
use Rattle.std.proofs.lemmas.Nat.{shr-shr}
use Rattle.std.proofs.lemmas.Int.{ints}
use Rattle.std.proofs.lemmas.Bool.{leb-true, and_parts}
use Rattle.finders.specs.Points.{within}
use Rattle.finders.specs.Words.{digit, signed, correlation}

-- the digits above the first n + 1
pub half_above : (w n : ℕ) → w / 2 / 2 ^ n ≡ w / 2 ^ suc n
half_above w n = rw one-add at (shr-shr w 1 n)

pub correlation_push : (w : ℕ) (gs : List ℤ) (g : ℤ) → correlation w (gs ++ g ∷ []) ≡ correlation w gs +ℤ signed (digit w (length gs)) g
correlation_push w [] g = let one : w / 1 ≡ w = omega arith in rw one (omega (arith, ints))
correlation_push w (x ∷ gs) g = rw (correlation_push (w / 2) gs g, half_above w (length gs)) (omega (arith, ints))

pub signed_size : (d : ℕ) (g : ℤ) → nat_abs (signed d g) ≡ nat_abs g
signed_size d g = elim (eqb d 0) as (λ b. nat_abs (cond b g (neg_ℤ g)) ≡ nat_abs g) [ true ↦ refl | false ↦ omega (arith, ints) ]

pub correlation_size : (limit w : ℕ) (gs : List ℤ) → within limit gs ≡ true → nat_abs (correlation w gs) ≤ length gs * limit
correlation_size limit w [] t = zero-le
correlation_size limit w (g ∷ gs) t =
    let p = and_parts (leb (nat_abs g) limit) (within limit gs) t in
    let a = leb-true (nat_abs g) limit p.0 in
    let b = correlation_size limit (w / 2) gs p.1 in
    let e = signed_size (w % 2) g in
    rw (suc-mul (length gs) limit) (omega (arith, ints))
