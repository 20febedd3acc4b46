-- Rounding and residues as the machine works them out: values of 32 bits, computed in 64.
use Rattle.std.proofs.Common.{◌≡◌, ℕ, ◌-◌, ◌*◌, ◌^◌, ◌<◌, ◌≤◌, ℤ, pos, ◌-ℤ◌, ◌*ℤ◌, nat_abs, sym, arith, w32, w64, SFits, to_z, of_z}
use lib.Signed.{quot_z, rem_z}
use Rattle.std.proofs.lemmas.Int.{to_z-of_z, ints}
use Rattle.integers.specs.Nearest.{nearest, residue}
use Rattle.integers.proofs.Order.{nat_abs-*ℤ-le, fits_nat_abs}
use Rattle.integers.proofs.Nearest.{nearest_is, nearest_near, nearest_best, nearest_fits, is_least}
use Rattle.finders.specs.Rounding.{Division, NoNearer, TowardsZero}
use Rattle.finders.proofs.RoundingLaws.{divides, Rounds}

-- a number that is written to 64 bits and read again
abbrev pub wide : ℤ → ℤ
wide z = to_z w64 (of_z w64 z)

abbrev pub narrow : ℤ → ℤ
narrow z = to_z w32 (of_z w32 z)

pub machine_divides : (q : ℕ) (r a b : ℤ) → 1 ≤ q → q < 2 ^ 32 → SFits w32 r → a ≡ narrow r → b ≡ pos q → Division q r (wide (quot_z (wide a) (wide b))) (wide (rem_z (wide a) (wide b)))
machine_divides q r a b h k f e g =
    let ea : wide a ≡ r = omega (arith, ints) in
    let eb : wide b ≡ pos q = omega (arith, ints) in
    let d = divides q r h in
    let fn : SFits w64 (quot_z r (pos q)) = omega (arith, ints, d.quotient_is_small) in
    let fm : SFits w64 (rem_z r (pos q)) = omega (arith, ints, d.remainder_is_small) in
    rw (ea, eb, to_z-of_z w64 (quot_z r (pos q)) fn, to_z-of_z w64 (rem_z r (pos q)) fm) d

-- what rounding owes: x is the number and s the residue of r at the step q
pub record Owed (q : ℕ) (r x s : ℤ) : Type 0 where
  pub number : x ≡ nearest q r
  pub leaves : s ≡ residue q r x
  pub no_nearer : NoNearer q r x
  pub towards_zero : TowardsZero q r x

-- X and Y are what the machine has computed, and q is its step t
pub delivered : (t q : ℕ) (r x s X Y : ℤ) → q ≡ t → 1 ≤ q → q < 2 ^ 32 → SFits w32 r → Rounds q (narrow r) x s → X ≡ x → Y ≡ s → SFits w32 X × SFits w32 Y × Owed t r X Y
delivered t q r x s X Y i h k f d e g =
    let p : narrow r ≡ r = to_z-of_z w32 r f in
    let n : x ≡ nearest q r = rw p at d.number in
    let l : s ≡ residue q r x = rw p at d.leaves in
    let m = nearest_near q r h in
    let o : Owed q r x s = record { number = n; leaves = l; no_nearer = λ y. rw n (nearest_best q r y h); towards_zero = λ y c. is_least q r x y h (rw n (nearest_is q r h)) c } in
    (rw (e, n) (nearest_fits w32 q r h f), rw (g, l, n) (omega (arith, ints)), rw (e, g, sym i) o)

-- what a number leaves; b times d fits 64 bits by a hair
pub record Leaves (q : ℕ) (r x a b d : ℤ) : Type 0 where
  pub product_fits : SFits w64 (wide b *ℤ wide d)
  pub difference_fits : SFits w64 (wide a -ℤ wide (wide b *ℤ wide d))
  pub is_residue : wide (wide a -ℤ wide (wide b *ℤ wide d)) ≡ residue q r x

far : (r p : ℤ) → SFits w32 r → nat_abs p ≤ (2 ^ 32 - 1) * 2 ^ 31 → SFits w64 (r -ℤ p)
far r p f h = omega (arith, ints)

pub machine_residue : (q : ℕ) (r x a b d : ℤ) → q < 2 ^ 32 → SFits w32 r → SFits w32 x → a ≡ narrow r → b ≡ pos q → d ≡ narrow x → Leaves q r x a b d
machine_residue q r x a b d k f g ea eb ed =
    let fa : wide a ≡ r = omega (arith, ints) in
    let fb : wide b ≡ pos q = omega (arith, ints) in
    let fd : wide d ≡ x = omega (arith, ints) in
    let p : nat_abs (pos q *ℤ x) ≤ (2 ^ 32 - 1) * 2 ^ 31 = nat_abs-*ℤ-le (pos q) x {m = 2 ^ 32 - 1} {n = 2 ^ 31} (omega arith) (omega (arith, ints)) in
    let fp : SFits w64 (pos q *ℤ x) = fits_nat_abs w64 (pos q *ℤ x) (omega arith) in
    let fs : SFits w64 (r -ℤ pos q *ℤ x) = far r (pos q *ℤ x) f p in
    record { product_fits = rw (fb, fd) fp; difference_fits = rw (fa, fb, fd, to_z-of_z w64 (pos q *ℤ x) fp) fs; is_residue = rw (fa, fb, fd, to_z-of_z w64 (pos q *ℤ x) fp) (to_z-of_z w64 (r -ℤ pos q *ℤ x) fs) }
