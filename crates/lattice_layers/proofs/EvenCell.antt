-- One cell as the machine rounds it to an even number, and turns that odd.
use Rattle.std.proofs.Common.{◌≡◌, ℕ, zero, suc, ◌+◌, ◌-◌, ◌*◌, ◌^◌, ◌<◌, ◌≤◌, max, ℤ, pos, ◌*ℤ◌, nat_abs, arith, ap, ◌∙◌, sym, refl}
use Rattle.std.proofs.lemmas.Int.{ints}
use Rattle.integers.specs.Nearest.{nearest, residue}
use Rattle.finders.proofs.RoundingBits.{narrow, wide}
use Rattle.lattice_layers.specs.ConstructionA.{nearest_even, nearest_of}
use Rattle.lattice_layers.specs.EvenOddLaws.{doubled, even_left, even_small, odd_left}

-- n is half of the even number nearest to a reading, and s what that leaves: both are small
pub record Halved (q : ℕ) (r n s : ℤ) : Type 0 where
  pub number : pos 2 *ℤ n ≡ nearest_even q r
  pub leaves : s ≡ residue q r (nearest_even q r)
  pub small_number : nat_abs (pos 2 *ℤ n) ≤ 2 ^ 30 + 1
  pub small_residue : nat_abs s ≤ q

-- a reading that is rounded at twice the step, after it is passed through 32 bits
pub halved : (q : ℕ) (r n s : ℤ) → 1 ≤ q → nat_abs r ≤ 2 ^ 30 → n ≡ nearest (max (2 * q) 1) (narrow r) → s ≡ residue (max (2 * q) 1) (narrow r) n → Halved q r n s
halved q r n s h l e f =
    let m : max (2 * q) 1 ≡ 2 * q = omega arith in
    let t : narrow r ≡ r = omega (arith, ints) in
    let half : n ≡ nearest (2 * q) r = rw (m, t) at e in
    let left : s ≡ residue q r (nearest_even q r) = (rw (m, t) at f) ∙ ap (residue (2 * q) r) half ∙ sym (doubled q r (nearest (2 * q) r)) in
    record { number = ap (λ (z : ℤ). pos 2 *ℤ z) half; leaves = left; small_number = rw half (omega (arith, even_small q r h)); small_residue = rw left (even_left q r h) }

-- ---- from the even number e

pub even_is_small : (q : ℕ) (r e : ℤ) → 1 ≤ q → nat_abs r ≤ 2 ^ 30 → e ≡ nearest_even q r → nat_abs (narrow e) ≤ 2 ^ 30 + 1
even_is_small q r e h l i = let b : nat_abs e ≤ 2 ^ 30 + 1 = rw i (omega (arith, even_small q r h)) in omega (arith, ints)

-- n is the size of what the machine finds it to leave
pub left_size : (q : ℕ) (r e s : ℤ) (n : ℕ) → 1 ≤ q → q ≤ 2 ^ 20 → nat_abs r ≤ 2 ^ 30 → e ≡ nearest_even q r → s ≡ residue q (narrow r) (narrow e) → n ≡ nat_abs (wide s) → n ≡ nat_abs (residue q r (nearest_even q r))
left_size q r e s n h small l i f g =
    let b : nat_abs e ≤ 2 ^ 30 + 1 = rw i (omega (arith, even_small q r h)) in
    let t : narrow r ≡ r = omega (arith, ints) in
    let u : narrow e ≡ e = omega (arith, ints) in
    let left : s ≡ residue q r (nearest_even q r) = rw (t, u, i) at f in
    omega (arith, ints, even_left q r h)

-- the odd number leaves the rest of the step
pub turned_size : (d q : ℕ) (r : ℤ) (n : ℕ) → 1 ≤ q → d < 2 → (d ≡ 0 → ⊥) → n ≡ nat_abs (residue q r (nearest_even q r)) → (n ≤ q) × (q - n ≡ nat_abs (residue q r (nearest_of d q r)))
turned_size zero q r n h l o e = absurd (o refl)
turned_size (suc zero) q r n h l o e = let left = odd_left q r h in (omega arith, omega arith)
turned_size (suc (suc d)) q r n h l o e = absurd (omega arith)
