-- Rounding by a quotient that is cut off towards zero and then corrected by one, and the other way.
use Rattle.std.proofs.Common.{◌≡◌, ℕ, zero, suc, ◌+◌, ◌-◌, ◌*◌, ◌/◌, ◌≤◌, ℤ, pos, negsuc, ◌+ℤ◌, ◌-ℤ◌, ◌*ℤ◌, neg_ℤ, nat_abs, ◌≤ℤ◌, ◌<ℤ◌, sym, refl, mod-lt, div-le_self, arith}
use native.Mathlib.Nat.{div-add-mod}
use lib.Signed.{quot_z, rem_z}
use borrow.Author.Differences.{ints}
use Rattle.integers.specs.Nearest.{nearest, residue, Side}
use Rattle.integers.proofs.Laws.{*ℤ-neg, *ℤ-+ℤ, *ℤ-1}
use Rattle.integers.proofs.Nearest.{nearest_unique, nearest_near, nearest_next}
use Rattle.finders.specs.Rounding.{Division, other_way, turned}

pub divides : (q : ℕ) (r : ℤ) → 1 ≤ q → Division q r (quot_z r (pos q)) (rem_z r (pos q))
divides q (pos a) h =
    let d = div-add-mod a q in let m = mod-lt a {m = q} h in
    record { parts = omega (arith, ints); remainder_is_small = m; remainder_side = (λ k. omega (arith, ints), λ k. omega (arith, ints)); quotient_is_small = div-le_self a q }
divides q (negsuc a) h =
    let d = div-add-mod (suc a) q in let m = mod-lt (suc a) {m = q} h in let s = div-le_self (suc a) q in
    let e : pos q *ℤ neg_ℤ (pos (suc a / q)) ≡ neg_ℤ (pos (q * (suc a / q))) = *ℤ-neg (pos q) (pos (suc a / q)) in
    record { parts = rw e (omega (arith, ints)); remainder_is_small = omega (arith, ints); remainder_side = (λ k. omega (arith, ints), λ k. omega (arith, ints)); quotient_is_small = omega (arith, ints) }

-- the next number above, and the next below
module _ (q : ℕ) (r x : ℤ) where
  pub residue_up : residue q r (x +ℤ pos 1) ≡ residue q r x -ℤ pos q
  residue_up = rw (*ℤ-+ℤ (pos q) x (pos 1), *ℤ-1 (pos q)) (omega (arith, ints))

  pub residue_down : residue q r (x +ℤ negsuc 0) ≡ residue q r x +ℤ pos q
  residue_down = rw (*ℤ-+ℤ (pos q) x (negsuc 0), *ℤ-neg (pos q) (pos 1), *ℤ-1 (pos q)) (omega (arith, ints))

-- x is the nearest number, and s what it leaves
pub record Rounds (q : ℕ) (r x s : ℤ) : Type 0 where
  pub number : x ≡ nearest q r
  pub leaves : s ≡ residue q r x

module _ (q : ℕ) (r n m : ℤ) (some : 1 ≤ q) (d : Division q r n m) where
  rounds : (x s : ℤ) → s ≡ residue q r x → 2 * nat_abs s ≤ q → (2 * nat_abs s ≡ q → Side r s) → Rounds q r x s
  rounds x s e h t = record { number = nearest_unique q r x some (record { near = rw (sym e) h; tie = rw (sym e) t }); leaves = e }

  pub rounds_up : pos q <ℤ (pos 2 *ℤ m) → Rounds q r (n +ℤ pos 1) (m -ℤ pos q)
  rounds_up h =
      let small = d.remainder_is_small in
      rounds (n +ℤ pos 1) (m -ℤ pos q) (rw (residue_up q r n) (omega (arith, ints, d.parts))) (omega (arith, ints)) (λ e. absurd (omega (arith, ints)))

  pub rounds_down : (pos 2 *ℤ m) <ℤ neg_ℤ (pos q) → Rounds q r (n -ℤ pos 1) (m +ℤ pos q)
  rounds_down h =
      let small = d.remainder_is_small in
      rounds (n -ℤ pos 1) (m +ℤ pos q) (rw (residue_down q r n) (omega (arith, ints, d.parts))) (omega (arith, ints)) (λ e. absurd (omega (arith, ints)))

  pub rounds_off : (pos 2 *ℤ m) ≤ℤ pos q → neg_ℤ (pos q) ≤ℤ (pos 2 *ℤ m) → Rounds q r n m
  rounds_off h k = rounds n m (omega (arith, ints, d.parts)) (omega (arith, ints)) (λ e. d.remainder_side)

-- ---- the other way

other_way_from : (q : ℕ) (r x s : ℤ) → s ≡ residue q r x → nat_abs s ≤ q → nat_abs (residue q r (other_way s x)) ≡ q - nat_abs s
other_way_from q r x (pos (suc n)) e h = rw (residue_up q r x, sym e) (omega (arith, ints))
other_way_from q r x (negsuc n) e h = rw (residue_down q r x, sym e) (omega (arith, ints))
other_way_from q r (pos a) (pos zero) e h = rw (residue_up q r (pos a), sym e) (omega (arith, ints))
other_way_from q r (negsuc a) (pos zero) e h = rw (residue_down q r (negsuc a), sym e) (omega (arith, ints))

-- what the other way leaves of a reading is the rest of the step
other_way_left : (q : ℕ) (r x : ℤ) → nat_abs (residue q r x) ≤ q → nat_abs (residue q r (other_way (residue q r x) x)) ≡ q - nat_abs (residue q r x)
other_way_left q r x h = other_way_from q r x (residue q r x) refl h

-- it is a neighbour
pub other_way_apart : (s x : ℤ) → nat_abs (other_way s x -ℤ x) ≡ 1
other_way_apart (pos (suc n)) x = omega (arith, ints)
other_way_apart (negsuc n) x = omega (arith, ints)
other_way_apart (pos zero) (pos a) = omega (arith, ints)
other_way_apart (pos zero) (negsuc a) = omega (arith, ints)

pub turned_left : (q : ℕ) (r : ℤ) → 1 ≤ q → nat_abs (residue q r (turned q r)) ≡ q - nat_abs (residue q r (nearest q r))
turned_left q r h = other_way_left q r (nearest q r) (omega (arith, nearest_near q r h))

pub turned_rest : (q : ℕ) (r : ℤ) → 1 ≤ q → nat_abs (residue q r (turned q r)) + nat_abs (residue q r (nearest q r)) ≡ q
turned_rest q r h = omega (arith, turned_left q r h, nearest_near q r h)

pub turned_second : (q : ℕ) (r y : ℤ) → 1 ≤ q → (y ≡ nearest q r → ⊥) → nat_abs (residue q r (turned q r)) ≤ nat_abs (residue q r y)
turned_second q r y h n = rw (turned_left q r h) (nearest_next q r y h n)
