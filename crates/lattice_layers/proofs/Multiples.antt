-- A number times a factor, and a number divided by it, as the machine works them out: values of 32 bits.
use Rattle.std.proofs.Common.{◌≡◌, ℕ, zero, suc, ◌+◌, ◌*◌, ◌^◌, ◌<◌, ◌≤◌, true, List, length, get_or, set, take, ℤ, pos, ◌-ℤ◌, ◌*ℤ◌, nat_abs, sym, refl, ap, ◌∙◌, arith, w32, SFits, to_z, of_z}
use lib.IntN.{*ℤ_comm}
use lib.Signed.{quot_z, rem_z}
use Rattle.std.proofs.Math.Seq.{take-length}
use Rattle.std.proofs.lemmas.Int.{ints, to_z-of_z}
use Rattle.std.proofs.lemmas.List.{get_or-map, length-map, map_push, take_more, take_more_set}
use Rattle.integers.proofs.Laws.{*ℤ--ℤ}
use Rattle.integers.proofs.Order.{nat_abs-*ℤ}
use Rattle.finders.specs.Points.{within}
use Rattle.finders.proofs.RoundingLaws.{divides}
use Rattle.finders.proofs.Within.{within_at}
use Rattle.lattice_layers.specs.Scale.{times, factor_in_range}
use Rattle.lattice_layers.specs.ScaleLaws.{factor_range}

pub times_at : (k : ℕ) (xs : List ℤ) (i : ℕ) → i < length xs → get_or (times k xs) i (pos 0) ≡ pos k *ℤ get_or xs i (pos 0)
times_at k xs i h = get_or-map (λ x. pos k *ℤ x) xs i (pos 0) (pos 0) h

-- one of the products that are small
pub product_small : (k limit : ℕ) (xs : List ℤ) (i : ℕ) → within limit (times k xs) ≡ true → i < length xs → nat_abs (pos k *ℤ get_or xs i (pos 0)) ≤ limit
product_small k limit xs i h l = rw (times_at k xs i l) at (within_at limit (times k xs) i h (rw length-map l))

-- numbers are not all multiples where one is none
pub never_times : (k : ℕ) (xs : List ℤ) (i : ℕ) → i < length xs → ((y : ℤ) → get_or xs i (pos 0) ≡ pos k *ℤ y → ⊥) → (p : List ℤ) → xs ≡ times k p → ⊥
never_times k xs i h none p e = none (get_or p i (pos 0)) (rw e (times_at k p i (rw (e, length-map) at h)))

-- a quotient more is written
pub quotient_more : (k : ℕ) (xs ys : List ℤ) (i : ℕ) (y : ℤ) → i < length xs → i < length ys → pos k *ℤ y ≡ get_or xs i (pos 0) → times k (take i ys) ≡ take i xs → times k (take (i + 1) (set ys i y)) ≡ take (i + 1) xs
quotient_more k xs ys i y h room e done = rw (take_more_set ys i y room, map_push (λ x. pos k *ℤ x) (take i ys) y, done, e) (sym (take_more xs i (pos 0) h))

-- all of them are
pub all_quotients : (k : ℕ) (xs ys : List ℤ) (i : ℕ) → i ≡ length xs → length ys ≡ length xs → times k (take i ys) ≡ take i xs → xs ≡ times k ys
all_quotients k xs ys i last as_many done = sym (ap (times k) (sym (take-length ys) ∙ ap (λ (n : ℕ). take n ys) (as_many ∙ sym last)) ∙ done ∙ ap (λ (n : ℕ). take n xs) last ∙ take-length xs)

-- ---- in values of 32 bits

less_than_one : (k a : ℕ) → k * a < k → k * a ≡ 0
less_than_one k zero h = omega arith
less_than_one k (suc a) h = absurd (omega arith)

module _ (k : ℕ) (x : ℤ) (some : factor_in_range k ≡ true) (fits : SFits w32 x) where
  factor : to_z w32 k ≡ pos k
  factor = omega (arith, ints, factor_range k some)

  number : to_z w32 (of_z w32 x) ≡ x
  number = to_z-of_z w32 x fits

  pub product_fits : nat_abs (pos k *ℤ x) ≤ 2 ^ 30 + 2 ^ 20 → SFits w32 (to_z w32 (of_z w32 x) *ℤ to_z w32 k)
  product_fits h = rw (factor, number, *ℤ_comm x (pos k)) (omega (arith, ints))

  pub product : nat_abs (pos k *ℤ x) ≤ 2 ^ 30 + 2 ^ 20 → pos k *ℤ x ≡ to_z w32 (of_z w32 (to_z w32 (of_z w32 x) *ℤ to_z w32 k))
  product h = (rw (factor, number) (*ℤ_comm (pos k) x)) ∙ sym (to_z-of_z w32 _ (product_fits h))

  abbrev left_over : ℕ
  left_over = of_z w32 (rem_z (to_z w32 (of_z w32 x)) (to_z w32 k))

  abbrev quotient : ℤ
  quotient = quot_z (to_z w32 (of_z w32 x)) (to_z w32 k)

  pub multiple : left_over ≡ 0 → pos k *ℤ to_z w32 (of_z w32 quotient) ≡ x
  multiple h =
      let d = divides k x (omega (arith, factor_range k some)) in
      let none : rem_z x (pos k) ≡ pos 0 = let r = rw (factor, number) at h in omega (arith, ints, d.remainder_is_small, factor_range k some) in
      let q : SFits w32 (quot_z x (pos k)) = omega (arith, ints, d.quotient_is_small) in
      let p = d.parts in
      rw (factor, number, to_z-of_z w32 (quot_z x (pos k)) q) (omega (arith, ints))

  pub no_multiple : (left_over ≡ 0 → ⊥) → (y : ℤ) → x ≡ pos k *ℤ y → ⊥
  no_multiple h y e =
      let d = divides k x (omega (arith, factor_range k some)) in
      let apart : pos k *ℤ (y -ℤ quot_z x (pos k)) ≡ rem_z x (pos k) = omega (arith, ints, *ℤ--ℤ (pos k) y (quot_z x (pos k)), d.parts) in
      let size = sym (nat_abs-*ℤ (pos k) (y -ℤ quot_z x (pos k))) ∙ ap nat_abs apart in
      let none : rem_z x (pos k) ≡ pos 0 = omega (arith, ints, size, less_than_one k _ (rw (sym size) at d.remainder_is_small)) in
      h (rw (factor, number, none) refl)
