-- A tally as the machine adds to it.
use Rattle.std.proofs.Common.{◌≡◌, ℕ, ◌+◌, ◌-◌, ◌^◌, ◌<◌, ◌≤◌, true, List, [], ◌∷◌, length, get_or, take, ℤ, pos, ◌+ℤ◌, nat_abs}
use Rattle.std.proofs.Common.{refl, arith, w16, w32, SFits, to_z, of_z}
use Rattle.std.specs.List.{sum_by}
use Rattle.std.proofs.lemmas.Bool.{le-leb}
use Rattle.std.proofs.lemmas.Int.{ints, to_z-of_z}
use Rattle.std.proofs.lemmas.List.{length-take, take_more}
use Rattle.std.proofs.lemmas.List.Recursion.{is_sum_by}
use Rattle.std.proofs.lemmas.List.Sums.{sum_by_more}
use Rattle.integers.specs.Sums.{plus}
use Rattle.integers.proofs.Order.{fits_nat_abs}
use Rattle.finders.specs.Points.{square, within}
use Rattle.finders.proofs.Within.{within_append, within_wider, within_plus}
use Rattle.blocks.specs.Senses.{squares}
use Rattle.blocks.proofs.SenseSizes.{squares_within}

-- the sum of y and x, as the machine makes it of y and a reading r, which is x
pub record MadeSum (y x r : ℤ) : Type 0 where
  pub fits : SFits w32 (to_z w32 (of_z w32 y) +ℤ to_z w32 (of_z w32 r))
  pub is_the_sum : to_z w32 (of_z w32 (to_z w32 (of_z w32 y) +ℤ to_z w32 (of_z w32 r))) ≡ y +ℤ x

pub sum_made : (y x r : ℤ) → SFits w32 y → SFits w16 x → r ≡ to_z w16 (of_z w16 x) →
    nat_abs (y +ℤ x) ≤ 2 ^ 31 - 1 → MadeSum y x r
sum_made y x r f g e small =
    let s : SFits w32 (y +ℤ x) = fits_nat_abs w32 (y +ℤ x) (omega arith) in
    let x_fits : SFits w32 x = omega (arith, ints) in
    let at_y = to_z-of_z w32 y f in
    let at_x = to_z-of_z w32 x x_fits in
    rw (e, to_z-of_z w16 x g)
    (record { fits = rw (at_y, at_x) s; is_the_sum = rw (at_y, at_x) (to_z-of_z w32 (y +ℤ x) s) })

-- a sense is added to small sums
pub adding_fits : (ys xs : List ℤ) → within (2 ^ 30) ys ≡ true → within (2 ^ 15) xs ≡ true →
    within (2 ^ 31 - 1) (plus ys xs) ≡ true
adding_fits ys xs h k =
    within_wider (2 ^ 30 + 2 ^ 15) (2 ^ 31 - 1) (plus ys xs) (omega arith) (within_plus (2 ^ 30) (2 ^ 15) ys xs h k)

-- ---- squares

squares_more : (xs : List ℤ) (i : ℕ) → i < length xs →
    squares (take (i + 1) xs) ≡ squares (take i xs) + square (get_or xs i (pos 0))
squares_more xs i h = rw (by (take (i + 1) xs), by (take i xs)) (sum_by_more square xs i (pos 0) h)
  where
    by : (ys : List ℤ) → squares ys ≡ sum_by square ys
    by ys = is_sum_by squares square refl (λ y ys. refl) ys

within_more : (limit : ℕ) (xs : List ℤ) (i : ℕ) → i < length xs → nat_abs (get_or xs i (pos 0)) ≤ limit →
    within limit (take i xs) ≡ true → within limit (take (i + 1) xs) ≡ true
within_more limit xs i h here before =
    let x = get_or xs i (pos 0) in
    let one : within limit (x ∷ []) ≡ true = rw (le-leb (nat_abs x) limit here) refl in
    rw (take_more xs i (pos 0) h) (within_append limit (take i xs) (x ∷ []) before one)

-- the first i readings are of 16 bits, and this is their energy
pub record EnergyOf (xs : List ℤ) (i energy : ℕ) : Type 0 where
  pub squares : energy ≡ squares (take i xs)
  pub small : within (2 ^ 15) (take i xs) ≡ true

-- and of a reading more, which the machine has squared
pub one_reading_more : {xs : List ℤ} {i energy : ℕ} → EnergyOf xs i energy → i < length xs → (r : ℕ) →
    SFits w16 (get_or xs i (pos 0)) → r ≡ square (to_z w16 (of_z w16 (get_or xs i (pos 0)))) →
    EnergyOf xs (i + 1) (energy + r)
one_reading_more {xs = xs} {i = i} before h r fits is =
    let x = get_or xs i (pos 0) in
    let squared : r ≡ square x = rw (to_z-of_z w16 x fits) at is in
    record {
      squares = omega (arith, before.squares, squared, squares_more xs i h);
      small = within_more (2 ^ 15) xs i h (omega (arith, ints)) before.small;
    }

pub energy_fits : {xs : List ℤ} {i energy : ℕ} → EnergyOf xs i energy → length xs ≤ 32 → energy ≤ 2 ^ 35
energy_fits {xs = xs} {i = i} e few =
    omega (arith, e.squares, squares_within (2 ^ 15) (take i xs) e.small, length-take i xs)
