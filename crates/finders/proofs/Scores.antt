-- The orders that the searches choose by: the largest, the smallest, the greatest; and the scores that stand for them.
use Rattle.std.proofs.Common.{◌≡◌, ℕ, ◌≤◌, Bool, true, false, ◌⊎◌, ℤ, pos, ◌≤ℤ◌, Decides, sym, refl, inl, inr, arith}
use borrow.Author.Differences.{ints, true_is_le}
use Rattle.std.proofs.lemmas.Bool.{leb-true, le-leb, cases_lt}
use Rattle.finders.specs.declared.choice.Greatest.{Greatest}
use Rattle.finders.specs.declared.choice.Least.{Least}
use Rattle.finders.specs.Choice.{no_smaller, no_larger, no_less}

-- what the two scores call at least as good
abbrev pub Great : Greatest → Greatest → Type 0
Great a b = b.0 ≤ℤ a.0

abbrev pub Little : Least → Least → Type 0
Little a b = a.0 ≤ b.0

-- the score of a size that is best when largest, of one that is best when smallest, and of a signed number
abbrev pub large : ℕ → Greatest
large n = record { 0 = pos n }

abbrev pub small : ℕ → Least
small n = record { 0 = n }

abbrev pub great : ℤ → Greatest
great z = record { 0 = z }

-- ---- the tests decide the scores
pub large_decides : (m n : ℕ) → Decides (no_smaller m n) (Great (large m) (large n))
large_decides m n = (λ h. omega (arith, ints, leb-true n m h), λ h. le-leb n m (omega (arith, ints)))

pub small_decides : (m n : ℕ) → Decides (no_larger m n) (Little (small m) (small n))
small_decides m n = (leb-true m n, le-leb m n)

pub great_decides : (y z : ℤ) → Decides (no_less y z) (Great (great y) (great z))
great_decides y z = (λ h. omega (arith, ints), λ h. sym (true_is_le z y (omega (arith, ints))))

-- ---- the tests are total, and carry along a chain
pub no_smaller_total : (m n : ℕ) → (no_smaller m n ≡ true) ⊎ (no_smaller n m ≡ true)
no_smaller_total m n = elim (cases_lt m n) [ inl h ↦ inr (le-leb m n (omega arith)) | inr h ↦ inl (le-leb n m h) ]

pub no_smaller_chain : (k m n : ℕ) → no_smaller k m ≡ true → no_smaller m n ≡ true → no_smaller k n ≡ true
no_smaller_chain k m n g h = le-leb n k (omega (arith, leb-true m k g, leb-true n m h))

pub no_larger_total : (m n : ℕ) → (no_larger m n ≡ true) ⊎ (no_larger n m ≡ true)
no_larger_total m n = no_smaller_total n m

pub no_larger_chain : (k m n : ℕ) → no_larger k m ≡ true → no_larger m n ≡ true → no_larger k n ≡ true
no_larger_chain k m n g h = no_smaller_chain n m k h g

pub no_less_total : (y z : ℤ) → (no_less y z ≡ true) ⊎ (no_less z y ≡ true)
no_less_total y z = go (no_less y z) refl
  where
    go : (b : Bool) → no_less y z ≡ b → (no_less y z ≡ true) ⊎ (no_less z y ≡ true)
    go true e = inl e
    go false e = inr (sym (true_is_le y z (omega (arith, ints))))

pub no_less_chain : (x y z : ℤ) → no_less x y ≡ true → no_less y z ≡ true → no_less x z ≡ true
no_less_chain x y z g h = sym (true_is_le z x (omega (arith, ints)))
