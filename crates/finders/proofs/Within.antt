-- Numbers of a list that are within a limit: a test of them all, one of them, and parts of the list.
use Rattle.std.specs.Bool.{MatchBool}
use Rattle.std.proofs.Math.Bool.{and-false}
use Rattle.std.specs.List.{AllWithin, HoldsAt}
use Rattle.std.proofs.Common.{Bool, sym, ◌≡◌, ℕ, zero, suc, ◌+◌, ◌<◌, ◌≤◌, true, false, leb, List, [], ◌∷◌, ◌++◌, length, min, get_or, take, drop, ℤ, pos, ◌+ℤ◌, nat_abs, refl, zero-le, arith}
use Rattle.std.proofs.lemmas.Bool.{le-leb, lt-leb, and_parts, leb-true}
use Rattle.std.proofs.lemmas.Int.{ints}
use Rattle.integers.specs.Sums.{plus, zeros}
use Rattle.finders.specs.Points.{within}
use Rattle.finders.specs.Sizes.{in_range}

-- each number tested, from the first on
within_all : (limit : ℕ) (zs : List ℤ) → ((k : ℕ) → k < length zs → nat_abs (get_or zs k (pos 0)) ≤ limit) → within limit zs ≡ true
within_all limit [] h = refl
within_all limit (z ∷ zs) h = rw (le-leb (nat_abs z) limit (h 0 (omega arith)), within_all limit zs (λ k l. h (suc k) (omega arith))) refl

within_over : (limit : ℕ) (zs : List ℤ) (k : ℕ) → k < length zs → limit < nat_abs (get_or zs k (pos 0)) → within limit zs ≡ false
within_over limit [] k h o = absurd (omega arith)
within_over limit (z ∷ zs) zero h o = rw (lt-leb (nat_abs z) limit o) refl
within_over limit (z ∷ zs) (suc k) h o = rw (within_over limit zs k (omega arith) o) (and-false (leb (nat_abs z) limit))

pub tells_within : (limit : ℕ) (zs : List ℤ) (r : Bool) → MatchBool r (AllWithin (λ z. nat_abs z ≤ limit) zs 0 (length zs)) ((k : ℕ) × (k < length zs) × HoldsAt (λ z. limit < nat_abs z) zs k) → r ≡ within limit zs
tells_within limit zs true h = sym (within_all limit zs (λ k l. h k (pos 0) (omega arith) l))
tells_within limit zs false h = sym (within_over limit zs h.0 h.1 (h.2 (pos 0)))

pub within_at : (limit : ℕ) (zs : List ℤ) (i : ℕ) → within limit zs ≡ true → i < length zs → nat_abs (get_or zs i (pos 0)) ≤ limit
within_at limit [] i h k = absurd (omega arith)
within_at limit (z ∷ zs) zero h k = leb-true (nat_abs z) limit (and_parts (leb (nat_abs z) limit) (within limit zs) h).0
within_at limit (z ∷ zs) (suc i) h k = within_at limit zs i (and_parts (leb (nat_abs z) limit) (within limit zs) h).1 (omega arith)

pub within_wider : (k l : ℕ) (zs : List ℤ) → k ≤ l → within k zs ≡ true → within l zs ≡ true
within_wider k l [] h t = refl
within_wider k l (z ∷ zs) h t = let p = and_parts (leb (nat_abs z) k) (within k zs) t in rw (le-leb (nat_abs z) l (omega (arith, leb-true (nat_abs z) k p.0)), within_wider k l zs h p.1)

pub within_take : (limit n : ℕ) (zs : List ℤ) → within limit zs ≡ true → within limit (take n zs) ≡ true
within_take limit zero zs h = refl
within_take limit (suc n) [] h = refl
within_take limit (suc n) (z ∷ zs) h = let p = and_parts (leb (nat_abs z) limit) (within limit zs) h in rw (p.0, within_take limit n zs p.1)

pub within_drop : (limit n : ℕ) (zs : List ℤ) → within limit zs ≡ true → within limit (drop n zs) ≡ true
within_drop limit zero zs h = h
within_drop limit (suc n) [] h = refl
within_drop limit (suc n) (z ∷ zs) h = within_drop limit n zs (and_parts (leb (nat_abs z) limit) (within limit zs) h).1

-- parts that are within the smaller of two limits are within each
pub within_front : (k l n : ℕ) (zs : List ℤ) → within (min k l) zs ≡ true → within k (take n zs) ≡ true
within_front k l n zs h = within_wider (min k l) k (take n zs) (omega arith) (within_take (min k l) n zs h)

pub within_back : (k l n : ℕ) (zs : List ℤ) → within (min k l) zs ≡ true → within l (drop n zs) ≡ true
within_back k l n zs h = within_wider (min k l) l (drop n zs) (omega arith) (within_drop (min k l) n zs h)

pub within_append : (limit : ℕ) (xs ys : List ℤ) → within limit xs ≡ true → within limit ys ≡ true → within limit (xs ++ ys) ≡ true
within_append limit [] ys h k = k
within_append limit (x ∷ xs) ys h k = let p = and_parts (leb (nat_abs x) limit) (within limit xs) h in rw (p.0, within_append limit xs ys p.1 k)

pub within_zeros : (limit n : ℕ) → within limit (zeros n) ≡ true
within_zeros limit zero = refl
within_zeros limit (suc n) = rw (le-leb 0 limit zero-le, within_zeros limit n) refl

pub within_plus : (k l : ℕ) (xs ys : List ℤ) → within k xs ≡ true → within l ys ≡ true → within (k + l) (plus xs ys) ≡ true
within_plus k l [] ys h g = refl
within_plus k l (x ∷ xs) [] h g = refl
within_plus k l (x ∷ xs) (y ∷ ys) h g =
    let p = and_parts (leb (nat_abs x) k) (within k xs) h in
    let q = and_parts (leb (nat_abs y) l) (within l ys) g in
    rw (le-leb (nat_abs (x +ℤ y)) (k + l) (omega (arith, ints, leb-true (nat_abs x) k p.0, leb-true (nat_abs y) l q.0)), within_plus k l xs ys p.1 q.1) refl

-- a number of cells that is in range
pub range : (n : ℕ) → in_range n ≡ true → (1 ≤ n) × (n ≤ 32)
range n e = let p = and_parts (leb 1 n) (leb n 32) e in (leb-true 1 n p.0, leb-true n 32 p.1)
