-- The nearest even number leaves no more than the step, and the nearest odd one the rest of the step: of their parity no number leaves less,
-- and none that leaves as little is smaller in size.
use Rattle.std.specs.Prelude.{◌≡◌, ℕ, zero, suc, ◌+◌, ◌*◌, ◌/◌, ◌%◌, ◌<◌, ◌≤◌, ℤ, pos, negsuc, ◌-ℤ◌, ◌*ℤ◌, neg_ℤ, unsigned_abs}
use Rattle.std.proofs.Common.{sym, refl, ap, ◌∙◌, arith, mul-le-mul_left, mul-le-mul_right, mul-zero}
use Rattle.std.proofs.lemmas.Int.{ints}
use Rattle.integers.specs.Nearest.{nearest, residue}
use Rattle.integers.specs.Ring.{k, ◌⊖◌, ◌⊗◌}
use Rattle.integers.proofs.Nearest.{nearest_is, nearest_small, nearest_near, nearest_best, is_least, residues_apart, residues_far}
use Rattle.integers.proofs.Order.{nat_abs-*ℤ, nat_abs--ℤ-le, nat_abs_zero}
use Rattle.integers.proofs.Ring.{ring3}
use Rattle.finders.proofs.RoundingLaws.{residue_up, residue_down}
use Rattle.lattice_layers.specs.ConstructionA.{nearest_even, odd_beside, nearest_odd}

-- ---- the even number

-- what it leaves is what its half leaves at twice the step
pub doubled : (q : ℕ) (r n : ℤ) → residue q r (pos 2 *ℤ n) ≡ residue (2 * q) r n
doubled q r n = ring3 r (pos q) n (λ r q n. r ⊖ q ⊗ (k (pos 2) ⊗ n)) (λ r q n. r ⊖ (k (pos 2) ⊗ q) ⊗ n) tt

-- twice a number, by its size
size_doubled : (n : ℤ) → unsigned_abs (pos 2 *ℤ n) ≡ 2 * unsigned_abs n
size_doubled n = omega (arith, ints)

pub is_even : (q : ℕ) (r : ℤ) → unsigned_abs (nearest_even q r) % 2 ≡ 0
is_even q r = omega (arith, size_doubled (nearest (2 * q) r))

-- an even number is twice another
halved : (y : ℤ) → unsigned_abs y % 2 ≡ 0 → (n : ℤ) × (y ≡ pos 2 *ℤ n)
halved (pos a) e = (pos (a / 2), omega (arith, ints))
halved (negsuc a) e = (neg_ℤ (pos (suc a / 2)), omega (arith, ints))

pub even_left : (q : ℕ) (r : ℤ) → 1 ≤ q → unsigned_abs (residue q r (nearest_even q r)) ≤ q
even_left q r h = rw (doubled q r (nearest (2 * q) r)) (omega (arith, nearest_near (2 * q) r (omega arith)))

pub even_best : (q : ℕ) (r y : ℤ) → 1 ≤ q → unsigned_abs y % 2 ≡ 0 → unsigned_abs (residue q r (nearest_even q r)) ≤ unsigned_abs (residue q r y)
even_best q r y h e =
    let p = halved y e in
    rw (p.1, doubled q r (nearest (2 * q) r), doubled q r p.0) (nearest_best (2 * q) r p.0 (omega arith))

pub even_least : (q : ℕ) (r y : ℤ) → 1 ≤ q → unsigned_abs y % 2 ≡ 0 → unsigned_abs (residue q r y) ≤ unsigned_abs (residue q r (nearest_even q r)) → unsigned_abs (nearest_even q r) ≤ unsigned_abs y
even_least q r y h e c =
    let p = halved y e in
    let n = nearest (2 * q) r in
    let least = is_least (2 * q) r n p.0 (omega arith) (nearest_is (2 * q) r (omega arith)) (rw (p.1, doubled q r n, doubled q r p.0) at c) in
    rw p.1 (omega (arith, least, size_doubled n, size_doubled p.0))

-- a number that leaves no more than a step passes the reading by one at most
passes_little : (q n a : ℕ) → 1 ≤ q → q * n ≤ a + q → n ≤ a + 1
passes_little q zero a h l = omega arith
passes_little q (suc n) a h l = omega (arith, mul-le-mul_right n h)

sized : (q : ℕ) (r x : ℤ) → q * unsigned_abs x ≤ unsigned_abs r + unsigned_abs (residue q r x)
sized q r x = omega (arith, ints, nat_abs-*ℤ (pos q) x)

-- it is hardly larger than the reading
pub even_small : (q : ℕ) (r : ℤ) → 1 ≤ q → unsigned_abs (nearest_even q r) ≤ unsigned_abs r + 1
even_small q r h = passes_little q (unsigned_abs (nearest_even q r)) (unsigned_abs r) h (omega (arith, even_left q r h, sized q r (nearest_even q r)))

-- ---- the odd number beside it

pub beside_odd : (s x : ℤ) → unsigned_abs x % 2 ≡ 0 → unsigned_abs (odd_beside s x) % 2 ≡ 1
beside_odd (pos (suc n)) x e = omega (arith, ints)
beside_odd (negsuc n) x e = omega (arith, ints)
beside_odd (pos zero) (pos zero) e = refl
beside_odd (pos zero) (pos (suc a)) e = omega (arith, ints)
beside_odd (pos zero) (negsuc a) e = omega (arith, ints)

pub is_odd : (q : ℕ) (r : ℤ) → unsigned_abs (nearest_odd q r) % 2 ≡ 1
is_odd q r = beside_odd (residue q r (nearest_even q r)) (nearest_even q r) (is_even q r)

beside_left : (q : ℕ) (r x s : ℤ) → s ≡ residue q r x → unsigned_abs s ≤ q → unsigned_abs (residue q r (odd_beside s x)) + unsigned_abs s ≡ q
beside_left q r x (pos (suc n)) e h = rw (residue_up q r x, sym e) (omega (arith, ints))
beside_left q r x (negsuc n) e h = rw (residue_down q r x, sym e) (omega (arith, ints))
beside_left q r (pos zero) (pos zero) e h = rw (residue_up q r (pos zero), sym e) (omega (arith, ints))
beside_left q r (pos (suc a)) (pos zero) e h = rw (residue_down q r (pos (suc a)), sym e) (omega (arith, ints))
beside_left q r (negsuc a) (pos zero) e h = rw (residue_up q r (negsuc a), sym e) (omega (arith, ints))

-- the two leave the step between them
pub odd_left : (q : ℕ) (r : ℤ) → 1 ≤ q → unsigned_abs (residue q r (nearest_odd q r)) + unsigned_abs (residue q r (nearest_even q r)) ≡ q
odd_left q r h = beside_left q r (nearest_even q r) (residue q r (nearest_even q r)) refl (even_left q r h)

-- of different parity
differs : (x y : ℤ) → unsigned_abs x % 2 ≡ 0 → unsigned_abs y % 2 ≡ 1 → ¬ (x ≡ y)
differs x y e o i = omega (arith, ap unsigned_abs i)

pub odd_best : (q : ℕ) (r y : ℤ) → 1 ≤ q → unsigned_abs y % 2 ≡ 1 → unsigned_abs (residue q r (nearest_odd q r)) ≤ unsigned_abs (residue q r y)
odd_best q r y h o = omega (arith, odd_left q r h, residues_far q r (nearest_even q r) y (differs (nearest_even q r) y (is_even q r) o))

-- how many steps apart two numbers are, by what they leave
steps : (q d n : ℕ) → 1 ≤ q → q * d ≤ n → n < 2 * q → d ≤ 1
steps q zero n h l m = omega arith
steps q (suc zero) n h l m = omega arith
steps q (suc (suc d)) n h l m = let two : 2 ≤ suc (suc d) = omega arith in absurd (omega (arith, mul-le-mul_left q two))

near_by : (q : ℕ) (r x y : ℤ) → 1 ≤ q → unsigned_abs (residue q r x) + unsigned_abs (residue q r y) < 2 * q → unsigned_abs (x -ℤ y) ≤ 1
near_by q r x y h l = steps q (unsigned_abs (x -ℤ y)) (unsigned_abs (residue q r x) + unsigned_abs (residue q r y)) h (omega (arith, residues_apart q r x y, nat_abs--ℤ-le (residue q r y) (residue q r x))) l

same_odd : (x y : ℤ) → unsigned_abs x % 2 ≡ 1 → unsigned_abs y % 2 ≡ 1 → unsigned_abs (x -ℤ y) ≤ 1 → unsigned_abs x ≤ unsigned_abs y
same_odd x y e o n = omega (arith, ints)

-- of the odd numbers that leave as little, none is smaller: where the even number x leaves something, there is no other, and where x leaves
-- nothing, there is one on either side of x
beside_least : (q : ℕ) (r x s y : ℤ) → 1 ≤ q → s ≡ residue q r x → unsigned_abs s ≤ q → unsigned_abs x % 2 ≡ 0 → unsigned_abs y % 2 ≡ 1 →
    unsigned_abs (residue q r y) ≤ unsigned_abs (residue q r (odd_beside s x)) → unsigned_abs (odd_beside s x) ≤ unsigned_abs y
beside_least q r x (pos (suc n)) y h i l e o c =
    let z = odd_beside (pos (suc n)) x in
    same_odd z y (beside_odd (pos (suc n)) x e) o (near_by q r z y h (omega (arith, beside_left q r x (pos (suc n)) i l)))
beside_least q r x (negsuc n) y h i l e o c =
    let z = odd_beside (negsuc n) x in
    same_odd z y (beside_odd (negsuc n) x e) o (near_by q r z y h (omega (arith, beside_left q r x (negsuc n) i l)))
beside_least q r x (pos zero) y h i l e o c = next_to x y o (near_by q r x y h (omega (arith, ap unsigned_abs i, beside_left q r x (pos zero) i l)))
  where
    next_to : (x y : ℤ) → unsigned_abs y % 2 ≡ 1 → unsigned_abs (x -ℤ y) ≤ 1 → unsigned_abs (odd_beside (pos zero) x) ≤ unsigned_abs y
    next_to (pos zero) y o n = omega arith
    next_to (pos (suc a)) y o n = omega (arith, ints)
    next_to (negsuc a) y o n = omega (arith, ints)

pub odd_least : (q : ℕ) (r y : ℤ) → 1 ≤ q → unsigned_abs y % 2 ≡ 1 → unsigned_abs (residue q r y) ≤ unsigned_abs (residue q r (nearest_odd q r)) → unsigned_abs (nearest_odd q r) ≤ unsigned_abs y
odd_least q r y h o c = beside_least q r (nearest_even q r) (residue q r (nearest_even q r)) y h refl (even_left q r h) (is_even q r) o c

pub odd_of_zero : (q : ℕ) → 1 ≤ q → nearest_odd q (pos 0) ≡ pos 1
odd_of_zero q h = ap (λ (x : ℤ). odd_beside (residue q (pos 0) x) x) even ∙ rw (mul-zero q) refl
  where
    even : nearest_even q (pos 0) ≡ pos 0
    even = nat_abs_zero (nearest_even q (pos 0)) (omega (arith, size_doubled (nearest (2 * q) (pos 0)), nearest_small (2 * q) (pos 0) (omega arith)))
