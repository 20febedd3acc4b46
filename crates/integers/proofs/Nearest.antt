-- `nearest q r` is the whole number nearest to r / q, and of two such numbers the one nearer to zero.
use Rattle.std.proofs.Common.{◌≡◌, ℕ, zero, suc, ◌+◌, ◌-◌, ◌*◌, ◌<◌, ◌≤◌, ◌⊎◌, ℤ, pos, negsuc, ◌-ℤ◌, ◌*ℤ◌, neg_ℤ, nat_abs, ◌≤ℤ◌, ◌<ℤ◌, sym, refl, ap, ◌∙◌, inl, inr, mul-le-mul_right, mod-lt, mul-le-mul_left, arith, SFits}
use mir.Syntax.{Width}
use native.Mathlib.Nat.{div-add-mod, le_of_mul-le-mul_left}
use lib.IntN.{ℤ_discrete, +ℤ_invr}
use borrow.Author.Differences.{ints}
use Rattle.integers.specs.Nearest.{nearestℕ, nearest, residue, Side, IsNearest}
use Rattle.integers.specs.Ring.{◌⊖◌, ◌⊗◌}
use Rattle.integers.proofs.Laws.{*ℤ-neg}
use Rattle.integers.proofs.Order.{nat_abs-*ℤ, nat_abs_apart, nat_abs_neg, ≤ℤ-or-<, nat_abs--ℤ-le}
use Rattle.integers.proofs.Ring.{ring4}

-- -q < 2 (a - q n) ≤ q
pub nearestℕ-bounds : (q a : ℕ) → 1 ≤ q → (2 * a ≤ 2 * (q * nearestℕ q a) + q) × (2 * (q * nearestℕ q a) < 2 * a + q)
nearestℕ-bounds q a h = omega (arith, div-add-mod (2 * a + q - 1) (2 * q), mod-lt (2 * a + q - 1) {m = 2 * q} (omega arith))

is_pos : (a n q : ℕ) → (2 * a ≤ 2 * (q * n) + q) × (2 * (q * n) < 2 * a + q) → IsNearest q (pos a) (pos n)
is_pos a n q b = record { near = omega (arith, ints); tie = λ e. (λ k. omega (arith, ints), λ k. omega (arith, ints)) }

is_neg : (a n q : ℕ) → (2 * suc a ≤ 2 * (q * n) + q) × (2 * (q * n) < 2 * suc a + q) → IsNearest q (negsuc a) (neg_ℤ (pos n))
is_neg a n q b =
    let e : pos q *ℤ neg_ℤ (pos n) ≡ neg_ℤ (pos (q * n)) = *ℤ-neg (pos q) (pos n) in
    record { near = rw e (omega (arith, ints)); tie = rw e (λ t. (λ k. omega (arith, ints), λ k. omega (arith, ints))) }

pub nearest_is : (q : ℕ) (r : ℤ) → 1 ≤ q → IsNearest q r (nearest q r)
nearest_is q (pos a) h = is_pos a (nearestℕ q a) q (nearestℕ-bounds q a h)
nearest_is q (negsuc a) h = is_neg a (nearestℕ q (suc a)) q (nearestℕ-bounds q (suc a) h)

-- two whole numbers, and what each leaves of r
pub residues_apart : (q : ℕ) (r x y : ℤ) → q * nat_abs (x -ℤ y) ≡ nat_abs (residue q r y -ℤ residue q r x)
residues_apart q r x y =
    sym (nat_abs-*ℤ (pos q) (x -ℤ y)) ∙ ap nat_abs (ring4 r (pos q) x y (λ r q x y. q ⊗ (x ⊖ y)) (λ r q x y. (r ⊖ q ⊗ y) ⊖ (r ⊖ q ⊗ x)) tt)

pub residues_far : (q : ℕ) (r x y : ℤ) → ¬ (x ≡ y) → q ≤ nat_abs (residue q r x) + nat_abs (residue q r y)
residues_far q r x y n =
    let far : q ≤ q * nat_abs (x -ℤ y) = omega (arith, mul-le-mul_left q (nat_abs_apart x y n)) in
    omega (arith, residues_apart q r x y, nat_abs--ℤ-le (residue q r y) (residue q r x))

-- ---- what follows of a nearest number
module _ (q : ℕ) (r x : ℤ) (h : IsNearest q r x) where
  pub is_best : (y : ℤ) → nat_abs (residue q r x) ≤ nat_abs (residue q r y)
  is_best y = go (ℤ_discrete x y)
    where
      go : Dec (x ≡ y) → nat_abs (residue q r x) ≤ nat_abs (residue q r y)
      go (yes e) = rw e (omega arith)
      go (no n) = omega (arith, h.near, residues_far q r x y n)

  pub is_next : (y : ℤ) → ¬ (y ≡ x) → q - nat_abs (residue q r x) ≤ nat_abs (residue q r y)
  is_next y n = omega (arith, residues_far q r y x n)

clash : (r s t : ℤ) (q d : ℕ) → 1 ≤ q → q ≤ d → 2 * nat_abs s ≡ q → 2 * nat_abs t ≡ q → Side r s → Side r t → d ≡ nat_abs (t -ℤ s) → ⊥
clash r s t q d p f e g a b k = go (≤ℤ-or-< (pos 0) r)
  where
    go : (pos 0 ≤ℤ r) ⊎ (r <ℤ pos 0) → ⊥
    go (inl m) = let u : pos 0 ≤ℤ s = a.0 m in let w : pos 0 ≤ℤ t = b.0 m in omega (arith, ints)
    go (inr m) = let u : s ≤ℤ pos 0 = a.1 (omega (arith, ints)) in let w : t ≤ℤ pos 0 = b.1 (omega (arith, ints)) in omega (arith, ints)

pub is_unique : (q : ℕ) (r x y : ℤ) → 1 ≤ q → IsNearest q r x → IsNearest q r y → x ≡ y
is_unique q r x y p h k = go (ℤ_discrete x y)
  where
    go : Dec (x ≡ y) → x ≡ y
    go (yes e) = e
    go (no n) =
        let f : q ≤ nat_abs (residue q r x) + nat_abs (residue q r y) = residues_far q r x y n in
        let a : 2 * nat_abs (residue q r x) ≡ q = omega (arith, h.near, k.near) in
        let b : 2 * nat_abs (residue q r y) ≡ q = omega (arith, h.near, k.near) in
        absurd (clash r (residue q r x) (residue q r y) q (q * nat_abs (x -ℤ y)) p (omega (arith, mul-le-mul_left q (nat_abs_apart x y n))) a b (h.tie a) (k.tie b) (residues_apart q r x y))

-- ---- of `nearest` itself
pub nearest_near : (q : ℕ) (r : ℤ) → 1 ≤ q → 2 * nat_abs (residue q r (nearest q r)) ≤ q
nearest_near q r p = (nearest_is q r p).near

pub nearest_tie : (q : ℕ) (r : ℤ) → 1 ≤ q → 2 * nat_abs (residue q r (nearest q r)) ≡ q → Side r (residue q r (nearest q r))
nearest_tie q r p = (nearest_is q r p).tie

pub nearest_unique : (q : ℕ) (r x : ℤ) → 1 ≤ q → IsNearest q r x → x ≡ nearest q r
nearest_unique q r x p h = is_unique q r x (nearest q r) p h (nearest_is q r p)

pub nearest_best : (q : ℕ) (r y : ℤ) → 1 ≤ q → nat_abs (residue q r (nearest q r)) ≤ nat_abs (residue q r y)
nearest_best q r y p = is_best q r (nearest q r) (nearest_is q r p) y

pub nearest_next : (q : ℕ) (r y : ℤ) → 1 ≤ q → ¬ (y ≡ nearest q r) → q - nat_abs (residue q r (nearest q r)) ≤ nat_abs (residue q r y)
nearest_next q r y p n = is_next q r (nearest q r) (nearest_is q r p) y n

pub nat_abs_nearest : (q : ℕ) (r : ℤ) → nat_abs (nearest q r) ≡ nearestℕ q (nat_abs r)
nat_abs_nearest q (pos a) = refl
nat_abs_nearest q (negsuc a) = nat_abs_neg (pos (nearestℕ q (suc a)))

small_steps : (a q n : ℕ) → 1 ≤ q → 2 * (q * n) < 2 * a + q → n ≤ a
small_steps a q zero h k = omega arith
small_steps a q (suc n) h k = omega (arith, mul-le-mul_right (2 * n + 1) h)

nearestℕ-small : (q a : ℕ) → 1 ≤ q → nearestℕ q a ≤ a
nearestℕ-small q a h = small_steps a q (nearestℕ q a) h (nearestℕ-bounds q a h).1

-- it is no larger than the reading, so it fits where the reading does
pub nearest_small : (q : ℕ) (r : ℤ) → 1 ≤ q → nat_abs (nearest q r) ≤ nat_abs r
nearest_small q r h = omega (arith, nat_abs_nearest q r, nearestℕ-small q (nat_abs r) h)

pub nearest_fits : (w : Width) (q : ℕ) (r : ℤ) → 1 ≤ q → SFits w r → SFits w (nearest q r)
nearest_fits w q (pos a) h f = omega (arith, ints, nearestℕ-small q a h)
nearest_fits w q (negsuc a) h f = omega (arith, ints, nearestℕ-small q (suc a) h)

-- a multiple of q
pub nearest_exact : (q : ℕ) (x : ℤ) → 1 ≤ q → nearest q (pos q *ℤ x) ≡ x
nearest_exact q x p = sym (nearest_unique q (pos q *ℤ x) x p (record { near = rw e (omega arith); tie = λ t. absurd (none t) }))
  where
    e : pos q *ℤ x -ℤ pos q *ℤ x ≡ pos 0
    e = +ℤ_invr (pos q *ℤ x)

    none : 2 * nat_abs (pos q *ℤ x -ℤ pos q *ℤ x) ≡ q → ⊥
    none t = omega (arith, ap nat_abs e)

-- of all that come as near, it is the least in size
pub is_least : (q : ℕ) (r x y : ℤ) → 1 ≤ q → IsNearest q r x → nat_abs (residue q r y) ≤ nat_abs (residue q r x) → nat_abs x ≤ nat_abs y
is_least q r x y p h k = go (ℤ_discrete x y)
  where
    sized : (s t : ℤ) → (a b : ℤ) → s ≡ r -ℤ a → t ≡ r -ℤ b → 1 ≤ nat_abs (t -ℤ s) → nat_abs t ≡ nat_abs s → Side r s → (pos 0 ≤ℤ r) ⊎ (r <ℤ pos 0) → nat_abs a ≤ nat_abs b
    sized s t a b e f d l c (inl m) = let u : pos 0 ≤ℤ s = c.0 m in omega (arith, ints)
    sized s t a b e f d l c (inr m) = let u : s ≤ℤ pos 0 = c.1 (omega (arith, ints)) in omega (arith, ints)

    go : Dec (x ≡ y) → nat_abs x ≤ nat_abs y
    go (yes e) = rw e (omega arith)
    go (no n) =
        let f : q ≤ nat_abs (residue q r x) + nat_abs (residue q r y) = residues_far q r x y n in
        let a : 2 * nat_abs (residue q r x) ≡ q = omega (arith, h.near) in
        let d : q ≤ q * nat_abs (x -ℤ y) = omega (arith, mul-le-mul_left q (nat_abs_apart x y n)) in
        let w : nat_abs (pos q *ℤ x) ≤ nat_abs (pos q *ℤ y) = sized (residue q r x) (residue q r y) (pos q *ℤ x) (pos q *ℤ y) refl refl (omega (arith, residues_apart q r x y)) (omega arith) (h.tie a) (≤ℤ-or-< (pos 0) r) in
        le_of_mul-le-mul_left {k = q} (omega (arith, nat_abs-*ℤ (pos q) x, nat_abs-*ℤ (pos q) y)) p
