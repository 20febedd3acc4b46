-- A loop that writes f of each two numbers of two lists into a place, one after the other, or over the first list itself.
use Rattle.std.proofs.Common.{◌≡◌, ℕ, zero, suc, ◌+◌, ◌<◌, ◌≤◌, true, List, [], ◌∷◌, ◌++◌, length, get_or, take, drop, set, ℤ, pos, nat_abs, arith}
use Rattle.std.proofs.lemmas.Bool.{and_parts, leb-true}
use Rattle.std.proofs.lemmas.List.{append_assoc, drop-set-lt, drop_more, take_more_set}
use Rattle.integers.specs.Sums.{zip_with}
use Rattle.finders.specs.Points.{within}

module _ (f : ℤ → ℤ → ℤ) where
  -- what a place holds so far, and what is still to be written
  abbrev pub written : List ℤ → List ℤ → List ℤ → ℕ → List ℤ
  written place xs ys i = take i place ++ zip_with f (drop i xs) (drop i ys)

  pub written_more : (place xs ys : List ℤ) (i : ℕ) (z : ℤ) → i < length place → i < length xs → i < length ys → z ≡ f (get_or xs i (pos 0)) (get_or ys i (pos 0)) → written (set place i z) xs ys (i + 1) ≡ written place xs ys i
  written_more place xs ys i z h k l e =
      rw (take_more_set place i z h, e, drop_more xs i (pos 0) k, drop_more ys i (pos 0) l) (append_assoc (take i place) (f (get_or xs i (pos 0)) (get_or ys i (pos 0)) ∷ []) _)

  -- the same where the place held the first list
  pub written_over : (xs ys : List ℤ) (i : ℕ) (z : ℤ) → i < length xs → i < length ys → z ≡ f (get_or xs i (pos 0)) (get_or ys i (pos 0)) → written (set xs i z) (set xs i z) ys (i + 1) ≡ written xs xs ys i
  written_over xs ys i z h k e = rw (drop-set-lt (i + 1) xs i z (omega arith)) (written_more xs xs ys i z h h k e)

  pub written_within : (limit : ℕ) (place xs ys : List ℤ) (i : ℕ) → i < length place → i < length xs → i < length ys → within limit (written place xs ys i) ≡ true → nat_abs (f (get_or xs i (pos 0)) (get_or ys i (pos 0))) ≤ limit
  written_within limit [] xs ys i h k l w = absurd (omega arith)
  written_within limit place [] ys i h k l w = absurd (omega arith)
  written_within limit place xs [] i h k l w = absurd (omega arith)
  written_within limit (p ∷ place) (x ∷ xs) (y ∷ ys) zero h k l w = leb-true (nat_abs (f x y)) limit (and_parts _ _ w).0
  written_within limit (p ∷ place) (x ∷ xs) (y ∷ ys) (suc i) h k l w = written_within limit place xs ys i (omega arith) (omega arith) (omega arith) (and_parts _ _ w).1
