-- One stage of the transform, in place: the loop over the cells of a half.
use Rattle.std.proofs.Common.{◌≡◌, ℕ, ◌+◌, ◌<◌, ◌≤◌, ◌≢◌, true, List, length, get_or, set, ℤ, pos, nat_abs, sym, ◌∙◌, arith, le_refl, below_more, get_or-set_other, get_or-set_same}
use Rattle.std.proofs.lemmas.List.{ext_get_or}
use Rattle.integers.specs.Sums.{zip_with}
use Rattle.integers.proofs.Sums.{length_zip_with, get_or_zip_with}
use Rattle.finders.specs.Points.{within}
use Rattle.finders.proofs.Within.{within_at}

-- in vs, the first i cells are those of xs and ys made one by f, and the others are as in zs
pub record Partly (f : ℤ → ℤ → ℤ) (xs ys : List ℤ) (i : ℕ) (zs vs : List ℤ) : Type 0 where
  pub made : (k : ℕ) → k < i → get_or vs k (pos 0) ≡ f (get_or xs k (pos 0)) (get_or ys k (pos 0))
  pub kept : (k : ℕ) → i ≤ k → get_or vs k (pos 0) ≡ get_or zs k (pos 0)

module _ {f : ℤ → ℤ → ℤ} {xs ys : List ℤ} {i : ℕ} {zs vs : List ℤ} (p : Partly f xs ys i zs vs) where
  -- what is read next is as it was, and within the limit of that
  pub partly_at : (limit : ℕ) → within limit zs ≡ true → i < length zs → (get_or vs i (pos 0) ≡ get_or zs i (pos 0)) × (nat_abs (get_or vs i (pos 0)) ≤ limit)
  partly_at limit small here = let e = p.kept i (le_refl i) in (e, rw e (within_at limit zs i small here))

  pub partly_more : (v : ℤ) → i < length vs → v ≡ f (get_or xs i (pos 0)) (get_or ys i (pos 0)) → Partly f xs ys (i + 1) zs (set vs i v)
  partly_more v here e = record {
    made = below_more _ _ (λ k h. let ne : k ≢ i = omega arith in rw get_or-set_other (p.made k h)) (rw get_or-set_same e);
    kept = λ k h. let ne : k ≢ i = omega arith in rw get_or-set_other (p.kept k (omega arith));
  }

  pub partly_all : length xs ≡ length ys → length vs ≡ length xs → length xs ≤ i → vs ≡ zip_with f xs ys
  partly_all e n all =
      ext_get_or (pos 0) vs (zip_with f xs ys) (n ∙ sym (length_zip_with f xs ys e))
      (λ k h. p.made k (omega arith) ∙ sym (get_or_zip_with f xs ys k (pos 0) (pos 0) (pos 0) (omega arith) (omega arith)))
