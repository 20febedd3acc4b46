use Rattle.std.proofs.Common.{◌≡◌, ℕ, ◌<◌, List, length, get_or, set, ℤ, pos, negsuc, ◌+ℤ◌, ◌-ℤ◌, ◌*ℤ◌, refl, ap, ◌∙◌, arith}
use Rattle.integers.specs.Ring.{k, ◌⊕◌, ◌⊖◌, ◌⊗◌}
use Rattle.integers.specs.Nearest.{nearest}
use Rattle.integers.specs.Sums.{sumℤ, zip_with}
use Rattle.integers.proofs.Ring.{ring3}
use Rattle.integers.proofs.Sums.{sumℤ-zip-≡, sumℤ-zip-+, sumℤ-zip--, sumℤ-zip-*, sumℤ-set, sum-laws, zip_with_set_right, get_or_zip_with, length_zip_with}

abbrev sq : ℤ → ℤ
sq z = z *ℤ z

-- Σ (r - q x)² = Σ r² - 2 q Σ r x + q² Σ x²
expansion : (q : ℤ) (rs xs : List ℤ) → sumℤ (zip_with (λ r x. sq (r -ℤ q *ℤ x)) rs xs) ≡ sumℤ (zip_with (λ r x. r *ℤ r) rs xs) -ℤ pos 2 *ℤ q *ℤ sumℤ (zip_with (λ r x. r *ℤ x) rs xs) +ℤ q *ℤ q *ℤ sumℤ (zip_with (λ r x. x *ℤ x) rs xs)
expansion q rs xs =
    sumℤ-zip-≡ (λ r x. sq (r -ℤ q *ℤ x)) (λ r x. r *ℤ r -ℤ pos 2 *ℤ q *ℤ (r *ℤ x) +ℤ q *ℤ q *ℤ (x *ℤ x)) rs xs
    (λ r x. ring3 r q x (λ r q x. (r ⊖ q ⊗ x) ⊗ (r ⊖ q ⊗ x)) (λ r q x. r ⊗ r ⊖ k (pos 2) ⊗ q ⊗ (r ⊗ x) ⊕ q ⊗ q ⊗ (x ⊗ x)) tt)
    ∙ sumℤ-zip-+ (λ r x. r *ℤ r -ℤ pos 2 *ℤ q *ℤ (r *ℤ x)) (λ r x. q *ℤ q *ℤ (x *ℤ x)) rs xs
    ∙ ap (λ (t : ℤ). t +ℤ sumℤ (zip_with (λ r x. q *ℤ q *ℤ (x *ℤ x)) rs xs)) (sumℤ-zip-- (λ r x. r *ℤ r) (λ r x. pos 2 *ℤ q *ℤ (r *ℤ x)) rs xs)
    ∙ ap (λ (t : ℤ). sumℤ (zip_with (λ r x. r *ℤ r) rs xs) -ℤ t +ℤ sumℤ (zip_with (λ r x. q *ℤ q *ℤ (x *ℤ x)) rs xs)) (sumℤ-zip-* (pos 2 *ℤ q) (λ r x. r *ℤ x) rs xs)
    ∙ ap (λ (t : ℤ). sumℤ (zip_with (λ r x. r *ℤ r) rs xs) -ℤ pos 2 *ℤ q *ℤ sumℤ (zip_with (λ r x. r *ℤ x) rs xs) +ℤ t) (sumℤ-zip-* (q *ℤ q) (λ r x. x *ℤ x) rs xs)

-- the same, by `simp`
expansion' : (q : ℤ) (rs xs : List ℤ) → sumℤ (zip_with (λ r x. r *ℤ r -ℤ pos 2 *ℤ q *ℤ (r *ℤ x) +ℤ q *ℤ q *ℤ (x *ℤ x)) rs xs) ≡ sumℤ (zip_with (λ r x. r *ℤ r) rs xs) -ℤ pos 2 *ℤ q *ℤ sumℤ (zip_with (λ r x. r *ℤ x) rs xs) +ℤ q *ℤ q *ℤ sumℤ (zip_with (λ r x. x *ℤ x) rs xs)
expansion' q rs xs = simp sum-laws

-- one coordinate is changed
step : (q : ℤ) (rs xs : List ℤ) (i : ℕ) (y : ℤ) → length rs ≡ length xs → i < length xs →
    sumℤ (zip_with (λ r x. sq (r -ℤ q *ℤ x)) rs (set xs i y)) ≡ sumℤ (zip_with (λ r x. sq (r -ℤ q *ℤ x)) rs xs) +ℤ (sq (get_or rs i (pos 0) -ℤ q *ℤ y) -ℤ sq (get_or rs i (pos 0) -ℤ q *ℤ get_or xs i (pos 0)))
step q rs xs i y e h =
    let f : ℤ → ℤ → ℤ = λ r x. sq (r -ℤ q *ℤ x) in
    let l : i < length rs = omega arith in
    ap sumℤ (zip_with_set_right f rs xs i y (pos 0) l)
    ∙ sumℤ-set (zip_with f rs xs) i (f (get_or rs i (pos 0)) y) (pos 0) (omega (arith, length_zip_with f rs xs e))
    ∙ ap (λ (t : ℤ). sumℤ (zip_with f rs xs) +ℤ (f (get_or rs i (pos 0)) y -ℤ t)) (get_or_zip_with f rs xs i (pos 0) (pos 0) (pos 0) l h)

-- it computes: 7 / 2 is 3 (a tie, towards zero), -7 / 2 is -3, 8 / 3 is 3
seven : nearest 2 (pos 7) ≡ pos 3
seven = refl

minus_seven : nearest 2 (negsuc 6) ≡ negsuc 2
minus_seven = refl

eight : nearest 3 (pos 8) ≡ pos 3
eight = refl
