-- The correlations of all rows: twice the cells give the sums and the differences of the halves.
use Rattle.std.specs.Prelude.{◌≡◌, ℕ, zero, suc, ◌+◌, ◌^◌, ◌<◌, ◌≤◌, true, List, [], ◌∷◌, ◌++◌, map, length, ℤ, ◌+ℤ◌, ◌-ℤ◌, neg_ℤ, unsigned_abs, refl}
use Rattle.std.proofs.Common.{sym, ap, ap₂, ◌∙◌, arith, pow_mono}
use Rattle.std.proofs.Math.IntN.{+ℤ_idl, +ℤ_idr}
use Rattle.std.specs.List.{AllByRecursion, range_with_len}
use Rattle.std.proofs.lemmas.List.FromFn.{length-map-range_with_len}
use Rattle.std.proofs.lemmas.Int.{ints}
use Rattle.std.proofs.lemmas.Bool.{le-leb}
use Rattle.finders.specs.Points.{within}
use Rattle.finders.specs.Words.{correlation, signed}
use Rattle.finders.proofs.Correlation.{correlation_size}
use Rattle.codes.specs.Digits.{word, reversed}
use Rattle.integers.specs.Sums.{zip_with}
use Rattle.codes.specs.Butterflies.{crossed}
use Rattle.codes.specs.ReedMuller.{row, row_word, spectrum}
use Rattle.codes.specs.DigitLaws.{Digit, reversed_digit, correlation_cons}
use Rattle.codes.specs.RowLaws.{map_range_halves, row_digits, length_row, double, row_one_cell, row_low, row_high}

-- ---- correlations by digits

pub correlation_append : (ds es : List ℕ) (xs ys : List ℤ) → AllByRecursion Digit ds → length ds ≡ length xs → correlation (word (ds ++ es)) (xs ++ ys) ≡ correlation (word ds) xs +ℤ correlation (word es) ys
correlation_append [] es [] ys h e = sym (+ℤ_idl (correlation (word es) ys))
correlation_append [] es (x ∷ xs) ys h e = absurd (omega arith)
correlation_append (d ∷ ds) es [] ys h e = absurd (omega arith)
correlation_append (d ∷ ds) es (x ∷ xs) ys h e =
    rw (correlation_cons d (word (ds ++ es)) x (xs ++ ys) h.0, correlation_cons d (word ds) x xs h.0, correlation_append ds es xs ys h.1 (omega arith)) (omega (arith, ints))

signed_reversed : (d : ℕ) (g : ℤ) → Digit d → signed (reversed d) g ≡ neg_ℤ (signed d g)
signed_reversed zero g h = refl
signed_reversed (suc zero) g h = omega (arith, ints)
signed_reversed (suc (suc d)) g h = absurd (omega arith)

pub correlation_reversed : (ds : List ℕ) (gs : List ℤ) → AllByRecursion Digit ds → length ds ≡ length gs → correlation (word (map reversed ds)) gs ≡ neg_ℤ (correlation (word ds) gs)
correlation_reversed [] [] h e = refl
correlation_reversed [] (g ∷ gs) h e = absurd (omega arith)
correlation_reversed (d ∷ ds) [] h e = absurd (omega arith)
correlation_reversed (d ∷ ds) (g ∷ gs) h e =
    let a = h.0 in
    rw (correlation_cons (reversed d) (word (map reversed ds)) g gs (reversed_digit d), correlation_cons d (word ds) g gs a, signed_reversed d g a, correlation_reversed ds gs h.1 (omega arith)) (omega (arith, ints))

-- ---- the spectrum

pub length_spectrum : (m : ℕ) (gs : List ℤ) → length (spectrum m gs) ≡ 2 ^ m
length_spectrum m gs = length-map-range_with_len (λ a. correlation (row_word m a) gs) 0 (2 ^ m)

zip_with_map : (h : ℤ → ℤ → ℤ) (f g : ℕ → ℤ) (xs : List ℕ) → zip_with h (map f xs) (map g xs) ≡ map (λ a. h (f a) (g a)) xs
zip_with_map h f g [] = refl
zip_with_map h f g (x ∷ xs) = ap (λ (v : List ℤ). h (f x) (g x) ∷ v) (zip_with_map h f g xs)

pub spectrum_halves : (m : ℕ) (xs ys : List ℤ) → length xs ≡ 2 ^ m → length ys ≡ 2 ^ m →
    spectrum (suc m) (xs ++ ys) ≡ crossed (spectrum m xs) (spectrum m ys)
spectrum_halves m xs ys e f =
    ap (λ (n : ℕ). map (λ a. correlation (row_word (suc m) a) (xs ++ ys)) (range_with_len 0 n)) (double m)
    ∙ map_range_halves (λ a. correlation (row_word (suc m) a) (xs ++ ys)) (λ a. correlation (row_word m a) xs +ℤ correlation (row_word m a) ys) (λ a. correlation (row_word m a) xs -ℤ correlation (row_word m a) ys) (2 ^ m) low high
    ∙ sym (ap₂ ◌++◌ (zip_with_map (λ x y. x +ℤ y) (λ a. correlation (row_word m a) xs) (λ a. correlation (row_word m a) ys) (range_with_len 0 (2 ^ m))) (zip_with_map (λ x y. x -ℤ y) (λ a. correlation (row_word m a) xs) (λ a. correlation (row_word m a) ys) (range_with_len 0 (2 ^ m))))
  where
    wide : (a : ℕ) (zs : List ℤ) → length zs ≡ 2 ^ m → length (row m a) ≡ length zs
    wide a zs g = length_row m a ∙ sym g

    low : (a : ℕ) → a < 2 ^ m → correlation (row_word (suc m) a) (xs ++ ys) ≡ correlation (row_word m a) xs +ℤ correlation (row_word m a) ys
    low a h = ap (λ (v : List ℕ). correlation (word v) (xs ++ ys)) (row_low m a h) ∙ correlation_append (row m a) (row m a) xs ys (row_digits m a) (wide a xs e)

    high : (a : ℕ) → a < 2 ^ m → correlation (row_word (suc m) (2 ^ m + a)) (xs ++ ys) ≡ correlation (row_word m a) xs -ℤ correlation (row_word m a) ys
    high a h =
        ap (λ (v : List ℕ). correlation (word v) (xs ++ ys)) (row_high m a h)
        ∙ correlation_append (row m a) (map reversed (row m a)) xs ys (row_digits m a) (wide a xs e)
        ∙ ap (λ (z : ℤ). correlation (row_word m a) xs +ℤ z) (correlation_reversed (row m a) ys (row_digits m a) (wide a ys f))

-- one cell: the transform leaves it
pub spectrum_one : (gs : List ℤ) → length gs ≡ 1 → spectrum 0 gs ≡ gs
spectrum_one [] e = absurd (omega arith)
spectrum_one (g ∷ []) e = ap (λ (ds : List ℕ). correlation (word ds) (g ∷ []) ∷ []) row_one_cell ∙ ap (λ (z : ℤ). z ∷ []) (+ℤ_idr g)
spectrum_one (g ∷ h ∷ gs) e = absurd (omega arith)

pub spectrum_small : (m : ℕ) (gs : List ℤ) → m ≤ 5 → length gs ≡ 2 ^ m → within (2 ^ 30) gs ≡ true → within (2 ^ 35) (spectrum m gs) ≡ true
spectrum_small m gs k e t = all (range_with_len 0 (2 ^ m))
  where
    each : (a : ℕ) → unsigned_abs (correlation (row_word m a) gs) ≤ 2 ^ 35
    each a =
        let s = correlation_size (2 ^ 30) (row_word m a) gs t in
        let p : 2 ^ m ≤ 32 = pow_mono k in
        omega arith

    all : (xs : List ℕ) → within (2 ^ 35) (map (λ a. correlation (row_word m a) gs) xs) ≡ true
    all [] = refl
    all (a ∷ xs) = rw (le-leb (unsigned_abs (correlation (row_word m a) gs)) (2 ^ 35) (each a), all xs)
