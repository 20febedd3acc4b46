-- The rows of the Hadamard transform: a row of twice the cells is a row and the same again, or a row and the same reversed.
use Rattle.std.specs.Prelude.{◌≡◌, ℕ, zero, suc, ◌+◌, ◌-◌, ◌*◌, ◌^◌, ◌<◌, List, [], ◌∷◌, ◌++◌, map, length, bit_and, count_ones, slice_index, refl}
use Rattle.std.proofs.Common.{sym, ap, ap₂, ◌∙◌, mod-lt, arith}
use Rattle.std.proofs.Math.Nat.{pow-succ'}
use Rattle.std.proofs.lemmas.Nat.{and_block, ones_cat}
use Rattle.std.specs.Int.Bits.{and_lt}
use Rattle.std.specs.Int.Count.{ones-ones}
use Rattle.std.specs.List.{AllByRecursion, range_with_len}
use Rattle.std.proofs.lemmas.List.{length-map, map-append, get_or-map}
use Rattle.std.proofs.lemmas.List.FromFn.{length-map-range_with_len, get_or-map-range_with_len}
use Rattle.finders.specs.Words.{digit}
use Rattle.codes.specs.Digits.{word, reversed}
use Rattle.codes.specs.ReedMuller.{parity, row, row_word, complement}
use Rattle.codes.specs.DigitLaws.{Digit, reversed_digit, map_digits, word_digit}

-- ---- numbers in a row

pub range_split : (k p q : ℕ) → range_with_len k (p + q) ≡ range_with_len k p ++ range_with_len (k + p) q
range_split k zero q = let a : 0 + q ≡ q = omega arith in let b : k + 0 ≡ k = omega arith in rw (a, b)
range_split k (suc p) q =
    let a : suc p + q ≡ suc (p + q) = omega arith in
    let b : k + 1 + p ≡ k + suc p = omega arith in
    rw (a, range_split (k + 1) p q, b)

module _ {X : Type 0} where
  -- two functions that agree on the numbers
  pub map_range_alike : (f g : ℕ → X) (k n : ℕ) → ((i : ℕ) → i < k + n → f i ≡ g i) → map f (range_with_len k n) ≡ map g (range_with_len k n)
  map_range_alike f g k zero h = refl
  map_range_alike f g k (suc n) h = ap₂ (λ (x : X) (xs : List X). x ∷ xs) (h k (omega arith)) (map_range_alike f g (k + 1) n (λ i l. h i (omega arith)))

  map_range_shift : (f : ℕ → X) (p k n : ℕ) → map f (range_with_len (p + k) n) ≡ map (λ i. f (p + i)) (range_with_len k n)
  map_range_shift f p k zero = refl
  map_range_shift f p k (suc n) = let e : p + k + 1 ≡ p + (k + 1) = omega arith in rw (e, map_range_shift f p (k + 1) n)

  -- the first half, and the second as a function of the first
  pub map_range_halves : (f g h : ℕ → X) (p : ℕ) → ((i : ℕ) → i < p → f i ≡ g i) → ((i : ℕ) → i < p → f (p + i) ≡ h i) →
      map f (range_with_len 0 (p + p)) ≡ map g (range_with_len 0 p) ++ map h (range_with_len 0 p)
  map_range_halves f g h p a b =
      let z : 0 + p ≡ p + 0 = omega arith in
      ap (map f) (range_split 0 p p ∙ ap (λ (k : ℕ). range_with_len 0 p ++ range_with_len k p) z) ∙ map-append f (range_with_len 0 p) (range_with_len (p + 0) p)
      ∙ ap₂ ◌++◌ (map_range_alike f g 0 p (λ i l. a i (omega arith))) (map_range_shift f p 0 p ∙ map_range_alike (λ i. f (p + i)) h 0 p (λ i l. b i (omega arith)))

-- ---- the digits

parity_digit : (a i : ℕ) → Digit (parity a i)
parity_digit a i = mod-lt (count_ones (bit_and a i)) (omega arith)

pub row_digits : (m a : ℕ) → AllByRecursion Digit (row m a)
row_digits m a = map_digits (parity a) (parity_digit a) (range_with_len 0 (2 ^ m))

pub length_row : (m a : ℕ) → length (row m a) ≡ 2 ^ m
length_row m a = length-map-range_with_len (parity a) 0 (2 ^ m)

-- ---- all digits reversed

pub reversed_digits : (ds : List ℕ) → AllByRecursion Digit (map reversed ds)
reversed_digits ds = map_digits reversed reversed_digit ds

reversed_adds : (ds : List ℕ) → AllByRecursion Digit ds → word (map reversed ds) + word ds + 1 ≡ 2 ^ length ds
reversed_adds [] h = omega arith
reversed_adds (d ∷ ds) h = let a = h.0 in rw (pow-succ' 2 (length ds)) (omega (arith, reversed_adds ds h.1))

pub reversed_word : (ds : List ℕ) (n : ℕ) → AllByRecursion Digit ds → length ds ≡ n → word (map reversed ds) ≡ 2 ^ n - 1 - word ds
reversed_word ds n h e = rw (sym e) (omega (arith, reversed_adds ds h))

-- ---- twice the cells

-- t is the highest digit of a, and u that of i
parity_block : (m t u a i : ℕ) → a < 2 ^ m → i < 2 ^ m → count_ones (bit_and (t * 2 ^ m + a) (u * 2 ^ m + i)) ≡ count_ones (bit_and t u) + count_ones (bit_and a i)
parity_block m t u a i h k = rw (and_block m t u a i h k, ones_cat m (bit_and t u) (bit_and a i) (and_lt m a i h k))

nothing : count_ones 0 ≡ 0
nothing = ones-ones 0

pub row_one_cell : row 0 0 ≡ 0 ∷ []
row_one_cell = rw nothing

-- no digit in front, and a digit 1 in front
no_digit : (p a : ℕ) → 0 * p + a ≡ a
no_digit p a = omega arith

one_digit : (p a : ℕ) → 1 * p + a ≡ p + a
one_digit p a = omega arith

module _ (m a i : ℕ) (h : a < 2 ^ m) (k : i < 2 ^ m) where
  low_high : parity a (2 ^ m + i) ≡ parity a i
  low_high =
      let e : count_ones (bit_and a (2 ^ m + i)) ≡ 0 + count_ones (bit_and a i) = rw (no_digit (2 ^ m) a, one_digit (2 ^ m) i, nothing) at (parity_block m 0 1 a i h k) in
      omega arith

  high_low : parity (2 ^ m + a) i ≡ parity a i
  high_low =
      let e : count_ones (bit_and (2 ^ m + a) i) ≡ 0 + count_ones (bit_and a i) = rw (one_digit (2 ^ m) a, no_digit (2 ^ m) i, nothing) at (parity_block m 1 0 a i h k) in
      omega arith

  high_high : parity (2 ^ m + a) (2 ^ m + i) ≡ reversed (parity a i)
  high_high =
      let e : count_ones (bit_and (2 ^ m + a) (2 ^ m + i)) ≡ 1 + count_ones (bit_and a i) = rw (one_digit (2 ^ m) a, one_digit (2 ^ m) i, ones-ones 1) at (parity_block m 1 1 a i h k) in
      omega arith

pub double : (m : ℕ) → 2 ^ suc m ≡ 2 ^ m + 2 ^ m
double m = omega (arith, pow-succ' 2 m)

pub row_low : (m a : ℕ) → a < 2 ^ m → row (suc m) a ≡ row m a ++ row m a
row_low m a h = ap (λ (n : ℕ). map (parity a) (range_with_len 0 n)) (double m) ∙ map_range_halves (parity a) (parity a) (parity a) (2 ^ m) (λ i k. refl) (λ i k. low_high m a i h k)

map_map : (f g : ℕ → ℕ) (xs : List ℕ) → map (λ i. f (g i)) xs ≡ map f (map g xs)
map_map f g [] = refl
map_map f g (x ∷ xs) = ap (λ (v : List ℕ). f (g x) ∷ v) (map_map f g xs)

pub row_high : (m a : ℕ) → a < 2 ^ m → row (suc m) (2 ^ m + a) ≡ row m a ++ map reversed (row m a)
row_high m a h =
    ap (λ (n : ℕ). map (parity (2 ^ m + a)) (range_with_len 0 n)) (double m)
    ∙ map_range_halves (parity (2 ^ m + a)) (parity a) (λ i. reversed (parity a i)) (2 ^ m) (λ i k. high_low m a i h k) (λ i k. high_high m a i h k)
    ∙ ap (λ (v : List ℕ). row m a ++ v) (map_map reversed (parity a) (range_with_len 0 (2 ^ m)))

-- ---- each digit of a row's word, and of its complement

row_at : (m a i : ℕ) → i < 2 ^ m → slice_index (row m a) i ≡ parity a i
row_at m a i h = get_or-map-range_with_len (parity a) 0 (2 ^ m) i i 0 h (omega arith)

pub row_word_digit : (m a i : ℕ) → i < 2 ^ m → digit (row_word m a) i ≡ parity a i
row_word_digit m a i h = word_digit (row m a) i (row_digits m a) (omega (arith, length_row m a)) ∙ row_at m a i h

pub complement_digit : (m a i : ℕ) → i < 2 ^ m → digit (complement m a) i ≡ reversed (parity a i)
complement_digit m a i h =
    let k : i < length (row m a) = omega (arith, length_row m a) in
    word_digit (map reversed (row m a)) i (reversed_digits (row m a)) (rw (length-map (row m a) reversed) k)
    ∙ get_or-map reversed (row m a) i 0 0 k ∙ ap reversed (row_at m a i h)
