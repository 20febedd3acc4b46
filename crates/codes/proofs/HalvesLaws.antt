-- Words of the Reed-Muller code by their halves, as the machine builds and tests them.
use Rattle.std.proofs.Common.{◌≡◌, ℕ, suc, ◌+◌, ◌-◌, ◌*◌, ◌/◌, ◌%◌, ◌^◌, ◌<◌, ◌≤◌, Bool, false, ◌⊎◌, List, ◌++◌, map, length, Decides, sym, refl, ap, ◌∙◌, ap₂, inl, inr, mod-eq_of_lt, mod-lt, arith, pow_pos, pow_mono}
use mathlib.Core.List.{map-append}
use native.Mathlib.Nat.{mod-eq-sub-mod}
use lib.Bits.{bit_or}
use Rattle.std.specs.List.{AllByRecursion}
use Rattle.std.proofs.lemmas.Nat.{one_shl, shl_whole, or_comm, or_shifted, shr_high, mod_low, div-add-mod'}
use Rattle.std.proofs.lemmas.List.{length-map}
use Rattle.std.proofs.lemmas.Bool.{cases_lt, both_ways}
use Rattle.codes.specs.Digits.{word, reversed}
use Rattle.codes.specs.ReedMuller.{row, row_word, Codeword}
use Rattle.codes.specs.DigitLaws.{Digit, word_below, word_append}
use Rattle.codes.specs.ReedMullerLaws.{row_below}
use Rattle.codes.specs.RowLaws.{row_digits, length_row, reversed_digits, reversed_word, row_low, row_high, double}

-- ---- a word of two halves of n cells

module _ (n : ℕ) (ds es : List ℕ) (h : AllByRecursion Digit ds) (e : length ds ≡ n) where
  below : word ds < 2 ^ n
  below = rw e at (word_below ds h)

  joined : word (ds ++ es) ≡ word es * 2 ^ n + word ds
  joined = word_append ds es ∙ ap (λ (k : ℕ). word es * 2 ^ k + word ds) e

  low_part : word (ds ++ es) % 2 ^ n ≡ word ds
  low_part = rw joined (mod_low (word es) n (word ds) below)

  high_part : word (ds ++ es) / 2 ^ n ≡ word es
  high_part = rw joined (shr_high (word es) n (word ds) below)

  from_parts : (w : ℕ) → w % 2 ^ n ≡ word ds → w / 2 ^ n ≡ word es → w ≡ word (ds ++ es)
  from_parts w l k = sym (div-add-mod' w (2 ^ n)) ∙ ap₂ (λ (x y : ℕ). x * 2 ^ n + y) k l ∙ sym joined

-- half the cells leave room for both halves
pub half_few : (M m n : ℕ) → M ≤ 5 → M ≡ m + 1 → n ≡ 2 ^ m → n ≤ 16
half_few M m n few whole half = rw half (pow_mono {i = m} {j = 4} (omega arith))

pub half_power : (m n : ℕ) → n ≤ 16 → n ≡ 2 ^ m → (1 * 2 ^ n) % 2 ^ 32 ≡ 2 ^ (2 ^ m)
half_power m n few half = one_shl n 32 (omega arith) ∙ ap (λ (k : ℕ). 2 ^ k) half

-- ---- the word of a row of 2^(m + 1) cells from its halves, as the machine joins them

module _ (m a : ℕ) where
  row_doubled : a < 2 ^ m → row (suc m) a ≡ row m (a % 2 ^ m) ++ row m (a % 2 ^ m)
  row_doubled h = rw (mod-eq_of_lt h) (row_low m a h)

  row_crossed : 2 ^ m ≤ a → a < 2 ^ suc m → row (suc m) a ≡ row m (a % 2 ^ m) ++ map reversed (row m (a % 2 ^ m))
  row_crossed k h =
      let s : a - 2 ^ m < 2 ^ m = omega (arith, double m) in
      let e : 2 ^ m + (a - 2 ^ m) ≡ a = omega arith in
      let b : a % 2 ^ m ≡ a - 2 ^ m = mod-eq-sub-mod k ∙ mod-eq_of_lt s in
      rw b (rw e at (row_high m (a - 2 ^ m) s))

pub row_joined : (M m n a low high : ℕ) → M ≤ 5 → M ≡ m + 1 → n ≡ 2 ^ m → a < 2 ^ M → low ≡ row_word m (a % n) → ((a < n) × (high ≡ low)) ⊎ ((n ≤ a) × (high ≡ 2 ^ (2 ^ m) - 1 - low)) → bit_or low ((high * 2 ^ n) % 2 ^ 32) ≡ row_word M a
row_joined M m n a low high few whole half stands is_low is_high = rw (half, up) (go (rw half at is_high))
  where
    up : M ≡ suc m
    up = omega arith

    ds : List ℕ
    ds = row m (a % 2 ^ m)

    wide : length ds ≡ 2 ^ m
    wide = length_row m (a % 2 ^ m)

    low_is : low ≡ word ds
    low_is = rw half at is_low

    -- the digits of the upper half are es
    join : (es : List ℕ) → AllByRecursion Digit es → length es ≡ 2 ^ m → high ≡ word es → row (suc m) a ≡ ds ++ es → bit_or low ((high * 2 ^ (2 ^ m)) % 2 ^ 32) ≡ row_word (suc m) a
    join es d e i r =
        let few_cells = half_few M m (2 ^ m) few whole refl in
        let b : low < 2 ^ (2 ^ m) = rw low_is (row_below m (a % 2 ^ m)) in
        let k : high < 2 ^ (2 ^ m) = rw i (below (2 ^ m) es es d e) in
        rw (shl_whole high (2 ^ m) (2 ^ m) 32 k (omega arith), or_comm, or_shifted high (2 ^ m) low b, i, low_is, r, word_append ds es, wide)

    go : ((a < 2 ^ m) × (high ≡ low)) ⊎ ((2 ^ m ≤ a) × (high ≡ 2 ^ (2 ^ m) - 1 - low)) → bit_or low ((high * 2 ^ (2 ^ m)) % 2 ^ 32) ≡ row_word (suc m) a
    go (inl p) = join ds (row_digits m (a % 2 ^ m)) wide (p.1 ∙ low_is) (row_doubled m a p.0)
    go (inr p) = join (map reversed ds) (reversed_digits ds) (length-map ds reversed ∙ wide) (p.1 ∙ ap (λ (v : ℕ). 2 ^ (2 ^ m) - 1 - v) low_is ∙ sym (reversed_word ds (2 ^ m) (row_digits m (a % 2 ^ m)) wide)) (row_crossed m a p.0 (rw up at stands))

-- what the joining rests on
pub ruleset joins = (half_few, row_below, row_joined)

-- ---- the digits of a word or a complement, from their halves

abbrev Row : ℕ → List ℕ → Type 0
Row m ds = (a : ℕ) × (a < 2 ^ m) × ((ds ≡ row m a) ⊎ (ds ≡ map reversed (row m a)))

row_is_digits : (m : ℕ) (ds : List ℕ) → Row m ds → AllByRecursion Digit ds
row_is_digits m ds (a, h, inl e) = rw e (row_digits m a)
row_is_digits m ds (a, h, inr e) = rw e (reversed_digits (row m a))

row_is_wide : (m : ℕ) (ds : List ℕ) → Row m ds → length ds ≡ 2 ^ m
row_is_wide m ds (a, h, inl e) = rw e (length_row m a)
row_is_wide m ds (a, h, inr e) = rw (e, length-map (row m a) reversed) (length_row m a)

codeword : (m : ℕ) (ds : List ℕ) → Row m ds → Codeword m (word ds)
codeword m ds (a, h, inl e) = (a, h, inl (ap word e))
codeword m ds (a, h, inr e) = (a, h, inr (ap word e))

its_row : (m w : ℕ) → Codeword m w → (ds : List ℕ) × Row m ds × (w ≡ word ds)
its_row m w (a, h, inl e) = (row m a, (a, h, inl refl), e)
its_row m w (a, h, inr e) = (map reversed (row m a), (a, h, inr refl), e)

doubled : (m : ℕ) (ds : List ℕ) → Row m ds → Row (suc m) (ds ++ ds)
doubled m ds (a, h, inl e) = (a, omega (arith, double m), inl (rw e (sym (row_low m a h))))
doubled m ds (a, h, inr e) = (a, omega (arith, double m), inr (rw (e, row_low m a h) (sym (map-append reversed (row m a) (row m a)))))

crossed : (m : ℕ) (ds : List ℕ) → Row m ds → Row (suc m) (ds ++ map reversed ds)
crossed m ds (a, h, inl e) = (2 ^ m + a, omega (arith, double m), inl (rw e (sym (row_high m a h))))
crossed m ds (a, h, inr e) = (2 ^ m + a, omega (arith, double m), inr (rw (e, row_high m a h) (sym (map-append reversed (row m a) (map reversed (row m a))))))

split : (m : ℕ) (es : List ℕ) → Row (suc m) es → (ds : List ℕ) × Row m ds × ((es ≡ ds ++ ds) ⊎ (es ≡ ds ++ map reversed ds))
split m es (a, h, i) = go (cases_lt a (2 ^ m)) i
  where
    b : ℕ
    b = a % 2 ^ m

    ds : List ℕ
    ds = row m b

    stands : b < 2 ^ m
    stands = mod-lt a (pow_pos m)

    Parts : Type 0
    Parts = (ds : List ℕ) × Row m ds × ((es ≡ ds ++ ds) ⊎ (es ≡ ds ++ map reversed ds))

    go : (a < 2 ^ m) ⊎ (2 ^ m ≤ a) → (es ≡ row (suc m) a) ⊎ (es ≡ map reversed (row (suc m) a)) → Parts
    go (inl k) (inl e) = (ds, (b, stands, inl refl), inl (e ∙ row_doubled m a k))
    go (inl k) (inr e) = (map reversed ds, (b, stands, inr refl), inl (e ∙ ap (map reversed) (row_doubled m a k) ∙ map-append reversed ds ds))
    go (inr k) (inl e) = (ds, (b, stands, inl refl), inr (e ∙ row_crossed m a k h))
    go (inr k) (inr e) = (map reversed ds, (b, stands, inr refl), inr (e ∙ ap (map reversed) (row_crossed m a k h) ∙ map-append reversed ds (map reversed ds)))

-- ---- a member by its halves, as the machine tests it

module _ (m w : ℕ) where
  abbrev low : ℕ
  low = w % 2 ^ (2 ^ m)

  abbrev high : ℕ
  high = w / 2 ^ (2 ^ m)

  abbrev Alike : Type 0
  Alike = (high ≡ low) ⊎ (high ≡ 2 ^ (2 ^ m) - 1 - low)

  module _ (ds : List ℕ) (r : Row m ds) where
    d : AllByRecursion Digit ds
    d = row_is_digits m ds r

    e : length ds ≡ 2 ^ m
    e = row_is_wide m ds r

    reversed_low : low ≡ word ds → 2 ^ (2 ^ m) - 1 - low ≡ word (map reversed ds)
    reversed_low l = ap (λ (v : ℕ). 2 ^ (2 ^ m) - 1 - v) l ∙ sym (reversed_word ds (2 ^ m) d e)

    parts : (w ≡ word (ds ++ ds)) ⊎ (w ≡ word (ds ++ map reversed ds)) → Alike × (low ≡ word ds)
    parts (inl i) =
        let l : low ≡ word ds = rw i (low_part (2 ^ m) ds ds d e) in
        (inl (rw i (high_part (2 ^ m) ds ds d e) ∙ sym l), l)
    parts (inr i) =
        let l : low ≡ word ds = rw i (low_part (2 ^ m) ds (map reversed ds) d e) in
        (inr (rw i (high_part (2 ^ m) ds (map reversed ds) d e) ∙ sym (reversed_low l)), l)

    whole : Alike → low ≡ word ds → Codeword (suc m) w
    whole (inl i) l = rw (from_parts (2 ^ m) ds ds d e w l (i ∙ l)) (codeword (suc m) (ds ++ ds) (doubled m ds r))
    whole (inr i) l = rw (from_parts (2 ^ m) ds (map reversed ds) d e w l (i ∙ reversed_low l)) (codeword (suc m) (ds ++ map reversed ds) (crossed m ds r))

  halves_of : Codeword (suc m) w → Alike × Codeword m low
  halves_of c =
      let p = its_row (suc m) w c in
      let q = split m p.0 p.1 in
      let s = parts q.0 q.1 (elim q.2 [ inl e ↦ inl (p.2 ∙ ap word e) | inr e ↦ inr (p.2 ∙ ap word e) ]) in
      (s.0, rw s.1 (codeword m q.0 q.1))

  of_halves : Alike → Codeword m low → Codeword (suc m) w
  of_halves i c = let p = its_row m low c in whole p.0 p.1 i p.2

-- n is half of the cells, and p is 2^n as the machine has it
module _ (M m n p w : ℕ) (whole : M ≡ m + 1) (half : n ≡ 2 ^ m) (power : p ≡ 2 ^ (2 ^ m)) where
  up : M ≡ suc m
  up = omega arith

  abbrev Test : Type 0
  Test = (w / 2 ^ n ≡ w % p) ⊎ (w / 2 ^ n ≡ 2 ^ (2 ^ m) - 1 - w % p)

  tested : Codeword M w → Test × Codeword m (w % p)
  tested = rw (up, half, power) (halves_of m w)

  pub test_passes : (b : Bool) → Test → Decides b (Codeword m (w % p)) → Decides b (Codeword M w)
  test_passes b a d = (λ t. rw up (of_halves m w (rw (half, power) at a) (rw power at (d.0 t))), λ k. d.1 (tested k).1)

  pub test_fails : (b : Bool) → b ≡ false → Decides b Test → Decides b (Codeword M w)
  test_fails b e d = (λ t. absurd (both_ways b e t), λ k. d.1 (tested k).0)
