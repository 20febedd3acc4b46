-- Which points E8 has, by glue and by words.
use Rattle.std.specs.Prelude.{◌≡◌, ℕ, zero, suc, ◌+◌, ◌*◌, ◌/◌, ◌%◌, ◌^◌, ◌<◌, ◌⊎◌, List, [], ◌∷◌, ◌++◌, map, length, replicate, ℤ, pos, negsuc, ◌+ℤ◌, ◌*ℤ◌, neg_ℤ, Ok, unsigned_abs, refl}
use Rattle.std.specs.List.{AllByRecursion}
use Rattle.std.proofs.Common.{mul_left_comm, arith, sym, ap, ap₂, ◌∙◌, inl, inr}
use Rattle.std.proofs.Math.Nat.{pow-succ'}
use lib.Count.{ones}
use Rattle.std.proofs.lemmas.Int.{ints}
use Rattle.std.proofs.lemmas.List.{length-map}
use Rattle.integers.specs.Sums.{sumℤ, plus}
use Rattle.finders.specs.PointFinders.{Lawful, Member}
use Rattle.codes.specs.ReedMuller.{row_word, complement, reed_muller}
use Rattle.codes.specs.ReedMullerLaws.{reed_muller_lawful}
use Rattle.lattices.specs.DLaws.{d_lawful}
use Rattle.lattices.specs.LatticeD.{parity, lattice_d}
use Rattle.lattice_layers.specs.ConstructionA.{parities}
use Rattle.lattice_layers.specs.ConstructionALaws.{construction_a_lawful}
use Rattle.lattice_layers.specs.E8.{e8_by_glue, e8_by_words}
use Rattle.lattice_layers.specs.GlueLaws.{glued_lawful}
use Rattle.lattice_layers.specs.Rows.{row_sum}
use Rattle.lattice_layers.specs.Scale.{times, scaled}
use Rattle.lattice_layers.specs.ScaleLaws.{scaled_lawful}

-- each coordinate has the parity d
abbrev pub AllOf : ℕ → List ℤ → Type 0
AllOf d xs = AllByRecursion (λ x. unsigned_abs x % 2 ≡ d) xs

-- eight coordinates, all even or all odd, whose sum is a multiple of four
pub record InE8 (x : List ℤ) : Type 0 where
  pub cells : length x ≡ 8
  pub one_parity : AllOf 0 x ⊎ AllOf 1 x
  pub sum_by_four : unsigned_abs (sumℤ x) % 4 ≡ 0

-- twice p, with d added to each coordinate
abbrev doubled : ℕ → ℕ → List ℤ → List ℤ
doubled d n p = plus (replicate n (pos d)) (times 2 p)

record IsDoubled (d n : ℕ) (p x : List ℤ) : Type 0 where
  cells : length x ≡ n
  one_parity : AllOf d x
  sum : sumℤ x ≡ pos (n * d) +ℤ pos 2 *ℤ sumℤ p

is_doubled : (d n : ℕ) (p : List ℤ) → d < 2 → length p ≡ n → IsDoubled d n p (doubled d n p)
is_doubled d zero [] h e = record { cells = refl; one_parity = tt; sum = omega (arith, ints) }
is_doubled d (suc n) [] h e = absurd (omega arith)
is_doubled d zero (z ∷ p) h e = absurd (omega arith)
is_doubled d (suc n) (z ∷ p) h e =
    let rest = is_doubled d n p h (omega arith) in
    record {
      cells = ap suc rest.cells;
      one_parity = (omega (arith, ints), rest.one_parity);
      sum = omega (arith, ints, rest.sum);
    }

-- the half of a number less its parity d
half : ℕ → ℤ → ℤ
half d (pos a) = pos (a / 2)
half d (negsuc a) = neg_ℤ (pos ((suc a + d) / 2))

half_is : (d : ℕ) (x : ℤ) → d < 2 → unsigned_abs x % 2 ≡ d → pos d +ℤ pos 2 *ℤ half d x ≡ x
unfolding half
half_is d (pos a) h e = omega (arith, ints)
half_is d (negsuc a) h e = omega (arith, ints)

doubled_of : (d n : ℕ) (x : List ℤ) → d < 2 → length x ≡ n → AllOf d x → doubled d n (map (half d) x) ≡ x
doubled_of d zero [] h e a = refl
doubled_of d (suc n) [] h e a = absurd (omega arith)
doubled_of d zero (y ∷ x) h e a = absurd (omega arith)
doubled_of d (suc n) (y ∷ x) h e a = ap₂ {C = List ℤ} (λ (z : ℤ) (zs : List ℤ). z ∷ zs) (half_is d y h a.0) (doubled_of d n x h (omega arith) a.1)

-- the sum of the row with number d is d everywhere
the_row : (d : ℕ) → d < 2 → row_sum 8 (replicate 8 (pos 1) ∷ []) d ≡ replicate 8 (pos d)
the_row zero h = refl
the_row (suc zero) h = refl
the_row (suc (suc d)) h = absurd (omega arith)

-- ---- by glue

-- the points that the sum with number d moves
of_digit : (d : ℕ) (p x : List ℤ) → d < 2 → length p ≡ 8 → parity p ≡ 0 → x ≡ doubled d 8 p → (length x ≡ 8) × AllOf d x × (unsigned_abs (sumℤ x) % 4 ≡ 0)
of_digit d p x h e even is =
    let t = is_doubled d 8 p h e in
    rw is (t.cells, t.one_parity, omega (arith, ints, t.sum))

pub glue_is_e8 : (x : List ℤ) → Member e8_by_glue x → InE8 x
glue_is_e8 x (zero, c, h, (p, (e, even), is), at) =
    let t = of_digit 0 p x h e even (rw is at at) in
    record { cells = t.0; one_parity = inl t.1; sum_by_four = t.2 }
glue_is_e8 x (suc zero, c, h, (p, (e, even), is), at) =
    let t = of_digit 1 p x h e even (rw is at at) in
    record { cells = t.0; one_parity = inr t.1; sum_by_four = t.2 }
glue_is_e8 x (suc (suc j), c, h, m, at) = absurd (omega arith)

to_glue : (d : ℕ) (x : List ℤ) → d < 2 → length x ≡ 8 → AllOf d x → unsigned_abs (sumℤ x) % 4 ≡ 0 → Member e8_by_glue x
to_glue d x h e a s =
    let p = map (half d) x in
    let back = doubled_of d 8 x h e a in
    let wide : length p ≡ 8 = length-map x (half d) ∙ e in
    let t = is_doubled d 8 p h wide in
    let sum : sumℤ x ≡ pos (8 * d) +ℤ pos 2 *ℤ sumℤ p = rw back at t.sum in
    (d, times 2 p, h, (p, (wide, omega (arith, ints)), refl), rw (the_row d h) (sym back))

pub e8_is_glue : (x : List ℤ) → InE8 x → Member e8_by_glue x
e8_is_glue x m = elim m.one_parity [
  | inl a ↦ to_glue 0 x (omega arith) m.cells a m.sum_by_four
  | inr a ↦ to_glue 1 x (omega arith) m.cells a m.sum_by_four
]

-- ---- by words

-- the word of one parity throughout has no digit 1, or all n
parities_of : (d n : ℕ) (x : List ℤ) → length x ≡ n → AllOf d x → parities x + d ≡ d * 2 ^ n
parities_of d zero [] e a = omega arith
parities_of d (suc n) [] e a = absurd (omega arith)
parities_of d zero (y ∷ x) e a = absurd (omega arith)
parities_of d (suc n) (y ∷ x) e a = rw (pow-succ' 2 n) (omega (arith, a.0, parities_of d n x (omega arith) a.1, mul_left_comm d 2 (2 ^ n)))

zero_word : row_word 3 0 ≡ 0
unfolding ones
zero_word = refl

all_ones : complement 3 0 ≡ 255
unfolding ones
all_ones = refl

pub e8_is_words : (x : List ℤ) → InE8 x → Member e8_by_words x
e8_is_words x m = (
  m.cells,
  (
    0,
    omega arith,
    elim m.one_parity [
      | inl a ↦ inl (omega (arith, parities_of 0 8 x m.cells a, zero_word))
      | inr a ↦ inr (omega (arith, parities_of 1 8 x m.cells a, all_ones))
    ],
  ),
)

-- ---- points that only the words have

abbrev pub one_cell_twice : List ℤ
one_cell_twice = pos 2 ∷ replicate 7 (pos 0)

abbrev pub half_ones : List ℤ
half_ones = replicate 4 (pos 1) ++ replicate 4 (pos 0)

low_ones : complement 3 4 ≡ 15
unfolding ones
low_ones = refl

pub one_cell_only_by_words : Member e8_by_words one_cell_twice × (Member e8_by_glue one_cell_twice → ⊥)
one_cell_only_by_words = ((refl, (0, omega arith, inl (sym zero_word))), λ m. let s = (glue_is_e8 one_cell_twice m).sum_by_four in omega arith)

of_one_parity : AllOf 0 half_ones ⊎ AllOf 1 half_ones → ⊥
of_one_parity (inl a) = let first = a.0 in omega arith
of_one_parity (inr a) = let fifth = a.1.1.1.1.0 in omega arith

pub half_only_by_words : Member e8_by_words half_ones × (Member e8_by_glue half_ones → ⊥)
half_only_by_words = ((refl, (4, omega arith, inr (sym low_ones))), λ m. of_one_parity (glue_is_e8 half_ones m).one_parity)

-- ---- the laws of both

pub e8_by_glue_lawful : Lawful e8_by_glue
e8_by_glue_lawful = glued_lawful (Ok (replicate 8 (pos 1) ∷ [])) (scaled 2 (lattice_d 8)) (scaled_lawful 2 (lattice_d 8) (d_lawful 8))

pub e8_by_words_lawful : Lawful e8_by_words
e8_by_words_lawful = construction_a_lawful (reed_muller 3) (reed_muller_lawful 3)
