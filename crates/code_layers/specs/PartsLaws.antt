-- The digits and the correlation of a word, by its two parts.
use Rattle.std.specs.Prelude.{◌≡◌, ℕ, zero, suc, ◌+◌, ◌-◌, ◌*◌, ◌/◌, ◌%◌, ◌^◌, ◌<◌, ◌≤◌, ◌⊎◌, true, List, [], ◌∷◌, length, take, drop, ℤ, ◌+ℤ◌}
use Rattle.std.proofs.Common.{sym, ap, ◌∙◌, inl, inr, arith, add-one, pow_pos}
use Rattle.std.proofs.Math.Nat.{mod-lt, mod-eq_of_lt, add-mod_right, pow-succ'}
use Rattle.std.proofs.lemmas.Bool.{cases_lt, lt-ltb, ltb-true}
use Rattle.std.proofs.lemmas.Int.{ints}
use Rattle.std.proofs.lemmas.List.{take_all, drop_all}
use Rattle.std.proofs.lemmas.Nat.{mod-pow-add, shr-shr, shr_below, mod_low, shr_high}
use Rattle.finders.specs.Words.{digit, fits, correlation}
use Rattle.finders.proofs.Correlation.{half_above}
use Rattle.code_layers.specs.Parts.{front, back}

-- ---- digits

pub front_below : (n w : ℕ) → front n w < 2 ^ n
front_below n w = mod-lt w (pow_pos n)

pub back_below : (n k w : ℕ) → w < 2 ^ (n + k) → back n w < 2 ^ k
back_below n k w h = let e : n + k ≡ k + n = omega arith in shr_below w k n (rw e at h)

pub back_fits : (n k w : ℕ) → fits (n + k) w ≡ true → fits k (back n w) ≡ true
back_fits n k w h = lt-ltb (back n w) (2 ^ k) (back_below n k w (ltb-true w (2 ^ (n + k)) h))

-- the digits of the first n + 1 cells: the first, and those behind it
split : (n w : ℕ) → front (suc n) w ≡ front n (w / 2) * 2 + w % 2
split n w = rw add-one at (mod-pow-add w n 1)

front_first : (n w : ℕ) → front (suc n) w % 2 ≡ w % 2
front_first n w = omega (arith, split n w)

front_rest : (n w : ℕ) → front (suc n) w / 2 ≡ front n (w / 2)
front_rest n w = omega (arith, split n w)

pub digit_front : (n w i : ℕ) → i < n → digit (front n w) i ≡ digit w i
digit_front zero w i h = absurd (omega arith)
digit_front (suc n) w zero h = let f = front_first n w in omega arith
digit_front (suc n) w (suc i) h = rw (sym (half_above (front (suc n) w) i), front_rest n w, sym (half_above w i)) (digit_front n (w / 2) i (omega arith))

pub digit_back : (n w i : ℕ) → digit (back n w) i ≡ digit w (n + i)
digit_back n w i = ap (λ (v : ℕ). v % 2) (shr-shr w n i)

-- ---- the words of n + 1 cells that have the same first n digits: w itself, and w with a last digit 1

pub front_short : (n w : ℕ) → w < 2 ^ n → front n w ≡ w
front_short n w h = mod-eq_of_lt h

pub front_longer : (n w : ℕ) → w < 2 ^ n → front n (w + 2 ^ n) ≡ w
front_longer n w h = add-mod_right w (2 ^ n) ∙ mod-eq_of_lt h

pub twice : (n : ℕ) → 2 ^ (n + 1) ≡ 2 * 2 ^ n
twice n = rw add-one (pow-succ' 2 n)

pub last_digit : (n w : ℕ) → w < 2 ^ (n + 1) → (w ≡ front n w) ⊎ (w ≡ front n w + 2 ^ n)
last_digit n w h = elim (cases_lt w (2 ^ n)) [
  | inl k ↦ inl (sym (front_short n w k))
  | inr k ↦ inr (let e : w ≡ w - 2 ^ n + 2 ^ n = omega arith in let f = front_longer n (w - 2 ^ n) (omega (arith, twice n)) in e ∙ ap (λ (v : ℕ). v + 2 ^ n) (sym f ∙ ap (front n) (sym e)))
]

-- ---- correlations

pub correlation_parts : (n w : ℕ) (gs : List ℤ) → correlation w gs ≡ correlation (front n w) (take n gs) +ℤ correlation (back n w) (drop n gs)
correlation_parts zero w gs = let one : w / 1 ≡ w = omega arith in rw one (omega (arith, ints))
correlation_parts (suc n) w [] = omega (arith, ints)
correlation_parts (suc n) w (g ∷ gs) = rw (front_first n w, front_rest n w, sym (half_above w n), correlation_parts n (w / 2) gs) (omega (arith, ints))

-- as many gains as cells
pub correlation_front : (w : ℕ) (gs : List ℤ) → correlation w gs ≡ correlation (front (length gs) w) gs
correlation_front w gs =
    let all : length gs ≤ length gs = omega arith in
    let p = rw (take_all, drop_all) at (correlation_parts (length gs) w gs) in omega (arith, ints)

pub correlation_joined : (n low high : ℕ) (gs : List ℤ) → low < 2 ^ n → correlation (high * 2 ^ n + low) gs ≡ correlation low (take n gs) +ℤ correlation high (drop n gs)
correlation_joined n low high gs h = rw (mod_low high n low h, shr_high high n low h) at (correlation_parts n (high * 2 ^ n + low) gs)
