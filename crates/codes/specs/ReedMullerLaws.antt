-- The laws of the Reed-Muller code.
use Rattle.std.specs.Prelude.{◌≡◌, ℕ, ◌-◌, ◌^◌, ◌<◌, ◌≤◌, true, cond, List, map, length, ℤ, pos, neg_ℤ, ◌≤ℤ◌, Ok, int_lt, nat_le, slice_index, slice_index_or, unsigned_abs, refl}
use Rattle.std.proofs.Common.{sym, ap, ap₂, ◌∙◌, inl, inr, arith, pow_mono, pow_pos}
use Rattle.std.proofs.ByRecursion.{All-get_or}
use Rattle.std.proofs.lemmas.List.{length-map, get_or-map}
use Rattle.std.proofs.lemmas.List.FromFn.{get_or-map-range_with_len}
use Rattle.std.proofs.lemmas.Int.{ints}
use Rattle.std.proofs.lemmas.Bool.{leb-true, and_parts, cond_both}
use Rattle.finders.specs.declared.words.WordShape.{WordShape}
use Rattle.finders.specs.Choice.{IsFirst, first_best, no_smaller}
use Rattle.finders.specs.Words.{correlation}
use Rattle.finders.specs.WordFinders.{Lawful, find_checked, find_answer}
use Rattle.finders.proofs.Firsts.{first_best_is}
use Rattle.finders.proofs.Scores.{no_smaller_total, no_smaller_chain}
use Rattle.codes.specs.Codes.{shape}
use Rattle.codes.specs.Digits.{reversed}
use Rattle.codes.specs.ReedMuller.{row, row_word, complement, spectrum, strongest, signed_pick, rm_pick, picked, rm_sized, Codeword, reed_muller}
use Rattle.codes.specs.CodeLaws.{code_lawful}
use Rattle.codes.specs.DigitLaws.{word_below}
use Rattle.codes.specs.RowLaws.{row_digits, length_row, reversed_digits, reversed_word}
use Rattle.codes.specs.SpectrumLaws.{correlation_reversed, length_spectrum}

pub row_below : (m a : ℕ) → row_word m a < 2 ^ (2 ^ m)
row_below m a = rw (length_row m a) at (word_below (row m a) (row_digits m a))

complement_below : (m a : ℕ) → complement m a < 2 ^ (2 ^ m)
complement_below m a = rw (length-map (row m a) reversed, length_row m a) at (word_below (map reversed (row m a)) (reversed_digits (row m a)))

pub complement_is : (m a : ℕ) → complement m a ≡ 2 ^ (2 ^ m) - 1 - row_word m a
complement_is m a = reversed_word (row m a) (2 ^ m) (row_digits m a) (length_row m a)

pub codeword_below : (m w : ℕ) → Codeword m w → w < 2 ^ (2 ^ m)
codeword_below m w (a, h, inl e) = rw e (row_below m a)
codeword_below m w (a, h, inr e) = rw e (complement_below m a)

pub spectrum_at : (m a : ℕ) (gs : List ℤ) → a < 2 ^ m → slice_index_or (spectrum m gs) a (pos 0) ≡ correlation (row_word m a) gs
spectrum_at m a gs h = get_or-map-range_with_len (λ b. correlation (row_word m b) gs) 0 (2 ^ m) a a (pos 0) h (omega arith)

-- ---- the strongest word

pub strongest_is : (m : ℕ) (gs : List ℤ) → IsFirst no_smaller 0 (map unsigned_abs (spectrum m gs)) (strongest m gs)
strongest_is m gs = first_best_is no_smaller no_smaller_total no_smaller_chain 0 (map unsigned_abs (spectrum m gs)) (rw (length-map (spectrum m gs) unsigned_abs, length_spectrum m gs) (pow_pos m))

pub strongest_stands : (m : ℕ) (gs : List ℤ) → strongest m gs < 2 ^ m
strongest_stands m gs = rw (length-map (spectrum m gs) unsigned_abs, length_spectrum m gs) at (strongest_is m gs).stands

size_at : (m a : ℕ) (gs : List ℤ) → a < 2 ^ m → slice_index (map unsigned_abs (spectrum m gs)) a ≡ unsigned_abs (correlation (row_word m a) gs)
size_at m a gs h = get_or-map unsigned_abs (spectrum m gs) a (pos 0) 0 (omega (arith, length_spectrum m gs)) ∙ ap unsigned_abs (spectrum_at m a gs h)

none_is_stronger : (m a : ℕ) (gs : List ℤ) → a < 2 ^ m → unsigned_abs (correlation (row_word m a) gs) ≤ unsigned_abs (correlation (row_word m (strongest m gs)) gs)
none_is_stronger m a gs h =
    let k : a < length (map unsigned_abs (spectrum m gs)) = rw (length-map (spectrum m gs) unsigned_abs, length_spectrum m gs) h in
    let t = All-get_or (λ n. no_smaller (slice_index (map unsigned_abs (spectrum m gs)) (strongest m gs)) n ≡ true) (map unsigned_abs (spectrum m gs)) a 0 k (strongest_is m gs).none_is_better in
    rw (size_at m a gs h, size_at m (strongest m gs) gs (strongest_stands m gs)) at (leb-true _ _ t)

-- ---- the pick

-- the complement has the negated correlation
correlation_complement : (m a : ℕ) (gs : List ℤ) → length gs ≡ 2 ^ m → correlation (complement m a) gs ≡ neg_ℤ (correlation (row_word m a) gs)
correlation_complement m a gs e = correlation_reversed (row m a) gs (row_digits m a) (length_row m a ∙ sym e)

pub signed_pick_size : (m a : ℕ) (gs : List ℤ) → length gs ≡ 2 ^ m → correlation (signed_pick m a gs) gs ≡ pos (unsigned_abs (correlation (row_word m a) gs))
signed_pick_size m a gs e = cond_both (int_lt (correlation (row_word m a) gs) (pos 0)) (complement m a) (row_word m a) (λ w. correlation w gs ≡ pos (unsigned_abs (correlation (row_word m a) gs)))
    (λ n. rw (correlation_complement m a gs e) (omega (arith, ints)))
    (λ p. omega (arith, ints))

member_small : (m w : ℕ) (gs : List ℤ) → length gs ≡ 2 ^ m → Codeword m w → correlation w gs ≤ℤ pos (unsigned_abs (correlation (row_word m (strongest m gs)) gs))
member_small m w gs e (a, h, inl f) = rw f (omega (arith, ints, none_is_stronger m a gs h))
member_small m w gs e (a, h, inr f) = rw (f, correlation_complement m a gs e) (omega (arith, ints, none_is_stronger m a gs h))

sized : (m : ℕ) → rm_sized m ≡ true → (1 ≤ 2 ^ m) × (2 ^ m ≤ 32)
sized m e = let p = and_parts (nat_le 1 m) (nat_le m 5) e in (pow_pos m, pow_mono (leb-true m 5 p.1))

pub reed_muller_lawful : (m : ℕ) → Lawful (reed_muller m)
reed_muller_lawful m = code_lawful (2 ^ m) (Codeword m) (rm_pick m)
    (codeword_below m)
    (λ gs some e. cond_both (int_lt (correlation (row_word m (strongest m gs)) gs) (pos 0)) (complement m (strongest m gs)) (row_word m (strongest m gs)) (Codeword m) (λ _. (strongest m gs, strongest_stands m gs, inr refl)) (λ _. (strongest m gs, strongest_stands m gs, inl refl)))
    (λ gs some e w h. rw (signed_pick_size m (strongest m gs) gs e) (member_small m w gs e h))
    (rm_sized m) (sized m)

-- ---- as the machine works it out

-- in a spectrum t, the entry a is the strongest; w is its word with the sign, and n its size
pub picked_is : (m a : ℕ) (gs t : List ℤ) (w : ℕ) (n : ℤ) → length gs ≡ 2 ^ m → t ≡ spectrum m gs → a ≡ first_best no_smaller (map unsigned_abs t) → n ≡ pos (unsigned_abs (slice_index_or t a (pos 0))) → w ≡ cond (int_lt (slice_index_or t a (pos 0)) (pos 0)) (complement m a) (row_word m a) → ◌≡◌ {A = ℕ × ℤ} (w, n) (picked m gs)
picked_is m a gs t w n wide is chosen size signed =
    let s : a ≡ strongest m gs = chosen ∙ ap (λ (v : List ℤ). first_best no_smaller (map unsigned_abs v)) is in
    let entry : slice_index_or t a (pos 0) ≡ correlation (row_word m a) gs = rw is (spectrum_at m a gs (rw s (strongest_stands m gs))) in
    ap₂ {C = ℕ × ℤ} (λ (w : ℕ) (c : ℤ). (w, c)) (rw (sym s) (rw entry at signed)) (rw (sym s) (rw entry at size ∙ sym (signed_pick_size m a gs wide)))

-- what a find answers that the shape s of the code of 2^o cells grants
pub answers_picked : (m o : ℕ) (s : WordShape) (gs hs : List ℤ) (r : ℕ × ℤ) (u : Unit {0}) → o ≡ m → rm_sized m ≡ true → s ≡ shape (2 ^ o) → Ok u ≡ find_checked s.width s.gain_limit gs → hs ≡ gs → r ≡ picked o hs → Ok r ≡ find_answer (reed_muller m) gs
answers_picked m o s gs hs r u same sized shaped checked all e =
    let granted : Ok u ≡ find_checked (2 ^ m) (2 ^ 30) gs = rw (shaped, same) at checked in
    rw (sized, sym granted, e, same, all) refl
