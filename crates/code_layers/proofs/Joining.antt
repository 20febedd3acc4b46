-- What is found of joined words, from what is found of the two parts.
use Rattle.std.proofs.Common.{◌≡◌, ℕ, ◌+◌, ◌*◌, ◌%◌, ◌^◌, ◌<◌, ◌≤◌, List, length, take, drop, ℤ, ◌+ℤ◌, nat_abs, FitsSigned, to_z, of_z, w64, Ok, Err, Result, mul-le-mul, arith}
use Rattle.std.specs.Int.Bits.{bit_or}
use Rattle.std.proofs.lemmas.Int.{ints, to_z-of_z}
use Rattle.std.proofs.lemmas.Nat.{shl_whole, or_shifted}
use Rattle.finders.specs.declared.refusals.Refusal.{Refusal}
use Rattle.finders.specs.declared.refusals.Refusal.TheVariants.{Width}
use Rattle.finders.specs.declared.words.WordShape.{WordShape}
use Rattle.finders.specs.Meanings.{Meaning, fit, unfit}
use Rattle.finders.specs.Sizes.{in_range}
use Rattle.finders.specs.WordFinders.{WordFit, WordLaws, Lawful, Asked, width_of, shape_of, find_checked, find_answer}
use Rattle.finders.proofs.Correlation.{correlation_size}
use Rattle.finders.proofs.Fitness.{not_err}
use Rattle.finders.proofs.Within.{range}
use Rattle.code_layers.specs.Join.{joined_fit, joined}
use Rattle.code_layers.specs.JoinLaws.{asked_first, asked_second, low_fits}
use Rattle.code_layers.specs.PartsLaws.{correlation_joined}
use Rattle.finders.proofs.GrantedWords.{find_asked, found_at}

-- a find of n cells that is granted: the word has no digit beyond, and the correlation is small
abbrev pub FoundSmall : ℕ → Result (ℕ × ℤ) Refusal → Type 0
FoundSmall n (Ok r) = (r.0 < 2 ^ n) × (nat_abs r.1 ≤ 2 ^ 35)
FoundSmall n (Err e) = ⊥

found_small : (m : WordFit) (gs : List ℤ) → WordLaws m → Asked m gs → FoundSmall m.width (find_answer (fit m) gs)
found_small m gs l a =
    let w = m.pick gs in
    let few : length gs ≤ 32 = omega (arith, a.as_wide, l.few_cells) in
    rw (found_at m gs a) (l.members_are_as_wide w (l.pick_is_a_member gs a), omega (arith, correlation_size m.gain_limit w gs a.gains_within, mul-le-mul few l.small_gains))

-- the word and the correlation that two answers make together
abbrev pub together : ℕ → Result (ℕ × ℤ) Refusal → Result (ℕ × ℤ) Refusal → Result (ℕ × ℤ) Refusal
together n (Ok r) (Ok s) = Ok (s.0 * 2 ^ n + r.0, r.1 +ℤ s.1)
together n (Ok r) (Err e) = Err e
together n (Err e) s = Err e

-- both parts are granted, the first of n cells, and 32 cells hold both
pub record Parts (n : ℕ) (first second whole : Result (ℕ × ℤ) Refusal) : Type 0 where
  pub others : ℕ
  pub few : n + others ≤ 32
  pub first_is : FoundSmall n first
  pub second_is : FoundSmall others second
  pub whole_is : together n first second ≡ whole

pub find_joined : (M N : Meaning WordFit) (s : WordShape) (gs : List ℤ) → Lawful M → Lawful N → Ok s ≡ shape_of (joined M N) → Ok tt ≡ find_checked s.width s.gain_limit gs
    → Parts (width_of M) (find_answer M (take (width_of M) gs)) (find_answer N (drop (width_of M) gs)) (find_answer (joined M N) gs)
find_joined (unfit e) N s gs l k h t = absurd (not_err h)
find_joined (fit m) (unfit e) s gs l k h t = absurd (not_err h)
find_joined (fit m) (fit n) s gs l k h t =
    let a = find_asked (in_range (m.width + n.width)) Width (joined_fit m n) s gs h t in
    let f = asked_first m n l k gs a.1 in
    let b = asked_second m n l k gs a.1 in
    record {
      others = n.width;
      few = (range (m.width + n.width) a.0).1;
      first_is = found_small m (take m.width gs) l f;
      second_is = found_small n (drop m.width gs) k b;
      whole_is = rw (a.0, found_at m (take m.width gs) f, found_at n (drop m.width gs) b, found_at (joined_fit m n) gs a.1, correlation_joined m.width (m.pick (take m.width gs)) (n.pick (drop m.width gs)) gs (low_fits m n l k gs a.1));
    }

-- what the machine makes of two answers
module _ {n low high : ℕ} {a b : ℤ} {whole : Result (ℕ × ℤ) Refusal} (p : Parts n (Ok (low, a)) (Ok (high, b)) whole) where
  a_fits : FitsSigned w64 a
  a_fits = omega (arith, ints, p.first_is.1)

  b_fits : FitsSigned w64 b
  b_fits = omega (arith, ints, p.second_is.1)

  sum_fits : FitsSigned w64 (a +ℤ b)
  sum_fits = omega (arith, ints, p.first_is.1, p.second_is.1)

  pub sum_is_small : FitsSigned w64 (to_z w64 (of_z w64 a) +ℤ to_z w64 (of_z w64 b))
  sum_is_small = rw (to_z-of_z w64 a a_fits, to_z-of_z w64 b b_fits) sum_fits

  pub made : Ok (bit_or ((high * 2 ^ n) % 2 ^ 32) low, to_z w64 (of_z w64 (to_z w64 (of_z w64 a) +ℤ to_z w64 (of_z w64 b)))) ≡ whole
  made = rw (shl_whole high p.others n 32 p.second_is.0 (omega (arith, p.few)), or_shifted high n low p.first_is.0, to_z-of_z w64 a a_fits, to_z-of_z w64 b b_fits, to_z-of_z w64 (a +ℤ b) sum_fits) p.whole_is
