-- The laws of repeated words.
use Rattle.std.specs.Prelude.{◌≡◌, ℕ, zero, suc, ◌+◌, ◌-◌, ◌*◌, ◌/◌, ◌%◌, ◌^◌, ◌<◌, ◌≤◌, true, false, cond, List, [], ◌∷◌, length, take, drop, ℤ, pos, ◌+ℤ◌, neg_ℤ, ◌==◌, nat_le, unsigned_abs, refl}
use Rattle.std.proofs.Common.{sym, ap, ◌∙◌, inl, inr, arith}
use native.Mathlib.Nat.{div-eq_of_lt}
use Rattle.std.proofs.Math.Nat.{pow-succ', mul-le-mul_right, mul-div-le, div-le_self, add-div_left}
use Rattle.std.proofs.lemmas.Bool.{cases_lt, and_parts, leb-true, le-leb}
use Rattle.std.proofs.lemmas.Int.{ints}
use Rattle.std.proofs.lemmas.List.{length-take, length-drop}
use Rattle.std.proofs.lemmas.Nat.{shr-shr}
use Rattle.integers.specs.Sums.{sumℤ}
use Rattle.finders.specs.declared.refusals.Refusal.TheVariants.{Width, Exhausted, Factor}
use Rattle.finders.specs.Meanings.{Meaning, fit, unfit}
use Rattle.finders.specs.Points.{within}
use Rattle.finders.specs.Sizes.{in_range}
use Rattle.finders.specs.Words.{digit, signed, correlation}
use Rattle.finders.specs.WordFinders.{WordFit, WordLaws, Asked, Lawful, SameFit, Same}
use Rattle.finders.proofs.Correlation.{half_above}
use Rattle.finders.proofs.Digits.{first_digit, other_digits}
use Rattle.finders.proofs.Fitness.{unfit_unless_keeps, unfit_unless_agrees}
use Rattle.finders.proofs.Within.{range, within_take, within_drop}
use Rattle.code_layers.specs.Repeat.{run, repeated, group_sums, repeated_fit, times_in_range, repeated_words}

pub one_digit : (w : ℕ) → w % 2 < 2
one_digit w = omega arith

-- ---- signs

signed_zero : (d : ℕ) → signed d (pos 0) ≡ pos 0
signed_zero d = elim (d == 0) as (λ b. cond b (pos 0) (neg_ℤ (pos 0)) ≡ pos 0) [ true ↦ refl | false ↦ refl ]

signed_sum : (d : ℕ) (g h : ℤ) → signed d (g +ℤ h) ≡ signed d g +ℤ signed d h
signed_sum d g h = elim (d == 0) as (λ b. cond b (g +ℤ h) (neg_ℤ (g +ℤ h)) ≡ cond b g (neg_ℤ g) +ℤ cond b h (neg_ℤ h)) [ true ↦ refl | false ↦ omega (arith, ints) ]

-- ---- a digit so many times, and after it the digits of a word

module _ (d w : ℕ) (h : d < 2) where
  pub run_behind : (a : ℕ) → run a d w / 2 ^ a ≡ w
  run_behind zero = omega arith
  run_behind (suc a) = rw (sym (half_above (d + 2 * run a d w) a), other_digits d (run a d w) h) (run_behind a)

  run_digit : (a i : ℕ) → i < a → digit (run a d w) i ≡ d
  run_digit zero i k = absurd (omega arith)
  run_digit (suc a) zero k = omega arith
  run_digit (suc a) (suc i) k = rw (sym (half_above (d + 2 * run a d w) i), other_digits d (run a d w) h) (run_digit a i (omega arith))

  run_digit_behind : (a i : ℕ) → digit (run a d w) (a + i) ≡ digit w i
  run_digit_behind a i = rw (sym (shr-shr (run a d w) a i), run_behind a)

  run_below : (a k : ℕ) → w < 2 ^ k → run a d w < 2 ^ (a + k)
  run_below zero k l = let e : zero + k ≡ k = omega arith in rw e l
  run_below (suc a) k l = let e : suc a + k ≡ suc (a + k) = omega arith in let b = run_below a k l in rw (e, pow-succ' 2 (a + k)) (omega arith)

  run_correlation : (a : ℕ) (gs : List ℤ) → a ≤ length gs → correlation (run a d w) gs ≡ signed d (sumℤ (take a gs)) +ℤ correlation w (drop a gs)
  run_correlation zero gs l = rw (signed_zero d) (omega (arith, ints))
  run_correlation (suc a) [] l = absurd (omega arith)
  run_correlation (suc a) (g ∷ gs) l = rw (first_digit d (run a d w) h, other_digits d (run a d w) h, run_correlation a gs (omega arith), signed_sum d g (sumℤ (take a gs))) (omega (arith, ints))

-- ---- a word with each digit so many times

pub repeated_below : (a n v : ℕ) → repeated a n v < 2 ^ (a * n)
repeated_below a zero v = let e : a * zero ≡ zero = omega arith in rw e (omega arith)
repeated_below a (suc n) v = let e : a * suc n ≡ a + a * n = omega arith in rw e (run_below (v % 2) (repeated a n (v / 2)) (one_digit v) a (a * n) (repeated_below a n (v / 2)))

-- a group further
add_div : (a n j : ℕ) → j < a * n → (a + j) / a ≡ suc (j / a)
add_div zero n j h = absurd (omega arith)
add_div (suc a) n j h = let some : 0 < suc a = omega arith in omega (arith, add-div_left j some)

pub repeated_digit : (a n v i : ℕ) → i < a * n → digit (repeated a n v) i ≡ digit v (i / a)
repeated_digit a zero v i h = absurd (omega arith)
repeated_digit a (suc n) v i h = elim (cases_lt i a) [
  | inl low ↦ rw (run_digit (v % 2) (repeated a n (v / 2)) (one_digit v) a i low, div-eq_of_lt low) (omega arith)
  | inr high ↦
      let e : i ≡ a + (i - a) = omega arith in
      let below : i - a < a * n = omega arith in
      rw (e, add_div a n (i - a) below, run_digit_behind (v % 2) (repeated a n (v / 2)) (one_digit v) a (i - a), sym (half_above v ((i - a) / a))) (repeated_digit a n (v / 2) (i - a) below)
]

pub repeated_correlation : (a n v : ℕ) (gs : List ℤ) → length gs ≡ a * n → correlation (repeated a n v) gs ≡ correlation v (group_sums a n gs)
repeated_correlation a zero v [] e = refl
repeated_correlation a zero v (g ∷ gs) e = absurd (omega arith)
repeated_correlation a (suc n) v gs e =
    rw (run_correlation (v % 2) (repeated a n (v / 2)) (one_digit v) a gs (omega arith), repeated_correlation a n (v / 2) (drop a gs) (omega (arith, length-drop a gs)))

-- ---- the sums of groups

group_sums_length : (a n : ℕ) (gs : List ℤ) → length (group_sums a n gs) ≡ n
group_sums_length a zero gs = refl
group_sums_length a (suc n) gs = ap suc (group_sums_length a n (drop a gs))

-- a sum of gains within a limit
sum_size : (limit : ℕ) (gs : List ℤ) → within limit gs ≡ true → unsigned_abs (sumℤ gs) ≤ length gs * limit
sum_size limit [] h = omega arith
sum_size limit (g ∷ gs) h =
    let p = and_parts (nat_le (unsigned_abs g) limit) (within limit gs) h in
    omega (arith, ints, leb-true (unsigned_abs g) limit p.0, sum_size limit gs p.1)

group_sums_within : (a n small limit : ℕ) (gs : List ℤ) → a * small ≤ limit → within small gs ≡ true → within limit (group_sums a n gs) ≡ true
group_sums_within a zero small limit gs b h = refl
group_sums_within a (suc n) small limit gs b h =
    let few : length (take a gs) ≤ a = omega (arith, length-take a gs) in
    let size = sum_size small (take a gs) (within_take small a gs h) in
    rw (le-leb (unsigned_abs (sumℤ (take a gs))) limit (omega (arith, size, mul-le-mul_right small few)), group_sums_within a n small limit (drop a gs) b (within_drop small a gs h))

-- ---- the laws

module _ (a : ℕ) (m : WordFit) (l : WordLaws m) where
  abbrev sums : List ℤ → List ℤ
  sums = group_sums a m.width

  -- the sums are what the finder below may be asked
  pub sums_asked : (gs : List ℤ) → Asked (repeated_fit a m) gs → Asked m (sums gs)
  sums_asked gs q = record {
    as_wide = group_sums_length a m.width gs;
    gains_within = group_sums_within a m.width (m.gain_limit / a) m.gain_limit gs (mul-div-le m.gain_limit a) q.gains_within;
  }

  repeated_laws : in_range (a * m.width) ≡ true → nat_le 1 (m.gain_limit / a) ≡ true → WordLaws (repeated_fit a m)
  repeated_laws cells gains = record {
    some_cell = (range (a * m.width) cells).0;
    few_cells = (range (a * m.width) cells).1;
    some_gain = leb-true 1 (m.gain_limit / a) gains;
    small_gains = omega (arith, l.small_gains, div-le_self m.gain_limit a);
    members_are_as_wide = λ w p. rw p.2 (repeated_below a m.width p.0);
    pick_is_a_member = λ gs q. (m.pick (sums gs), l.pick_is_a_member (sums gs) (sums_asked gs q), refl);
    no_member_is_better = λ gs q w p.
        rw (p.2, repeated_correlation a m.width p.0 gs q.as_wide, repeated_correlation a m.width (m.pick (sums gs)) gs q.as_wide)
        (l.no_member_is_better (sums gs) (sums_asked gs q) p.0 p.1);
  }

pub repeated_lawful : (a : ℕ) (M : Meaning WordFit) → Lawful M → Lawful (repeated_words a M)
repeated_lawful a (unfit e) l = tt
repeated_lawful a (fit m) l =
    unfit_unless_keeps WordLaws (times_in_range a) Factor _ (λ some.
    unfit_unless_keeps WordLaws (in_range (a * m.width)) Width _ (λ cells.
    unfit_unless_keeps WordLaws (nat_le 1 (m.gain_limit / a)) Exhausted (fit (repeated_fit a m)) (repeated_laws a m l cells)))

-- ---- over finders that mean the same

pub repeated_alike : (a : ℕ) (M N : Meaning WordFit) → Same M N → Same (repeated_words a M) (repeated_words a N)
repeated_alike a (unfit e) (unfit f) s = s
repeated_alike a (unfit e) (fit n) s = absurd s
repeated_alike a (fit m) (unfit f) s = absurd s
repeated_alike a (fit m) (fit n) s =
    unfit_unless_agrees SameFit (times_in_range a) (times_in_range a) Factor _ _ refl
    (unfit_unless_agrees SameFit (in_range (a * m.width)) (in_range (a * n.width)) Width _ _ (ap (λ (k : ℕ). in_range (a * k)) s.same_width)
    (unfit_unless_agrees SameFit (nat_le 1 (m.gain_limit / a)) (nat_le 1 (n.gain_limit / a)) Exhausted (fit (repeated_fit a m)) (fit (repeated_fit a n)) (ap (λ (k : ℕ). nat_le 1 (k / a)) s.same_gain_limit) (record {
      same_width = ap (λ (k : ℕ). a * k) s.same_width;
      same_gain_limit = ap (λ (k : ℕ). k / a) s.same_gain_limit;
      same_members = λ w. (λ h. (h.0, (s.same_members h.0).0 h.1, h.2 ∙ ap (λ (k : ℕ). repeated a k h.0) s.same_width), λ h. (h.0, (s.same_members h.0).1 h.1, h.2 ∙ ap (λ (k : ℕ). repeated a k h.0) (sym s.same_width)));
      same_picks = λ gs. ap (λ (k : ℕ). repeated a k (m.pick (group_sums a k gs))) s.same_width ∙ ap (repeated a n.width) (s.same_picks (group_sums a n.width gs));
    })))
