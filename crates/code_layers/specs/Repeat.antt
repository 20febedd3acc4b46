-- The words of a finder, each digit so many times in a row.
use Rattle.std.specs.Prelude.{◌≡◌, ℕ, zero, suc, ◌+◌, ◌*◌, ◌/◌, ◌%◌, Bool, ◌&&◌, List, [], ◌∷◌, take, drop, ℤ, nat_le}
use Rattle.integers.specs.Sums.{sumℤ}
use Rattle.finders.specs.declared.refusals.Refusal.TheVariants.{Width, Exhausted, Factor}
use Rattle.finders.specs.Meanings.{Meaning, fit, unfit, unfit_unless}
use Rattle.finders.specs.Sizes.{in_range}
use Rattle.finders.specs.WordFinders.{WordFit}

-- a times the digit d, and after it the digits of a word
abbrev pub run : (a d : ℕ) → ℕ → ℕ
run zero d w = w
run (suc a) d w = d + 2 * run a d w

-- a word of n digits, with each digit a times
abbrev pub repeated : (a n : ℕ) → ℕ → ℕ
repeated a zero w = 0
repeated a (suc n) w = run a (w % 2) (repeated a n (w / 2))

-- the gains of each of n groups of a cells, added
abbrev pub group_sums : (a n : ℕ) → List ℤ → List ℤ
group_sums a zero gs = []
group_sums a (suc n) gs = sumℤ (take a gs) ∷ group_sums a n (drop a gs)

abbrev pub repeated_fit : ℕ → WordFit → WordFit
repeated_fit a m = record {
  width = a * m.width;
  gain_limit = m.gain_limit / a;
  member = λ w. (v : ℕ) × m.member v × (w ≡ repeated a m.width v);
  pick = λ gs. repeated a m.width (m.pick (group_sums a m.width gs));
}

-- 2 to 32 times
abbrev pub times_in_range : ℕ → Bool
times_in_range a = nat_le 2 a && nat_le a 32

abbrev pub repeated_words : ℕ → Meaning WordFit → Meaning WordFit
repeated_words a (unfit e) = unfit e
repeated_words a (fit m) =
    unfit_unless (times_in_range a) Factor
    (unfit_unless (in_range (a * m.width)) Width
    (unfit_unless (nat_le 1 (m.gain_limit / a)) Exhausted
    (fit (repeated_fit a m))))
