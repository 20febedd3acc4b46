-- The laws of a code that is built on no other finder: what is left to prove of its set and its pick.
use Rattle.std.specs.Prelude.{◌≡◌, ℕ, ◌^◌, ◌<◌, ◌≤◌, Bool, true, List, length, ℤ, ◌≤ℤ◌}
use Rattle.std.proofs.Common.{arith}
use Rattle.finders.specs.declared.refusals.Refusal.TheVariants.{Width}
use Rattle.finders.specs.Meanings.{fit}
use Rattle.finders.specs.Words.{correlation}
use Rattle.finders.specs.WordFinders.{WordLaws, Lawful}
use Rattle.finders.proofs.Fitness.{unfit_unless_keeps}
use Rattle.codes.specs.Codes.{code_fit, code}

module _ (n : ℕ) (member : ℕ → Type 0) (pick : List ℤ → ℕ)
    (wide : (w : ℕ) → member w → w < 2 ^ n)
    (within : (gs : List ℤ) → 1 ≤ length gs → length gs ≡ n → member (pick gs))
    (best : (gs : List ℤ) → 1 ≤ length gs → length gs ≡ n → (w : ℕ) → member w → correlation w gs ≤ℤ correlation (pick gs) gs) where
  pub code_laws : (1 ≤ n) × (n ≤ 32) → WordLaws (code_fit n member pick)
  code_laws r = record {
    some_cell = r.0;
    few_cells = r.1;
    some_gain = omega arith;
    small_gains = omega arith;
    members_are_as_wide = wide;
    pick_is_a_member = λ gs a. within gs (omega (arith, a.as_wide, r.0)) a.as_wide;
    no_member_is_better = λ gs a. best gs (omega (arith, a.as_wide, r.0)) a.as_wide;
  }

  pub code_lawful : (sized : Bool) → (sized ≡ true → (1 ≤ n) × (n ≤ 32)) → Lawful (code sized n member pick)
  code_lawful sized r = unfit_unless_keeps WordLaws sized Width (fit (code_fit n member pick)) (λ e. code_laws (r e))
