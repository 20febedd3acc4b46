-- A code that is built on no other finder has the widest gain limit that a finder may have.
use Rattle.std.specs.Prelude.{ℕ, ◌^◌, Bool, cond, List, ℤ, Ok, Err, Result}
use Rattle.finders.specs.declared.refusals.Refusal.{Refusal}
use Rattle.finders.specs.declared.refusals.Refusal.TheVariants.{Width}
use Rattle.finders.specs.declared.words.WordShape.{WordShape}
use Rattle.finders.specs.Meanings.{Meaning, fit, unfit_unless}
use Rattle.finders.specs.Sizes.{in_range}
use Rattle.finders.specs.WordFinders.{WordFit}

abbrev pub code_fit : ℕ → (ℕ → Type 0) → (List ℤ → ℕ) → WordFit
code_fit n member pick = record { width = n; gain_limit = 2 ^ 30; member = member; pick = pick }

-- n cells, with this set and this pick, where a test of the size passes
abbrev pub code : Bool → ℕ → (ℕ → Type 0) → (List ℤ → ℕ) → Meaning WordFit
code sized n member pick = unfit_unless sized Width (fit (code_fit n member pick))

-- the shape of a code of n cells
abbrev pub shape : ℕ → WordShape
shape n = record { width = n; gain_limit = 2 ^ 30 }

-- that shape, or the refusal of so many cells
abbrev pub code_shape : ℕ → Result WordShape Refusal
code_shape n = cond (in_range n) (Ok (shape n)) (Err Width)
