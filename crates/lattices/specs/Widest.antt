-- A lattice that is built on no other finder: 1 to 32 cells, and the widest limits that a finder may have.
use Rattle.std.specs.Prelude.{ℕ, ◌^◌, cond, List, ℤ, Ok, Err, Result}
use Rattle.finders.specs.declared.refusals.Refusal.{Refusal}
use Rattle.finders.specs.declared.refusals.Refusal.TheVariants.{Width}
use Rattle.finders.specs.declared.points.PointShape.{PointShape}
use Rattle.finders.specs.Meanings.{Meaning, fit, unfit_unless}
use Rattle.finders.specs.Sizes.{in_range}
use Rattle.finders.specs.PointFinders.{PointFit}

abbrev pub widest_fit : ℕ → (List ℤ → Type 0) → (List ℤ → ℕ → List ℤ) → PointFit
widest_fit n member pick = record { width = n; reading_limit = 2 ^ 30; step_limit = 2 ^ 20; member = member; pick = pick }

-- n cells, with this set and this pick
abbrev pub widest : ℕ → (List ℤ → Type 0) → (List ℤ → ℕ → List ℤ) → Meaning PointFit
widest n member pick = unfit_unless (in_range n) Width (fit (widest_fit n member pick))

-- its shape, whatever the set and the pick
abbrev pub widest_shape : ℕ → Result PointShape Refusal
widest_shape n = cond (in_range n) (Ok (record { width = n; reading_limit = 2 ^ 30; step_limit = 2 ^ 20 })) (Err Width)
