-- What an open block keeps of the senses that stand.
use Rattle.std.specs.Prelude.{◌≡◌, ℕ, ◌≤◌, Ok, Option, None, Some}
use Rattle.finders.specs.Meanings.{Meaning}
use Rattle.finders.specs.PointFinders.{PointFit, width_of}
use Rattle.blocks.specs.declared.opened.Opened.{Opened}
use Rattle.blocks.specs.Senses.{Standing, count_of}
use Rattle.blocks.specs.Calls.{depth, open_checked}
use Rattle.blocks.specs.Tally.{Tallies}

-- it was opened at the step q over a finder of the meaning M, and holds what is kept of S
pub record Represents (M : Meaning PointFit) (q : ℕ) (S : Standing) (o : Opened) : Type 0 where
  pub may_open : open_checked M q ≡ Ok tt
  pub no_more_than_it_holds : count_of S ≤ depth M q
  pub at_the_step : o.step ≡ q
  pub as_wide : o.width ≡ width_of M
  pub tallied : Tallies (width_of M) S.senses o.tally

-- nothing, or what is kept of some senses
abbrev pub IsClosedOrRepresents : Meaning PointFit → Option Opened → Type 0
IsClosedOrRepresents M None = Unit {0}
IsClosedOrRepresents M (Some o) = (q : ℕ) × (S : Standing) × Represents M q S o
