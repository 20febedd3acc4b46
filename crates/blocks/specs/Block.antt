-- A block, by what stands in it.
use Rattle.std.specs.Prelude.{◌≡◌, ℕ, None, Some}
use Rattle.finders.specs.declared.points.PointFinder.{Ghosts}
use Rattle.finders.specs.Meanings.{Meaning}
use Rattle.finders.specs.PointFinders.{PointFit}
use Rattle.blocks.specs.declared.block.Block.{Block}
use Rattle.blocks.specs.declared.opened.Opened.{Opened}
use Rattle.blocks.specs.Senses.{Standing}
use Rattle.blocks.specs.Opened.{Represents}

-- the finder that a block is built over
abbrev pub finder_of : {F : Type 0} {finds : Ghosts F} → Block F finds → F
finder_of b = b.finder

abbrev pub meaning_of : {F : Type 0} {finds : Ghosts F} → Block F finds → Meaning PointFit
meaning_of {finds = finds} b = finds.meaning b.finder

abbrev pub IsClosed : {F : Type 0} {finds : Ghosts F} → Block F finds → Type 0
IsClosed b = b.opened ≡ None

-- the block is open at the step q, and S stands. It keeps no more of the senses than their number, sums and energy:
-- so where S stands, every T of senses with the same number, sums and energy stands as well, and whatever a contract
-- says for all S holds of each
pub record Stands {F : Type 0} {finds : Ghosts F} (q : ℕ) (S : Standing) (b : Block F finds) : Type 0 where
  pub opened : Opened
  pub is_open : b.opened ≡ Some opened
  pub represents : Represents (meaning_of b) q S opened

-- P holds of each step that the block is open at and of all that stands there
abbrev pub IfOpen : {F : Type 0} {finds : Ghosts F} → Block F finds → (ℕ → Standing → Type 0) → Type 0
IfOpen b P = (q : ℕ) (S : Standing) → Stands q S b → P q S
