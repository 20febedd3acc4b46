-- A block whose fields are as they were is the same block; and what a block keeps, by what stands in it.
use Rattle.std.proofs.Common.{◌≡◌, ℕ, ◌⊎◌, inl, inr, Some, None, Ok, Err, Option, Result, OnErr, sym, refl, ap, ◌∙◌, subst}
use Rattle.std.proofs.Math.Logic.{∥∥₁_prop, ∥∥₁_map}
use Rattle.finders.specs.declared.points.PointFinder.{Ghosts}
use Rattle.finders.specs.declared.refusals.Refusal.{Refusal}
use Rattle.blocks.specs.declared.block.Block.{Block}
use Rattle.blocks.specs.declared.opened.Opened.{Opened}
use Rattle.blocks.specs.Opened.{IsClosedOrRepresents}
use Rattle.blocks.specs.Senses.{Standing}
use Rattle.blocks.specs.Block.{meaning_of, IsClosed, Stands}

module _ {F : Type 0} {finds : Ghosts F} (b : Block F finds) where
  abbrev pub Kept : Option Opened → Type 0
  Kept o = ∥ IsClosedOrRepresents (meaning_of b) o ∥₁

  -- the block with this in it
  abbrev pub with_opened : (o : Option Opened) → Kept o → Block F finds
  with_opened o k = record { finder = b.finder; opened = o; closed_or_represents = k }

  pub same_block : (o : Option Opened) (k : Kept o) → b.opened ≡ o → with_opened o k ≡ b
  same_block o k e =
      let as_it_was = λ (k : Kept b.opened). ap (with_opened b.opened) (∥∥₁_prop k b.closed_or_represents) in
      subst (λ (v : Option Opened). (k : Kept v) → with_opened v k ≡ b) e as_it_was k

  -- after a call that is refused where the block is open
  pub same_if_refused : (o p : Opened) (k : Kept (Some p)) (r : Result ℕ Refusal) → b.opened ≡ Some o → OnErr r (p ≡ o) →
      OnErr r (with_opened (Some p) k ≡ b)
  same_if_refused o p k (Ok n) e h = tt
  same_if_refused o p k (Err f) e h = same_block (Some p) k (e ∙ ap Some (sym h))

  -- a block is closed, or open where some senses stand
  pub closed_or_open : ∥ IsClosed b ⊎ ((q : ℕ) × (S : Standing) × Stands q S b) ∥₁
  closed_or_open = go b.opened refl b.closed_or_represents
    where
      go : (o : Option Opened) → b.opened ≡ o → Kept o → ∥ IsClosed b ⊎ ((q : ℕ) × (S : Standing) × Stands q S b) ∥₁
      go None e k = ∣ inl e ∣₁
      go (Some o) e k = ∥∥₁_map k (λ h. inr (h.0, h.1, record { opened = o; is_open = e; represents = h.2 }))
