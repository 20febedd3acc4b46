use Rattle.std.proofs.Common.{refl, rules}
use Rattle.blocks.specs.Senses.{none_standing}
use Rattle.blocks.proofs.Keeping.{opened_represents}
use Rattle.blocks.proofs.block.Block.open.Goals as goal

pub invariant_of-self : goal.invariant_of-self
invariant_of-self g c = record {
  closed_or_represents = ∣ (c.args.step, none_standing, opened_represents c.in_ok-width.width (search rules)) ∣₁;
}

pub returns-clause-none_stands_when_opened : goal.returns-clause-none_stands_when_opened
returns-clause-none_stands_when_opened g c = record {
  opened = c.new.result;
  is_open = refl;
  represents = opened_represents c.in_ok-width.width (search rules);
}
