use Rattle.std.proofs.Common.{refl, rules}
use Rattle.blocks.proofs.Keeping.{Holds, clear_kept, cleared_stands}
use Rattle.blocks.proofs.SameBlock.{same_block}
use Rattle.blocks.proofs.block.Block.clear.Goals as goal

pub invariant_of-self : goal.invariant_of-self
invariant_of-self g c =
    let holds : Holds c.args.self.now c.in-Some.opened = search rules in
    record { closed_or_represents = clear_kept holds (search rules) }

pub returns-in-Some-clause-none_stands : goal.returns-in-Some-clause-none_stands
returns-in-Some-clause-none_stands g c =
    let holds : Holds c.args.self.now c.in-Some.opened = search rules in
    λ q S s. record {
      opened = c.clear.new.self;
      is_open = refl;
      represents = cleared_stands holds {p = c.clear.new.self} s (search rules);
    }

pub returns-in-None-clause-a_refusal_changes_nothing : goal.returns-in-None-clause-a_refusal_changes_nothing
returns-in-None-clause-a_refusal_changes_nothing g c = same_block c.args.self.now _ _ refl
