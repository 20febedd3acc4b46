use Rattle.std.proofs.Common.{refl, arith, rules}
use Rattle.blocks.proofs.Keeping.{Holds, energy_kept_small, sums_kept_small, sense_kept}
use Rattle.blocks.proofs.SameBlock.{same_block, same_if_refused}
use Rattle.blocks.proofs.block.Block.sense.Goals as goal
use Rattle.blocks.proofs.block.Block.sense.Goals.{In-Some}

holds : (g : _) (c : In-Some g) → Holds c.args.self.now c.in-Some.opened
holds g c = search rules

pub sense-requires-clause-small_sums : goal.sense-requires-clause-small_sums
sense-requires-clause-small_sums g c = sums_kept_small (holds g c)

pub sense-requires-clause-small_energy : goal.sense-requires-clause-small_energy
sense-requires-clause-small_energy g c = omega (arith, energy_kept_small (holds g c))

pub invariant_of-self : goal.invariant_of-self
invariant_of-self g c =
    let holds = holds g (goal.at.invariant_of-self g c).In-Some in
    record { closed_or_represents = sense_kept holds c.args.readings.now c.sense.result (search rules) }

pub returns-in-Some-clause-a_refusal_changes_nothing : goal.returns-in-Some-clause-a_refusal_changes_nothing
returns-in-Some-clause-a_refusal_changes_nothing g c =
    same_if_refused c.args.self.now c.in-Some.opened c.sense.new.self _ c.sense.result c.in-Some.is c.sense.ensures.refused

pub returns-in-None-clause-a_refusal_changes_nothing : goal.returns-in-None-clause-a_refusal_changes_nothing
returns-in-None-clause-a_refusal_changes_nothing g c = same_block c.args.self.now _ _ refl
