use Rattle.finders.proofs.RoundingBits.{Leaves, machine_residue}
use Rattle.finders.proofs.rounding.residue_of.Goals as goal

whole : (c : goal.After-from-3) → Leaves c.args.step c.args.reading c.args.number c.from.result c.from-2.result c.from-3.result
whole c = machine_residue c.args.step c.args.reading c.args.number c.from.result c.from-2.result c.from-3.result c.ranges.step.fits c.ranges.reading c.ranges.number c.from.ensures c.from-2.ensures c.from-3.ensures

pub returns : goal.returns
returns c = record { is_what_the_number_leaves = (whole c).is_residue }
