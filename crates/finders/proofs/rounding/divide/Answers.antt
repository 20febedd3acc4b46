use Rattle.finders.proofs.RoundingBits.{machine_divides}
use Rattle.finders.proofs.rounding.divide.Goals as goal

pub returns : goal.returns
returns c = machine_divides c.args.step c.args.reading c.from-reading.result c.from-step.result c.requires c.ranges.step.fits c.ranges.reading c.from-reading.ensures c.from-step.ensures
