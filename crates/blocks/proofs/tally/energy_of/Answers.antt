use Rattle.std.proofs.Common.{◌+◌, get_or, pos, ◌∙◌, arith, rules, w16, SFits}
use Rattle.blocks.proofs.TallySteps.{EnergyOf, one_reading_more, energy_fits}
use Rattle.blocks.proofs.tally.energy_of.Goals as goal

more : (c : goal.After-from-energy) →
    EnergyOf c.args.readings.now (c.loop-reading.reading-index + 1) (c.loop-reading.energy + c.from-energy.result)
more c =
    let fits : SFits w16 (get_or c.args.readings.now c.loop-reading.reading-index (pos 0)) = search rules in
    let squared = c.from-energy.ensures ∙ c.reading_squared.ensures.is_the_square in
    one_reading_more c.loop-reading.invariant c.loop-reading-test.true c.from-energy.result fits squared

pub overflow_add-energy : goal.overflow_add-energy
overflow_add-energy c = omega (arith, energy_fits (more c) c.requires)

pub loop-reading-preserved : goal.loop-reading-preserved
loop-reading-preserved c = more c
