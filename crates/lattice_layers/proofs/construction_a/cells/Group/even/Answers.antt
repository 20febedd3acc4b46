use Rattle.std.proofs.Common.{arith}
use Rattle.std.proofs.lemmas.Int.{ints}
use Rattle.lattice_layers.proofs.EvenCell.{Halved, halved}
use Rattle.lattice_layers.proofs.construction_a.cells.Group.even.Goals as goal
use Rattle.lattice_layers.proofs.construction_a.cells.Group.even.Goals.{After-round-half}

half : (c : After-round-half) → Halved c.args.self.now.step c.args.reading c.round-half.result.number c.round-half.result.residue
half c = halved c.args.self.now.step c.args.reading _ _ c.args.self.now.some_step c.requires.small c.round-half.ensures.is_the_nearest_number c.round-half.ensures.leaves_the_residue

pub overflow_mul-result : goal.overflow_mul-result
overflow_mul-result c = omega (arith, ints, (half (goal.at.overflow_mul-result c).After-round-half).small_number)

pub abs-requires : goal.abs-requires
abs-requires c = omega (arith, ints, c.args.self.now.small_step, (half (goal.at.abs-requires c).After-round-half).small_residue)

pub overflow_mul-result-2 : goal.overflow_mul-result-2
overflow_mul-result-2 c = omega (arith, ints, c.args.self.now.small_step, c.abs.ensures.value, (half (goal.at.overflow_mul-result-2 c).After-round-half).small_residue)

pub overflow_sub-result : goal.overflow_sub-result
overflow_sub-result c = omega (arith, ints, c.args.self.now.small_step, c.abs.ensures.value, (half (goal.at.overflow_sub-result c).After-round-half).small_residue)

pub returns-clause-number : goal.returns-clause-number
returns-clause-number c =
    let h = half (goal.at.returns-clause-number c).After-round-half in
    omega (arith, ints, h.number, h.small_number)

pub returns-clause-gain : goal.returns-clause-gain
returns-clause-gain c =
    let h = half (goal.at.returns-clause-gain c).After-round-half in
    omega (arith, ints, c.args.self.now.small_step, c.abs.ensures.value, h.leaves, h.small_residue)
