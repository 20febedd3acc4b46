use Rattle.std.proofs.Common.{◌≡◌, nat_abs}
use Rattle.integers.specs.Nearest.{residue}
use Rattle.lattice_layers.specs.ConstructionA.{nearest_even}
use Rattle.lattice_layers.proofs.EvenCell.{even_is_small, left_size, turned_size}
use Rattle.lattice_layers.proofs.construction_a.cells.Group.turned.Goals as goal
use Rattle.lattice_layers.proofs.construction_a.cells.Group.turned.Goals.{After-unsigned_abs-size}

size : (c : After-unsigned_abs-size) → c.unsigned_abs-size.result ≡ nat_abs (residue c.args.self.now.step c.args.reading (nearest_even c.args.self.now.step c.args.reading))
size c =
    let s = c.args.self.now in
    left_size s.step c.args.reading c.args.even c.residue_of-residue.result c.unsigned_abs-size.result s.some_step s.small_step c.requires.small c.requires.even c.residue_of-residue.ensures.is_what_the_number_leaves c.unsigned_abs-size.ensures.value

pub odd_beside-requires : goal.odd_beside-requires
odd_beside-requires c = record { small = even_is_small c.args.self.now.step c.args.reading c.args.even c.args.self.now.some_step c.requires.small c.requires.even }

pub overflow_sub-result : goal.overflow_sub-result
overflow_sub-result c = rw c.from.ensures (turned_size c.args.digit c.args.self.now.step c.args.reading c.unsigned_abs-size.result c.args.self.now.some_step c.requires.digit c.if-digit-eq0.false (size (goal.at.overflow_sub-result c).After-unsigned_abs-size)).0

pub returns-clause-size : goal.returns-clause-size
returns-clause-size c = rw c.from.ensures (turned_size c.args.digit c.args.self.now.step c.args.reading c.unsigned_abs-size.result c.args.self.now.some_step c.requires.digit c.if-digit-eq0.false (size (goal.at.returns-clause-size c).After-unsigned_abs-size)).1
