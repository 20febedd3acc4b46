use Rattle.finders.proofs.Writing.{Mapped}
use Rattle.std.proofs.Common.{pos, ◌*ℤ◌}
use Rattle.lattice_layers.proofs.scale.multiply.Given as goal

-- each number that is done has become its product
abbrev pub invariant-loop-number : goal.invariant-loop-number
invariant-loop-number l = Mapped (λ x. pos l.fn.factor *ℤ x) l.number-index l.fn.numbers l.numbers
