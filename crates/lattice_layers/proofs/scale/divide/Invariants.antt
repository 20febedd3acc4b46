use Rattle.std.proofs.Common.{◌≡◌, take}
use Rattle.lattice_layers.specs.Scale.{times}
use Rattle.lattice_layers.proofs.scale.divide.Given as goal

-- the quotients so far are those of the numbers before
abbrev pub invariant-loop-i : goal.invariant-loop-i
invariant-loop-i l = times l.fn.factor (take l.i l.quotients) ≡ take l.i l.numbers
