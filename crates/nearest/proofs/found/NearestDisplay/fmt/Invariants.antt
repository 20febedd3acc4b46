use Rattle.std.proofs.Common.{◌++◌, take, codes, vec_items}
use Rattle.std.specs.Fmt.{HasWritten, IsPlainFormatter}
use Rattle.nearest.specs.Found.{spaced}
use Rattle.nearest.proofs.found.NearestDisplay.fmt.Given as goal

abbrev pub invariant-loop-number : goal.invariant-loop-number
invariant-loop-number g l = IsPlainFormatter l.fn.f → HasWritten g.W.Write.write_str_gives l.fn.f (codes "point" ++ spaced (take l.number-index (vec_items l.self.point))) l.f
