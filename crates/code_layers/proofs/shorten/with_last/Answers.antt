use Rattle.std.proofs.Common.{pos}
use Rattle.code_layers.proofs.Padding.{padded}
use Rattle.code_layers.proofs.shorten.with_last.Goals as goal

pub returns : goal.returns
returns c = rw c.copy_from_slice.ensures.after (padded (pos 0) 32 c.args.gains.now c.requires.few)
