use Rattle.blocks.proofs.Padding.{point_padded}
use Rattle.blocks.proofs.calls.padded.Goals as goal

pub returns : goal.returns
returns c = point_padded c.args.place.now _ c.min-count.result c.min-count.ensures c.copy_from_slice.ensures.after
