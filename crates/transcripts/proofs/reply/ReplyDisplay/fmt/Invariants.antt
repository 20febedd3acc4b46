use Rattle.std.proofs.Common.{◌++◌, take, codes}
use Rattle.std.specs.Fmt.{HasWritten, IsPlainFormatter}
use Rattle.transcripts.specs.Replies.{spaced}
use Rattle.transcripts.proofs.reply.ReplyDisplay.fmt.Given as goal

abbrev pub invariant-loop-number : goal.invariant-loop-number
invariant-loop-number g l =
    let so_far = codes "point" ++ spaced (take l.number-index l.number-items) in
    IsPlainFormatter l.fn.f → HasWritten g.W.Write.write_str_gives l.fn.f so_far l.f
