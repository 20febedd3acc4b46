use Rattle.transcripts.proofs.Fills.{filled, unfilled}
use Rattle.transcripts.proofs.input.fill.Goals.{in-Ok, in-Err}
use Rattle.transcripts.proofs.input.fill.Goals as goal

pub loop-preserved : goal.loop-preserved
loop-preserved g c =
    let before = c.loop.invariant in
    elim c.match-read.branch [
      | in-Ok w ↦
          let read = w.in-Ok.ensures in
          rw w.count-is (filled _ _ _ c.loop.buffer c.read.new.buf c.loop.count w.in-Ok.more _ before.0 read.bound.0 before.1 read.bytes.0)
      | in-Err w ↦ rw w.count-is (unfilled _ _ _ c.loop.buffer c.read.new.buf c.loop.count _ before.0 before.1 w.in-Err.ensures.bytes)
    ]
