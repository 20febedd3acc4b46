use Rattle.std.proofs.Common.{length, string_bytes}
use Rattle.records.specs.Reader.{rest_at}
use Rattle.transcripts.proofs.Transcribing.{SoFar}
use Rattle.transcripts.proofs.transcript.transcript.Given as goal

abbrev pub invariant-loop-record : goal.invariant-loop-record
invariant-loop-record l = SoFar l.input l.place (string_bytes l.text) l.session

abbrev pub decreases-loop-record : goal.decreases-loop-record
decreases-loop-record l = length (rest_at l.input l.place)
