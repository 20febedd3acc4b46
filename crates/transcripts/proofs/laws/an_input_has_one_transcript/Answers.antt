use Rattle.std.proofs.Common.{◌++◌, refl}
use Rattle.records.specs.Reader.{ending_text}
use Rattle.transcripts.specs.Transcripts.{answers_to, lines, line}
use Rattle.transcripts.proofs.laws.an_input_has_one_transcript.Goals as goal

pub returns-clause-some_text : goal.returns-clause-some_text
returns-clause-some_text c input bytes =
    let r = c.every_input_is_read_in_one_way.ensures.it_is_read input bytes in
    (lines (answers_to r.0) ++ line (ending_text r.1), record { entries = r.0; ending = r.1; is_read = r.2; is_printed = refl })

pub returns-clause-no_other : goal.returns-clause-no_other
returns-clause-no_other c input text other h k =
    let one_way = c.every_input_is_read_in_one_way.ensures in
    let same = one_way.as_one_list input h.entries k.entries h.ending k.ending h.is_read k.is_read in
    let end = one_way.with_one_ending input h.entries k.entries h.ending k.ending h.is_read k.is_read in
    rw (k.is_printed, h.is_printed, same, end) refl
