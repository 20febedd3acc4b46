use Rattle.std.proofs.Common.{rules, string_bytes}
use Rattle.transcripts.proofs.Transcribing.{none_yet, one_more, ended, less_is_left}
use Rattle.transcripts.specs.Replies.{told}
use Rattle.transcripts.proofs.transcript.transcript.Goals as goal

pub loop-record-init : goal.loop-record-init
loop-record-init c = search (rules, none_yet)

pub loop-record-smaller : goal.loop-record-smaller
loop-record-smaller c = search (rules, less_is_left)

pub loop-record-preserved : goal.loop-record-preserved
loop-record-preserved c =
    let step = one_more c.args.input.now c.loop-record.place (string_bytes c.loop-record.text) (string_bytes c.write_answer.new.text) in
    step c.loop-record.session c.answer.new.self c.in-Ok.field-0 (told c.answer.result) c.loop-record.invariant
    c.in-Ok.ensures.a_record_stands_there c.answer.ensures.answers c.answer.ensures.holds c.in_ok-write_answer-in-Ok.ensures

pub returns-in-Err-clause-tells_each_record_and_the_ending : goal.returns-in-Err-clause-tells_each_record_and_the_ending
returns-in-Err-clause-tells_each_record_and_the_ending c =
    let last = ended c.args.input.now c.loop-record.place (string_bytes c.loop-record.text) (string_bytes c.writeln.new.self) in
    last c.loop-record.session c.in-Err.ending c.loop-record.invariant c.in-Err.ensures.ends_exactly_where_no_record_stands
    c.in_ok-writeln-in-Err.ensures.bytes
