use Rattle.std.proofs.Common.{◌≡◌, ◌+◌, ◌*◌, ◌<◌, length, get_or, sym, ◌∙◌, pos, rules, arith, w16, SFits}
use Rattle.std.proofs.lemmas.Int.{to_z-of_z}
use Rattle.records.specs.Records.{readings_in}
use Rattle.records.proofs.ReadingBytes.{readings_length, reading_of, reading_at, written_more}
use Rattle.records.proofs.readings.read_readings.Goals as goal

pub loop-i-preserved : goal.loop-i-preserved
loop-i-preserved c =
    let bytes = c.args.bytes.now in
    let i = c.loop-i.i in
    let r = c.from_be_bytes.result in
    let count = readings_length bytes in
    let within : 2 * i + 1 < length bytes = omega arith in
    let fits : SFits w16 r = search rules in
    let read : r ≡ reading_of (get_or bytes (2 * i) 0) (get_or bytes (2 * i + 1) 0) = search rules in
    written_more (readings_in bytes) c.args.place.now c.loop-i.place i _ (omega arith) (omega arith) c.loop-i.invariant
    (to_z-of_z w16 r fits ∙ read ∙ sym (reading_at bytes i (pos 0) within))
