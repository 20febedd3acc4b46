use Rattle.std.proofs.Common.{◌≡◌, ◌∙◌, sym, ap, ◌++◌, ◌*◌, ◌≤◌, get_or, length, drop, arith}
use Rattle.std.proofs.Math.Seq.{take-append_seam}
use Rattle.std.proofs.lemmas.List.{take_rest, drop-drop, take-append-drop, length-take, length-drop}
use Rattle.records.proofs.Fronts.{Marked, no_record, sense_begins}
use Rattle.records.proofs.ReadingBytes.{readings_length}
use Rattle.records.proofs.reader.first_record.Goals as goal

pub returns-in_err-bytes-in-165-2-clause-or_they_begin_no_record :
    goal.returns-in_err-bytes-in-165-2-clause-or_they_begin_no_record
returns-in_err-bytes-in-165-2-clause-or_they_begin_no_record c =
    rw c.from_residual.ensures (no_record c.args.bytes.now (λ f. grind (arith, f.sense, length-take, length-drop)))

pub returns-in_ok-bytes-in-165-2-clause-the_bytes_begin_with_it :
    goal.returns-in_ok-bytes-in-165-2-clause-the_bytes_begin_with_it
returns-in_ok-bytes-in-165-2-clause-the_bytes_begin_with_it c =
    let bytes = c.args.bytes.now in
    let body = c.in_ok-bytes-in-165-2.bytes.now in
    let rest = c.in_ok-bytes-in-165-2.rest.now in
    let len : 3 ≤ length bytes = grind arith in
    let marked : Marked bytes 2 = record { two = omega arith; mark = grind arith; sort_is = grind arith } in
    let half : length body ≡ 2 * get_or bytes 2 0 = grind arith in
    let behind = take_rest bytes 3 in
    let whole = take-append-drop (2 * get_or bytes 2 0) (drop 3 bytes) in
    let parts : drop 3 bytes ≡ body ++ rest = grind arith in
    sense_begins bytes body rest (λ i. omega (arith, c.type_inv.bytes i)) marked len parts half

pub returns-in_ok-bytes-in-165-2-clause-lends_the_bytes_of_a_sense :
    goal.returns-in_ok-bytes-in-165-2-clause-lends_the_bytes_of_a_sense
returns-in_ok-bytes-in-165-2-clause-lends_the_bytes_of_a_sense c input from =
    let bytes = c.args.bytes.now in
    let body = c.in_ok-bytes-in-165-2.bytes.now in
    let rest = c.in_ok-bytes-in-165-2.rest.now in
    let half : length body ≡ 2 * get_or bytes 2 0 = grind arith in
    let behind = take_rest bytes 3 in
    let whole = take-append-drop (2 * get_or bytes 2 0) (drop 3 bytes) in
    let parts : drop 3 bytes ≡ body ++ rest = grind arith in
    let from_place = sym (drop-drop 3 c.args.place input) ∙ ap (drop 3) from in
    record { is_that_part = rw (from_place, parts) (sym (take-append_seam body rest)); two_for_each_reading = omega (arith, half, readings_length body) }
