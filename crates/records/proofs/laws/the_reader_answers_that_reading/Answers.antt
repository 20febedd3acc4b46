use Rattle.records.proofs.Asking.{answers_are_read}
use Rattle.records.proofs.Standing.{later}
use Rattle.records.proofs.laws.the_reader_answers_that_reading.Goals as goal

pub returns : goal.returns
returns c = record { it_is_the_reading = answers_are_read; each_next_place_is_later = later }
