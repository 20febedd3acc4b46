use Rattle.std.proofs.Common.{◌∙◌, ap, take}
use Rattle.std.proofs.lemmas.List.{with_items_is}
use Rattle.transcripts.proofs.Fills.{none_read, some_read}
use Rattle.transcripts.proofs.input.read_input.Goals as goal

pub returns-in_default-clause-all_that_the_reader_gives : goal.returns-in_default-clause-all_that_the_reader_gives
returns-in_default-clause-all_that_the_reader_gives g c =
    let long = c.read_all.auto.buffer ∙ c.deref_mut.ensures.len in
    none_read _ _ _ c.read_all.new.buffer (long ∙ c.in_ok-bytes.ensures.len) c.in_default.is c.in_ok-count.ensures.all_that_the_reader_gives

pub returns-clause-all_that_the_reader_gives : goal.returns-clause-all_that_the_reader_gives
returns-clause-all_that_the_reader_gives g c =
    let long = c.read_all.auto.buffer ∙ c.deref_mut.ensures.len in
    let bytes = c.truncate.ensures.items ∙ ap (take c.in-Some.count) (with_items_is c.in_ok-bytes.bytes c.read_all.new.buffer long) in
    some_read _ _ _ c.in-Some.count c.read_all.new.buffer _ (long ∙ c.in_ok-bytes.ensures.len) c.in-Some.is bytes
    c.in_ok-count.ensures.all_that_the_reader_gives
