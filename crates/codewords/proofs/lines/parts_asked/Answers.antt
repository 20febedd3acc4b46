use Rattle.std.proofs.Common.{ℕ, List, length, ◌∙◌, ap, ℤ, Err, Result}
use Rattle.std.proofs.lemmas.Result.{err_from_is_err_and}
use Rattle.tasks.specs.Lines.{texts}
use Rattle.tasks.specs.Numbers.{Reads, Signeds}
use Rattle.tasks.specs.declared.failure.Failure.{Failure}
use Rattle.tasks.proofs.Unless.{unless_at_all, unless_weaker}
use Rattle.tasks.proofs.Written.{signed, unsigned, read_words, read_words_first, not_read, not_read_first}
use Rattle.codewords.specs.declared.found.Codeword.{Codeword}
use Rattle.codewords.specs.Found.{told}
use Rattle.codewords.specs.Lines.{FindsWord, PartsAnswer}
use Rattle.codewords.specs.Sets.{listing_meaning}
use Rattle.codewords.specs.declared.words.Listing.{Listing}
use Rattle.codewords.proofs.lines.parts_asked.Goals as goal

abbrev Finds_in : Listing → List ℕ → List ℤ → Result Codeword Failure → Type 0
Finds_in k vs gs = FindsWord (listing_meaning k (length gs) vs) gs

abbrev Gains_in : Listing → List (List ℕ) → List ℕ → Result Codeword Failure → Type 0
Gains_in k gains vs = Reads Signeds gains (Finds_in k vs)

pub returns-in_err-list : goal.returns-in_err-list
returns-in_err-list c =
    let list = texts c.args.list.now in
    let gains = texts c.args.gains.now in
    let p = err_from_is_err_and c.from_residual.result c.from_residual.ensures.1 in
    rw (p.1, p.2) (not_read_first unsigned Signeds gains list (Finds_in c.args.listing) c.in_err-list.field-0.0 c.in_err-list.ensures.reads_the_numbers)

pub returns-in_err-gains : goal.returns-in_err-gains
returns-in_err-gains c =
    let list = texts c.args.list.now in
    let gains = texts c.args.gains.now in
    let vs = c.in_ok-list.list.items in
    let e = c.in_err-gains.field-0.0 in
    let p = err_from_is_err_and c.from_residual-in_err-gains.result c.from_residual-in_err-gains.ensures.1 in
    rw (p.1, p.2) (unless_weaker (Err e) (Gains_in c.args.listing gains vs) (PartsAnswer c.args.listing list gains) (λ r. read_words_first unsigned Signeds gains list (Finds_in c.args.listing) vs r c.in_ok-list.ensures.reads_the_numbers) (not_read signed gains (Finds_in c.args.listing vs) e c.in_err-gains.ensures.reads_the_numbers))

pub returns : goal.returns
returns c =
    let list = texts c.args.list.now in
    let gains = texts c.args.gains.now in
    let vs = c.deref.result.now in
    let found = c.told.ensures.tells_the_word_or_the_refusal ∙ ap told c.find.ensures.answers_the_pick_and_its_correlation in
    unless_at_all c.told.result (PartsAnswer c.args.listing list gains)
    (read_words_first unsigned Signeds gains list (Finds_in c.args.listing) vs c.told.result (rw c.deref.ensures.value c.in_ok-list.ensures.reads_the_numbers)
    (read_words signed gains (Finds_in c.args.listing vs) c.deref-2.result.now c.told.result (rw c.deref-2.ensures.value c.in_ok-gains.ensures.reads_the_numbers) found))
