use Rattle.std.proofs.Common.{List, length, ◌∙◌, ap, ℤ, Result}
use Rattle.std.proofs.lemmas.Result.{err_from_is_err_and}
use Rattle.tasks.specs.Lines.{texts}
use Rattle.tasks.specs.Numbers.{Reads, Signeds}
use Rattle.tasks.specs.declared.failure.Failure.{Failure}
use Rattle.tasks.proofs.Unless.{unless_at_all}
use Rattle.tasks.proofs.Written.{signed, read_words, not_read}
use Rattle.codewords.specs.declared.found.Codeword.{Codeword}
use Rattle.codewords.specs.declared.words.Code.{Code}
use Rattle.codewords.specs.Found.{told}
use Rattle.codewords.specs.Lines.{FindsWord}
use Rattle.codewords.specs.Sets.{code_meaning}
use Rattle.codewords.proofs.lines.codewords_asked.Goals as goal

abbrev Finds_in : Code → List ℤ → Result Codeword Failure → Type 0
Finds_in k gs = FindsWord (code_meaning k (length gs)) gs

pub returns-in_err-gains : goal.returns-in_err-gains
returns-in_err-gains c =
    let ws = texts c.args.words.now in
    let p = err_from_is_err_and c.from_residual.result c.from_residual.ensures.1 in
    rw (p.1, p.2) (not_read signed ws (Finds_in c.args.code) c.in_err-gains.field-0.0 c.in_err-gains.ensures.reads_the_numbers)

pub returns : goal.returns
returns c =
    let ws = texts c.args.words.now in
    let found = c.told.ensures.tells_the_word_or_the_refusal ∙ ap told c.find.ensures.answers_the_pick_and_its_correlation in
    unless_at_all c.told.result (Reads Signeds ws (Finds_in c.args.code)) (read_words signed ws (Finds_in c.args.code) c.deref.result.now c.told.result (rw c.deref.ensures.value c.in_ok-gains.ensures.reads_the_numbers) found)
