use Rattle.std.proofs.Common.{◌≡◌, ℕ, List, ◌∷◌, length, ℤ, Err, Result, rules}
use Rattle.std.proofs.lemmas.Result.{err_from_is_err_and}
use Rattle.tasks.specs.Lines.{texts}
use Rattle.tasks.specs.declared.failure.Failure.{Failure}
use Rattle.tasks.specs.Numbers.{Reads, Signeds}
use Rattle.tasks.proofs.Unless.{unless_weaker}
use Rattle.tasks.proofs.Written.{signed, unsigned, read_word_first, read_words, not_read}
use Rattle.nearest.specs.declared.found.Nearest.{Nearest}
use Rattle.nearest.specs.declared.sets.Lattice.{Lattice}
use Rattle.nearest.specs.Lines.{Finds, Asks}
use Rattle.nearest.specs.Sets.{meaning_of}
use Rattle.nearest.proofs.lines.point_asked.Goals as goal

abbrev Finds_at : Lattice → ℕ → List ℤ → Result Nearest Failure → Type 0
Finds_at l q rs = Finds (meaning_of l (length rs)) rs q

pub returns-in_err-numbers : goal.returns-in_err-numbers
returns-in_err-numbers c =
    let cut : c.args.words.now ≡ c.in_ok-step.step.now ∷ c.in_ok-step.rest.now = search rules in
    let word = c.in_ok-step.step.now.now in
    let ws = texts c.in_ok-step.rest.now in
    let q = c.in_ok-step-2.step in
    let l = c.args.lattice in
    let e = c.in_err-numbers.field-0.0 in
    let p = err_from_is_err_and c.from_residual-in_err-numbers.result c.from_residual-in_err-numbers.ensures.1 in
    rw (cut, p.1, p.2) (unless_weaker (Err e) (Reads Signeds ws (Finds_at l q)) (Asks l (word ∷ ws)) (λ r. read_word_first unsigned Signeds ws word (Finds_at l) q r c.in_ok-step-2.ensures.value) (not_read signed ws (Finds_at l q) e c.in_err-numbers.ensures.reads_the_numbers))

pub returns : goal.returns
returns c =
    let cut : c.args.words.now ≡ c.in_ok-step.step.now ∷ c.in_ok-step.rest.now = search rules in
    let word = c.in_ok-step.step.now.now in
    let ws = texts c.in_ok-step.rest.now in
    let q = c.in_ok-step-2.step in
    let l = c.args.lattice in
    rw cut (unless_weaker c.nearest.result (Finds_at l q c.deref.result.now) (Asks l (word ∷ ws)) (λ r f. read_word_first unsigned Signeds ws word (Finds_at l) q r c.in_ok-step-2.ensures.value (read_words signed ws (Finds_at l q) _ r (rw c.deref.ensures.value c.in_ok-numbers.ensures.reads_the_numbers) f)) c.nearest.ensures)
