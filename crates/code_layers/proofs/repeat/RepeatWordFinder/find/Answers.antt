use Rattle.std.proofs.Common.{Ok, Err, FitsSigned, sym, w64, rules}
use Rattle.std.proofs.lemmas.Int.{to_z-of_z}
use Rattle.std.proofs.lemmas.Result.{err_from_is_err_and}
use Rattle.code_layers.proofs.RepeatAnswers.{FindGranted, sums_fit, answers_below}
use Rattle.code_layers.proofs.repeat.RepeatWordFinder.find.Given.{Over}
use Rattle.code_layers.proofs.repeat.RepeatWordFinder.find.Goals as goal
use Rattle.code_layers.proofs.repeat.RepeatWordFinder.find.Goals.{In_ok-check_find}

granted : (g : Over) (c : In_ok-check_find g) → FindGranted c.in_ok-shape.groups.size c.in_ok-shape.groups.count c.args.gains.now (g.F.WordFinder.meaning c.args.self.now.below) c.in_ok-shape.shape
granted g c = record {
  lawful = g.met.F.WordFinder.lawful c.args.self.now.below;
  has_shape = rw (sym c.in_ok-shape.ensures.1) at c.in_ok-shape.ensures.0;
  granted = c.in_ok-check_find.ensures.is_the_first_refusal;
  wide = c.in_ok-shape.ensures.2;
}

pub sums-sums-requires-clause-small : goal.sums-sums-requires-clause-small
sums-sums-requires-clause-small g c = sums_fit (granted g (goal.at.sums-sums-requires-clause-small g c).In_ok-check_find)

pub returns-in_err-word : goal.returns-in_err-word
returns-in_err-word g c =
    let p = err_from_is_err_and c.from_residual-in_err-word.result c.from_residual-in_err-word.ensures.1 in
    let answer = answers_below (granted g (goal.at.returns-in_err-word g c).In_ok-check_find) _ (Err c.in_err-word.field-0.0) c.sums-sums.ensures c.in_err-word.ensures.answers_the_pick_and_its_correlation in
    record { answers_the_pick_and_its_correlation = rw (p.1, p.2, sym c.in_ok-shape.ensures.1) answer }

pub returns : goal.returns
returns g c =
    let fits : FitsSigned w64 c.in_ok-word.correlation = search rules in
    let answer = answers_below (granted g (goal.at.returns g c).In_ok-check_find) _ (Ok (c.in_ok-word.word, c.in_ok-word.correlation)) c.sums-sums.ensures c.in_ok-word.ensures.answers_the_pick_and_its_correlation in
    record { answers_the_pick_and_its_correlation = rw (c.repeated.ensures, to_z-of_z w64 c.in_ok-word.correlation fits, sym c.in_ok-shape.ensures.1) answer }
