use Rattle.std.proofs.Common.{Ok, Err, sym}
use Rattle.std.proofs.lemmas.Result.{err_from_is_err_and}
use Rattle.code_layers.proofs.RepeatAnswers.{TestGranted, told_below, told_none}
use Rattle.code_layers.proofs.repeat.RepeatWordTester.contains.Given.{Over}
use Rattle.code_layers.proofs.repeat.RepeatWordTester.contains.Goals as goal
use Rattle.code_layers.proofs.repeat.RepeatWordTester.contains.Goals.{After-repeated}

granted : (g : Over) (c : After-repeated g) → TestGranted c.in_ok-shape.groups.size c.in_ok-shape.groups.count c.args.word c.firsts-firsts.result c.repeated.result (g.F.WordFinder.meaning c.args.self.now.below) c.in_ok-shape.shape
granted g c = record {
  lawful = g.met.F.WordFinder.lawful c.args.self.now.below;
  has_shape = rw (sym c.in_ok-shape.ensures.1) at c.in_ok-shape.ensures.0;
  granted = c.in_ok-check_test.ensures.is_the_first_refusal;
  wide = c.in_ok-shape.ensures.2;
  first_digits = c.firsts-firsts.ensures;
  repeats = c.repeated.ensures;
}

pub returns-in_err-contains : goal.returns-in_err-contains
returns-in_err-contains g c =
    let p = err_from_is_err_and c.from_residual-in_err-contains.result c.from_residual-in_err-contains.ensures.1 in
    let told = told_below (granted g (goal.at.returns-in_err-contains g c).After-repeated) (Err c.in_err-contains.field-0.0) c.if-repeated-word.true c.in_err-contains.ensures.yes_exactly_for_members in
    record { yes_exactly_for_members = rw (p.1, p.2, sym c.in_ok-shape.ensures.1) told }

pub returns-in_ok-contains : goal.returns-in_ok-contains
returns-in_ok-contains g c = record { yes_exactly_for_members = rw (sym c.in_ok-shape.ensures.1) (told_below (granted g (goal.at.returns-in_ok-contains g c).After-repeated) (Ok c.in_ok-contains.field-0) c.if-repeated-word.true c.in_ok-contains.ensures.yes_exactly_for_members) }

pub returns-else-repeated-word : goal.returns-else-repeated-word
returns-else-repeated-word g c = record { yes_exactly_for_members = rw (sym c.in_ok-shape.ensures.1) (told_none (granted g (goal.at.returns-else-repeated-word g c).After-repeated) c.if-repeated-word.false) }
