use Rattle.std.proofs.Common.{◌≤◌, ◌<◌, nat_abs, rules, tests}
use Rattle.std.proofs.lemmas.Iterator.{cases_from_all, YieldsList-from_slice}
use Rattle.finders.proofs.Within.{tells_within}
use Rattle.finders.proofs.checks.all_within.Goals as goal

pub returns : goal.returns
returns c = record {
  tells_whether_all_are_within =
      tells_within c.args.limit c.args.numbers.now c.all.result
      (cases_from_all _ _ _ (λ z. nat_abs z ≤ c.args.limit) (λ z. c.args.limit < nat_abs z) c.all.ensures.ran (YieldsList-from_slice c.args.numbers.now cc) (λ x q k. search (rules, tests)) (λ x q k. search (rules, tests)));
}
