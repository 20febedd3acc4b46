use Rattle.std.proofs.Common.{pos, nat_abs, ap, rules}
use Rattle.finders.specs.declared.choice.Least.{Least}
use Rattle.std.proofs.lemmas.Iterator.{YieldsList-from_slice, YieldsList-from_map}
use Rattle.finders.specs.Choice.{no_larger}
use Rattle.finders.proofs.FirstRuns.{found_first}
use Rattle.finders.proofs.Scores.{Little, small, small_decides}
use Rattle.codes.proofs.even_weight.weakest.Goals as goal

pub returns : goal.returns
returns c =
    found_first nat_abs small no_larger Little small_decides (pos 0) c.args.gains.now c.first_best.result c.first_best.ensures.is_the_first_best
    (YieldsList-from_map _ (λ g. small (nat_abs g)) (YieldsList-from_slice c.args.gains.now cc) c.map.ensures.closure (λ x r f k. search rules))
    _ (λ b i here size. (i, here, ap (λ (s : Least). s.0) size))
