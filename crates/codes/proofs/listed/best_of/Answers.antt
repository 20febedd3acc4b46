use Rattle.std.proofs.Common.{ap, ◌∙◌, rules, get_or}
use Rattle.finders.specs.declared.choice.Greatest.{Greatest}
use Rattle.std.proofs.lemmas.Iterator.{YieldsList-from_slice, YieldsList-from_map}
use Rattle.finders.specs.Words.{correlation}
use Rattle.finders.specs.Choice.{no_less}
use Rattle.finders.proofs.FirstRuns.{found_first}
use Rattle.finders.proofs.Scores.{Great, great, great_decides}
use Rattle.codes.proofs.listed.best_of.Goals as goal

pub returns : goal.returns
returns c =
    let gs = c.args.gains.all.now in
    found_first (λ w. correlation w gs) great no_less Great great_decides 0 c.args.words.now c.first_best.result c.first_best.ensures.is_the_first_best
    (YieldsList-from_map _ (λ w. great (correlation w gs)) (YieldsList-from_slice c.args.words.now cc) c.map.ensures.closure (λ x r f k. search rules))
    _ (λ b i here score. (here, ap (λ k. get_or c.args.words.now k 0) i, ap (λ (s : Greatest). s.0) score ∙ ap (λ k. correlation (get_or c.args.words.now k 0) gs) i))
