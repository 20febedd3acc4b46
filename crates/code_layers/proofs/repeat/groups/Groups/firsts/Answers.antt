use Rattle.std.proofs.Common.{◌∙◌, rules}
use Rattle.std.proofs.lemmas.Iterator.Consumers.{fold_from_yields_List}
use Rattle.code_layers.proofs.CountingDown.{YieldsList-from_rev_range, fold_serves}
use Rattle.code_layers.proofs.GroupDigits.{place_small, gathers, gather}
use Rattle.code_layers.proofs.repeat.groups.Groups.firsts.Goals as goal

pub fold-requires-clause-callable : goal.fold-requires-clause-callable
fold-requires-clause-callable c =
    let s = c.args.self in
    fold_serves s.count c.rev.ensures.source (λ p x q k. search rules) _ 0 (λ x v h. let small = place_small s.size s.count x h s.some_cell s.few in search rules)

pub returns : goal.returns
returns c =
    let s = c.args.self in
    fold_from_yields_List _ (gathers s.size c.args.word) 0 c.fold.result c.fold.ensures.ran (YieldsList-from_rev_range s.count c.rev.ensures.source) (λ a x b q k. search rules)
    ∙ gather s.size c.args.word s.count s.some_cell s.few
