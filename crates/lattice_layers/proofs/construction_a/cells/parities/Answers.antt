use Rattle.std.proofs.Common.{◌∙◌, rules}
use Rattle.std.proofs.lemmas.Iterator.Adapters.{YieldsList-from_rev_slice}
use Rattle.std.proofs.lemmas.Iterator.Consumers.{fold_from_yields_List}
use Rattle.lattice_layers.proofs.Gathering.{gathers, gathered}
use Rattle.lattice_layers.proofs.construction_a.cells.parities.Goals as goal

pub returns : goal.returns
returns c =
    fold_from_yields_List _ gathers 0 c.fold.result c.fold.ensures.ran (YieldsList-from_rev_slice c.args.point.now (search rules)) (λ a x b q k. search rules)
    ∙ gathered c.args.point.now c.requires.few
