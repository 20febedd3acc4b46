use Rattle.std.proofs.Common.{eqb, length, sym, ap, ◌∙◌, rules}
use Rattle.std.proofs.lemmas.Iterator.{YieldsList-from_slice}
use Rattle.std.proofs.lemmas.Iterator.Search.{all_from_yields_List}
use Rattle.lattice_layers.specs.Rows.{all_as_wide}
use Rattle.lattice_layers.specs.Table.{numbers_in}
use Rattle.std.proofs.lemmas.List.Folds.{list_all-map}
use Rattle.lattice_layers.proofs.glue.table.Table.all_as_wide.Goals as goal

pub returns : goal.returns
returns c =
    all_from_yields_List (λ r. eqb (length (numbers_in r)) c.args.width) _ _ c.all-2.result c.all-2.ensures.ran (YieldsList-from_slice c.all.result.now cc) (λ x b q k. search rules)
    ∙ sym (list_all-map (λ r. eqb (length r) c.args.width) numbers_in c.all.result.now)
    ∙ ap (all_as_wide c.args.width) c.all.ensures.rows
