use Rattle.std.proofs.Common.{sym, ap, ◌∙◌, rules}
use Rattle.std.proofs.lemmas.Iterator.{YieldsList-from_slice}
use Rattle.std.proofs.lemmas.Iterator.Search.{all_from_yields_List}
use Rattle.finders.specs.Points.{within}
use Rattle.lattice_layers.specs.Rows.{all_within}
use Rattle.lattice_layers.specs.Table.{numbers_in}
use Rattle.std.proofs.lemmas.List.Folds.{list_all-map}
use Rattle.lattice_layers.proofs.glue.table.Table.all_within.Goals as goal

pub returns : goal.returns
returns c =
    all_from_yields_List (λ r. within c.args.limit (numbers_in r)) _ _ c.all-2.result c.all-2.ensures.ran (YieldsList-from_slice c.all.result.now cc) (λ x b q k. search rules)
    ∙ sym (list_all-map (within c.args.limit) numbers_in c.all.result.now)
    ∙ ap (all_within c.args.limit) c.all.ensures.rows
