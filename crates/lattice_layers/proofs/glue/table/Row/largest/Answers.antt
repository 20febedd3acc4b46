use Rattle.std.proofs.Common.{◌≡◌, max, nat_abs, ap, ◌∙◌, rules}
use Rattle.std.proofs.lemmas.Fn.{fold_over, fronts}
use Rattle.std.proofs.lemmas.Iterator.{YieldsList-from_slice}
use Rattle.lattice_layers.specs.Rows.{largest as largest_of}
use Rattle.lattice_layers.proofs.RowSteps.{largest_more}
use Rattle.lattice_layers.proofs.glue.table.Row.largest.Goals as goal

pub returns : goal.returns
returns c =
    fold_over fronts (λ y. y.now) _ (λ xs a. a ≡ largest_of xs) _
    (λ xs a x b f e k.
    let more : b ≡ max (nat_abs x.now) a = search rules in
    (more ∙ largest_more xs x.now a e, search rules))
    c.iter.result c.all.result.now _ c.fold.result (YieldsList-from_slice c.all.result.now cc).runs (search rules) c.fold.ensures.ran
    ∙ ap largest_of c.all.ensures
