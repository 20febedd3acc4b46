use Rattle.std.proofs.Common.{rules}
use Rattle.std.proofs.lemmas.Iterator.{YieldsList-from_slice}
use Rattle.std.proofs.lemmas.Iterator.Search.{all_from_yields_List}
use Rattle.finders.specs.Words.{fits}
use Rattle.finders.proofs.checks.all_words_fit.Goals as goal

pub returns : goal.returns
returns c = record { tells_whether_all_fit = all_from_yields_List (fits c.args.width) _ _ c.all.result c.all.ensures.ran (YieldsList-from_slice c.args.words.now cc) (λ x b q k. search rules) }
