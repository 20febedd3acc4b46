use Rattle.std.proofs.Common.{take, Ok, vec_items}
use Rattle.std.specs.List.{AllZip}
use Rattle.tasks.specs.Lines.{texts}
use Rattle.tasks.proofs.numbers.numbers.Given as goal

abbrev pub invariant-loop-word : goal.invariant-loop-word
invariant-loop-word g l = AllZip (λ w x. g.T.FromStr.from_str_gives w (Ok x)) (texts (take l.word-index l.words)) (vec_items l.numbers)
