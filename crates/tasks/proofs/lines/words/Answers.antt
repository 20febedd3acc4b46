use Rattle.std.proofs.lemmas.Result.{IfOk-weaker}
use Rattle.tasks.specs.Lines.{texts, Words}
use Rattle.tasks.proofs.Split.{words_given}
use Rattle.tasks.proofs.lines.words.Goals as goal

pub returns : goal.returns
returns c = record { are_the_words_of_the_line = IfOk-weaker c.collect.result _ (λ v. Words c.args.line.now (texts v.items)) (λ v h. words_given _ c.args.line.now v.items h.0 c.split_whitespace.ensures.rest h.1 h.2.0) c.collect.ensures.ran }
