use Rattle.std.proofs.Common.{Ok, vec_items}
use Rattle.tasks.proofs.Written.{numbers_more}
use Rattle.tasks.proofs.numbers.numbers.Goals as goal

pub loop-word-preserved : goal.loop-word-preserved
loop-word-preserved g c = numbers_more c.args.words.now _ c.loop-word.word-index c.loop-word-test.true (λ w x. g.T.FromStr.from_str_gives w (Ok x)) (vec_items c.loop-word.numbers) (vec_items c.push.new.self) c.in_ok-parse.field-0 c.loop-word.invariant c.in_ok-parse.ensures.value c.in_ok-push.ensures.items
