use Rattle.std.proofs.Common.{◌≡◌, false, rules}
use Rattle.finders.proofs.Choosing.{chosen_more, then}
use Rattle.finders.proofs.choice.FirstBest.offer.Goals as goal

pub returns-clause-holds_the_first_best : goal.returns-clause-holds_the_first_best
returns-clause-holds_the_first_best g c = λ offers h.
    let r = c.is_some_and.result in
    rw c.if-is_some_and.false at (chosen_more g.S.Score.good g.met.S.Score.total g.met.S.Score.chain offers c.args.self.now.held (c.args.candidate, c.args.score) r (then (r ≡ false) c.args.self.now.held c.is_some_and.ensures (λ b p. search rules)) h)
