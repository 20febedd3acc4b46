use Rattle.std.proofs.Common.{rules}
use Rattle.finders.specs.WordFinders.{Contains}
use Rattle.code_layers.specs.Shorten.{shortened}
use Rattle.code_layers.proofs.Shortening.{tells_shortened}
use Rattle.code_layers.proofs.shorten.ShortenWordTester.contains.Goals as goal
use Rattle.code_layers.proofs.shorten.ShortenWordTester.contains.Goals.{After-contains-else-branch}

as_second : (g : _) (c : After-contains-else-branch g) → Contains (shortened (g.F.WordFinder.meaning c.args.self.now.below)) c.args.word c.contains-else-branch.result
as_second g c =
    (tells_shortened _ c.in_ok-shape.shape c.args.word (g.met.F.WordFinder.lawful c.args.self.now.below) c.in_ok-shape.ensures.tells_the_shape c.in_ok-check_test.ensures.is_the_first_refusal).1
    c.contains-else-branch.result (rw c.if-branch.false at c.in_ok-contains.ensures.yes_exactly_for_members) c.contains-else-branch.ensures.yes_exactly_for_members

pub returns-then-branch : goal.returns-then-branch
returns-then-branch g c =
    let t = tells_shortened _ c.in_ok-shape.shape c.args.word (g.met.F.WordFinder.lawful c.args.self.now.below) c.in_ok-shape.ensures.tells_the_shape c.in_ok-check_test.ensures.is_the_first_refusal in
    record { yes_exactly_for_members = rw c.if-branch.true (t.0 (rw c.if-branch.true at c.in_ok-contains.ensures.yes_exactly_for_members)) }

pub returns-in_err-contains-2 : goal.returns-in_err-contains-2
returns-in_err-contains-2 g c = let t = rw c.in_err-contains-2.was at (as_second g (goal.at.returns-in_err-contains-2 g c).After-contains-else-branch) in search rules

pub returns-in_ok-contains-2 : goal.returns-in_ok-contains-2
returns-in_ok-contains-2 g c = record { yes_exactly_for_members = rw c.in_ok-contains-2.was at (as_second g (goal.at.returns-in_ok-contains-2 g c).After-contains-else-branch) }
