use Rattle.std.proofs.Common.{rules, ◌+◌, ◌/◌, ◌%◌, ◌^◌, ◌≡◌, ◌+ℤ◌, arith, drop, get_or, pos}
use Rattle.std.proofs.lemmas.Int.{ints}
use Rattle.std.proofs.lemmas.List.{at_drop_more}
use Rattle.finders.specs.Words.{signed, correlation}
use Rattle.finders.proofs.Correlation.{signed_size}
use Rattle.finders.proofs.Within.{within_at}
use Rattle.codes.proofs.gains.Gains.correlation.Goals as goal

pub loop-gain-preserved : goal.loop-gain-preserved
loop-gain-preserved c =
    let gs = c.args.self.all.now in
    let i = c.loop-gain.gain-index in
    let g = get_or gs i (pos 0) in
    let next : correlation c.loop-gain.rest (drop i gs) ≡ signed (c.loop-gain.rest % 2) g +ℤ correlation (c.loop-gain.rest / 2) (drop (i + 1) gs) = at_drop_more (correlation c.loop-gain.rest) gs i (pos 0) c.loop-gain-test.true in
    let small = within_at (2 ^ 30) gs i c.args.self.small c.loop-gain-test.true in
    let size = signed_size (c.loop-gain.rest % 2) g in
    let read : c.signed-sum.result ≡ signed (c.loop-gain.rest % 2) g = search rules in
    (omega (arith, ints, next, small, size, read), omega (arith, ints, small, size, read))
