use Rattle.std.proofs.Common.{arith}
use Rattle.std.proofs.lemmas.Int.{ints}
use Rattle.codes.proofs.ButterflyLaws.{partly_at, partly_more}
use Rattle.codes.proofs.reed_muller.transform.butterflies.Goals as goal

pub loop-i-preserved : goal.loop-i-preserved
loop-i-preserved c =
    let x = partly_at c.loop-i.invariant.0 _ c.requires.low_is_small c.loop-i-test.true in
    let y = partly_at c.loop-i.invariant.1 _ c.requires.high_is_small (omega (arith, c.requires.two_halves, c.loop-i-test.true)) in (
      partly_more c.loop-i.invariant.0 _ (omega (arith, c.loop-i.auto.low, c.loop-i-test.true)) (omega (arith, ints, x.0, x.1, y.0, y.1)),
      partly_more c.loop-i.invariant.1 _ (omega (arith, c.loop-i.auto.high, c.requires.two_halves, c.loop-i-test.true)) (omega (arith, ints, x.0, x.1, y.0, y.1)),
    )
