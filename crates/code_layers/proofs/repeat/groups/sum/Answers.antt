use Rattle.std.proofs.Common.{◌≡◌, ◌+◌, ◌/◌, ◌^◌, arith, drop, get_or, length, pos, ◌+ℤ◌}
use Rattle.std.proofs.Math.Nat.{mul-le-mul_right, mul-div-le}
use Rattle.std.proofs.lemmas.Int.{ints}
use Rattle.std.proofs.lemmas.List.{at_drop_more}
use Rattle.integers.specs.Sums.{sumℤ}
use Rattle.finders.proofs.Within.{within_at}
use Rattle.code_layers.proofs.repeat.groups.sum.Goals as goal

pub overflow_add-sum : goal.overflow_add-sum
overflow_add-sum c =
    let gs = c.args.gains.now in
    let small = within_at (2 ^ 30 / length gs) gs c.loop-gain.gain-index c.requires.small c.loop-gain-test.true in
    omega (arith, ints, small, mul-le-mul_right (2 ^ 30 / length gs) c.loop-gain-test.true, mul-div-le (2 ^ 30) (length gs))

pub loop-gain-preserved : goal.loop-gain-preserved
loop-gain-preserved c =
    let gs = c.args.gains.now in
    let i = c.loop-gain.gain-index in
    let next : sumℤ (drop i gs) ≡ get_or gs i (pos 0) +ℤ sumℤ (drop (i + 1) gs) = at_drop_more sumℤ gs i (pos 0) c.loop-gain-test.true in
    let small = within_at (2 ^ 30 / length gs) gs i c.requires.small c.loop-gain-test.true in
    let most = mul-le-mul_right (2 ^ 30 / length gs) c.loop-gain-test.true in
    let all = mul-div-le (2 ^ 30) (length gs) in
    (omega (arith, ints, next, small, most, all), omega (arith, ints, small, most, all))
