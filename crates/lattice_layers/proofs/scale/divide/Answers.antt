use Rattle.std.proofs.Common.{◌≡◌, length, get_or, pos, SFits, w32, rules, arith}
use Rattle.lattice_layers.proofs.Multiples.{never_times, multiple, no_multiple, quotient_more, all_quotients}
use Rattle.lattice_layers.proofs.scale.divide.Goals as goal

pub returns-then-number-factor-ne0 : goal.returns-then-number-factor-ne0
returns-then-number-factor-ne0 c =
    let x = get_or c.args.numbers.now c.loop-i.i (pos 0) in
    let fits : SFits w32 x = search rules in
    never_times c.args.factor c.args.numbers.now c.loop-i.i c.loop-i-test.true (no_multiple c.args.factor x c.requires.in_range fits c.if-number-factor-ne0.true)

pub loop-i-preserved : goal.loop-i-preserved
loop-i-preserved c =
    let x = get_or c.args.numbers.now c.loop-i.i (pos 0) in
    let fits : SFits w32 x = search rules in
    quotient_more c.args.factor c.args.numbers.now c.loop-i.quotients c.loop-i.i _ c.loop-i-test.true (omega (arith, c.requires.as_many)) (multiple c.args.factor x c.requires.in_range fits c.if-number-factor-ne0.false) c.loop-i.invariant

pub returns : goal.returns
returns c =
    let last : c.loop-i.i ≡ length c.args.numbers.now = search rules in
    all_quotients c.args.factor c.args.numbers.now c.loop-i.quotients c.loop-i.i last (omega (arith, c.requires.as_many)) c.loop-i.invariant
