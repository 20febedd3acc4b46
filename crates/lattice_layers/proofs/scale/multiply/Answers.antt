use Rattle.std.proofs.Common.{◌≤◌, ◌+◌, ◌^◌, get_or, pos, ◌*ℤ◌, ℤ, nat_abs, SFits, w32, rules, arith}
use Rattle.finders.proofs.Writing.{next_same, mapped_more}
use Rattle.lattice_layers.proofs.Multiples.{product_small, product_fits, product}
use Rattle.lattice_layers.proofs.scale.multiply.Goals as goal

abbrev next : goal.After-number-in-loop-number-1 → ℤ
next c = get_or c.loop-number.numbers c.loop-number.number-index (pos 0)

small : (c : goal.After-number-in-loop-number-1) → nat_abs (pos c.args.factor *ℤ next c) ≤ 2 ^ 30 + 2 ^ 20
small c = rw (next_same c.loop-number.invariant (pos 0)) at (product_small c.args.factor (2 ^ 30 + 2 ^ 20) c.args.numbers.now c.loop-number.number-index c.requires.small_products c.loop-number-test.true)

fits : (c : goal.After-number-in-loop-number-1) → SFits w32 (next c)
fits c = search rules

pub overflow_mul-number : goal.overflow_mul-number
overflow_mul-number c = product_fits c.args.factor (next c) c.requires.in_range (fits c) (small c)

pub loop-number-preserved : goal.loop-number-preserved
loop-number-preserved c = mapped_more c.loop-number.invariant c.loop-number-test.true (omega arith) (pos 0) _ (product c.args.factor (next c) c.requires.in_range (fits c) (small c))
