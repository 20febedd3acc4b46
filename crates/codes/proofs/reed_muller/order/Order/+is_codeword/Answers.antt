use Rattle.std.proofs.Common.{◌≡◌, ℕ, ◌*◌, ◌%◌, ◌^◌, ◌≤◌, pow_pos}
use Rattle.codes.proofs.HalvesLaws.{half_few, half_power, test_passes, test_fails}
use Rattle.codes.proofs.reed_muller.order.Order.+is_codeword.Goals as goal
use Rattle.codes.proofs.reed_muller.order.Order.+is_codeword.Goals.{After-cells-cells}

few : (t : ℕ) (c : After-cells-cells t) → c.cells-cells.result ≤ 16
few t c = half_few c.args.self.m c.in-Some.half.m c.cells-cells.result c.args.self.small c.in-Some.ensures c.cells-cells.ensures.power

power : (t : ℕ) (c : After-cells-cells t) → (1 * 2 ^ c.cells-cells.result) % 2 ^ 32 ≡ 2 ^ (2 ^ c.in-Some.half.m)
power t c = half_power c.in-Some.half.m c.cells-cells.result (few t c) c.cells-cells.ensures.power

pub nonzero_rem-low : goal.nonzero_rem-low
nonzero_rem-low t c = rw (power t c) (pow_pos (2 ^ c.in-Some.half.m))

pub returns-then-are_alike : goal.returns-then-are_alike
returns-then-are_alike t c = test_passes _ _ _ _ c.args.word c.in-Some.ensures c.cells-cells.ensures.power (power t (goal.at.returns-then-are_alike t c).After-cells-cells) _ (c.are_alike.ensures.0 c.if-are_alike.true) c.is_codeword.ensures

pub returns-else-are_alike : goal.returns-else-are_alike
returns-else-are_alike t c = test_fails _ _ _ _ c.args.word c.in-Some.ensures c.cells-cells.ensures.power (power t (goal.at.returns-else-are_alike t c).After-cells-cells) _ c.if-are_alike.false c.are_alike.ensures
