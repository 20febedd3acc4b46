use Rattle.std.proofs.Common.{◌^◌, ◌-◌, ◌<◌, length, get_or, pos, ◌+ℤ◌, ◌∙◌, arith, rules, w16, w32, SFits}
use Rattle.finders.proofs.WritingTwo.{written_over, written_within}
use Rattle.blocks.proofs.TallySteps.{MadeSum, sum_made}
use Rattle.blocks.proofs.tally.add_each.Goals as goal

room : (c : goal.After-sums-1) → c.loop-i.i < length c.loop-i.sums
room c = omega (arith, c.loop-i.invariant.as_many)

-- the sum of the cell with its reading
here : (c : goal.After-sums-1) → let i = c.loop-i.i in
    MadeSum (get_or c.loop-i.sums i (pos 0)) (get_or c.args.readings.now i (pos 0)) c.from.result
here c =
    let i = c.loop-i.i in
    let sums = c.loop-i.sums in
    let readings = c.args.readings.now in
    let f : SFits w32 (get_or sums i (pos 0)) = search rules in
    let g : SFits w16 (get_or readings i (pos 0)) = search rules in
    sum_made _ _ c.from.result f g c.from.ensures
    (written_within ◌+ℤ◌ (2 ^ 31 - 1) sums sums readings i (room c) (room c) c.loop-i-test.true
    (rw c.loop-i.invariant.all c.requires.fit))

pub overflow_add-sums : goal.overflow_add-sums
overflow_add-sums c = (here c).fits

pub loop-i-preserved : goal.loop-i-preserved
loop-i-preserved c = record {
  as_many = search rules;
  all =
      written_over ◌+ℤ◌ c.loop-i.sums c.args.readings.now c.loop-i.i _ (room c) c.loop-i-test.true (here c).is_the_sum ∙
      c.loop-i.invariant.all;
}
