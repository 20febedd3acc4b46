use Rattle.std.proofs.Common.{◌≡◌, ◌^◌, ◌-◌, ◌<◌, length, get_or, pos, ◌+ℤ◌, ◌∙◌, arith, rules, w32, SFits, to_z, of_z}
use Rattle.finders.proofs.WritingTwo.{written_over, written_within}
use Rattle.lattice_layers.proofs.RowSteps.{sum_fits}
use Rattle.lattice_layers.proofs.glue.table.add.Goals as goal

here : (c : goal.After-numbers-1) → c.loop-i.i < length c.loop-i.numbers
here c = omega (arith, c.loop-i.invariant.long)

-- the sum of the two numbers, which fits
added : (c : goal.After-numbers-1) → let x = get_or c.loop-i.numbers c.loop-i.i (pos 0) in let y = get_or c.args.more.now c.loop-i.i (pos 0) in
    SFits w32 (to_z w32 (of_z w32 x) +ℤ to_z w32 (of_z w32 y)) × (to_z w32 (of_z w32 (to_z w32 (of_z w32 x) +ℤ to_z w32 (of_z w32 y))) ≡ x +ℤ y)
added c =
    let f : SFits w32 (get_or c.loop-i.numbers c.loop-i.i (pos 0)) = search rules in
    let g : SFits w32 (get_or c.args.more.now c.loop-i.i (pos 0)) = search rules in
    sum_fits _ _ f g (written_within ◌+ℤ◌ (2 ^ 31 - 1) c.loop-i.numbers c.loop-i.numbers c.args.more.now c.loop-i.i (here c) (here c) (omega arith) (rw c.loop-i.invariant.all c.requires.fit))

pub overflow_add-numbers : goal.overflow_add-numbers
overflow_add-numbers c = (added c).0

pub loop-i-preserved : goal.loop-i-preserved
loop-i-preserved c = record {
  long = search rules;
  all = written_over ◌+ℤ◌ c.loop-i.numbers c.args.more.now c.loop-i.i _ (here c) (omega arith) (added c).1 ∙ c.loop-i.invariant.all;
}
