use Rattle.std.proofs.Common.{◌≡◌, ◌^◌, get_or, pos, ◌∙◌, arith, rules, w32, w64, SFits, to_z, of_z}
use Rattle.integers.specs.Nearest.{residue}
use Rattle.finders.proofs.WritingTwo.{written_more, written_within}
use Rattle.lattice_layers.proofs.RowSteps.{left_fits}
use Rattle.lattice_layers.proofs.glue.take_off.Goals as goal

-- what is left of the reading, which fits
left : (c : goal.After-residue_of) → SFits w32 (to_z w64 (of_z w64 c.residue_of.result)) × (to_z w32 (of_z w32 (to_z w64 (of_z w64 c.residue_of.result))) ≡ residue c.args.step (get_or c.args.readings.now c.loop-i.i (pos 0)) (get_or c.args.numbers.now c.loop-i.i (pos 0)))
left c =
    let f : SFits w32 (get_or c.args.readings.now c.loop-i.i (pos 0)) = search rules in
    let g : SFits w32 (get_or c.args.numbers.now c.loop-i.i (pos 0)) = search rules in
    left_fits c.args.step _ _ c.residue_of.result f g c.residue_of.ensures.is_what_the_number_leaves
    (written_within (residue c.args.step) (2 ^ 30) c.loop-i.place c.args.readings.now c.args.numbers.now c.loop-i.i (omega (arith, c.loop-i.invariant.room)) (omega arith) (omega (arith, c.requires.as_many)) (rw c.loop-i.invariant.all c.requires.fit))

pub overflow_cast-place : goal.overflow_cast-place
overflow_cast-place c = (left c).0

pub loop-i-preserved : goal.loop-i-preserved
loop-i-preserved c = record {
  room = search rules;
  all = written_more (residue c.args.step) c.loop-i.place c.args.readings.now c.args.numbers.now c.loop-i.i _ (omega (arith, c.loop-i.invariant.room)) (omega arith) (omega (arith, c.requires.as_many)) (left c).1 ∙ c.loop-i.invariant.all;
}
