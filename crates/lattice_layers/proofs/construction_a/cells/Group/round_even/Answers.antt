use Rattle.std.proofs.Common.{pos, w32, SFits, arith, rules, ◌∙◌}
use Rattle.std.proofs.lemmas.Int.{to_z-of_z}
use Rattle.finders.proofs.Writing.{written_more}
use Rattle.lattice_layers.specs.ConstructionA.{nearest_even, gain}
use Rattle.lattice_layers.proofs.CellByCell.{reading_is, reading_small}
use Rattle.lattice_layers.proofs.construction_a.cells.Group.round_even.Goals as goal

pub even-requires : goal.even-requires
even-requires c = record { small = reading_small c.args.self.now.readings.now c.loop-i.i c.args.self.now.small_readings c.loop-i-test.true }

pub loop-i-preserved : goal.loop-i-preserved
loop-i-preserved c =
    let q = c.args.self.now.step in
    let rs = c.args.self.now.readings.now in
    let i = c.loop-i.i in
    let here = c.loop-i-test.true in
    let same = reading_is rs i c.args.self.now.small_readings here in
    let number : SFits w32 c.even.result.0 = search rules in
    let gained : SFits w32 c.even.result.1 = search rules in
    record {
      long = search rules;
      room = search rules;
      evens = written_more (nearest_even q) rs c.loop-i.place i _ (pos 0) here (omega (arith, c.loop-i.invariant.long)) (to_z-of_z w32 _ number ∙ (rw same at c.even.ensures.number)) c.loop-i.invariant.evens;
      gains = written_more (gain q) rs c.loop-i.gains i _ (pos 0) here (omega (arith, c.args.self.now.few_cells, c.loop-i.invariant.room)) (to_z-of_z w32 _ gained ∙ (rw same at c.even.ensures.gain)) c.loop-i.invariant.gains;
    }
