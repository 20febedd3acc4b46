use Rattle.std.proofs.Common.{◌∷◌, [], ◌∙◌}
use Rattle.lattice_layers.specs.E8.{e8_by_glue as e8}
use Rattle.blocks.proofs.SameMeanings.{outcome_of_the_same}
use Rattle.block_callers.proofs.SameMeanings.{answered_as_the_same}
use Rattle.block_callers.proofs.e8.decide_in_e8.Goals as goal

pub returns : goal.returns
returns c =
    let both = c.args.second.now ∷ c.args.first.now ∷ [] in
    let told = c.decide_two_senses.ensures in
    let same = c.e8_by_glue.ensures.means_e8_by_glue in
    record {
      first_refusal = told.first_refusal ∙ answered_as_the_same _ e8 c.args.step (c.args.first.now ∷ c.args.second.now ∷ c.args.place.now ∷ []) both same;
      least_total_in_e8 =
          let after = c.decide_two_senses.new.place in
          outcome_of_the_same _ e8 c.args.step both c.args.place.now after c.decide_two_senses.result same told.least_total;
    }
