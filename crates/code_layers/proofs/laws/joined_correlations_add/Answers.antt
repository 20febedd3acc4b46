use Rattle.code_layers.specs.PartsLaws.{correlation_parts}
use Rattle.code_layers.proofs.laws.joined_correlations_add.Goals as goal

pub returns : goal.returns
returns c = record { adds_those_of_the_parts = correlation_parts }
