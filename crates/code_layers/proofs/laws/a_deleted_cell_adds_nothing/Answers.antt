use Rattle.code_layers.specs.ShortenLaws.{correlation_with_last}
use Rattle.code_layers.proofs.laws.a_deleted_cell_adds_nothing.Goals as goal

pub returns : goal.returns
returns c = record { same_without_it = correlation_with_last }
