use Rattle.lattice_layers.specs.ConstructionALaws.{gains_within, none_is_nearer, balance, more_is_nearer}
use Rattle.lattice_layers.proofs.laws.the_best_word_has_the_nearest_point.Goals as goal

pub returns : goal.returns
returns c = record { gains_keep_within_the_step = gains_within; none_is_nearer = none_is_nearer; distance_and_correlation_add_up = balance; more_is_nearer = more_is_nearer }
