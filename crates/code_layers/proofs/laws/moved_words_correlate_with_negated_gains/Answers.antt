use Rattle.code_layers.specs.GlueLaws.{correlation_moved, length_negated, negated_at}
use Rattle.code_layers.proofs.laws.moved_words_correlate_with_negated_gains.Goals as goal

pub returns : goal.returns
returns c = record { same_correlation = correlation_moved; as_many_gains = length_negated; gains_by_sign = negated_at }
