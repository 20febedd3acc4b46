use Rattle.code_layers.specs.RepeatLaws.{repeated_correlation}
use Rattle.code_layers.proofs.laws.repeated_words_correlate_as_those_below.Goals as goal

pub returns : goal.returns
returns c = record { correlates_with_the_sums = repeated_correlation }
