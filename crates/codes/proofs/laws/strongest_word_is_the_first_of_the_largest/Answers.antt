use Rattle.codes.specs.ReedMullerLaws.{spectrum_at, strongest_is}
use Rattle.codes.specs.SpectrumLaws.{length_spectrum}
use Rattle.codes.proofs.laws.strongest_word_is_the_first_of_the_largest.Goals as goal

pub returns : goal.returns
returns c = record { one_entry_for_each_word = length_spectrum; entries_are_correlations = spectrum_at; first_of_the_largest = strongest_is }
