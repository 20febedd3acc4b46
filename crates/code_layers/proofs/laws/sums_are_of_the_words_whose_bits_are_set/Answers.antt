use Rattle.code_layers.specs.GlueLaws.{glue_zero, glue_bit, glue_xor}
use Rattle.code_layers.proofs.laws.sums_are_of_the_words_whose_bits_are_set.Goals as goal

pub returns : goal.returns
returns c = record { zero_has_no_word = glue_zero; a_bit_has_its_word = glue_bit; xor_has_the_xor = glue_xor }
