use Rattle.code_layers.specs.RepeatLaws.{repeated_digit, repeated_below}
use Rattle.code_layers.proofs.laws.repeated_words_have_each_digit_so_often.Goals as goal

pub returns : goal.returns
returns c = record { digits_are_those_of_the_groups = repeated_digit; has_no_digit_beyond = repeated_below }
