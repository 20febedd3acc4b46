use Rattle.code_layers.specs.PartsLaws.{front_short, front_longer, last_digit}
use Rattle.code_layers.proofs.laws.two_words_are_shortened_to_one.Goals as goal

pub returns : goal.returns
returns c = record { the_word_itself = front_short; with_a_last_digit = front_longer; no_other = last_digit }
