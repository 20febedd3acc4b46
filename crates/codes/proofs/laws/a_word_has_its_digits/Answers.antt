use Rattle.codes.specs.DigitLaws.{word_digit, word_below}
use Rattle.codes.proofs.laws.a_word_has_its_digits.Goals as goal

pub returns : goal.returns
returns c = record { has_these_digits = word_digit; has_none_beyond = word_below }
