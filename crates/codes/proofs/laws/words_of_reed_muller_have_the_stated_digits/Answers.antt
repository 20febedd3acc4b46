use Rattle.codes.specs.RowLaws.{row_word_digit, complement_digit}
use Rattle.codes.proofs.laws.words_of_reed_muller_have_the_stated_digits.Goals as goal

pub returns : goal.returns
returns c = record { digits_are_the_parities = row_word_digit; digits_of_complements_are_the_others = complement_digit }
