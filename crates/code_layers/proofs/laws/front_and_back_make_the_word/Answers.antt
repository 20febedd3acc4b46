use Rattle.std.proofs.lemmas.Nat.{shr_split}
use Rattle.code_layers.specs.PartsLaws.{front_below, back_below, digit_front, digit_back}
use Rattle.code_layers.proofs.laws.front_and_back_make_the_word.Goals as goal

pub returns : goal.returns
returns c = record {
  make_the_word = λ n w. shr_split w n;
  front_has_none_beyond = front_below;
  back_has_none_beyond = back_below;
  digits_of_the_front = digit_front;
  digits_of_the_back = digit_back;
}
