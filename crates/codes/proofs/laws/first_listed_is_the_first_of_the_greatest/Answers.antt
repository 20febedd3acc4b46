use Rattle.codes.specs.ListedLaws.{first_is, first_listed_is_listed, none_listed_is_better}
use Rattle.codes.proofs.laws.first_listed_is_the_first_of_the_greatest.Goals as goal

pub returns : goal.returns
returns c = record {
  first_of_the_greatest = λ ws gs some. first_is ws some gs;
  is_listed = λ ws gs some. first_listed_is_listed ws some gs;
  no_listed_word_is_better = λ ws gs some. none_listed_is_better ws some gs;
}
