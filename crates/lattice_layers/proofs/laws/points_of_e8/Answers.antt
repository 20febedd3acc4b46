use Rattle.lattice_layers.specs.E8Laws.{glue_is_e8, e8_is_glue, e8_is_words, one_cell_only_by_words, half_only_by_words}
use Rattle.lattice_layers.proofs.laws.points_of_e8.Goals as goal

pub returns : goal.returns
returns c = record {
  even_or_odd_with_a_sum_by_four = λ x. (glue_is_e8 x, e8_is_glue x);
  all_are_points_by_words = λ x m. e8_is_words x (glue_is_e8 x m);
  one_cell_twice_is_by_words_only = one_cell_only_by_words;
  half_ones_are_by_words_only = half_only_by_words;
}
