use Rattle.lattice_layers.specs.RowLaws.{sum_zero, sum_one_bit, sum_bit}
use Rattle.lattice_layers.proofs.laws.sums_are_of_the_rows_whose_bits_are_set.Goals as goal

pub returns : goal.returns
returns c = record { zero_has_no_row = sum_zero; a_bit_has_its_row = λ n b rows. sum_one_bit n rows b; a_bit_more_adds_its_row = λ n j b rows. sum_bit n rows j b }
