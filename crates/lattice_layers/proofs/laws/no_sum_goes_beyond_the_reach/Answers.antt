use Rattle.std.proofs.Common.{refl}
use Rattle.lattice_layers.specs.RowLaws.{within_reach, within_largest, largest_within}
use Rattle.lattice_layers.specs.GlueLaws.{within_below}
use Rattle.lattice_layers.proofs.laws.no_sum_goes_beyond_the_reach.Goals as goal

pub returns : goal.returns
returns c = record { sums_keep_within = within_reach; without_a_row_it_is_zero = refl; a_row_adds_its_largest = λ row rows. refl; largest_is_a_limit = within_largest; no_limit_is_less = largest_within; readings_keep_within = within_below }
