use Rattle.lattices.specs.DLaws.{none_is_nearer}
use Rattle.lattices.proofs.laws.no_point_of_even_sum_is_nearer.Goals as goal

pub returns : goal.returns
returns c = record { none_is_nearer = none_is_nearer }
