use Rattle.std.proofs.Common.{pos}
use Rattle.integers.specs.Nearest.{residue}
use Rattle.integers.proofs.Sums.{get_or_zip_with}
use Rattle.lattice_layers.specs.GlueLaws.{distance_moved, length_taken_off}
use Rattle.lattice_layers.proofs.laws.moved_points_are_as_far_as_from_readings_with_the_sum_taken_off.Goals as goal

pub returns : goal.returns
returns c = record {
  same_distance = distance_moved;
  as_many_readings = λ q rs p. length_taken_off q p rs;
  readings_one_by_one = λ q i rs p. get_or_zip_with (residue q) rs p i (pos 0) (pos 0) (pos 0);
}
