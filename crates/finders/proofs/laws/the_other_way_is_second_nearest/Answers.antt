use Rattle.finders.proofs.RoundingLaws.{turned_rest, turned_second}
use Rattle.finders.proofs.laws.the_other_way_is_second_nearest.Goals as goal

pub returns : goal.returns
returns c = record { leaves_the_rest_of_the_step = turned_rest; no_other_number_is_nearer = turned_second }
