use Rattle.finders.proofs.Firsts.{first_best_is}
use Rattle.finders.proofs.laws.first_best_is_the_first_of_the_best.Goals as goal

pub returns : goal.returns
returns g c = record { first_of_the_best = first_best_is }
