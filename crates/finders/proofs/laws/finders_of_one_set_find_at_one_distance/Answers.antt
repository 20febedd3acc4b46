use Rattle.finders.proofs.Found.{one_distance}
use Rattle.finders.proofs.laws.finders_of_one_set_find_at_one_distance.Goals as goal

pub returns : goal.returns
returns g c = record { one_distance = λ s rs place q d e. one_distance _ _ rs place q d e (g.met.F.PointFinder.lawful c.args.one.now) (g.met.G.PointFinder.lawful c.args.other.now) s }
