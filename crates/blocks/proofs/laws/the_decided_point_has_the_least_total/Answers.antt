use Rattle.blocks.proofs.Deciding.{least}
use Rattle.blocks.proofs.laws.the_decided_point_has_the_least_total.Goals as goal

pub returns : goal.returns
returns g c = record {
  least_total = λ q ss opens senses some few.
      least _ q ss (g.met.F.PointFinder.lawful c.args.finder.now)
      (record { opens = opens; senses = senses; some = some; few = few });
}
