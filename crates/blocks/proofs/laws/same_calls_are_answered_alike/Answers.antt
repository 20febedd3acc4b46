use Rattle.blocks.specs.Senses.{none_standing}
use Rattle.blocks.proofs.CallLists.{same_answers, same_as_itself}
use Rattle.blocks.proofs.AlikeRuns.{run_of, runs_alike, runs_at_one_point}
use Rattle.blocks.proofs.laws.same_calls_are_answered_alike.Goals as goal

pub returns : goal.returns
returns g c =
    let M = g.F.PointFinder.meaning c.args.one.now in
    let N = g.G.PointFinder.meaning c.args.other.now in
    let l = g.met.F.PointFinder.lawful c.args.one.now in
    let k = g.met.G.PointFinder.lawful c.args.other.now in
    record {
      each_list_has_the_calls_of_itself = same_as_itself;
      by_one_finder = λ q cs ds. same_answers M q none_standing cs ds;
      by_finders_of_one_set = λ set q cs ds opens other small same.
          let alike = runs_alike set (run_of M q cs l opens small) (run_of N q cs k other small) in
          rw (← same_answers N q none_standing cs ds same) alike;
      one_point_where_one_has_the_total = λ set q cs ds opens other small same.
          let at_one = runs_at_one_point set (run_of M q cs l opens small) (run_of N q cs k other small) in
          rw (← same_answers N q none_standing cs ds same) at_one;
    }
