use Rattle.std.proofs.Common.{OnOk, rules}
use Rattle.std.proofs.lemmas.Result.{on_ok_weaker}
use Rattle.blocks.specs.Block.{meaning_of}
use Rattle.blocks.proofs.AlikeRuns.{Run, runs_alike, runs_at_one_point}
use Rattle.blocks.proofs.runs.crosscheck.Goals as goal

run : (g : _) (c : goal.After-others-1 g) → Run (meaning_of c.args.one.now) c.args.step c.args.calls.now c.run.new.answers
run g c = search rules

other_run : (g : _) (c : goal.After-others-1 g) →
    OnOk c.run-2.result (Run (meaning_of c.args.other.now) c.args.step c.args.calls.now c.run-2.new.answers)
other_run g c = search rules

pub returns-clause-finders_of_one_set_are_answered_alike : goal.returns-clause-finders_of_one_set_are_answered_alike
returns-clause-finders_of_one_set_are_answered_alike g c =
    on_ok_weaker c.run-2.result (λ other set. runs_alike set (run g c) other) (other_run g c)

pub returns-clause-one_point_where_one_has_the_total : goal.returns-clause-one_point_where_one_has_the_total
returns-clause-one_point_where_one_has_the_total g c =
    on_ok_weaker c.run-2.result (λ other set. runs_at_one_point set (run g c) other) (other_run g c)
