use Rattle.std.proofs.Common.{refl}
use Rattle.blocks.specs.Senses.{none_standing}
use Rattle.blocks.proofs.CallLists.{after_clear, last_clear, first_of_fitting_width}
use Rattle.blocks.proofs.RunLaws.{after_more, few_standing}
use Rattle.blocks.proofs.laws.the_calls_say_which_senses_stand.Goals as goal

pub returns : goal.returns
returns g c = let M = g.F.PointFinder.meaning c.args.finder.now in record {
  none_at_an_opening = λ q. refl;
  one_call_more = λ q. after_more M q none_standing;
  a_clear_ends_what_was_before = after_clear M;
  a_last_clear_or_none = last_clear;
  the_first_of_fitting_width_stand = first_of_fitting_width M;
  no_more_than_the_block_holds = few_standing M;
}
