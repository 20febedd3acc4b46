-- The promises of blocks, by their laws.
use Rattle.std.proofs.Common.{◌≡◌, ℕ, refl}
use Rattle.finders.specs.Meanings.{Meaning, fit, unfit}
use Rattle.finders.specs.PointFinders.{PointFit, Lawful}
use Rattle.blocks.specs.Senses.{none_standing}
use Rattle.blocks.specs.Calls.{open_checked}
use Rattle.blocks.proofs.AlikeRuns.{run_of, runs_alike, runs_at_one_point}
use Rattle.blocks.proofs.CallLists.{after_clear, last_clear, first_of_fitting_width}
use Rattle.blocks.proofs.RunLaws.{after_more, few_standing, each_sense, each_clear, each_misfit}
use Rattle.guarantees.specs.Blocks.{opening_told, BlockPromise, TwoBlocksPromise}

opens_as_told : (M : Meaning PointFit) (q : ℕ) → open_checked M q ≡ opening_told M q
opens_as_told (unfit e) q = refl
opens_as_told (fit m) q = refl

pub block_kept : (M : Meaning PointFit) → Lawful M → BlockPromise M
block_kept M l = record {
  opens_unless_refused = opens_as_told M;
  holds_64_senses = λ q. refl;
  none_stands_at_an_opening = λ q. refl;
  each_call_changes_what_stands = λ q. after_more M q none_standing;
  a_clear_ends_what_was_before = after_clear M;
  the_first_of_fitting_width_stand = first_of_fitting_width M;
  no_more_stand_than_it_holds = few_standing M;
  a_last_clear_or_none = last_clear;
  each_sense_is_granted_unless_full = λ q cs. each_sense M q cs _ refl;
  each_clear_tells_how_many_stood = λ q cs. each_clear M q cs _ refl;
  each_misfit_is_refused = λ q cs. each_misfit M q cs _ refl;
  each_decide_has_the_least_total = λ q cs opens small. (run_of M q cs l opens small).decides;
}

pub two_blocks_kept : (M N : Meaning PointFit) → Lawful M → Lawful N → TwoBlocksPromise M N
two_blocks_kept M N l k = record {
  are_answered_alike = λ set q cs opens other small.
      runs_alike set (run_of M q cs l opens small) (run_of N q cs k other small);
  decide_one_point_where_one_has_the_total = λ set q cs opens other small.
      runs_at_one_point set (run_of M q cs l opens small) (run_of N q cs k other small);
}
