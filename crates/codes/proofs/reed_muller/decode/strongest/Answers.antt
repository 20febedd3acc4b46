use Rattle.std.proofs.Common.{pos, nat_abs, ap, ◌∙◌, rules, arith}
use Rattle.std.proofs.lemmas.Int.{ints}
use Rattle.std.proofs.lemmas.List.{get_or_default}
use Rattle.finders.specs.declared.choice.Greatest.{Greatest}
use Rattle.std.proofs.lemmas.Iterator.{YieldsList-from_slice, YieldsList-from_map}
use Rattle.std.proofs.lemmas.Iterator.Adapters.{serves_from_places}
use Rattle.finders.specs.Choice.{no_smaller}
use Rattle.finders.proofs.FirstRuns.{found_first}
use Rattle.finders.proofs.Scores.{Great, large, large_decides}
use Rattle.finders.proofs.Within.{within_at}
use Rattle.codes.proofs.reed_muller.decode.strongest.Goals as goal

-- each entry has a size that fits
pub first_best-requires-clause-can : goal.first_best-requires-clause-can
first_best-requires-clause-can c = (
  tt,
  serves_from_places (YieldsList-from_slice c.args.spectrum.now cc) (λ x q r. search rules) (λ x k here e.
      let small = within_at _ c.args.spectrum.now k c.requires.small here in
      let is = e ∙ get_or_default c.args.spectrum.now k x.now (pos 0) here in
      λ _ _ _ _ _ _. omega (arith, ints, small, is)),
)

pub returns : goal.returns
returns c =
    found_first nat_abs large no_smaller Great large_decides (pos 0) c.args.spectrum.now c.first_best.result c.first_best.ensures.is_the_first_best
    (YieldsList-from_map _ (λ z. large (nat_abs z)) (YieldsList-from_slice c.args.spectrum.now cc) c.map.ensures.closure (λ x r f k. search rules))
    _ (λ b i here size. (i, here, ap (λ (s : Greatest). s.0) size))
