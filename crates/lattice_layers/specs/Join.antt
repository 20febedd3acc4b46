-- A point of one finder, and after it a point of another.
use Rattle.std.specs.Prelude.{◌+◌, ◌++◌, take, drop, min}
use Rattle.finders.specs.declared.refusals.Refusal.TheVariants.{Width}
use Rattle.finders.specs.Meanings.{Meaning, fit, unfit, unfit_unless}
use Rattle.finders.specs.Sizes.{in_range}
use Rattle.finders.specs.PointFinders.{PointFit}

abbrev pub joined_fit : PointFit → PointFit → PointFit
joined_fit m n = record {
  width = m.width + n.width;
  reading_limit = min m.reading_limit n.reading_limit;
  step_limit = min m.step_limit n.step_limit;
  member = λ x. m.member (take m.width x) × n.member (drop m.width x);
  pick = λ rs q. m.pick (take m.width rs) q ++ n.pick (drop m.width rs) q;
}

-- unfit as the first, and else as the second
abbrev pub joined : Meaning PointFit → Meaning PointFit → Meaning PointFit
joined (unfit e) N = unfit e
joined (fit m) (unfit e) = unfit e
joined (fit m) (fit n) = unfit_unless (in_range (m.width + n.width)) Width (fit (joined_fit m n))
