-- A word of one finder, and after it a word of another.
use Rattle.std.specs.Prelude.{◌+◌, ◌*◌, ◌^◌, take, drop, min}
use Rattle.finders.specs.declared.refusals.Refusal.TheVariants.{Width}
use Rattle.finders.specs.Meanings.{Meaning, fit, unfit, unfit_unless}
use Rattle.finders.specs.Sizes.{in_range}
use Rattle.finders.specs.WordFinders.{WordFit}
use Rattle.code_layers.specs.Parts.{front, back}

abbrev pub joined_fit : WordFit → WordFit → WordFit
joined_fit m n = record {
  width = m.width + n.width;
  gain_limit = min m.gain_limit n.gain_limit;
  member = λ w. m.member (front m.width w) × n.member (back m.width w);
  pick = λ gs. n.pick (drop m.width gs) * 2 ^ m.width + m.pick (take m.width gs);
}

-- unfit as the first, and else as the second
abbrev pub joined : Meaning WordFit → Meaning WordFit → Meaning WordFit
joined (unfit e) N = unfit e
joined (fit m) (unfit e) = unfit e
joined (fit m) (fit n) = unfit_unless (in_range (m.width + n.width)) Width (fit (joined_fit m n))
