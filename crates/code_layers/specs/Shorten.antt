-- The words of a finder, each without its last cell.
use Rattle.std.specs.Prelude.{◌≡◌, ℕ, ◌-◌, List, [], ◌∷◌, ◌++◌, ℤ, pos}
use Rattle.finders.specs.declared.refusals.Refusal.TheVariants.{Width}
use Rattle.finders.specs.Meanings.{Meaning, fit, unfit, unfit_unless}
use Rattle.finders.specs.Sizes.{in_range}
use Rattle.finders.specs.WordFinders.{WordFit}
use Rattle.code_layers.specs.Parts.{front}

-- gains for the words below: the cell that is deleted has the gain 0
abbrev pub with_last : List ℤ → List ℤ
with_last gs = gs ++ pos 0 ∷ []

abbrev pub shortened_fit : WordFit → WordFit
shortened_fit m = record {
  width = m.width - 1;
  gain_limit = m.gain_limit;
  member = λ w. (v : ℕ) × m.member v × (w ≡ front (m.width - 1) v);
  pick = λ gs. front (m.width - 1) (m.pick (with_last gs));
}

abbrev pub shortened : Meaning WordFit → Meaning WordFit
shortened (unfit e) = unfit e
shortened (fit m) = unfit_unless (in_range (m.width - 1)) Width (fit (shortened_fit m))
