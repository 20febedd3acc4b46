-- Finders of one set: they are as wide, and have one least total, and one point where no two have it.
use Rattle.std.proofs.Common.{◌≡◌, ℕ, List, ℤ, Ok, sym, ◌∙◌, arith, rules}
use Rattle.integers.specs.Sums.{zeros}
use Rattle.integers.proofs.Sums.{length_zeros}
use Rattle.finders.specs.Meanings.{Meaning, fit, unfit}
use Rattle.finders.specs.PointFinders.{PointFit, PointLaws, Lawful, OneSet, width_of}
use Rattle.finders.proofs.Fitness.{not_err}
use Rattle.finders.proofs.Within.{within_zeros}
use Rattle.blocks.specs.Senses.{IsLeastTotal, IsAttainedAtMostOnce}
use Rattle.blocks.specs.Calls.{open_checked}

some_member : (m : PointFit) → PointLaws m → (x : List ℤ) × m.member x
some_member m l = (
  m.pick (zeros m.width) 1,
  l.pick_is_a_member (zeros m.width) 1 (record {
    as_wide = length_zeros m.width;
    readings_within = within_zeros m.reading_limit m.width;
    step_from_one = omega arith;
    step_within = l.some_step;
  }),
)

pub one_width : (M N : Meaning PointFit) (q : ℕ) → Lawful M → Lawful N → OneSet M N →
    open_checked M q ≡ Ok tt → open_checked N q ≡ Ok tt → width_of N ≡ width_of M
one_width (unfit e) N q l k set opens other = absurd (not_err (sym opens))
one_width (fit m) (unfit e) q l k set opens other = absurd (not_err (sym other))
one_width (fit m) (fit n) q l k set opens other =
    let x = some_member m l in
    sym (k.members_are_as_wide x.0 ((set x.0).0 x.1)) ∙ l.members_are_as_wide x.0 x.1

module _ {M N : Meaning PointFit} {q : ℕ} {ss : List (List ℤ)} {x y : List ℤ} {t u : ℕ} (set : OneSet M N)
    (here : IsLeastTotal M q ss x t) (there : IsLeastTotal N q ss y u) where
  pub one_total : t ≡ u
  one_total = search rules

  pub one_point : IsAttainedAtMostOnce M q ss t → x ≡ y
  one_point alone = search (rules, one_total)
