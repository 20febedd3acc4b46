-- The points of a finder, each times a whole number.
use Rattle.std.specs.Prelude.{◌≡◌, ℕ, ◌*◌, ◌/◌, Bool, ◌&&◌, List, map, ℤ, pos, ◌*ℤ◌, nat_le}
use Rattle.finders.specs.declared.refusals.Refusal.TheVariants.{Factor, Exhausted}
use Rattle.finders.specs.Meanings.{Meaning, fit, unfit, unfit_unless}
use Rattle.finders.specs.PointFinders.{PointFit}

-- each coordinate times k
abbrev pub times : ℕ → List ℤ → List ℤ
times k xs = map (λ x. pos k *ℤ x) xs

abbrev pub scaled_fit : ℕ → PointFit → PointFit
scaled_fit k m = record {
  width = m.width;
  reading_limit = m.reading_limit;
  step_limit = m.step_limit / k;
  member = λ x. (p : List ℤ) × m.member p × (x ≡ times k p);
  pick = λ rs q. times k (m.pick rs (k * q));
}

abbrev pub factor_in_range : ℕ → Bool
factor_in_range k = nat_le 2 k && nat_le k 1024

abbrev pub scaled : ℕ → Meaning PointFit → Meaning PointFit
scaled k (unfit e) = unfit e
scaled k (fit m) =
    unfit_unless (factor_in_range k) Factor
    (unfit_unless (nat_le 1 (m.step_limit / k)) Exhausted
    (fit (scaled_fit k m)))
