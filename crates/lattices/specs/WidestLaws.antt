-- The laws of a lattice that is built on no other finder: what is left to prove of its set and its pick.
use Rattle.std.specs.Prelude.{◌≡◌, ℕ, ◌≤◌, List, length, ℤ}
use Rattle.std.proofs.Common.{arith}
use Rattle.finders.specs.declared.refusals.Refusal.TheVariants.{Width}
use Rattle.finders.specs.Meanings.{fit}
use Rattle.finders.specs.Points.{distance, SmallResidues}
use Rattle.finders.specs.Sizes.{in_range}
use Rattle.finders.specs.PointFinders.{Asked, Lawful, PointLaws}
use Rattle.finders.proofs.Fitness.{unfit_unless_keeps}
use Rattle.finders.proofs.Within.{range}
use Rattle.lattices.specs.Widest.{widest_fit, widest}

module _ (n : ℕ) (member : List ℤ → Type 0) (pick : List ℤ → ℕ → List ℤ) where
  -- what holds wherever the pick is promised
  abbrev Promised : (List ℤ → ℕ → Type 0) → Type 0
  Promised P = (rs : List ℤ) (q : ℕ) → 1 ≤ length rs → Asked (widest_fit n member pick) rs q → P rs q

  pub widest_lawful : ((x : List ℤ) → member x → length x ≡ n) →
      Promised (λ rs q. member (pick rs q)) →
      Promised (λ rs q. (x : List ℤ) → member x → distance q rs (pick rs q) ≤ distance q rs x) →
      Promised (λ rs q. SmallResidues q rs (pick rs q)) → Lawful (widest n member pick)
  widest_lawful wide within nearest small = unfit_unless_keeps PointLaws (in_range n) Width (fit (widest_fit n member pick)) (λ e.
      let sized = range n e in
      record {
        some_cell = sized.0;
        few_cells = sized.1;
        some_reading = omega arith;
        small_readings = omega arith;
        some_step = omega arith;
        small_steps = omega arith;
        members_are_as_wide = wide;
        pick_is_a_member = λ rs q a. within rs q (omega (arith, a.as_wide)) a;
        no_member_is_nearer = λ rs q a. nearest rs q (omega (arith, a.as_wide)) a;
        residues_are_small = λ rs q a. small rs q (omega (arith, a.as_wide)) a;
      })
