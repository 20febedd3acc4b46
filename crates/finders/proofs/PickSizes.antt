-- How large the coordinates of a pick are, and its distance, whatever the finder.
use Rattle.std.proofs.Common.{◌≡◌, ℕ, ◌+◌, ◌^◌, ◌≤◌, true, leb, List, [], ◌∷◌, length, ℤ, pos, ◌*ℤ◌, nat_abs, sym, refl, ◌∙◌, mul-le-mul_right, arith}
use Rattle.std.proofs.lemmas.Bool.{le-leb, leb-true, and_parts}
use Rattle.std.proofs.lemmas.Int.{ints}
use Rattle.integers.specs.Nearest.{residue}
use Rattle.integers.proofs.Order.{nat_abs-*ℤ}
use Rattle.finders.specs.Points.{distance, SmallResidues, within}
use Rattle.finders.specs.PointFinders.{PointFit, PointLaws, Asked}
use Rattle.finders.proofs.Distances.{distance_small}
use Rattle.finders.proofs.Within.{within_wider}

-- a coordinate that leaves a small residue
coordinate_small : (limit q : ℕ) (r x : ℤ) → 1 ≤ q → nat_abs r ≤ limit → nat_abs (residue q r x) ≤ 2 ^ 20 → nat_abs x ≤ limit + 2 ^ 20
coordinate_small limit q r x some h k =
    let product : nat_abs (pos q *ℤ x) ≤ limit + 2 ^ 20 = omega (arith, ints) in
    omega (arith, product, nat_abs-*ℤ (pos q) x, mul-le-mul_right (nat_abs x) some)

pub near_small : (limit q : ℕ) (rs xs : List ℤ) → 1 ≤ q → length xs ≡ length rs → within limit rs ≡ true → SmallResidues q rs xs → within (limit + 2 ^ 20) xs ≡ true
near_small limit q [] [] some e h k = refl
near_small limit q [] (x ∷ xs) some e h k = absurd (omega arith)
near_small limit q (r ∷ rs) [] some e h k = absurd (omega arith)
near_small limit q (r ∷ rs) (x ∷ xs) some e h k =
    let p = and_parts (leb (nat_abs r) limit) (within limit rs) h in
    rw (le-leb (nat_abs x) (limit + 2 ^ 20) (coordinate_small limit q r x some (leb-true (nat_abs r) limit p.0) k.0), near_small limit q rs xs some (omega arith) p.1 k.1) refl

module _ (m : PointFit) (rs : List ℤ) (q : ℕ) (l : PointLaws m) (a : Asked m rs q) where
  pub pick_is_small : within (2 ^ 30 + 2 ^ 20) (m.pick rs q) ≡ true
  pick_is_small =
      let wide = l.members_are_as_wide (m.pick rs q) (l.pick_is_a_member rs q a) ∙ sym a.as_wide in
      near_small (2 ^ 30) q rs (m.pick rs q) a.step_from_one wide (within_wider m.reading_limit (2 ^ 30) rs l.small_readings a.readings_within) (l.residues_are_small rs q a)

  pub pick_is_near : distance q rs (m.pick rs q) ≤ 2 ^ 45
  pick_is_near =
      let few : length rs ≤ 32 = omega (arith, a.as_wide, l.few_cells) in
      omega (arith, distance_small q rs (m.pick rs q) (l.residues_are_small rs q a), mul-le-mul_right (2 ^ 40) few)
