-- The worst cell, points of the other parity, and a cell of the rounded point that goes the other way: what each does to the
-- distance.
use Rattle.std.specs.Prelude.{◌≡◌, ℕ, zero, suc, ◌+◌, ◌-◌, ◌*◌, ◌%◌, ◌^◌, ◌<◌, ◌≤◌, true, List, [], ◌∷◌, map, length, ℤ, pos, ◌+ℤ◌, ◌-ℤ◌, ◌≢◌, slice_index_or, slice_set, unsigned_abs, refl}
use Rattle.std.proofs.Common.{◌∙◌, mul-le-mul, mul-le-mul_left, add-mul, mul-add, mul_comm, arith, length-set}
use Rattle.std.specs.List.{AllByRecursion}
use Rattle.std.proofs.Math.IntN.{ℤ_discrete}
use Rattle.std.proofs.ByRecursion.{All-weaker}
use Rattle.std.proofs.lemmas.Bool.{leb-true}
use Rattle.std.proofs.lemmas.List.{get_or-map, length-map}
use Rattle.std.proofs.lemmas.Int.{ints}
use Rattle.integers.specs.Nearest.{nearest, residue}
use Rattle.integers.specs.Sums.{sumℤ}
use Rattle.integers.proofs.Nearest.{nearest_near, nearest_next, nearest_small}
use Rattle.integers.proofs.Sums.{sumℤ-set}
use Rattle.finders.specs.Choice.{IsFirst, no_smaller}
use Rattle.finders.specs.Points.{distance, SmallResidues, within}
use Rattle.finders.specs.Rounding.{turned}
use Rattle.finders.proofs.Distances.{distance_set, distance_at}
use Rattle.finders.proofs.Firsts.{first_best_is, best_measured}
use Rattle.finders.proofs.RoundingLaws.{turned_left, other_way_apart}
use Rattle.finders.proofs.Scores.{no_smaller_total, no_smaller_chain}
use Rattle.finders.proofs.Within.{within_at}
use Rattle.lattices.specs.LatticeZ.{rounded}
use Rattle.lattices.specs.LatticeD.{parity, left_over, worst_cell, turned_at, repaired}
use Rattle.lattices.specs.RoundedCells.{length_rounded, near_rounded, rounded_is_nearest}

-- ---- the worst cell

pub worst_is : (q : ℕ) (rs : List ℤ) → 1 ≤ length rs → IsFirst no_smaller 0 (map (left_over q) rs) (worst_cell q rs)
worst_is q rs h = first_best_is no_smaller no_smaller_total no_smaller_chain 0 (map (left_over q) rs) (rw length-map h)

module _ (q : ℕ) (rs : List ℤ) (some : 1 ≤ length rs) where
  worst : (worst_cell q rs < length rs) × AllByRecursion (λ r. no_smaller (left_over q (slice_index_or rs (worst_cell q rs) (pos 0))) (left_over q r) ≡ true) rs
  worst = best_measured no_smaller no_smaller_total no_smaller_chain (left_over q) (pos 0) rs some

  pub worst_stands : worst_cell q rs < length rs
  worst_stands = worst.0

  pub none_is_worse : AllByRecursion (λ r. left_over q r ≤ left_over q (slice_index_or rs (worst_cell q rs) (pos 0))) rs
  none_is_worse =
      let m = left_over q (slice_index_or rs (worst_cell q rs) (pos 0)) in
      All-weaker (λ r. no_smaller m (left_over q r) ≡ true) (λ r. left_over q r ≤ m) (λ r. leb-true (left_over q r) m) rs worst.1

-- ---- points of the other parity

-- t and s make up the step: what a square of t costs over one of s
trade : (s t : ℕ) → t * t + 2 * ((s + t) * s) ≡ (s + t) * (s + t) + s * s
trade s t = omega (arith, add-mul s t s, add-mul s t (s + t), mul-add s s t, mul-add t s t, mul_comm s t)

pub turned_cost : (q s : ℕ) → s ≤ q → (q - s) * (q - s) + 2 * (q * s) ≡ q * q + s * s
turned_cost q s h = let e : s + (q - s) ≡ q = omega arith in rw e at (trade s (q - s))

pub parity_cons : (x s : ℤ) → unsigned_abs (x +ℤ s) % 2 ≡ (unsigned_abs x + unsigned_abs s % 2) % 2
parity_cons x s = omega (arith, ints)

-- where no residue of the rounded point is larger in size than m: a point of another parity differs from it in a cell, and costs
-- at least as much as a turn at the size m
apart_costs : (q m : ℕ) (rs ys : List ℤ) → 1 ≤ q → AllByRecursion (λ r. left_over q r ≤ m) rs → length ys ≡ length rs → (parity ys ≢ parity (rounded q rs)) → distance q rs (rounded q rs) + q * q ≤ distance q rs ys + 2 * (q * m)
apart_costs q m [] [] p a e n = absurd (n refl)
apart_costs q m [] (y ∷ ys) p a e n = absurd (omega arith)
apart_costs q m (r ∷ rs) [] p a e n = absurd (omega arith)
apart_costs q m (r ∷ rs) (y ∷ ys) p a e n = go (ℤ_discrete y (nearest q r)) (apart_costs q m rs ys p a.1 (omega arith))
  where
    go : Dec (y ≡ nearest q r) → ((parity ys ≢ parity (rounded q rs)) → distance q rs (rounded q rs) + q * q ≤ distance q rs ys + 2 * (q * m)) → distance q (r ∷ rs) (rounded q (r ∷ rs)) + q * q ≤ distance q (r ∷ rs) (y ∷ ys) + 2 * (q * m)
    go (yes d) ih =
        let rest = ih (λ f. n (rw (d, parity_cons (nearest q r) (sumℤ ys), parity_cons (nearest q r) (sumℤ (rounded q rs)), f))) in
        rw d (omega arith)
    go (no d) ih =
        let s = left_over q r in
        let near = nearest_near q r p in
        let next = nearest_next q r y p d in
        let least = rounded_is_nearest q rs ys p (omega arith) in
        omega (arith, turned_cost q s (omega arith), mul-le-mul next next, mul-le-mul_left q a.0)

-- ---- one cell turned

-- a coordinate changed by one changes the parity
parity_set : (xs : List ℤ) (i : ℕ) (y : ℤ) → i < length xs → unsigned_abs (y -ℤ slice_index_or xs i (pos 0)) ≡ 1 → parity (slice_set xs i y) + parity xs ≡ 1
parity_set xs i y h e = omega (arith, ints, sumℤ-set xs i y (pos 0) h)

small_set : (q : ℕ) (rs xs : List ℤ) (i : ℕ) (y : ℤ) → unsigned_abs (residue q (slice_index_or rs i (pos 0)) y) ≤ 2 ^ 20 → SmallResidues q rs xs → SmallResidues q rs (slice_set xs i y)
small_set q [] xs i y h k = tt
small_set q (r ∷ rs) [] i y h k = tt
small_set q (r ∷ rs) (x ∷ xs) zero y h k = (h, k.1)
small_set q (r ∷ rs) (x ∷ xs) (suc i) y h k = (k.0, small_set q rs xs i y h k.1)

pub length_turned : (q : ℕ) (rs : List ℤ) (i : ℕ) → length (turned_at q rs i) ≡ length rs
length_turned q rs i = length-set (rounded q rs) i (turned q (slice_index_or rs i (pos 0))) ∙ length_rounded q rs

pub rounded_at : (q : ℕ) (rs xs : List ℤ) (i : ℕ) → xs ≡ rounded q rs → i < length rs → slice_index_or xs i (pos 0) ≡ nearest q (slice_index_or rs i (pos 0))
rounded_at q rs xs i e h = rw e (get_or-map (nearest q) rs i (pos 0) (pos 0) h)

module _ (q : ℕ) (rs : List ℤ) (i : ℕ) (here : i < length rs) where
  at_here : slice_index_or (rounded q rs) i (pos 0) ≡ nearest q (slice_index_or rs i (pos 0))
  at_here = rounded_at q rs (rounded q rs) i refl here

  pub turn_changes_parity : parity (turned_at q rs i) + parity (rounded q rs) ≡ 1
  turn_changes_parity =
      let r = slice_index_or rs i (pos 0) in
      parity_set (rounded q rs) i (turned q r) (omega (arith, length_rounded q rs)) (rw at_here (other_way_apart (residue q r (nearest q r)) (nearest q r)))

  pub near_turned : 1 ≤ q → q ≤ 2 ^ 20 → SmallResidues q rs (turned_at q rs i)
  near_turned p t = small_set q rs (rounded q rs) i (turned q (slice_index_or rs i (pos 0))) (omega (arith, turned_left q (slice_index_or rs i (pos 0)) p)) (near_rounded q rs p t)

  -- the square of what the turn leaves stands for the square of what was left over
  pub turn_costs : 1 ≤ q → let s = left_over q (slice_index_or rs i (pos 0)) in
      (s * s ≤ distance q rs (rounded q rs)) × (distance q rs (turned_at q rs i) + s * s ≡ distance q rs (rounded q rs) + (q - s) * (q - s))
  turn_costs p =
      let r = slice_index_or rs i (pos 0) in
      let wide = length_rounded q rs in
      (rw at_here at (distance_at q rs (rounded q rs) i wide here), rw (at_here, turned_left q r p) at (distance_set q rs (rounded q rs) i (turned q r) wide here))

  pub turned_small : 1 ≤ q → within (2 ^ 30) rs ≡ true → unsigned_abs (turned q (slice_index_or rs i (pos 0))) ≤ 2 ^ 30 + 1
  turned_small p k =
      let r = slice_index_or rs i (pos 0) in
      let b = within_at (2 ^ 30) rs i k here in let n = nearest_small q r p in let a = other_way_apart (residue q r (nearest q r)) (nearest q r) in
      omega (arith, ints)

-- ---- the worst cell turned

-- the size of the largest residue of the rounded point
abbrev pub worst_size : ℕ → List ℤ → ℕ
worst_size q rs = left_over q (slice_index_or rs (worst_cell q rs) (pos 0))

pub left_over_small : (q : ℕ) (r : ℤ) → 1 ≤ q → 2 * left_over q r ≤ q
left_over_small q r h = nearest_near q r h

-- what the repair adds to the distance
pub repair_costs : (q : ℕ) (rs : List ℤ) → 1 ≤ q → 1 ≤ length rs → distance q rs (repaired q rs) + 2 * (q * worst_size q rs) ≡ distance q rs (rounded q rs) + q * q
repair_costs q rs p k =
    let small = left_over_small q (slice_index_or rs (worst_cell q rs) (pos 0)) p in
    omega (arith, turn_costs q rs (worst_cell q rs) (worst_stands q rs k) p, turned_cost q (worst_size q rs) (omega arith))

-- a point of another parity than the rounded one adds no less
pub other_parity_costs : (q : ℕ) (rs ys : List ℤ) → 1 ≤ q → length ys ≡ length rs → (parity ys ≢ parity (rounded q rs)) → distance q rs (rounded q rs) + q * q ≤ distance q rs ys + 2 * (q * worst_size q rs)
other_parity_costs q [] ys p e n = apart_costs q (worst_size q []) [] ys p tt e n
other_parity_costs q (r ∷ rs) ys p e n = apart_costs q (worst_size q (r ∷ rs)) (r ∷ rs) ys p (none_is_worse q (r ∷ rs) (omega arith)) e n

-- the repair turns the parity
pub repair_turns : (q : ℕ) (rs : List ℤ) → 1 ≤ length rs → (parity (repaired q rs) + parity (rounded q rs)) ≡ 1
repair_turns q rs k = turn_changes_parity q rs (worst_cell q rs) (worst_stands q rs k)

pub near_repaired : (q : ℕ) (rs : List ℤ) → 1 ≤ q → q ≤ 2 ^ 20 → 1 ≤ length rs → SmallResidues q rs (repaired q rs)
near_repaired q rs p t k = near_turned q rs (worst_cell q rs) (worst_stands q rs k) p t

pub length_repaired : (q : ℕ) (rs : List ℤ) → length (repaired q rs) ≡ length rs
length_repaired q rs = length_turned q rs (worst_cell q rs)
