-- One cell more in a loop over the readings.
use Rattle.std.proofs.Common.{◌≡◌, ℕ, ◌+◌, ◌*◌, ◌/◌, ◌%◌, ◌^◌, ◌<◌, ◌≤◌, true, List, ◌∷◌, [], ◌++◌, length, get_or, set, take, drop, ℤ, pos, nat_abs, sym, ap, ◌∙◌, append_assoc, arith}
use Rattle.std.proofs.lemmas.Int.{ints}
use Rattle.std.proofs.lemmas.List.{take_more_set, at_drop_more}
use Rattle.integers.specs.Nearest.{residue}
use Rattle.finders.specs.Points.{distance, within}
use Rattle.finders.proofs.Distances.{distance_small}
use Rattle.finders.proofs.RoundingBits.{narrow}
use Rattle.finders.proofs.Within.{within_at}
use Rattle.lattice_layers.specs.ConstructionA.{nearest_of, with_parities}
use Rattle.lattice_layers.specs.ConstructionALaws.{small_with}

-- a reading that is passed through 32 bits
pub reading_is : (rs : List ℤ) (i : ℕ) → within (2 ^ 30) rs ≡ true → i < length rs → narrow (get_or rs i (pos 0)) ≡ get_or rs i (pos 0)
reading_is rs i w h = omega (arith, ints, within_at (2 ^ 30) rs i w h)

pub reading_small : (rs : List ℤ) (i : ℕ) → within (2 ^ 30) rs ≡ true → i < length rs → nat_abs (narrow (get_or rs i (pos 0))) ≤ 2 ^ 30
reading_small rs i w h = rw (reading_is rs i w h) (within_at (2 ^ 30) rs i w h)

module _ (rs place : List ℤ) (i : ℕ) (x : ℤ) (here : i < length rs) where
  -- the number of the next digit is written
  pub point_more : (w q : ℕ) (whole : List ℤ) → i < length place → x ≡ nearest_of (w % 2) q (get_or rs i (pos 0)) → take i place ++ with_parities w q (drop i rs) ≡ whole
      → take (i + 1) (set place i x) ++ with_parities (w / 2) q (drop (i + 1) rs) ≡ whole
  point_more w q whole room e done =
      ap (λ (u : List ℤ). u ++ with_parities (w / 2) q (drop (i + 1) rs)) (take_more_set place i x room) ∙ append_assoc (take i place) (x ∷ []) (with_parities (w / 2) q (drop (i + 1) rs))
      ∙ ap (λ (y : ℤ). take i place ++ y ∷ with_parities (w / 2) q (drop (i + 1) rs)) e
      ∙ ap (λ (u : List ℤ). take i place ++ u) (sym (at_drop_more (with_parities w q) rs i (pos 0) here)) ∙ done

-- what the next digit's number leaves is added
pub distance_more : (rs : List ℤ) (i w q d n total : ℕ) → i < length rs → n ≡ nat_abs (residue q (get_or rs i (pos 0)) (nearest_of (w % 2) q (get_or rs i (pos 0)))) → d + distance q (drop i rs) (with_parities w q (drop i rs)) ≡ total
    → d + n * n + distance q (drop (i + 1) rs) (with_parities (w / 2) q (drop (i + 1) rs)) ≡ total
distance_more rs i w q d n total here e done = rw e (omega (arith, at_drop_more (λ (ys : List ℤ). distance q ys (with_parities w q ys)) rs i (pos 0) here))

pub distance_fits : (w q : ℕ) (rs : List ℤ) → 1 ≤ q → q ≤ 2 ^ 20 → length rs ≤ 32 → distance q rs (with_parities w q rs) ≤ 2 ^ 45
distance_fits w q rs h k l = omega (arith, distance_small q rs (with_parities w q rs) (small_with w q rs h k))
