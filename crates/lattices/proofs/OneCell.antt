-- One cell as the machine rounds it, in values of 32 bits, and one cell more in the loop.
use Rattle.std.proofs.Common.{◌≡◌, ℕ, ◌+◌, ◌*◌, ◌^◌, ◌<◌, ◌≤◌, max, List, [], ◌∷◌, ◌++◌, length, get_or, take, ℤ, pos, nat_abs, sym, ap, ap₂, ◌∙◌, arith, w32, SFits, to_z, of_z}
use Rattle.std.proofs.lemmas.List.{take_more, length-take, map_more}
use Rattle.std.proofs.lemmas.Int.{to_z-of_z}
use Rattle.integers.specs.Nearest.{nearest, residue}
use Rattle.finders.specs.Points.{distance}
use Rattle.finders.proofs.Distances.{distance_small, distance_push}
use Rattle.lattices.specs.LatticeZ.{rounded}
use Rattle.lattices.specs.LatticeD.{left_over}
use Rattle.lattices.specs.RoundedCells.{length_rounded, near_rounded}

-- what rounding gives is passed through 32 bits, at a step that is no less than 1
pub round_told : (q : ℕ) (z x s : ℤ) → 1 ≤ q → SFits w32 z → x ≡ nearest (max q 1) (to_z w32 (of_z w32 z)) → s ≡ residue (max q 1) (to_z w32 (of_z w32 z)) x → (x ≡ nearest q z) × (s ≡ residue q z (nearest q z))
round_told q z x s h f e g =
    let m : max q 1 ≡ q = omega arith in
    let t : to_z w32 (of_z w32 z) ≡ z = to_z-of_z w32 z f in
    let n : x ≡ nearest q z = rw (m, t) at e in
    (n, (rw (m, t) at g) ∙ ap (residue q z) n)

-- the same, with the size of the residue
pub record Told (q : ℕ) (z x s : ℤ) (n : ℕ) : Type 0 where
  pub number : x ≡ nearest q z
  pub residue : s ≡ residue q z (nearest q z)
  pub size : n ≡ left_over q z

pub cell_told : (q : ℕ) (z x s : ℤ) (n : ℕ) → 1 ≤ q → SFits w32 z → SFits w32 s → x ≡ nearest (max q 1) (to_z w32 (of_z w32 z)) → s ≡ residue (max q 1) (to_z w32 (of_z w32 z)) x → n ≡ nat_abs (to_z w32 (of_z w32 s)) → Told q z x s n
cell_told q z x s n h f g e d a =
    let r = round_told q z x s h f e d in
    record { number = r.0; residue = r.1; size = a ∙ ap nat_abs (to_z-of_z w32 s g ∙ r.1) }

-- ---- one turn of the loop, at the reading with index i
module _ (q : ℕ) (rs : List ℤ) (i : ℕ) (here : i < length rs) where
  rounded_more : rounded q (take (i + 1) rs) ≡ rounded q (take i rs) ++ nearest q (get_or rs i (pos 0)) ∷ []
  rounded_more = map_more (nearest q) rs i (pos 0) here

  pub distance_more : (d n : ℕ) → n ≡ left_over q (get_or rs i (pos 0)) → d ≡ distance q (take i rs) (rounded q (take i rs)) → d + n * n ≡ distance q (take (i + 1) rs) (rounded q (take (i + 1) rs))
  distance_more d n e f =
      let r = get_or rs i (pos 0) in
      ap₂ (λ (a b : ℕ). a + b * b) f e
      ∙ sym (distance_push q (take i rs) (rounded q (take i rs)) r (nearest q r) (length_rounded q (take i rs)))
      ∙ sym (ap₂ (distance q) (take_more rs i (pos 0) here) rounded_more)

pub distance_fits : (q i : ℕ) (rs : List ℤ) → 1 ≤ q → q ≤ 2 ^ 20 → length rs ≤ 32 → distance q (take i rs) (rounded q (take i rs)) ≤ 2 ^ 45
distance_fits q i rs h k l =
    let n : length (take i rs) ≤ 32 = simp length-take (omega arith) in
    omega (arith, distance_small q (take i rs) (rounded q (take i rs)) (near_rounded q (take i rs) h k))
