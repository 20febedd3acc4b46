-- Rows as the machine goes through them: one number, or one row, more.
use Rattle.std.proofs.Common.{◌≡◌, ℕ, zero, suc, ◌+◌, ◌-◌, ◌*◌, ◌/◌, ◌%◌, ◌^◌, ◌<◌, ◌≤◌, Bool, true, eqb, max, List, [], ◌∷◌, ◌++◌, map, length, get_or, drop, ℤ, ◌+ℤ◌, nat_abs, sym, refl, ap, ◌∙◌, arith, w32, w64, SFits, to_z, of_z}
use Rattle.std.specs.List.{list_all}
use Rattle.std.proofs.lemmas.List.Folds.{list_all-map}
use Rattle.std.proofs.lemmas.Bool.{and_parts, eqb-true, ne_eqb}
use Rattle.std.proofs.lemmas.Int.{to_z-of_z}
use Rattle.std.proofs.lemmas.List.{at_drop_more}
use Rattle.integers.specs.Nearest.{residue}
use Rattle.integers.specs.Sums.{plus, zeros}
use Rattle.integers.proofs.Order.{fits_nat_abs}
use Rattle.finders.specs.Points.{within}
use Rattle.finders.proofs.Within.{within_wider, within_zeros, within_plus}
use Rattle.lattice_layers.specs.Rows.{row_sum, all_as_wide, all_within, largest, reach}
use Rattle.integers.proofs.Sums.{plus_comm, plus_assoc, zeros_plus, length_zeros}
use Rattle.lattice_layers.specs.RowLaws.{length_sum}

-- ---- tests of all

pub all_pass_at : {X : Type 0} (p : X → Bool) (xs : List X) (i : ℕ) (d : X) → i < length xs → list_all p xs ≡ true → p (get_or xs i d) ≡ true
all_pass_at p [] i d h t = absurd (omega arith)
all_pass_at p (x ∷ xs) zero d h t = (and_parts (p x) (list_all p xs) t).0
all_pass_at p (x ∷ xs) (suc i) d h t = all_pass_at p xs i d (omega arith) (and_parts (p x) (list_all p xs) t).1

-- ---- sizes

pub largest_more : (zs : List ℤ) (z : ℤ) (size : ℕ) → size ≡ largest zs → max (nat_abs z) size ≡ largest (zs ++ z ∷ [])
largest_more zs z size e = rw e (go zs)
  where
    go : (zs : List ℤ) → max (nat_abs z) (largest zs) ≡ largest (zs ++ z ∷ [])
    go [] = refl
    go (y ∷ zs) = omega (arith, go zs)

pub sum_fits : (x y : ℤ) → SFits w32 x → SFits w32 y → nat_abs (x +ℤ y) ≤ 2 ^ 31 - 1 →
    SFits w32 (to_z w32 (of_z w32 x) +ℤ to_z w32 (of_z w32 y)) × (to_z w32 (of_z w32 (to_z w32 (of_z w32 x) +ℤ to_z w32 (of_z w32 y))) ≡ x +ℤ y)
sum_fits x y f g h =
    let s : SFits w32 (x +ℤ y) = fits_nat_abs w32 (x +ℤ y) (omega arith) in
    rw (to_z-of_z w32 x f, to_z-of_z w32 y g) (s, to_z-of_z w32 (x +ℤ y) s)

pub left_fits : (q : ℕ) (x y z : ℤ) → SFits w32 x → SFits w32 y → z ≡ residue q (to_z w32 (of_z w32 x)) (to_z w32 (of_z w32 y)) → nat_abs (residue q x y) ≤ 2 ^ 30 →
    SFits w32 (to_z w64 (of_z w64 z)) × (to_z w32 (of_z w32 (to_z w64 (of_z w64 z))) ≡ residue q x y)
left_fits q x y z f g e h =
    let is : z ≡ residue q x y = rw (to_z-of_z w32 x f, to_z-of_z w32 y g) at e in
    let s : SFits w32 (residue q x y) = fits_nat_abs w32 (residue q x y) (omega arith) in
    let t : SFits w64 (residue q x y) = fits_nat_abs w64 (residue q x y) (omega arith) in
    rw (is, to_z-of_z w64 (residue q x y) t) (s, to_z-of_z w32 (residue q x y) s)

-- ---- one row more: `numbers` are those in a row r, which stands at the index i

module _ {R : Type 0} (numbers : R → List ℤ) (rows : List R) (i : ℕ) (r : R) (here : i < length rows) (is : r ≡ get_or rows i r) where
  -- what is tested of all rows that are held is so of this one
  row_passes : (p : List ℤ → Bool) (held : List (List ℤ)) → map numbers rows ≡ held → list_all p held ≡ true → p (numbers r) ≡ true
  row_passes p held e t = rw is (all_pass_at (λ x. p (numbers x)) rows i r here (sym (list_all-map p numbers rows) ∙ rw e t))

  pub reach_more : (size : ℕ) → size + reach (map numbers (drop i rows)) ≡ size + largest (numbers r) + reach (map numbers (drop (i + 1) rows))
  reach_more size = at_drop_more (λ rs. size + reach (map numbers rs)) rows i r here ∙ rw (← is) (omega arith)

  -- the row is as wide as a sum s of rows before it, and both added are small
  pub row_adds : (held : List (List ℤ)) (n : ℕ) (s : List ℤ) → map numbers rows ≡ held → all_as_wide n held ≡ true → all_within 1024 held ≡ true → length s ≡ n → within (i * 1024) s ≡ true → (length (numbers r) ≡ length s) × (within ((i + 1) * 1024) (plus s (numbers r)) ≡ true)
  row_adds held n s e wide small l w = (
    eqb-true (length (numbers r)) n (row_passes (λ x. eqb (length x) n) held e wide) ∙ sym l,
    within_wider (i * 1024 + 1024) ((i + 1) * 1024) _ (omega arith) (within_plus (i * 1024) 1024 s (numbers r) w (row_passes (within 1024) held e small)),
  )

  -- with the row, or without it, the sum of all stays
  pub sum_with : (n : ℕ) (s x t : List ℤ) (rest : ℕ) → (rest % 2 ≡ 0 → ⊥) → x ≡ numbers r → t ≡ plus s x → plus t (row_sum n (map numbers (drop (i + 1) rows)) (rest / 2)) ≡ plus s (row_sum n (map numbers (drop i rows)) rest)
  sum_with n s x t rest odd e f =
      let others = row_sum n (map numbers (drop (i + 1) rows)) (rest / 2) in
      rw (f, e) (plus_assoc s (numbers r) others ∙ sym (at_drop_more (λ rs. plus s (row_sum n (map numbers rs) rest)) rows i r here ∙ rw (← is, ne_eqb (rest % 2) 0 odd)))

  pub sum_without : (n : ℕ) (s : List ℤ) (rest : ℕ) → rest % 2 ≡ 0 → length s ≡ n → plus s (row_sum n (map numbers (drop (i + 1) rows)) (rest / 2)) ≡ plus s (row_sum n (map numbers (drop i rows)) rest)
  sum_without n s rest even l =
      let others = row_sum n (map numbers (drop (i + 1) rows)) (rest / 2) in
      let none : plus s others ≡ plus s (plus (zeros n) others) = ap (λ (xs : List ℤ). plus xs others) (sym (plus_comm s (zeros n) ∙ zeros_plus n s l)) ∙ plus_assoc s (zeros n) others in
      none ∙ sym (at_drop_more (λ rs. plus s (row_sum n (map numbers rs) rest)) rows i r here ∙ rw even)

-- no row is added yet
pub sum_begins : (n : ℕ) (s : List ℤ) (rows held : List (List ℤ)) (j : ℕ) → s ≡ zeros n → rows ≡ held → all_as_wide n held ≡ true → (plus s (row_sum (length s) rows j) ≡ row_sum (length s) held j) × (within 0 s ≡ true)
sum_begins n s rows held j e f h = rw (e, f, length_zeros n) (zeros_plus n (row_sum n held j) (length_sum n held j h), within_zeros 0 n)

-- all of them are gone through
pub sum_ends : (n : ℕ) (s : List ℤ) (held : List (List ℤ)) (rest j : ℕ) → length s ≡ n → plus s (row_sum n [] rest) ≡ row_sum n held j → s ≡ row_sum n held j
sum_ends n s held rest j l e = sym (plus_comm s (zeros n) ∙ zeros_plus n s l) ∙ e
