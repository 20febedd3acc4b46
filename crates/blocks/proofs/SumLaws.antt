-- Totals and sums over the senses.
use Rattle.std.proofs.Common.{◌≡◌, ℕ, ◌*◌, ◌<◌, ◌≤◌, List, [], ◌∷◌, map, length, get_or, ℤ, pos, ◌+ℤ◌, sym, refl, ◌∙◌, arith}
use Rattle.std.specs.List.{sum_by}
use Rattle.std.specs.List.Sorted.{IsPermutation}
use Rattle.std.proofs.Math.Nat.{le_of_mul-le-mul_left}
use Rattle.std.proofs.lemmas.Int.{ints}
use Rattle.std.proofs.lemmas.List.{get_or-replicate}
use Rattle.std.proofs.lemmas.List.Recursion.{is_sum_by}
use Rattle.std.proofs.lemmas.List.Sorted.{sum_by-IsPermutation}
use Rattle.integers.specs.Sums.{sumℤ}
use Rattle.integers.proofs.Sums.{get_or_zip_with}
use Rattle.finders.specs.Points.{distance}
use Rattle.blocks.specs.Senses.{total, sums}
use Rattle.blocks.specs.Tally.{AreSenses}
use Rattle.blocks.proofs.Balance.{balance, length_sums}

total_by_sense : (q : ℕ) (ss : List (List ℤ)) (x : List ℤ) → total q ss x ≡ sum_by (λ rs. distance q rs x) ss
total_by_sense q ss x = is_sum_by (λ ts. total q ts x) (λ rs. distance q rs x) refl (λ rs ts. refl) ss

pub total_in_any_order : (q : ℕ) (ss ts : List (List ℤ)) (x : List ℤ) → IsPermutation ss ts → total q ts x ≡ total q ss x
total_in_any_order q ss ts x p =
    total_by_sense q ts x ∙ sum_by-IsPermutation (λ rs. distance q rs x) ss ts p ∙ sym (total_by_sense q ss x)

pub sum_at : (n i : ℕ) (ss : List (List ℤ)) → AreSenses n ss → i < n →
    get_or (sums n ss) i (pos 0) ≡ sumℤ (map (λ rs. get_or rs i (pos 0)) ss)
sum_at n i [] h k = get_or-replicate n i (pos 0) (pos 0) k
sum_at n i (rs ∷ ss) h k =
    let in_sums : i < length (sums n ss) = omega (arith, length_sums n ss h.1) in
    let in_sense : i < length rs = omega (arith, h.0.as_wide) in
    let here = get_or_zip_with ◌+ℤ◌ (sums n ss) rs i (pos 0) (pos 0) (pos 0) in_sums in_sense in
    omega (arith, ints, here, sum_at n i ss h.1 k)

pub nearer_is_less : (n q : ℕ) (ss : List (List ℤ)) (x y : List ℤ) → AreSenses n ss → 1 ≤ length ss →
    length x ≡ n → length y ≡ n →
    distance (length ss * q) (sums n ss) x ≤ distance (length ss * q) (sums n ss) y → total q ss x ≤ total q ss y
nearer_is_less n q ss x y h some e f near =
    let times : length ss * total q ss x ≤ length ss * total q ss y =
    omega (arith, balance n q ss x h e, balance n q ss y h f) in
    le_of_mul-le-mul_left times some
