use Rattle.std.proofs.Common.{◌≡◌, ℕ, ◌+◌, ◌%◌, ◌<◌, Bool, nat_eq, List, [], ◌∷◌, ◌++◌, ℤ, pos, nat_abs, ◌∙◌, w32, SFits, to_z, of_z, arith, rules}
use lib.Signed.{rem_z}
use Rattle.std.specs.Bool.{beq}
use Rattle.std.proofs.lemmas.Fn.{fold_over, fronts}
use Rattle.std.proofs.lemmas.Iterator.{YieldsList-from_slice}
use Rattle.std.proofs.lemmas.Bool.Decides.{nat_tests}
use Rattle.std.proofs.lemmas.Int.{ints}
use Rattle.integers.proofs.Sums.{sumℤ-++}
use Rattle.lattices.specs.LatticeD.{parity}
use Rattle.lattices.proofs.lattice_d.has_even_sum.Goals as goal

-- whether a number of 32 bits is even, as the machine tells it
abbrev even : ℤ → Bool
even x = nat_eq (of_z w32 (rem_z (to_z w32 (of_z w32 x)) (pos 2))) 0

told_even : (x : ℤ) → SFits w32 x → even x ≡ nat_eq (nat_abs x % 2) 0
told_even x f = grind (arith, ints, nat_tests)

even_sum : (m n k : ℕ) → m < 2 → n < 2 → k ≡ (m + n) % 2 → beq (nat_eq n 0) (nat_eq m 0) ≡ nat_eq k 0
even_sum m n k g h e = grind (arith, nat_tests)

even_more : (xs : List ℤ) (x : ℤ) (a : Bool) → SFits w32 x → a ≡ nat_eq (parity xs) 0 → beq a (even x) ≡ nat_eq (parity (xs ++ x ∷ [])) 0
even_more xs x a f e = rw (e, told_even x f) (even_sum (nat_abs x % 2) (parity xs) (parity (xs ++ x ∷ [])) (omega arith) (omega arith) (omega (arith, ints, sumℤ-++ xs (x ∷ []))))

pub returns : goal.returns
returns c =
    fold_over fronts (λ y. y.now) _ (λ xs a. a ≡ nat_eq (parity xs) 0) _
    (λ xs a x b f e k.
    let more : b ≡ beq a (even x.now) = search rules in
    let fits : SFits w32 x.now = search rules in
    (more ∙ even_more xs x.now a fits e, search rules))
    c.iter.result c.args.point.now _ c.fold.result (YieldsList-from_slice c.args.point.now cc).runs (search rules) c.fold.ensures.ran
