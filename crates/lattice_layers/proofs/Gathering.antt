-- The word of the parities of a point, gathered from the last cell on.
use Rattle.std.proofs.Common.{◌≡◌, ℕ, ◌*◌, ◌%◌, ◌^◌, ◌≤◌, List, [], ◌∷◌, length, fold, reverse, bit_or, ℤ, nat_abs, refl, ap, ◌∙◌, arith}
use Rattle.std.proofs.lemmas.List.{reverse-append}
use Rattle.std.proofs.lemmas.List.Sums.{fold-append}
use Rattle.std.proofs.lemmas.Nat.{shl_whole, or_shifted}
use Rattle.lattice_layers.specs.ConstructionA.{parities}
use Rattle.lattice_layers.specs.ConstructionALaws.{parities_below}

-- a parity is shifted in below those of the later cells
abbrev pub gathers : ℕ → ℤ → ℕ
gathers w x = bit_or ((w * 2) % 2 ^ 32) (nat_abs x % 2)

pub gathered : (xs : List ℤ) → length xs ≤ 32 → fold gathers 0 (reverse xs) ≡ parities xs
gathered [] h = refl
gathered (x ∷ xs) h =
    let w = parities xs in
    let whole : (w * 2) % 2 ^ 32 ≡ w * 2 ^ 1 = shl_whole w (length xs) 1 32 (parities_below xs) (omega arith) in
    ap (fold gathers 0) (reverse-append (x ∷ []) xs) ∙ fold-append gathers 0 (reverse xs) (x ∷ []) ∙ ap (λ (v : ℕ). gathers v x) (gathered xs (omega arith))
    ∙ rw (whole, or_shifted w 1 (nat_abs x % 2) (omega arith)) (omega arith)
