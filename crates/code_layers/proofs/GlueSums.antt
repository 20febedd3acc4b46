-- A sum of glue words as the machine adds it up.
use Rattle.std.proofs.Common.{◌≡◌, ℕ, ◌+◌, ◌/◌, ◌%◌, ◌<◌, true, false, cond, eqb, List, length, get_or, drop, bit_xor, sym, ap, ◌∙◌}
use Rattle.std.specs.Int.Bits.{xor_assoc, xor_zero_l}
use Rattle.std.proofs.lemmas.List.{at_drop_more}
use Rattle.code_layers.specs.Glue.{glue_sum}

-- one word more is added to the sum s
pub sum_more : (s : ℕ) (ws : List ℕ) (i rest : ℕ) → i < length ws → bit_xor s (glue_sum (drop i ws) rest) ≡ bit_xor (cond (eqb (rest % 2) 0) s (bit_xor s (get_or ws i 0))) (glue_sum (drop (i + 1) ws) (rest / 2))
sum_more s ws i rest h =
    at_drop_more (λ vs. bit_xor s (glue_sum vs rest)) ws i 0 h
    ∙ elim (eqb (rest % 2) 0) as (λ b. bit_xor s (bit_xor (cond b 0 (get_or ws i 0)) (glue_sum (drop (i + 1) ws) (rest / 2))) ≡ bit_xor (cond b s (bit_xor s (get_or ws i 0))) (glue_sum (drop (i + 1) ws) (rest / 2))) [
      | true ↦ ap (bit_xor s) (xor_zero_l _)
      | false ↦ sym (xor_assoc s (get_or ws i 0) _)
    ]
