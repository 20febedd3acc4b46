-- The search for the nearest of the glued points, over the sums of rows in order.
use Rattle.std.proofs.Common.{◌≡◌, ℕ, ◌+◌, ◌^◌, MatchOption, List, [], ◌∷◌, ◌++◌, map, length, ℤ, Some, Option, Ok, Result, ap, ap₂, ◌∙◌, arith, pow_pos}
use Rattle.std.specs.List.{range_with_len}
use Rattle.std.proofs.lemmas.List.FromFn.{map-range_with_len_more}
use Rattle.finders.specs.declared.choice.Least.{Least}
use Rattle.finders.specs.declared.refusals.Refusal.{Refusal}
use Rattle.finders.specs.Choice.{Chosen, no_larger}
use Rattle.finders.specs.Meanings.{Meaning}
use Rattle.finders.specs.PointFinders.{PointFit, find_answer, find_place}
use Rattle.finders.proofs.FirstNumbers.{chosen_number}
use Rattle.finders.proofs.Scores.{Little, small, small_decides, no_larger_total, no_larger_chain}
use Rattle.integers.specs.Sums.{plus}
use Rattle.lattice_layers.specs.Rows.{row_sum}
use Rattle.integers.proofs.Sums.{plus_comm}
use Rattle.lattice_layers.specs.Glue.{taken_off}
use Rattle.lattice_layers.specs.GlueFinds.{Granted, sum_of, nearest_of, score_of, best_of}

module _ (rows : List (List ℤ)) (M : Meaning PointFit) (rs : List ℤ) (q : ℕ) where
  -- the number of a sum, with its score
  abbrev pub offer : ℕ → ℕ × Least
  offer j = (j, small (score_of rows M rs q j))

  -- what was offered before number k
  abbrev pub offers : ℕ → List (ℕ × Least)
  offers k = map offer (range_with_len 0 k)

  -- the place holds the nearest point of the sum that is held
  abbrev pub Holds : Option (ℕ × Least) → List ℤ → Type 0
  Holds held place = MatchOption held (Unit {0}) (λ b. place ≡ nearest_of rows M rs q b.0)

  -- what is held after all of them is the best
  pub held_last : (held : Option (ℕ × Least)) → Chosen Little (offers (2 ^ length rows)) held → held ≡ Some (offer (best_of rows M rs q))
  held_last = chosen_number no_larger no_larger_total no_larger_chain (score_of rows M rs q) (2 ^ length rows) (pow_pos (length rows)) (λ j. j) small Little small_decides

  -- ---- one turn: for the readings `moved` the find below answers d and writes c

  pub record Turned (k : ℕ) (sum c : List ℤ) (d : ℕ) : Type 0 where
    pub distance : d ≡ score_of rows M rs q k
    pub point : plus c sum ≡ nearest_of rows M rs q k

  pub turn : (place : List ℤ) → Granted rows M rs q place → (k : ℕ) (room sum moved point c : List ℤ) (d : ℕ) → length room ≡ length rs → sum ≡ row_sum (length room) rows k → moved ≡ taken_off q sum rs →
      length point ≡ length rs → Ok d ≡ find_answer M moved q point → c ≡ find_place M moved q point → Turned k sum c d
  turn place g k room sum moved point c d wide is takes long answers writes =
      let at : sum ≡ sum_of rows M k = is ∙ ap (λ (n : ℕ). row_sum n rows k) (wide ∙ g.as_wide) in
      let asked : moved ≡ taken_off q (sum_of rows M k) rs = takes ∙ ap (λ (p : List ℤ). taken_off q p rs) at in
      let below = g.below k point (long ∙ g.as_wide) in
      let told : ◌≡◌ {A = Result ℕ Refusal} (Ok d) (Ok (score_of rows M rs q k)) = answers ∙ ap (λ (zs : List ℤ). find_answer M zs q point) asked ∙ below.0 in
      record {
        distance = cc;
        point = plus_comm c sum ∙ ap₂ plus at (writes ∙ ap (λ (zs : List ℤ). find_place M zs q point) asked ∙ below.1);
      }

  pub chosen_more : (k d : ℕ) (held : Option (ℕ × Least)) → d ≡ score_of rows M rs q k → Chosen Little (offers k ++ (k, small d) ∷ []) held → Chosen Little (offers (k + 1)) held
  chosen_more k d held e chosen = rw (map-range_with_len_more offer 0 k k (omega arith), ← e) chosen
