-- The points of a finder, each moved by each sum of some rows.
use Rattle.std.specs.Prelude.{◌≡◌, ℕ, ◌-◌, ◌*◌, ◌^◌, ◌<◌, List, map, length, ℤ, nat_le, Result, Ok, Err}
use Rattle.std.specs.List.{range_with_len}
use Rattle.integers.specs.Nearest.{residue}
use Rattle.integers.specs.Sums.{zip_with, plus}
use Rattle.finders.specs.declared.refusals.Refusal.{Refusal}
use Rattle.finders.specs.declared.refusals.Refusal.TheVariants.{GlueCount, Length, Entry, Exhausted}
use Rattle.finders.specs.Choice.{first_best, no_larger}
use Rattle.finders.specs.Meanings.{Meaning, fit, unfit, unfit_unless}
use Rattle.finders.specs.PointFinders.{PointFit}
use Rattle.finders.specs.Points.{distance}
use Rattle.lattice_layers.specs.Rows.{row_sum, all_as_wide, all_within, reach}

-- the readings with q times p taken off, which is what the point p leaves of them
abbrev pub taken_off : ℕ → List ℤ → List ℤ → List ℤ
taken_off q p rs = zip_with (residue q) rs p

-- the numbers of the sums
abbrev pub sum_numbers : List (List ℤ) → List ℕ
sum_numbers rows = range_with_len 0 (2 ^ length rows)

-- where the points below have n cells and are picked by `pick`
module _ (rows : List (List ℤ)) (n : ℕ) (pick : List ℤ → ℕ → List ℤ) where
  -- the nearest of the points that the sum with number j moves
  abbrev pub nearest_in : List ℤ → (q j : ℕ) → List ℤ
  nearest_in rs q j = let p = row_sum n rows j in plus p (pick (taken_off q p rs) q)

  -- its squared distance
  abbrev pub score : List ℤ → (q j : ℕ) → ℕ
  score rs q j = distance q rs (nearest_in rs q j)

  -- the first number of the least distance
  abbrev pub best_sum : List ℤ → ℕ → ℕ
  best_sum rs q = first_best no_larger (map (score rs q) (sum_numbers rows))

abbrev pub glued_fit : List (List ℤ) → PointFit → PointFit
glued_fit rows m = record {
  width = m.width;
  reading_limit = m.reading_limit - reach rows * m.step_limit;
  step_limit = m.step_limit;
  member = λ x. (j : ℕ) × (c : List ℤ) × (j < 2 ^ length rows) × m.member c × (x ≡ plus (row_sum m.width rows j) c);
  pick = λ rs q. nearest_in rows m.width m.pick rs q (best_sum rows m.width m.pick rs q);
}

abbrev pub glued : List (List ℤ) → Meaning PointFit → Meaning PointFit
glued rows (unfit e) = unfit e
glued rows (fit m) =
    unfit_unless (nat_le (length rows) 13) GlueCount
    (unfit_unless (all_as_wide m.width rows) Length
    (unfit_unless (all_within 1024 rows) Entry
    (unfit_unless (nat_le 1 (m.reading_limit - reach rows * m.step_limit)) Exhausted
    (fit (glued_fit rows m)))))

-- the same of rows as a layer holds them: what is below comes first where both are refused
abbrev pub glued_by : Result (List (List ℤ)) Refusal → Meaning PointFit → Meaning PointFit
glued_by (Ok rows) M = glued rows M
glued_by (Err e) (unfit f) = unfit f
glued_by (Err e) (fit m) = unfit e
