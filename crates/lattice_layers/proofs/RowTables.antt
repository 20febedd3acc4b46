-- Rows as a table takes them: one more, or one that is too long.
use Rattle.std.proofs.Common.{◌≡◌, ℕ, ◌+◌, ◌<◌, ◌≤◌, Bool, true, false, leb, List, [], ◌∷◌, ◌++◌, map, length, get_or, set, take, ℤ, Err, ◌∙◌}
use Rattle.std.specs.Borrow.{Bor}
use Rattle.std.proofs.lemmas.Bool.{le-leb, lt-leb}
use Rattle.std.proofs.lemmas.List.{take_more_set, map_more, map-append, length-map}
use Rattle.std.proofs.lemmas.List.Folds.{list_all_at, list_all-append, list_all-map}
use Rattle.finders.specs.declared.refusals.Refusal.TheVariants.{Length}
use Rattle.lattice_layers.specs.declared.glue.table.Row.{Row}
use Rattle.lattice_layers.specs.Table.{numbers_in, slices, all_short, table_held}

abbrev short : List ℤ → Bool
short r = leb (length r) 32

module _ (rows : List (Bor (List ℤ))) (i : ℕ) (d : Bor (List ℤ)) (here : i < length rows) where
  pub too_long : length rows ≤ 13 → 32 < length (get_or rows i d).now → table_held (slices rows) ≡ Err Length
  too_long few long =
      let all : all_short (slices rows) ≡ false = list_all-map short (λ r. r.now) rows ∙ list_all_at (λ r. short r.now) rows i d here (lt-leb _ 32 long) in
      rw (length-map, le-leb (length rows) 13 few, all)

  pub held_more : (array : List Row) (r : Row) → i < length array → length (get_or rows i d).now ≤ 32 → numbers_in r ≡ (get_or rows i d).now → map numbers_in (take i array) ≡ slices (take i rows) → all_short (slices (take i rows)) ≡ true →
      (map numbers_in (take (i + 1) (set array i r)) ≡ slices (take (i + 1) rows)) × (all_short (slices (take (i + 1) rows)) ≡ true)
  held_more array r room fits same held all =
      let more : slices (take (i + 1) rows) ≡ slices (take i rows) ++ (get_or rows i d).now ∷ [] = map_more (λ r. r.now) rows i d here in (
        rw (take_more_set array i r room, map-append, more, held, same),
        rw (more, list_all-append, all, le-leb _ 32 fits),
      )
