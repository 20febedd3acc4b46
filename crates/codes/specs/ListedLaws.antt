-- The laws of listed words.
use Rattle.std.specs.Prelude.{◌≡◌, ℕ, ◌^◌, ◌<◌, ◌≤◌, true, List, [], ◌∷◌, map, length, ℤ, pos, ◌≤ℤ◌, Ok, Err, Result, nat_le, nat_lt, slice_index_or}
use Rattle.std.specs.List.{ContainsAt as Has, AllByRecursion}
use Rattle.std.proofs.ByRecursion.{all-has, has_get_or}
use Rattle.std.proofs.lemmas.List.{length-map, get_or-map}
use Rattle.std.proofs.lemmas.Bool.{and_parts, leb-true, ltb-true}
use Rattle.finders.specs.declared.refusals.Refusal.{Refusal}
use Rattle.finders.specs.Choice.{IsFirst, first_best, no_less}
use Rattle.finders.specs.Sizes.{in_range}
use Rattle.finders.specs.WordFinders.{WordLaws, Lawful}
use Rattle.finders.specs.Words.{all_fit, correlation}
use Rattle.finders.proofs.Firsts.{first_best_is, best_measured}
use Rattle.finders.proofs.Scores.{no_less_total, no_less_chain, great_decides}
use Rattle.codes.specs.declared.listed.table.Table.{Table}
use Rattle.codes.specs.Listed.{first_listed, listed_fit}
use Rattle.codes.specs.Tables.{words_in, listed_in}
use Rattle.finders.proofs.Within.{range}
use Rattle.codes.specs.CodeLaws.{code_laws}

all_below : (n : ℕ) (ws : List ℕ) → all_fit n ws ≡ true → AllByRecursion (λ w. w < 2 ^ n) ws
all_below n [] h = tt
all_below n (w ∷ ws) h = let p = and_parts (nat_lt w (2 ^ n)) (all_fit n ws) h in (ltb-true w (2 ^ n) p.0, all_below n ws p.1)

-- ---- the pick

abbrev pub scores : List ℕ → List ℤ → List ℤ
scores ws gs = map (λ w. correlation w gs) ws

-- where the index of the best score is one of a word, that is the word that has it
pub score_of_first : (ws : List ℕ) (gs : List ℤ) → first_best no_less (scores ws gs) < length (scores ws gs) → slice_index_or (scores ws gs) (first_best no_less (scores ws gs)) (pos 0) ≡ correlation (first_listed ws gs) gs
score_of_first ws gs h = get_or-map (λ w. correlation w gs) ws (first_best no_less (scores ws gs)) 0 (pos 0) (rw length-map at h)

module _ (ws : List ℕ) (some : 1 ≤ length ws) (gs : List ℤ) where
  pub first_is : IsFirst no_less (pos 0) (scores ws gs) (first_best no_less (scores ws gs))
  first_is = first_best_is no_less no_less_total no_less_chain (pos 0) (scores ws gs) (rw length-map some)

  greatest : (first_best no_less (scores ws gs) < length ws) × AllByRecursion (λ w. no_less (correlation (first_listed ws gs) gs) (correlation w gs) ≡ true) ws
  greatest = best_measured no_less no_less_total no_less_chain (λ w. correlation w gs) 0 ws some

  pub first_listed_is_listed : Has ws (first_listed ws gs)
  first_listed_is_listed = has_get_or ws (first_best no_less (scores ws gs)) 0 greatest.0

  pub none_listed_is_better : (w : ℕ) → Has ws w → correlation w gs ≤ℤ correlation (first_listed ws gs) gs
  none_listed_is_better w h =
      let best = correlation (first_listed ws gs) gs in
      (great_decides best (correlation w gs)).0 (all-has (λ v. no_less best (correlation v gs) ≡ true) ws w greatest.1 h)

pub listed_laws : (n : ℕ) (ws : List ℕ) → in_range n ≡ true → 1 ≤ length ws → all_fit n ws ≡ true → WordLaws (listed_fit n ws)
listed_laws n ws sized some fitting = code_laws n (Has ws) (first_listed ws)
    (λ w. all-has (λ v. v < 2 ^ n) ws w (all_below n ws fitting))
    (λ gs _ _. first_listed_is_listed ws some gs)
    (λ gs _ _. none_listed_is_better ws some gs)
    (range n sized)

pub listed_lawful : (r : Result Table Refusal) → Lawful (listed_in r)
listed_lawful (Ok t) =
    let some = (and_parts (nat_le 1 (length (words_in t))) (nat_le (length (words_in t)) 64) t.counted).0 in
    listed_laws t.width (words_in t) t.sized (leb-true 1 (length (words_in t)) some) t.fitting
listed_lawful (Err e) = tt
