-- The first best of the numbers below n, by what is measured of each.
use Rattle.std.proofs.Common.{◌≡◌, ℕ, ◌<◌, ◌≤◌, Bool, true, ◌⊎◌, List, [], ◌∷◌, map, length, get_or, Some, None, Option, MatchOption, Decides, sym, refl, ap, ap₂, ◌∙◌, arith}
use Rattle.std.specs.List.{range_with_len}
use Rattle.std.proofs.ByRecursion.{all-has, has_get_or}
use Rattle.std.proofs.lemmas.List.FromFn.{length-range_with_len, get_or-range_with_len}
use Rattle.finders.specs.Choice.{Chosen, first_best}
use Rattle.finders.proofs.Firsts.{best_measured, chosen_is_best}

abbrev numbers : ℕ → List ℕ
numbers n = range_with_len 0 n

number_at : (n i : ℕ) → i < n → get_or (numbers n) i 0 ≡ i
number_at n i h = get_or-range_with_len 0 n i 0 h ∙ omega arith

-- two measures of one value each have one best
pub first_best_alike : {X A : Type 0} (good : A → A → Bool) (f g : X → A) → ((x : X) → f x ≡ g x) → (xs : List X) → first_best good (map f xs) ≡ first_best good (map g xs)
first_best_alike {A = A} good f g same xs = ap (first_best good) (go xs)
  where
    go : (xs : List _) → map f xs ≡ map g xs
    go [] = refl
    go (x ∷ xs) = ap₂ {C = List A} (λ (a : A) (rest : List A). a ∷ rest) (same x) (go xs)

module _ {A : Type 0} (good : A → A → Bool) (total : (a b : A) → (good a b ≡ true) ⊎ (good b a ≡ true)) (chain : (a b c : A) → good a b ≡ true → good b c ≡ true → good a c ≡ true) (f : ℕ → A) (n : ℕ) (some : 1 ≤ n) where
  abbrev best : ℕ
  best = first_best good (map f (numbers n))

  -- it is one of them, and none is better
  pub best_number : (best < n) × ((i : ℕ) → i < n → good (f best) (f i) ≡ true)
  best_number =
      let few = length-range_with_len 0 n in
      let b = best_measured good total chain f 0 (numbers n) (rw few some) in
      let here : best < n = rw few at b.0 in (
        here,
        λ i h.
            let has = rw (number_at n i h) at (has_get_or (numbers n) i 0 (rw few h)) in
            rw (number_at n best here) at (all-has (λ k. good (f (get_or (numbers n) best 0)) (f k) ≡ true) (numbers n) i b.1 has),
      )

  -- what is held of them all, where number i has the candidate c i
  pub chosen_number : {C S : Type 0} (c : ℕ → C) (score : A → S) (Good : S → S → Type 0) → ((a b : A) → Decides (good a b) (Good (score a) (score b))) → (held : Option (C × S)) → Chosen Good (map (λ i. (c i, score (f i))) (numbers n)) held → held ≡ Some (c best, score (f best))
  chosen_number {C} {S} c score Good decides held chosen = go held (chosen_is_best c f score good Good decides 0 (numbers n) held chosen)
    where
      go : (held : Option (C × S)) → MatchOption held (numbers n ≡ []) (λ b. (best < length (numbers n)) × (b ≡ (c (get_or (numbers n) best 0), score (f (get_or (numbers n) best 0))))) → held ≡ Some (c best, score (f best))
      go None none = let z : 0 ≡ n = sym (ap length none) ∙ length-range_with_len 0 n in absurd (omega arith)
      go (Some b) p = ap Some (rw (number_at n best best_number.0) at p.1)
