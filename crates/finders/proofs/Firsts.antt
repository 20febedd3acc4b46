-- The index of the first best of a list: what makes it right, and that the choice of the first best finds it.
use Rattle.std.proofs.Common.{◌≡◌, ℕ, ◌<◌, ◌≤◌, Bool, true, false, ◌⊎◌, List, [], ◌∷◌, ◌++◌, map, length, get_or, Some, None, Option, MatchOption, Decides, sym, refl, inl, inr, arith}
use Rattle.std.specs.List.{AllByRecursion}
use Rattle.std.proofs.lemmas.List.{length-map, get_or-map}
use Rattle.std.proofs.lemmas.Bool.{and_parts, both_ways}
use Rattle.finders.specs.Choice.{Chosen, as_good_as, first_best, IsFirst}

pub all_mapped : {A B : Type 0} (P : B → Type 0) (f : A → B) (xs : List A) → AllByRecursion P (map f xs) → AllByRecursion (λ a. P (f a)) xs
all_mapped P f [] h = tt
all_mapped P f (x ∷ xs) h = (h.0, all_mapped P f xs h.1)

module _ {A : Type 0} (good : A → A → Bool) where
  as_good_all : (a : A) (xs : List A) → as_good_as good a xs ≡ true → AllByRecursion (λ b. good a b ≡ true) xs
  as_good_all a [] h = tt
  as_good_all a (b ∷ xs) h = let p = and_parts (good a b) (as_good_as good a xs) h in (p.0, as_good_all a xs p.1)

  all_as_good : (a : A) (xs : List A) → AllByRecursion (λ b. good a b ≡ true) xs → as_good_as good a xs ≡ true
  all_as_good a [] h = refl
  all_as_good a (b ∷ xs) h = rw (h.0, all_as_good a xs h.1)

  -- ---- what makes `first_best` right, where the order is total and carries along a chain

  module _ (total : (a b : A) → (good a b ≡ true) ⊎ (good b a ≡ true)) (chain : (a b c : A) → good a b ≡ true → good b c ≡ true → good a c ≡ true) where
    all_chain : (a b : A) (xs : List A) → good a b ≡ true → AllByRecursion (λ c. good b c ≡ true) xs → AllByRecursion (λ c. good a c ≡ true) xs
    all_chain a b [] g h = tt
    all_chain a b (c ∷ xs) g h = (chain a b c g h.0, all_chain a b xs g h.1)

    itself : (a : A) → good a a ≡ true
    itself a = elim (total a a) [ inl h ↦ h | inr h ↦ h ]

    -- a is worse than b: so b is better
    over : (a b : A) → good a b ≡ false → good b a ≡ true
    over a b w = elim (total a b) [ inl h ↦ absurd (both_ways (good a b) w h) | inr h ↦ h ]

    pub first_best_is : (d : A) (xs : List A) → 1 ≤ length xs → IsFirst good d xs (first_best good xs)
    first_best_is d [] h = absurd (omega arith)
    first_best_is d (a ∷ xs) h = go (first_best_is d xs) (as_good_as good a xs) refl
      where
        some : (xs : List A) → as_good_as good a xs ≡ false → 1 ≤ length xs
        some [] e = absurd (both_ways true e refl)
        some (b ∷ xs) e = omega arith

        go : (1 ≤ length xs → IsFirst good d xs (first_best good xs)) → (b : Bool) → as_good_as good a xs ≡ b → IsFirst good d (a ∷ xs) (first_best good (a ∷ xs))
        go ih true e = rw e (record { stands = omega arith; none_is_better = (itself a, as_good_all a xs e); earlier_are_worse = tt })
        go ih false e =
            let f = ih (some xs e) in
            let best = get_or xs (first_best good xs) d in
            let worse : good a best ≡ false = elim (good a best) as (λ b. good a best ≡ b → good a best ≡ false) [
              | true ↦ λ g. absurd (both_ways (as_good_as good a xs) e (all_as_good a xs (all_chain a best xs g f.none_is_better)))
              | false ↦ λ g. g
            ] refl in
            rw e (record { stands = omega (arith, f.stands); none_is_better = (over a best worse, f.none_is_better); earlier_are_worse = (worse, f.earlier_are_worse) })

    -- the same of what f measures of each element of a list: an element is at that index, and none measures better
    pub best_measured : {X : Type 0} (f : X → A) (e : X) (xs : List X) → 1 ≤ length xs → (first_best good (map f xs) < length xs) × AllByRecursion (λ x. good (f (get_or xs (first_best good (map f xs)) e)) (f x) ≡ true) xs
    best_measured f e xs h =
        let best = first_best_is (f e) (map f xs) (rw length-map h) in
        let here : first_best good (map f xs) < length xs = rw length-map at best.stands in
        let none = rw (get_or-map f xs (first_best good (map f xs)) e (f e) here) at best.none_is_better in
        (here, all_mapped (λ a. good (f (get_or xs (first_best good (map f xs)) e)) a ≡ true) f xs none)

-- ---- the choice

no_offer : {X : Type 0} {x : X} {xs : List X} → ◌≡◌ {A = List X} [] (x ∷ xs) → ⊥
no_offer e = let z : ◌≡◌ {A = ℕ} 0 1 = cc in omega arith

-- what is chosen of some candidates is the first of those that measure best: f is what is measured of an element, and c its candidate
module _ {X C A S : Type 0} (c : X → C) (f : X → A) (score : A → S) (good : A → A → Bool) (Good : S → S → Type 0) (decides : (a b : A) → Decides (good a b) (Good (score a) (score b))) (e : X) where
  abbrev offer : X → C × S
  offer x = (c x, score (f x))

  abbrev best : List X → ℕ
  best xs = first_best good (map f xs)

  abbrev At : List X → C × S → Type 0
  At xs b = (best xs < length xs) × (b ≡ offer (get_or xs (best xs) e))

  no_better : (x : X) (xs : List X) → AllByRecursion (λ o. Good (score (f x)) o.1) (map offer xs) → as_good_as good (f x) (map f xs) ≡ true
  no_better x [] h = refl
  no_better x (y ∷ xs) h = rw ((decides (f x) (f y)).1 h.0, no_better x xs h.1)

  -- x is worse than one of the list
  beaten : (x : X) (xs : List X) (es later : List (C × S)) (b : C × S) → map offer xs ≡ es ++ b ∷ later → (Good (score (f x)) b.1 → ⊥) → as_good_as good (f x) (map f xs) ≡ true → ⊥
  beaten x [] [] later b i n g = no_offer i
  beaten x [] (o ∷ es) later b i n g = no_offer i
  beaten x (y ∷ xs) [] later b i n g =
      let h : offer y ≡ b = cc in
      n (rw (sym h) ((decides (f x) (f y)).0 (and_parts (good (f x) (f y)) (as_good_as good (f x) (map f xs)) g).0))
  beaten x (y ∷ xs) (o ∷ es) later b i n g =
      let t : map offer xs ≡ es ++ b ∷ later = cc in
      beaten x xs es later b t n (and_parts (good (f x) (f y)) (as_good_as good (f x) (map f xs)) g).1

  at : (xs : List X) (es later : List (C × S)) (b : C × S) → map offer xs ≡ es ++ b ∷ later → AllByRecursion (λ o. Good o.1 b.1 → ⊥) es → AllByRecursion (λ o. Good b.1 o.1) later → At xs b
  at [] [] later b i w l = absurd (no_offer i)
  at [] (o ∷ es) later b i w l = absurd (no_offer i)
  at (x ∷ xs) [] later b i w l =
      let h : offer x ≡ b = cc in
      let t : map offer xs ≡ later = cc in
      rw (no_better x xs (rw (sym h, sym t) at l)) (omega arith, sym h)
  at (x ∷ xs) (o ∷ es) later b i w l =
      let h : offer x ≡ o = cc in
      let t : map offer xs ≡ es ++ b ∷ later = cc in
      let n : Good (score (f x)) b.1 → ⊥ = rw (sym h) at w.0 in
      let no : as_good_as good (f x) (map f xs) ≡ false = elim (as_good_as good (f x) (map f xs)) as (λ v. as_good_as good (f x) (map f xs) ≡ v → as_good_as good (f x) (map f xs) ≡ false) [
        | true ↦ λ g. absurd (beaten x xs es later b t n g)
        | false ↦ λ g. g
      ] refl in
      let r = at xs es later b t w.1 l in
      rw no (omega (arith, r.0), r.1)

  pub chosen_is_best : (xs : List X) (held : Option (C × S)) → Chosen Good (map offer xs) held → MatchOption held (xs ≡ []) (At xs)
  chosen_is_best [] None i = refl
  chosen_is_best (x ∷ xs) None i = absurd (no_offer (sym i))
  chosen_is_best xs (Some b) h = at xs h.earlier h.later b h.stands h.earlier_are_worse h.later_are_no_better
