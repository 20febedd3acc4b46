-- The first best of what was offered, and of a list of scores.
use Rattle.std.specs.Prelude.{◌≡◌, ℕ, suc, ◌<◌, Bool, true, false, cond, ◌&&◌, List, [], ◌∷◌, ◌++◌, length, take, ℤ, Some, None, Option, int_le, nat_le, slice_index_or}
use Rattle.std.specs.List.{AllByRecursion}

-- b stands in the list; all before it are worse, and none after it is better
pub record IsFirstBest {C S : Type 0} (at_least : S → S → Type 0) (offers : List (C × S)) (b : C × S) : Type 0 where
  pub earlier : List (C × S)
  pub later : List (C × S)
  pub stands : offers ≡ earlier ++ b ∷ later
  pub earlier_are_worse : AllByRecursion (λ x. at_least x.1 b.1 → ⊥) earlier
  pub later_are_no_better : AllByRecursion (λ x. at_least b.1 x.1) later

-- what is held after these offers: nothing where there was none
abbrev pub Chosen : {C S : Type 0} → (S → S → Type 0) → List (C × S) → Option (C × S) → Type 0
Chosen at_least offers None = offers ≡ []
Chosen at_least offers (Some b) = IsFirstBest at_least offers b

-- each of a list with its index, where the first has the index k
abbrev pub numbered : {S : Type 0} → ℕ → List S → List (ℕ × S)
numbered k [] = []
numbered k (x ∷ xs) = (k, x) ∷ numbered (suc k) xs

-- ---- the index of the first best of a list; `good a b` is the test whether a is at least as good as b

-- a is at least as good as each of the list
abbrev pub as_good_as : {A : Type 0} → (A → A → Bool) → A → List A → Bool
as_good_as good a [] = true
as_good_as good a (b ∷ bs) = good a b && as_good_as good a bs

-- the first that none after it is better than; `IsFirst` says what that makes it
abbrev pub first_best : {A : Type 0} → (A → A → Bool) → List A → ℕ
first_best good [] = 0
first_best good (a ∷ xs) = cond (as_good_as good a xs) 0 (suc (first_best good xs))

-- i is an index of the list, what stands there is at least as good as all, and all before it are worse; d is any value
pub record IsFirst {A : Type 0} (good : A → A → Bool) (d : A) (xs : List A) (i : ℕ) : Type 0 where
  pub stands : i < length xs
  pub none_is_better : AllByRecursion (λ a. good (slice_index_or xs i d) a ≡ true) xs
  pub earlier_are_worse : AllByRecursion (λ a. good a (slice_index_or xs i d) ≡ false) (take i xs)

-- the tests for the largest, the smallest, and the greatest of signed numbers
abbrev pub no_smaller : ℕ → ℕ → Bool
no_smaller a b = nat_le b a

abbrev pub no_larger : ℕ → ℕ → Bool
no_larger a b = nat_le a b

abbrev pub no_less : ℤ → ℤ → Bool
no_less a b = int_le b a
