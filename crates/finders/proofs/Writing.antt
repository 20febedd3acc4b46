-- A loop that writes f of each item of a list into a place, one after the other, and one that writes it over the item itself.
use Rattle.std.proofs.Common.{◌≡◌, ℕ, ◌+◌, ◌<◌, List, [], ◌∷◌, ◌++◌, map, length, get_or, take, drop, set, sym, ap, ap₂, ◌∙◌, arith}
use Rattle.std.proofs.lemmas.Grind.{drop_more_same}
use Rattle.std.proofs.lemmas.List.{drop-map, drop-set-lt, get_or-drop, map_more, take_more_set}

module _ {A B : Type 0} (f : A → B) (xs : List A) (place : List B) (i : ℕ) (y : B) where
  -- what is written for each item is f of it
  pub written_more : (d : A) → i < length xs → i < length place → y ≡ f (get_or xs i d) → take i place ≡ map f (take i xs) → take (i + 1) (set place i y) ≡ map f (take (i + 1) xs)
  written_more d here room e done = take_more_set place i y room ∙ ap₂ (λ (u : List B) (v : B). u ++ v ∷ []) done e ∙ sym (map_more f xs i d here)

  -- what stands for each item that is left is f of it
  pub left_more : drop i place ≡ map f (drop i xs) → drop (i + 1) (set place i y) ≡ map f (drop (i + 1) xs)
  left_more left = drop-set-lt (i + 1) place i y (omega arith) ∙ drop_more_same place (map f xs) i (left ∙ sym (drop-map f i xs)) ∙ drop-map f (i + 1) xs

-- the first i items of the one list are f of those of the other, and the items behind them are the same
pub record Mapped {A : Type 0} (f : A → A) (i : ℕ) (xs ys : List A) : Type 0 where
  pub done : take i ys ≡ map f (take i xs)
  pub left : drop i ys ≡ drop i xs

module _ {A : Type 0} {f : A → A} {i : ℕ} {xs ys : List A} (m : Mapped f i xs ys) where
  pub next_same : (d : A) → get_or xs i d ≡ get_or ys i d
  next_same d =
      let e : i + 0 ≡ i = omega arith in
      let t = sym (get_or-drop i xs 0 d) ∙ ap (λ (l : List A). get_or l 0 d) (sym m.left) ∙ get_or-drop i ys 0 d in
      rw e at t

  -- the next item is written over
  pub mapped_more : i < length xs → i < length ys → (d y : A) → f (get_or ys i d) ≡ y → Mapped f (i + 1) xs (set ys i y)
  mapped_more here room d y e = record {
    done = written_more f xs ys i y d here room (sym (ap f (next_same d) ∙ e)) m.done;
    left = drop-set-lt (i + 1) ys i y (omega arith) ∙ drop_more_same ys xs i m.left;
  }
