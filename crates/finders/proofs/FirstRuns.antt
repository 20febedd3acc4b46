-- The choice of the first best among items that are numbered by `enumerate`.
use Rattle.std.proofs.Common.{◌≡◌, ℕ, zero, suc, ◌+◌, ◌<◌, Bool, get_or, Some, None, MatchOption, Decides, List, [], ◌∷◌, map, length, Option, IfSome, slice_get, refl, sym, ◌∙◌, ap, ap₂, subst, arith}
use Rattle.std.specs.declared.iter.Enumerate.{Enumerate}
use Rattle.std.specs.Iterator.Adapters.{enumerate_steps}
use Rattle.std.specs.Iterator.Runs.{EachRunFrom, SomeRun, WholeRun, ProjectsRun}
use Rattle.std.proofs.iter.runs.Made.{at-is}
use Rattle.std.proofs.lemmas.Iterator.{YieldsList, items_from_drains}
use Rattle.std.proofs.iter.runs.Made.{took}
use Rattle.std.proofs.lemmas.List.{map-id, nil_from_length}
use Rattle.std.specs.Iterator.{DrainsIf}
use Rattle.finders.specs.Choice.{Chosen, numbered, first_best}
use Rattle.finders.proofs.Firsts.{chosen_is_best}

numbered_from : {S : Type 0} (k : ℕ) (items : List (ℕ × S)) → ((i : ℕ) → IfSome (slice_get items i) (λ x. x.0 ≡ i + k)) → items ≡ numbered k (map (λ x. x.1) items)
numbered_from k [] at = refl
numbered_from {S} k (x ∷ items) at =
    let here : x.0 ≡ k = omega (arith, at 0) in
    ap₂ (λ (i : ℕ) (xs : List (ℕ × S)). (i, x.1) ∷ xs) here (numbered_from (suc k) items (λ i. subst (Numbered i) (omega arith) (at (suc i))))
  where
    Numbered : ℕ → ℕ → Type 0
    Numbered i n = IfSome (slice_get items i) (λ y. y.0 ≡ n)

-- what is chosen of all that `enumerate` gives is chosen of the numbered items of its source
pub chosen_of_numbered : {T S : Type 0} {steps : T → Option S → T → Type 0} (Good : S → S → Type 0) {s : T} {it jt : Enumerate T} (offers : List (ℕ × S)) (held : Option (ℕ × S))
    → EachRunFrom (enumerate_steps steps) it (λ p. ((k : ℕ) → IfSome (p.at k) (λ x. x.0 ≡ k)) × SomeRun steps s (λ q. ProjectsRun p q (λ x. x.1) × (q.whole ≡ p.whole)))
    → jt ≡ it
    → WholeRun (enumerate_steps steps) jt (λ p. (p.items ≡ offers) × (p.len ≡ length offers))
    → Chosen Good offers held
    → WholeRun steps s (λ q. Chosen Good (numbered 0 q.items) held)
chosen_of_numbered {S = S} Good offers held enumerates begins ran chosen =
    let p = ran.0 in
    let e = enumerates p p.seen (ran.1 ∙ begins) in
    let q = e.1.0 in
    let at : (i : ℕ) → IfSome (slice_get p.items i) (λ x. x.0 ≡ i + 0) = λ i. let z : i + 0 ≡ i = omega arith in rw (z, sym (at-is p i)) (e.0 i) in
    let same : offers ≡ numbered 0 q.items = sym ran.3.0 ∙ numbered_from 0 p.items at ∙ ap (numbered 0) (sym e.1.2.0.1) in
    (q, e.1.1, e.1.2.1 ∙ ran.2, subst (λ (xs : List (ℕ × S)). Chosen Good xs held) same chosen)

-- ---- numbered items: how many, which stands where, and a function over them with and without their numbers
length_numbered : {X : Type 0} (k : ℕ) (xs : List X) → length (numbered k xs) ≡ length xs
length_numbered k [] = refl
length_numbered k (x ∷ xs) = ap suc (length_numbered (suc k) xs)

at_number : {X : Type 0} (k i : ℕ) (xs : List X) (d : ℕ) (e : X) → i < length xs → get_or (numbered k xs) i (d, e) ≡ (k + i, get_or xs i e)
at_number k i [] d e h = absurd (omega arith)
at_number k zero (x ∷ xs) d e h = ap (λ (n : ℕ). (n, x)) (omega arith)
at_number k (suc i) (x ∷ xs) d e h = at_number (suc k) i xs d e (omega arith) ∙ ap (λ (n : ℕ). (n, get_or xs i e)) (omega arith)

numbered_map : {X Y : Type 0} (g : X → Y) (k : ℕ) (xs : List X) → numbered k (map g xs) ≡ map (λ p. (p.0, g p.1)) (numbered k xs)
numbered_map g k [] = refl
numbered_map {Y = Y} g k (x ∷ xs) = ap {B = List (ℕ × Y)} (λ ps. (k, g x) ∷ ps) (numbered_map g (suc k) xs)

map_numbered : {X Y : Type 0} (g : X → Y) (k : ℕ) (xs : List X) → map (λ p. g p.1) (numbered k xs) ≡ map g xs
map_numbered g k [] = refl
map_numbered {Y = Y} g k (x ∷ xs) = ap {B = List Y} (λ ys. g x ∷ ys) (map_numbered g (suc k) xs)

-- What is chosen of the scores that an iterator gives for the elements of a list: f is what the search measures of an element, and all that is
-- known of the element that is found leads to P.
pub found_first : {T X A S : Type 0} {steps : T → Option S → T → Type 0} {s : T} (f : X → A) (score : A → S) (good : A → A → Bool) (Good : S → S → Type 0) → ((a b : A) → Decides (good a b) (Good (score a) (score b))) → (e : X) (xs : List X) (held : Option (ℕ × S))
    → WholeRun steps s (λ run. Chosen Good (numbered 0 run.items) held)
    → YieldsList steps (λ r. r) s (map (λ x. score (f x)) xs)
    → (P : ℕ × S → Type 0)
    → ((b : ℕ × S) → b.0 ≡ first_best good (map f xs) → b.0 < length xs → b.1 ≡ score (f (get_or xs b.0 e)) → P b)
    → MatchOption held (xs ≡ []) P
found_first {T = T} {S = S} {steps = steps} {s = s} f score good Good decides e xs held chosen yields P known =
    let run = chosen.0 in
    let all = took run in
    let drains : DrainsIf steps (Unit {0}) s run.items = subst (λ (t : T). DrainsIf steps (Unit {0}) t run.items) chosen.1 (all.0, all.1, λ _. all.2 chosen.2) in
    let items : run.items ≡ map (λ x. score (f x)) xs = sym (map-id run.items) ∙ items_from_drains run.items drains yields in
    go held (chosen_is_best (λ p. p.0) (λ p. f p.1) score good Good decides (0, e) (numbered 0 xs) held (subst (λ (os : List (ℕ × S)). Chosen Good os held) (ap (numbered 0) items ∙ numbered_map (λ x. score (f x)) 0 xs) chosen.3))
  where
    best : ℕ
    best = first_best good (map f xs)

    Found : ℕ → ℕ × S → Type 0
    Found i b = (i < length (numbered 0 xs)) × (b ≡ ((get_or (numbered 0 xs) i (0, e)).0, score (f (get_or (numbered 0 xs) i (0, e)).1)))

    go : (held : Option (ℕ × S)) → MatchOption held (numbered 0 xs ≡ []) (Found (first_best good (map (λ p. f p.1) (numbered 0 xs)))) → MatchOption held (xs ≡ []) P
    go None none = nil_from_length xs (sym (length_numbered 0 xs) ∙ ap length none)
    go (Some b) p =
        let q = rw (map_numbered f 0 xs) at p in
        let k : best < length xs = rw (length_numbered 0 xs) at q.0 in
        let is = rw (at_number 0 best xs 0 e k) at q.1 in
        let i : b.0 ≡ best = omega (arith, ap (λ (o : ℕ × S). o.0) is) in
        known b i (rw i k) (rw i (ap (λ (o : ℕ × S). o.1) is))
