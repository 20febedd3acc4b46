-- Words cut at the first slash.
use Rattle.std.proofs.Common.{◌≡◌, ℕ, ◌+◌, ◌-◌, nat_lt, Bool, cond, not, List, [], ◌∷◌, map, length, take, drop, Some, None, Err, MatchOption, Option, Result, refl, sym, ap, ap₂, subst, Bor}
use Rattle.std.specs.List.{position, prefix_len}
use Rattle.std.proofs.lemmas.List.{length-map, take_rest, take-map, drop-map}
use Rattle.tasks.specs.Lines.{texts}
use Rattle.tasks.specs.Failures.{UnlessMemory}
use Rattle.tasks.specs.declared.failure.Failure.{Failure}
use Rattle.tasks.specs.declared.failure.Failure.TheVariants.{Unreadable}
use Rattle.codewords.specs.declared.found.Codeword.{Codeword}
use Rattle.codewords.specs.Lines.{first_slash, PartsAnswer, ListingAnswer}
use Rattle.codewords.specs.declared.words.Listing.{Listing}

prefix_len-map : {X Y : Type 0} (p : Y → Bool) (f : X → Y) (xs : List X) → prefix_len (λ x. p (f x)) xs ≡ prefix_len p (map f xs)
prefix_len-map p f [] = refl
prefix_len-map p f (x ∷ xs) = ap (λ (n : ℕ). cond (p (f x)) (1 + n) 0) (prefix_len-map p f xs)

pub position-map : {X Y : Type 0} (p : Y → Bool) (f : X → Y) (xs : List X) → position (λ x. p (f x)) xs ≡ position p (map f xs)
position-map p f xs = ap₂ (λ (n k : ℕ). cond (nat_lt n k) (Some n) None) (prefix_len-map (λ y. not (p y)) f xs) (sym (length-map xs f))

-- the words cut at the index i, as the code cuts them
pub parted : (k : Listing) (words : List (Bor (List ℕ))) (i : ℕ) (r : Result Codeword Failure) → first_slash (texts words) ≡ Some i →
    UnlessMemory r (PartsAnswer k (texts (take i words)) (texts (take (length words - (i + 1)) (drop (i + 1) words)))) → UnlessMemory r (ListingAnswer k (texts words))
parted k words i r at h =
    let ws = texts words in
    let parts : UnlessMemory r (PartsAnswer k (take i ws) (drop (i + 1) ws)) = rw (take-map (λ (w : Bor (List ℕ)). w.now) i words, drop-map (λ (w : Bor (List ℕ)). w.now) (i + 1) words) (rw (take_rest words (i + 1)) at h) in
    subst (λ (o : Option ℕ). UnlessMemory r (λ s. MatchOption o (s ≡ Err Unreadable) (λ j. PartsAnswer k (take j ws) (drop (j + 1) ws) s))) (sym at) parts
