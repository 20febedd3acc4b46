-- The numbers that words write, as they are read word by word.
use Rattle.std.proofs.Common.{◌≡◌, ℕ, zero, suc, ◌+◌, ◌<◌, List, [], ◌∷◌, ◌++◌, length, get_or, take, sym, refl, ◌∙◌, ap₂, subst, Ok, Err, Result, w32, arith, Bor}
use Rattle.std.specs.List.{AllZip, Any}
use Rattle.std.specs.Str.Parse.{ParsesSigned, ParsesUnsigned, ExplainsSignedError, ExplainsUnsignedError, HasSignedDigitsIfOk, HasUnsignedDigitsIfOk}
use Rattle.std.proofs.lemmas.Slice.Zip.{all_zipped_more}
use Rattle.std.proofs.lemmas.List.{map_more}
use Rattle.tasks.specs.Lines.{texts}
use Rattle.tasks.specs.declared.failure.Failure.{Failure}
use Rattle.tasks.specs.declared.failure.Failure.TheVariants.{Refused, Unreadable, Memory}
use Rattle.tasks.specs.Failures.{UnlessMemory}
use Rattle.tasks.specs.Numbers.{WritesSigned, WritesUnsigned, Unwritten, Reads, ReadsBoth, Parses}

-- ---- word by word

module _ (words : List (Bor (List ℕ))) (d : Bor (List ℕ)) (i : ℕ) (here : i < length words) where
  pub numbers_more : {N : Type 0} (R : List ℕ → N → Type 0) (xs more : List N) (x : N) → AllZip R (texts (take i words)) xs → R (get_or words i d).now x → more ≡ xs ++ x ∷ [] → AllZip R (texts (take (i + 1) words)) more
  numbers_more R xs more x h k e = rw (e, map_more (λ (w : Bor (List ℕ)). w.now) words i d here) (all_zipped_more R (texts (take i words)) xs (get_or words i d).now x h k)

-- ---- what was read

reads_nothing : {X N T : Type 0} {Writes : X → N → Type 0} (x : X) (Then : N → Result T Failure → Type 0) → Unwritten Writes x → Reads Writes x Then (Err Unreadable)
reads_nothing x Then none = record { unwritten = λ _. refl; written = λ n w. absurd (none n w) }

reads_written : {X N T : Type 0} {Writes : X → N → Type 0} (x : X) (Then : N → Result T Failure → Type 0) → ((m n : N) → Writes x m → Writes x n → m ≡ n) → (n : N) (r : Result T Failure) → Writes x n → Then n r → Reads Writes x Then r
reads_written x Then same n r w t = record { unwritten = λ none. absurd (none n w); written = λ m v. subst (λ k. Then k r) (same n m w v) t }

both_written : {X Y M N T : Type 0} {Writes : X → M → Type 0} {WritesToo : Y → N → Type 0} (x : X) (y : Y) (Then : M → N → Result T Failure → Type 0) → ((l m : M) → Writes x l → Writes x m → l ≡ m) → (m : M) (r : Result T Failure) → Writes x m → Reads WritesToo y (Then m) r → ReadsBoth Writes x WritesToo y Then r
both_written x y Then same m r w h = record { first_unwritten = λ none. absurd (none m w); second_unwritten = h.unwritten; written = λ l n v k. subst (λ j. Then j n r) (same m l w v) (h.written n k) }

-- ---- by what a parse of a word gives

-- a parse gives the one number that a word writes, and an error where it writes none
pub record Parsing {N E : Type 0} (Gives : List ℕ → Result N E → Type 0) (Writes : List ℕ → N → Type 0) : Type 0 where
  pub taken : (w : List ℕ) (x : N) → Gives w (Ok x) → Writes w x
  pub refused : (w : List ℕ) (e : E) → Gives w (Err e) → Unwritten Writes w
  pub same : (w : List ℕ) (x y : N) → Writes w x → Writes w y → x ≡ y

pub signed : Parsing (λ w r. ParsesSigned w32 10 w r × ExplainsSignedError 10 w r × HasSignedDigitsIfOk w r) WritesSigned
signed = record {
  taken = λ w x h. record { digits = h.0.0.0; fits = h.0.0.1; is = h.0.1 };
  refused = λ w e h x k. h.0 (k.digits, k.fits);
  same = λ w x y h k. h.is ∙ sym k.is;
}

pub unsigned : Parsing (λ w r. ParsesUnsigned 32 10 w r × ExplainsUnsignedError 10 w r × HasUnsignedDigitsIfOk w r) WritesUnsigned
unsigned = record {
  taken = λ w x h. record { digits = h.0.0.0; fits = h.0.0.1; is = h.0.1 };
  refused = λ w e h x k. h.0 (k.digits, k.fits);
  same = λ w x y h k. h.is ∙ sym k.is;
}

module _ {N E : Type 0} {Gives : List ℕ → Result N E → Type 0} {Writes : List ℕ → N → Type 0} (p : Parsing Gives Writes) where
  each_taken : (ws : List (List ℕ)) (xs : List N) → AllZip (λ w x. Gives w (Ok x)) ws xs → AllZip Writes ws xs
  each_taken [] [] h = h
  each_taken [] (x ∷ xs) h = absurd h
  each_taken (w ∷ ws) [] h = absurd h
  each_taken (w ∷ ws) (x ∷ xs) h = (p.taken w x h.0, each_taken ws xs h.1)

  each_same : (ws : List (List ℕ)) (xs ys : List N) → AllZip Writes ws xs → AllZip Writes ws ys → xs ≡ ys
  each_same [] [] [] h k = refl
  each_same [] [] (y ∷ ys) h k = absurd k
  each_same [] (x ∷ xs) ys h k = absurd h
  each_same (w ∷ ws) [] ys h k = absurd h
  each_same (w ∷ ws) (x ∷ xs) [] h k = absurd k
  each_same (w ∷ ws) (x ∷ xs) (y ∷ ys) h k = ap₂ (λ (u : N) (v : List N). u ∷ v) (p.same w x y h.0 k.0) (each_same ws xs ys h.1 k.1)

  some_refused : (ws : List (List ℕ)) → Any (λ w. (e : E) × Gives w (Err e)) ws → Unwritten (AllZip Writes) ws
  some_refused [] (i, w, here, at, h) xs k = absurd (omega arith)
  some_refused (v ∷ ws) h [] k = k
  some_refused (v ∷ ws) (zero, w, here, at, h) (x ∷ xs) k = p.refused v h.0 (rw at h.1) x k.0
  some_refused (v ∷ ws) (suc i, w, here, at, h) (x ∷ xs) k = some_refused ws (i, w, omega arith, at, h) xs k.1

  module _ {T : Type 0} where
    -- words were read, and what follows
    pub read_words : (ws : List (List ℕ)) (Then : List N → Result T Failure → Type 0) (xs : List N) (r : Result T Failure) → AllZip (λ w x. Gives w (Ok x)) ws xs → Then xs r → Reads (AllZip Writes) ws Then r
    read_words ws Then xs r g t = reads_written ws Then (each_same ws) xs r (each_taken ws xs g) t

    -- words were not read
    pub not_read : (ws : List (List ℕ)) (Then : List N → Result T Failure → Type 0) (e : Failure) → Parses Gives ws (Err e) → UnlessMemory (Err e) (Reads (AllZip Writes) ws Then)
    not_read ws Then (Refused e) h = absurd h
    not_read ws Then Unreadable h = reads_nothing ws Then (some_refused ws h)
    not_read ws Then (Memory _) h = h

  -- the same, where something else is read behind it
  module _ {Y M T : Type 0} (WritesToo : Y → M → Type 0) (y : Y) where
    pub read_word_first : (w : List ℕ) (Then : N → M → Result T Failure → Type 0) (x : N) (r : Result T Failure) → Gives w (Ok x) → Reads WritesToo y (Then x) r → ReadsBoth Writes w WritesToo y Then r
    read_word_first w Then x r g h = both_written w y Then (p.same w) x r (p.taken w x g) h

    pub read_words_first : (ws : List (List ℕ)) (Then : List N → M → Result T Failure → Type 0) (xs : List N) (r : Result T Failure) → AllZip (λ w x. Gives w (Ok x)) ws xs → Reads WritesToo y (Then xs) r → ReadsBoth (AllZip Writes) ws WritesToo y Then r
    read_words_first ws Then xs r g h = both_written ws y Then (each_same ws) xs r (each_taken ws xs g) h

    pub not_read_first : (ws : List (List ℕ)) (Then : List N → M → Result T Failure → Type 0) (e : Failure) → Parses Gives ws (Err e) → UnlessMemory (Err e) (ReadsBoth (AllZip Writes) ws WritesToo y Then)
    not_read_first ws Then (Refused e) h = absurd h
    not_read_first ws Then Unreadable h = record { first_unwritten = λ _. refl; second_unwritten = λ _. refl; written = λ xs m w _. absurd (some_refused ws h xs w) }
    not_read_first ws Then (Memory _) h = h
