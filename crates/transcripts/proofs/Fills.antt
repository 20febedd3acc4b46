-- A buffer that is filled from its front, a read at a time.
use Rattle.std.proofs.Common.{◌≡◌, ℕ, ◌+◌, ◌<◌, ◌≤◌, List, ◌++◌, length, take, drop, Option, None, Some, IfSome}
use Rattle.std.proofs.Common.{MatchOption, sym, ap, ◌∙◌, subst, arith}
use Rattle.std.proofs.lemmas.List.{length-append, length-take-le, take_at, drop_at, take-append-le}
use Rattle.std.proofs.Math.Seq.{take-add}
use Rattle.std.specs.Io.KnownBytes.{Consumes, Keeps}
use Rattle.std.proofs.KnownBytes.{Consumes-trans, Consumes-kept}
use Rattle.transcripts.specs.Inputs.{AreGiven}
use borrow.Rule.Slice.PartMut.{put_mid, post_of}

-- behind the first of a buffer, a part was put
first_kept : (xs ys : List ℕ) (count k : ℕ) → count ≤ length xs → take count (put_mid count k xs ys) ≡ take count xs
first_kept xs ys count k within = take_at (take count xs) (ys ++ post_of count k xs) count (length-take-le count xs within)

as_long : (xs ys : List ℕ) (count k : ℕ) → count ≤ length xs → count + length ys ≤ length (put_mid count k xs ys)
as_long xs ys count k within =
    let rest = post_of count k xs in
    omega (arith, length-append (take count xs) (ys ++ rest), length-append ys rest, length-take-le count xs within)

-- a read put more bytes there
pub filled : (a b c : Option (List ℕ)) (xs ys : List ℕ) (count more k : ℕ) → count ≤ length xs → more ≤ length ys →
    Consumes a b (take count xs) → Consumes b c (take more ys) →
    (count + more ≤ length (put_mid count k xs ys)) × Consumes a c (take (count + more) (put_mid count k xs ys))
filled a b c xs ys count more k within fits before read =
    let rest = post_of count k xs in
    let front = first_kept xs ys count k within in
    let behind = ap (take more) (drop_at (take count xs) (ys ++ rest) count (length-take-le count xs within)) ∙ take-append-le more ys rest fits in
    let whole = put_mid count k xs ys in
    let all : take (count + more) whole ≡ take count xs ++ take more ys =
    take-add count more whole ∙ ap (λ l. l ++ take more (drop count whole)) front ∙ ap (λ l. take count xs ++ l) behind in
    (omega (arith, as_long xs ys count k within), subst (Consumes a c) (sym all) (Consumes-trans a b c _ _ before read))

-- a read that failed put none
pub unfilled : (a b c : Option (List ℕ)) (xs ys : List ℕ) (count k : ℕ) → count ≤ length xs →
    Consumes a b (take count xs) → Keeps b c →
    (count ≤ length (put_mid count k xs ys)) × Consumes a c (take count (put_mid count k xs ys))
unfilled a b c xs ys count k within before read = (
  omega (arith, as_long xs ys count k within),
  subst (Consumes a c) (sym (first_kept xs ys count k within)) (Consumes-kept a b c _ before read),
)

-- what a read of all to the front of a buffer told
abbrev Told : Option (List ℕ) → List ℕ → Option ℕ → Type 0
Told a xs read = IfSome a (λ given. MatchOption read (length xs < length given) (λ count. AreGiven (length xs) given (take count xs)))

-- is so of the bytes that are handed on
pub none_read : (a : Option (List ℕ)) (read : Option ℕ) (most : ℕ) (xs : List ℕ) → length xs ≡ most → read ≡ None →
    Told a xs read → IfSome a (λ given. most < length given)
none_read a read most xs long is told =
    subst (λ n. IfSome a (λ given. n < length given)) long (subst (Told a xs) is told)

pub some_read : (a : Option (List ℕ)) (read : Option ℕ) (most count : ℕ) (xs bytes : List ℕ) → length xs ≡ most →
    read ≡ Some count → bytes ≡ take count xs → Told a xs read → IfSome a (λ given. AreGiven most given bytes)
some_read a read most count xs bytes long is same told =
    subst (λ l. IfSome a (λ given. AreGiven most given l)) (sym same)
    (subst (λ n. IfSome a (λ given. AreGiven n given (take count xs))) long (subst (Told a xs) is told))
