-- A record that stands at a place of the input, and what is behind it.
use Rattle.std.proofs.Common.{◌≡◌, true, false, ◌<◌, ℕ, ◌+◌, ◌-◌, ◌≤◌, ltb, cond, List, ◌++◌, length, drop, Option, Some, None, sym, refl}
use Rattle.std.proofs.Common.{ap, ◌∙◌, inl, inr, length-append, arith}
use Rattle.std.proofs.lemmas.Bool.{cases_lt, lt-ltb, le-ltb}
use Rattle.std.proofs.lemmas.Bool.Decides.{nat_tests}
use Rattle.std.proofs.lemmas.List.{drop-drop, take-append-drop, drop_at, nil_from_length, length-drop}
use Rattle.records.specs.declared.reader.ReadRecord.{ReadRecord}
use Rattle.std.specs.List.{flat_map}
use Rattle.records.specs.Records.{Entry, Open, Sense, Clear, Decide, IsBytes, entry_of, written, reading_bytes, readings_in}
use Rattle.records.specs.Grammar.{Begins}
use Rattle.records.specs.Reader.{rest_at, place_in, Stands, IsLent}
use Rattle.records.proofs.Fronts.{IsBytes-front, IsBytes-drop}
use Rattle.records.proofs.ReadingBytes.{readings_written}

rest_behind : (input rest : List ℕ) (place : ℕ) → place + length rest ≡ length input → drop place input ≡ rest →
    rest_at input (place_in input place) ≡ rest
rest_behind input rest place e cut =
    elim (cases_lt place (length input)) [
      | inl lt ↦ ap (λ b. rest_at input (cond b (Some place) None)) (lt-ltb place (length input) lt) ∙ cut
      | inr le ↦
          ap (λ b. rest_at input (cond b (Some place) None)) (le-ltb place (length input) le)
          ∙ sym (nil_from_length rest (omega arith))
    ]

-- next is the place of the rest, as the reader counts it: none where there is no rest
abbrev pub NextIs : List ℕ → List ℕ → Option ℕ → Type 0
NextIs input rest next = next ≡ cond (ltb 0 (length rest)) (Some (length input - length rest)) None

pub stands_there : (input bytes rest : List ℕ) (place : Option ℕ) (first : ℕ) (r : ReadRecord) → place ≡ Some first →
    first ≤ length input → drop first input ≡ bytes → Begins bytes (entry_of r.record) rest → NextIs input rest r.next →
    Stands input place r
stands_there input bytes rest place first r at inside from begins next =
    let text = written (entry_of r.record) in
    let behind = first + length text in
    let counted : behind + length rest ≡ length input =
    omega (arith, length-drop first input, ap length from, ap length begins.cut, length-append text rest) in
    let cut : drop behind input ≡ rest =
    sym (drop-drop (length text) first input)
    ∙ ap (drop (length text)) (from ∙ begins.cut)
    ∙ drop_at text rest (length text) refl in
    let next_at : length input - length rest ≡ behind = omega arith in
    let has_more : ltb 0 (length rest) ≡ ltb behind (length input) = grind (arith, nat_tests) in
    let next_is : r.next ≡ place_in input behind =
    next ∙ ap (λ p. cond (ltb 0 (length rest)) (Some p) None) next_at ∙ ap (λ b. cond b (Some behind) None) has_more in
    let rest_is : rest_at input r.next ≡ rest =
    ap (rest_at input) next_is ∙ rest_behind input rest behind counted cut in
    record {
      first = first;
      is_there = at;
      is_written =
          ap (rest_at input) at ∙ from ∙ begins.cut
          ∙ ap (λ (w : List ℕ). text ++ w) (sym rest_is);
      fits = begins.fits;
      next_is_behind = next_is;
    }

-- ---- what a record that stands there tells

pub some_bytes : (e : Entry) → 1 ≤ length (written e)
some_bytes (Open kind cells step) = omega arith
some_bytes (Sense readings) = omega arith
some_bytes Clear = omega arith
some_bytes Decide = omega arith

place_is : (input : List ℕ) (m q : ℕ) → place_in input m ≡ Some q → m ≡ q
place_is input m q =
    elim (ltb m (length input)) as (λ b. cond b (Some m) None ≡ Some q → m ≡ q) [ true ↦ λ is. cc | false ↦ λ is. cc ]

pub later : (input : List ℕ) (r : ReadRecord) (p q : ℕ) → Stands input (Some p) r → r.next ≡ Some q → p < q
later input r p q s is =
    let here : p ≡ s.first = let there = s.is_there in cc in
    let next = place_is input _ q (sym s.next_is_behind ∙ is) in
    omega (arith, here, next, some_bytes (entry_of r.record))

pub lent_as_written : (input bytes : List ℕ) (place : ℕ) → IsBytes input → IsLent input place bytes →
    flat_map reading_bytes (readings_in bytes) ≡ bytes
lent_as_written input bytes place h lent =
    let behind = drop place input in
    let whole : behind ≡ bytes ++ drop (length bytes) behind =
    sym (take-append-drop (length bytes) behind) ∙ ap (λ front. front ++ drop (length bytes) behind) (sym lent.is_that_part) in
    readings_written bytes _ lent.two_for_each_reading (IsBytes-front behind bytes _ whole (IsBytes-drop place input h))
