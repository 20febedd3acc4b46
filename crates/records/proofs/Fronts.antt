-- What a list of bytes begins with: a record, or none.
use Rattle.std.proofs.Common.{◌≡◌, ℕ, ◌+◌, ◌*◌, ◌≤◌, ◌⊎◌, ◌↔◌, List, [], ◌∷◌, ◌++◌, length, get_or, take, drop, refl, sym}
use Rattle.std.proofs.Common.{ap, subst, ◌∙◌, inl, inr, length-append, arith, w32}
use Rattle.std.specs.Int.{from_be_bytes, to_be_bytes}
use Rattle.std.specs.List.{flat_map}
use Rattle.std.proofs.lemmas.Bool.{cases_lt, cases_eq}
use Rattle.std.proofs.lemmas.List.{length-take, length-drop, take-append-drop, get_or-drop, get_or_append_left}
use Rattle.std.proofs.lemmas.List.{get_or-append-add, get_or_past, drop_more, drop-drop}
use Rattle.std.proofs.lemmas.Nat.{be_bytes_4}
use Rattle.records.specs.Records.{Entry, Open, Sense, Clear, Decide, IsBytes, Fits, written, reading_bytes, readings_in}
use Rattle.records.specs.Grammar.{Begins, BeginsNoRecord, AreEnough}
use Rattle.records.proofs.ReadingBytes.{readings_written, readings_fit, readings_length, bytes_length}

-- ---- bytes

pub IsBytes-drop : (n : ℕ) (bytes : List ℕ) → IsBytes bytes → IsBytes (drop n bytes)
IsBytes-drop n bytes h i = rw get_or-drop (h (n + i))

pub IsBytes-front : (bytes front rest : List ℕ) → bytes ≡ front ++ rest → IsBytes bytes → IsBytes front
IsBytes-front bytes front rest e h i =
    elim (cases_lt i (length front)) [
      | inl lt ↦ rw (← get_or_append_left front rest 0 i lt, ← e) (h i)
      | inr le ↦ rw (get_or_past front i 0 le) (omega arith)
    ]

pub IsBytes-behind : (bytes front rest : List ℕ) → bytes ≡ front ++ rest → IsBytes bytes → IsBytes rest
IsBytes-behind bytes front rest e h i = rw (← get_or-append-add front rest i 0, ← e) (h (length front + i))

-- ---- what a record demands of the bytes that it begins

front_of : (e : Entry) (rest : List ℕ) → AreEnough (written e ++ rest)
front_of (Sense readings) rest =
    let body = length-append (flat_map reading_bytes readings) rest in
    let body_long = bytes_length readings in
    record {
      two = omega arith;
      mark = refl;
      sort = (omega arith, omega arith);
      opening = λ e. omega arith;
      sense = λ e. omega arith;
    }
front_of e rest =
    record {
      two = omega arith;
      mark = refl;
      sort = (omega arith, omega arith);
      opening = λ e. omega arith;
      sense = λ e. omega arith;
    }

pub no_record : (bytes : List ℕ) → (AreEnough bytes → ⊥) → BeginsNoRecord bytes
no_record bytes refuted e rest b = refuted (subst AreEnough (sym b.cut) (front_of e rest))

-- ---- a record from the bytes that it begins

two_cells : (bytes : List ℕ) → 2 ≤ length bytes → bytes ≡ get_or bytes 0 0 ∷ get_or bytes 1 0 ∷ drop 2 bytes
two_cells bytes h =
    let first = drop_more bytes 0 0 (omega arith) in
    let second = drop_more bytes 1 0 (omega arith) in
    cc

-- the bytes begin with this mark
pub record Marked (bytes : List ℕ) (sort : ℕ) : Type 0 where
  pub two : 2 ≤ length bytes
  pub mark : get_or bytes 0 0 ≡ 165
  pub sort_is : get_or bytes 1 0 ≡ sort

pub open_begins : (bytes : List ℕ) → IsBytes bytes → Marked bytes 1 → 8 ≤ length bytes →
    Begins bytes (Open (get_or bytes 2 0) (get_or bytes 3 0) (from_be_bytes w32 (take 4 (drop 4 bytes)))) (drop 8 bytes)
open_begins bytes h m len =
    let four = take 4 (drop 4 bytes) in
    let parts = take-append-drop 4 (drop 4 bytes) in
    let is_bytes = IsBytes-front (drop 4 bytes) four (drop 4 (drop 4 bytes)) (sym parts) (IsBytes-drop 4 bytes h) in
    let four_long : length four ≡ 4 = omega (arith, length-take 4 (drop 4 bytes), length-drop 4 bytes) in
    let step : to_be_bytes w32 (from_be_bytes w32 four) ≡ four = be_bytes_4 four _ four_long is_bytes refl in
    let front = two_cells bytes m.two in
    let third = drop_more bytes 2 0 (omega arith) in
    let fourth = drop_more bytes 3 0 (omega arith) in
    let behind = drop-drop 4 4 bytes in
    let with_step = λ (w : List ℕ). 165 ∷ 1 ∷ get_or bytes 2 0 ∷ get_or bytes 3 0 ∷ (w ++ drop 8 bytes) in
    let whole : bytes ≡ with_step four = cc in
    record {
      cut = whole ∙ sym (ap with_step step);
      fits = (h 2, h 3, omega (arith, is_bytes 0, is_bytes 1, is_bytes 2, is_bytes 3));
    }

pub sense_begins : (bytes body rest : List ℕ) → IsBytes bytes → Marked bytes 2 → 3 ≤ length bytes →
    drop 3 bytes ≡ body ++ rest → length body ≡ 2 * get_or bytes 2 0 → Begins bytes (Sense (readings_in body)) rest
sense_begins bytes body rest h m len parts body_len =
    let is_bytes = IsBytes-front (drop 3 bytes) body rest parts (IsBytes-drop 3 bytes h) in
    let count : length (readings_in body) ≡ get_or bytes 2 0 = omega (arith, readings_length body) in
    let front = two_cells bytes m.two in
    let third = drop_more bytes 2 0 (omega arith) in
    record {
      cut = rw (count, readings_written body (get_or bytes 2 0) body_len is_bytes) cc;
      fits = (omega (arith, h 2), readings_fit body is_bytes);
    }

bare_begins : (bytes : List ℕ) (e : Entry) (sort : ℕ) → Marked bytes sort → written e ≡ 165 ∷ sort ∷ [] → Fits e →
    Begins bytes e (drop 2 bytes)
bare_begins bytes e sort m as_written fits =
    let front = two_cells bytes m.two in
    record { cut = rw as_written cc; fits = fits }

-- ---- every list of bytes begins with a record, or with none

-- the record that bytes begin with, and what is behind it
pub record First (bytes : List ℕ) : Type 0 where
  pub entry : Entry
  pub rest : List ℕ
  pub begins : Begins bytes entry rest

found : {bytes : List ℕ} {e : Entry} {rest : List ℕ} → Begins bytes e rest → First bytes ⊎ BeginsNoRecord bytes
found b = inl (record { entry = _; rest = _; begins = b })

none : (bytes : List ℕ) → (AreEnough bytes → ⊥) → First bytes ⊎ BeginsNoRecord bytes
none bytes refuted = inr (no_record bytes refuted)

first_open : (bytes : List ℕ) → IsBytes bytes → Marked bytes 1 → First bytes ⊎ BeginsNoRecord bytes
first_open bytes h m =
    elim (cases_lt (length bytes) 8) [
      | inl short ↦ none bytes (λ f. omega (arith, f.opening m.sort_is))
      | inr long ↦ found (open_begins bytes h m long)
    ]

sense_of : (bytes : List ℕ) → IsBytes bytes → Marked bytes 2 → 3 + 2 * get_or bytes 2 0 ≤ length bytes → First bytes
sense_of bytes h m long =
    let n = 2 * get_or bytes 2 0 in
    let body = take n (drop 3 bytes) in
    let rest = drop n (drop 3 bytes) in
    let whole : length body ≡ n = omega (arith, length-take n (drop 3 bytes), length-drop 3 bytes) in
    let begins = sense_begins bytes body rest h m (omega arith) (sym (take-append-drop n (drop 3 bytes))) whole in
    record { entry = _; rest = _; begins = begins }

first_sense : (bytes : List ℕ) → IsBytes bytes → Marked bytes 2 → First bytes ⊎ BeginsNoRecord bytes
first_sense bytes h m =
    elim (cases_lt (length bytes) (3 + 2 * get_or bytes 2 0)) [
      | inl short ↦ none bytes (λ f. omega (arith, f.sense m.sort_is))
      | inr long ↦ inl (sense_of bytes h m long)
    ]

-- by the second byte of the mark
first_marked : (bytes : List ℕ) → IsBytes bytes → 2 ≤ length bytes → get_or bytes 0 0 ≡ 165 →
    First bytes ⊎ BeginsNoRecord bytes
first_marked bytes h two mark =
    let sort = get_or bytes 1 0 in
    let marked : (n : ℕ) → sort ≡ n → Marked bytes n = λ n is. record { two = two; mark = mark; sort_is = is } in
    elim (cases_eq sort 1) [
      | inl is1 ↦ first_open bytes h (marked 1 is1)
      | inr not1 ↦ elim (cases_eq sort 2) [
        | inl is2 ↦ first_sense bytes h (marked 2 is2)
        | inr not2 ↦ elim (cases_eq sort 3) [
          | inl is3 ↦ found (bare_begins bytes Clear 3 (marked 3 is3) refl tt)
          | inr not3 ↦ elim (cases_eq sort 4) [
            | inl is4 ↦ found (bare_begins bytes Decide 4 (marked 4 is4) refl tt)
            | inr not4 ↦ none bytes (λ f. omega arith)
          ]
        ]
      ]
    ]

pub first_of : (bytes : List ℕ) → IsBytes bytes → First bytes ⊎ BeginsNoRecord bytes
first_of bytes h =
    elim (cases_lt (length bytes) 2) [
      | inl short ↦ none bytes (λ f. omega (arith, f.two))
      | inr two ↦ elim (cases_eq (get_or bytes 0 0) 165) [
        | inl mark ↦ first_marked bytes h two mark
        | inr other ↦ none bytes (λ f. other f.mark)
      ]
    ]

-- bytes that are enough begin with one
enough : (bytes : List ℕ) → IsBytes bytes → AreEnough bytes → First bytes
enough bytes h f =
    let sort = get_or bytes 1 0 in
    let marked : (n : ℕ) → sort ≡ n → Marked bytes n = λ n is. record { two = f.two; mark = f.mark; sort_is = is } in
    elim (cases_eq sort 1) [
      | inl is1 ↦ record { entry = _; rest = _; begins = open_begins bytes h (marked 1 is1) (f.opening is1) }
      | inr not1 ↦ elim (cases_eq sort 2) [
        | inl is2 ↦ sense_of bytes h (marked 2 is2) (f.sense is2)
        | inr not2 ↦ elim (cases_eq sort 3) [
          | inl is3 ↦ record { entry = _; rest = _; begins = bare_begins bytes Clear 3 (marked 3 is3) refl tt }
          | inr not3 ↦
              let is4 : sort ≡ 4 = omega (arith, f.sort.0, f.sort.1, not1, not2, not3) in
              record { entry = _; rest = _; begins = bare_begins bytes Decide 4 (marked 4 is4) refl tt }
        ]
      ]
    ]

pub no_record_exactly_where_not_enough : (bytes : List ℕ) → IsBytes bytes → BeginsNoRecord bytes ↔ (AreEnough bytes → ⊥)
no_record_exactly_where_not_enough bytes h = (
  λ none f. let first = enough bytes h f in none first.entry first.rest first.begins,
  λ refuted. no_record bytes refuted,
)
