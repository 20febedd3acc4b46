-- A transcript, record by record.
use Rattle.std.proofs.Common.{◌≡◌, append_assoc, nat_lt, cond, true, false, ◌<◌, ◌+◌, ◌++◌, ◌∷◌, [], ℕ, length}
use Rattle.std.proofs.Common.{List, Result, Option, None, Some, drop, refl, sym, ap, ◌∙◌, arith}
use Rattle.std.proofs.lemmas.Grind.{flat_map-append}
use Rattle.std.proofs.lemmas.List.{length-append, append-nil}
use Rattle.std.specs.List.{AllByRecursion}
use Rattle.finders.specs.declared.refusals.Refusal.{Refusal}
use Rattle.records.specs.declared.reader.Ending.{Ending}
use Rattle.records.specs.declared.reader.ReadRecord.{ReadRecord}
use Rattle.records.specs.Records.{Entry, Fits, written, entry_of}
use Rattle.records.specs.Grammar.{stream}
use Rattle.records.specs.Reader.{rest_at, place_in, Stands, EndsAt, ending_text}
use Rattle.records.proofs.Standing.{some_bytes}
use Rattle.transcripts.specs.declared.session.Session.{Session}
use Rattle.transcripts.specs.Replies.{Reply, answer_text}
use Rattle.transcripts.specs.Sessions.{OpenBlock, answer_to, after, Holds}
use Rattle.transcripts.specs.Transcripts.{open_from, open_after, answers_from, answers_to, line, lines, IsTranscript}

-- ---- one record more

open_then : (G : Option OpenBlock) (es : List Entry) (e : Entry) → open_from G (es ++ e ∷ []) ≡ after (open_from G es) e
open_then G [] e = refl
open_then G (f ∷ es) e = open_then (after G f) es e

answers_then : (G : Option OpenBlock) (es : List Entry) (e : Entry) →
    answers_from G (es ++ e ∷ []) ≡ answers_from G es ++ answer_to (open_from G es) e ∷ []
answers_then G [] e = refl
answers_then G (f ∷ es) e = ap (λ rest. answer_to G f ∷ rest) (answers_then (after G f) es e)

all_then : (es : List Entry) (e : Entry) → AllByRecursion Fits es → Fits e → AllByRecursion Fits (es ++ e ∷ [])
all_then [] e all fits = (fits, tt)
all_then (f ∷ es) e all fits = (all.0, all_then es e all.1 fits)

stream_then : (es : List Entry) (e : Entry) → stream (es ++ e ∷ []) ≡ stream es ++ written e
stream_then es e = flat_map-append written es (e ∷ []) ∙ ap (λ bs. stream es ++ bs) (append-nil (written e))

lines_then : (answers : List (Result Reply Refusal)) (a : Result Reply Refusal) →
    lines (answers ++ a ∷ []) ≡ lines answers ++ line (answer_text a)
lines_then answers a =
    flat_map-append (λ b. line (answer_text b)) answers (a ∷ [])
    ∙ ap (λ text. lines answers ++ text) (append-nil (line (answer_text a)))

-- ---- as far as the input is read

-- a place to read from, which is behind n bytes
abbrev IsBehind : ℕ → Option ℕ → Type 0
IsBehind n None = Unit {0}
IsBehind n (Some p) = p ≡ n

behind_place : (input : List ℕ) (m n : ℕ) → m ≡ n → IsBehind n (place_in input m)
behind_place input m n is = elim (nat_lt m (length input)) as (λ b. IsBehind n (cond b (Some m) None)) [ true ↦ is | false ↦ tt ]

-- some records stand before the place, and the text has what each was answered
pub record SoFar (input : List ℕ) (place : Option ℕ) (text : List ℕ) (s : Session) : Type 0 where
  pub entries : List Entry
  pub cut : input ≡ stream entries ++ rest_at input place
  pub each_fits : AllByRecursion Fits entries
  pub behind : IsBehind (length (stream entries)) place
  pub printed : text ≡ lines (answers_to entries)
  pub holds : Holds (open_after entries) s

pub none_yet : (input : List ℕ) (s : Session) → Holds None s → SoFar input (Some 0) [] s
none_yet input s h = record { entries = []; cut = refl; each_fits = tt; behind = refl; printed = refl; holds = h }

pub one_more : (input : List ℕ) (place : Option ℕ) (old new : List ℕ) (s t : Session) (r : ReadRecord) (a : Result Reply Refusal) →
    SoFar input place old s → Stands input place r →
    ((G : Option OpenBlock) → Holds G s → a ≡ answer_to G (entry_of r.record)) →
    ((G : Option OpenBlock) → Holds G s → Holds (after G (entry_of r.record)) t) →
    new ≡ old ++ line (answer_text a) → SoFar input r.next new t
one_more input place old new s t r a so at answers holds printed =
    let e = entry_of r.record in
    let es = so.entries in
    let longer = stream_then es e in
    record {
      entries = es ++ e ∷ [];
      cut =
          so.cut ∙ ap (λ bs. stream es ++ bs) at.is_written
          ∙ sym (append_assoc (stream es) (written e) (rest_at input r.next))
          ∙ ap (λ bs. bs ++ rest_at input r.next) (sym longer);
      each_fits = all_then es e so.each_fits at.fits;
      behind =
          let here : at.first ≡ length (stream es) = rw (at.is_there) at so.behind in
          let there : at.first + length (written e) ≡ length (stream (es ++ e ∷ [])) =
          ap (λ n. n + length (written e)) here ∙ sym (ap length longer ∙ length-append (stream es) (written e)) in
          rw (at.next_is_behind) (behind_place input _ _ there);
      printed =
          let told : answers_to (es ++ e ∷ []) ≡ answers_to es ++ a ∷ [] =
          answers_then None es e ∙ ap (λ b. answers_to es ++ b ∷ []) (sym (answers (open_after es) so.holds)) in
          printed ∙ ap (λ text. text ++ line (answer_text a)) so.printed ∙ sym (ap lines told ∙ lines_then (answers_to es) a);
      holds = rw (open_then None es e) (holds (open_after es) so.holds);
    }

pub ended : (input : List ℕ) (place : Option ℕ) (old new : List ℕ) (s : Session) (e : Ending) →
    SoFar input place old s → EndsAt input place e → new ≡ old ++ line (ending_text e) → IsTranscript input new
ended input None old new s e so at printed = record {
  entries = so.entries;
  ending = e;
  is_read = record { rest = []; cut = so.cut; each_fits = so.each_fits; ends = rw at refl };
  is_printed = printed ∙ ap (λ text. text ++ line (ending_text e)) so.printed;
}
ended input (Some p) old new s e so at printed = record {
  entries = so.entries;
  ending = e;
  is_read = record { rest = drop p input; cut = so.cut; each_fits = so.each_fits; ends = rw (← so.behind) at };
  is_printed = printed ∙ ap (λ text. text ++ line (ending_text e)) so.printed;
}

-- ---- it ends

pub less_is_left : (input : List ℕ) (place : Option ℕ) (r : ReadRecord) → Stands input place r →
    length (rest_at input r.next) < length (rest_at input place)
less_is_left input place r at =
    let lengths : length (rest_at input place) ≡ length (written (entry_of r.record)) + length (rest_at input r.next) =
    rw (at.is_written) (length-append (written (entry_of r.record)) (rest_at input r.next)) in
    omega (arith, lengths, some_bytes (entry_of r.record))
