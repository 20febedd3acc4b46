-- The reader is asked from the first place on, until it answers how the stream ends.
use Rattle.std.proofs.Common.{◌≡◌, ℕ, ◌+◌, Bool, true, false, cond, List, [], ◌∷◌, ◌++◌, length, Option, Some, None}
use Rattle.std.proofs.Common.{refl, sym, ap, subst, ◌∙◌}
use Rattle.std.proofs.Common.{append_assoc, length-append, arith}
use Rattle.std.specs.Prelude.{IfSome}
use Rattle.std.specs.List.{AllByRecursion}
use Rattle.std.proofs.Math.Dec.{ltb}
use Rattle.records.specs.declared.reader.Ending.{Ending}
use Rattle.records.specs.declared.reader.ReadRecord.{ReadRecord}
use Rattle.records.specs.Records.{Entry, entry_of, Fits, written}
use Rattle.records.specs.Grammar.{Ends, IsRead, stream}
use Rattle.records.specs.Reader.{IsAnswered, EndsAt, Stands, entries_of, rest_at}

-- what is read from a place on, which is start if it is one
record ReadFrom (input : List ℕ) (place : Option ℕ) (start : ℕ) (es : List Entry) (e : Ending) : Type 0 where
  rest : List ℕ
  cut : rest_at input place ≡ stream es ++ rest
  each_fits : AllByRecursion Fits es
  ends : Ends (start + length (stream es)) rest e

abbrev IsAt : Option ℕ → ℕ → Type 0
IsAt place start = IfSome place (λ p. p ≡ start)

cond_is_at : (b : Bool) (place : ℕ) → IsAt (cond b (Some place) None) place
cond_is_at true place = refl
cond_is_at false place = tt

same_place : (place : Option ℕ) (start first : ℕ) → IsAt place start → place ≡ Some first → first ≡ start
same_place place start first at is = subst (λ (p : Option ℕ). IsAt p start) is at

none_left : (input : List ℕ) (place : Option ℕ) (start : ℕ) (e : Ending) → IsAt place start → EndsAt input place e →
    ReadFrom input place start [] e
none_left input None start e at h =
    record { rest = []; cut = refl; each_fits = tt; ends = subst (λ (f : Ending). Ends (start + 0) [] f) (sym h) refl }
none_left input (Some p) start e at h =
    let here : p ≡ start + 0 = omega arith in
    record {
      rest = rest_at input (Some p);
      cut = refl;
      each_fits = tt;
      ends = subst (λ (q : ℕ). Ends q (rest_at input (Some p)) e) here h;
    }

one_read : (input : List ℕ) (place : Option ℕ) (start : ℕ) (r : ReadRecord) (es : List Entry) (e : Ending) →
    Stands input place r →
    ReadFrom input r.next (start + length (written (entry_of r.record))) es e →
    ReadFrom input place start (entry_of r.record ∷ es) e
one_read input place start r es e s more =
    let text = written (entry_of r.record) in
    let further : start + length text + length (stream es) ≡ start + length (text ++ stream es) =
    omega (arith, length-append text (stream es)) in
    record {
      rest = more.rest;
      cut = s.is_written ∙ ap (λ (w : List ℕ). text ++ w) more.cut ∙ sym (append_assoc text (stream es) more.rest);
      each_fits = (s.fits, more.each_fits);
      ends = subst (λ (q : ℕ). Ends q more.rest e) further more.ends;
    }

read_from : (input : List ℕ) (place : Option ℕ) (start : ℕ) (rs : List ReadRecord) (e : Ending) → IsAt place start →
    IsAnswered input place rs e → ReadFrom input place start (entries_of rs) e
read_from input place start [] e at h = none_left input place start e at h
read_from input place start (r ∷ rs) e at h =
    let s = h.0 in
    let len = length (written (entry_of r.record)) in
    let first = same_place place start s.first at s.is_there in
    let next : IsAt r.next (start + len) =
    subst (λ (p : Option ℕ). IsAt p (start + len)) (sym s.next_is_behind)
    (rw first (cond_is_at (ltb (start + len) (length input)) (start + len))) in
    one_read input place start r (entries_of rs) e s (read_from input r.next (start + len) rs e next h.1)

pub answers_are_read : (input : List ℕ) (rs : List ReadRecord) (e : Ending) → IsAnswered input (Some 0) rs e →
    IsRead input (entries_of rs) e
answers_are_read input rs e h =
    let r = read_from input (Some 0) 0 rs e refl h in
    let all : 0 + length (stream (entries_of rs)) ≡ length (stream (entries_of rs)) = omega arith in
    record {
      rest = r.rest;
      cut = r.cut;
      each_fits = r.each_fits;
      ends = subst (λ (q : ℕ). Ends q r.rest e) all r.ends;
    }
