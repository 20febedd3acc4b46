-- An input is read in one way.
use Rattle.std.proofs.Common.{◌≡◌, ℕ, zero, suc, ◌^◌, ◌<◌, ◌≤◌, List, [], ◌∷◌, ◌++◌, length, refl, sym, ap, ◌∙◌, inl}
use Rattle.std.proofs.Common.{inr, append_assoc, length-append, arith, ℤ, w32}
use Rattle.std.specs.Int.{from_be_bytes, to_be_bytes}
use Rattle.std.specs.List.{AllByRecursion, flat_map}
use Rattle.std.proofs.lemmas.List.{append-nil, take_at}
use Rattle.std.proofs.lemmas.Nat.{from_be_bytes-to_be_bytes_4}
use Rattle.records.specs.declared.reader.Ending.{Ending}
use Rattle.records.specs.declared.reader.Ending.TheVariants.{End, Stop}
use Rattle.records.specs.Records.{Entry, Open, Sense, Clear, Decide, IsBytes, IsReading, Fits, written, reading_bytes}
use Rattle.records.specs.Grammar.{BeginsNoRecord, Ends, IsRead, stream, up_to}
use Rattle.records.proofs.ReadingBytes.{same_reading}
use Rattle.records.proofs.Fronts.{IsBytes-behind, no_record, First, first_of}

-- ---- no record's bytes begin another's

same_step : (s t : ℕ) → s < 2 ^ 32 → t < 2 ^ 32 → to_be_bytes w32 s ≡ to_be_bytes w32 t → s ≡ t
same_step s t f g e =
    let s-is = from_be_bytes-to_be_bytes_4 s f in
    let t-is = from_be_bytes-to_be_bytes_4 t g in
    let same = ap (from_be_bytes w32) e in
    cc

-- two senses of one number of cells
same_readings : (ys zs : List ℤ) (x y : List ℕ) → AllByRecursion IsReading ys → AllByRecursion IsReading zs →
    length ys ≡ length zs → flat_map reading_bytes ys ++ x ≡ flat_map reading_bytes zs ++ y → (ys ≡ zs) × (x ≡ y)
same_readings [] [] x y f g len e = (refl, e)
same_readings [] (z ∷ zs) x y f g len e = absurd (omega arith)
same_readings (y1 ∷ ys) [] x y f g len e = absurd (omega arith)
same_readings (y1 ∷ ys) (z1 ∷ zs) x y f g len e =
    let both : reading_bytes y1 ≡ reading_bytes z1 = cc in
    let more : flat_map reading_bytes ys ++ x ≡ flat_map reading_bytes zs ++ y = cc in
    let first = same_reading y1 z1 f.0 g.0 both in
    let others = same_readings ys zs x y f.1 g.1 (omega arith) more in
    (cc, others.1)

pub one_record : (e f : Entry) (x y : List ℕ) → Fits e → Fits f → written e ++ x ≡ written f ++ y → (e ≡ f) × (x ≡ y)
one_record (Open k c s) (Open l d t) x y f g e =
    let four : to_be_bytes w32 s ≡ to_be_bytes w32 t = cc in
    let step = same_step s t f.2 g.2 four in
    (cc, cc)
one_record (Sense ys) (Sense zs) x y f g e =
    let len : length ys ≡ length zs = cc in
    let more : flat_map reading_bytes ys ++ x ≡ flat_map reading_bytes zs ++ y = cc in
    let same = same_readings ys zs x y f.1 g.1 len more in
    (ap Sense same.0, same.1)
one_record Clear Clear x y f g e = (refl, cc)
one_record Decide Decide x y f g e = (refl, cc)
-- two of different sorts have different marks
one_record e f x y g h is = absurd cc

-- ---- two readings are one

-- what ends a stream begins no record
none_at_ending : (place : ℕ) (rest : List ℕ) (ending : Ending) → Ends place rest ending → BeginsNoRecord rest
none_at_ending place rest End h = no_record rest (λ f. absurd (omega (arith, ap length h, f.two)))
none_at_ending place rest (Stop p) h = h.2

same_ending : (place : ℕ) (rest : List ℕ) (e f : Ending) → Ends place rest e → Ends place rest f → f ≡ e
same_ending place rest End End h k = refl
same_ending place rest End (Stop q) h k = absurd (k.1 h)
same_ending place rest (Stop p) End h k = absurd (h.1 k)
same_ending place rest (Stop p) (Stop q) h k = ap Stop (k.0 ∙ sym h.0)

same_streams : (es fs : List Entry) (x y : List ℕ) → AllByRecursion Fits es → AllByRecursion Fits fs →
    BeginsNoRecord x → BeginsNoRecord y → stream es ++ x ≡ stream fs ++ y → (fs ≡ es) × (y ≡ x)
same_streams [] [] x y f g h k e = (refl, sym e)
same_streams [] (b ∷ fs) x y f g h k e =
    absurd (h b (stream fs ++ y) (record { cut = e ∙ append_assoc (written b) (stream fs) y; fits = g.0 }))
same_streams (a ∷ es) [] x y f g h k e =
    absurd (k a (stream es ++ x) (record { cut = sym e ∙ append_assoc (written a) (stream es) x; fits = f.0 }))
same_streams (a ∷ es) (b ∷ fs) x y f g h k e =
    let parted = sym (append_assoc (written a) (stream es) x) ∙ e ∙ append_assoc (written b) (stream fs) y in
    let first = one_record a b (stream es ++ x) (stream fs ++ y) f.0 g.0 parted in
    let others = same_streams es fs x y f.1 g.1 h k first.1 in
    (cc, others.1)

-- two readings of one input have one list of records, and one rest
pub record SameRead (es fs : List Entry) (x y : List ℕ) : Type 0 where
  pub records : fs ≡ es
  pub rests : y ≡ x

same_read : (input : List ℕ) (es fs : List Entry) (e f : Ending) (r : IsRead input es e) (s : IsRead input fs f) →
    SameRead es fs r.rest s.rest
same_read input es fs e f r s =
    let none = none_at_ending _ r.rest e r.ends in
    let others_none = none_at_ending _ s.rest f s.ends in
    let same = same_streams es fs r.rest s.rest r.each_fits s.each_fits none others_none (sym r.cut ∙ s.cut) in
    record { records = same.0; rests = same.1 }

pub one_list : (input : List ℕ) (es fs : List Entry) (e f : Ending) → IsRead input es e → IsRead input fs f → fs ≡ es
one_list input es fs e f r s = (same_read input es fs e f r s).records

pub one_ending : (input : List ℕ) (es fs : List Entry) (e f : Ending) → IsRead input es e → IsRead input fs f → f ≡ e
one_ending input es fs e f r s =
    let same = same_read input es fs e f r s in
    same_ending (length (stream es)) r.rest e f r.ends (rw (← same.rests, ← same.records) s.ends)

-- ---- the records are the input up to the ending

up_to_ending : (es : List Entry) (rest : List ℕ) (e : Ending) → Ends (length (stream es)) rest e →
    stream es ≡ up_to e (stream es ++ rest)
up_to_ending es rest End h = sym (append-nil (stream es)) ∙ ap (λ (r : List ℕ). stream es ++ r) (sym h)
up_to_ending es rest (Stop p) h = sym (take_at (stream es) rest p (sym h.0))

pub up_to_its_ending : (input : List ℕ) (es : List Entry) (e : Ending) → IsRead input es e → stream es ≡ up_to e input
up_to_its_ending input es e r = up_to_ending es r.rest e r.ends ∙ ap (up_to e) (sym r.cut)

-- ---- every input is read

-- what an input is read as, its ending apart
record Parts (input : List ℕ) : Type 0 where
  es : List Entry
  rest : List ℕ
  cut : input ≡ stream es ++ rest
  each_fits : AllByRecursion Fits es
  none_more : BeginsNoRecord rest

written_long : (e : Entry) → 2 ≤ length (written e)
written_long (Open kind cells step) = omega arith
written_long (Sense readings) = omega arith
written_long Clear = omega arith
written_long Decide = omega arith

only_rest : (input : List ℕ) → BeginsNoRecord input → Parts input
only_rest input none = record { es = []; rest = input; cut = refl; each_fits = tt; none_more = none }

-- a record, and what the rest is read as
one_more : (input : List ℕ) (b : First input) → Parts b.rest → Parts input
one_more input b more =
    let text = written b.entry in
    record {
      es = b.entry ∷ more.es;
      rest = more.rest;
      cut =
          b.begins.cut
          ∙ ap (λ (r : List ℕ). text ++ r) more.cut
          ∙ sym (append_assoc text (stream more.es) more.rest);
      each_fits = (b.begins.fits, more.each_fits);
      none_more = more.none_more;
    }

-- n bounds the length
parts_of : (n : ℕ) (input : List ℕ) → length input ≤ n → IsBytes input → Parts input
parts_of zero input h is_bytes =
    only_rest input (no_record input (λ f. omega (arith, f.two)))
parts_of (suc n) input h is_bytes =
    elim (first_of input is_bytes) [
      | inl b ↦
          let text = written b.entry in
          let is_rest = IsBytes-behind input text b.rest b.begins.cut is_bytes in
          let shorter : length b.rest < length input =
          omega (arith, ap length b.begins.cut, length-append text b.rest, written_long b.entry) in
          one_more input b (parts_of n b.rest (omega arith) is_rest)
      | inr none ↦ only_rest input none
    ]

ends_so : (place : ℕ) (rest : List ℕ) → BeginsNoRecord rest → (e : Ending) × Ends place rest e
ends_so place [] h = (End, refl)
ends_so place (b ∷ rest) h = (Stop place, (refl, (λ e. absurd cc), h))

pub is_read : (input : List ℕ) → IsBytes input → (es : List Entry) × (e : Ending) × IsRead input es e
is_read input h =
    let parts = parts_of (length input) input (omega arith) h in
    let ending = ends_so (length (stream parts.es)) parts.rest parts.none_more in
    (parts.es, ending.0, record { rest = parts.rest; cut = parts.cut; each_fits = parts.each_fits; ends = ending.1 })
