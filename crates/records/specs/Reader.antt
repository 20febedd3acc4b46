-- What the reader answers.
use Rattle.std.specs.Prelude.{◌≡◌, ℕ, ◌+◌, ◌*◌, nat_lt, cond, List, [], ◌∷◌, ◌++◌, length, take, drop, Option, None}
use Rattle.std.specs.Prelude.{Some}
use Rattle.std.specs.Prelude.{codes, decimal}
use Rattle.records.specs.declared.reader.Ending.{Ending}
use Rattle.records.specs.declared.reader.Ending.TheVariants.{End, Stop}
use Rattle.records.specs.declared.reader.ReadRecord.{ReadRecord}
use Rattle.records.specs.declared.record.Record.{Record}
use Rattle.records.specs.declared.record.Record.TheVariants as held
use Rattle.records.specs.Records.{Entry, entry_of, readings_in, written, Fits}
use Rattle.records.specs.Grammar.{Ends}

abbrev pub ending_text : Ending → List ℕ
ending_text End = codes "end"
ending_text (Stop place) = codes "stop " ++ decimal place

-- what is left of the input from a place on
abbrev pub rest_at : List ℕ → Option ℕ → List ℕ
rest_at input None = []
rest_at input (Some p) = drop p input

-- p as a place to read from: none at the end
abbrev pub place_in : List ℕ → ℕ → Option ℕ
place_in input p = cond (nat_lt p (length input)) (Some p) None

-- the record r.record stands at the place, and what follows it stands at r.next
pub record Stands (input : List ℕ) (place : Option ℕ) (r : ReadRecord) : Type 0 where
  pub first : ℕ
  pub is_there : place ≡ Some first
  pub is_written : rest_at input place ≡ written (entry_of r.record) ++ rest_at input r.next
  pub fits : Fits (entry_of r.record)
  pub next_is_behind : r.next ≡ place_in input (first + length (written (entry_of r.record)))

-- bytes are a part of the input, from the place on, two for each reading
pub record IsLent (input : List ℕ) (place : ℕ) (bytes : List ℕ) : Type 0 where
  pub is_that_part : bytes ≡ take (length bytes) (drop place input)
  pub two_for_each_reading : length bytes ≡ 2 * length (readings_in bytes)

-- so are the bytes of a sense
abbrev pub LendsItsBytes : List ℕ → Record → Type 0
LendsItsBytes input (held.Sense place bytes) = IsLent input place bytes.now
LendsItsBytes input _ = Unit {0}

-- the readings of a sense begin after its mark and the number of its cells
abbrev pub ReadingsBegin : Option ℕ → Record → Type 0
ReadingsBegin (Some first) (held.Sense place bytes) = place ≡ first + 3
ReadingsBegin _ _ = Unit {0}

-- the stream ends at the place
abbrev pub EndsAt : List ℕ → Option ℕ → Ending → Type 0
EndsAt input None e = e ≡ End
EndsAt input (Some p) e = Ends p (drop p input) e

-- asked from a place on, and then at each next place until the stream ends, the reader answers these and the ending
abbrev pub IsAnswered : List ℕ → Option ℕ → List ReadRecord → Ending → Type 0
IsAnswered input place [] e = EndsAt input place e
IsAnswered input place (r ∷ rs) e = Stands input place r × IsAnswered input r.next rs e

abbrev pub entries_of : List ReadRecord → List Entry
entries_of [] = []
entries_of (r ∷ rs) = entry_of r.record ∷ entries_of rs
