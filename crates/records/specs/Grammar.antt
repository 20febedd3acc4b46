-- How a stream is made up of records.
use Rattle.std.specs.Prelude.{◌≡◌, ◌≢◌, ℕ, ◌+◌, ◌*◌, ◌≤◌, slice_index, List, [], ◌++◌, length, take}
use Rattle.std.specs.List.{AllByRecursion, flat_map}
use Rattle.records.specs.declared.reader.Ending.{Ending}
use Rattle.records.specs.declared.reader.Ending.TheVariants.{End, Stop}
use Rattle.records.specs.Records.{Entry, written, Fits}

-- the bytes of records, one after the other
abbrev pub stream : List Entry → List ℕ
stream = flat_map written

-- the bytes are those of a record, and then the rest
pub record Begins (bytes : List ℕ) (e : Entry) (rest : List ℕ) : Type 0 where
  pub cut : bytes ≡ written e ++ rest
  pub fits : Fits e

-- whatever the record and the rest, these are not their bytes
abbrev pub BeginsNoRecord : List ℕ → Type 0
BeginsNoRecord bytes = (e : Entry) (rest : List ℕ) → Begins bytes e rest → ⊥

-- the bytes begin with a mark, and are as many as its record needs
pub record AreEnough (bytes : List ℕ) : Type 0 where
  pub two : 2 ≤ length bytes
  pub mark : slice_index bytes 0 ≡ 165
  pub sort : (1 ≤ slice_index bytes 1) × (slice_index bytes 1 ≤ 4)
  pub opening : slice_index bytes 1 ≡ 1 → 8 ≤ length bytes
  pub sense : slice_index bytes 1 ≡ 2 → 3 + 2 * slice_index bytes 2 ≤ length bytes

-- what is left after some records, which end at this place: nothing at an end; at a stop, bytes that do not begin with
-- a whole record
abbrev pub Ends : ℕ → List ℕ → Ending → Type 0
Ends place bytes End = bytes ≡ []
Ends place bytes (Stop p) = (p ≡ place) × (bytes ≢ []) × BeginsNoRecord bytes

-- the input is the bytes of these records, and then ends so
pub record IsRead (input : List ℕ) (es : List Entry) (ending : Ending) : Type 0 where
  pub rest : List ℕ
  pub cut : input ≡ stream es ++ rest
  pub each_fits : AllByRecursion Fits es
  pub ends : Ends (length (stream es)) rest ending

-- the input up to its ending
abbrev pub up_to : Ending → List ℕ → List ℕ
up_to End input = input
up_to (Stop place) input = take place input
