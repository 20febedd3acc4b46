-- Records, and the bytes that they are written as.
use Rattle.std.specs.Prelude.{ℕ, ◌^◌, ◌<◌, List, [], ◌∷◌, length, slice_index, ℤ, FitsSigned}
use Rattle.std.specs.Int.{w16, w32, to_be_bytes, from_be_bytes, cast_unsigned, cast_signed}
use Rattle.std.specs.List.{AllByRecursion, flat_map}
use Rattle.records.specs.declared.record.Record.{Record}
use Rattle.records.specs.declared.record.Record.TheVariants as held

-- a record without where it lies in an input
pub data Entry : Type 0 where
  Open : (kind cells step : ℕ) → Entry
  Sense : List ℤ → Entry
  Clear : Entry
  Decide : Entry

-- ---- what it is written as

-- bytes: numbers below 256
abbrev pub IsBytes : List ℕ → Type 0
IsBytes bytes = (i : ℕ) → slice_index bytes i < 256

-- a reading: two bytes, the high one first, in two's complement
abbrev pub reading_bytes : ℤ → List ℕ
reading_bytes z = to_be_bytes w16 (cast_unsigned w16 z)

-- a mark of two bytes, A5 and the number of the record's sort, and then its fields
abbrev pub written : Entry → List ℕ
written (Open kind cells step) = 165 ∷ 1 ∷ kind ∷ cells ∷ to_be_bytes w32 step
written (Sense readings) = 165 ∷ 2 ∷ length readings ∷ flat_map reading_bytes readings
written Clear = 165 ∷ 3 ∷ []
written Decide = 165 ∷ 4 ∷ []

-- a reading that 16 bits hold
abbrev pub IsReading : ℤ → Type 0
IsReading z = FitsSigned w16 z

-- what can be written: numbers that their fields hold
abbrev pub Fits : Entry → Type 0
Fits (Open kind cells step) = (kind < 256) × (cells < 256) × (step < 2 ^ 32)
Fits (Sense readings) = (length readings < 256) × AllByRecursion IsReading readings
Fits Clear = Unit {0}
Fits Decide = Unit {0}

-- ---- a record as the program holds it

-- the readings that bytes write
abbrev pub readings_in : List ℕ → List ℤ
readings_in (high ∷ low ∷ bytes) = cast_signed w16 (from_be_bytes w16 (high ∷ low ∷ [])) ∷ readings_in bytes
readings_in _ = []

abbrev pub entry_of : Record → Entry
entry_of (held.Open kind cells step) = Open kind cells step
entry_of (held.Sense place bytes) = Sense (readings_in bytes.now)
entry_of held.Clear = Clear
entry_of held.Decide = Decide
