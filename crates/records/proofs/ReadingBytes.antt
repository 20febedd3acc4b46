-- The readings of a sense, and the two bytes that each is written as.
use Rattle.std.proofs.Common.{◌≡◌, ℕ, zero, suc, ◌+◌, ◌*◌, ◌/◌, ◌^◌, ◌<◌, List, [], ◌∷◌, ◌++◌, length, get_or, take}
use Rattle.std.proofs.Common.{drop, set, refl, ap, ◌∙◌, append_assoc, arith, ℤ, pos, w16, SFits, to_z, of_z}
use Rattle.std.specs.Int.{from_be_bytes, to_be_bytes}
use Rattle.std.specs.List.{AllByRecursion, flat_map}
use Rattle.std.proofs.lemmas.Int.{ints, to_z-of_z, of_z-to_z}
use Rattle.std.proofs.lemmas.List.{length-take-le, drop_more, take_more, set_at}
use Rattle.std.proofs.lemmas.Nat.{be_bytes_2, from_be_bytes-to_be_bytes_2}
use Rattle.records.specs.Records.{IsBytes, IsReading, reading_bytes, readings_in}

-- the reading that two bytes write
abbrev pub reading_of : ℕ → ℕ → ℤ
reading_of high low = to_z w16 (from_be_bytes w16 (high ∷ low ∷ []))

pair_below : (high low : ℕ) → high < 256 → low < 256 → from_be_bytes w16 (high ∷ low ∷ []) < 2 ^ 16
pair_below high low h l = omega arith

pair_is_bytes : (high low : ℕ) → high < 256 → low < 256 → (i : ℕ) → get_or (high ∷ low ∷ []) i 0 < 256
pair_is_bytes high low h l zero = h
pair_is_bytes high low h l (suc zero) = l
pair_is_bytes high low h l (suc (suc i)) = omega arith

-- ---- written and read again

pub reading_again : (z : ℤ) → IsReading z → to_z w16 (from_be_bytes w16 (reading_bytes z)) ≡ z
reading_again z h =
    let small : of_z w16 z < 2 ^ 16 = omega (arith, ints) in
    ap (to_z w16) (from_be_bytes-to_be_bytes_2 (of_z w16 z) small) ∙ to_z-of_z w16 z h

pub same_reading : (y z : ℤ) → IsReading y → IsReading z → reading_bytes y ≡ reading_bytes z → y ≡ z
same_reading y z f g e =
    let y-is = reading_again y f in
    let z-is = reading_again z g in
    let same = ap (λ (bytes : List ℕ). to_z w16 (from_be_bytes w16 bytes)) e in
    cc

-- ---- read and written again

pair_again : (high low : ℕ) → high < 256 → low < 256 → reading_bytes (reading_of high low) ≡ high ∷ low ∷ []
pair_again high low h l =
    ap (to_be_bytes w16) (of_z-to_z w16 (from_be_bytes w16 (high ∷ low ∷ [])) (pair_below high low h l))
    ∙ be_bytes_2 (high ∷ low ∷ []) _ refl (pair_is_bytes high low h l) refl

pub readings_written : (bytes : List ℕ) (n : ℕ) → length bytes ≡ 2 * n → IsBytes bytes →
    flat_map reading_bytes (readings_in bytes) ≡ bytes
readings_written [] n e h = refl
readings_written (b ∷ []) n e h = absurd (omega arith)
readings_written (high ∷ low ∷ bytes) zero e h = absurd (omega arith)
readings_written (high ∷ low ∷ bytes) (suc n) e h =
    let pair = pair_again high low (h 0) (h 1) in
    let more = readings_written bytes n (omega arith) (λ i. h (suc (suc i))) in
    ap (λ (p : List ℕ). p ++ flat_map reading_bytes (readings_in bytes)) pair ∙ ap (λ (r : List ℕ). high ∷ low ∷ r) more

pub readings_fit : (bytes : List ℕ) → IsBytes bytes → AllByRecursion IsReading (readings_in bytes)
readings_fit [] h = tt
readings_fit (b ∷ []) h = tt
readings_fit (high ∷ low ∷ bytes) h =
    let small = pair_below high low (h 0) (h 1) in
    let fits : SFits w16 (reading_of high low) = omega (arith, ints) in
    (fits, readings_fit bytes (λ i. h (suc (suc i))))

-- ---- how many there are, and each of them

pub readings_length : (bytes : List ℕ) → length (readings_in bytes) ≡ length bytes / 2
readings_length [] = refl
readings_length (b ∷ []) = refl
readings_length (high ∷ low ∷ bytes) = omega (arith, readings_length bytes)

pub bytes_length : (readings : List ℤ) → length (flat_map reading_bytes readings) ≡ 2 * length readings
bytes_length [] = refl
bytes_length (z ∷ readings) = omega (arith, bytes_length readings)

pub reading_at : (bytes : List ℕ) (i : ℕ) (d : ℤ) → 2 * i + 1 < length bytes →
    get_or (readings_in bytes) i d ≡ reading_of (get_or bytes (2 * i) 0) (get_or bytes (2 * i + 1) 0)
reading_at [] i d h = absurd (omega arith)
reading_at (b ∷ []) i d h = absurd (omega arith)
reading_at (high ∷ low ∷ bytes) zero d h = refl
reading_at (high ∷ low ∷ bytes) (suc i) d h =
    let first : 2 * suc i ≡ suc (suc (2 * i)) = omega arith in
    let second : 2 * suc i + 1 ≡ suc (suc (2 * i + 1)) = omega arith in
    rw (second, first) (reading_at bytes i d (omega arith))

-- ---- written to the front of a place, one after the other

pub written_more : (readings old now : List ℤ) (i : ℕ) (z : ℤ) → i < length readings → i < length old →
    now ≡ take i readings ++ drop i old → z ≡ get_or readings i (pos 0) →
    set now i z ≡ take (i + 1) readings ++ drop (i + 1) old
written_more readings old now i z h k e is =
    let front = length-take-le i readings (omega arith) in
    let rest = drop_more old i (pos 0) k in
    let more = take_more readings i (pos 0) h in
    let read = get_or readings i (pos 0) in
    rw (e, rest, more, is, append_assoc)
    (set_at (take i readings) (get_or old i (pos 0)) (drop (i + 1) old) read i front)
