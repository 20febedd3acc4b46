-- What is read of an input.
use Rattle.std.specs.Prelude.{◌≡◌, ℕ, ◌-◌, List, length, take}

-- the bytes are as many as were given, and the same; but for the last of the most, which a reader that has no more to
-- give may write over when it is asked for more
abbrev pub AreGiven : ℕ → List ℕ → List ℕ → Type 0
AreGiven most given bytes = (length bytes ≡ length given) × (take (most - 1) bytes ≡ take (most - 1) given)
