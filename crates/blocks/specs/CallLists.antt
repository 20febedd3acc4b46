-- Lists of calls: which are the same, which have no clear among them, and the senses in them.
use Rattle.std.specs.Prelude.{◌≡◌, ℕ, true, cond, List, [], ◌∷◌, ◌++◌, length, ℤ, ◌==◌}
use Rattle.finders.specs.Points.{within}
use Rattle.blocks.specs.Senses.{largest_reading}
use Rattle.blocks.specs.declared.calls.Call.{Call}
use Rattle.blocks.specs.declared.calls.Call.TheVariants as call

-- two calls of one kind, with one list of readings or one length of the place
abbrev pub SameCall : Call → Call → Type 0
SameCall (call.Sense rs) (call.Sense ss) = rs.now ≡ ss.now
SameCall call.Clear call.Clear = Unit {0}
SameCall (call.Decide k) (call.Decide l) = k ≡ l
SameCall _ _ = ⊥

abbrev pub SameCalls : List Call → List Call → Type 0
SameCalls [] [] = Unit {0}
SameCalls (c ∷ cs) (d ∷ ds) = SameCall c d × SameCalls cs ds
SameCalls _ _ = ⊥

abbrev pub HasNoClear : List Call → Type 0
HasNoClear [] = Unit {0}
HasNoClear (call.Clear ∷ cs) = ⊥
HasNoClear (c ∷ cs) = HasNoClear cs

-- the calls up to a clear, and calls behind it that have none
pub record EndsAfterAClear (cs : List Call) : Type 0 where
  pub before : List Call
  pub after : List Call
  pub is : cs ≡ before ++ call.Clear ∷ after
  pub has_none_after : HasNoClear after

-- the readings of the senses of n cells, in the order of the calls
abbrev pub senses_of_width : ℕ → List Call → List (List ℤ)
senses_of_width n [] = []
senses_of_width n (call.Sense rs ∷ cs) =
    let rest = senses_of_width n cs in
    cond (length rs.now == n) (rs.now ∷ rest) rest
senses_of_width n (c ∷ cs) = senses_of_width n cs

-- no reading is beyond 16 bits: so it is of every call in code, where a reading is an `i16`
abbrev pub HasSmallReadings : Call → Type 0
HasSmallReadings (call.Sense rs) = within largest_reading rs.now ≡ true
HasSmallReadings call.Clear = Unit {0}
HasSmallReadings (call.Decide k) = Unit {0}
