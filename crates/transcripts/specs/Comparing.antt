-- What decided points are promised, and how the answers to two streams compare whose kinds differ.
use Rattle.std.specs.Prelude.{◌≡◌, ℕ, List, [], ◌∷◌, take, ℤ, Ok, Err, Result, Option, None, Some}
use Rattle.std.specs.List.{slice_get}
use Rattle.finders.specs.declared.refusals.Refusal.{Refusal}
use Rattle.finders.specs.PointFinders.{Member, OneSet}
use Rattle.blocks.specs.Senses.{IsLeastTotal}
use Rattle.kinds.specs.Kinds.{set_of}
use Rattle.records.specs.Records.{Entry, Open, Sense, Clear, Decide}
use Rattle.transcripts.specs.Replies.{Reply, Opened, Sensed, Cleared, Decided}
use Rattle.transcripts.specs.Sessions.{OpenBlock, set, opening_checked}
use Rattle.transcripts.specs.Transcripts.{open_after}

-- ---- decided points

-- a block is open, x is a point of its set with the total t over the senses that stand, and every point of the set has
-- at least that
abbrev pub HasTheLeastTotal : Option OpenBlock → List ℤ → ℕ → Type 0
HasTheLeastTotal None x t = ⊥
HasTheLeastTotal (Some g) x t = IsLeastTotal (set g) g.step g.stands.senses x t

-- each point that is decided, where what is open then follows from the records before it
abbrev pub EachPointHasTheLeastTotal : List Entry → List (Result Reply Refusal) → Type 0
EachPointHasTheLeastTotal es answers =
    (i : ℕ) (x : List ℤ) (t : ℕ) → slice_get answers i ≡ Some (Ok (Decided x t)) →
    HasTheLeastTotal (open_after (take i es)) x t

-- ---- records that are the same but for the kinds

-- the kinds k and l, in n cells, have the same points
abbrev pub HaveOneSet : (k l n : ℕ) → Type 0
HaveOneSet k l n = OneSet (set_of k n) (set_of l n)

-- each point of the kind k is one of the kind l
abbrev pub IsPartOf : (k l n : ℕ) → Type 0
IsPartOf k l n = (x : List ℤ) → Member (set_of k n) x → Member (set_of l n) x

-- two records: opens of such kinds in as many cells at one step, that are both granted, or refused alike; or else the
-- same record
abbrev pub SameEntry : ((k l n : ℕ) → Type 0) → Entry → Entry → Type 0
SameEntry Kinds (Open k n q) (Open l m r) =
    Kinds k l n × (m ≡ n) × (r ≡ q) × (opening_checked l n q ≡ opening_checked k n q)
SameEntry Kinds (Sense rs) (Sense ss) = ss ≡ rs
SameEntry Kinds Clear Clear = Unit {0}
SameEntry Kinds Decide Decide = Unit {0}
SameEntry Kinds _ _ = ⊥

abbrev pub SameButForKinds : ((k l n : ℕ) → Type 0) → List Entry → List Entry → Type 0
SameButForKinds Kinds [] [] = Unit {0}
SameButForKinds Kinds (e ∷ es) (f ∷ fs) = SameEntry Kinds e f × SameButForKinds Kinds es fs
SameButForKinds Kinds _ _ = ⊥

-- ---- answers that are the same but for kinds, points and totals

-- two answers: points of which the totals compare so; or else the same, but for the kind of an open
abbrev pub SameAnswer : (ℕ → ℕ → Type 0) → Result Reply Refusal → Result Reply Refusal → Type 0
SameAnswer Totals (Ok (Opened k n q)) (Ok (Opened l m r)) = (m ≡ n) × (r ≡ q)
SameAnswer Totals (Ok (Sensed m)) (Ok (Sensed n)) = n ≡ m
SameAnswer Totals (Ok (Cleared m)) (Ok (Cleared n)) = n ≡ m
SameAnswer Totals (Ok (Decided x t)) (Ok (Decided y u)) = Totals t u
SameAnswer Totals (Err e) (Err f) = f ≡ e
SameAnswer Totals _ _ = ⊥

abbrev pub SameAnswers : (ℕ → ℕ → Type 0) → (answers others : List (Result Reply Refusal)) → Type 0
SameAnswers Totals [] [] = Unit {0}
SameAnswers Totals (a ∷ answers) (b ∷ others) = SameAnswer Totals a b × SameAnswers Totals answers others
SameAnswers Totals _ _ = ⊥
