-- The transcript of a stream: what each record was answered, and how the stream ends.
use Rattle.std.specs.Prelude.{◌≡◌, ℕ, List, [], ◌∷◌, ◌++◌, Result, Option, None}
use Rattle.std.specs.List.{flat_map}
use Rattle.finders.specs.declared.refusals.Refusal.{Refusal}
use Rattle.records.specs.declared.reader.Ending.{Ending}
use Rattle.records.specs.Grammar.{IsRead}
use Rattle.records.specs.Reader.{ending_text}
use Rattle.records.specs.Records.{Entry}
use Rattle.transcripts.specs.Replies.{Reply, answer_text}
use Rattle.transcripts.specs.Sessions.{OpenBlock, answer_to, after}

-- what is open after records, where `was` was before them
abbrev pub open_from : Option OpenBlock → List Entry → Option OpenBlock
open_from was [] = was
open_from was (e ∷ es) = open_from (after was e) es

-- what records are answered, where `was` was open before them
abbrev pub answers_from : Option OpenBlock → List Entry → List (Result Reply Refusal)
answers_from was [] = []
answers_from was (e ∷ es) = answer_to was e ∷ answers_from (after was e) es

-- before the first record, nothing is open
abbrev pub open_after : List Entry → Option OpenBlock
open_after es = open_from None es

abbrev pub answers_to : List Entry → List (Result Reply Refusal)
answers_to es = answers_from None es

-- a line ends with a line feed
abbrev pub line : List ℕ → List ℕ
line text = text ++ (10 ∷ [])

abbrev pub lines : List (Result Reply Refusal) → List ℕ
lines = flat_map (λ answer. line (answer_text answer))

-- the input is some records and an ending, and the text is a line for what each is answered, and one for the ending
pub record IsTranscript (input text : List ℕ) : Type 0 where
  pub entries : List Entry
  pub ending : Ending
  pub is_read : IsRead input entries ending
  pub is_printed : text ≡ lines (answers_to entries) ++ line (ending_text ending)
