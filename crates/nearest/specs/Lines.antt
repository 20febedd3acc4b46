-- What the words of a line are answered.
use Rattle.std.specs.Prelude.{◌≡◌, ℕ, List, [], ◌∷◌, length, ℤ, Ok, Err, vec_items, Result}
use Rattle.std.specs.Result.{result_map_both}
use Rattle.finders.specs.declared.refusals.Refusal.{Refusal}
use Rattle.finders.specs.Meanings.{Meaning}
use Rattle.finders.specs.PointFinders.{PointFit, find_answer, find_place}
use Rattle.tasks.specs.declared.failure.Failure.{Failure}
use Rattle.tasks.specs.declared.failure.Failure.TheVariants.{Refused, Unreadable}
use Rattle.tasks.specs.Lines.{AnswersByName}
use Rattle.tasks.specs.Numbers.{WritesUnsigned, Signeds, ReadsBoth}
use Rattle.codewords.specs.Lines.{TaskAnswer as WordAnswer}
use Rattle.nearest.specs.declared.found.Found.{Found}
use Rattle.nearest.specs.declared.found.Found.TheVariants.{Point, Word}
use Rattle.nearest.specs.declared.found.Nearest.{Nearest}
use Rattle.nearest.specs.declared.names.Task.{Task}
use Rattle.nearest.specs.declared.names.Task.TheVariants.{Points, Words}
use Rattle.nearest.specs.declared.sets.Lattice.{Lattice}
use Rattle.nearest.specs.Names.{named}
use Rattle.nearest.specs.Sets.{meaning_of}

-- this point was found, at this squared distance
abbrev pub IsPoint : List ℤ → ℕ → Result Nearest Failure → Type 0
IsPoint xs d (Ok nearest) = (vec_items nearest.point ≡ xs) × (nearest.distance ≡ d)
IsPoint xs d (Err e) = ⊥

abbrev pub Shows : Result ℕ Refusal → List ℤ → Result Nearest Failure → Type 0
Shows (Ok d) xs r = IsPoint xs d r
Shows (Err e) xs r = r ≡ Err (Refused e)

-- the answer to readings at a step, by what `find` answers and writes into a place of as many numbers
abbrev pub Finds : Meaning PointFit → List ℤ → ℕ → Result Nearest Failure → Type 0
Finds M rs q r = Shows (find_answer M rs q rs) (find_place M rs q rs) r

-- the answer to a step and readings
abbrev pub Asks : Lattice → List (List ℕ) → Result Nearest Failure → Type 0
Asks l [] r = r ≡ Err Unreadable
Asks l (step ∷ ws) r = ReadsBoth WritesUnsigned step Signeds ws (λ q rs. Finds (meaning_of l (length rs)) rs q) r

-- r is a result that P holds of, with what it found turned into `Found` by f
abbrev pub As : {T : Type 0} → (T → Found) → (Result T Failure → Type 0) → Result Found Failure → Type 0
As {T} f P r = (s : Result T Failure) × P s × (r ≡ result_map_both f (λ e. e) s)

-- the answer to the words behind the name of a task
abbrev pub TaskAnswer : Task → List (List ℕ) → Result Found Failure → Type 0
TaskAnswer (Points l) ws = As Point (Asks l ws)
TaskAnswer (Words k) ws = As Word (WordAnswer k ws)

-- the answer to the words of a line: the name of a task, and what it asks for
abbrev pub Answers : List (List ℕ) → Result Found Failure → Type 0
Answers = AnswersByName (λ name t. t ≡ named name) TaskAnswer
