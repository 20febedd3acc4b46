-- What the words behind the name of a task are answered.
use Rattle.std.specs.Prelude.{◌≡◌, ℕ, ◌+◌, List, length, take, drop, position, ℤ, Err, codes, Option, Result, MatchOption}
use Rattle.std.specs.Str.{bytes_eq as same_text}
use Rattle.finders.specs.Meanings.{Meaning}
use Rattle.finders.specs.WordFinders.{WordFit, find_answer as find_word}
use Rattle.tasks.specs.declared.failure.Failure.{Failure}
use Rattle.tasks.specs.declared.failure.Failure.TheVariants.{Unreadable}
use Rattle.tasks.specs.Numbers.{Signeds, Unsigneds, Reads, ReadsBoth}
use Rattle.codewords.specs.declared.found.Codeword.{Codeword}
use Rattle.codewords.specs.declared.names.Task.{Task}
use Rattle.codewords.specs.declared.names.Task.TheVariants.{Codewords, Listing as ListingOf}
use Rattle.codewords.specs.declared.words.Code.{Code}
use Rattle.codewords.specs.declared.words.Listing.{Listing}
use Rattle.codewords.specs.Found.{told}
use Rattle.codewords.specs.Sets.{code_meaning, listing_meaning}

-- the answer to gains, by what `find` answers
abbrev pub FindsWord : Meaning WordFit → List ℤ → Result Codeword Failure → Type 0
FindsWord M gs r = r ≡ told (find_word M gs)

-- the answer to the gains of a code
abbrev pub CodeAnswer : Code → List (List ℕ) → Result Codeword Failure → Type 0
CodeAnswer k ws = Reads Signeds ws (λ gs. FindsWord (code_meaning k (length gs)) gs)

-- the answer to a list and gains
abbrev pub PartsAnswer : Listing → List (List ℕ) → List (List ℕ) → Result Codeword Failure → Type 0
PartsAnswer k list gains = ReadsBoth Unsigneds list Signeds gains (λ vs gs. FindsWord (listing_meaning k (length gs) vs) gs)

-- the index of the first slash
abbrev pub first_slash : List (List ℕ) → Option ℕ
first_slash = position (λ w. same_text w (codes "/"))

-- the answer to a list, a slash and gains
abbrev pub ListingAnswer : Listing → List (List ℕ) → Result Codeword Failure → Type 0
ListingAnswer k ws r = MatchOption (first_slash ws) (r ≡ Err Unreadable) (λ i. PartsAnswer k (take i ws) (drop (i + 1) ws) r)

-- the answer to the words behind the name of a task
abbrev pub TaskAnswer : Task → List (List ℕ) → Result Codeword Failure → Type 0
TaskAnswer (Codewords k) ws r = CodeAnswer k ws r
TaskAnswer (ListingOf k) ws r = ListingAnswer k ws r
