-- A line, its words, and what is printed for it.
use Rattle.std.specs.Prelude.{◌≡◌, ℕ, ◌<◌, List, [], ◌∷◌, ◌++◌, map, length, Ok, Err, IfSome, codes, Option, Result}
use Rattle.std.specs.Char.{is_whitespace, is_not_whitespace}
use Rattle.std.specs.Fn.{Once, FnOnceReturns}
use Rattle.std.specs.Str.{NoCharPasses, EmptyOrStartsWithPassing}
use denote.Ref.{Bor}
use Rattle.finders.specs.declared.refusals.Refusal.{Refusal}
use Rattle.finders.specs.declared.refusals.Refusal.TheVariants.{Kind}
use Rattle.finders.specs.Refusals.{refusal_text}
use Rattle.tasks.specs.declared.failure.Failure.{Failure}
use Rattle.tasks.specs.declared.failure.Failure.TheVariants.{Refused, Unreadable, Memory}

-- bs is white space, the word w, and rest, which is empty or begins with white space
pub record First (bs w rest : List ℕ) : Type 0 where
  pub gap : List ℕ
  pub cut : bs ≡ gap ++ (w ++ rest)
  pub some : 0 < length w
  pub blank : NoCharPasses is_not_whitespace gap
  pub solid : NoCharPasses is_whitespace w
  pub ends : (more : List ℕ) × EmptyOrStartsWithPassing is_whitespace rest more

-- ws are the words of bs
abbrev pub Words : List ℕ → List (List ℕ) → Type 0
Words bs [] = NoCharPasses is_not_whitespace bs
Words bs (w ∷ ws) = (rest : List ℕ) × First bs w rest × Words rest ws

-- the texts that words refer to
abbrev pub texts : List (Bor (List ℕ)) → List (List ℕ)
texts = map (λ w. w.now)

-- a call of f at k and the words ws may give r
abbrev pub AsksBy : {F K T : Type 0} → Once F (K × (Bor (List (Bor (List ℕ))) × Unit {0})) (Result T Failure) → F → K → List (List ℕ) → Result T Failure → Type 0
AsksBy g f k ws r = (words : Bor (List (Bor (List ℕ)))) × (texts words.now ≡ ws) × FnOnceReturns g f (k, (words, tt)) r

-- the answer to what a name asks of the words ws, or its refusal
abbrev pub Told : {K T : Type 0} → (K → List (List ℕ) → Result T Failure → Type 0) → Result K Refusal → List (List ℕ) → Result T Failure → Type 0
Told Asks (Ok k) ws r = Asks k ws r
Told Asks (Err e) ws r = r ≡ Err (Refused e)

-- the answer to the words of a line: the first names, as Names says, what is asked of the others
abbrev pub AnswersByName : {K T : Type 0} → (List ℕ → Result K Refusal → Type 0) → (K → List (List ℕ) → Result T Failure → Type 0) → List (List ℕ) → Result T Failure → Type 0
AnswersByName Names Asks [] r = r ≡ Err (Refused Kind)
AnswersByName {K} Names Asks (name ∷ ws) r = (k : Result K Refusal) × Names name k × Told Asks k ws r

-- text is printed for an answer; output is the text of what was found
abbrev pub Prints : {T : Type 0} → (T → Option (List ℕ)) → Result T Failure → List ℕ → Type 0
Prints output (Ok x) text = IfSome (output x) (λ bs. text ≡ bs)
Prints output (Err (Refused e)) text = text ≡ refusal_text e
Prints output (Err Unreadable) text = text ≡ codes "unreadable"
Prints output (Err (Memory _)) text = ⊥

-- text is printed for a line, where Answers says what the words of a line are answered
abbrev pub Responds : {T : Type 0} → (List (List ℕ) → Result T Failure → Type 0) → (T → Option (List ℕ)) → List ℕ → List ℕ → Type 0
Responds {T} Answers output line text = (ws : List (List ℕ)) × (r : Result T Failure) × Words line ws × Answers ws r × Prints output r text
