-- How the answers of a layer are made of those of what is below.
use Rattle.std.specs.Prelude.{ℕ, ℤ, pos, Ok, Err, Result}
use Rattle.finders.specs.declared.refusals.Refusal.{Refusal}

-- f of what is answered; a refusal stays
abbrev pub with_answer : {A B : Type 0} → (A → B) → Result A Refusal → Result B Refusal
with_answer f (Ok x) = Ok (f x)
with_answer f (Err e) = Err e

-- f of what two answer; the first refusal stays
abbrev pub with_answers : {A B C : Type 0} → (A → B → C) → Result A Refusal → Result B Refusal → Result C Refusal
with_answers f (Ok x) (Ok y) = Ok (f x y)
with_answers f (Ok x) (Err e) = Err e
with_answers f (Err e) r = Err e

-- the word and the correlation that a find of words answers, and the distance that one of points does: 0 for a refusal
abbrev pub word_in : Result (ℕ × ℤ) Refusal → ℕ
word_in (Ok r) = r.0
word_in (Err e) = 0

abbrev pub correlation_in : Result (ℕ × ℤ) Refusal → ℤ
correlation_in (Ok r) = r.1
correlation_in (Err e) = pos 0

abbrev pub distance_in : Result ℕ Refusal → ℕ
distance_in (Ok d) = d
distance_in (Err e) = 0
