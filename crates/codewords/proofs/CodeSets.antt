-- The codes: they keep their laws, and what is found in them has the greatest correlation.
use Rattle.std.proofs.Common.{◌≡◌, ℕ, leb, List, length, ℤ, Some, None, Ok, Option, Result, ◌∙◌, subst}
use Rattle.std.proofs.lemmas.Bool.{and_parts, leb-true}
use Rattle.finders.specs.declared.refusals.Refusal.{Refusal}
use Rattle.finders.specs.declared.refusals.Refusal.TheVariants.{Width, WordCount, Entry}
use Rattle.finders.specs.Meanings.{Meaning}
use Rattle.finders.specs.Sizes.{in_range}
use Rattle.finders.specs.WordFinders.{WordFit, WordLaws, Lawful, Same, Outcome, find_answer}
use Rattle.finders.specs.Words.{all_fit}
use Rattle.finders.proofs.Fitness.{unfit_unless_keeps}
use Rattle.finders.proofs.FoundWords.{outcome_of, same_finds, same_trans}
use Rattle.codes.specs.Listed.{few, listed}
use Rattle.codes.specs.ReedMuller.{reed_muller}
use Rattle.code_layers.specs.Glue.{glued}
use Rattle.code_layers.specs.GlueLaws.{glued_lawful, glued_alike}
use Rattle.codes.specs.EvenWeight.{even_weight}
use Rattle.codes.specs.EvenWeightLaws.{even_weight_lawful}
use Rattle.codes.specs.ListedLaws.{listed_laws}
use Rattle.codes.specs.ReedMullerLaws.{reed_muller_lawful}
use Rattle.codes.specs.UniverseLaws.{universe_lawful}
use Rattle.codewords.specs.declared.words.Code.{Code}
use Rattle.codewords.specs.declared.words.Code.TheVariants.{Universe, EvenWeight, ReedMuller}
use Rattle.codewords.specs.declared.words.Listing.{Listing}
use Rattle.codewords.specs.declared.words.Listing.TheVariants.{Listed, GluedEven}
use Rattle.codewords.specs.Sets.{m_of, reed_muller_of, code_meaning, listing_meaning}

some_reed_muller_lawful : (m : Option ℕ) → Lawful (reed_muller_of m)
some_reed_muller_lawful (Some m) = reed_muller_lawful m
some_reed_muller_lawful None = tt

codes_lawful : (k : Code) (n : ℕ) → Lawful (code_meaning k n)
codes_lawful Universe n = universe_lawful n
codes_lawful EvenWeight n = even_weight_lawful n
codes_lawful ReedMuller n = some_reed_muller_lawful (m_of n)

list_lawful : (n : ℕ) (vs : List ℕ) → Lawful (listed n vs)
list_lawful n vs =
    unfit_unless_keeps WordLaws (in_range n) Width _ (λ sized.
    unfit_unless_keeps WordLaws (few (length vs)) WordCount _ (λ counted.
    unfit_unless_keeps WordLaws (all_fit n vs) Entry _ (λ fitting.
    listed_laws n vs sized (leb-true 1 (length vs) (and_parts (leb 1 (length vs)) (leb (length vs) 64) counted).0) fitting)))

-- M is what was built for N
found : (M N : Meaning WordFit) (gs : List ℤ) (r : Result (ℕ × ℤ) Refusal) → Lawful N → Same M N → r ≡ find_answer M gs → (r ≡ find_answer N gs) × Outcome N gs r
found M N gs r l s a = let f = a ∙ same_finds M N gs s in (f, outcome_of N gs r l f)

-- the code k is j, and M is what was built for it
pub found_in_code : (k j : Code) (n : ℕ) (M : Meaning WordFit) (gs : List ℤ) (r : Result (ℕ × ℤ) Refusal) → k ≡ j → Same M (code_meaning j n) → r ≡ find_answer M gs → (r ≡ find_answer (code_meaning k n) gs) × Outcome (code_meaning k n) gs r
found_in_code k j n M gs r e s a = rw e (found M (code_meaning j n) gs r (codes_lawful j n) s a)

-- the code k is the Reed-Muller code, and m is that of n cells
pub found_in_reed_muller : (k : Code) (n m : ℕ) (M : Meaning WordFit) (gs : List ℤ) (r : Result (ℕ × ℤ) Refusal) → k ≡ ReedMuller → Some m ≡ m_of n → Same M (reed_muller m) → r ≡ find_answer M gs → (r ≡ find_answer (code_meaning k n) gs) × Outcome (code_meaning k n) gs r
found_in_reed_muller k n m M gs r e o s a = found_in_code k ReedMuller n M gs r e (subst (λ (v : Option ℕ). Same M (reed_muller_of v)) o s) a

listings_lawful : (k : Listing) (n : ℕ) (vs : List ℕ) → Lawful (listing_meaning k n vs)
listings_lawful Listed n vs = list_lawful n vs
listings_lawful GluedEven n vs = glued_lawful (Ok vs) (even_weight n) (even_weight_lawful n)

-- the listing k is j, and M is what was built for it
pub found_in_listing : (k j : Listing) (n : ℕ) (vs : List ℕ) (M : Meaning WordFit) (gs : List ℤ) (r : Result (ℕ × ℤ) Refusal) → k ≡ j → Same M (listing_meaning j n vs) → r ≡ find_answer M gs → (r ≡ find_answer (listing_meaning k n vs) gs) × Outcome (listing_meaning k n vs) gs r
found_in_listing k j n vs M gs r e s a = rw e (found M (listing_meaning j n vs) gs r (listings_lawful j n vs) s a)

-- M is what was glued over L, and L what was built for the words of even weight
pub glued_over_even : (n : ℕ) (vs : List ℕ) (M L : Meaning WordFit) → Same M (glued vs L) → Same L (even_weight n) → Same M (glued vs (even_weight n))
glued_over_even n vs M L s t = same_trans M (glued vs L) (glued vs (even_weight n)) s (glued_alike vs L (even_weight n) t)
