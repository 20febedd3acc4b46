-- The sets that a task can name: they keep their laws, and what is found in them is nearest.
use Rattle.std.proofs.Common.{◌≡◌, ℕ, List, length, ℤ, Ok, Result, ◌∙◌}
use Rattle.finders.specs.declared.refusals.Refusal.{Refusal}
use Rattle.finders.specs.Meanings.{Meaning}
use Rattle.finders.specs.PointFinders.{PointFit, Lawful, Same, Outcome, find_answer, find_place}
use Rattle.finders.specs.WordFinders.{WordFit, Same as SameWords}
use Rattle.finders.proofs.Found.{outcome_of, found_by_length, same_finds, same_trans}
use Rattle.codes.specs.EvenWeight.{even_weight}
use Rattle.codes.specs.EvenWeightLaws.{even_weight_lawful}
use Rattle.lattice_layers.specs.ConstructionA.{construction_a}
use Rattle.lattice_layers.specs.ConstructionALaws.{construction_a_lawful, construction_a_alike}
use Rattle.lattice_layers.specs.E8Laws.{e8_by_glue_lawful, e8_by_words_lawful}
use Rattle.lattices.specs.ZLaws.{z_lawful}
use Rattle.lattices.specs.DLaws.{d_lawful}
use Rattle.nearest.specs.declared.sets.Lattice.{Lattice}
use Rattle.nearest.specs.declared.sets.Lattice.TheVariants.{Z, D, DWords, E8Glue, E8Words}
use Rattle.tasks.specs.declared.failure.Failure.{Failure}
use Rattle.nearest.specs.declared.found.Nearest.{Nearest}
use Rattle.nearest.specs.Lines.{IsPoint, Finds}
use Rattle.nearest.specs.Sets.{meaning_of}

sets_lawful : (l : Lattice) (n : ℕ) → Lawful (meaning_of l n)
sets_lawful Z n = z_lawful n
sets_lawful D n = d_lawful n
sets_lawful DWords n = construction_a_lawful (even_weight n) (even_weight_lawful n)
sets_lawful E8Glue n = e8_by_glue_lawful
sets_lawful E8Words n = e8_by_words_lawful

-- M is what was built over L, and L the words of even weight
pub over_even : (n : ℕ) (M : Meaning PointFit) (L : Meaning WordFit) → Same M (construction_a L) → SameWords L (even_weight n) → Same M (construction_a (even_weight n))
over_even n M L s t = same_trans M (construction_a L) (construction_a (even_weight n)) s (construction_a_alike L (even_weight n) t)

-- the set l is k, and M is what was built for it
pub found_in : (l k : Lattice) (n : ℕ) (M : Meaning PointFit) (rs place after : List ℤ) (q : ℕ) (r : Result ℕ Refusal) → l ≡ k → Same M (meaning_of k n) → r ≡ find_answer M rs q place → after ≡ find_place M rs q place →
    (r ≡ find_answer (meaning_of l n) rs q place) × (after ≡ find_place (meaning_of l n) rs q place) × Outcome (meaning_of l n) rs q place after r
found_in l k n M rs place after q r e s a p =
    let f = same_finds M (meaning_of k n) rs place q s in
    rw e (a ∙ f.0, p ∙ f.1, outcome_of (meaning_of k n) rs place after q r (sets_lawful k n) (a ∙ f.0) (p ∙ f.1))

-- what is found and written into a place of as many numbers is what is shown
pub finds : (M : Meaning PointFit) (rs place after xs : List ℤ) (q d : ℕ) (r : Result Nearest Failure) → length place ≡ length rs → Ok d ≡ find_answer M rs q place → after ≡ find_place M rs q place → xs ≡ after → IsPoint xs d r → Finds M rs q r
finds M rs place after xs q d r l a p e is =
    let f = found_by_length M rs place rs q d l a in
    rw (← f.0, ← f.1, ← p, ← e) is
