-- Readings, senses and gains worked out by hand; readings and senses all at the step 10.
use Rattle.std.specs.Prelude.{◌≡◌, ℕ, List, [], ◌∷◌, length, replicate, ℤ, pos, negsuc, Ok}
use Rattle.std.specs.List.{AllByRecursion}
use Rattle.std.specs.List.{fold}
use Rattle.integers.specs.Nearest.{nearest}
use Rattle.integers.specs.Sums.{zeros}
use Rattle.finders.specs.Meanings.{Meaning}
use Rattle.finders.specs.PointFinders.{PointFit, find_answer, find_place}
use Rattle.finders.specs.Rounding.{turned}
use Rattle.finders.specs.WordFinders.{find_answer as find_word}
use Rattle.codes.specs.EvenWeight.{even_weight}
use Rattle.codes.specs.ReedMuller.{reed_muller}
use Rattle.code_layers.specs.Glue.{glued}
use Rattle.lattices.specs.LatticeD.{lattice_d}
use Rattle.lattice_layers.specs.E8.{e8_by_glue}
use Rattle.blocks.specs.Senses.{none_standing, count_of}
use Rattle.blocks.specs.Calls.{open_checked, after_sense, decide_answer, decide_place}

pub data Worked : Type 0 where
  -- a reading and the number that it is rounded to
  rounds : ℤ → ℤ → Worked
  -- a reading and the number that lies the other way
  turns : ℤ → ℤ → Worked
  -- readings, and the point of D and the squared distance that are found
  finds_d : List ℤ → List ℤ → ℕ → Worked
  -- the same of E8 by glue
  finds_e8_by_glue : List ℤ → List ℤ → ℕ → Worked
  -- senses in the order in which they are made, and the point and the total that a block over D decides
  decides_d : List (List ℤ) → List ℤ → ℕ → Worked
  -- gains, and the word of even weight and the correlation that are found
  finds_even : List ℤ → ℕ → ℤ → Worked
  -- m, gains, and the word of the Reed-Muller code of 2^m cells and the correlation that are found
  finds_reed_muller : ℕ → List ℤ → ℕ → ℤ → Worked
  -- glue words, gains, and what is found of the words of even weight that are glued by them
  finds_glued_even : List ℕ → List ℤ → ℕ → ℤ → Worked

abbrev pub step : ℕ
step = 10

-- the readings are answered this point at this squared distance; the place holds the readings before
abbrev pub FindsPoint : Meaning PointFit → List ℤ → List ℤ → ℕ → Type 0
FindsPoint M rs xs d = (find_answer M rs step rs ≡ Ok d) × (find_place M rs step rs ≡ xs)

-- a block opens, all these senses are granted, and this point is decided, with this total
abbrev pub DecidesPoint : Meaning PointFit → List (List ℤ) → List ℤ → ℕ → Type 0
DecidesPoint M senses xs t =
    let S = fold (after_sense M step) none_standing senses in
    (open_checked M step ≡ Ok tt) × (count_of S ≡ length senses)
    × (decide_answer M step S (length xs) ≡ Ok t) × (decide_place M step S (zeros (length xs)) ≡ xs)

-- by the definitions that the contracts of the library use
abbrev pub Holds : Worked → Type 0
Holds (rounds r x) = nearest step r ≡ x
Holds (turns r x) = turned step r ≡ x
Holds (finds_d rs xs d) = FindsPoint (lattice_d (length rs)) rs xs d
Holds (finds_e8_by_glue rs xs d) = FindsPoint e8_by_glue rs xs d
Holds (decides_d senses xs t) = DecidesPoint (lattice_d (length xs)) senses xs t
Holds (finds_even gs w c) = find_word (even_weight (length gs)) gs ≡ Ok (w, c)
Holds (finds_reed_muller m gs w c) = find_word (reed_muller m) gs ≡ Ok (w, c)
Holds (finds_glued_even ws gs w c) = find_word (glued ws (even_weight (length gs))) gs ≡ Ok (w, c)

-- negsuc n is -(n + 1)
abbrev pub worked : List Worked
worked =
    rounds (pos 15) (pos 1)
    ∷ rounds (negsuc 14) (negsuc 0)
    ∷ rounds (pos 5) (pos 0)
    ∷ rounds (pos 16) (pos 2)
    ∷ turns (pos 10) (pos 2)
    ∷ turns (negsuc 9) (negsuc 1)
    ∷ turns (pos 0) (pos 1)
    ∷ finds_d (pos 10 ∷ pos 0 ∷ pos 0 ∷ pos 0 ∷ []) (pos 2 ∷ pos 0 ∷ pos 0 ∷ pos 0 ∷ []) 100
    ∷ finds_e8_by_glue (replicate 8 (pos 5)) (replicate 8 (pos 0)) 200
    ∷ finds_e8_by_glue (replicate 8 (pos 10)) (replicate 8 (pos 1)) 0
    ∷ decides_d ((pos 15 ∷ pos 4 ∷ []) ∷ (pos 5 ∷ pos 6 ∷ []) ∷ []) (pos 1 ∷ pos 1 ∷ []) 102
    ∷ finds_even (pos 0 ∷ pos 0 ∷ negsuc 3 ∷ pos 1 ∷ []) 5 (pos 5)
    ∷ finds_reed_muller 2 (pos 1 ∷ pos 1 ∷ pos 1 ∷ negsuc 0 ∷ []) 0 (pos 2)
    ∷ finds_glued_even (1 ∷ []) (negsuc 2 ∷ pos 2 ∷ []) 1 (pos 5)
    ∷ []

abbrev pub AllHold : Type 0
AllHold = AllByRecursion Holds worked
