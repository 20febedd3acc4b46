-- The tasks, and the sets that they name.
use Rattle.std.specs.Prelude.{ℕ, cond, List, Some, None, Ok, Err, codes, Option, Result, ◌==◌}
use Rattle.std.specs.Str.{bytes_eq as same_text}
use Rattle.finders.specs.declared.refusals.Refusal.{Refusal}
use Rattle.finders.specs.declared.refusals.Refusal.TheVariants.{Width, Kind}
use Rattle.finders.specs.Meanings.{Meaning, unfit}
use Rattle.finders.specs.WordFinders.{WordFit}
use Rattle.code_layers.specs.Glue.{glued}
use Rattle.codes.specs.EvenWeight.{even_weight}
use Rattle.codes.specs.Listed.{listed}
use Rattle.codes.specs.ReedMuller.{reed_muller}
use Rattle.codes.specs.Universe.{universe}
use Rattle.codewords.specs.declared.names.Task.{Task}
use Rattle.codewords.specs.declared.names.Task.TheVariants.{Codewords, Listing as ListingOf}
use Rattle.codewords.specs.declared.words.Code.{Code}
use Rattle.codewords.specs.declared.words.Code.TheVariants.{Universe, EvenWeight, ReedMuller}
use Rattle.codewords.specs.declared.words.Listing.{Listing}
use Rattle.codewords.specs.declared.words.Listing.TheVariants.{Listed, GluedEven}

-- the task that a word names
abbrev pub named : List ℕ → Result Task Refusal
named name =
    cond (same_text name (codes "universe")) (Ok (Codewords Universe))
    (cond (same_text name (codes "even")) (Ok (Codewords EvenWeight))
    (cond (same_text name (codes "reed-muller")) (Ok (Codewords ReedMuller))
    (cond (same_text name (codes "listed")) (Ok (ListingOf Listed))
    (cond (same_text name (codes "glued-even")) (Ok (ListingOf GluedEven))
    (Err Kind)))))

-- the m of the Reed-Muller code of n cells, which is there where n is such a power of two
abbrev pub m_of : ℕ → Option ℕ
m_of n = cond (n == 2) (Some 1) (cond (n == 4) (Some 2) (cond (n == 8) (Some 3) (cond (n == 16) (Some 4) (cond (n == 32) (Some 5) None))))

abbrev pub reed_muller_of : Option ℕ → Meaning WordFit
reed_muller_of (Some m) = reed_muller m
reed_muller_of None = unfit Width

-- the words of a code, of so many cells
abbrev pub code_meaning : Code → ℕ → Meaning WordFit
code_meaning Universe n = universe n
code_meaning EvenWeight n = even_weight n
code_meaning ReedMuller n = reed_muller_of (m_of n)

-- what is made with listed words, of so many cells
abbrev pub listing_meaning : Listing → ℕ → List ℕ → Meaning WordFit
listing_meaning Listed n ws = listed n ws
listing_meaning GluedEven n ws = glued ws (even_weight n)
