-- Listed words.
use Rattle.std.specs.Prelude.{ℕ, Bool, ◌&&◌, List, map, length, ℤ, nat_le, slice_index}
use Rattle.std.specs.List.{ContainsAt as Has}
use Rattle.finders.specs.declared.refusals.Refusal.TheVariants.{Width, WordCount, Entry}
use Rattle.finders.specs.Choice.{first_best, no_less}
use Rattle.finders.specs.Meanings.{Meaning, fit, unfit_unless}
use Rattle.finders.specs.Sizes.{in_range}
use Rattle.finders.specs.WordFinders.{WordFit}
use Rattle.finders.specs.Words.{all_fit, correlation}
use Rattle.codes.specs.Codes.{code_fit}

-- 1 to 64 words
abbrev pub few : ℕ → Bool
few k = nat_le 1 k && nat_le k 64

-- the first word with the greatest correlation
abbrev pub first_listed : List ℕ → List ℤ → ℕ
first_listed ws gs = slice_index ws (first_best no_less (map (λ w. correlation w gs) ws))

abbrev pub listed_fit : ℕ → List ℕ → WordFit
listed_fit n ws = code_fit n (Has ws) (first_listed ws)

abbrev pub listed : ℕ → List ℕ → Meaning WordFit
listed n ws =
    unfit_unless (in_range n) Width
    (unfit_unless (few (length ws)) WordCount
    (unfit_unless (all_fit n ws) Entry
    (fit (listed_fit n ws))))
