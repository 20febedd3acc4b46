-- What a table of words holds and means, or the refusal that stands in its place.
use Rattle.std.specs.Prelude.{ℕ, List, Ok, Err, Result}
use Rattle.finders.specs.declared.refusals.Refusal.{Refusal}
use Rattle.finders.specs.Lists.{words_in as list_of}
use Rattle.finders.specs.Meanings.{Meaning, fit, unfit}
use Rattle.finders.specs.WordFinders.{WordFit}
use Rattle.codes.specs.declared.listed.table.Table.{Table}
use Rattle.codes.specs.Listed.{listed_fit}

abbrev pub words_in : Table → List ℕ
words_in t = list_of t.list

abbrev pub listed_in : Result Table Refusal → Meaning WordFit
listed_in (Ok t) = fit (listed_fit t.width (words_in t))
listed_in (Err e) = unfit e
