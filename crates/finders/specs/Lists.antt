-- The words that a list of no more than N words holds.
use Rattle.std.specs.Prelude.{ℕ, List, take}
use Rattle.finders.specs.declared.lists.WordList.{WordList}

abbrev pub words_in : {N : ℕ} → WordList N → List ℕ
words_in l = take l.count l.words
