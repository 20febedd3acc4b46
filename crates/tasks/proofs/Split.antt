-- The words that `split_whitespace` gives.
use Rattle.std.proofs.Common.{◌≡◌, ℕ, List, [], ◌∷◌, Bor}
use Rattle.std.specs.Char.{is_not_whitespace}
use Rattle.std.specs.Iterator.{Yields, DrainsIf}
use Rattle.std.specs.Str.{NoCharPasses}
use Rattle.std.specs.Str.Iter.{split_whitespace_steps, split_whitespace_rest}
use Rattle.tasks.specs.Lines.{texts, Words}

given : (s t : _) (xs : List (Bor (List ℕ))) → Yields split_whitespace_steps s xs t → NoCharPasses is_not_whitespace (split_whitespace_rest t) → Words (split_whitespace_rest s) (texts xs)
given s t [] e none = rw e none
given s t (x ∷ xs) (next, cut, more) none = (split_whitespace_rest next, record { gap = cut.0; cut = cut.1; some = cut.2; blank = cut.3; solid = cut.4; ends = cut.5 }, given next t xs more none)

pub words_given : (s : _) (line : List ℕ) (items xs : List (Bor (List ℕ))) → split_whitespace_rest s ≡ line → DrainsIf split_whitespace_steps (Unit {0}) s xs → items ≡ xs → Words line (texts items)
words_given s line items xs e d i = rw (← e, i) (given s d.0 xs d.1 (d.2 tt).1.1)
