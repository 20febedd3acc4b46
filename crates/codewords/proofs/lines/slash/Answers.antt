use Rattle.std.proofs.Common.{ℕ, List, codes, ◌∙◌, rules, tests, Bor}
use Rattle.std.specs.Str.{bytes_eq as same_text}
use Rattle.std.proofs.lemmas.Iterator.{YieldsList-from_slice}
use Rattle.std.proofs.lemmas.Iterator.Search.{position_from_yields_List}
use Rattle.codewords.proofs.Slashes.{position-map}
use Rattle.codewords.proofs.lines.slash.Goals as goal

pub returns : goal.returns
returns c = record {
  is_the_first =
      position_from_yields_List (λ (w : Bor (List ℕ)). same_text w.now (codes "/")) _ _ c.position.result c.position.ensures.ran (YieldsList-from_slice c.args.words.now c.iter.ensures.rest) (λ x b q k. search (rules, tests))
      ∙ position-map (λ w. same_text w (codes "/")) (λ (w : Bor (List ℕ)). w.now) c.args.words.now;
}
