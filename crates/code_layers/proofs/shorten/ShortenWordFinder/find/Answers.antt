use Rattle.std.proofs.Common.{◌≡◌, ◌∙◌, rules, length}
use Rattle.finders.specs.WordFinders.{find_answer}
use Rattle.code_layers.specs.Shorten.{shortened}
use Rattle.code_layers.proofs.Shortening.{cut, cut_by_remainder, find_shortened}
use Rattle.code_layers.proofs.shorten.ShortenWordFinder.find.Goals as goal
use Rattle.code_layers.proofs.shorten.ShortenWordFinder.find.Goals.{After-find}

cut_below : (g : _) (c : After-find g) → cut (length c.args.gains.now) c.find.result ≡ find_answer (shortened (g.F.WordFinder.meaning c.args.self.now.below)) c.args.gains.now
cut_below g c =
    rw (c.find.ensures.answers_the_pick_and_its_correlation, c.with_last.ensures)
    (find_shortened _ c.in_ok-shape.field-0 c.args.gains.now (g.met.F.WordFinder.lawful c.args.self.now.below) c.in_ok-shape.ensures.tells_the_shape c.in_ok-check_find.ensures.is_the_first_refusal)

pub returns-in_err-word : goal.returns-in_err-word
returns-in_err-word g c = let w = rw c.in_err-word.was at (cut_below g (goal.at.returns-in_err-word g c).After-find) in search rules

pub returns : goal.returns
returns g c = record {
  answers_the_pick_and_its_correlation =
      cut_by_remainder (length c.args.gains.now) c.in_ok-word.word c.in_ok-word.correlation (search rules) (search rules)
      ∙ (rw c.in_ok-word.was at (cut_below g (goal.at.returns g c).After-find));
}
