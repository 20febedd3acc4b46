use Rattle.std.proofs.Common.{◌∙◌}
use Rattle.std.proofs.lemmas.Bool.{le-ltb}
use Rattle.finders.proofs.Digits.{beyond_some, beyond_all}
use Rattle.finders.proofs.checks.has_digit_beyond.Goals as goal

pub returns-then-width-lt-MOST_CELLS : goal.returns-then-width-lt-MOST_CELLS
returns-then-width-lt-MOST_CELLS c = record { tells_whether_a_digit_is_beyond = beyond_some c.args.word c.args.width }

pub returns-else-width-lt-MOST_CELLS : goal.returns-else-width-lt-MOST_CELLS
returns-else-width-lt-MOST_CELLS c = record { tells_whether_a_digit_is_beyond = le-ltb c.args.width 32 c.if-width-lt-MOST_CELLS.false ∙ beyond_all c.args.word c.args.width c.if-width-lt-MOST_CELLS.false c.ranges.word.fits }
