use Rattle.lattice_layers.proofs.WordsBelow.{not_refused}
use Rattle.lattice_layers.proofs.construction_a.ConstructionAPointFinder.find.Goals as goal
use Rattle.lattice_layers.proofs.construction_a.ConstructionAPointFinder.find.Goals.{In_err-word}

never : (g : _) → In_err-word g → ⊥
never g c =
    not_refused _ c.in_ok-shape.field-0 c.args.readings.now _ c.args.step _ _ (g.met.F.WordFinder.lawful c.args.self.now.below) c.in_ok-shape.ensures.tells_the_shape c.in_ok-check_find.ensures.is_the_first_refusal
    c.round_even-gains.ensures.gains c.in_err-word.ensures.answers_the_pick_and_its_correlation

pub returns-in_err-word-clause-answers_the_distance : goal.returns-in_err-word-clause-answers_the_distance
returns-in_err-word-clause-answers_the_distance g c = absurd (never g (goal.at.returns-in_err-word-clause-answers_the_distance g c).In_err-word)

pub returns-in_err-word-clause-writes_the_pick : goal.returns-in_err-word-clause-writes_the_pick
returns-in_err-word-clause-writes_the_pick g c = absurd (never g (goal.at.returns-in_err-word-clause-writes_the_pick g c).In_err-word)
