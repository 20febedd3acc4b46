use Rattle.std.proofs.Common.{rules}
use Rattle.blocks.proofs.Deciding.{Asks, never_refused, Finds, fits, covers_the_squares, total_decided, least_decided}
use Rattle.blocks.proofs.block.Block.decide.Goals as goal
use Rattle.blocks.proofs.block.Block.decide.Goals.{In_ok-distance}

refused : (g : _) (c : goal.After-from_residual g) → ⊥
refused g c =
    let asks : Asks c.args.self.now c.in-Some.opened c.args.place.now = search rules in
    never_refused asks _ c.in_err-distance.ensures.answers_the_distance

pub returns-in_err-distance-clause-answers_the_total :
    goal.returns-in_err-distance-clause-answers_the_total
returns-in_err-distance-clause-answers_the_total g c = absurd (refused g c)

pub returns-in_err-distance-clause-writes_the_point :
    goal.returns-in_err-distance-clause-writes_the_point
returns-in_err-distance-clause-writes_the_point g c = absurd (refused g c)

pub returns-in_err-distance-clause-has_the_least_total :
    goal.returns-in_err-distance-clause-has_the_least_total
returns-in_err-distance-clause-has_the_least_total g c = absurd (refused g c)

found : (g : _) (c : In_ok-distance g) →
    Finds c.args.self.now c.in-Some.opened c.args.place.now c.find.new.place c.in_ok-distance.distance
found g c = search rules

pub total-requires-clause-fits : goal.total-requires-clause-fits
total-requires-clause-fits g c = fits (found g c)

pub total-requires-clause-covers_the_squares :
    goal.total-requires-clause-covers_the_squares
total-requires-clause-covers_the_squares g c = covers_the_squares (found g c)

pub returns-clause-answers_the_total : goal.returns-clause-answers_the_total
returns-clause-answers_the_total g c =
    let found_it = found g (goal.at.returns-clause-answers_the_total g c).In_ok-distance in
    λ q S s. total_decided found_it s c.total.ensures

pub returns-clause-has_the_least_total : goal.returns-clause-has_the_least_total
returns-clause-has_the_least_total g c =
    let found_it = found g (goal.at.returns-clause-has_the_least_total g c).In_ok-distance in
    λ q S s. least_decided found_it s c.total.ensures
