use Rattle.std.proofs.Common.{rules}
use Rattle.finders.specs.PointFinders.{Contains}
use Rattle.lattice_layers.specs.Scale.{scaled}
use Rattle.lattice_layers.proofs.Scaling.{contains_scaled}
use Rattle.lattice_layers.proofs.scale.ScalePointTester.contains.Goals as goal
use Rattle.lattice_layers.proofs.scale.ScalePointTester.contains.Goals.{After-contains}

as_below : (g : _) (c : After-contains g) → Contains (scaled c.args.self.now.factor (g.F.PointFinder.meaning c.args.self.now.below)) c.args.point.now c.contains.result
as_below g c = contains_scaled c.args.self.now.factor _ c.in_ok-shape.field-0 c.args.point.now c.divide.new.quotients c.contains.result (g.met.F.PointFinder.lawful c.args.self.now.below) c.in_ok-shape.ensures.tells_the_shape c.in_ok-check_test.ensures.is_the_first_refusal c.if-divide.ensures c.contains.ensures.yes_exactly_for_members

pub returns-in_err-contains : goal.returns-in_err-contains
returns-in_err-contains g c = let t = rw c.in_err-contains.was at (as_below g (goal.at.returns-in_err-contains g c).After-contains) in search rules

pub returns-in_ok-contains : goal.returns-in_ok-contains
returns-in_ok-contains g c = record { yes_exactly_for_members = rw c.in_ok-contains.was at (as_below g (goal.at.returns-in_ok-contains g c).After-contains) }
