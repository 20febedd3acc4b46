use Rattle.finders.specs.PointFinders.{Contains}
use Rattle.finders.specs.declared.refusals.Refusal.{Refusal}
use Rattle.std.proofs.Common.{Err}
use Rattle.lattice_layers.proofs.Joining.{parts_told}
use Rattle.lattice_layers.proofs.join.JoinPointTester.contains.Goals as goal
use Rattle.lattice_layers.proofs.join.JoinPointTester.contains.Goals.{After-split_at}

told : (g : _) (c : After-split_at g) (e : Refusal) →
    (Contains (g.F.PointFinder.meaning c.args.self.now.first) c.split_at.result.0.now (Err e) → ⊥)
    × (Contains (g.G.PointFinder.meaning c.args.self.now.second) c.split_at.result.1.now (Err e) → ⊥)
told g c e =
    rw (c.split_at.ensures.front, c.split_at.ensures.back, c.in_ok-shape.ensures.1)
    (parts_told _ _ c.in_ok-shape.shape c.args.point.now e (g.met.F.PointFinder.lawful c.args.self.now.first) (g.met.G.PointFinder.lawful c.args.self.now.second) c.in_ok-shape.ensures.0 c.in_ok-check_test.ensures.is_the_first_refusal)

pub returns-in_err-contains : goal.returns-in_err-contains
returns-in_err-contains g c = absurd ((told g (goal.at.returns-in_err-contains g c).After-split_at _).0 c.in_err-contains.ensures.yes_exactly_for_members)

pub returns-in_err-contains-2 : goal.returns-in_err-contains-2
returns-in_err-contains-2 g c = absurd ((told g (goal.at.returns-in_err-contains-2 g c).After-split_at _).1 c.in_err-contains-2.ensures.yes_exactly_for_members)
