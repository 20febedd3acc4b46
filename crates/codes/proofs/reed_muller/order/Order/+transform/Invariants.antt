use Rattle.codes.proofs.reed_muller.order.Order.+transform.Given as goal

abbrev pub decreases-transform : goal.decreases-transform
decreases-transform l = l.self.m
