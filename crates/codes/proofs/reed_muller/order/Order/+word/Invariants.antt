use Rattle.codes.proofs.reed_muller.order.Order.+word.Given as goal

abbrev pub decreases-word : goal.decreases-word
decreases-word l = l.self.m
