use Rattle.codes.proofs.reed_muller.order.Order.+is_codeword.Given as goal

abbrev pub decreases-is_codeword : goal.decreases-is_codeword
decreases-is_codeword l = l.self.m
