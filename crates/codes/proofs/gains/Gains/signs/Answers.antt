use Rattle.std.proofs.Common.{◌≡◌, ◌*◌, ◌%◌, ◌^◌, ◌∙◌, fold, reverse, rules}
use lib.Bits.{bit_or}
use Rattle.codes.specs.Universe.{sign}
use Rattle.codes.proofs.SignSteps.{pushed}
use Rattle.codes.proofs.gains.Gains.signs.Goals as goal

pub returns-clause-word : goal.returns-clause-word
returns-clause-word c =
    let shifted : c.fold-word.result ≡ fold (λ w g. bit_or ((w * 2) % 2 ^ 32) (sign g)) 0 (reverse c.args.self.all.now) = search rules in
    shifted ∙ pushed c.args.self.all.now c.args.self.few
