use Rattle.std.proofs.Common.{arith}
use Rattle.std.proofs.lemmas.Int.{ints}
use Rattle.codes.specs.EvenWeightLaws.{weakest_small, repaired_pick}
use Rattle.codes.specs.SignLaws.{correlation_signs}
use Rattle.codes.proofs.even_weight.even_signs.Goals as goal

pub returns-in-Some : goal.returns-in-Some
returns-in-Some c =
    let gs = c.args.gains.all.now in
    let told = c.in-Some.ensures in
    let size = weakest_small gs c.in-Some.i c.in-Some.field-0-1.0 c.args.gains.small told.1 told.2 in
    repaired_pick gs c.in-Some.i c.in-Some.field-0-1.0 c.args.gains.few told.1 told.0 c.signs-word.result.0 c.signs-word.result.1 _ c.signs-word.ensures.word c.signs-word.ensures.correlation c.if-has_even_weight.ensures told.2
    (omega (arith, ints, size, c.signs-word.ensures.correlation, correlation_signs gs))
