use Rattle.std.proofs.Common.{◌≡◌, ◌+◌, ◌-◌, ◌*◌, ◌%◌, ◌^◌, ◌∙◌, arith, rules, pow_pos}
use Rattle.std.proofs.lemmas.Iterator.Consumers.{fold_from_yields_List}
use Rattle.std.proofs.lemmas.Nat.{one_shl}
use Rattle.code_layers.specs.Repeat.{repeated}
use Rattle.code_layers.proofs.CountingDown.{YieldsList-from_rev_range}
use Rattle.code_layers.proofs.GroupDigits.{size_few, spreads, spread, repeated_fits}
use Rattle.code_layers.proofs.repeat.groups.Groups.repeated.Goals as goal
use Rattle.code_layers.proofs.repeat.groups.Groups.repeated.Goals.{After-fold-all}

all_is : (c : After-fold-all) → c.fold-all.result ≡ repeated c.args.self.size c.args.self.count c.args.word
all_is c =
    let s = c.args.self in
    let ones = (1 * 2 ^ s.size) % 2 ^ 64 - 1 in
    let e : ones + 1 ≡ 2 ^ s.size = omega (arith, one_shl s.size 64 (omega (arith, size_few s.size s.count s.some_group s.few)), pow_pos s.size) in
    fold_from_yields_List _ (spreads s.size ones e c.args.word) 0 c.fold-all.result c.fold-all.ensures.ran (YieldsList-from_rev_range s.count c.rev.ensures.source) (λ a x b q k. search rules)
    ∙ spread s.size ones e s.count c.args.word s.few

pub overflow_cast-result : goal.overflow_cast-result
overflow_cast-result c = omega (arith, all_is c, repeated_fits c.args.self.size c.args.self.count c.args.word c.args.self.few)

pub returns : goal.returns
returns c = all_is (goal.at.returns c).After-fold-all
