use Rattle.std.proofs.Common.{ap, ◌∙◌}
use Rattle.codes.specs.ReedMuller.{picked}
use Rattle.codes.proofs.reed_muller.order.Order.decode.Goals as goal

pub returns : goal.returns
returns c = c.pick.ensures ∙ ap (picked c.args.self.m) c.table-table.ensures
