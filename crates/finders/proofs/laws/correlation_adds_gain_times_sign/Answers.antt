use Rattle.std.proofs.Common.{refl}
use Rattle.finders.proofs.Correlation.{correlation_push}
use Rattle.finders.proofs.laws.correlation_adds_gain_times_sign.Goals as goal

pub returns : goal.returns
returns c = record { nothing_for_no_cell = λ w. refl; one_cell_more = correlation_push }
