use Rattle.lattices.specs.DLaws.{pick_is_even}
use Rattle.lattices.proofs.laws.pick_of_d_has_an_even_sum.Goals as goal

pub returns : goal.returns
returns c = record { even_sum = pick_is_even }
