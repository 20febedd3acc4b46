use Rattle.code_layers.specs.RepeatLaws.{repeated_alike}
use Rattle.code_layers.specs.GlueLaws.{glued_alike}
use Rattle.code_layers.specs.ShortenLaws.{shortened_alike}
use Rattle.code_layers.proofs.laws.layers_over_the_same_mean_the_same.Goals as goal

pub returns : goal.returns
returns g c = record { repeated = λ a. repeated_alike a _ _; glued = λ ws. glued_alike ws _ _; shortened = shortened_alike _ _ }
