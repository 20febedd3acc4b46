-- The names of the tasks.
use Rattle.std.specs.Prelude.{ℕ, List, Ok, Err, Result}
use Rattle.finders.specs.declared.refusals.Refusal.{Refusal}
use Rattle.codewords.specs.declared.names.Task.{Task as WordTask}
use Rattle.codewords.specs.Sets.{named as named_code}
use Rattle.nearest.specs.declared.names.Task.{Task}
use Rattle.nearest.specs.declared.names.Task.TheVariants.{Points, Words}
use Rattle.nearest.specs.declared.sets.Lattice.{Lattice}
use Rattle.nearest.specs.Sets.{named as named_lattice}

-- the task of a name that names the lattice or the code; a lattice goes first
abbrev pub task_of : Result Lattice Refusal → Result WordTask Refusal → Result Task Refusal
task_of (Ok l) k = Ok (Points l)
task_of (Err _) (Ok k) = Ok (Words k)
task_of (Err _) (Err e) = Err e

abbrev pub named : List ℕ → Result Task Refusal
named name = task_of (named_lattice name) (named_code name)
