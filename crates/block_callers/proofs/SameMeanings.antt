-- Two callers' finders mean the same as definitions do: what that makes of their contracts.
use Rattle.std.proofs.Common.{◌≡◌, ℕ, List, ℤ, refl}
use Rattle.finders.specs.Meanings.{Meaning, answered}
use Rattle.finders.specs.PointFinders.{PointFit, Same}
use Rattle.finders.specs.WordFinders.{WordFit, Same as SameWords}
use Rattle.codes.specs.EvenWeight.{even_weight}
use Rattle.lattices.specs.LatticeD.{lattice_d}
use Rattle.lattice_layers.specs.ConstructionA.{construction_a}
use Rattle.lattice_layers.specs.ConstructionALaws.{construction_a_alike}
use Rattle.blocks.specs.Calls.{decided_total}
use Rattle.blocks.specs.declared.calls.Call.{Call}
use Rattle.blocks.specs.Runs.{crosscheck_checked}
use Rattle.blocks.proofs.SameMeanings.{same_open, same_width, same_decided}
use Rattle.block_callers.specs.Callers.{calls_checked}

-- the calls of the one are answered as those of the other are
pub answered_as_the_same : (M N : Meaning PointFit) (q : ℕ) (ls ss : List (List ℤ)) → Same M N →
    answered (calls_checked M q ls) (decided_total M q ss) ≡ answered (calls_checked N q ls) (decided_total N q ss)
answered_as_the_same M N q ls ss s = rw (same_open M N s q, same_width M N s, same_decided M N s q ss) refl

-- D, and the points whose parities form a word of even weight: what their crosscheck is refused for
pub two_ways_refused_alike : (n : ℕ) (M N : Meaning PointFit) (W : Meaning WordFit) (q : ℕ) (cs : List Call) (a b : ℕ) →
    Same M (lattice_d n) → SameWords W (even_weight n) → Same N (construction_a W) →
    crosscheck_checked M N q cs a b ≡ crosscheck_checked (lattice_d n) (construction_a (even_weight n)) q cs a b
two_ways_refused_alike n M N W q cs a b d w c =
    let other = same_open (construction_a W) (construction_a (even_weight n)) (construction_a_alike W (even_weight n) w) q in
    rw (same_open M (lattice_d n) d q, same_open N (construction_a W) c q, other) refl
