use Rattle.std.proofs.Common.{◌≡◌}
use Rattle.std.specs.Iterator.Adapters.{enumerate_source, enumerate_count}
use Rattle.std.specs.Slice.Iter.{chunks_rest, chunks_size}
use Rattle.code_layers.proofs.GroupSums.{Summed}
use Rattle.code_layers.proofs.repeat.groups.Groups.sums.Given as goal

abbrev pub invariant-loop-i : goal.invariant-loop-i
invariant-loop-i l =
    (goal.iterator-loop-i).can_next l.i-iterator × (goal.iterator-loop-i).is_finite l.i-iterator × (chunks_size (enumerate_source l.i-iterator) ≡ l.fn.self.size)
    × Summed l.fn.self.size l.fn.self.count l.gains l.sums (enumerate_count l.i-iterator) (chunks_rest (enumerate_source l.i-iterator))
