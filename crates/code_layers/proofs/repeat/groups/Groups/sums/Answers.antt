use Rattle.std.proofs.Common.{FitsSigned, w32, rules}
use Rattle.std.specs.Iterator.Adapters.{enumerate_source}
use Rattle.std.specs.Slice.Iter.{chunks_rest}
use Rattle.std.proofs.lemmas.Int.{to_z-of_z}
use Rattle.code_layers.proofs.GroupSums.{Chunk, small_group, summed_more}
use Rattle.code_layers.proofs.repeat.groups.Groups.sums.Goals as goal
use Rattle.code_layers.proofs.repeat.groups.Groups.sums.Goals.{In-Some}

chunk : (c : In-Some) → Chunk c.args.self.size (chunks_rest (enumerate_source c.loop-i.i-iterator)) c.in-Some.group.now (chunks_rest (enumerate_source c.next.new.self))
chunk c =
    let off = c.in-Some.ensures.steps.0.1 in
    record { parts = off.0; long = rw c.loop-i.invariant.2 at off.1; some = off.2 }

pub sum-requires : goal.sum-requires
sum-requires c = record { small = small_group c.loop-i.invariant.3 (chunk (goal.at.sum-requires c).In-Some) }

pub loop-i-preserved : goal.loop-i-preserved
loop-i-preserved c =
    let told = c.in-Some.ensures.steps in
    let fits : FitsSigned w32 c.sum.result = search rules in
    let more = summed_more c.loop-i.invariant.3 (chunk (goal.at.loop-i-preserved c).In-Some) c.args.self.some_cell c.args.self.few in
    (search rules, search rules, search rules, rw (to_z-of_z w32 c.sum.result fits, c.sum.ensures, told.1, told.2) more)
