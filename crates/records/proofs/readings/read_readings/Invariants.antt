use Rattle.std.proofs.Common.{◌≡◌, ◌++◌, take, drop}
use Rattle.records.specs.Records.{readings_in}
use Rattle.records.proofs.readings.read_readings.Given as goal

abbrev pub invariant-loop-i : goal.invariant-loop-i
invariant-loop-i l = l.place ≡ take l.i (readings_in l.bytes) ++ drop l.i l.fn.place
