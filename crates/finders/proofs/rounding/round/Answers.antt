use Rattle.std.proofs.Common.{sym, ℕ, ◌≤◌, max, ℤ, pos, ◌+ℤ◌, ◌-ℤ◌, ◌*ℤ◌, neg_ℤ, ◌≤ℤ◌, ◌<ℤ◌, arith, w32, w64, SFits, rules}
use Rattle.std.proofs.lemmas.Int.{ints, to_z-of_z}
use Rattle.finders.proofs.RoundingBits.{wide, Owed, delivered}
use Rattle.finders.proofs.RoundingLaws.{rounds_up, rounds_down, rounds_off}
use Rattle.finders.proofs.rounding.round.Goals as goal
use Rattle.finders.proofs.rounding.round.Goals.{Then-residue-step, Then-residue-step-2, Else-residue-step-2}

-- what is owed of the number X and the residue Y of 64 bits, which fit 32
abbrev FitsAndOwed : ℕ → ℤ → ℤ → ℤ → Type 0
FitsAndOwed s r X Y = SFits w32 (wide X) × SFits w32 (wide Y) × Owed (max s 1) r (wide X) (wide Y)

up : (c : Then-residue-step) → FitsAndOwed c.args.step c.args.reading (wide c.divide-number.result.0 +ℤ pos 1) (wide c.divide-number.result.1 -ℤ wide c.from-step.result)
up c =
    let some : 1 ≤ c.max-step.result = omega arith in
    let d = c.divide-number.ensures in
    let half : pos c.max-step.result <ℤ (pos 2 *ℤ c.divide-number.result.1) = omega (arith, ints, c.if-residue-step.true, d.remainder_is_small) in
    delivered (max c.args.step 1) c.max-step.result c.args.reading _ _ _ _ c.max-step.ensures some c.max-step.type_inv c.ranges.reading
    (rounds_up c.max-step.result _ _ _ some d half) (omega (arith, ints, d.quotient_is_small)) (omega (arith, ints, d.remainder_is_small))

down : (c : Then-residue-step-2) → FitsAndOwed c.args.step c.args.reading (wide c.divide-number.result.0 -ℤ pos 1) (wide c.divide-number.result.1 +ℤ wide c.from-step.result)
down c =
    let some : 1 ≤ c.max-step.result = omega arith in
    let d = c.divide-number.ensures in
    let half : (pos 2 *ℤ c.divide-number.result.1) <ℤ neg_ℤ (pos c.max-step.result) = omega (arith, ints, c.if-residue-step-2.true, d.remainder_is_small) in
    delivered (max c.args.step 1) c.max-step.result c.args.reading _ _ _ _ c.max-step.ensures some c.max-step.type_inv c.ranges.reading
    (rounds_down c.max-step.result _ _ _ some d half) (omega (arith, ints, d.quotient_is_small)) (omega (arith, ints, d.remainder_is_small))

off : (c : Else-residue-step-2) → FitsAndOwed c.args.step c.args.reading c.divide-number.result.0 c.divide-number.result.1
off c =
    let some : 1 ≤ c.max-step.result = omega arith in
    let d = c.divide-number.ensures in
    let whole : SFits w64 c.divide-number.result.0 = search rules in
    let rest : SFits w64 c.divide-number.result.1 = search rules in
    let top : (pos 2 *ℤ c.divide-number.result.1) ≤ℤ pos c.max-step.result = omega (arith, ints, c.if-residue-step.false, d.remainder_is_small) in
    let bottom : neg_ℤ (pos c.max-step.result) ≤ℤ (pos 2 *ℤ c.divide-number.result.1) = omega (arith, ints, c.if-residue-step-2.false, d.remainder_is_small) in
    delivered (max c.args.step 1) c.max-step.result c.args.reading _ _ _ _ c.max-step.ensures some c.max-step.type_inv c.ranges.reading
    (rounds_off c.max-step.result _ _ _ some d top bottom) (to_z-of_z w64 _ whole) (to_z-of_z w64 _ rest)

pub of-requires-clause-number_fits : goal.of-requires-clause-number_fits
of-requires-clause-number_fits c = (up c).0

pub of-requires-then-residue-step-2-clause-number_fits : goal.of-requires-then-residue-step-2-clause-number_fits
of-requires-then-residue-step-2-clause-number_fits c = (down c).0

pub of-requires-then-residue-step-2-clause-residue_fits : goal.of-requires-then-residue-step-2-clause-residue_fits
of-requires-then-residue-step-2-clause-residue_fits c = (down c).1

pub of-requires-else-residue-step-2-clause-residue_fits : goal.of-requires-else-residue-step-2-clause-residue_fits
of-requires-else-residue-step-2-clause-residue_fits c = (off c).1

pub returns-then-residue-step : goal.returns-then-residue-step
returns-then-residue-step c = let o = (rw (sym c.of.ensures.number, sym c.of.ensures.residue) at (up (goal.at.returns-then-residue-step c).Then-residue-step).2) in record { is_the_nearest_number = o.number; leaves_the_residue = o.leaves; no_number_is_nearer = o.no_nearer; a_tie_goes_towards_zero = o.towards_zero }

pub returns-then-residue-step-2 : goal.returns-then-residue-step-2
returns-then-residue-step-2 c = let o = (rw (sym c.of-then-residue-step-2.ensures.number, sym c.of-then-residue-step-2.ensures.residue) at (down (goal.at.returns-then-residue-step-2 c).Then-residue-step-2).2) in record { is_the_nearest_number = o.number; leaves_the_residue = o.leaves; no_number_is_nearer = o.no_nearer; a_tie_goes_towards_zero = o.towards_zero }

pub returns-else-residue-step-2 : goal.returns-else-residue-step-2
returns-else-residue-step-2 c = let o = (rw (sym c.of-else-residue-step-2.ensures.number, sym c.of-else-residue-step-2.ensures.residue) at (off (goal.at.returns-else-residue-step-2 c).Else-residue-step-2).2) in record { is_the_nearest_number = o.number; leaves_the_residue = o.leaves; no_number_is_nearer = o.no_nearer; a_tie_goes_towards_zero = o.towards_zero }
