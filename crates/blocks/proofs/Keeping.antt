-- What an open block keeps of the senses that stand, call by call.
use Rattle.std.proofs.Common.{◌≡◌, ℕ, suc, ◌*◌, ◌^◌, ◌≤◌, true, List, [], take, ℤ, pos}
use Rattle.std.proofs.Common.{Some, Ok, Err, Result, OnOk, OnErr, refl, arith, rules, mul-le-mul}
use Rattle.std.proofs.Math.Logic.{∥∥₁_elim, ∥∥₁_map}
use Rattle.std.proofs.Math.Bool.{Bool-set}
use Rattle.std.proofs.Math.Bridge.{le_prop}
use Rattle.std.proofs.lemmas.List.{take-replicate}
use Rattle.finders.specs.declared.points.PointFinder.{Ghosts}
use Rattle.finders.specs.declared.refusals.Refusal.{Refusal}
use Rattle.finders.specs.Meanings.{Meaning, fit, unfit, answered}
use Rattle.finders.specs.Points.{within}
use Rattle.finders.specs.PointFinders.{PointFit, Lawful, width_of}
use Rattle.finders.proofs.Fitness.{not_err}
use Rattle.finders.proofs.Within.{within_wider}
use Rattle.blocks.specs.declared.block.Block.{Block}
use Rattle.blocks.specs.declared.tally.Tally.{Tally}
use Rattle.blocks.specs.declared.opened.Opened.{Opened}
use Rattle.blocks.specs.Senses.{sums, Standing, none_standing, one_more, count_of}
use Rattle.blocks.specs.Tally.{Tallies, TalliesNone, Adds}
use Rattle.blocks.specs.Calls.{depth, open_checked, room_checked}
use Rattle.blocks.specs.Opened.{Represents, IsClosedOrRepresents}
use Rattle.blocks.specs.Block.{meaning_of, Stands}
use Rattle.blocks.proofs.SenseSizes.{within_sums, energy_small}

-- a check that a grant has passed
pub granted : {A : Type 0} (g : Result (Unit {0}) Refusal) (x y : A) → ◌≡◌ {A = Result A Refusal} (Ok y) (answered g x) →
    g ≡ Ok tt
granted (Ok _) x y e = refl
granted (Err f) x y e = absurd (not_err e)

none_tallied : (n : ℕ) (t : Tally) → n ≤ 32 → TalliesNone t → Tallies n [] t
none_tallied n t few none = search (rules, take-replicate n 32 (pos 0) few)

pub few_wide : (M : Meaning PointFit) → Lawful M → width_of M ≤ 32
few_wide (unfit e) l = omega arith
few_wide (fit m) l = l.few_cells

-- ---- what may be opened

-- the finder has room for as many senses at the step q as stand at most
pub record Room (m : PointFit) (q : ℕ) : Type 0 where
  pub step_from_one : 1 ≤ q
  pub steps_within : depth (fit m) q * q ≤ m.step_limit
  pub sums_within : depth (fit m) q * 2 ^ 15 ≤ m.reading_limit

pub room_when_open : (m : PointFit) (q : ℕ) → open_checked (fit m) q ≡ Ok tt → Room m q
room_when_open m q opens = search rules

-- o is newly opened at the step q, over n cells, which is what opening was granted for
pub record NewlyOpened (M : Meaning PointFit) (q n : ℕ) (o : Opened) : Type 0 where
  pub lawful : Lawful M
  pub granted : Ok n ≡ answered (open_checked M q) (width_of M)
  pub step : o.step ≡ q
  pub width : o.width ≡ n
  pub none : TalliesNone o.tally

pub opened_represents : {M : Meaning PointFit} {q : ℕ} {o : Opened} (n : ℕ) → NewlyOpened M q n o →
    Represents M q none_standing o
opened_represents {M = M} {q = q} {o = o} n new =
    search (rules, none_tallied (width_of M) o.tally (few_wide M new.lawful) new.none)

-- ---- where S stands, what is kept in o is small, and a call makes of it what is kept of what then stands

-- p is o with its senses cleared
pub record Cleared (o p : Opened) : Type 0 where
  pub step : p.step ≡ o.step
  pub width : p.width ≡ o.width
  pub none : TalliesNone p.tally

-- p is what becomes of o by a sense, which is answered r
pub record Sensed (M : Meaning PointFit) (o p : Opened) (rs : List ℤ) (r : Result ℕ Refusal) : Type 0 where
  pub first_refusal : r ≡ answered (room_checked o.width (depth M o.step) o.tally.count rs) (suc o.tally.count)
  pub step : p.step ≡ o.step
  pub width : p.width ≡ o.width
  pub granted : OnOk r (Adds rs o.tally p.tally)
  pub refused : OnErr r (p ≡ o)

module _ {M : Meaning PointFit} {q : ℕ} {S : Standing} {o : Opened} (l : Lawful M) (old : Represents M q S o) where
  pub few_stand : count_of S ≤ 2 ^ 10
  few_stand = omega (arith, old.no_more_than_it_holds)

  pub small_energy : o.tally.energy ≤ 2 ^ 45
  small_energy =
      let cells : width_of M * 2 ^ 30 ≤ 2 ^ 35 = omega (arith, few_wide M l) in
      let sized = energy_small (width_of M) S.senses old.tallied.senses in
      omega (arith, old.tallied.energy, sized, mul-le-mul few_stand cells)

  small_sums : within (2 ^ 30) (take o.width o.tally.sums) ≡ true
  small_sums =
      let sized = within_sums (width_of M) S.senses old.tallied.senses in
      rw (old.as_wide, old.tallied.sums)
      (within_wider (count_of S * 2 ^ 15) (2 ^ 30) (sums (width_of M) S.senses) (omega (arith, few_stand)) sized)

  clear_represents : {p : Opened} → Cleared o p → Represents M q none_standing p
  clear_represents {p = p} cleared =
      search (rules, none_tallied (width_of M) p.tally (few_wide M l) cleared.none)

  sense_represents : {p : Opened} {rs : List ℤ} (n : ℕ) → Sensed M o p rs (Ok n) → Represents M q (one_more rs S) p
  sense_represents n sensed = search rules

-- ---- whatever senses stand

-- the block was found to hold o
pub record Holds {F : Type 0} {finds : Ghosts F} (b : Block F finds) (o : Opened) : Type 0 where
  pub lawful : Lawful (meaning_of b)
  pub is_open : b.opened ≡ Some o

module _ {F : Type 0} {finds : Ghosts F} {b : Block F finds} {o : Opened} (h : Holds b o) where
  kept : ∥ IsClosedOrRepresents (meaning_of b) (Some o) ∥₁
  kept = rw h.is_open at b.closed_or_represents

  pub of_any : {P : Type 0} → IsProp P → ((q : ℕ) (S : Standing) → Represents (meaning_of b) q S o → P) → P
  of_any {P = P} prop f = ∥∥₁_elim kept prop (λ k. f k.0 k.1 k.2)

  pub energy_kept_small : o.tally.energy ≤ 2 ^ 45
  energy_kept_small = of_any le_prop (λ q S old. small_energy h.lawful old)

  pub sums_kept_small : within (2 ^ 30) (take o.width o.tally.sums) ≡ true
  sums_kept_small = of_any (Bool-set _ _) (λ q S old. small_sums h.lawful old)

  pub sense_kept : {p : Opened} (rs : List ℤ) (r : Result ℕ Refusal) → Sensed (meaning_of b) o p rs r →
      ∥ IsClosedOrRepresents (meaning_of b) (Some p) ∥₁
  sense_kept rs (Ok n) sensed = ∥∥₁_map kept (λ k. (k.0, one_more rs k.1, sense_represents h.lawful k.2 n sensed))
  sense_kept rs (Err e) sensed = rw sensed.refused kept

  pub clear_kept : {p : Opened} → Cleared o p → ∥ IsClosedOrRepresents (meaning_of b) (Some p) ∥₁
  clear_kept cleared = ∥∥₁_map kept (λ k. (k.0, none_standing, clear_represents h.lawful k.2 cleared))

  -- o is what is kept of any S that stands
  pub represents : {q : ℕ} {S : Standing} → Stands q S b → Represents (meaning_of b) q S o
  represents s = let same : s.opened ≡ o = cc (s.is_open, h.is_open) in rw same at s.represents

  pub cleared_stands : {q : ℕ} {S : Standing} {p : Opened} → Stands q S b → Cleared o p →
      Represents (meaning_of b) q none_standing p
  cleared_stands s cleared = clear_represents h.lawful (represents s) cleared
