-- A decision: what the finder is asked and answers, and why no point of its set has a smaller total.
use Rattle.std.proofs.Common.{◌≡◌, ℕ, ◌+◌, ◌-◌, ◌*◌, ◌/◌, ◌^◌, ◌<◌, ◌≤◌, List, length, take, ℤ, Ok, Err}
use Rattle.std.proofs.Common.{Result, sym, refl, ap, ◌∙◌, arith, rules, mul-le-mul, mul-le-mul_right}
use Rattle.std.proofs.Math.Bridge.{le_prop}
use Rattle.std.proofs.Math.Nat.{mul-div_cancel_left, le_of_mul-le-mul_left}
use Rattle.finders.specs.declared.points.PointFinder.{Ghosts}
use Rattle.finders.specs.declared.refusals.Refusal.{Refusal}
use Rattle.finders.specs.Meanings.{Meaning, fit, unfit}
use Rattle.finders.specs.Points.{distance}
use Rattle.finders.specs.PointFinders.{PointFit, Lawful, Asked, Member, width_of, find_answer, find_place}
use Rattle.finders.proofs.Fitness.{not_err}
use Rattle.finders.proofs.GrantedPoints.{found_at}
use Rattle.finders.proofs.PickSizes.{pick_is_near}
use Rattle.finders.proofs.Within.{within_wider}
use Rattle.blocks.specs.declared.block.Block.{Block}
use Rattle.blocks.specs.declared.opened.Opened.{Opened}
use Rattle.blocks.specs.Senses.{total, IsLeastTotal, sums, squares, energy, Standing, count_of}
use Rattle.blocks.specs.Tally.{AreSenses}
use Rattle.blocks.specs.Calls.{depth, open_checked, decided_point, decided_total, decide_answer}
use Rattle.blocks.specs.Opened.{Represents}
use Rattle.blocks.specs.Block.{meaning_of, Stands}
use Rattle.blocks.proofs.Balance.{balance, length_sums}
use Rattle.blocks.proofs.Keeping.{room_when_open, few_stand, small_energy, Holds, of_any, represents}
use Rattle.blocks.proofs.SenseSizes.{within_sums}

members_are_as_wide : (M : Meaning PointFit) (x : List ℤ) → Lawful M → Member M x → length x ≡ width_of M
members_are_as_wide (unfit e) x l i = absurd i
members_are_as_wide (fit m) x l i = l.members_are_as_wide x i

-- what senses a decision may be made of
pub record MayDecide (M : Meaning PointFit) (q : ℕ) (ss : List (List ℤ)) : Type 0 where
  pub opens : open_checked M q ≡ Ok tt
  pub senses : AreSenses (width_of M) ss
  pub some : 1 ≤ length ss
  pub few : length ss ≤ depth M q

-- the finder is asked as it should be
asked : (m : PointFit) (q : ℕ) (ss : List (List ℤ)) → MayDecide (fit m) q ss → Asked m (sums m.width ss) (length ss * q)
asked m q ss may =
    let room = room_when_open m q may.opens in
    let few_readings = mul-le-mul_right (2 ^ 15) may.few in
    let few_steps = mul-le-mul_right q may.few in
    let wide = length_sums m.width ss may.senses in
    let small = within_sums m.width ss may.senses in
    let wider = within_wider (length ss * 2 ^ 15) m.reading_limit (sums m.width ss) in
    search (rules, wider, mul-le-mul may.some room.step_from_one)

-- the squared distance of a point from the sums, and of the decided one
abbrev sum_distance : Meaning PointFit → ℕ → List (List ℤ) → List ℤ → ℕ
sum_distance M q ss x = distance (length ss * q) (sums (width_of M) ss) x

abbrev decided_distance : Meaning PointFit → ℕ → List (List ℤ) → ℕ
decided_distance M q ss = sum_distance M q ss (decided_point M q ss)

-- the decided point is a member, near to the sums, and none is nearer to them
record Nearest (M : Meaning PointFit) (q : ℕ) (ss : List (List ℤ)) : Type 0 where
  is_a_member : Member M (decided_point M q ss)
  is_near : decided_distance M q ss ≤ 2 ^ 45
  no_member_is_nearer : (y : List ℤ) → Member M y → decided_distance M q ss ≤ sum_distance M q ss y

nearest : (M : Meaning PointFit) (q : ℕ) (ss : List (List ℤ)) → Lawful M → MayDecide M q ss → Nearest M q ss
nearest (unfit e) q ss l may = absurd (not_err (sym may.opens))
nearest (fit m) q ss l may =
    let a = asked m q ss may in
    search (rules, pick_is_near m (sums m.width ss) (length ss * q) l a)

-- the balance at a member
balance_at : {M : Meaning PointFit} {q : ℕ} {ss : List (List ℤ)} (x : List ℤ) →
    Lawful M → MayDecide M q ss → Member M x →
    length ss * total q ss x + squares (sums (width_of M) ss) ≡ length ss * energy ss + sum_distance M q ss x
balance_at {M = M} {q = q} {ss = ss} x l may i = balance (width_of M) q ss x may.senses (members_are_as_wide M x l i)

-- so no member has a smaller total
pub least : (M : Meaning PointFit) (q : ℕ) (ss : List (List ℤ)) → Lawful M → MayDecide M q ss →
    IsLeastTotal M q ss (decided_point M q ss) (decided_total M q ss)
least M q ss l may =
    let near = nearest M q ss l may in
    record {
      is_a_member = near.is_a_member;
      is_its_total = refl;
      no_member_has_less = λ y i.
          let here = balance_at (decided_point M q ss) l may near.is_a_member in
          let there = balance_at y l may i in
          let times : length ss * decided_total M q ss ≤ length ss * total q ss y =
          omega (arith, here, there, near.no_member_is_nearer y i) in
          le_of_mul-le-mul_left times may.some;
    }

-- ---- what the code asks of the finder, and works out of the answer

abbrev pub finder_answer : Meaning PointFit → Opened → List ℤ → Result ℕ Refusal
finder_answer M o place = find_answer M (take o.width o.tally.sums) (o.tally.count * o.step) place

abbrev pub finder_place : Meaning PointFit → Opened → List ℤ → List ℤ
finder_place M o place = find_place M (take o.width o.tally.sums) (o.tally.count * o.step) place

found : (M : Meaning PointFit) (q : ℕ) (S : Standing) (o : Opened) (place : List ℤ) →
    Represents M q S o → MayDecide M q S.senses → length place ≡ o.width →
    (finder_answer M o place ≡ Ok (decided_distance M q S.senses)) × (finder_place M o place ≡ decided_point M q S.senses)
found (unfit e) q S o place h may w = absurd (not_err (sym may.opens))
found (fit m) q S o place h may w =
    rw (h.as_wide, h.tallied.sums, h.tallied.count, h.at_the_step)
    (found_at m (sums m.width S.senses) place (count_of S * q) (asked m q S.senses may) (w ∙ h.as_wide))

-- the block holds o, where a sense stands, and is asked to decide into a place that fits
pub record Asks {F : Type 0} {finds : Ghosts F} (b : Block F finds) (o : Opened) (place : List ℤ) : Type 0 where
  pub holds : Holds b o
  pub fits : length place ≡ o.width
  pub some : 1 ≤ o.tally.count

module _ {F : Type 0} {finds : Ghosts F} {b : Block F finds} {o : Opened} {place : List ℤ} (asks : Asks b o place) where
  may_decide : {q : ℕ} {S : Standing} → Represents (meaning_of b) q S o → MayDecide (meaning_of b) q S.senses
  may_decide h = search rules

  found_here : {q : ℕ} {S : Standing} → Represents (meaning_of b) q S o →
      (finder_answer (meaning_of b) o place ≡ Ok (decided_distance (meaning_of b) q S.senses)) ×
      (finder_place (meaning_of b) o place ≡ decided_point (meaning_of b) q S.senses)
  found_here {q = q} {S = S} h = found (meaning_of b) q S o place h (may_decide h) asks.fits

  -- the finder refuses nothing that a block asks of it
  pub never_refused : (e : Refusal) → Err e ≡ finder_answer (meaning_of b) o place → ⊥
  never_refused e told = of_any asks.holds (λ x y. absurd x) (λ q S h. not_err (sym (told ∙ (found_here h).0)))

-- and the finder has answered the distance d, and written the place
pub record Finds {F : Type 0} {finds : Ghosts F} (b : Block F finds) (o : Opened) (before after : List ℤ) (d : ℕ)
    : Type 0 where
  pub asks : Asks b o before
  pub answered : Ok d ≡ finder_answer (meaning_of b) o before
  pub written : after ≡ finder_place (meaning_of b) o before

module _ {F : Type 0} {finds : Ghosts F} {b : Block F finds} {o : Opened} {before after : List ℤ} {d : ℕ}
    (got : Finds b o before after d) where
  -- the count times the energy, and the distance; and the squares of the sums, which are taken from it
  abbrev all : ℕ
  all = o.tally.count * o.tally.energy + d

  abbrev squared_sums : ℕ
  squared_sums = squares (take o.width o.tally.sums)

  module _ {q : ℕ} {S : Standing} (h : Represents (meaning_of b) q S o) where
    distance_is : d ≡ decided_distance (meaning_of b) q S.senses
    distance_is =
        let e = got.answered ∙ (found_here got.asks h).0 in
        cc

    may : MayDecide (meaning_of b) q S.senses
    may = may_decide got.asks h

    near : Nearest (meaning_of b) q S.senses
    near = nearest (meaning_of b) q S.senses got.asks.holds.lawful may

    balanced : o.tally.count * decided_total (meaning_of b) q S.senses + squared_sums ≡ all
    balanced =
        let point = decided_point (meaning_of b) q S.senses in
        rw (h.as_wide, h.tallied.count, h.tallied.sums, h.tallied.energy, distance_is)
        (balance_at point got.asks.holds.lawful may near.is_a_member)

  -- the numbers of the total fit
  pub fits : all < 2 ^ 64
  fits = of_any got.asks.holds le_prop (λ q S h.
      let few : o.tally.count ≤ 2 ^ 10 = omega (arith, h.tallied.count, few_stand got.asks.holds.lawful h) in
      omega (arith, distance_is h, (near h).is_near, mul-le-mul few (small_energy got.asks.holds.lawful h)))

  pub covers_the_squares : squared_sums ≤ all
  covers_the_squares = of_any got.asks.holds le_prop (λ q S h. omega (arith, balanced h))

  -- where S stands, the total t is that of the decided point, which is what is written
  module _ {q : ℕ} {S : Standing} (stands : Stands q S b) {t : ℕ}
      (is : t ≡ (all - squared_sums) / o.tally.count) where
    kept : Represents (meaning_of b) q S o
    kept = represents got.asks.holds stands

    total_is : t ≡ decided_total (meaning_of b) q S.senses
    total_is =
        let t = decided_total (meaning_of b) q S.senses in
        let times : all - squared_sums ≡ o.tally.count * t = omega (arith, balanced kept) in
        is ∙ ap (λ (n : ℕ). n / o.tally.count) times ∙ mul-div_cancel_left t got.asks.some

    pub total_decided : Ok t ≡ decide_answer (meaning_of b) q S (length before)
    total_decided = let is = total_is in search rules

    pub least_decided : IsLeastTotal (meaning_of b) q S.senses after t
    least_decided =
        rw (got.written ∙ (found_here got.asks kept).1, total_is)
        (least (meaning_of b) q S.senses got.asks.holds.lawful (may kept))
