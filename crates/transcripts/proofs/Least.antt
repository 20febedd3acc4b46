-- Whatever records come, the group that is open is one that a block can be, and each decided point has the least total.
use Rattle.std.proofs.Common.{◌≡◌, ◌≤◌, ℕ, zero, suc, nat_le, Bool, true, false, List, [], ◌∷◌, take, ℤ, pos, negsuc}
use Rattle.std.proofs.Common.{unsigned_abs, Ok, Err, Result, Option, None, Some, refl, arith, rules}
use Rattle.std.specs.List.{AllByRecursion, slice_get}
use Rattle.std.proofs.lemmas.Bool.{le-leb, leb-true}
use Rattle.finders.specs.declared.refusals.Refusal.{Refusal}
use Rattle.finders.specs.declared.refusals.Refusal.TheVariants.{Empty}
use Rattle.finders.specs.Meanings.{Meaning, checked, answered, placed}
use Rattle.finders.specs.PointFinders.{PointFit, width_of}
use Rattle.finders.specs.Points.{within}
use Rattle.blocks.specs.Senses.{Standing, count_of, largest_reading, IsLeastTotal}
use Rattle.blocks.specs.Tally.{AreSenses}
use Rattle.blocks.specs.Calls.{depth, sense_checked, after_sense, decided_point, decided_total}
use Rattle.blocks.proofs.Deciding.{least}
use Rattle.kinds.proofs.Lawful.{set_lawful}
use Rattle.records.specs.Records.{Entry, Open, Sense, Clear, Decide, Fits, IsReading}
use Rattle.transcripts.specs.Replies.{Reply, Opened, Sensed, Decided}
use Rattle.transcripts.specs.Sessions.{OpenBlock, set, opening_checked, newly_opened, answer_in, answer_to, after}
use Rattle.transcripts.specs.Transcripts.{open_from, answers_from, answers_to}
use Rattle.transcripts.specs.Comparing.{HasTheLeastTotal, EachPointHasTheLeastTotal}

-- ---- what stands in a group

pub record IsOpen (g : OpenBlock) : Type 0 where
  pub opens : opening_checked g.kind g.cells g.step ≡ Ok tt
  pub senses : AreSenses (width_of (set g)) g.stands.senses
  pub few : count_of g.stands ≤ depth (set g) g.step

abbrev pub MayBeOpen : Option OpenBlock → Type 0
MayBeOpen None = Unit {0}
MayBeOpen (Some g) = IsOpen g

small_reading : (z : ℤ) → IsReading z → unsigned_abs z ≤ largest_reading
small_reading (pos n) h = omega (arith, h)
small_reading (negsuc n) h = omega (arith, h)

small : (rs : List ℤ) → AllByRecursion IsReading rs → within largest_reading rs ≡ true
small [] h = refl
small (z ∷ rs) h = rw (le-leb (unsigned_abs z) largest_reading (small_reading z h.0)) (small rs h.1)

-- after a sense that is granted there is one more, and it has as many readings as there are cells
sense_stands : (M : Meaning PointFit) (q : ℕ) (S : Standing) (rs : List ℤ) → within largest_reading rs ≡ true →
    AreSenses (width_of M) S.senses → count_of S ≤ depth M q →
    AreSenses (width_of M) (after_sense M q S rs).senses × (count_of (after_sense M q S rs) ≤ depth M q)
sense_stands M q S rs w h few = search rules

-- what was open is kept where the opening is refused
opened_or_kept : (G : Option OpenBlock) (kind n q : ℕ) → MayBeOpen G → MayBeOpen (after G (Open kind n q))
opened_or_kept G kind n q h =
    let P : Result (Unit {0}) Refusal → Type 0 =
    λ r. opening_checked kind n q ≡ r → MayBeOpen (placed r (Some (newly_opened kind n q)) G) in
    let by_check : (r : Result (Unit {0}) Refusal) → P r =
    λ r. elim r as P [ Ok _ ↦ λ is. record { opens = is; senses = tt; few = omega arith } | Err e ↦ λ is. h ] in
    by_check (opening_checked kind n q) refl

pub open_after_record : (G : Option OpenBlock) (e : Entry) → Fits e → MayBeOpen G → MayBeOpen (after G e)
open_after_record G (Open kind n q) fits h = opened_or_kept G kind n q h
open_after_record None (Sense rs) fits h = tt
open_after_record None Clear fits h = tt
open_after_record None Decide fits h = tt
open_after_record (Some g) (Sense rs) fits h =
    let stands = sense_stands (set g) g.step g.stands rs (small rs fits.1) h.senses h.few in
    record { opens = h.opens; senses = stands.0; few = stands.1 }
open_after_record (Some g) Clear fits h = record { opens = h.opens; senses = tt; few = omega arith }
open_after_record (Some g) Decide fits h = h

-- ---- decided points

-- a group that some senses stand in may decide
pub least_in : (g : OpenBlock) → IsOpen g → 1 ≤ count_of g.stands →
    IsLeastTotal (set g) g.step g.stands.senses (decided_point (set g) g.step g.stands.senses) (decided_total (set g) g.step g.stands.senses)
least_in g h some = least (set g) g.step g.stands.senses (set_lawful g.kind g.cells)
    (record { opens = h.opens; senses = h.senses; some = some; few = h.few })

-- what is answered is the reply that was granted, and no other
pub not_answered : (c : Result (Unit {0}) Refusal) (r s : Reply) → (r ≡ s → ⊥) → answered c r ≡ Ok s → ⊥
not_answered (Ok _) r s other is = other cc
not_answered (Err e) r s other is = cc

decided_in : (g : OpenBlock) (x : List ℤ) (t : ℕ) → IsOpen g → answer_in g Decide ≡ Ok (Decided x t) →
    IsLeastTotal (set g) g.step g.stands.senses x t
decided_in g x t h =
    let senses = g.stands.senses in
    let here = decided_point (set g) g.step senses in
    let total = decided_total (set g) g.step senses in
    let P : Bool → Type 0 =
    λ b. nat_le 1 (count_of g.stands) ≡ b → answered (checked b Empty (Ok tt)) (Decided here total) ≡ Ok (Decided x t) →
    IsLeastTotal (set g) g.step senses x t in
    let by_test : (b : Bool) → P b = λ b. elim b as P [
      | true ↦ λ some is.
          let at : here ≡ x = cc in
          let same : total ≡ t = cc in
          rw (← at, ← same) (least_in g h (leb-true 1 (count_of g.stands) some))
      | false ↦ λ none is. cc
    ] in
    by_test (nat_le 1 (count_of g.stands)) refl

point_in : (G : Option OpenBlock) (e : Entry) (x : List ℤ) (t : ℕ) → MayBeOpen G → answer_to G e ≡ Ok (Decided x t) →
    HasTheLeastTotal G x t
point_in None (Open kind n q) x t h is = not_answered (opening_checked kind n q) (Opened kind n q) (Decided x t) (λ o. cc) is
point_in None (Sense rs) x t h is = cc
point_in None Clear x t h is = cc
point_in None Decide x t h is = cc
point_in (Some g) (Open kind n q) x t h is = absurd (not_answered (opening_checked kind n q) (Opened kind n q) (Decided x t) (λ o. cc) is)
point_in (Some g) (Sense rs) x t h is =
    absurd (not_answered (sense_checked (set g) g.step g.stands rs) (Sensed (suc (count_of g.stands))) (Decided x t) (λ o. cc) is)
point_in (Some g) Clear x t h is = cc
point_in (Some g) Decide x t h is = decided_in g x t h is

points_from : (G : Option OpenBlock) (es : List Entry) (i : ℕ) (x : List ℤ) (t : ℕ) → MayBeOpen G → AllByRecursion Fits es →
    slice_get (answers_from G es) i ≡ Some (Ok (Decided x t)) → HasTheLeastTotal (open_from G (take i es)) x t
points_from G [] i x t h fits is = cc
points_from G (e ∷ es) zero x t h fits is = point_in G e x t h cc
points_from G (e ∷ es) (suc i) x t h fits is =
    points_from (after G e) es i x t (open_after_record G e fits.0 h) fits.1 is

pub each_point : (es : List Entry) → AllByRecursion Fits es → EachPointHasTheLeastTotal es (answers_to es)
each_point es fits i x t is = points_from None es i x t tt fits is
