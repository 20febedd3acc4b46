-- What is open and what stands, by the records in a few words.
use Rattle.std.proofs.Common.{zero, suc, nat_le, slice_get, IsErr, Result}
use Rattle.std.proofs.Common.{◌≡◌, cond, ◌==◌, ◌≤◌, ℕ, length, List, [], ◌∷◌, ◌++◌, ℤ, take, reverse, Ok, Err, Option}
use Rattle.std.proofs.Common.{None, Some, refl, sym, ap, ◌∙◌, arith}
use Rattle.std.proofs.lemmas.List.{append-nil}
use Rattle.finders.specs.declared.refusals.Refusal.{Refusal}
use Rattle.finders.specs.declared.refusals.Refusal.TheVariants.{Empty}
use Rattle.finders.specs.Meanings.{fitness_of, placed, answered, checked}
use Rattle.finders.specs.PointFinders.{width_of}
use Rattle.blocks.specs.Senses.{Standing, none_standing, count_of, one_more}
use Rattle.blocks.specs.Calls.{depth, after_sense, sense_checked}
use Rattle.blocks.proofs.CallLists.{topped, topped_by_sense, few_after_sense, none_on_top}
use Rattle.kinds.proofs.Widths.{as_many_cells}
use Rattle.records.specs.Records.{Entry, Open, Sense, Clear, Decide}
use Rattle.transcripts.specs.Replies.{Opened, Sensed, Cleared, Decided}
use Rattle.transcripts.specs.Sessions.{OpenBlock, set, opening_checked, newly_opened, with_standing, after, answer_to}
use Rattle.transcripts.specs.Transcripts.{open_from, open_after, answers_from, answers_to}
use Rattle.transcripts.specs.Openings.{AreSensesAndDecides, senses_of_cells, EachOpenIsRefused, SoManyStand}
use Rattle.transcripts.proofs.Least.{not_answered}

open_append : (G : Option OpenBlock) (es fs : List Entry) → open_from G (es ++ fs) ≡ open_from (open_from G es) fs
open_append G [] fs = refl
open_append G (e ∷ es) fs = open_append (after G e) es fs

pub granted_open : (es fs : List Entry) (k n q : ℕ) → opening_checked k n q ≡ Ok tt →
    open_after (es ++ Open k n q ∷ fs) ≡ open_from (Some (newly_opened k n q)) fs
granted_open es fs k n q is =
    open_append None es (Open k n q ∷ fs)
    ∙ ap (λ c. open_from (placed c (Some (newly_opened k n q)) (open_after es)) fs) is

pub refused_open : (es fs : List Entry) (k n q : ℕ) (e : Refusal) → opening_checked k n q ≡ Err e →
    open_after (es ++ Open k n q ∷ fs) ≡ open_after (es ++ fs)
refused_open es fs k n q e is =
    open_append None es (Open k n q ∷ fs)
    ∙ ap (λ c. open_from (placed c (Some (newly_opened k n q)) (open_after es)) fs) is
    ∙ sym (open_append None es fs)

-- the group g, with these senses
abbrev holding : OpenBlock → List (List ℤ) → Option OpenBlock
holding g ss = Some (with_standing g (record { senses = ss }))

stands_on_top : (g : OpenBlock) (S : Standing) (es : List Entry) → AreSensesAndDecides es → width_of (set g) ≡ g.cells →
    count_of S ≤ depth (set g) g.step →
    open_from (Some (with_standing g S)) es ≡ holding g (topped (set g) g.step S.senses (senses_of_cells g.cells es))
stands_on_top g S [] h wide few = ap (holding g) (sym (none_on_top (set g) g.step S.senses))
stands_on_top g S (Sense rs ∷ es) h wide few =
    let fit = senses_of_cells g.cells es in
    let top : List (List ℤ) → List (List ℤ) = topped (set g) g.step S.senses in
    stands_on_top g (after_sense (set g) g.step S rs) es h wide (few_after_sense (set g) g.step S rs few)
    ∙ ap (holding g) (topped_by_sense (set g) g.step S rs fit few
    ∙ ap (λ (n : ℕ). top (cond (length rs == n) (rs ∷ fit) fit)) wide)
stands_on_top g S (Decide ∷ es) h wide few = stands_on_top g S es h wide few
stands_on_top g S (Clear ∷ es) h wide few = absurd h
stands_on_top g S (Open k n q ∷ es) h wide few = absurd h

pub first_stand : (g : OpenBlock) (es : List Entry) → AreSensesAndDecides es → fitness_of (set g) ≡ Ok tt →
    open_from (Some (with_standing g none_standing)) es ≡ holding g (reverse (take (depth (set g) g.step) (senses_of_cells g.cells es)))
first_stand g es h is =
    stands_on_top g none_standing es h (as_many_cells g.kind g.cells is) (omega arith) ∙ ap (holding g) (append-nil _)

pub cleared : (g : OpenBlock) (es fs : List Entry) → AreSensesAndDecides es →
    open_from (Some g) (es ++ Clear ∷ fs) ≡ open_from (Some (with_standing g none_standing)) fs
cleared g [] fs h = refl
cleared g (Sense rs ∷ es) fs h = cleared (with_standing g (after_sense (set g) g.step g.stands rs)) es fs h
cleared g (Decide ∷ es) fs h = cleared g es fs h
cleared g (Clear ∷ es) fs h = absurd h
cleared g (Open k n q ∷ es) fs h = absurd h

-- ---- before the first granted open

refused_leaves : (c : Result (Unit {0}) Refusal) (new : Option OpenBlock) → IsErr c → placed c new None ≡ None
refused_leaves (Ok _) new h = cc
refused_leaves (Err e) new h = refl

pub none_open : (es : List Entry) → EachOpenIsRefused es → open_after es ≡ None
none_open [] h = refl
none_open (Open k n q ∷ es) h =
    ap (λ G. open_from G es) (refused_leaves (opening_checked k n q) (Some (newly_opened k n q)) h.0) ∙ none_open es h.1
none_open (Sense rs ∷ es) h = none_open es h
none_open (Clear ∷ es) h = none_open es h
none_open (Decide ∷ es) h = none_open es h

-- ---- how many stand

-- what a granted sense tells
sensed_by : (c : Result (Unit {0}) Refusal) (S T : Standing) (n m : ℕ) → count_of T ≡ n →
    answered c (Sensed n) ≡ Ok (Sensed m) → count_of (placed c T S) ≡ m
sensed_by (Ok _) S T n m is h = let same : n ≡ m = cc in is ∙ same
sensed_by (Err e) S T n m is h = cc

sensed_in : (G : Option OpenBlock) (e : Entry) (m : ℕ) → answer_to G e ≡ Ok (Sensed m) → SoManyStand m (after G e)
sensed_in None (Open k n q) m is = absurd (not_answered (opening_checked k n q) (Opened k n q) (Sensed m) (λ o. cc) is)
sensed_in None (Sense rs) m is = cc
sensed_in None Clear m is = cc
sensed_in None Decide m is = cc
sensed_in (Some g) (Open k n q) m is = absurd (not_answered (opening_checked k n q) (Opened k n q) (Sensed m) (λ o. cc) is)
sensed_in (Some g) (Sense rs) m is =
    sensed_by (sense_checked (set g) g.step g.stands rs) g.stands (one_more rs g.stands) (suc (count_of g.stands)) m refl is
sensed_in (Some g) Clear m is = cc
sensed_in (Some g) Decide m is =
    absurd (not_answered (checked (nat_le 1 (count_of g.stands)) Empty (Ok tt)) (Decided _ _) (Sensed m) (λ o. cc) is)

cleared_in : (G : Option OpenBlock) (e : Entry) (m : ℕ) → answer_to G e ≡ Ok (Cleared m) → SoManyStand m G
cleared_in None (Open k n q) m is = absurd (not_answered (opening_checked k n q) (Opened k n q) (Cleared m) (λ o. cc) is)
cleared_in None (Sense rs) m is = cc
cleared_in None Clear m is = cc
cleared_in None Decide m is = cc
cleared_in (Some g) (Open k n q) m is = absurd (not_answered (opening_checked k n q) (Opened k n q) (Cleared m) (λ o. cc) is)
cleared_in (Some g) (Sense rs) m is =
    absurd (not_answered (sense_checked (set g) g.step g.stands rs) (Sensed (suc (count_of g.stands))) (Cleared m) (λ o. cc) is)
cleared_in (Some g) Clear m is = cc
cleared_in (Some g) Decide m is =
    absurd (not_answered (checked (nat_le 1 (count_of g.stands)) Empty (Ok tt)) (Decided _ _) (Cleared m) (λ o. cc) is)

sensed_from : (G : Option OpenBlock) (es : List Entry) (i m : ℕ) → slice_get (answers_from G es) i ≡ Some (Ok (Sensed m)) →
    SoManyStand m (open_from G (take (suc i) es))
sensed_from G [] i m is = cc
sensed_from G (e ∷ es) zero m is = sensed_in G e m cc
sensed_from G (e ∷ es) (suc i) m is = sensed_from (after G e) es i m is

pub sensed_at : (es : List Entry) (i m : ℕ) → slice_get (answers_to es) i ≡ Some (Ok (Sensed m)) →
    SoManyStand m (open_after (take (suc i) es))
sensed_at es i m is = sensed_from None es i m is

cleared_from : (G : Option OpenBlock) (es : List Entry) (i m : ℕ) → slice_get (answers_from G es) i ≡ Some (Ok (Cleared m)) →
    SoManyStand m (open_from G (take i es))
cleared_from G [] i m is = cc
cleared_from G (e ∷ es) zero m is = cleared_in G e m cc
cleared_from G (e ∷ es) (suc i) m is = cleared_from (after G e) es i m is

pub cleared_at : (es : List Entry) (i m : ℕ) → slice_get (answers_to es) i ≡ Some (Ok (Cleared m)) →
    SoManyStand m (open_after (take i es))
cleared_at es i m is = cleared_from None es i m is
