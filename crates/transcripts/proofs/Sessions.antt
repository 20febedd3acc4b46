-- What a session answers, and what it holds then, by what its block does.
use Rattle.std.proofs.Common.{◌≡◌, ◌≤◌, ◌++◌, min, take, drop, nat_le, Bool, true, false, arith, OnErr, ℕ, suc, length}
use Rattle.std.proofs.Common.{List, ℤ, Ok, Err, Result, Option, None, Some, refl, sym, ◌∙◌}
use Rattle.std.specs.Result.{result_map_both}
use Rattle.std.proofs.Math.Seq.{take-length, take-append_seam}
use Rattle.std.proofs.lemmas.Bool.{eq-eqb}
use Rattle.finders.specs.declared.refusals.Refusal.{Refusal}
use Rattle.finders.specs.declared.refusals.Refusal.TheVariants.{Closed, Empty}
use Rattle.finders.specs.Meanings.{Meaning, fit, unfit, answered, checked, placed, fitness_of}
use Rattle.finders.specs.PointFinders.{PointFit, Same, width_of}
use Rattle.blocks.specs.Senses.{Standing, count_of}
use Rattle.blocks.specs.Calls.{open_checked, sense_answer, after_sense, clear_answer, decide_answer, decide_place}
use Rattle.blocks.specs.Calls.{decided_point, decided_total}
use Rattle.blocks.specs.Block.{finder_of, meaning_of, IsClosed, Stands, IfOpen}
use Rattle.blocks.proofs.SameMeanings.{same_width, same_open, same_decided}
use Rattle.kinds.proofs.Widths.{as_many_cells}
use Rattle.records.specs.Records.{Sense, Clear, Decide}
use Rattle.transcripts.specs.declared.session.Session.{Session}
use Rattle.transcripts.specs.Replies.{Reply, Sensed, Cleared, Decided}
use Rattle.transcripts.specs.Sessions.{OpenBlock, set, answer_to, after, granted, Holds, HoldsBlock}

-- a number that is answered to a call of a block, closed or open
granted_answer : (c : Result (Unit {0}) Refusal) (reply : ℕ → Reply) (n : ℕ) → granted reply (answered c n) ≡ answered c (reply n)
granted_answer (Ok _) reply n = refl
granted_answer (Err e) reply n = refl

pub sense_answered : (s : Session) (rs : List ℤ) (r : Result ℕ Refusal) → (IsClosed s.block → r ≡ Err Closed) →
    IfOpen s.block (λ q S. r ≡ sense_answer (meaning_of s.block) q S rs) →
    (G : Option OpenBlock) → Holds G s → granted Sensed r ≡ answer_to G (Sense rs)
sense_answered s rs r closed opened None h = rw (closed h) refl
sense_answered s rs r closed opened (Some g) h =
    rw (opened g.step g.stands h.stands, same_width _ _ h.of_the_kind) (granted_answer _ Sensed (suc (count_of g.stands)))

pub clear_answered : (s : Session) (r : Result ℕ Refusal) → (IsClosed s.block → r ≡ Err Closed) →
    IfOpen s.block (λ q S. r ≡ clear_answer S) →
    (G : Option OpenBlock) → Holds G s → granted Cleared r ≡ answer_to G Clear
clear_answered s r closed opened None h = rw (closed h) refl
clear_answered s r closed opened (Some g) h = rw (opened g.step g.stands h.stands) refl

-- the readings of bytes stand at the front of room enough for them
pub all_read : (rs old new : List ℤ) (n : ℕ) → length rs ≤ length old → n ≡ min (length rs) (length old) →
    new ≡ take n rs ++ drop n old → take n new ≡ rs
all_read rs old new n fits is at =
    let m : n ≡ length rs = omega (arith, is, fits) in
    rw (at, m, take-length rs) (take-append_seam rs (drop (length rs) old))

pub sense_held : (s t : Session) (rs : List ℤ) (r : Result ℕ Refusal) → t.cells ≡ s.cells →
    finder_of t.block ≡ finder_of s.block → (IsClosed s.block → r ≡ Err Closed) → OnErr r (t.block ≡ s.block) →
    IfOpen s.block (λ q S. Stands q (after_sense (meaning_of s.block) q S rs) t.block) →
    (G : Option OpenBlock) → Holds G s → Holds (after G (Sense rs)) t
sense_held s t rs r cells kept closed err opened None h =
    let is = closed h in
    rw (rw is at err) h
sense_held s t rs r cells kept closed err opened (Some g) h = record {
  as_many_cells = cells ∙ h.as_many_cells;
  of_the_kind = rw kept h.of_the_kind;
  stands = rw (← same_width _ _ h.of_the_kind) (opened g.step g.stands h.stands);
}

pub fit_where_open : (M : Meaning PointFit) (q : ℕ) → open_checked M q ≡ Ok tt → fitness_of M ≡ Ok tt
fit_where_open (unfit e) q h = h
fit_where_open (fit m) q h = refl

-- where a group is open, its block opened over the set of the kind, which is as wide as the session says
as_wide : (g : OpenBlock) (s : Session) → HoldsBlock g s → s.cells ≡ width_of (meaning_of s.block)
as_wide g s h =
    let opens = sym (same_open _ (set g) h.of_the_kind g.step) ∙ h.stands.represents.may_open in
    let wide = as_many_cells g.kind g.cells (fit_where_open (set g) g.step opens) in
    h.as_many_cells ∙ sym wide ∙ sym (same_width _ (set g) h.of_the_kind)

-- what a decide comes to that is so checked, as a block answers and writes it and as a record is answered
same_decision : (some : Bool) (x before : List ℤ) (t : ℕ) →
    let check = checked some Empty (Ok tt) in
    result_map_both (Decided (placed check x before)) (λ e. e) (answered check t) ≡ answered check (Decided x t)
same_decision true x before t = refl
same_decision false x before t = refl

-- what a decide is answered and leaves, where its place fits
decided : (M N : Meaning PointFit) (q : ℕ) (S : Standing) (before after : List ℤ) (r : Result ℕ Refusal) →
    Same M N → length before ≡ width_of M →
    r ≡ decide_answer M q S (length before) → after ≡ decide_place M q S before →
    result_map_both (Decided after) (λ e. e) r ≡
    answered (checked (nat_le 1 (count_of S)) Empty (Ok tt)) (Decided (decided_point N q S.senses) (decided_total N q S.senses))
decided M N q S before after r same wide is leaves =
    rw (is, leaves, eq-eqb (length before) (width_of M) wide, same_decided M N same q S.senses)
    (same_decision (nat_le 1 (count_of S)) (decided_point N q S.senses) before (decided_total N q S.senses))

pub decide_answered : (s : Session) (before after : List ℤ) (r : Result ℕ Refusal) → length before ≡ s.cells →
    (IsClosed s.block → r ≡ Err Closed) →
    IfOpen s.block (λ q S. r ≡ decide_answer (meaning_of s.block) q S (length before)) →
    IfOpen s.block (λ q S. after ≡ decide_place (meaning_of s.block) q S before) →
    (G : Option OpenBlock) → Holds G s → result_map_both (Decided after) (λ e. e) r ≡ answer_to G Decide
decide_answered s before after r wide closed opened left None h = rw (closed h) refl
decide_answered s before after r wide closed opened left (Some g) h =
    decided (meaning_of s.block) (set g) g.step g.stands before after r h.of_the_kind (wide ∙ as_wide g s h)
    (opened g.step g.stands h.stands) (left g.step g.stands h.stands)
