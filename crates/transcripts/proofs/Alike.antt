-- Streams that are the same but for the kinds: their answers are the same, with totals that compare as the sets do.
use Rattle.std.proofs.Common.{◌≡◌, ◌≤◌, ℕ, suc, Bool, true, false, nat_le, List, [], ◌∷◌, ℤ, Ok, Err, Result, Option}
use Rattle.std.proofs.Common.{None, Some, refl, sym, ap, subst, ◌∙◌, arith}
use Rattle.std.specs.List.{AllByRecursion}
use Rattle.std.proofs.lemmas.Bool.{leb-true}
use Rattle.finders.specs.declared.refusals.Refusal.{Refusal}
use Rattle.finders.specs.declared.refusals.Refusal.TheVariants.{Empty}
use Rattle.finders.specs.Meanings.{checked, answered, placed}
use Rattle.finders.specs.PointFinders.{width_of}
use Rattle.finders.proofs.Fitness.{not_err}
use Rattle.blocks.specs.Senses.{Standing, count_of, IsLeastTotal}
use Rattle.blocks.specs.Calls.{sense_checked, decided_point, decided_total}
use Rattle.blocks.proofs.OneSet.{one_total}
use Rattle.kinds.specs.Kinds.{set_of}
use Rattle.kinds.proofs.Widths.{as_many_cells}
use Rattle.records.specs.Records.{Entry, Open, Sense, Clear, Decide, Fits}
use Rattle.transcripts.specs.Replies.{Reply, Opened, Sensed, Decided}
use Rattle.transcripts.specs.Sessions.{OpenBlock, set, opening_checked, newly_opened, answer_in, answer_to, after}
use Rattle.transcripts.specs.Transcripts.{answers_from, answers_to}
use Rattle.transcripts.specs.Comparing.{HaveOneSet, IsPartOf, SameEntry, SameButForKinds, SameAnswer, SameAnswers}
use Rattle.transcripts.proofs.Least.{IsOpen, open_after_record, least_in}
use Rattle.transcripts.proofs.Sessions.{fit_where_open}

-- an open group is as wide as it says
wide : (g : OpenBlock) → IsOpen g → width_of (set g) ≡ g.cells
wide g h = as_many_cells g.kind g.cells (fit_where_open (set g) g.step h.opens)

least_there : (l n m q r : ℕ) (S T : Standing) (y : List ℤ) (u : ℕ) → m ≡ n → r ≡ q → T ≡ S →
    IsLeastTotal (set_of l m) r T.senses y u → IsLeastTotal (set_of l n) q S.senses y u
least_there l n m q r S T y u cells step stands h =
    subst (λ (V : Standing). IsLeastTotal (set_of l n) q V.senses y u) stands
    (subst (λ (v : ℕ). IsLeastTotal (set_of l n) v T.senses y u) step
    (subst (λ (v : ℕ). IsLeastTotal (set_of l v) r T.senses y u) cells h))

module _ (Kinds : (k l n : ℕ) → Type 0) (Totals : ℕ → ℕ → Type 0)
    (compare : (k l n q : ℕ) (ss : List (List ℤ)) (x y : List ℤ) (t u : ℕ) → Kinds k l n →
    IsLeastTotal (set_of k n) q ss x t → IsLeastTotal (set_of l n) q ss y u → Totals t u) where
  -- groups that are the same but for the kind
  record SameBlocks (g h : OpenBlock) : Type 0 where
    kinds : Kinds g.kind h.kind g.cells
    cells : h.cells ≡ g.cells
    step : h.step ≡ g.step
    stands : h.stands ≡ g.stands
    one : IsOpen g
    other : IsOpen h

  abbrev SameOpen : Option OpenBlock → Option OpenBlock → Type 0
  SameOpen None None = Unit {0}
  SameOpen (Some g) (Some h) = SameBlocks g h
  SameOpen _ _ = ⊥

  as_wide : (g h : OpenBlock) → SameBlocks g h → width_of (set h) ≡ width_of (set g)
  as_wide g h s = wide h s.other ∙ s.cells ∙ sym (wide g s.one)

  -- ---- what one record is answered

  same_answered : (c : Result (Unit {0}) Refusal) (r s : Reply) → SameAnswer Totals (Ok r) (Ok s) →
      SameAnswer Totals (answered c r) (answered c s)
  same_answered (Ok _) r s h = h
  same_answered (Err e) r s h = refl

  same_openings : (k l n m q r : ℕ) → SameEntry Kinds (Open k n q) (Open l m r) →
      SameAnswer Totals (answered (opening_checked k n q) (Opened k n q)) (answered (opening_checked l m r) (Opened l m r))
  same_openings k l n m q r s =
      rw (s.1, s.2, s.3) (same_answered (opening_checked k n q) (Opened k n q) (Opened l n q) (refl, refl))

  same_totals : (g h : OpenBlock) → SameBlocks g h → 1 ≤ count_of g.stands →
      Totals (decided_total (set g) g.step g.stands.senses) (decided_total (set h) h.step h.stands.senses)
  same_totals g h s some =
      let here = least_in g s.one some in
      let there = least_in h s.other (rw s.stands some) in
      compare g.kind h.kind g.cells g.step g.stands.senses _ _ _ _ s.kinds here
      (least_there h.kind g.cells h.cells g.step h.step g.stands h.stands _ _ s.cells s.step s.stands there)

  same_decided : (b : Bool) (x y : List ℤ) (t u : ℕ) → (b ≡ true → Totals t u) →
      SameAnswer Totals (answered (checked b Empty (Ok tt)) (Decided x t)) (answered (checked b Empty (Ok tt)) (Decided y u))
  same_decided true x y t u h = h refl
  same_decided false x y t u h = refl

  same_decides : (g h : OpenBlock) → SameBlocks g h → SameAnswer Totals (answer_in g Decide) (answer_in h Decide)
  same_decides g h s =
      let some = nat_le 1 (count_of g.stands) in
      let x = decided_point (set g) g.step g.stands.senses in
      let t = decided_total (set g) g.step g.stands.senses in
      let y = decided_point (set h) h.step h.stands.senses in
      let u = decided_total (set h) h.step h.stands.senses in
      subst (λ (c : Bool). SameAnswer Totals (answered (checked some Empty (Ok tt)) (Decided x t)) (answered (checked c Empty (Ok tt)) (Decided y u)))
      (sym (ap (λ (S : Standing). nat_le 1 (count_of S)) s.stands))
      (same_decided some x y t u (λ is. same_totals g h s (leb-true 1 (count_of g.stands) is)))

  same_in : (g h : OpenBlock) (e f : Entry) → SameBlocks g h → SameEntry Kinds e f → SameAnswer Totals (answer_in g e) (answer_in h f)
  same_in g h (Open k n q) (Open l m r) s d = same_openings k l n m q r d
  same_in g h (Sense rs) (Sense ss) s d =
      rw (d, s.stands, as_wide g h s) (same_answered (sense_checked (set g) g.step g.stands rs)
      (Sensed (suc (count_of g.stands))) (Sensed (suc (count_of g.stands))) refl)
  same_in g h Clear Clear s d = ap count_of s.stands
  same_in g h Decide Decide s d = same_decides g h s
  same_in g h e f s d = absurd d

  -- ---- what is open after it

  opened_by : (b c : Result (Unit {0}) Refusal) (G H : Option OpenBlock) (k l n q : ℕ) → c ≡ b → opening_checked k n q ≡ b →
      opening_checked l n q ≡ c → Kinds k l n → SameOpen G H →
      SameOpen (placed b (Some (newly_opened k n q)) G) (placed c (Some (newly_opened l n q)) H)
  opened_by (Ok _) (Ok _) G H k l n q same here there kinds s = record {
    kinds = kinds;
    cells = refl;
    step = refl;
    stands = refl;
    one = record { opens = here; senses = tt; few = omega arith };
    other = record { opens = there; senses = tt; few = omega arith };
  }
  opened_by (Ok _) (Err e) G H k l n q same here there kinds s = absurd (not_err (sym same))
  opened_by (Err e) (Ok _) G H k l n q same here there kinds s = absurd (not_err same)
  opened_by (Err e) (Err f) G H k l n q same here there kinds s = s

  same_opened : (G H : Option OpenBlock) (k l n m q r : ℕ) → SameEntry Kinds (Open k n q) (Open l m r) → SameOpen G H →
      SameOpen (after G (Open k n q)) (after H (Open l m r))
  same_opened G H k l n m q r d s =
      let both = opened_by (opening_checked k n q) (opening_checked l n q) G H k l n q d.3 refl refl d.0 s in
      subst (λ (v : ℕ). SameOpen (after G (Open k n q)) (after H (Open l v r))) (sym d.1)
      (subst (λ (v : ℕ). SameOpen (after G (Open k n q)) (after H (Open l n v))) (sym d.2) both)

  same_after : (G H : Option OpenBlock) (e f : Entry) → Fits e → SameOpen G H → SameEntry Kinds e f → SameOpen (after G e) (after H f)
  same_after G H (Open k n q) (Open l m r) fits s d = same_opened G H k l n m q r d s
  same_after None (Some h) e f fits s d = absurd s
  same_after (Some g) None e f fits s d = absurd s
  same_after None None (Sense rs) (Sense ss) fits s d = tt
  same_after None None Clear Clear fits s d = tt
  same_after None None Decide Decide fits s d = tt
  same_after None None e f fits s d = absurd d
  same_after (Some g) (Some h) (Sense rs) (Sense ss) fits s d = record {
    kinds = s.kinds;
    cells = s.cells;
    step = s.step;
    stands = rw (d, s.stands, as_wide g h s) refl;
    one = open_after_record (Some g) (Sense rs) fits s.one;
    other = open_after_record (Some h) (Sense ss) (rw d fits) s.other;
  }
  same_after (Some g) (Some h) Clear Clear fits s d = record {
    kinds = s.kinds;
    cells = s.cells;
    step = s.step;
    stands = refl;
    one = open_after_record (Some g) Clear tt s.one;
    other = open_after_record (Some h) Clear tt s.other;
  }
  same_after (Some g) (Some h) Decide Decide fits s d = s
  same_after (Some g) (Some h) e f fits s d = absurd d

  -- ---- one record after the other

  same_answer : (G H : Option OpenBlock) (e f : Entry) → SameOpen G H → SameEntry Kinds e f → SameAnswer Totals (answer_to G e) (answer_to H f)
  same_answer None None (Open k n q) (Open l m r) s d = same_openings k l n m q r d
  same_answer None None (Sense rs) (Sense ss) s d = refl
  same_answer None None Clear Clear s d = refl
  same_answer None None Decide Decide s d = refl
  same_answer None None e f s d = absurd d
  same_answer (Some g) (Some h) e f s d = same_in g h e f s d
  same_answer None (Some h) e f s d = absurd s
  same_answer (Some g) None e f s d = absurd s

  same_from : (G H : Option OpenBlock) (es fs : List Entry) → AllByRecursion Fits es → SameOpen G H → SameButForKinds Kinds es fs →
      SameAnswers Totals (answers_from G es) (answers_from H fs)
  same_from G H [] [] fits s d = tt
  same_from G H [] (f ∷ fs) fits s d = absurd d
  same_from G H (e ∷ es) [] fits s d = absurd d
  same_from G H (e ∷ es) (f ∷ fs) fits s d =
      (same_answer G H e f s d.0, same_from (after G e) (after H f) es fs fits.1 (same_after G H e f fits.0 s d.0) d.1)

pub one_set : (es fs : List Entry) → AllByRecursion Fits es → SameButForKinds HaveOneSet es fs →
    SameAnswers (λ t u. u ≡ t) (answers_to es) (answers_to fs)
one_set es fs fits d =
    same_from HaveOneSet (λ t u. u ≡ t) (λ k l n q ss x y t u set here there. sym (one_total set here there)) None None es fs fits tt d

pub part_of : (es fs : List Entry) → AllByRecursion Fits es → SameButForKinds IsPartOf es fs →
    SameAnswers (λ t u. u ≤ t) (answers_to es) (answers_to fs)
part_of es fs fits d = same_from IsPartOf (λ t u. u ≤ t)
    (λ k l n q ss x y t u part here there. rw (← here.is_its_total) (there.no_member_has_less x (part x here.is_a_member)))
    None None es fs fits tt d
