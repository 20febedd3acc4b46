-- A run as the machine makes it: one call more.
use Rattle.std.proofs.Common.{◌≡◌, ℕ, ◌+◌, ◌<◌, ◌≤◌, List, [], ◌∷◌, ◌++◌, length, get_or, set, take, sym, ap, ap₂}
use Rattle.std.proofs.Common.{◌∙◌, subst, arith, ⊎_elim}
use Rattle.std.proofs.Math.ListN.{length-set}
use Rattle.std.proofs.lemmas.Bool.{cases_lt}
use Rattle.std.proofs.lemmas.List.{take_all, take_more, take_more_set}
use Rattle.finders.specs.declared.points.PointFinder.{Ghosts}
use Rattle.finders.specs.PointFinders.{width_of}
use Rattle.blocks.specs.declared.block.Block.{Block}
use Rattle.blocks.specs.declared.calls.Call.{Call}
use Rattle.blocks.specs.declared.calls.Answer.{Answer}
use Rattle.blocks.specs.Senses.{none_standing}
use Rattle.blocks.specs.Tally.{AreSenses}
use Rattle.blocks.specs.Block.{finder_of, meaning_of, Stands, IfOpen}
use Rattle.blocks.specs.Calls.{after_call, standing, answer_to, answers_to}
use Rattle.blocks.proofs.RunLaws.{after_more, answers_more, AllAreSenses}

-- the block that was `first` when the run began is b, where i calls are made and their answers written
pub record SoFar {F : Type 0} {finds : Ghosts F} (first b : Block F finds) (q : ℕ) (cs : List Call) (i : ℕ)
    (answers : List Answer) : Type 0 where
  pub finder : finder_of b ≡ finder_of first
  pub room : length answers ≡ length cs
  pub stands : Stands q (standing (meaning_of first) q (take i cs)) b
  pub senses : AllAreSenses (meaning_of first) q cs i
  pub answered : take i answers ≡ answers_to (meaning_of first) q (take i cs)

-- the call c makes `new` of the block b, and is answered a
pub record Makes {F : Type 0} {finds : Ghosts F} (b new : Block F finds) (c : Call) (a : Answer) : Type 0 where
  pub answers : IfOpen b (λ q S. a ≡ answer_to (meaning_of b) q S c)
  pub stands : IfOpen b (λ q S. Stands q (after_call (meaning_of b) q S c) new)
  pub finder : finder_of new ≡ finder_of b

module _ {F : Type 0} {finds : Ghosts F} {first b : Block F finds} {q i : ℕ} {cs : List Call} {answers : List Answer}
    (so_far : SoFar first b q cs i answers) where
  -- what holds of the block's finder holds of the one that it had at first
  at_first : (P : F → Type 0) → P (finder_of b) → P (finder_of first)
  at_first P h = subst P so_far.finder h

  pub one_made : {new : Block F finds} (d : Call) (a : Answer) → i < length cs → Makes b new (get_or cs i d) a →
      SoFar first new q cs (i + 1) (set answers i a)
  one_made {new = new} d a here makes =
      let M = meaning_of first in
      let call = get_or cs i d in
      let before = standing M q (take i cs) in
      let finder = makes.finder ∙ so_far.finder in
      let told = at_first (λ f. a ≡ answer_to (finds.meaning f) q before call) (makes.answers q _ so_far.stands) in
      let stood =
      at_first (λ f. Stands q (after_call (finds.meaning f) q before call) new) (makes.stands q _ so_far.stands) in
      let now : Stands q (standing M q (take (i + 1) cs)) new =
      rw (take_more cs i d here, after_more M q none_standing (take i cs) call) stood in
      let senses : AreSenses (width_of M) (standing M q (take (i + 1) cs)).senses =
      subst (λ (f : F). AreSenses (width_of (finds.meaning f)) (standing M q (take (i + 1) cs)).senses) finder
      now.represents.tallied.senses in
      record {
        finder = finder;
        room = simp length-set so_far.room;
        stands = now;
        senses = λ j before. ⊎_elim
            (λ last. let is : j ≡ i + 1 = omega arith in rw is senses)
            (λ earlier. so_far.senses j earlier)
            (cases_lt i j);
        answered =
            let room : i < length answers = omega (arith, so_far.room) in
            rw (take_more_set answers i a room, take_more cs i d here, answers_more M q none_standing (take i cs) call)
            (ap₂ (λ (l : List Answer) (v : Answer). l ++ v ∷ []) so_far.answered told);
      }

  module _ (last : length cs ≤ i) where
    pub all_answered : answers ≡ answers_to (meaning_of first) q cs
    all_answered =
        sym (take_all i answers (omega (arith, so_far.room))) ∙ so_far.answered ∙
        ap (answers_to (meaning_of first) q) (take_all i cs last)

    pub all_are_senses : AllAreSenses (meaning_of first) q cs (length cs)
    all_are_senses j before = so_far.senses j (omega arith)
