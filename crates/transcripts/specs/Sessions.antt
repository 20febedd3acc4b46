-- What is open as a stream is read, and what each record is answered, by the records alone.
use Rattle.std.specs.Prelude.{◌≡◌, ℕ, suc, nat_le, Ok, Err, Result, Option, None, Some}
use Rattle.std.specs.Result.{result_map_both}
use Rattle.finders.specs.declared.refusals.Refusal.{Refusal}
use Rattle.finders.specs.declared.refusals.Refusal.TheVariants.{Closed, Empty}
use Rattle.finders.specs.Meanings.{Meaning, checked, answered, placed}
use Rattle.finders.specs.PointFinders.{PointFit, Same}
use Rattle.blocks.specs.Senses.{Standing, none_standing, count_of}
use Rattle.blocks.specs.Calls.{open_checked, sense_checked, after_sense, decided_point, decided_total}
use Rattle.blocks.specs.Block.{meaning_of, IsClosed, Stands}
use Rattle.kinds.specs.Kinds.{set_of}
use Rattle.records.specs.Records.{Entry, Open, Sense, Clear, Decide}
use Rattle.transcripts.specs.declared.session.Session.{Session}
use Rattle.transcripts.specs.Replies.{Reply, Opened, Sensed, Cleared, Decided}

-- a block that is open: the kind of its lattice, the number of its cells, its step, and what stands in it
pub record OpenBlock : Type 0 where
  pub kind : ℕ
  pub cells : ℕ
  pub step : ℕ
  pub stands : Standing

-- the set that it decides in
abbrev pub set : OpenBlock → Meaning PointFit
set g = set_of g.kind g.cells

-- with no sense
abbrev pub newly_opened : (kind cells step : ℕ) → OpenBlock
newly_opened kind cells step = record { kind = kind; cells = cells; step = step; stands = none_standing }

-- with this standing in it
abbrev pub with_standing : OpenBlock → Standing → OpenBlock
with_standing g S = record { kind = g.kind; cells = g.cells; step = g.step; stands = S }

-- a reply that tells a number, where the number was granted
abbrev pub granted : (ℕ → Reply) → Result ℕ Refusal → Result Reply Refusal
granted reply = result_map_both reply (λ e. e)

-- ---- what a record is answered: in a block that is open, and where none is

abbrev pub opening_checked : (kind cells step : ℕ) → Result (Unit {0}) Refusal
opening_checked kind cells step = open_checked (set_of kind cells) step

abbrev pub answer_in : OpenBlock → Entry → Result Reply Refusal
answer_in g (Open kind cells step) = answered (opening_checked kind cells step) (Opened kind cells step)
answer_in g (Sense rs) = answered (sense_checked (set g) g.step g.stands rs) (Sensed (suc (count_of g.stands)))
answer_in g Clear = Ok (Cleared (count_of g.stands))
answer_in g Decide =
    let senses = g.stands.senses in
    answered (checked (nat_le 1 (count_of g.stands)) Empty (Ok tt))
    (Decided (decided_point (set g) g.step senses) (decided_total (set g) g.step senses))

abbrev pub answer_to : Option OpenBlock → Entry → Result Reply Refusal
answer_to (Some g) e = answer_in g e
answer_to None (Open kind cells step) = answered (opening_checked kind cells step) (Opened kind cells step)
answer_to None _ = Err Closed

-- ---- what is open after a record

abbrev pub after : Option OpenBlock → Entry → Option OpenBlock
after was (Open kind cells step) = placed (opening_checked kind cells step) (Some (newly_opened kind cells step)) was
after None _ = None
after (Some g) (Sense rs) = Some (with_standing g (after_sense (set g) g.step g.stands rs))
after (Some g) Clear = Some (with_standing g none_standing)
after (Some g) Decide = Some g

-- ---- what the program keeps of it

-- the session's block is the one that is open, and its cells are counted
pub record HoldsBlock (g : OpenBlock) (s : Session) : Type 0 where
  pub as_many_cells : s.cells ≡ g.cells
  pub of_the_kind : Same (meaning_of s.block) (set g)
  pub stands : Stands g.step g.stands s.block

abbrev pub Holds : Option OpenBlock → Session → Type 0
Holds None s = IsClosed s.block
Holds (Some g) s = HoldsBlock g s
