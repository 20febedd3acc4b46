-- What records are answered, and how it is printed.
use Rattle.std.specs.Prelude.{ℕ, List, ◌∷◌, ◌++◌, ℤ, codes, decimal, Ok, Err, Result}
use Rattle.std.specs.Fmt.{signed_decimal}
use Rattle.std.specs.List.{flat_map}
use Rattle.std.specs.Result.{result_map_both}
use Rattle.finders.specs.declared.refusals.Refusal.{Refusal}
use Rattle.finders.specs.Refusals.{refusal_text}
use Rattle.transcripts.specs.declared.reply.Reply.{Reply as HeldReply}
use Rattle.transcripts.specs.declared.reply.Reply.TheVariants as held

-- what a granted record is answered: the block that it opened; how many senses stand; how many were removed; a point
-- and its total
pub data Reply : Type 0 where
  Opened : (kind cells step : ℕ) → Reply
  Sensed : ℕ → Reply
  Cleared : ℕ → Reply
  Decided : List ℤ → ℕ → Reply

-- a reply without where its point lies in memory
abbrev pub reply_of : HeldReply → Reply
reply_of (held.Opened kind cells step) = Opened kind cells step
reply_of (held.Sensed count) = Sensed count
reply_of (held.Cleared count) = Cleared count
reply_of (held.Decided point total) = Decided point.now total

abbrev pub told : Result HeldReply Refusal → Result Reply Refusal
told = result_map_both reply_of (λ e. e)

-- each number behind a space
abbrev pub spaced : List ℤ → List ℕ
spaced = flat_map (λ x. 32 ∷ signed_decimal x)

abbrev pub reply_text : Reply → List ℕ
reply_text (Opened kind cells step) =
    codes "open " ++ (decimal kind ++ (codes " " ++ (decimal cells ++ (codes " " ++ decimal step))))
reply_text (Sensed count) = codes "sense " ++ decimal count
reply_text (Cleared count) = codes "clear " ++ decimal count
reply_text (Decided x total) = codes "point" ++ (spaced x ++ (codes " total " ++ decimal total))

-- the line of an answer, up to its line feed
abbrev pub answer_text : Result Reply Refusal → List ℕ
answer_text (Ok reply) = reply_text reply
answer_text (Err e) = refusal_text e
