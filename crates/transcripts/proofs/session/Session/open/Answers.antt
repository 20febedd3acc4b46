use Rattle.std.proofs.Common.{rules}
use Rattle.blocks.proofs.SameMeanings.{same_open}
use Rattle.transcripts.proofs.session.Session.open.Goals as goal

pub returns-in_err-open-clause-first_refusal : goal.returns-in_err-open-clause-first_refusal
returns-in_err-open-clause-first_refusal c = search (rules, same_open)
