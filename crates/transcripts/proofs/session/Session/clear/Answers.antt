use Rattle.transcripts.proofs.Sessions.{clear_answered}
use Rattle.transcripts.proofs.session.Session.clear.Goals as goal

pub returns-clause-answers : goal.returns-clause-answers
returns-clause-answers c = clear_answered c.args.self.now c.clear.result c.clear.ensures.a_closed_block_refuses c.clear.ensures.answers_how_many_stood
