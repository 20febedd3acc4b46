use Rattle.transcripts.proofs.Openings.{sensed_at, cleared_at}
use Rattle.transcripts.proofs.laws.the_answers_tell_how_many_stand.Goals as goal

pub returns-clause-after_a_sense : goal.returns-clause-after_a_sense
returns-clause-after_a_sense c = sensed_at

pub returns-clause-before_a_clear : goal.returns-clause-before_a_clear
returns-clause-before_a_clear c = cleared_at
