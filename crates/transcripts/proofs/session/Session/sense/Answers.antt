use Rattle.std.proofs.Common.{refl}
use Rattle.transcripts.proofs.Sessions.{sense_answered, sense_held}
use Rattle.transcripts.proofs.session.Session.sense.Goals as goal

pub returns-clause-answers : goal.returns-clause-answers
returns-clause-answers c =
    let told = c.sense.ensures in
    let answered = sense_answered c.args.self.now c.readings_of.result.now c.sense.result in
    rw (← c.readings_of.ensures) (answered told.a_closed_block_refuses told.answers_how_many_stand)

pub returns-clause-holds : goal.returns-clause-holds
returns-clause-holds c =
    let told = c.sense.ensures in
    let held = sense_held c.args.self.now (record { block = c.sense.new.self; cells = c.args.self.now.cells }) in
    rw (← c.readings_of.ensures) (held c.readings_of.result.now c.sense.result refl told.keeps_the_finder
    told.a_closed_block_refuses told.a_refusal_changes_nothing told.stands_after_the_sense)
