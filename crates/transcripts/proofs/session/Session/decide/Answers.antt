use Rattle.std.proofs.Common.{◌≡◌, length, rules, Ok, Err, take}
use Rattle.transcripts.proofs.Sessions.{decide_answered}
use Rattle.transcripts.proofs.session.Session.decide.Goals as goal

pub returns-in_err-total : goal.returns-in_err-total
returns-in_err-total c =
    let place = take c.from.result c.args.room.now in
    let wide : length place ≡ c.args.self.now.cells = search rules in
    let told = c.in_err-total.ensures in
    let answered = decide_answered c.args.self.now place c.decide.new.place (Err c.in_err-total.field-0.0) wide in
    let refused : c.from_residual.result ≡ Err c.in_err-total.field-0.0 = search rules in
    record {
      answers = rw refused (answered told.a_closed_block_refuses told.answers_the_total c.decide.ensures.writes_the_point);
    }

pub returns : goal.returns
returns c =
    let place = take c.from.result c.args.room.now in
    let wide : length place ≡ c.args.self.now.cells = search rules in
    let told = c.in_ok-total.ensures in
    let answered = decide_answered c.args.self.now place c.decide.new.place (Ok c.in_ok-total.total) wide in
    record {
      answers = answered told.a_closed_block_refuses told.answers_the_total c.decide.ensures.writes_the_point;
    }
