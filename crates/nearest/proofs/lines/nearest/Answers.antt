use Rattle.std.proofs.Common.{◌≡◌, length, Ok, rules, refl}
use Rattle.std.proofs.Math.Seq.{take-append_seam}
use Rattle.finders.specs.PointFinders.{find_answer}
use Rattle.nearest.specs.Sets.{meaning_of}
use Rattle.nearest.proofs.SetLaws.{finds}
use Rattle.nearest.proofs.lines.nearest.Goals as goal

pub returns : goal.returns
returns c =
    let rs = c.args.readings.now in
    let place = c.deref_mut.result.now in
    let after = c.find.new.place in
    let wide : length place ≡ length rs = search rules in
    let filled : c.in_ok-point.point.len ≡ length after = search rules in
    let found : Ok c.in_ok-distance.distance ≡ find_answer (meaning_of c.args.lattice (length rs)) rs c.args.step place = search rules in
    finds (meaning_of c.args.lattice (length rs)) rs place after _ c.args.step c.in_ok-distance.distance _ wide found c.find.ensures.writes_the_pick (rw filled (take-append_seam after _)) (refl, refl)
