use Rattle.std.proofs.Common.{length}
use Rattle.nearest.specs.declared.sets.Lattice.TheVariants.{Z, D, DWords, E8Glue, E8Words}
use Rattle.nearest.proofs.SetLaws.{found_in, over_even}
use Rattle.nearest.proofs.sets.Lattice.find.Goals as goal

pub returns-in-Z : goal.returns-in-Z
returns-in-Z c =
    let f = found_in c.args.self Z (length c.args.readings.now) _ c.args.readings.now c.args.place.now c.find.new.place c.args.step c.find.result c.in-Z.is c.new.ensures.means_the_lattice c.find.ensures.answers_the_distance c.find.ensures.writes_the_pick in
    record { answers_the_distance = f.0; writes_the_pick = f.1; gives_the_nearest_member = f.2 }

pub returns-in-D : goal.returns-in-D
returns-in-D c =
    let f = found_in c.args.self D (length c.args.readings.now) _ c.args.readings.now c.args.place.now c.find-in-D.new.place c.args.step c.find-in-D.result c.in-D.is c.new-in-D.ensures.means_the_lattice c.find-in-D.ensures.answers_the_distance c.find-in-D.ensures.writes_the_pick in
    record { answers_the_distance = f.0; writes_the_pick = f.1; gives_the_nearest_member = f.2 }

pub returns-in-DWords : goal.returns-in-DWords
returns-in-DWords c =
    let n = length c.args.readings.now in
    let same = over_even n _ _ c.new-in-DWords.ensures.means_the_points_of_the_words c.new-words.ensures.means_the_code in
    let f = found_in c.args.self DWords n _ c.args.readings.now c.args.place.now c.find-in-DWords.new.place c.args.step c.find-in-DWords.result c.in-DWords.is same c.find-in-DWords.ensures.answers_the_distance c.find-in-DWords.ensures.writes_the_pick in
    record { answers_the_distance = f.0; writes_the_pick = f.1; gives_the_nearest_member = f.2 }

pub returns-in-E8Glue : goal.returns-in-E8Glue
returns-in-E8Glue c =
    let f = found_in c.args.self E8Glue (length c.args.readings.now) _ c.args.readings.now c.args.place.now c.find-in-E8Glue.new.place c.args.step c.find-in-E8Glue.result c.in-E8Glue.is c.e8_by_glue.ensures.means_e8_by_glue c.find-in-E8Glue.ensures.answers_the_distance c.find-in-E8Glue.ensures.writes_the_pick in
    record { answers_the_distance = f.0; writes_the_pick = f.1; gives_the_nearest_member = f.2 }

pub returns-in-E8Words : goal.returns-in-E8Words
returns-in-E8Words c =
    let f = found_in c.args.self E8Words (length c.args.readings.now) _ c.args.readings.now c.args.place.now c.find-in-E8Words.new.place c.args.step c.find-in-E8Words.result c.in-E8Words.is c.e8_by_words.ensures.means_e8_by_words c.find-in-E8Words.ensures.answers_the_distance c.find-in-E8Words.ensures.writes_the_pick in
    record { answers_the_distance = f.0; writes_the_pick = f.1; gives_the_nearest_member = f.2 }
