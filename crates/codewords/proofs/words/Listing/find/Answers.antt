use Rattle.std.proofs.Common.{length}
use Rattle.codewords.specs.declared.words.Listing.TheVariants.{Listed, GluedEven}
use Rattle.codewords.proofs.CodeSets.{found_in_listing, glued_over_even}
use Rattle.codewords.proofs.words.Listing.find.Goals as goal

pub returns-in-Listed : goal.returns-in-Listed
returns-in-Listed c =
    let f = found_in_listing c.args.self Listed (length c.args.gains.now) c.args.words.now _ c.args.gains.now c.find.result c.in-Listed.is c.new.ensures.means_the_code c.find.ensures.answers_the_pick_and_its_correlation in
    record { answers_the_pick_and_its_correlation = f.0; gives_the_best_member = f.1 }

pub returns-in-GluedEven : goal.returns-in-GluedEven
returns-in-GluedEven c =
    let same = glued_over_even (length c.args.gains.now) c.args.words.now _ _ c.new-in-GluedEven-2.ensures.means_the_glued_words c.new-in-GluedEven.ensures.means_the_code in
    let f = found_in_listing c.args.self GluedEven (length c.args.gains.now) c.args.words.now _ c.args.gains.now c.find-in-GluedEven.result c.in-GluedEven.is same c.find-in-GluedEven.ensures.answers_the_pick_and_its_correlation in
    record { answers_the_pick_and_its_correlation = f.0; gives_the_best_member = f.1 }
