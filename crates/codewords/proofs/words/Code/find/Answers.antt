use Rattle.std.proofs.Common.{◌≡◌, length, Some, rules}
use Rattle.codewords.specs.declared.words.Code.TheVariants.{Universe, EvenWeight}
use Rattle.codewords.specs.Sets.{m_of}
use Rattle.codewords.proofs.CodeSets.{found_in_code, found_in_reed_muller}
use Rattle.codewords.proofs.words.Code.find.Goals as goal

pub returns-in-Universe : goal.returns-in-Universe
returns-in-Universe c =
    let f = found_in_code c.args.self Universe (length c.args.gains.now) _ c.args.gains.now c.find.result c.in-Universe.is c.new.ensures.means_the_code c.find.ensures.answers_the_pick_and_its_correlation in
    record { answers_the_pick_and_its_correlation = f.0; gives_the_best_member = f.1 }

pub returns-in-EvenWeight : goal.returns-in-EvenWeight
returns-in-EvenWeight c =
    let f = found_in_code c.args.self EvenWeight (length c.args.gains.now) _ c.args.gains.now c.find-in-EvenWeight.result c.in-EvenWeight.is c.new-in-EvenWeight.ensures.means_the_code c.find-in-EvenWeight.ensures.answers_the_pick_and_its_correlation in
    record { answers_the_pick_and_its_correlation = f.0; gives_the_best_member = f.1 }

pub returns-in_ok-m-in-ReedMuller : goal.returns-in_ok-m-in-ReedMuller
returns-in_ok-m-in-ReedMuller c =
    let is : Some c.in_ok-m-in-ReedMuller.m ≡ m_of (length c.args.gains.now) = search rules in
    let f = found_in_reed_muller c.args.self (length c.args.gains.now) c.in_ok-m-in-ReedMuller.m _ c.args.gains.now c.find-in-ReedMuller.result c.in-ReedMuller.is is c.new-in-ReedMuller.ensures.means_the_code c.find-in-ReedMuller.ensures.answers_the_pick_and_its_correlation in
    record { answers_the_pick_and_its_correlation = f.0; gives_the_best_member = f.1 }
