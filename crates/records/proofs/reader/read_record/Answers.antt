use Rattle.std.proofs.Common.{◌≡◌, ◌≤◌, drop, length, rules, arith}
use Rattle.std.proofs.lemmas.Grind.{common_steps}
use Rattle.records.specs.Records.{entry_of}
use Rattle.records.specs.Grammar.{Begins}
use Rattle.records.proofs.Standing.{NextIs, stands_there}
use Rattle.records.proofs.reader.read_record.Goals as goal

pub returns-clause-a_record_stands_there : goal.returns-clause-a_record_stands_there
returns-clause-a_record_stands_there c =
    let input = c.args.input.now in
    let bytes = c.unwrap_or_default-bytes.result.now in
    let rest = c.in_ok-record.rest.now in
    let inside : c.in-Some.place ≤ length input = search rules in
    let from : drop c.in-Some.place input ≡ bytes = grind (arith, common_steps) in
    let begins : Begins bytes (entry_of c.in_ok-record.record) rest = search rules in
    let next : NextIs input rest c.then_some-next.result = search rules in
    stands_there input bytes rest c.args.place c.in-Some.place _ c.in-Some.is inside from begins next
