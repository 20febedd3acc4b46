use Rattle.records.proofs.Streams.{is_read, one_list, one_ending, up_to_its_ending}
use Rattle.records.proofs.laws.every_input_is_read_in_one_way.Goals as goal

pub returns-clause-it_is_read : goal.returns-clause-it_is_read
returns-clause-it_is_read c = is_read

pub returns-clause-as_one_list : goal.returns-clause-as_one_list
returns-clause-as_one_list c = one_list

pub returns-clause-with_one_ending : goal.returns-clause-with_one_ending
returns-clause-with_one_ending c = one_ending

pub returns-clause-the_records_are_the_input_up_to_the_ending :
    goal.returns-clause-the_records_are_the_input_up_to_the_ending
returns-clause-the_records_are_the_input_up_to_the_ending c = up_to_its_ending
