use Rattle.transcripts.proofs.Openings.{granted_open, refused_open, cleared, first_stand}
use Rattle.transcripts.proofs.laws.the_records_say_what_is_open.Goals as goal

pub returns-clause-a_granted_open_ends_what_was_before : goal.returns-clause-a_granted_open_ends_what_was_before
returns-clause-a_granted_open_ends_what_was_before c = granted_open

pub returns-clause-a_refused_open_changes_nothing : goal.returns-clause-a_refused_open_changes_nothing
returns-clause-a_refused_open_changes_nothing c = refused_open

pub returns-clause-the_first_of_fitting_width_stand : goal.returns-clause-the_first_of_fitting_width_stand
returns-clause-the_first_of_fitting_width_stand c = first_stand

pub returns-clause-a_clear_ends_the_senses_before : goal.returns-clause-a_clear_ends_the_senses_before
returns-clause-a_clear_ends_the_senses_before c = cleared
