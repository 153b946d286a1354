use Rattle.std.proofs.Common.{refl}
use Rattle.std.specs.Fmt.{digits}
use Rattle.command_statuses.proofs.laws.worked_lines.Goals as goal

pub returns-clause-configuration : goal.returns-clause-configuration
unfolding digits
returns-clause-configuration c = refl

pub returns-clause-entry : goal.returns-clause-entry
unfolding digits
returns-clause-entry c = refl

pub returns-clause-unread : goal.returns-clause-unread
unfolding digits
returns-clause-unread c = refl

pub returns-clause-called : goal.returns-clause-called
unfolding digits
returns-clause-called c = refl

pub returns-clause-script : goal.returns-clause-script
unfolding digits
returns-clause-script c = refl

pub returns-clause-bad_header : goal.returns-clause-bad_header
unfolding digits
returns-clause-bad_header c = refl

pub returns-clause-bad_integer : goal.returns-clause-bad_integer
unfolding digits
returns-clause-bad_integer c = refl

pub returns-clause-bad_section : goal.returns-clause-bad_section
unfolding digits
returns-clause-bad_section c = refl

pub returns-clause-bad_opcode : goal.returns-clause-bad_opcode
unfolding digits
returns-clause-bad_opcode c = refl

pub returns-clause-float : goal.returns-clause-float
unfolding digits
returns-clause-float c = refl

pub returns-clause-bad_name : goal.returns-clause-bad_name
unfolding digits
returns-clause-bad_name c = refl

pub returns-clause-size : goal.returns-clause-size
unfolding digits
returns-clause-size c = refl

pub returns-clause-limit : goal.returns-clause-limit
unfolding digits
returns-clause-limit c = refl
