use Rattle.std.proofs.Common.{refl}
use Rattle.std.specs.Fmt.{digits}
use Rattle.hex.specs.Hex.{encode_with}
use Rattle.replay_script.proofs.laws.worked_lines.Goals as goal

pub returns-clause-open : goal.returns-clause-open
unfolding digits
returns-clause-open c = refl

pub returns-clause-bytes : goal.returns-clause-bytes
unfolding digits encode_with
returns-clause-bytes c = refl

pub returns-clause-end : goal.returns-clause-end
unfolding digits
returns-clause-end c = refl

pub returns-clause-script : goal.returns-clause-script
unfolding digits
returns-clause-script c = refl

pub returns-clause-print : goal.returns-clause-print
unfolding digits encode_with
returns-clause-print c = refl

pub returns-clause-log : goal.returns-clause-log
unfolding encode_with
returns-clause-log c = refl

pub returns-clause-at : goal.returns-clause-at
unfolding digits
returns-clause-at c = refl

pub returns-clause-gone : goal.returns-clause-gone
unfolding digits
returns-clause-gone c = refl

pub returns-clause-joined : goal.returns-clause-joined
unfolding digits
returns-clause-joined c = refl

pub returns-clause-refused : goal.returns-clause-refused
unfolding digits
returns-clause-refused c = refl

pub returns-clause-upbytes : goal.returns-clause-upbytes
unfolding digits encode_with
returns-clause-upbytes c = refl

pub returns-clause-upend : goal.returns-clause-upend
unfolding digits
returns-clause-upend c = refl

pub returns-clause-upgone : goal.returns-clause-upgone
unfolding digits
returns-clause-upgone c = refl

pub returns-clause-on : goal.returns-clause-on
unfolding digits
returns-clause-on c = refl

pub returns-clause-by_worker : goal.returns-clause-by_worker
unfolding digits
returns-clause-by_worker c = refl

pub returns-clause-trace : goal.returns-clause-trace
unfolding encode_with
returns-clause-trace c = refl

pub returns-clause-debug : goal.returns-clause-debug
unfolding encode_with
returns-clause-debug c = refl

pub returns-clause-warn : goal.returns-clause-warn
unfolding encode_with
returns-clause-warn c = refl

pub returns-clause-error : goal.returns-clause-error
unfolding encode_with
returns-clause-error c = refl

pub returns-clause-critical : goal.returns-clause-critical
unfolding encode_with
returns-clause-critical c = refl
