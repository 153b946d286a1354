use Rattle.std.proofs.Common.{refl}
use Rattle.abi_links.specs.Judging.{target_of}
use Rattle.abi_links.proofs.laws.worked_judgements.Goals as goal

pub returns-clause-linked : goal.returns-clause-linked
unfolding target_of
returns-clause-linked c = refl

pub returns-clause-one_less : goal.returns-clause-one_less
unfolding target_of
returns-clause-one_less c = refl

pub returns-clause-no_status : goal.returns-clause-no_status
unfolding target_of
returns-clause-no_status c = refl

pub returns-clause-long : goal.returns-clause-long
unfolding target_of
returns-clause-long c = refl

pub returns-clause-lenient : goal.returns-clause-lenient
unfolding target_of
returns-clause-lenient c = refl

pub returns-clause-too_long : goal.returns-clause-too_long
unfolding target_of
returns-clause-too_long c = refl

pub returns-clause-wide_answer : goal.returns-clause-wide_answer
unfolding target_of
returns-clause-wide_answer c = refl

pub returns-clause-growth : goal.returns-clause-growth
unfolding target_of
returns-clause-growth c = refl

pub returns-clause-other_growth : goal.returns-clause-other_growth
unfolding target_of
returns-clause-other_growth c = refl

pub returns-clause-clock : goal.returns-clause-clock
unfolding target_of
returns-clause-clock c = refl

pub returns-clause-narrow_clock : goal.returns-clause-narrow_clock
unfolding target_of
returns-clause-narrow_clock c = refl

pub returns-clause-exit : goal.returns-clause-exit
unfolding target_of
returns-clause-exit c = refl

pub returns-clause-exit_returns : goal.returns-clause-exit_returns
unfolding target_of
returns-clause-exit_returns c = refl

pub returns-clause-unknown : goal.returns-clause-unknown
unfolding target_of
returns-clause-unknown c = refl
