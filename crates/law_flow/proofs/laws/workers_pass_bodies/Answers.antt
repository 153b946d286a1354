use Rattle.law_flow.proofs.Rooms.{last_stages, meanwhile_runs, own_parts_send, runs_go_on, unchanged_bodies, workers_pass}
use Rattle.law_flow.proofs.laws.workers_pass_bodies.Goals as goal

pub returns-clause-deeds : goal.returns-clause-deeds
returns-clause-deeds g c = workers_pass _

pub returns-clause-last_stage : goal.returns-clause-last_stage
returns-clause-last_stage g c = last_stages _

pub returns-clause-unchanged : goal.returns-clause-unchanged
returns-clause-unchanged g c = unchanged_bodies _

pub returns-clause-meanwhile : goal.returns-clause-meanwhile
returns-clause-meanwhile g c = meanwhile_runs _

pub returns-clause-goes_on : goal.returns-clause-goes_on
returns-clause-goes_on g c = runs_go_on _

pub returns-clause-sends : goal.returns-clause-sends
returns-clause-sends g c = own_parts_send _
