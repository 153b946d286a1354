use Rattle.law_vms.proofs.Frames.{count_together, need_a_frame, frame_examples}
use Rattle.law_vms.proofs.laws.frames_count_together.Goals as goal

pub returns-clause-runs : goal.returns-clause-runs
returns-clause-runs c = count_together

pub returns-clause-allocations : goal.returns-clause-allocations
returns-clause-allocations c = need_a_frame

pub returns-clause-worked : goal.returns-clause-worked
returns-clause-worked c = frame_examples
