use Rattle.store_model.proofs.StoreLimits.{full_set, full_register, full_enqueue, full_only}
use Rattle.store_model.proofs.law.full_comes_past_a_limit.Goals as goal

pub returns-clause-set : goal.returns-clause-set
returns-clause-set c = full_set

pub returns-clause-register : goal.returns-clause-register
returns-clause-register c = full_register

pub returns-clause-enqueue : goal.returns-clause-enqueue
returns-clause-enqueue c = full_enqueue

pub returns-clause-only : goal.returns-clause-only
returns-clause-only c = full_only
