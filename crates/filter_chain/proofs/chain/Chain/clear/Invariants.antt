use Rattle.std.proofs.Common.{◌≡◌, drop}
use Rattle.filter_chain.specs.Chains.{without_buffers}
use Rattle.filter_chain.proofs.chain.Chain.clear.Given as goal

-- the stages so far are let go of
abbrev pub invariant-loop-stage : goal.invariant-loop-stage
invariant-loop-stage l = without_buffers l.contexts (drop l.stage-index l.stage-items) ≡ without_buffers l.fn.contexts l.stage-items
