use Rattle.test_metrics.proofs.threads.raise_once.Goals as goal

pub returns-in_err-call-2-clause-made : goal.returns-in_err-call-2-clause-made
returns-in_err-call-2-clause-made g c = (_, g.met.S.Shared.joined _ _ _ _ _ c.in_ok-call.ensures.done c.in_err-call-2.ensures.err)

pub returns-clause-made : goal.returns-clause-made
returns-clause-made g c = (_, g.met.S.Shared.joined _ _ _ _ _ c.in_ok-call.ensures.done c.in_ok-call-2.ensures.done)
