use Rattle.std.proofs.Common.{◌≡◌, ◌<◌, length, arith, ◌∙◌, length-set, get_or-set_same, get_or-set_other, below_more}
use Rattle.shared_queues.proofs.firsts.all_joined.Goals as goal

pub loop-worker-preserved : goal.loop-worker-preserved
loop-worker-preserved c =
    let long : length c.loop-worker.least ≡ 8 = c.loop-worker.invariant.0 in
    let within : c.loop-worker.worker < length c.loop-worker.least = omega (arith, long, c.loop-worker-test.true) in (
      length-set c.loop-worker.least c.loop-worker.worker c.joined.result ∙ long,
      below_more _ _ (λ w less. get_or-set_other c.loop-worker.least c.loop-worker.worker w c.joined.result 0 (λ e. absurd (omega (arith, e, less))) ∙ c.loop-worker.invariant.1 w less) (get_or-set_same c.loop-worker.least c.loop-worker.worker c.joined.result 0 within ∙ c.joined.ensures),
    )
