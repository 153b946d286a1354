use Rattle.std.proofs.Common.{◌≡◌, ◌-◌, suc, ap, sym, ◌∙◌, ℕ, arith}
use Rattle.filter_host.specs.Runs.{cut_short, goes_as, goes_then, goes_part, then_part}
use Rattle.worker_model.specs.Plan.{plan_of}
use Rattle.worker_model.specs.Settling.{is_rest}
use Rattle.streams_model.specs.Settling.{settling, settling_step, settling_rest}
use Rattle.worker_streams.proofs.turning.take_steps.Goals as goal

pub returns-then-is_rest-clause-run : goal.returns-then-is_rest-clause-run
returns-then-is_rest-clause-run g c =
    let e : c.loop-left.left ≡ suc (c.loop-left.left - 1) = omega arith in
    goes_as c.loop-left.invariant.run
    (ap (λ (n : ℕ). settling g.H.Host.calling (plan_of c.args.rules.now) n c.loop-left.host c.loop-left.room) e
    ∙ settling_rest g.H.Host.calling (plan_of c.args.rules.now) (c.loop-left.left - 1) c.next-next.result c.loop-left.host c.loop-left.room (sym c.next-next.ensures) (sym c.is_rest.ensures ∙ c.if-is_rest.true))

pub loop-left-preserved : goal.loop-left-preserved
loop-left-preserved g c =
    let e : c.loop-left.left ≡ suc (c.loop-left.left - 1) = omega arith in
    record {
      needs = c.in_ok-step.ensures.needs ∙ c.loop-left.invariant.needs;
      stores = c.in_ok-step.ensures.stores ∙ c.loop-left.invariant.stores;
      run =
          then_part g.met.S.Shared.joined (λ b. settling g.H.Host.calling (plan_of c.args.rules.now) (c.loop-left.left - 1) b.host b.room)
          (goes_as c.loop-left.invariant.run
          (ap (λ (n : ℕ). settling g.H.Host.calling (plan_of c.args.rules.now) n c.loop-left.host c.loop-left.room) e
          ∙ settling_step g.H.Host.calling (plan_of c.args.rules.now) (c.loop-left.left - 1) c.next-next.result c.loop-left.host c.loop-left.room (sym c.next-next.ensures) (sym c.is_rest.ensures ∙ c.if-is_rest.false)))
          c.in_ok-step.ensures.run;
    }

pub returns-in_err-step-clause-run : goal.returns-in_err-step-clause-run
returns-in_err-step-clause-run g c =
    let e : c.loop-left.left ≡ suc (c.loop-left.left - 1) = omega arith in
    cut_short _ c.from_residual.result c.from_residual.ensures.0
    (goes_then g.met.S.Shared.joined
    (goes_as c.loop-left.invariant.run
    (ap (λ (n : ℕ). settling g.H.Host.calling (plan_of c.args.rules.now) n c.loop-left.host c.loop-left.room) e
    ∙ settling_step g.H.Host.calling (plan_of c.args.rules.now) (c.loop-left.left - 1) c.next-next.result c.loop-left.host c.loop-left.room (sym c.next-next.ensures) (sym c.is_rest.ensures ∙ c.if-is_rest.false)))
    (goes_part (λ b. settling g.H.Host.calling (plan_of c.args.rules.now) (c.loop-left.left - 1) b.host b.room) c.in_err-step.ensures.run.1))

pub returns-then-is_rest-clause-rest : goal.returns-then-is_rest-clause-rest
returns-then-is_rest-clause-rest g c = ap is_rest (sym c.next-next.ensures) ∙ (sym c.is_rest.ensures ∙ c.if-is_rest.true)

-- all steps are spent: it is cut short
pub returns-clause-run : goal.returns-clause-run
returns-clause-run g c = (_, c.loop-left.invariant.run)
