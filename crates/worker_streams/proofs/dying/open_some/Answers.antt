use Rattle.std.proofs.Common.{◌≡◌, ◌-◌, suc, ap, sym, ◌∙◌, ℕ, arith}
use Rattle.streams_model.specs.Lines.{bypass_vm_stages}
use Rattle.worker_streams.proofs.dying.open_some.Goals as goal

pub loop-at-preserved : goal.loop-at-preserved
loop-at-preserved c =
    let e : c.loop-at.at ≡ suc (c.loop-at.at - 1) = omega arith in
    ap (bypass_vm_stages c.args.response c.args.vm (c.loop-at.at - 1)) (sym c.in_ok-open_at.ensures)
    ∙ ap (λ (m : ℕ). bypass_vm_stages c.args.response c.args.vm m (c.loop-at.s, c.loop-at.hub)) (sym e) ∙ c.loop-at.invariant
