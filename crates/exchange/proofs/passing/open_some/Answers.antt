use Rattle.std.proofs.Common.{◌≡◌, ◌-◌, suc, ap, sym, ◌∙◌, ℕ, arith}
use Rattle.exchange.specs.Passing.{bypass_vm_stages}
use Rattle.exchange.proofs.passing.open_some.Goals as goal

pub loop-k-preserved : goal.loop-k-preserved
loop-k-preserved c =
    let e : c.loop-k.k ≡ suc (c.loop-k.k - 1) = omega arith in
    ap (bypass_vm_stages c.args.response c.args.vm c.args.n (c.loop-k.k - 1)) (sym c.in_ok-open_at.ensures)
    ∙ ap (λ (m : ℕ). bypass_vm_stages c.args.response c.args.vm c.args.n m (c.loop-k.x, c.loop-k.hub)) (sym e) ∙ c.loop-k.invariant
