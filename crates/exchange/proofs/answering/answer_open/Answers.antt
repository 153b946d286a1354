use Rattle.std.proofs.Common.{◌≡◌, Bool, true, sym, subst, ◌∙◌}
use Rattle.std.specs.Prelude.{OnOk, if◌then◌else◌}
use Rattle.exchange.specs.Answering.{is_direct, answer_directly, answer_through_stages}
use Rattle.exchange.proofs.answering.answer_open.Goals as goal

pub returns-then-is_direct : goal.returns-then-is_direct
returns-then-is_direct c =
    let e : is_direct c.args.status c.args.x.now ≡ true = sym c.is_direct.ensures ∙ c.if-is_direct.true in
    subst (λ (b : Bool). OnOk c.answer_directly.result
    ((if b then answer_directly c.args.n c.args.status c.args.fields.now.pairs c.args.body c.args.x.now c.args.hub.now
    else answer_through_stages c.args.n c.args.status c.args.fields.now.pairs c.args.body c.args.x.now c.args.hub.now)
    ≡ (c.answer_directly.new.x, c.answer_directly.new.hub)))
    (sym e) (rw (c.as_slice.ensures) at c.answer_directly.ensures)
