use Rattle.std.proofs.Common.{◌∙◌, ◌++◌, ap, sym}
use Rattle.std.proofs.lemmas.List.{append-nil}
use Rattle.contexts.specs.Reached.{seen}
use Rattle.abi_model.specs.Writing.{Writes}
use Rattle.abi_services.proofs.Lines.{too_long}
use Rattle.abi_services.proofs.logging.proxy_log.Goals as goal

pub returns-then-is_too_long-clause-ends : goal.returns-then-is_too_long-clause-ends
returns-then-is_too_long-clause-ends g c =
    ap (λ (w : Writes). w.called) (too_long c.args.args.now (g.G.Guest.at c.args.guest.now) (seen c.args.contexts.now c.args.vm) (sym c.is_too_long.ensures ∙ c.if-is_too_long.true))

pub returns-then-is_too_long-clause-lines : goal.returns-then-is_too_long-clause-lines
returns-then-is_too_long-clause-lines g c =
    sym (append-nil c.args.logs.now)
    ∙ ap (λ (w : Writes). c.args.logs.now ++ w.lines) (sym (too_long c.args.args.now (g.G.Guest.at c.args.guest.now) (seen c.args.contexts.now c.args.vm) (sym c.is_too_long.ensures ∙ c.if-is_too_long.true)))
