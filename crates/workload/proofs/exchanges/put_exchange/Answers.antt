use Rattle.std.proofs.Common.{◌∙◌, List, [], ◌∷◌, ◌++◌, ℕ, ap}
use Rattle.gate_io.specs.declared.event.Event.{Event}
use Rattle.gate_io.specs.declared.event.Side.TheVariants.{Down, Up}
use Rattle.gate_io.specs.declared.event.What.TheVariants.{Bytes}
use Rattle.workload.specs.Events.{at_start}
use Rattle.workload.proofs.Sharing.{four}
use Rattle.workload.proofs.exchanges.put_exchange.Goals as goal

pub returns : goal.returns
returns c =
    let p : List Event = c.put.new.events.items in
    let q : List Event = c.put-2.new.events.items in
    four c.args.events.now.items p q c.put-3.new.events.items c.put-4.new.events.items _ _ _ _ c.in_ok-put.ensures
    (c.in_ok-put-2.ensures ∙ ap (λ (t : List ℕ). p ++ at_start (Bytes c.args.line Down t) ∷ []) c.in_ok-request.ensures)
    (c.in_ok-put-3.ensures ∙ ap (λ (t : List ℕ). q ++ at_start (Bytes c.args.line Up t) ∷ []) c.in_ok-answer.ensures)
    c.in_ok-put-4.ensures
