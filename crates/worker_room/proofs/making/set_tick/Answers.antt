use Rattle.std.proofs.Common.{◌∙◌, ap}
use Rattle.contexts.specs.declared.parts.Contexts.{Contexts}
use Rattle.contexts.specs.Reached.{put, no_changes}
use Rattle.std.specs.Prelude.{Some}
use Rattle.worker_room.proofs.Places.{tick_known, ok_of}
use Rattle.worker_room.proofs.making.set_tick.Goals as goal

pub returns : goal.returns
returns c = λ some.
    c.set_tick.ensures
    ∙ ap (λ (h : Contexts). put (record no_changes { tick = Some (Some c.args.t) }) c.args.vm h)
    (ok_of c.set_effective.result (c.set_effective.ensures.known ∙ tick_known c.args.root _ some) c.set_effective.ensures.ok)
