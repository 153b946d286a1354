use Rattle.std.proofs.Common.{◌≡◌, ◌∙◌, ap}
use Rattle.exchange.specs.declared.types.Exchange.{Exchange}
use Rattle.exchange.specs.Heads.{path_of, route_in}
use Rattle.h1_head.specs.Seen.{seen_head}
use Rattle.worker_model.specs.Plan.{plan_of}
use Rattle.worker_model.specs.Room.{Room}
use Rattle.worker_model.specs.Steps.{exchange_for, free_place, on_line, with_exchange}
use Rattle.worker_room.proofs.room.Room.begin_exchange.Goals as goal

pub returns : goal.returns
returns c =
    let room : Room = record { lines = c.self.inside.lines; hub = c.self.inside.hub; reading = c.self.inside.reading; jobs = c.self.inside.jobs; agenda = c.self.inside.agenda; waits = c.self.inside.waits; dead = c.self.inside.dead; is_begun = c.self.inside.is_begun; calls = c.self.inside.calls; tcp = c.self.inside.tcp } in
    let x_is : c.in_ok-x.x ≡ exchange_for (plan_of c.args.rules.now) (free_place room.hub.contexts) room.hub.moment room.dead (seen_head c.args.head)
    (route_in (plan_of c.args.rules.now).routes (path_of (seen_head c.args.head).fields))
    = (rw c.as_slice.ensures at c.in_ok-x.ensures)
    ∙ (λ i. exchange_for (plan_of c.args.rules.now) (c.free_place-place.ensures i) room.hub.moment room.dead (seen_head c.args.head) (c.path_route-route.ensures i)) in
    rw (← c.self.view_is) (λ i. record room {
      lines = (c.begin.ensures ∙ ap (λ (x : Exchange). on_line (with_exchange x) c.args.number room.lines) x_is) i;
      hub = record room.hub { contexts = c.in_ok-open_exchange.ensures.ok i };
    })
