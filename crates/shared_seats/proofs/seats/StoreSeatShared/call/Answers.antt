use Rattle.std.proofs.Common.{[], ◌∷◌, refl, subst}
use Rattle.store_model.specs.Made.{made}
use Rattle.shared_seats.specs.Moving.{SeatsGoOn}
use Rattle.shared_seats.specs.Seats.{SeatsOf}
use Rattle.shared_seats.proofs.Calls.{call_goes, call_refused}
use Rattle.shared_seats.proofs.One.{ok_more, err_more}
use Rattle.shared_seats.proofs.seats.StoreSeatShared.call.Goals as goal

pub returns-clause-done : goal.returns-clause-done
returns-clause-done g c = let places = c.self.inside.metrics.items in
    let before : SeatsOf = record { stores = c.self.inside.stores; metrics = places } in
    let after : SeatsOf = record { stores = c.ask.new.self; metrics = places } in
    ok_more c.ask.result _ _ (λ r h. subst (λ (s : SeatsOf). SeatsGoOn s (made c.args.vm c.args.call.now r ∷ []) after) c.self.view_is (call_goes before after c.args.vm c.args.call.now r (record { stores = h; metrics = refl }))) c.ask.ensures.done

pub returns-clause-err : goal.returns-clause-err
returns-clause-err g c = let places = c.self.inside.metrics.items in
    let before : SeatsOf = record { stores = c.self.inside.stores; metrics = places } in
    let after : SeatsOf = record { stores = c.ask.new.self; metrics = places } in
    err_more c.ask.result _ _ (λ h. subst (λ (s : SeatsOf). SeatsGoOn s [] after) c.self.view_is (call_refused before after c.args.vm c.args.call.now (record { stores = h; metrics = refl }))) c.ask.ensures.err
