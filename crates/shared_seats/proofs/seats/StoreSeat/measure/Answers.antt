use Rattle.std.proofs.Common.{◌<◌, length, length-set, ap, ◌∙◌, arith}
use Rattle.atomic_table.proofs.Lists.{at_index}
use Rattle.metric_seats.specs.Places.{Asked, PlaceStays}
use Rattle.shared_seats.specs.Seats.{SeatsOf}
use Rattle.shared_seats.proofs.One.{places_kept, one_went, ok_more, err_more}
use Rattle.shared_seats.proofs.seats.StoreSeat.measure.Goals as goal

pub invariant_of-self : goal.invariant_of-self
invariant_of-self g c =
    let places = c.self.inside.metrics.items in let k = c.get-at.result in
    let inside : k < length places = (let a = c.requires in let b = c.get-at.ensures.number in let d = c.self.invariant.as_many in let e = ap (λ (s : SeatsOf). length s.stores) c.self.view_is in omega arith) in
    let at = at_index places k c.index_mut-place.result.now inside c.index_mut-place.ensures.value in record {
      places = places_kept places k c.index_mut-place.result.now c.ask.new.place at c.ask.ensures.same ∙ c.self.invariant.places;
      as_many = length-set places k c.ask.new.place ∙ c.self.invariant.as_many;
    }

pub returns-clause-done : goal.returns-clause-done
returns-clause-done g c =
    let places = c.self.inside.metrics.items in let k = c.get-at.result in
    let inside : k < length places = (let a = c.requires in let b = c.get-at.ensures.number in let d = c.self.invariant.as_many in let e = ap (λ (s : SeatsOf). length s.stores) c.self.view_is in omega arith) in
    let at = at_index places k c.index_mut-place.result.now inside c.index_mut-place.ensures.value in
    ok_more c.ask.result _ _ (λ r h. one_went c.args.self.now c.self.inside.stores places c.args.vm k c.index_mut-place.result.now c.ask.new.place (λ v w. Asked v c.args.ask.now r w) c.self.view_is c.get-at.ensures.number at c.ask.ensures.same h) c.ask.ensures.done

pub returns-clause-err : goal.returns-clause-err
returns-clause-err g c =
    let places = c.self.inside.metrics.items in let k = c.get-at.result in
    let inside : k < length places = (let a = c.requires in let b = c.get-at.ensures.number in let d = c.self.invariant.as_many in let e = ap (λ (s : SeatsOf). length s.stores) c.self.view_is in omega arith) in
    let at = at_index places k c.index_mut-place.result.now inside c.index_mut-place.ensures.value in
    err_more c.ask.result _ _ (λ h. one_went c.args.self.now c.self.inside.stores places c.args.vm k c.index_mut-place.result.now c.ask.new.place PlaceStays c.self.view_is c.get-at.ensures.number at c.ask.ensures.same h) c.ask.ensures.err
