use Rattle.std.proofs.Common.{◌<◌, length, map, sym, subst, ◌∙◌}
use Rattle.atomic_table.proofs.Lists.{at_index}
use Rattle.store_model.specs.History.{store_acts}
use Rattle.turn_table.specs.Seats.{Called, Refused}
use Rattle.shared_store.specs.Tables.{AreNumbered, table_of}
use Rattle.shared_store.proofs.One.{tables_kept, one_went, ok_more, err_more}
use Rattle.shared_store.proofs.seats.StoreSeat.ask.Goals as goal

pub invariant_of-self : goal.invariant_of-self
invariant_of-self g c =
    let seats = c.self.inside.seats.items in let k = c.get-at.result in
    let inside : k < length seats = subst (λ n. n < length seats) (sym c.get-at.ensures.number) (subst (λ l. c.args.vm < length l) (sym c.self.view_is) c.requires) in
    let at = at_index seats k c.index_mut-seat.result.now inside c.index_mut-seat.ensures.value in
    tables_kept seats k c.index_mut-seat.result.now c.with_turn.new.seat at c.with_turn.ensures.same ∙ c.self.invariant

pub returns-clause-done : goal.returns-clause-done
returns-clause-done g c =
    let seats = c.self.inside.seats.items in let k = c.get-at.result in
    let inside : k < length seats = subst (λ n. n < length seats) (sym c.get-at.ensures.number) (subst (λ l. c.args.vm < length l) (sym c.self.view_is) c.requires) in
    let at = at_index seats k c.index_mut-seat.result.now inside c.index_mut-seat.ensures.value in
    let numbered : AreNumbered (map table_of seats) = subst AreNumbered (c.tables.view_is ∙ sym c.self.invariant) c.tables.invariant.0 in
    ok_more c.with_turn.result _ _ (λ r h. one_went c.args.self.now seats c.args.vm k c.index_mut-seat.result.now c.with_turn.new.seat (λ v w. Called store_acts v w c.args.call.now r) c.self.view_is c.get-at.ensures.number numbered at c.with_turn.ensures.same h) c.with_turn.ensures.done

pub returns-clause-err : goal.returns-clause-err
returns-clause-err g c =
    let seats = c.self.inside.seats.items in let k = c.get-at.result in
    let inside : k < length seats = subst (λ n. n < length seats) (sym c.get-at.ensures.number) (subst (λ l. c.args.vm < length l) (sym c.self.view_is) c.requires) in
    let at = at_index seats k c.index_mut-seat.result.now inside c.index_mut-seat.ensures.value in
    let numbered : AreNumbered (map table_of seats) = subst AreNumbered (c.tables.view_is ∙ sym c.self.invariant) c.tables.invariant.0 in
    err_more c.with_turn.result _ _ (λ h. one_went c.args.self.now seats c.args.vm k c.index_mut-seat.result.now c.with_turn.new.seat (λ v w. Refused store_acts v w c.args.call.now) c.self.view_is c.get-at.ensures.number numbered at c.with_turn.ensures.same h) c.with_turn.ensures.err
