use Rattle.std.proofs.Common.{◌≡◌, ◌∙◌, ℕ, Option, Result, drop, sym, ap, subst}
use Rattle.std.specs.Prelude.{IfOk, IfSome}
use Rattle.std.specs.declared.alloc.AllocError.{AllocError}
use Rattle.gate_io.specs.Passing.{taking}
use Rattle.gate_io.specs.Told.{Gains}
use Rattle.gate_io.specs.declared.event.Sent.{Sent}
use Rattle.gate_io.specs.declared.event.Sent.TheVariants.{Connect, Bytes, Close, Log}
use Rattle.send_queue.specs.Delivery.{IsFilled}
use Rattle.send_queue.specs.Places.{bytes_in}
use Rattle.send_queue.specs.Taking.{rest_of, WasOffered}
use Rattle.send_queue.proofs.Offers.{was_whole, filled_piece}
use Rattle.send_queue.proofs.offer.offer_member.Goals as goal

pub returns-in-Connect-clause-offered : goal.returns-in-Connect-clause-offered
returns-in-Connect-clause-offered g c =
    let whole = (g.W.World.nature c.args.world.now).takes_whole in
    let old = g.W.World.trace c.args.world.now in
    let new = g.W.World.trace c.connect.new.self in
    let is : c.args.member.now ≡ Connect c.in-Connect.line = sym c.member.view_is ∙ ap (rest_of c.member.inside.taken) c.in-Connect.is in
    subst (λ (r : Result (Option ℕ) AllocError). WasOffered whole old c.args.member.now r new) (sym c.none_left.ensures)
    (was_whole whole old new c.args.member.now c.connect.result (λ line side bytes e. cc (is, e))
    (subst (λ (s : Sent). Gains old (taking s c.connect.result) new) (sym is) c.connect.ensures.trace))

pub returns-in-Close-clause-offered : goal.returns-in-Close-clause-offered
returns-in-Close-clause-offered g c =
    let whole = (g.W.World.nature c.args.world.now).takes_whole in
    let old = g.W.World.trace c.args.world.now in
    let new = g.W.World.trace c.close.new.self in
    let is : c.args.member.now ≡ Close c.in-Close.line c.in-Close.side = sym c.member.view_is ∙ ap (rest_of c.member.inside.taken) c.in-Close.is in
    subst (λ (r : Result (Option ℕ) AllocError). WasOffered whole old c.args.member.now r new) (sym c.none_left-in-Close.ensures)
    (was_whole whole old new c.args.member.now c.close.result (λ line side bytes e. cc (is, e))
    (subst (λ (s : Sent). Gains old (taking s c.close.result) new) (sym is) c.close.ensures.trace))

pub returns-in-Log-clause-offered : goal.returns-in-Log-clause-offered
returns-in-Log-clause-offered g c =
    let whole = (g.W.World.nature c.args.world.now).takes_whole in
    let old = g.W.World.trace c.args.world.now in
    let new = g.W.World.trace c.log.new.self in
    let is : c.args.member.now ≡ Log c.in-Log.level c.in-Log.text = sym c.member.view_is ∙ ap (rest_of c.member.inside.taken) c.in-Log.is in
    subst (λ (r : Result (Option ℕ) AllocError). WasOffered whole old c.args.member.now r new) (sym c.none_left-in-Log.ensures)
    (was_whole whole old new c.args.member.now c.log.result (λ line side bytes e. cc (is, e))
    (subst (λ (s : Sent). Gains old (taking s c.log.result) new) (ap (Log c.in-Log.level) c.as_slice.ensures ∙ sym is) c.log.ensures.trace))

pub returns-in-Bytes-clause-offered : goal.returns-in-Bytes-clause-offered
returns-in-Bytes-clause-offered g c =
    let whole = (g.W.World.nature c.args.world.now).takes_whole in
    let old = g.W.World.trace c.args.world.now in
    let new = g.W.World.trace c.offer_piece.new.world in
    let is : c.args.member.now ≡ Bytes c.in-Bytes.line c.in-Bytes.side (drop c.member.inside.taken c.in-Bytes.bytes) = sym c.member.view_is ∙ ap (rest_of c.member.inside.taken) c.in-Bytes.is in
    let same : Bytes c.in-Bytes.line c.in-Bytes.side c.rest.result.now ≡ c.args.member.now = ap (Bytes c.in-Bytes.line c.in-Bytes.side) (c.rest.ensures ∙ ap bytes_in is) ∙ sym is in
    subst (λ (s : Sent). WasOffered {E = AllocError} whole old s c.offer_piece.result new) same c.offer_piece.ensures.offered

pub returns-in-Bytes-clause-some : goal.returns-in-Bytes-clause-some
returns-in-Bytes-clause-some g c =
    let is : c.args.member.now ≡ Bytes c.in-Bytes.line c.in-Bytes.side (drop c.member.inside.taken c.in-Bytes.bytes) = sym c.member.view_is ∙ ap (rest_of c.member.inside.taken) c.in-Bytes.is in
    let same : Bytes c.in-Bytes.line c.in-Bytes.side c.rest.result.now ≡ c.args.member.now = ap (Bytes c.in-Bytes.line c.in-Bytes.side) (c.rest.ensures ∙ ap bytes_in is) ∙ sym is in
    subst (λ (s : Sent). IfOk c.offer_piece.result (λ taken. IfSome taken (λ n. IsFilled (rest_of n s)))) same
    (filled_piece c.offer_piece.result c.in-Bytes.line c.in-Bytes.side c.rest.result.now c.offer_piece.ensures.some)
