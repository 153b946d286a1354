use Rattle.std.proofs.Common.{◌≡◌, ℕ, Option, Some, length, vec_len, subst, arith}
use Rattle.std.specs.Prelude.{IfSome}
use Rattle.gate_io.specs.declared.event.What.{What}
use Rattle.live_lines.specs.Lines.{IsHeardAt, HeardNext, next_place}
use Rattle.live_sockets.proofs.Kept.{next_heard}
use Rattle.live_sockets.proofs.sockets.Sockets.heard.Goals as goal

pub returns-in-Some-2-clause-heard : goal.returns-in-Some-2-clause-heard
returns-in-Some-2-clause-heard g c =
    let gave = g.P.Duplex.gave in
    let took = g.P.Duplex.took in
    let first = c.args.self.now.lines.items in
    let lines = c.loop.self.lines.items in
    let next = c.loop.self.next in
    let what = c.in-Some-2.what in
    let new = c.heard_next.new.self.lines.items in
    let counted : vec_len c.loop.self.lines ≡ length lines = (let ok = c.loop.self.lines.ok.0 in omega (arith, ok)) in
    let of : IsHeardAt lines (next_place next (length lines)) what =
    subst (λ (n : ℕ). IsHeardAt lines (next_place next n) what) counted (subst (λ (told : Option What). IfSome told (IsHeardAt lines (next_place next (vec_len c.loop.self.lines)))) c.in-Some-2.is c.in_ok-what.ensures.of) in
    let heard : HeardNext gave took lines next (Some what) new = subst (λ (told : Option What). HeardNext gave took lines next told new) c.in-Some-2.is c.in_ok-what.ensures.heard in
    next_heard gave took first lines next what new c.loop.invariant.kept of heard
