use Rattle.std.proofs.Common.{◌≡◌, subst, sym}
use Rattle.std.proofs.lemmas.Result.{IfOk-weaker}
use Rattle.gate_io.specs.Told.{Gains}
use Rattle.live_lines.specs.Heard.{bytes_heard}
use Rattle.live_lines.specs.Told.{bytes_told}
use Rattle.live_lines.specs.Turns.{IsToldOf}
use Rattle.live_lines.specs.declared.duplex.Heard.{Heard}
use Rattle.live_lines.proofs.Turns.{told_weaker}
use Rattle.live_lines.proofs.line.told.Goals as goal

pub returns-clause-gave : goal.returns-clause-gave
returns-clause-gave g c =
    let gave = g.P.Duplex.gave in
    let old = gave c.args.peer.now in
    let new = gave c.read-heard.new.self in
    let heard = bytes_heard c.read-heard.new.room.bytes.items c.read-heard.result in
    IfOk-weaker c.event_of.result (λ told. bytes_told told ≡ heard) (λ told. Gains old (bytes_told told) new) (λ told same. subst (λ bytes. Gains old bytes new) (sym same) c.read-heard.ensures.gave) c.event_of.ensures.bytes

pub returns-clause-told : goal.returns-clause-told
returns-clause-told g c =
    let reads = g.P.Duplex.reads in
    let old = c.args.peer.now in
    let new = c.read-heard.new.self in
    let heard = c.read-heard.result in
    IfOk-weaker c.event_of.result (IsToldOf (λ (given : Heard). heard ≡ given)) (IsToldOf (λ (given : Heard). reads old given new)) (told_weaker (λ given. heard ≡ given) (λ given. reads old given new) (λ given same. subst (λ (h : Heard). reads old h new) same c.read-heard.ensures.reads)) c.event_of.ensures.told
