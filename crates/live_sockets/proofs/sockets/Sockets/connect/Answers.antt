use Rattle.std.proofs.Common.{◌≡◌, List, inr, subst}
use Rattle.std.specs.List.{HoldsAt}
use Rattle.live_lines.specs.declared.line.SocketPair.{SocketPair}
use Rattle.live_sockets.proofs.sockets.Sockets.connect.Goals as goal

pub returns : goal.returns
returns g c =
    let P : Type 0 = g.row.P.Denot in
    let same : c.deref.result.now ≡ c.args.self.now.lines.items = (let h = c.deref.ensures.value in cc) in
    let found = subst (λ (ls : List (SocketPair P)). HoldsAt (λ (line : SocketPair P). line.number ≡ c.args.number) ls c.in-Some.at) same c.in-Some.ensures.found in
    record { connected = inr (inr (c.in-Some.at, found), inr (c.in-Some.at, found, c.join_at.ensures.connected)); begun = inr (inr (c.in-Some.at, found), inr (c.in-Some.at, found, c.join_at.ensures)); err = tt }
