use Rattle.std.proofs.Common.{◌≡◌, List, None, inl, refl, subst}
use Rattle.std.specs.Prelude.{◌==◌}
use Rattle.std.specs.List.{position}
use Rattle.live_lines.specs.declared.line.SocketPair.{SocketPair}
use Rattle.live_sockets.proofs.sockets.Sockets.send.Goals as goal

pub returns-in_default-clause-sent : goal.returns-in_default-clause-sent
returns-in_default-clause-sent g c =
    let P : Type 0 = g.row.P.Denot in
    let same : c.deref.result.now ≡ c.args.self.now.lines.items = (let h = c.deref.ensures.value in cc) in
    inl (subst (λ (ls : List (SocketPair P)). position (λ (line : SocketPair P). line.number == c.args.number) ls ≡ None) same c.in_default.ensures.none, refl)
