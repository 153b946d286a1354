use Rattle.std.proofs.Common.{◌<◌, rules}
use Rattle.std.proofs.lemmas.Fn.{All-from_retain}
use Rattle.live_lines.specs.declared.lingering.Lingering.{Lingering}
use Rattle.live_sockets.proofs.sockets.Sockets.drain.Goals as goal

pub returns-clause-over : goal.returns-clause-over
returns-clause-over g c =
    let P : Type 0 = g.row.P.Denot in
    All-from_retain _ (λ (closed : Lingering P). c.args.now < closed.until) _ (λ x b f' k. search rules) _ _ c.retain.ensures.filtered
