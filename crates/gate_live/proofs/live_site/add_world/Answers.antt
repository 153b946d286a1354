use Rattle.std.proofs.Common.{◌∷◌, [], ◌++◌, ◌∙◌, List, ap, subst, sym}
use Rattle.std.specs.List.{All}
use Rattle.std.proofs.lemmas.List.Elements.{All-push}
use Rattle.live_sockets.specs.Homes.{AreUnused}
use Rattle.live_sockets.proofs.Homes.{unused_more}
use Rattle.gate_live.specs.Sites.{IsUntouched, seeds_of}
use Rattle.gate_live.specs.declared.live_world.LiveWorld.{LiveWorld}
use Rattle.gate_live.proofs.Worlds.{seeds_more}
use Rattle.live_lines.specs.declared.peer.Peer.{Peer}
use Rattle.gate_live.proofs.live_site.add_world.Goals as goal

pub returns-clause-untouched : goal.returns-clause-untouched
returns-clause-untouched g c = λ before.
    let R : Type 0 = g.row.R.Denot in
    subst (λ (ws : List (LiveWorld R Peer)). All (λ (w : LiveWorld R Peer). IsUntouched c.args.upstream w) ws) (sym c.in_ok-push-2.ensures.items) (All-push (λ (w : LiveWorld R Peer). IsUntouched c.args.upstream w) c.args.worlds.now.items c.in_ok-neighbor.world before c.in_ok-neighbor.ensures.untouched)

pub returns-clause-seeds : goal.returns-clause-seeds
returns-clause-seeds g c =
    let R : Type 0 = g.row.R.Denot in
    ap (λ (ws : List (LiveWorld R Peer)). seeds_of ws) c.in_ok-push-2.ensures.items ∙ seeds_more c.args.worlds.now.items c.in_ok-neighbor.world ∙ ap (λ seed. seeds_of c.args.worlds.now.items ++ seed ∷ []) c.in_ok-neighbor.ensures.seed

pub returns-clause-offered : goal.returns-clause-offered
returns-clause-offered g c = λ before.
    subst AreUnused (sym c.in_ok-push.ensures.items) (unused_more c.args.others.now.items c.in_ok-neighbor.neighbor before c.in_ok-neighbor.ensures.offered)
