use Rattle.std.proofs.Common.{◌≡◌, ◌∷◌, [], ◌∙◌, List, ℕ, ap, subst, sym}
use Rattle.std.proofs.lemmas.List.Elements.{All-nil}
use Rattle.gate_io.specs.Told.{Gains, gains_more, gains_nothing}
use Rattle.live_lines.specs.declared.peer.Peer.{Peer}
use Rattle.gate_live.specs.Sites.{AreUntouched, IsUntouched, seeds_of}
use Rattle.gate_live.specs.declared.live_world.LiveWorld.{LiveWorld}
use Rattle.gate_live.proofs.Worlds.{all_first}
use Rattle.gate_live.proofs.live_site.fill.Goals as goal

pub returns-clause-untouched : goal.returns-clause-untouched
returns-clause-untouched g c =
    let R : Type 0 = g.row.R.Denot in
    let none : AreUntouched {R = R} {P = Peer} c.args.upstream c.args.worlds.now.items =
    subst (λ (ws : List (LiveWorld R Peer)). AreUntouched {R = R} {P = Peer} c.args.upstream ws) (sym c.requires.none) (All-nil (λ (w : LiveWorld R Peer). IsUntouched c.args.upstream w)) in
    subst (λ (ws : List (LiveWorld R Peer)). AreUntouched {R = R} {P = Peer} c.args.upstream ws) (sym c.in_ok-insert.ensures.items)
    (all_first (λ (w : LiveWorld R Peer). IsUntouched c.args.upstream w) c.in_ok-first.first c.other_worlds.new.worlds.items c.in_ok-first.ensures.untouched (c.in_ok-other_worlds.ensures.untouched none))

pub returns-clause-seeds : goal.returns-clause-seeds
returns-clause-seeds g c =
    let R : Type 0 = g.row.R.Denot in
    let drawn = g.R.SeedSource.drawn in
    let one = drawn c.draw_seed.new.self in
    let none : Gains one (seeds_of c.args.worlds.now.items) one =
    subst (λ (ws : List (LiveWorld R Peer)). Gains one (seeds_of ws) one) (sym c.requires.none) (gains_nothing one) in
    let others = c.other_worlds.new.worlds.items in
    let all = gains_more (drawn c.args.rt.now) (c.in_ok-seed.seed ∷ []) one (seeds_of others) (drawn c.other_worlds.new.rt) c.in_ok-seed.ensures.drawn (c.in_ok-other_worlds.ensures.seeds one none) in
    let same : seeds_of c.insert.new.self.items ≡ c.in_ok-seed.seed ∷ seeds_of others =
    ap (λ (ws : List (LiveWorld R Peer)). seeds_of ws) c.in_ok-insert.ensures.items ∙ ap (λ (seed : List ℕ). seed ∷ seeds_of others) c.in_ok-first.ensures.seed in
    subst (λ (seeds : List (List ℕ)). Gains (drawn c.args.rt.now) seeds (drawn c.other_worlds.new.rt)) (sym same) all
