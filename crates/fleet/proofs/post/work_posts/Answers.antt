use Rattle.std.proofs.Common.{◌≡◌, ◌∙◌, ◌++◌, ◌<◌, ℕ, List, take, drop, length, subst, sym, ap, slice_index_or}
use Rattle.fleet.specs.Fleet.{Each, HasWorked}
use Rattle.fleet.specs.Lives.{first_of}
use Rattle.fleet.specs.declared.post.Post.{Post}
use Rattle.fleet.proofs.Eaches.{written, each_from}
use Rattle.fleet.proofs.post.work_posts.Goals as goal

pub returns-clause-each : goal.returns-clause-each
returns-clause-each g c =
    let P : Type 0 = Post g.row.W.Denot in
    let R : P → P → Type 0 = HasWorked g.W.World.trace g.W.World.nature g.W.World.faults g.H.Host.calling (first_of g.H.Host.exported g.H.Host.registering c.args.config.now (g.M.MakesHost.made c.args.maker.now c.args.config.now)) in
    let old : List P = c.args.posts.now.items in
    let new : List P = c.work_all.new.posts in
    let slice = c.as_mut_slice.ensures.value in
    let long : length new ≡ length old = c.work_all.auto.posts ∙ ap (λ (l : List P). length l) slice in
    let now : take c.args.posts.now.len (new ++ drop (length new) old) ≡ new = written c.args.posts.now.len new old long c.args.posts.now.ok.0 in
    let worked = subst (λ (l : List P). (k : ℕ) (d : P) → k < length l → R (slice_index_or l k d) (slice_index_or new k d)) slice c.work_all.ensures in
    subst (λ (l : List P). Each R old l) (sym now) (each_from R old new long worked)
