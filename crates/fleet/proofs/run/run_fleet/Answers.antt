use Rattle.std.proofs.Common.{arith, ◌≡◌, ◌≤◌, ◌∙◌, ℕ, List, length, map, reverse, subst, sym, IfOk, IfErr, Result, Some}
use Rattle.gate_config.specs.declared.config.Config.{Config}
use Rattle.shared_seats.specs.Closed.{ClosedOf}
use Rattle.shared_seats.specs.Seats.{SeatsOf, TablesOf}
use Rattle.shared_seats.specs.Workers.{AreAll, AreNew, AreShut}
use Rattle.fleet.specs.declared.run.FleetEnd.{FleetEnd}
use Rattle.fleet.specs.Moves.{seats_in, world_in}
use Rattle.fleet.specs.Run.{AnyRose, Worked, end_of}
use Rattle.fleet.specs.Lives.{first_of}
use Rattle.fleet.specs.declared.post.Post.{Post}
use Rattle.fleet.proofs.Causes.{some_failed}
use Rattle.fleet.proofs.Faults.{worlds_rose}
use Rattle.fleet.proofs.Posting.{all_ready, all_went, as_many_metrics, as_many_stores, as_many_worlds, ran}
use Rattle.fleet.proofs.run.run_fleet.Goals as goal

pub work_posts-requires-clause-ready : goal.work_posts-requires-clause-ready
work_posts-requires-clause-ready g c κs within =
    let config : Config = c.args.config.now in
    let tables : TablesOf = c.in-Ok-make.tables in
    let low : length config.vms ≤ length tables.stores = (let a = c.in-Ok-make.ensures.tables in let b = c.count_of-vms.ensures.count in omega (arith, a, b)) in
    all_ready {W = g.row.W.Denot} tables config c.post_all.new.posts.items c.in-Ok-make.lists.items low c.post_all.ensures.lists c.in-Ok-make.ensures.at

pub finish-requires : goal.finish-requires
finish-requires g c =
    let tables : TablesOf = c.in-Ok-make.tables in
    let before : List (Post g.row.W.Denot) = c.post_all.new.posts.items in
    let after : List (Post g.row.W.Denot) = c.work_posts.new.posts.items in
    let went = all_went g.W.World.trace g.W.World.nature g.W.World.faults g.H.Host.calling (first_of g.H.Host.exported g.H.Host.registering c.args.config.now (g.M.MakesHost.made c.args.maker.now c.args.config.now)) before after c.work_posts.ensures.each in
    let all = subst (λ (ls : List SeatsOf). AreAll tables ls) (sym c.post_all.ensures.lists) c.in-Ok-make.ensures.all in
    subst (λ (ls : List SeatsOf). AreAll tables ls) (sym c.hand_back.ensures.lists) (c.no_seat_gets_lost.ensures tables (reverse (map seats_in before)) (reverse (map seats_in after)) all went)

pub returns-clause-ran : goal.returns-clause-ran
returns-clause-ran g c =
    let tables : TablesOf = c.in-Ok-make.tables in
    let before : List (Post g.row.W.Denot) = c.post_all.new.posts.items in
    let after : List (Post g.row.W.Denot) = c.work_posts.new.posts.items in
    let worked : Worked g.W.World.trace g.W.World.nature g.W.World.faults g.H.Host.calling (first_of g.H.Host.exported g.H.Host.registering c.args.config.now (g.M.MakesHost.made c.args.maker.now c.args.config.now)) c.args.config.now c.args.worlds.now.items c.hand_back.new.worlds.items = record {
      tables = tables;
      stores = c.in-Ok-make.ensures.tables ∙ c.count_of-vms.ensures.count;
      metrics = c.in-Ok-make.ensures.metrics ∙ c.count_of-vms.ensures.count;
      numbered = c.in-Ok-make.ensures.numbered;
      before = before;
      after = after;
      old_is = c.post_all.ensures.worlds;
      new_is = c.hand_back.ensures.worlds;
      numbers = c.post_all.ensures.workers;
      seats = subst (λ (ls : List SeatsOf). AreNew tables c.args.config.now.workers ls) (sym c.post_all.ensures.lists) c.in-Ok-make.ensures.lists;
      worked = c.work_posts.ensures.each;
    } in
    let end = subst (λ (l : List (Post g.row.W.Denot)). c.end_of-end.result ≡ end_of l) c.as_slice.ensures.value c.end_of-end.ensures in
    ran g.W.World.trace g.W.World.nature g.W.World.faults g.H.Host.calling (first_of g.H.Host.exported g.H.Host.registering c.args.config.now (g.M.MakesHost.made c.args.maker.now c.args.config.now)) c.args.config.now c.args.worlds.now.items c.hand_back.new.worlds.items c.finish.result c.end_of-end.result worked
    (subst (λ (ls : List SeatsOf). (closed : ClosedOf) × AreShut tables ls closed) c.hand_back.ensures.lists c.finish.ensures.shut)
    (subst (λ (ls : List SeatsOf). IfOk c.finish.result (AreShut tables ls)) c.hand_back.ensures.lists c.finish.ensures.ok)
    end c.finish.ensures.none c.finish.ensures.err

pub returns-clause-fault : goal.returns-clause-fault
returns-clause-fault g c = λ is.
    let W : Type 0 = g.row.W.Denot in
    let f : W → ℕ = g.W.World.faults in
    let before : List (Post W) = c.post_all.new.posts.items in
    let after : List (Post W) = c.work_posts.new.posts.items in
    let ended = subst (λ (r : Result ClosedOf FleetEnd). IfErr r (λ (e : FleetEnd). c.end_of-end.result ≡ Some e)) is c.finish.ensures.err in
    let end = subst (λ (l : List (Post W)). c.end_of-end.result ≡ end_of l) c.as_slice.ensures.value c.end_of-end.ensures in
    let any = some_failed after (sym end ∙ ended) in
    let rose = worlds_rose g.W.World.trace g.W.World.nature f g.H.Host.calling (first_of g.H.Host.exported g.H.Host.registering c.args.config.now (g.M.MakesHost.made c.args.maker.now c.args.config.now)) before after c.work_posts.ensures.each any in
    subst (λ (xs : List W). AnyRose f xs c.hand_back.new.worlds.items) c.post_all.ensures.worlds
    (subst (λ (ys : List W). AnyRose f (reverse (map world_in before)) ys) (sym c.hand_back.ensures.worlds) rose)

pub returns-clause-as_many : goal.returns-clause-as_many
returns-clause-as_many g c =
    as_many_worlds g.W.World.trace g.W.World.nature g.W.World.faults g.H.Host.calling (first_of g.H.Host.exported g.H.Host.registering c.args.config.now (g.M.MakesHost.made c.args.maker.now c.args.config.now))
    c.post_all.new.posts.items c.work_posts.new.posts.items c.args.worlds.now.items c.hand_back.new.worlds.items c.work_posts.ensures.each c.post_all.ensures.worlds c.hand_back.ensures.worlds

pub returns-clause-stores : goal.returns-clause-stores
returns-clause-stores g c =
    as_many_stores c.finish.result c.in-Ok-make.tables c.hand_back.new.lists.items (length c.args.config.now.vms) (c.in-Ok-make.ensures.tables ∙ c.count_of-vms.ensures.count) c.finish.ensures.ok

pub returns-clause-metrics : goal.returns-clause-metrics
returns-clause-metrics g c =
    as_many_metrics c.finish.result c.in-Ok-make.tables c.hand_back.new.lists.items (length c.args.config.now.vms) (c.in-Ok-make.ensures.metrics ∙ c.count_of-vms.ensures.count) c.finish.ensures.ok
