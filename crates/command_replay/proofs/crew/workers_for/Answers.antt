use Rattle.std.proofs.Common.{◌≡◌, ◌++◌, [], ◌∷◌, ◌+◌, length, rules, subst, sym}
use Rattle.std.specs.Prelude.{All}
use Rattle.std.proofs.lemmas.List.Elements.{All-append, All-cons, All-nil}
use Rattle.command_replay.specs.Replay.{Seated, setup_of}
use Rattle.command_replay.proofs.Starts.{workers_more}
use Rattle.command_replay.proofs.crew.workers_for.Goals as goal

pub loop-n-preserved : goal.loop-n-preserved
loop-n-preserved g c =
    let P = Seated g.H.Host.needs (length c.args.config.now.vms) in
    let worker = c.in_ok-worker_of.field-0 in
    let who_is : c.unwrap-who.result ≡ c.loop-n.n + 1 = search rules in
    let added : c.push.new.self ≡ c.loop-n.workers ++ (worker ∷ []) = c.in_ok-push.ensures.ok in
    record {
      made = workers_more (setup_of g.H.Host.calling g.H.Host.exported g.H.Host.registering c.args.config.now (g.M.MakesHost.made c.args.maker.now c.args.config.now)) c.loop-n.n c.unwrap-who.result c.loop-n.workers
          c.push.new.self worker c.loop-n.invariant.made c.in_ok-worker_of.ensures.made who_is added;
      seated = subst (All P) (sym added) (All-append P c.loop-n.workers (worker ∷ []) c.loop-n.invariant.seated (All-cons P worker [] c.in_ok-worker_of.ensures.seated (All-nil P)));
    }
