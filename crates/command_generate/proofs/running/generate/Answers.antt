use Rattle.std.proofs.Common.{ℕ, List, Err, ap, refl, subst}
use Rattle.fleet.specs.Lives.{first_of}
use Rattle.fleet.specs.Run.{AnyRose, EndedBy, EndedWell, Ran}
use Rattle.fleet.specs.declared.run.FleetEnd.{FleetEnd}
use Rattle.fleet.specs.declared.run.FleetEnd.TheVariants.{WorldFault}
use Rattle.gate_io.specs.MemoryWorld.{MemoryWorld, nature_of}
use Rattle.worker_model.specs.State.{Standing}
use Rattle.command_generate.specs.Generating.{summary}
use Rattle.command_generate.proofs.Ending.{told}
use Rattle.command_generate.proofs.Faults.{faults_of, no_fault, trace_of}
use Rattle.command_generate.proofs.Settled.{are_four, are_fresh}
use Rattle.command_generate.proofs.running.generate.Goals as goal

pub run_fleet-requires-clause-fresh : goal.run_fleet-requires-clause-fresh
run_fleet-requires-clause-fresh g c κs within = are_fresh c.args.n c.in-Ok-worlds_of.worlds.items c.in-Ok-worlds_of.ensures

pub run_fleet-requires-clause-worlds : goal.run_fleet-requires-clause-worlds
run_fleet-requires-clause-worlds g c κs within = are_four c.args.n c.in-Ok-worlds_of.worlds.items c.in-Ok.config c.in-Ok-worlds_of.ensures c.in-Ok.ensures

-- no world fails
pub unreachable-requires : goal.unreachable-requires
unreachable-requires g c =
    let first : ℕ → List ℕ → Standing g.row.H.Denot = first_of g.H.Host.exported g.H.Host.registering c.in-Ok.config (g.M.MakesHost.made c.args.maker.now c.in-Ok.config) in
    let config = c.in-Ok.config in
    let worlds = c.run_fleet.new.worlds.items in
    let ran = subst (λ (e : FleetEnd). Ran trace_of nature_of faults_of g.H.Host.calling first config c.in-Ok-worlds_of.worlds.items worlds (Err e)) c.in-Err-WorldFault.field-0-is c.in-Err-WorldFault.ensures.ran in
    no_fault g.H.Host.calling first config c.args.n worlds
    (subst (λ (ws : List MemoryWorld). EndedBy trace_of nature_of faults_of g.H.Host.calling first config WorldFault ws worlds) c.in-Ok-worlds_of.ensures ran)
    (subst (λ (ws : List MemoryWorld). AnyRose faults_of ws worlds) c.in-Ok-worlds_of.ensures (c.in-Err-WorldFault.ensures.fault (ap Err c.in-Err-WorldFault.field-0-is)))

pub returns-in-Ok-run_fleet-clause-generates : goal.returns-in-Ok-run_fleet-clause-generates
returns-in-Ok-run_fleet-clause-generates g c =
    let made = g.M.MakesHost.made c.args.maker.now in
    let config = c.in-Ok.config in
    let worlds = c.run_fleet.new.worlds.items in
    let closed = c.in-Ok-run_fleet.closed in
    let first : ℕ → List ℕ → Standing g.row.H.Denot = first_of g.H.Host.exported g.H.Host.registering config (made config) in
    told g.H.Host.exported g.H.Host.registering g.H.Host.calling made c.args.n (g.O.Sink.taken c.args.out.now) (g.O.Sink.taken c.tell.new.out) c.tell.result (summary worlds closed.stores)
    (record {
      config = config;
      config_is = c.in-Ok.ensures;
      worlds = worlds;
      closed = closed;
      ended = subst (λ (ws : List MemoryWorld). EndedWell trace_of nature_of faults_of g.H.Host.calling first config ws worlds closed) c.in-Ok-worlds_of.ensures c.in-Ok-run_fleet.ensures.ran;
      text_is = refl;
    })
    c.tell.ensures.told
