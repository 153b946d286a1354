-- How serving ends, by how the fleet ended.
use Rattle.std.proofs.Common.{◌≡◌, ℕ, List, Option, Result, Ok, Err, refl, subst, sym, inl, inr}
use Rattle.filter_host.specs.Called.{Calling}
use Rattle.fleet.specs.Run.{AnyRose, EndedWell, Ran as FleetRan}
use Rattle.fleet.specs.declared.run.FleetEnd.{FleetEnd}
use Rattle.fleet.specs.declared.run.FleetEnd.TheVariants as fleet_ends
use Rattle.gate_config.specs.declared.config.Config.{Config}
use Rattle.shared_seats.specs.Closed.{ClosedOf}
use Rattle.worker_model.specs.State.{Standing}
use Rattle.command_serve.specs.Serving.{Ends, Eyes, Finishes, Tells}
use Rattle.command_serve.specs.Summary.{summary}
use Rattle.command_serve.specs.declared.running.ServeEnd.{ServeEnd}
use Rattle.command_serve.specs.declared.running.ServeEnd.TheVariants.{Done, SiteFault, OutFault, OutOfMemory}

module _ {W H : Type 0} (eyes : Eyes W) (calling : Calling H) (first : ℕ → List ℕ → Standing H) (config : Config) (given back : List W) (taken took : Option (List ℕ)) where
  told : (end : ServeEnd) (closed : ClosedOf) → EndedWell eyes.trace eyes.nature eyes.faults calling first config given back closed → Tells end (summary config.vms closed) taken took
      → Ends eyes calling first config end given back taken took
  told Done closed well t = (closed, well, t)
  told SiteFault closed well t = absurd t
  told OutFault closed well t = (closed, well, t)
  told OutOfMemory closed well t = (inl (closed, well), t)

  pub ends_so : (ran : Result ClosedOf FleetEnd) (end : ServeEnd) → FleetRan eyes.trace eyes.nature eyes.faults calling first config given back ran
      → (ran ≡ Err fleet_ends.WorldFault → AnyRose eyes.faults given back) → Finishes config.vms ran end taken took → Ends eyes calling first config end given back taken took
  ends_so (Ok closed) end ran rose f = told end closed ran f
  ends_so (Err fleet_ends.WorldFault) end ran rose f = subst (λ (e : ServeEnd). Ends eyes calling first config e given back taken took) (sym f.0) (ran, rose refl, f.1)
  ends_so (Err fleet_ends.OutOfMemory) end ran rose f = subst (λ (e : ServeEnd). Ends eyes calling first config e given back taken took) (sym f.0) (inr ran, f.1)
