-- What a run of the generator comes to.
use Rattle.std.specs.Prelude.{◌≡◌, ℕ, Bool, List, [], ◌∷◌, ◌++◌, Option, Some}
use Rattle.filter_host.specs.Called.{Calling}
use Rattle.filter_host.specs.declared.host.Callback.{Callback}
use Rattle.fleet.specs.Lives.{first_of}
use Rattle.fleet.specs.Run.{EndedWell}
use Rattle.gate_config.specs.Given.{given}
use Rattle.gate_config.specs.declared.config.Config.{Config}
use Rattle.gate_io.specs.MemoryWorld.{MemoryWorld, nature_of}
use Rattle.gate_io.specs.Passing.{received}
use Rattle.gate_io.specs.Told.{Gains, GainsFront}
use Rattle.gate_io.specs.declared.event.Sent.{Sent}
use Rattle.shared_seats.specs.Closed.{ClosedOf}
use Rattle.shared_store.specs.Closed.{closed_at}
use Rattle.shared_store.specs.declared.closed.ClosedStore.{ClosedStore}
use Rattle.store_model.specs.QueueLaws.{items_of}
use Rattle.workload.specs.Tallies.{tally_of}
use Rattle.command_generate.specs.Items.{item_lines, tally_lines}
use Rattle.command_generate.specs.Setting.{generator_config, worlds_of}
use Rattle.command_generate.specs.declared.running.GenerateEnd.{GenerateEnd}
use Rattle.command_generate.specs.declared.running.GenerateEnd.TheVariants.{Done, OutFault, OutOfMemory}

-- what all worlds received
abbrev pub all_received : List MemoryWorld → List Sent
all_received [] = []
all_received (world ∷ worlds) = received world.trace ++ all_received worlds

-- the items of the filter's queue, the first of the first VM's
abbrev pub queue_items : List ClosedStore → List (List ℕ)
queue_items stores = items_of (closed_at stores 0).store.queues 1

-- THE SUMMARY: `requests R`, `up U` and `down D` of what the worlds received, and a line for each text of the queue
abbrev pub summary : List MemoryWorld → List ClosedStore → List ℕ
summary worlds stores = tally_lines (tally_of (all_received worlds)) ++ item_lines (queue_items stores)

module _ {H : Type 0} (exported : H → ℕ → Callback → Bool) (registering : H → ℕ → Bool) (calling : Calling H) (made : Config → H) (n : ℕ) where
  -- The four workers ran over the configuration, each in its world, in one life that ended with Stop; the worlds as they left them and the
  -- closed stores have this summary.
  pub record Ran (text : List ℕ) : Type 0 where
    pub config : Config
    pub config_is : given config ≡ generator_config
    pub worlds : List MemoryWorld
    pub closed : ClosedOf
    pub ended : EndedWell (λ (w : MemoryWorld). Some w.trace) nature_of (λ w. w.faults) calling (first_of exported registering config (made config)) config (worlds_of n) worlds closed
    pub text_is : text ≡ summary worlds closed.stores

  -- WHAT A RUN COMES TO: the output took the summary, a front of it where it failed, and nothing where memory ran out
  abbrev pub Generates : GenerateEnd → Option (List ℕ) → Option (List ℕ) → Type 0
  Generates Done taken took = (text : List ℕ) × Ran text × Gains taken text took
  Generates OutFault taken took = (text : List ℕ) × Ran text × GainsFront taken text took
  Generates OutOfMemory taken took = Gains taken [] took

-- ---- a step on the way

-- the output took all of a text, a front of it where it failed, and nothing where memory ran out
abbrev pub Tells : GenerateEnd → List ℕ → Option (List ℕ) → Option (List ℕ) → Type 0
Tells Done text taken took = Gains taken text took
Tells OutFault text taken took = GainsFront taken text took
Tells OutOfMemory text taken took = Gains taken [] took
