-- THE ROOT CONTEXTS OF PLUG-INS, over the whole life of a worker whose lines are HTTP.
use Rattle.std.specs.Prelude.{◌≡◌, ◌⊎◌, ℕ, Bool, true, false, Contains, List, [], ◌∷◌, slice_get, Some}
use Rattle.contexts.specs.Creating.{plugin_in}
use Rattle.exchange.specs.declared.types.Filter.{Filter}
use Rattle.gate_config.specs.declared.config.Config.{Config}
use Rattle.gate_config.specs.declared.entries.PluginEntry.{PluginEntry}
use Rattle.law_meaning.specs.Turns.{Turn, Turns}
use Rattle.law_meaning.specs.Walks.{Step, Walk}
use Rattle.law_roots.specs.Roots.{RootStands}
use Rattle.law_vms.specs.MadeVms.{made_vms}
use Rattle.vm_host.specs.Slots.{calling, exported_in, registering_in}
use Rattle.vm_host.specs.declared.slots.Vms.{Vms}
use Rattle.worker_model.specs.Making.{new_worker}
use Rattle.worker_model.specs.Plan.{Plan}
use Rattle.worker_model.specs.Room.{Room}
use Rattle.worker_model.specs.Rooms.{is_dead, next_of}
use Rattle.worker_model.specs.Settling.{is_rest}
use Rattle.worker_model.specs.State.{Standing, rules_of}
use Rattle.worker_model.specs.Steps.{Both, create_filter, is_drawn_out, with_stream}
use Rattle.worker_model.specs.declared.types.Job.TheVariants as jobs

-- A worker as it is made of a configuration, with the machines of that
abbrev pub first_worker : Config → (who : ℕ) → (seed : List ℕ) → Standing Vms
first_worker config who seed = new_worker exported_in registering_in config who seed (made_vms config.vms)

-- What its turns go by
abbrev pub rules_for : Config → (who : ℕ) → (seed : List ℕ) → Plan
rules_for config who seed = rules_of (first_worker config who seed).setting

-- The steps of its whole turns, one after the other, from its beginning to a state between two steps, where its configuration has no streams of bytes (`turns_are_walks`)
abbrev pub WalksTo : Config → (who : ℕ) → (seed : List ℕ) → List (Step Vms) → Both Vms → Type 0
WalksTo config who seed steps to = Walk calling (rules_for config who seed) (first_worker config who seed).state steps to

-- The root context of the plug-in at a place is to come: the job that makes it is in hand, or among the parts of the turn.
abbrev pub IsToCome : (p vm : ℕ) → Room → Type 0
IsToCome p vm room = (first : Bool) × (Contains room.jobs (jobs.Root vm p first) ⊎ Contains room.agenda (jobs.Root vm p first))

-- ROOTS STAND: the VM of each plug-in is dead, or the plug-in's root context stands, or it is to come. Where one is to come, and before the first event, no line is
-- open. So each plug-in of a VM that lives has its root before any request is heard.
pub record RootsStand (plan : Plan) (room : Room) : Type 0 where
  pub each : room.is_begun ≡ true → (p : ℕ) (e : PluginEntry) → slice_get plan.plugins p ≡ Some e
      → (is_dead e.vm room ≡ true) ⊎ (RootStands room.hub.contexts p e.vm ⊎ IsToCome p e.vm room)
  pub no_line : (p vm : ℕ) → IsToCome p vm room → room.lines ≡ []
  pub not_begun : room.is_begun ≡ false → room.lines ≡ []

-- So it is at each moment of a worker's life, whatever its modules do, its stores reply and its lines bring.
abbrev pub RootsStandForLife : Type 0
RootsStandForLife = (config : Config) (who : ℕ) (seed : List ℕ) (steps : List (Step Vms)) (to : Both Vms) → WalksTo config who seed steps to → RootsStand (rules_for config who seed) to.room

-- Each of these turns came to rest.
abbrev pub ComeToRest : List (Turn Vms) → Type 0
ComeToRest [] = Unit {0}
ComeToRest (t ∷ turns) = (is_rest (next_of t.end.state.room) ≡ true) × ComeToRest turns

-- So it is after each whole turn, where each came to rest, as those of a worker's code do. The configuration has no streams of bytes.
abbrev pub RootsStandAfterTurns : Type 0
RootsStandAfterTurns =
    (config : Config) (who : ℕ) (seed : List ℕ) (turns : List (Turn Vms)) (to : Both Vms) → config.tcp ≡ [] → Turns calling (rules_for config who seed) (first_worker config who seed).state turns to → ComeToRest turns
    → RootsStand (rules_for config who seed) to.room

-- SO EACH FILTER GETS ITS CONTEXT: at each moment of a worker's life where a line is open, for each filter of a plug-in whose VM lives and has an id left, the step that
-- makes its context makes a stream context of the plug-in's root.
abbrev pub FiltersGetContextsForLife : Type 0
FiltersGetContextsForLife =
    (config : Config) (who : ℕ) (seed : List ℕ) (steps : List (Step Vms)) (to : Both Vms) (e : PluginEntry) (number k : ℕ) (f : Filter) → WalksTo config who seed steps to → (to.room.lines ≡ [] → ⊥)
    → slice_get config.plugins f.plugin ≡ Some e → f.vm ≡ e.vm → is_dead f.vm to.room ≡ false → is_drawn_out f.vm to.room.hub.contexts ≡ false
    → (root : ℕ) × ((plugin_in to.room.hub.contexts f.plugin).root ≡ Some root) × (create_filter number k (Some f) to.room ≡ with_stream number k f root to.room)
