-- THE ROOT CONTEXT OF A PLUG-IN: it is made at the start of its VM, and what callbacks and new streams do keeps it.
use Rattle.std.specs.Prelude.{◌≡◌, ◌⊎◌, ◌<◌, ℕ, Bool, true, false, Contains, [], slice_get, None, Some}
use Rattle.contexts.specs.Creating.{next_id, plugin_in, stream_created}
use Rattle.contexts.specs.Reached.{context_in}
use Rattle.contexts.specs.declared.parts.Contexts.{Contexts}
use Rattle.exchange.specs.declared.types.Filter.{Filter}
use Rattle.gate_config.specs.declared.entries.PluginEntry.{PluginEntry}
use Rattle.contexts.specs.declared.parts.Plugin.{Plugin}
use Rattle.gate_io.specs.declared.event.What.{What}
use Rattle.worker_model.specs.Turn.{vms_in, with_agenda}
use Rattle.law_vms.specs.OwnChanges.{ChangesItsOwn}
use Rattle.worker_model.specs.Plan.{Plan}
use Rattle.worker_model.specs.Rooms.{is_dead}
use Rattle.worker_model.specs.Steps.{create_filter, is_drawn_out, may_root, may_stream, create_root, with_stream}
use Rattle.worker_model.specs.Room.{Room}
use Rattle.worker_model.specs.declared.types.Job.TheVariants as jobs

-- A ROOT STANDS: the plug-in at this place has a root context in this VM, and stream contexts of it may be made.
pub record RootStands (h : Contexts) (p vm : ℕ) : Type 0 where
  pub root : ℕ
  pub is : (plugin_in h p).root ≡ Some root
  pub streams : may_stream vm root h ≡ true

-- It is made by the step that makes roots, where the VM lives and has an id left, a root may be made, and no context of the VM has the next id.
abbrev pub RootsAreMade : Type 0
RootsAreMade =
    (vm p : ℕ) (first : Bool) (room : Room) → is_dead vm room ≡ false → may_root vm p room.hub.contexts ≡ true → is_drawn_out vm room.hub.contexts ≡ false
    → context_in room.hub.contexts vm (next_id room.hub.contexts vm) ≡ None → RootStands (create_root vm p first room).1.hub.contexts p vm

-- A change of the kind that a callback makes (of its own VM's contexts, and of no root; `callbacks_change_their_own` of law_vms) does not take it away.
abbrev pub CallbacksKeepRoots : Type 0
CallbacksKeepRoots = (vm p other : ℕ) (before after : Contexts) → ChangesItsOwn vm before after → RootStands before p other → RootStands after p other

-- No new stream context takes it away.
abbrev pub StreamsKeepRoots : Type 0
StreamsKeepRoots = (vm root number p other : ℕ) (h : Contexts) → RootStands h p other → RootStands (stream_created vm root number h) p other

-- Where it stands, a filter of the plug-in gets its context, unless its VM is dead or has no id left.
abbrev pub FiltersGetContexts : Type 0
FiltersGetContexts =
    (number k : ℕ) (f : Filter) (room : Room) → is_dead f.vm room ≡ false → is_drawn_out f.vm room.hub.contexts ≡ false → (r : RootStands room.hub.contexts f.plugin f.vm)
    → create_filter number k (Some f) room ≡ with_stream number k f r.root room

-- At the first event the job that makes the root of each plug-in is put among the parts of the turn.
abbrev pub StartsHaveRoots : Type 0
StartsHaveRoots =
    (plan : Plan) (what : What) (room : Room) (p : ℕ) (q : Plugin) → room.is_begun ≡ false → slice_get room.hub.contexts.plugins p ≡ Some q → q.vm < vms_in room
    → (first : Bool) × Contains (with_agenda plan what room).agenda (jobs.Root q.vm p first)
