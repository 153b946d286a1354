-- OF WHICH VM A CONTEXT IS: the context of a filter is made for the VM that the filter tells, where that lives; and where an exchange begins, each of its filters
-- tells the VM of its plug-in.
use Rattle.std.specs.Prelude.{◌≡◌, ℕ, false, true, List, [], ◌∷◌, slice_get, Option, None, Some}
use Rattle.contexts.specs.Creating.{next_id, plugin_in}
use Rattle.exchange.specs.declared.types.Filter.{Filter}
use Rattle.exchange.specs.Examples as exchanges
use Rattle.filter_chain.specs.declared.item.Held.TheVariants as held
use Rattle.gate_config.specs.declared.entries.PluginEntry.{PluginEntry}
use Rattle.h1_model.specs.Head.{Head}
use Rattle.h1_model.specs.Unread.{new_reading}
use Rattle.worker_model.specs.Plan.{Plan}
use Rattle.worker_model.specs.Room.{Room}
use Rattle.worker_model.specs.declared.types.NewContext.{NewContext}
use Rattle.worker_model.specs.Rooms.{is_dead}
use Rattle.worker_model.specs.Steps.{filter_at, filters_of, exchange_for, may_stream, new_one, create_context}

-- It is of the VM that the filter at that place tells, which is not dead, under the id that is next there, with the number of the root of the filter's plug-in; and that
-- VM has a root of this number.
pub record IsOfItsVm (number k : ℕ) (room : Room) (c : NewContext) : Type 0 where
  pub filter : Filter
  pub at : filter_at number k room.lines ≡ Some filter
  pub vm : c.vm ≡ filter.vm
  pub lives : is_dead filter.vm room ≡ false
  pub root : (plugin_in room.hub.contexts filter.plugin).root ≡ Some c.root
  pub has_root : may_stream filter.vm c.root room.hub.contexts ≡ true
  pub context : c.context ≡ next_id room.hub.contexts filter.vm

abbrev pub ContextsAreOfTheirVms : Type 0
ContextsAreOfTheirVms = (number k : ℕ) (room : Room) (c : NewContext) → (create_context number k room).0 ≡ Some c → IsOfItsVm number k room c

-- ---- the filters of a new exchange

-- the filter is of a plug-in of these, and tells its VM
pub record TellsItsVm (plugins : List PluginEntry) (f : Filter) : Type 0 where
  pub entry : PluginEntry
  pub at : slice_get plugins f.plugin ≡ Some entry
  pub vm : f.vm ≡ entry.vm

abbrev pub TellTheirVms : List PluginEntry → List Filter → Type 0
TellTheirVms plugins [] = Unit {0}
TellTheirVms plugins (f ∷ fs) = TellsItsVm plugins f × TellTheirVms plugins fs

-- WHERE AN EXCHANGE BEGINS, whatever route takes it, so do all of its filters. (That no filter's VM or plug-in changes later is not said.)
abbrev pub FiltersTellTheirVms : Type 0
FiltersTellTheirVms = (plan : Plan) (place now : ℕ) (dead : List ℕ) (h : Head) (route : Option ℕ) → TellTheirVms plan.plugins (exchange_for plan place now dead h route).filters

-- ---- worked: an exchange on line 1 whose filter has no context yet; VM 0 has drawn the ids 1, of the plug-in's root, and 2

abbrev pub waiting_filter : Filter
waiting_filter = record { plugin = 0; vm = 0; fails_open = false; created = false; context = 0 }

abbrev pub room : Room
room = record {
  lines = record { number = 1; requests = new_reading None; is_gone = false; exchange = Some (record (exchanges.uploading held.Nothing) { filters = waiting_filter ∷ [] }) } ∷ [];
  hub = exchanges.hub_of exchanges.host;
  reading = None;
  jobs = [];
  agenda = [];
  waits = [];
  dead = [];
  is_begun = true;
  calls = [];
  tcp = [];
}

-- VM 0 with a plug-in, and VM 1 with two
abbrev pub entry_of : ℕ → PluginEntry
entry_of vm = record { name = []; vm = vm; configuration = []; fail_open = false }

abbrev pub three_entries : List PluginEntry
three_entries = entry_of 0 ∷ entry_of 1 ∷ entry_of 1 ∷ []

pub record CreatedExample : Type 0 where
  -- its context is 3, of VM 0, with the root 1
  pub made : (create_context 1 0 room).0 ≡ Some (new_one 0 3 1)
  -- where VM 0 is dead none is made
  pub dead : (create_context 1 0 (record room { dead = 0 ∷ [] })).0 ≡ None
  -- a route with the third plug-in and the first: their filters tell VM 1 and VM 0
  pub filters : filters_of three_entries (2 ∷ 0 ∷ []) ≡ record waiting_filter { plugin = 2; vm = 1 } ∷ waiting_filter ∷ []
