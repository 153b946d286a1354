-- The last id of a VM's contexts.
use Rattle.std.specs.Prelude.{◌≡◌, ◌<◌, ℕ, ◌+◌, Bool, true, false, [], ◌∷◌, codes, Option, None, Some, slice_set}
use Rattle.contexts.specs.declared.parts.Contexts.{Contexts}
use Rattle.contexts.specs.Examples.{host}
use Rattle.contexts.specs.Reached.{vm_in}
use Rattle.filter_host.specs.declared.host.Death.TheVariants as deaths
use Rattle.exchange.specs.declared.types.Filter.{Filter}
use Rattle.gate_base.specs.declared.level.Level.TheVariants.{Critical}
use Rattle.gate_io.specs.declared.event.Sent.TheVariants.{Log}
use Rattle.worker_model.specs.Room.{Room}
use Rattle.worker_model.specs.declared.types.NewContext.{NewContext}
use Rattle.worker_model.specs.Rooms.{is_dead, lose_vm_in}
use Rattle.worker_model.specs.Steps.{may_root, may_stream, new_one, create_root, create_stream}

-- the last id that was drawn for contexts of a VM
abbrev pub last_of : (vm : ℕ) → Room → ℕ
last_of vm room = (vm_in room.hub.contexts vm).last

-- the greatest id
abbrev pub greatest : ℕ
greatest = 4294967295

-- A context is made under the id that comes next, up to the greatest. Once that was drawn the VM dies where it is to have another one.
pub record IdsRunOut : Type 0 where
  pub root :
      (vm plugin : ℕ) (first : Bool) (room : Room) → is_dead vm room ≡ false → may_root vm plugin room.hub.contexts ≡ true → last_of vm room < greatest
      → ((create_root vm plugin first room).0 ≡ Some (new_one vm (last_of vm room + 1) 0)) × (last_of vm (create_root vm plugin first room).1 ≡ last_of vm room + 1)
  pub no_root :
      (vm plugin : ℕ) (first : Bool) (room : Room) → is_dead vm room ≡ false → may_root vm plugin room.hub.contexts ≡ true → last_of vm room ≡ greatest
      → create_root vm plugin first room ≡ (None, lose_vm_in vm deaths.Ids room)
  pub stream :
      (number k id : ℕ) (f : Filter) (room : Room) → is_dead f.vm room ≡ false → may_stream f.vm id room.hub.contexts ≡ true → last_of f.vm room < greatest
      → ((create_stream number k f (Some id) room).0 ≡ Some (new_one f.vm (last_of f.vm room + 1) id))
      × (last_of f.vm (create_stream number k f (Some id) room).1 ≡ last_of f.vm room + 1)
  pub no_stream :
      (number k id : ℕ) (f : Filter) (room : Room) → is_dead f.vm room ≡ false → may_stream f.vm id room.hub.contexts ≡ true → last_of f.vm room ≡ greatest
      → create_stream number k f (Some id) room ≡ (None, lose_vm_in f.vm deaths.Ids room)

-- ---- worked

-- the first of two VMs has drawn ids up to this one
abbrev pub drawn_to : ℕ → Contexts
drawn_to last = record host { vms = slice_set host.vms 0 (record (vm_in host 0) { last = last }) }

abbrev pub room_of : Contexts → Room
room_of h = record {
  lines = [];
  hub = record { moment = 0; contexts = h; sent = [] };
  reading = None;
  jobs = [];
  agenda = [];
  waits = [];
  dead = [];
  is_begun = true;
  calls = [];
  tcp = [];
}

abbrev pub filter_of : (plugin vm : ℕ) → Filter
filter_of plugin vm = record { plugin = plugin; vm = vm; fails_open = false; created = false; context = 0 }

-- a root is made of the first VM's plug-in; a stream of that root, on line 8
abbrev pub rooted : Room → Option NewContext × Room
rooted room = create_root 0 0 false room

abbrev pub streamed : Room → Option NewContext × Room
streamed room = create_stream 8 0 (filter_of 0 0) (Some 1) room

pub record LastIdExamples : Type 0 where
  -- the greatest id is drawn for a root, and for a stream
  pub root : (rooted (room_of (drawn_to 4294967294))).0 ≡ Some (new_one 0 4294967295 0)
  pub stream : (streamed (room_of (drawn_to 4294967294))).0 ≡ Some (new_one 0 4294967295 1)
  pub drawn : last_of 0 (streamed (room_of (drawn_to 4294967294))).1 ≡ 4294967295
  -- after it none is, and the VM is dead: it is told in the log
  pub no_root : (rooted (room_of (drawn_to 4294967295))).0 ≡ None
  pub no_stream : (streamed (streamed (room_of (drawn_to 4294967294))).1).0 ≡ None
  pub dead : (streamed (room_of (drawn_to 4294967295))).1.dead ≡ 0 ∷ []
  pub told : (streamed (room_of (drawn_to 4294967295))).1.hub.sent ≡ Log Critical (codes "vm m1 died: ids") ∷ []
  -- it dies once
  pub once : (rooted (streamed (room_of (drawn_to 4294967295))).1).1 ≡ (streamed (room_of (drawn_to 4294967295))).1
  -- the other VM draws its ids as before
  pub other : (create_root 1 1 false (streamed (room_of (drawn_to 4294967295))).1).0 ≡ Some (new_one 1 3 0)
