-- Calls that give bytes to a guest without an allocator.
use Rattle.std.specs.Prelude.{◌≡◌, ℕ, List, [], ◌∷◌, None, codes}
use Rattle.abi_calls.specs.Hosting.{Hosted}
use Rattle.abi_model.specs.declared.table.HostCall.{HostCall}
use Rattle.abi_model.specs.declared.table.HostCall.TheVariants as call
use Rattle.abi_types.specs.GuestAt.{GuestAt}
use Rattle.contexts.specs.Reached.{no_changes}
use Rattle.store_model.specs.Program.{Program, done}
use Rattle.store_model.specs.declared.call.Call.TheVariants as store
use Rattle.store_model.specs.declared.call.Reply.TheVariants as reply
use Rattle.law_host_calls.specs.Scenes.{guest_of, allocates, letters, seen, calls_by, ends, asked, by_store}

abbrev pub bare : GuestAt
bare = guest_of None allocates letters 9

abbrev pub calls_bare : HostCall → List ℕ → Program Hosted
calls_bare call args = calls_by bare seen call args

abbrev pub no_room : Program Hosted
no_room = done (ends 10 bare no_changes [])

pub record NoAllocator : Type 0 where
  pub value : calls_bare call.GetHeaderMapValue (0 ∷ 1 ∷ 2 ∷ 4 ∷ 8 ∷ []) ≡ no_room
  pub pairs : calls_bare call.GetHeaderMapPairs (3 ∷ 4 ∷ 8 ∷ []) ≡ no_room
  pub item : by_store (reply.Item (codes "xyz")) (calls_bare call.DequeueSharedQueue (16777217 ∷ 4 ∷ 8 ∷ [])) ≡ asked 1 (store.Dequeue 16777217) no_room
  pub property : calls_bare call.GetProperty (1 ∷ 2 ∷ 4 ∷ 8 ∷ []) ≡ no_room
