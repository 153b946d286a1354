-- CONTEXTS OF OTHERS come and go: that leaves a direction as it was.
use Rattle.std.specs.Prelude.{◌≡◌, ℕ, Bool, false, List, Option, None, Some}
use Rattle.filter_host.specs.Called.{Called, Calling}
use Rattle.filter_host.specs.Course.{ends, runs_then, Met, Reaches}
use Rattle.filter_host.specs.declared.host.Callback.{Callback}
use Rattle.exchange.specs.declared.types.Exchange.{Exchange}
use Rattle.exchange.specs.declared.types.Filter.{Filter}
use Rattle.exchange.specs.Passing.{chain_of}
use Rattle.worker_model.specs.Room.{Room}
use Rattle.worker_model.specs.declared.types.ContextAt.{ContextAt}
use Rattle.worker_model.specs.declared.types.Owner.TheVariants as owns
use Rattle.worker_model.specs.Steps.{Both, Then, await_done, delete_context, is_drawn_out, create_root, filter_at, create_context, calls_live}
use Rattle.law_chain.specs.Acts.{NotOf}
use Rattle.law_flow.specs.Besides.{IsWhole}
use Rattle.law_flow.specs.Elsewhere.{IsBeside, behind_effects}
use Rattle.law_flow.specs.Rooms.{IsOn, Leaves, Meanwhile}

-- A CONTEXT waits for `proxy_done`; one that is none of the direction's stages' is deleted; a root or a stream is made, while ids are left.
pub record ContextsLeave : Type 0 where
  pub waiting : (c : ContextAt) (response : Bool) (n : ℕ) (x : Exchange) (room : Room) → IsOn n room x → IsWhole response x room → Leaves response n x room x (await_done c room)
  pub deleting : (c : ContextAt) (value : Option (Option ℕ)) (response : Bool) (n : ℕ) (x : Exchange) (room : Room) → IsOn n room x → IsWhole response x room
      → NotOf c.vm c.context (chain_of response x) → Leaves response n x room x (delete_context c value room)
  pub making_root : (vm plugin : ℕ) (first : Bool) (response : Bool) (n : ℕ) (x : Exchange) (room : Room) → IsOn n room x → IsWhole response x room
      → is_drawn_out vm room.hub.contexts ≡ false → Leaves response n x room x (create_root vm plugin first room).1
  pub making_stream : (number k : ℕ) (response : Bool) (n : ℕ) (x : Exchange) (room : Room) → IsOn n room x → IsWhole response x room
      → ((f : Filter) → filter_at number k room.lines ≡ Some f → is_drawn_out f.vm room.hub.contexts ≡ false) → (y : Exchange) × Leaves response n x room y (create_context number k room).1

-- ANY CALLBACK OF NO STAGE, where what comes after it leaves the direction as it was
abbrev pub CallsAreRuns : Type 0 → Type 0
CallsAreRuns H = (calling : Calling H) (response : Bool) (n count vm : ℕ) (name : Callback) (context first second : ℕ) (behind : Then) (x : Exchange) (room : Room) → IsOn n room x
    → (host : H) (ms : List Met) (b : Both H) → ((y : Exchange) × Leaves response n x room y (behind None room))
    → ((c : Called H) → Reaches (runs_then (calling host vm name context first second room.hub.moment room.hub.contexts) ends) ms (ends c)
    → (e : IsBeside response n count vm owns.Nobody c x room)
    × ((z : Exchange) → IsOn n (behind_effects vm owns.Nobody c room) z
    → (y : Exchange) × Leaves response n z (behind_effects vm owns.Nobody c room) y (behind (Some e.value) (behind_effects vm owns.Nobody c room))))
    → Reaches (calls_live calling vm name context first second behind host room) ms (ends b) → (y : Exchange) × Meanwhile response n count x room y b.room
