-- Callouts in a room.
use Rattle.std.proofs.Common.{◌≡◌, ℕ, ◌==◌, Bool, true, false, List, [], ◌∷◌, refl, ap, sym, ◌∙◌}
use Rattle.std.specs.Prelude.{cond, Option, None, Some}
use Rattle.callouts.specs.Callouts.{callout_in, line_of, without}
use Rattle.callouts.specs.Steps.{ReadsOn}
use Rattle.callouts.specs.declared.types.Callout.{Callout}
use Rattle.callouts.specs.declared.types.CallStep.{CallStep}
use Rattle.gate_io.specs.declared.event.Sent.TheVariants.{Close}
use Rattle.gate_io.specs.declared.event.Side.TheVariants.{Up}
use Rattle.worker_model.specs.Calls.{with_call_step}
use Rattle.worker_model.specs.Room.{Room}
use Rattle.worker_model.specs.Rooms.{room_with_sent, with_calls}
use Rattle.worker_room.specs.Calls.{ReadsCall, close_if}

-- one that is not there is not taken out
none_without : (id : ℕ) (calls : List Callout) → callout_in id calls ≡ None → without id calls ≡ calls
none_without id [] none = refl
none_without id (c ∷ calls) none = by (none_without id calls) (c.id == id) none
  where
    by : (callout_in id calls ≡ None → without id calls ≡ calls) → (b : Bool) → cond b (Some c) (callout_in id calls) ≡ None → cond b calls (c ∷ without id calls) ≡ c ∷ calls
    by others true none = absurd (cc)
    by others false none = ap (λ (cs : List Callout). c ∷ cs) (others none)

-- where it is not under way, nothing is closed
pub none_closed : (id : ℕ) (room : Room) (calls : List Callout) → callout_in id room.calls ≡ None → calls ≡ without id room.calls
    → record room { calls = calls } ≡ close_if id (callout_in id room.calls) room
none_closed id room calls none is =
    ap (λ (cs : List Callout). record room { calls = cs }) (is ∙ none_without id room.calls none) ∙ ap (λ (o : Option Callout). close_if id o room) (sym none)

-- where it was taken out, and closed after that
pub some_closed : (id : ℕ) (room new : Room) (calls : List Callout) (c : Callout) → callout_in id room.calls ≡ Some c → calls ≡ without id room.calls
    → new ≡ room_with_sent (Close (line_of id) Up ∷ []) (with_calls calls (record room { calls = calls })) → new ≡ close_if id (callout_in id room.calls) room
some_closed id room new calls c some is closed =
    closed ∙ (λ i. room_with_sent (Close (line_of id) Up ∷ []) (with_calls (is i) (record room { calls = is i }))) ∙ ap (λ (o : Option Callout). close_if id o room) (sym some)

-- a reader was heard, and this comes next
pub reads_room : (id : ℕ) (o : Option Callout) (room new : Room) (calls : List Callout) (next : Option CallStep) → ReadsOn id o room.calls next calls
    → new ≡ with_call_step next (record room { calls = calls }) → ReadsCall id o room new
reads_room id None room new calls next reads is = is ∙ (λ i. with_call_step (reads.1 i) (record room { calls = reads.0 i }))
reads_room id (Some c) room new calls next reads is = (reads.0, reads.1, is ∙ (λ i. with_call_step (reads.3 i) (record room { calls = reads.2 i })))
