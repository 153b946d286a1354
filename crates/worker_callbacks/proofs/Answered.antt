-- A callback has ended.
use Rattle.std.proofs.Common.{◌≡◌, ℕ, List, sym, ◌∙◌}
use Rattle.std.specs.Prelude.{Option}
use Rattle.contexts.specs.declared.parts.Contexts.{Contexts}
use Rattle.filter_host.specs.Course.{Course, ends, Goes}
use Rattle.filter_host.specs.Runs.{goes_as}
use Rattle.filter_host.specs.declared.host.CallbackEnd.{CallbackEnd}
use Rattle.gate_io.specs.declared.event.Sent.{Sent}
use Rattle.store_model.specs.Made.{Made}
use Rattle.worker_callbacks.specs.Renewing.{Renews}
use Rattle.worker_model.specs.Room.{Room}
use Rattle.streams_model.specs.Callbacks.{Takes}
use Rattle.worker_model.specs.Rooms.{with_contexts, value_of_end}
use Rattle.worker_model.specs.Steps.{Answered, callback_result, both}
use Rattle.worker_model.specs.declared.types.Owner.{Owner}

-- what comes of it goes by the contexts as it left them, so that the room may have these already
pub answered : {S H : Type 0} {performs : S → List Made → S → Type 0} {s t : S} {p : Course (Answered H)} (takes : Takes) → Renews takes → (vm : ℕ) (own : Owner) (end : CallbackEnd)
    (lines : List Sent) (h : Contexts) (room new : Room) (host : H) (value : Option (Option ℕ))
    → Goes performs s p (ends (callback_result (value_of_end end) (both host (takes vm own end lines h room)))) t → value ≡ value_of_end end
    → new ≡ takes vm own end lines h (with_contexts h room) → Goes performs s p (ends (callback_result value (both host new))) t
answered takes renews vm own end lines h room new host value goes is new_is =
    goes_as goes (λ i. ends (callback_result (sym is i) (both host (sym (new_is ∙ renews vm own end lines h h room) i))))
