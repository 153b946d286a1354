-- What holds of every line, over all turns of a worker whose lines are HTTP.
use Rattle.std.specs.Prelude.{◌≡◌, ℕ, Bool, false, ◌++◌, List, [], Some}
use Rattle.callouts.specs.Callouts.{is_call_line}
use Rattle.filter_host.specs.Called.{Calling}
use Rattle.contexts.specs.declared.parts.Contexts.{Contexts}
use Rattle.filter_host.specs.declared.host.Callback.{Callback}
use Rattle.exchange.specs.declared.types.Exchange.{Exchange}
use Rattle.law_exchange.specs.Traffic.{up_traffic}
use Rattle.gate_config.specs.declared.config.Config.{Config}
use Rattle.gate_io.specs.declared.event.Sent.{Sent}
use Rattle.store_model.specs.Made.{Made}
use Rattle.vm_host.specs.Slots as slots
use Rattle.vm_host.specs.declared.slots.Vms.{Vms}
use Rattle.worker_model.specs.Making.{new_worker}
use Rattle.worker_model.specs.Plan.{Plan}
use Rattle.worker_model.specs.State.{Standing, rules_of}
use Rattle.worker_model.specs.Steps.{Both, both, exchange_on}
use Rattle.law_lines.specs.Logs.{WriteLogs}
use Rattle.law_lines.specs.Requests.{HasLived, GoesUpBy}
use Rattle.law_lines.specs.Turns.{Done, Turns, Worked, new_room, sent_in}

-- STEPS ARE DEEDS: whatever turns a new worker has had, whatever its machines do but that they send nothing but logs, whatever its stores reply and its
-- readers hand on, the exchange without filters that is on a line has lived by fair deeds since it began.
abbrev pub ExchangesLive : (H : Type 0) → Type 0
ExchangesLive H =
    (calling : Calling H) (plan : Plan) (contexts : Contexts) (host : H) (turns : List (Done H)) (to : Both H) (n : ℕ) (x : Exchange) → WriteLogs calling
    → Turns calling plan (both host (new_room contexts)) turns to → exchange_on n to.room ≡ Some x → x.filters ≡ []
    → HasLived plan n x (record to.room.hub { sent = sent_in turns ++ to.room.hub.sent })

-- REQUESTS GO UP ONE BY ONE: all that goes up on a line of a client (those from 2^31 on are of callouts) over the turns of a new worker can be cut into what
-- exchanges sent, one after the other: each nothing, or one connection with the head of one request and items of a body as far as they went, and then the
-- close; of one without filters the bytes of the request of a judged head, exactly.
abbrev pub RequestsGoUpOneByOne : (H : Type 0) → Type 0
RequestsGoUpOneByOne H =
    (calling : Calling H) (plan : Plan) (contexts : Contexts) (host : H) (turns : List (Done H)) (to : Both H) (n : ℕ) → is_call_line n ≡ false → WriteLogs calling
    → Turns calling plan (both host (new_room contexts)) turns to → GoesUpBy plan n to.room (exchange_on n to.room) (up_traffic n (sent_in turns))

-- THE SAME OF A WORKER AND ITS CODE: from a worker that was made of a configuration, as `Worker::new` makes it, by whole turns as its code takes them, over
-- shared stores of any kind. The configuration has no streams of bytes.
abbrev pub WorkersGoUpOneByOne : (H S : Type 0) → (performs : S → List Made → S → Type 0) → Type 0
WorkersGoUpOneByOne H S performs =
    (calling : Calling H) (exported : H → ℕ → Callback → Bool) (registering : H → ℕ → Bool) (config : Config) (who : ℕ) (seed : List ℕ) (host : H)
    (sent : List Sent) (to : Standing H) (n : ℕ) → config.tcp ≡ [] → is_call_line n ≡ false → WriteLogs calling → Worked calling performs (new_worker exported registering config who seed host) sent to
    → GoesUpBy (rules_of to.setting) n to.state.room (exchange_on n to.state.room) (up_traffic n sent)

-- THE SAME OF THE PRODUCT: with the machines of its VMs, whatever these are.
abbrev pub RequestsOfTheProductGoUp : (S : Type 0) → (performs : S → List Made → S → Type 0) → Type 0
RequestsOfTheProductGoUp S performs =
    (config : Config) (who : ℕ) (seed : List ℕ) (host : Vms) (sent : List Sent) (to : Standing Vms) (n : ℕ) → config.tcp ≡ [] → is_call_line n ≡ false
    → Worked slots.calling performs (new_worker slots.exported_in slots.registering_in config who seed host) sent to
    → GoesUpBy (rules_of to.setting) n to.state.room (exchange_on n to.state.room) (up_traffic n sent)
