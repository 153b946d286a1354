-- Over all turns of a worker, how what goes up on a connection is read.
use Rattle.std.specs.Prelude.{◌≡◌, ℕ, Bool, false, List, []}
use Rattle.callouts.specs.Callouts.{is_call_line}
use Rattle.contexts.specs.declared.parts.Contexts.{Contexts}
use Rattle.filter_host.specs.Called.{Calling}
use Rattle.filter_host.specs.declared.host.Callback.{Callback}
use Rattle.law_exchange.specs.Traffic.{up_traffic}
use Rattle.gate_config.specs.declared.config.Config.{Config}
use Rattle.gate_io.specs.declared.event.Sent.{Sent}
use Rattle.store_model.specs.Made.{Made}
use Rattle.vm_host.specs.Slots as slots
use Rattle.vm_host.specs.declared.slots.Vms.{Vms}
use Rattle.worker_model.specs.Making.{new_worker}
use Rattle.worker_model.specs.Plan.{Plan}
use Rattle.worker_model.specs.State.{Standing, rules_of}
use Rattle.worker_model.specs.Steps.{Both, both, exchange_on}
use Rattle.law_lines.specs.Logs.{WriteLogs}
use Rattle.law_lines.specs.Turns.{Done, Turns, Worked, new_room, sent_in}
use Rattle.law_read_back.specs.Sent.{ReadBy}

-- ONE REQUEST AT MOST is read, by a reader like the gateway's own, of what each exchange sent up on its connection, on each line of a client (those from 2^31 on
-- are of callouts), whatever turns a new worker has had and whatever its filters do, where the fields of its head are a list of a request and its body is such as the framing carries: those that the law names, and any
-- that spell what went. That the fields are those that filters left in the exchange's map is not said, nor that the body is carried.
abbrev pub RequestsAreReadAsOne : (H : Type 0) → Type 0
RequestsAreReadAsOne H =
    (calling : Calling H) (plan : Plan) (contexts : Contexts) (host : H) (turns : List (Done H)) (to : Both H) (n : ℕ) → is_call_line n ≡ false → WriteLogs calling
    → Turns calling plan (both host (new_room contexts)) turns to → ReadBy plan n to.room (exchange_on n to.room) (up_traffic n (sent_in turns))

-- the same of a worker that was made of a configuration without streams of bytes, by the whole turns that its code takes, over shared stores of any kind
abbrev pub RequestsOfWorkersAreReadAsOne : (H S : Type 0) → (performs : S → List Made → S → Type 0) → Type 0
RequestsOfWorkersAreReadAsOne H S performs =
    (calling : Calling H) (exported : H → ℕ → Callback → Bool) (registering : H → ℕ → Bool) (config : Config) (who : ℕ) (seed : List ℕ) (host : H)
    (sent : List Sent) (to : Standing H) (n : ℕ) → config.tcp ≡ [] → is_call_line n ≡ false → WriteLogs calling → Worked calling performs (new_worker exported registering config who seed host) sent to
    → ReadBy (rules_of to.setting) n to.state.room (exchange_on n to.state.room) (up_traffic n sent)

-- and with the machines of its VMs, whatever these are
abbrev pub RequestsOfTheProductAreReadAsOne : (S : Type 0) → (performs : S → List Made → S → Type 0) → Type 0
RequestsOfTheProductAreReadAsOne S performs =
    (config : Config) (who : ℕ) (seed : List ℕ) (host : Vms) (sent : List Sent) (to : Standing Vms) (n : ℕ) → config.tcp ≡ [] → is_call_line n ≡ false
    → Worked slots.calling performs (new_worker slots.exported_in slots.registering_in config who seed host) sent to
    → ReadBy (rules_of to.setting) n to.state.room (exchange_on n to.state.room) (up_traffic n sent)
