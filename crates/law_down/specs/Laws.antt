-- What goes down on every line, over all turns of a worker whose lines are HTTP.
use Rattle.std.specs.Prelude.{◌≡◌, ℕ, Bool, true, List, [], None}
use Rattle.callouts.specs.Callouts.{is_call_line}
use Rattle.contexts.specs.declared.parts.Contexts.{Contexts}
use Rattle.filter_host.specs.Called.{Calling}
use Rattle.filter_host.specs.declared.host.Callback.{Callback}
use Rattle.gate_config.specs.declared.config.Config.{Config}
use Rattle.gate_io.specs.declared.event.Sent.{Sent}
use Rattle.store_model.specs.Made.{Made}
use Rattle.vm_host.specs.Slots as slots
use Rattle.vm_host.specs.declared.slots.Vms.{Vms}
use Rattle.worker_model.specs.Making.{new_worker}
use Rattle.worker_model.specs.Plan.{Plan}
use Rattle.worker_model.specs.State.{Standing, rules_of}
use Rattle.worker_model.specs.Steps.{Both, both, line_in}
use Rattle.law_lines.specs.Clients.{client_traffic}
use Rattle.law_lines.specs.Logs.{WriteLogs}
use Rattle.law_lines.specs.Turns.{Done, Turns, Worked, new_room, sent_in}
use Rattle.law_down.specs.Downward.{GoesDownBy}

-- NO CLIENT SEES TWO RESPONSES WHERE ONE WAS MEANT: all that goes down on a line over the turns of a new worker, whatever its filters do, is the connections
-- of its clients one after the other, and on each of these what exchanges sent, one after the other: each interim heads and one response at most, and no
-- further one where the line does not stay after it.
abbrev pub ResponsesGoDownOneByOne : (H : Type 0) → Type 0
ResponsesGoDownOneByOne H =
    (calling : Calling H) (plan : Plan) (contexts : Contexts) (host : H) (turns : List (Done H)) (to : Both H) (n : ℕ) → WriteLogs calling
    → Turns calling plan (both host (new_room contexts)) turns to → GoesDownBy plan (line_in n to.room.lines) (client_traffic n (sent_in turns))

-- THE SAME OF A WORKER AND ITS CODE: from a worker that was made of a configuration, as `Worker::new` makes it, by whole turns as its code takes them, over
-- shared stores of any kind. The configuration has no streams of bytes.
abbrev pub WorkersAnswerOneByOne : (H S : Type 0) → (performs : S → List Made → S → Type 0) → Type 0
WorkersAnswerOneByOne H S performs =
    (calling : Calling H) (exported : H → ℕ → Callback → Bool) (registering : H → ℕ → Bool) (config : Config) (who : ℕ) (seed : List ℕ) (host : H)
    (sent : List Sent) (to : Standing H) (n : ℕ) → config.tcp ≡ [] → WriteLogs calling → Worked calling performs (new_worker exported registering config who seed host) sent to
    → GoesDownBy (rules_of to.setting) (line_in n to.state.room.lines) (client_traffic n sent)

-- THE SAME OF THE PRODUCT: with the machines of its VMs, whatever these are.
abbrev pub ResponsesOfTheProductGoDown : (S : Type 0) → (performs : S → List Made → S → Type 0) → Type 0
ResponsesOfTheProductGoDown S performs =
    (config : Config) (who : ℕ) (seed : List ℕ) (host : Vms) (sent : List Sent) (to : Standing Vms) (n : ℕ) → config.tcp ≡ []
    → Worked slots.calling performs (new_worker slots.exported_in slots.registering_in config who seed host) sent to
    → GoesDownBy (rules_of to.setting) (line_in n to.state.room.lines) (client_traffic n sent)

-- ON THE LINE OF A CALLOUT, from 2^31 on, there is no client, and nothing goes down: whatever turns a new worker has had, and whatever its machines do but that they
-- send nothing but logs.
abbrev pub CalloutsGoUpAlone : (H : Type 0) → Type 0
CalloutsGoUpAlone H =
    (calling : Calling H) (plan : Plan) (contexts : Contexts) (host : H) (turns : List (Done H)) (to : Both H) (n : ℕ) → is_call_line n ≡ true → WriteLogs calling
    → Turns calling plan (both host (new_room contexts)) turns to → (line_in n to.room.lines ≡ None) × (client_traffic n (sent_in turns) ≡ [])
