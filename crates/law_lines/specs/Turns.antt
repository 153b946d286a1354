-- Turns of a worker whose lines are HTTP, one after the other.
use Rattle.std.specs.Prelude.{◌≡◌, ℕ, Bool, false, List, [], ◌∷◌, ◌++◌, Option, None}
use Rattle.filter_host.specs.Called.{Calling}
use Rattle.std.specs.List.{flat_map}
use Rattle.contexts.specs.declared.parts.Contexts.{Contexts}
use Rattle.filter_host.specs.Course.{ends, Met, Reaches}
use Rattle.gate_io.specs.declared.event.Event.{Event}
use Rattle.gate_io.specs.declared.event.Sent.{Sent}
use Rattle.gate_io.specs.declared.passed.Passed.{Passed}
use Rattle.gate_config.specs.declared.config.Config.{Config}
use Rattle.worker_model.specs.Making.{contexts_of, first_room}
use Rattle.worker_model.specs.Plan.{Plan}
use Rattle.store_model.specs.Made.{Made}
use Rattle.worker_model.specs.State.{Standing}
use Rattle.worker_model.specs.Steps.{Both}
use Rattle.worker_model.specs.Turn.{Outcome, turn}
use Rattle.worker_model.specs.Room.{Room}
use Rattle.streams_model.specs.Turned.{Whole}

-- what a worker begins with, whatever its contexts: no line is open, and nothing is in hand
abbrev pub new_room : Contexts → Room
new_room contexts = record {
  lines = [];
  hub = record { moment = 0; contexts = contexts; sent = [] };
  reading = None;
  jobs = [];
  agenda = [];
  waits = [];
  dead = [];
  is_begun = false;
  calls = [];
  tcp = [];
}

-- so a worker begins of every configuration
abbrev pub WorkersBeginSo : Type 0
WorkersBeginSo = (config : Config) (seed : List ℕ) → first_room config seed ≡ new_room (contexts_of config seed)

-- one of them: the event, what its course met, and what it came to
pub record Done (H : Type 0) : Type 0 where
  pub event : Event
  pub met : List Met
  pub end : Outcome H

-- each course meets that and comes to its end, and the next turn goes on from there
abbrev pub Turns : {H : Type 0} → Calling H → Plan → Both H → List (Done H) → Both H → Type 0
Turns calling plan from [] to = to ≡ from
Turns calling plan from (t ∷ turns) to = Reaches (turn calling plan from t.event) t.met (ends t.end) × Turns calling plan t.end.state turns to

-- all that they send
abbrev pub sent_in : {H : Type 0} → List (Done H) → List Sent
sent_in turns = flat_map (λ (t : Done _). t.end.sent) turns

-- WHOLE TURNS OF A WORKER, one after the other, as its code takes them: from this standing on they send this, and lead to that standing, which has the same
-- setting
pub data Worked {H S : Type 0} (calling : Calling H) (performs : S → List Made → S → Type 0) : Standing H → List Sent → Standing H → Type 0 where
  no_turn : (from : Standing H) → Worked calling performs from [] from
  a_turn : (stop : Bool) (s t : S) (old new : Option (List Passed)) (from mid to : Standing H) (sent : List Sent) → (w : Whole calling performs stop s old from mid t new) → mid.setting ≡ from.setting
      → Worked calling performs mid sent to → Worked calling performs from (w.sent ++ sent) to
