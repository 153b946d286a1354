-- ONE LINE OF A WORKER whose connections are streams of bytes: its filters, and what passes their stages.
use Rattle.std.specs.List.{list_any}
use Rattle.std.specs.Prelude.{ℕ, zero, suc, ◌==◌, Bool, true, false, not, ◌&&◌, ◌||◌, List, map, filter, reverse, length, slice_get, slice_set, Option, None, Some, if◌then◌else◌}
use Rattle.contexts.specs.declared.parts.Contexts.{Contexts}
use Rattle.exchange.specs.Answering.{with_held}
use Rattle.exchange.specs.Leaving.{hub_with_sent}
use Rattle.exchange.specs.Passing.{has_stage_of}
use Rattle.exchange.specs.declared.types.Filter.{Filter}
use Rattle.exchange.specs.declared.types.Hub.{Hub}
use Rattle.filter_chain.specs.declared.stage.Stage as chain_stage
use Rattle.gate_io.specs.declared.event.What.{What}
use Rattle.gate_io.specs.declared.event.What.TheVariants as whats
use Rattle.tcp_filters.specs.Lines.{Outcome, chain_of, close_line, take_event, resume_at, let_through_at, answer_at, place_at}
use Rattle.tcp_filters.specs.declared.line.TcpLine as passing
use Rattle.tcp_filters.specs.declared.types.Action.{Action}
use Rattle.tcp_filters.specs.declared.types.Action.TheVariants.{Continue, Pause}
use Rattle.tcp_filters.specs.declared.types.TcpOutcome.TheVariants.{Over, Sends}
use Rattle.worker_model.specs.Steps.{is_live, new_stage}
use Rattle.worker_model.specs.declared.types.TcpLine.{TcpLine}
use Rattle.streams_model.specs.declared.types.Change.{Change}
use Rattle.streams_model.specs.declared.types.Change.TheVariants as changes

-- ---- what passes the stages of a line

-- without its filters
abbrev pub stream_of : TcpLine → passing.TcpLine
stream_of l = record {
  number = l.number;
  down = l.down;
  up = l.up;
  is_entered = l.is_entered;
  is_up = l.is_up;
  down_ended = l.down_ended;
  up_ended = l.up_ended;
  is_gone = l.is_gone;
  has_ended = l.has_ended;
}

-- the line of these filters
abbrev pub with_stream : List Filter → passing.TcpLine → TcpLine
with_stream filters s = record {
  number = s.number;
  filters = filters;
  down = s.down;
  up = s.up;
  is_entered = s.is_entered;
  is_up = s.is_up;
  down_ended = s.down_ended;
  up_ended = s.up_ended;
  is_gone = s.is_gone;
  has_ended = s.has_ended;
}

-- what is done to it, and to what all lines have in common
abbrev pub Changes : Type 0
Changes = passing.TcpLine → Hub → passing.TcpLine × Hub

-- these are the contexts then
abbrev pub ends_in : passing.TcpLine × Contexts → Hub → passing.TcpLine × Hub
ends_in (s, h) hub = (s, with_held h hub)

-- WHAT COMES OF PASSING ITEMS ON: what leaves is sent, and too much for a stage ends the connection
abbrev pub take_outcome : Outcome → Hub → passing.TcpLine × Hub
take_outcome (Over, s, h) hub = ends_in (close_line s h) hub
take_outcome (Sends sent, s, h) hub = (s, hub_with_sent sent (with_held h hub))

-- the stage at a place goes on, if there is one
abbrev pub resume_place : Bool → Option ℕ → Changes
resume_place response None s hub = (s, hub)
resume_place response (Some k) s hub = take_outcome (resume_at response k s hub.contexts) hub

-- the stage of a context goes on
abbrev pub resume_context : ℕ → ℕ → Bool → Changes
resume_context vm context response s hub = resume_place response (place_at response vm context s) s hub

-- THE CONNECTION COMES TO ITS END, unless it has
abbrev pub close_stream : Changes
close_stream s hub = ends_in (close_line s hub.contexts) hub

-- what a callback of a stage answers by a number: 0 is Continue
abbrev pub action_for : ℕ → Action
action_for value = if value == 0 then Continue else Pause

-- THE ACTION of a callback of a stage is put in force
abbrev pub apply_action : Bool → ℕ → ℕ → Changes
apply_action response k value s hub = take_outcome (answer_at (action_for value) response k s hub.contexts) hub

-- SOMETHING HAPPENS on the line
abbrev pub take_what : What → Changes
take_what what s hub = take_outcome (take_event what hub.contexts s) hub

-- what is done, by its name
abbrev pub apply_change : Change → Changes
apply_change (changes.Resume vm context response) s hub = resume_context vm context response s hub
apply_change changes.Close s hub = close_stream s hub
apply_change (changes.Act response stage value) s hub = apply_action response stage value s hub

-- there is a stage, and it is of this VM
abbrev pub stage_is_of : ℕ → Option chain_stage.Stage → Bool
stage_is_of vm None = false
stage_is_of vm (Some stage) = stage.vm == vm

-- the stage at a place is let through, where it is of that VM
abbrev pub bypass_vm_at : Bool → ℕ → ℕ → Changes
bypass_vm_at response vm k s hub =
    if stage_is_of vm (slice_get (chain_of response s) k) then take_outcome (let_through_at response k s hub.contexts) hub else (s, hub)

-- the stages of a VM among the first so many, the one nearest to the exit first
abbrev pub bypass_vm_stages : Bool → ℕ → ℕ → passing.TcpLine × Hub → passing.TcpLine × Hub
bypass_vm_stages response vm zero sh = sh
bypass_vm_stages response vm (suc k) (s, hub) = bypass_vm_stages response vm k (bypass_vm_at response vm k s hub)

-- those that bytes of the server pass
abbrev pub bypass_vm_up : ℕ → passing.TcpLine × Hub → passing.TcpLine × Hub
bypass_vm_up vm (s, hub) = bypass_vm_stages true vm (length s.up) (s, hub)

-- all of them, those that bytes of the client pass first
abbrev pub bypass_vm : ℕ → Changes
bypass_vm vm s hub = bypass_vm_up vm (bypass_vm_stages false vm (length s.down) (s, hub))

-- ---- a line with its filters

-- what is done to a line
abbrev pub LineChanges : Type 0
LineChanges = TcpLine → Hub → TcpLine × Hub

-- the filters stay
abbrev pub put_stream : List Filter → passing.TcpLine × Hub → TcpLine × Hub
put_stream filters (s, hub) = (with_stream filters s, hub)

-- what is done to what passes its stages
abbrev pub in_line : Changes → LineChanges
in_line change l hub = put_stream l.filters (change (stream_of l) hub)

-- the line has a stage of this filter, or will have one
abbrev pub is_there : TcpLine → Filter → Bool
is_there l f = (has_stage_of f.vm f.context l.down || has_stage_of f.vm f.context l.up) || not l.is_entered

-- a filter of the VM is there that lets nothing pass once its VM is dead
abbrev pub fails_closed : ℕ → TcpLine → Bool
fails_closed vm l = list_any (λ (f : Filter). (f.vm == vm && not f.fails_open) && is_there l f) l.filters

-- A VM DIED: the connection ends, or its stages are let through
abbrev pub lose_vm : ℕ → LineChanges
lose_vm vm l hub =
    if l.has_ended then (l, hub)
    else if fails_closed vm l then in_line close_stream l hub
    else in_line (bypass_vm vm) l hub

-- the filter at a place is this now
abbrev pub with_filter : ℕ → Filter → TcpLine → TcpLine
with_filter k f l = record l { filters = slice_set l.filters k f }

-- the stages of these filters: towards the server in the order of the list, and back in reverse. One whose VM is dead is skipped.
abbrev pub with_made : List ℕ → List Filter → passing.TcpLine → passing.TcpLine
with_made dead filters s = record s {
  down = map (new_stage false) (filter (is_live dead) filters);
  up = reverse (map (new_stage true) (filter (is_live dead) filters));
}

-- they are made, and New comes
abbrev pub enters : List ℕ → List Filter → Changes
enters dead filters s hub = take_what (whats.Opened s.number) (with_made dead filters s) hub

-- THE STAGES ARE MADE, and New comes, unless the connection has come to its end
abbrev pub enter_stages : List ℕ → LineChanges
enter_stages dead l hub = if l.has_ended then (l, hub) else in_line (enters dead l.filters) l hub
