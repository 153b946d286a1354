-- A LINE OF STREAMS OPENS: its contexts are made, and then its stages. And the roots of plug-ins are made.
use Rattle.std.specs.List.{list_any, position_or_len}
use Rattle.std.specs.Prelude.{ℕ, zero, suc, Bool, true, false, not, ◌||◌, List, [], ◌∷◌, ◌++◌, length, filter, slice_get, insert, Option, None, Some, is_some, nat_lt, if◌then◌else◌}
use Rattle.contexts.specs.Creating.{next_id, plugin_in, root_created, stream_created}
use Rattle.exchange.specs.declared.types.Filter.{Filter}
use Rattle.filter_host.specs.declared.host.Death.TheVariants as deaths
use Rattle.gate_io.specs.declared.event.Sent.TheVariants as to
use Rattle.gate_io.specs.declared.event.Side.TheVariants.{Down}
use Rattle.worker_model.specs.Plan.{Plan}
use Rattle.worker_model.specs.Room.{Room}
use Rattle.worker_model.specs.Rooms.{room_with_sent, with_contexts, is_dead}
use Rattle.worker_model.specs.Steps.{with_jobs_first, new_one, may_root, root_jobs, may_stream, is_drawn_out, filters_of, is_gone, is_blocking, most_lines}
use Rattle.worker_model.specs.declared.types.Job.{Job}
use Rattle.worker_model.specs.declared.types.Job.TheVariants as jobs
use Rattle.worker_model.specs.declared.types.NewContext.{NewContext}
use Rattle.worker_model.specs.declared.types.OtherStep.TheVariants as others
use Rattle.worker_model.specs.declared.types.TcpLine.{TcpLine}
use Rattle.worker_model.specs.declared.types.TcpStep.{TcpStep}
use Rattle.worker_model.specs.declared.types.TcpStep.TheVariants as tcp
use Rattle.streams_model.specs.Lines.{LineChanges, with_filter}
use Rattle.streams_model.specs.Rooms.{place_in, on_number, lose_vm_in}

-- the job of one step of a stream
abbrev pub tcp_job : TcpStep → Job
tcp_job step = jobs.Other (others.Tcp step)

-- a line of these filters that nothing came to
abbrev pub new_line : ℕ → List Filter → TcpLine
new_line number filters = record {
  number = number;
  filters = filters;
  down = [];
  up = [];
  is_entered = false;
  is_up = false;
  down_ended = false;
  up_ended = false;
  is_gone = false;
  has_ended = false;
}

-- the contexts of the first so many filters are made
abbrev pub create_jobs : ℕ → ℕ → List Job
create_jobs number zero = []
create_jobs number (suc k) = create_jobs number k ++ tcp_job (tcp.Create number k) ∷ []

-- and then the stages
abbrev pub open_jobs : ℕ → List Filter → List Job
open_jobs number filters = create_jobs number (length filters) ++ tcp_job (tcp.Enter number) ∷ []

-- the place of a new line: after those of lower numbers
abbrev pub place_for : ℕ → List TcpLine → ℕ
place_for number lines = position_or_len (λ (l : TcpLine). nat_lt number l.number) lines

-- the line is there
abbrev pub insert_line : ℕ → List Filter → Room → Room
insert_line number filters room = record room { tcp = insert room.tcp (place_for number room.tcp) (new_line number filters) }

-- its contexts are made, and then its stages
abbrev pub with_line : ℕ → List Filter → Room → Room
with_line number filters room = with_jobs_first (open_jobs number filters) (insert_line number filters room)

-- the client's connection is closed
abbrev pub close_down : ℕ → Room → Room
close_down number room = room_with_sent (to.Close number Down ∷ []) room

-- with the filters of the list
abbrev pub accept_with : ℕ → List Filter → Room → Room
accept_with number filters room =
    if not (nat_lt (length room.tcp) most_lines) || list_any (is_blocking room.dead) filters then close_down number room
    else with_line number (filter (λ (f : Filter). not (is_gone room.dead f)) filters) room

-- A CONNECTION WAS OPENED. Of an open line that changes nothing. Where there is no room for a line, or a VM of the list is dead whose plug-in lets
-- nothing pass, it is closed at once. A filter whose VM is dead is skipped.
abbrev pub accept_line : Plan → ℕ → Room → Room
accept_line plan number room = if is_some (place_in number room.tcp) then room else accept_with number (filters_of plan.plugins plan.tcp) room

-- ---- the contexts of its filters

-- the line at a place
abbrev pub in_place : List TcpLine → Option ℕ → Option TcpLine
in_place lines None = None
in_place lines (Some place) = slice_get lines place

-- the line of a number
abbrev pub line_in : ℕ → List TcpLine → Option TcpLine
line_in number lines = in_place lines (place_in number lines)

-- the filter at a place of a line whose connection has not ended
abbrev pub open_filter : ℕ → Option TcpLine → Option Filter
open_filter k None = None
open_filter k (Some l) = if l.has_ended then None else slice_get l.filters k

-- the filter at a place of the line of a number
abbrev pub filter_at : ℕ → ℕ → List TcpLine → Option Filter
filter_at number k lines = open_filter k (line_in number lines)

-- the filter at a place is this now
abbrev pub notes_filter : ℕ → Filter → LineChanges
notes_filter k f l hub = (with_filter k f l, hub)

-- the context of a filter is there
abbrev pub with_stream_context : ℕ → ℕ → Filter → ℕ → Room → Option NewContext × Room
with_stream_context number k f root room = (
  Some (new_one f.vm (next_id room.hub.contexts f.vm) root),
  on_number (notes_filter k (record f { created = true; context = next_id room.hub.contexts f.vm })) number
      (with_contexts (stream_created f.vm root number room.hub.contexts) room),
)

-- the context of a filter is made, whose root is there; where no id is left, the VM is dead
abbrev pub create_stream : ℕ → ℕ → Filter → Option ℕ → Room → Option NewContext × Room
create_stream number k f None room = (None, room)
create_stream number k f (Some root) room =
    if is_dead f.vm room || not (may_stream f.vm root room.hub.contexts) then (None, room)
    else if is_drawn_out f.vm room.hub.contexts then (None, lose_vm_in f.vm deaths.Ids room)
    else with_stream_context number k f root room

-- the context of a filter, if there is one
abbrev pub create_filter : ℕ → ℕ → Option Filter → Room → Option NewContext × Room
create_filter number k None room = (None, room)
create_filter number k (Some f) room = create_stream number k f (plugin_in room.hub.contexts f.plugin).root room

-- THE CONTEXT OF A FILTER of a line is made
abbrev pub create_context : ℕ → ℕ → Room → Option NewContext × Room
create_context number k room = create_filter number k (filter_at number k room.tcp) room

-- ---- roots

-- THE ROOT OF A PLUG-IN is made; where no id is left, the VM is dead
abbrev pub create_root : ℕ → ℕ → Bool → Room → Option NewContext × Room
create_root vm plugin first room =
    if is_dead vm room || not (may_root vm plugin room.hub.contexts) then (None, room)
    else if is_drawn_out vm room.hub.contexts then (None, lose_vm_in vm deaths.Ids room)
    else (
      Some (new_one vm (next_id room.hub.contexts vm) 0),
      with_jobs_first (root_jobs vm (next_id room.hub.contexts vm) plugin first) (with_contexts (root_created vm plugin room.hub.contexts) room),
    )
