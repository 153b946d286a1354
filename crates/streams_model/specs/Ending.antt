-- THE END OF A CONNECTION: the one to the server is closed; the filters are told of the end of each, filter by filter; their contexts are done with;
-- and the client's is closed. And what happens on lines.
use Rattle.std.specs.Prelude.{ℕ, Bool, List, [], ◌∷◌, ◌++◌, slice_get, remove, Option, None, Some, if◌then◌else◌}
use Rattle.exchange.specs.declared.types.Filter.{Filter}
use Rattle.filter_chain.specs.Chains.{without_buffers}
use Rattle.gate_io.specs.declared.event.Sent.{Sent}
use Rattle.gate_io.specs.declared.event.Sent.TheVariants as to
use Rattle.gate_io.specs.declared.event.Side.TheVariants.{Up}
use Rattle.gate_io.specs.declared.event.What.{What}
use Rattle.gate_io.specs.declared.event.What.TheVariants as whats
use Rattle.worker_model.specs.Plan.{Plan}
use Rattle.worker_model.specs.Room.{Room}
use Rattle.worker_model.specs.Rooms.{room_with_sent, with_contexts}
use Rattle.worker_model.specs.Steps.{with_jobs_first, done_jobs}
use Rattle.worker_model.specs.declared.types.ContextAt.{ContextAt}
use Rattle.worker_model.specs.declared.types.Job.{Job}
use Rattle.worker_model.specs.declared.types.TcpLine.{TcpLine}
use Rattle.worker_model.specs.declared.types.TcpStep.TheVariants as tcp
use Rattle.streams_model.specs.Lines.{in_line, take_what}
use Rattle.streams_model.specs.Opening.{tcp_job, accept_line}
use Rattle.streams_model.specs.Rooms.{on_number}

-- 2 where that peer ended it, 1 where the gateway does
abbrev pub peer_of : Bool → ℕ
peer_of ended = if ended then 2 else 1

-- the context of a filter
abbrev pub context_of : Filter → ContextAt
context_of f = record { vm = f.vm; context = f.context }

-- a filter is told of the end of the connection to the server, where there was one
abbrev pub up_close_jobs : TcpLine → Filter → List Job
up_close_jobs l f = if l.is_up then tcp_job (tcp.UpClose (context_of f) (peer_of l.up_ended)) ∷ [] else []

-- and of the end of the client's
abbrev pub down_close_jobs : TcpLine → Filter → List Job
down_close_jobs l f = tcp_job (tcp.DownClose (context_of f) (peer_of l.down_ended)) ∷ []

-- a filter whose context was made is told of both
abbrev pub close_jobs_of : TcpLine → Filter → List Job
close_jobs_of l f = if f.created then up_close_jobs l f ++ down_close_jobs l f else []

-- each filter, in the order of the list
abbrev pub close_jobs : TcpLine → List Filter → List Job
close_jobs l [] = []
close_jobs l (f ∷ filters) = close_jobs_of l f ++ close_jobs l filters

-- the client's connection is closed last, unless it is gone
abbrev pub last_close_jobs : TcpLine → List Job
last_close_jobs l = if l.is_gone then [] else tcp_job (tcp.Close l.number) ∷ []

-- what is done after the end
abbrev pub end_jobs : TcpLine → List Job
end_jobs l = close_jobs l l.filters ++ (done_jobs l.filters ++ last_close_jobs l)

-- the server's connection is closed, where there is one
abbrev pub close_up : TcpLine → List Sent
close_up l = if l.is_up then to.Close l.number Up ∷ [] else []

-- nothing is held for the stages of the line
abbrev pub drop_held : TcpLine → Room → Room
drop_held l room = with_contexts (without_buffers (without_buffers room.hub.contexts l.down) l.up) room

-- the end of a line that is there no more
abbrev pub end_line : TcpLine → Room → Room
end_line l room = with_jobs_first (end_jobs l) (drop_held l (room_with_sent (close_up l) room))

-- the end of the line at a place, if there is one
abbrev pub end_some : ℕ → Option TcpLine → Room → Room
end_some place None room = room
end_some place (Some l) room = end_line l (record room { tcp = remove room.tcp place })

-- THE END of the line at a place
abbrev pub end_at : ℕ → Room → Room
end_at place room = end_some place (slice_get room.tcp place) room

-- ---- WHAT HAPPENS

-- it comes to the line of a number
abbrev pub happens_on : What → ℕ → Room → Room
happens_on what number room = on_number (in_line (take_what what)) number room

-- THE EVENT
abbrev pub take_event : Plan → What → Room → Room
take_event plan (whats.Opened number) room = accept_line plan number room
take_event plan (whats.Bytes number side bytes) room = happens_on (whats.Bytes number side bytes) number room
take_event plan (whats.End number side) room = happens_on (whats.End number side) number room
take_event plan (whats.Gone number side) room = happens_on (whats.Gone number side) number room
take_event plan (whats.Joined number) room = room
take_event plan (whats.Refused number) room = happens_on (whats.Refused number) number room
take_event plan (whats.Room number side) room = room
take_event plan whats.Clock room = room
take_event plan whats.Stop room = room
