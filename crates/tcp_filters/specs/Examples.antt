-- Worked examples: lines of two filters, and what passes them.
use Rattle.std.specs.Prelude.{◌≡◌, ℕ, Bool, true, false, List, [], ◌∷◌, ◌++◌, length, codes}
use Rattle.gate_base.specs.declared.level.Level.TheVariants as levels
use Rattle.contexts.specs.declared.parts.Contexts.{Contexts}
use Rattle.contexts.specs.Creating.{root_created, stream_created}
use Rattle.contexts.specs.Making.{no_contexts, with_vm, with_plugin}
use Rattle.contexts.specs.Stages.{held_at, with_buffered, with_callback_answered}
use Rattle.filter_chain.specs.declared.stage.Stage.{Stage}
use Rattle.filter_chain.specs.declared.item.ChainItem.{ChainItem}
use Rattle.filter_chain.specs.declared.item.ChainItem.TheVariants.{Head, Piece}
use Rattle.filter_chain.specs.declared.item.Held.TheVariants as held
use Rattle.filter_chain.specs.declared.item.AskKind.{AskKind}
use Rattle.filter_chain.specs.declared.item.AskKind.TheVariants as kinds
use Rattle.filter_chain.specs.declared.item.Asking.{Asking}
use Rattle.filter_chain.specs.declared.item.Asking.TheVariants.{Nothing, Over, Asks}
use Rattle.gate_io.specs.declared.event.Sent.{Sent}
use Rattle.gate_io.specs.declared.event.Sent.TheVariants as to
use Rattle.gate_io.specs.declared.event.Side.TheVariants.{Down, Up}
use Rattle.gate_io.specs.declared.event.What.{What}
use Rattle.gate_io.specs.declared.event.What.TheVariants as whats
use Rattle.tcp_filters.specs.declared.line.TcpLine.{TcpLine}
use Rattle.tcp_filters.specs.declared.types.Action.{Action}
use Rattle.tcp_filters.specs.declared.types.Action.TheVariants.{Continue, Pause}
use Rattle.tcp_filters.specs.declared.types.TcpAsking.{TcpAsking}
use Rattle.tcp_filters.specs.declared.types.TcpOutcome.TheVariants as outcome
use Rattle.tcp_filters.specs.Lines.{Outcome, new_line, take_event, ask_line, answer_at, resume_at, let_through_at, close_line}

-- one VM with a root, 1, and two streams of it, 2 and 3
abbrev pub host : Contexts
host = stream_created 0 1 7 (stream_created 0 1 7 (root_created 0 0 (with_plugin 0 (codes "p") [] (with_vm (codes "m") [] (no_contexts levels.Info [])))))

-- a stage of a context that nothing came to
abbrev pub idle : Bool → ℕ → Stage
idle response context = record { vm = 0; context = context; response = response; waiting = []; held = held.Nothing; passes = false }

-- line 7 with two filters: towards the server in their order, and back in reverse
abbrev pub two : TcpLine
two = new_line 7 (idle false 2 ∷ idle false 3 ∷ []) (idle true 3 ∷ idle true 2 ∷ [])

-- line 7 without filters
abbrev pub none : TcpLine
none = new_line 7 [] []

-- ---- what is done to a line: something happens; the next callback is asked, and answers; the stage at a place of a direction is continued, or
-- let through; the connection is closed
pub data Step : Type 0 where
  comes : What → Step
  answers : Action → Step
  goes_on : Bool → ℕ → Step
  opens : Bool → ℕ → Step
  closes : Step

-- a callback that was asked: in which direction, of the stage at which place, about what, how many bytes, and the end flag
pub record Question : Type 0 where
  pub response : Bool
  pub stage : ℕ
  pub kind : AskKind
  pub count : ℕ
  pub end : Bool

-- what was asked, what was sent, whether the last step was too much, and how it stands then
pub record Walk : Type 0 where
  pub asks : List Question
  pub sent : List Sent
  pub is_over : Bool
  pub line : TcpLine
  pub contexts : Contexts

-- what comes of a step
abbrev pub with_outcome : Walk → Outcome → Walk
with_outcome w (outcome.Over, l, h) = record w { is_over = true; line = l; contexts = h }
with_outcome w (outcome.Sends sent, l, h) = record w { sent = w.sent ++ sent; is_over = false; line = l; contexts = h }

-- what comes of closing
abbrev pub with_end : Walk → TcpLine × Contexts → Walk
with_end w (l, h) = record w { line = l; contexts = h }

-- a stage was asked, and answers
abbrev pub answered_by : Action → Bool → Asking → Walk → Walk
answered_by action response Nothing w = w
answered_by action response (Over k) w = record w { is_over = true }
answered_by action response (Asks ask) w = with_outcome
    (record w { asks = w.asks ++ (record { response = response; stage = ask.stage; kind = ask.kind; count = ask.count; end = ask.end }) ∷ [] })
    (answer_at action response ask.stage w.line w.contexts)

-- the next callback, which answers so
abbrev pub asked_by : Action → Walk → TcpAsking × TcpLine × Contexts → Walk
asked_by action w (a, l, h) = answered_by action a.response a.asking (record w { line = l; contexts = h })

-- one step
abbrev pub step : Step → Walk → Walk
step (comes what) w = with_outcome w (take_event what w.contexts w.line)
step (answers action) w = asked_by action w (ask_line w.line w.contexts)
step (goes_on response k) w = with_outcome w (resume_at response k w.line w.contexts)
step (opens response k) w = with_outcome w (let_through_at response k w.line w.contexts)
step closes w = with_end w (close_line w.line w.contexts)

-- one after another
abbrev pub walk : List Step → Walk → Walk
walk [] w = w
walk (s ∷ steps) w = walk steps (step s w)

-- these steps, from a new line
abbrev pub walked_on : TcpLine → List Step → Walk
walked_on l steps = walk steps (record { asks = []; sent = []; is_over = false; line = l; contexts = host })

-- the same on the line with two filters
abbrev pub walked : List Step → Walk
walked steps = walked_on two steps

-- ---- the steps by short words

-- the line is opened
abbrev pub new : Step
new = comes (whats.Opened 7)

-- bytes of the client come
abbrev pub client : List ℕ → Step
client bytes = comes (whats.Bytes 7 Down bytes)

-- bytes of the server come
abbrev pub server : List ℕ → Step
server bytes = comes (whats.Bytes 7 Up bytes)

-- the end of the client's bytes comes
abbrev pub client_ends : Step
client_ends = comes (whats.End 7 Down)

-- the end of the server's bytes comes
abbrev pub server_ends : Step
server_ends = comes (whats.End 7 Up)

-- two filters let what is asked go on
abbrev pub passes : List Step
passes = answers Continue ∷ answers Continue ∷ []

-- New has passed both
abbrev pub entered : List Step
entered = new ∷ passes

-- a question in short
abbrev pub asks : Bool → ℕ → AskKind → ℕ → Bool → Question
asks response stage kind count end = record { response = response; stage = stage; kind = kind; count = count; end = end }

-- bytes that are sent to the server
abbrev pub up : List ℕ → Sent
up bytes = to.Bytes 7 Up bytes

-- bytes that are sent to the client
abbrev pub down : List ℕ → Sent
down bytes = to.Bytes 7 Down bytes

-- ---- New

-- the first filter holds New while bytes and the end come
abbrev pub new_held : List Step
new_held = new ∷ answers Pause ∷ client (codes "ab") ∷ client (codes "c") ∷ client_ends ∷ answers Continue ∷ []

-- New goes on, and all that waited behind it
abbrev pub new_goes_on : List Step
new_goes_on = new_held ++ goes_on false 0 ∷ answers Continue ∷ passes ++ passes ++ passes

-- ---- pieces

-- the second filter holds a piece, and the first one lets another go on
abbrev pub one_ahead : List Step
one_ahead = entered ++ client (codes "ab") ∷ answers Continue ∷ answers Pause ∷ client (codes "c") ∷ answers Continue ∷ []

-- both directions have bytes; those of the server came first
abbrev pub both_ways : List Step
both_ways = entered ++ server (codes "xyz") ∷ client (codes "ab") ∷ passes ++ passes

-- the end of the server's bytes has left
abbrev pub whole : List Step
whole = entered ++ server (codes "x") ∷ passes ++ server_ends ∷ passes

-- WHAT PASSES A LINE
pub record LineExamples : Type 0 where
  -- without filters: the connection is opened, and bytes pass as they come
  pub none_sent : (walked_on none (new ∷ client (codes "ab") ∷ server (codes "c") ∷ [])).sent ≡ to.Connect 7 ∷ up (codes "ab") ∷ down (codes "c") ∷ []
  -- the end of the client's bytes sends nothing, and that of the server's is the end of the connection
  pub none_client_ends : (walked_on none (new ∷ client_ends ∷ [])).sent ≡ to.Connect 7 ∷ []
  pub none_stays : (walked_on none (new ∷ client_ends ∷ [])).line.has_ended ≡ false
  pub none_server_ends : (walked_on none (new ∷ client_ends ∷ server_ends ∷ [])).sent ≡ to.Connect 7 ∷ []
  pub none_is_over : (walked_on none (new ∷ client_ends ∷ server_ends ∷ [])).line.has_ended ≡ true
  -- New is asked like a head, and a connection is opened when it leaves
  pub new_asks : (walked entered).asks ≡ asks false 0 kinds.Head 0 false ∷ asks false 1 kinds.Head 0 false ∷ []
  pub new_waits : (walked (new ∷ answers Continue ∷ [])).sent ≡ []
  pub new_leaves : (walked entered).sent ≡ to.Connect 7 ∷ []
  -- after a New that is held nothing is asked and nothing is sent: bytes and the end wait behind it
  pub held_asks : (walked new_held).asks ≡ asks false 0 kinds.Head 0 false ∷ []
  pub held_sent : (walked new_held).sent ≡ []
  -- a continue passes it on and asks no more about it; then each is asked by itself, in order, and the end sends nothing
  pub goes_on_asks : (walked new_goes_on).asks
      ≡ asks false 0 kinds.Head 0 false ∷ asks false 1 kinds.Head 0 false ∷ asks false 0 kinds.Piece 2 false ∷ asks false 1 kinds.Piece 2 false
      ∷ asks false 0 kinds.Piece 1 false ∷ asks false 1 kinds.Piece 1 false ∷ asks false 0 kinds.Piece 0 true ∷ asks false 1 kinds.Piece 0 true ∷ []
  pub goes_on_sent : (walked new_goes_on).sent ≡ to.Connect 7 ∷ up (codes "ab") ∷ up (codes "c") ∷ []
  -- a piece never passes the one ahead of it: it waits at the stage that holds that, is asked about with it, and goes on with it
  pub ahead_sent : (walked one_ahead).sent ≡ to.Connect 7 ∷ []
  pub ahead_asks : (walked (one_ahead ++ answers Continue ∷ [])).asks
      ≡ asks false 0 kinds.Head 0 false ∷ asks false 1 kinds.Head 0 false ∷ asks false 0 kinds.Piece 2 false ∷ asks false 1 kinds.Piece 2 false
      ∷ asks false 0 kinds.Piece 1 false ∷ asks false 1 kinds.Piece 3 false ∷ []
  pub ahead_goes_on : (walked (one_ahead ++ answers Continue ∷ [])).sent ≡ to.Connect 7 ∷ up (codes "abc") ∷ []
  -- also where the stage that holds the one ahead is let through, or where it is continued and the other is asked afterwards
  pub ahead_opens : (walked (one_ahead ++ opens false 1 ∷ [])).sent ≡ to.Connect 7 ∷ up (codes "ab") ∷ up (codes "c") ∷ []
  pub ahead_resumes : (walked (one_ahead ++ goes_on false 1 ∷ answers Continue ∷ [])).sent ≡ to.Connect 7 ∷ up (codes "ab") ∷ up (codes "c") ∷ []
  -- a filter that is let through is asked no more
  pub opens_asks : (walked (entered ++ opens false 0 ∷ client (codes "ab") ∷ passes)).asks
      ≡ asks false 0 kinds.Head 0 false ∷ asks false 1 kinds.Head 0 false ∷ asks false 1 kinds.Piece 2 false ∷ []
  -- both directions: bytes of the client are asked about first, through both filters, and those of the server pass the filters in reverse
  pub both_asks : (walked both_ways).asks
      ≡ asks false 0 kinds.Head 0 false ∷ asks false 1 kinds.Head 0 false ∷ asks false 0 kinds.Piece 2 false ∷ asks false 1 kinds.Piece 2 false
      ∷ asks true 0 kinds.Piece 3 false ∷ asks true 1 kinds.Piece 3 false ∷ []
  pub both_sent : (walked both_ways).sent ≡ to.Connect 7 ∷ up (codes "ab") ∷ down (codes "xyz") ∷ []
  -- a filter that holds bytes of the client does not hold those of the server
  pub apart : (walked (entered ++ client (codes "ab") ∷ answers Pause ∷ server (codes "x") ∷ passes)).sent ≡ to.Connect 7 ∷ down (codes "x") ∷ []
  -- the end of the server's bytes ends the connection once it has left, and not before
  pub end_waits : (walked (entered ++ server_ends ∷ answers Continue ∷ [])).line.has_ended ≡ false
  pub end_sent : (walked whole).sent ≡ to.Connect 7 ∷ down (codes "x") ∷ []
  pub end_left : (walked whole).line.has_ended ≡ true
  pub end_told : (walked whole).line.up_ended ≡ true
  -- from then on nothing is asked, nothing goes on, and nothing that comes is taken
  pub over_asks : (walked (whole ++ client (codes "ab") ∷ answers Continue ∷ [])).asks
      ≡ asks false 0 kinds.Head 0 false ∷ asks false 1 kinds.Head 0 false ∷ asks true 0 kinds.Piece 1 false ∷ asks true 1 kinds.Piece 1 false
      ∷ asks true 0 kinds.Piece 0 true ∷ asks true 1 kinds.Piece 0 true ∷ []
  pub over_sent : (walked (entered ++ client (codes "ab") ∷ answers Pause ∷ server_ends ∷ passes ++ goes_on false 0 ∷ [])).sent ≡ to.Connect 7 ∷ []
  -- nothing comes of bytes before New, of the server's before there is a connection to it, of bytes after their end, and of another line
  pub early : (walked_on none (client (codes "ab") ∷ [])).sent ≡ []
  pub no_server : (walked (new ∷ server (codes "x") ∷ server_ends ∷ comes (whats.Gone 7 Up) ∷ comes (whats.Refused 7) ∷ [])).line
      ≡ record two { is_entered = true; down = record (idle false 2) { waiting = Head false ∷ [] } ∷ idle false 3 ∷ [] }
  pub late : (walked_on none (new ∷ client_ends ∷ client (codes "ab") ∷ [])).sent ≡ to.Connect 7 ∷ []
  pub elsewhere : (walked_on none (comes (whats.Opened 8) ∷ [])).sent ≡ []
  pub once : (walked_on none (new ∷ new ∷ [])).sent ≡ to.Connect 7 ∷ []
  -- a side that is gone ends the connection, and so does a refused one, also after the end of its bytes; nothing is held then
  pub client_gone : (walked (entered ++ client (codes "ab") ∷ answers Pause ∷ comes (whats.Gone 7 Down) ∷ [])).line.has_ended ≡ true
  pub client_lost : (walked (entered ++ client (codes "ab") ∷ answers Pause ∷ comes (whats.Gone 7 Down) ∷ [])).line.is_gone ≡ true
  pub server_gone : (walked (entered ++ server_ends ∷ comes (whats.Gone 7 Up) ∷ [])).line.has_ended ≡ true
  pub refused : (walked (entered ++ comes (whats.Refused 7) ∷ [])).line.has_ended ≡ true
  pub holds : held_at (walked (entered ++ client (codes "ab") ∷ answers Pause ∷ [])).contexts 0 2 false ≡ codes "ab"
  pub gone_holds : held_at (walked (entered ++ client (codes "ab") ∷ answers Pause ∷ comes (whats.Gone 7 Down) ∷ [])).contexts 0 2 false ≡ []
  pub closed_holds : held_at (walked (entered ++ client (codes "ab") ∷ answers Pause ∷ closes ∷ [])).contexts 0 2 false ≡ []
  pub closed_stages : (walked (entered ++ closes ∷ [])).line.down ≡ []

-- ---- lines by their stages

-- line 7 after New came, with these two stages towards the server; whether New has left
abbrev pub staged : Bool → Stage → Stage → TcpLine
staged is_up s t = record (new_line 7 (s ∷ t ∷ []) (idle true 3 ∷ idle true 2 ∷ [])) { is_entered = true; is_up = is_up }

-- the stage of a context towards the server, where these wait
abbrev pub waits : ℕ → List ChainItem → Stage
waits context items = record (idle false context) { waiting = items }

-- the same where it holds New
abbrev pub holds_new : ℕ → List ChainItem → Stage
holds_new context items = record (waits context items) { held = held.Head false }

-- the same where it holds the bytes of its buffer
abbrev pub holds_bytes : ℕ → List ChainItem → Stage
holds_bytes context items = record (waits context items) { held = held.Body false }

-- these are in the buffer of a context, whose callback has returned
abbrev pub buffered : ℕ → List ℕ → Contexts → Contexts
buffered context bytes h = with_callback_answered (with_buffered h 0 context false bytes false) 0 context false

-- bytes of the client
abbrev pub from_client : List ℕ → What
from_client bytes = whats.Bytes 7 Down bytes

-- 1,048,576 BYTES and no more may be with a stage, those that it holds and those that wait. What is too much leaves all as it was.
pub record LimitExamples : Type 0 where
  -- so many wait behind a New that is held, whatever they are; one more is too much
  pub behind_new : (bytes : List ℕ) → length bytes ≡ 1048576
      → take_event (from_client bytes) host (staged false (holds_new 2 []) (idle false 3)) ≡ (outcome.Sends [], staged false (holds_new 2 (Piece bytes false ∷ [])) (idle false 3), host)
  pub past_new : (bytes : List ℕ) (b : ℕ) → length bytes ≡ 1048576
      → take_event (from_client (b ∷ [])) host (staged false (holds_new 2 (Piece bytes false ∷ [])) (idle false 3)) ≡ (outcome.Over, staged false (holds_new 2 (Piece bytes false ∷ [])) (idle false 3), host)
  -- the end may follow them, since it has no bytes
  pub end_behind_new : (bytes : List ℕ)
      → take_event (whats.End 7 Down) host (staged false (holds_new 2 (Piece bytes false ∷ [])) (idle false 3))
      ≡ (outcome.Sends [], record (staged false (holds_new 2 (Piece bytes false ∷ Piece [] true ∷ [])) (idle false 3)) { down_ended = true }, host)
  -- a stage is asked about so many at once
  pub asked_about : (bytes : List ℕ) → length bytes ≡ 1048576
      → (ask_line (staged true (waits 2 (Piece bytes false ∷ [])) (idle false 3)) host).0 ≡ record { response = false; asking = Asks (record { stage = 0; kind = kinds.Piece; count = 1048576; end = false }) }
  -- beside as many that it holds, one more is too much, and one less leaves room for one
  pub past_held : (bytes : List ℕ) (b : ℕ) → length bytes ≡ 1048576
      → take_event (from_client (b ∷ [])) (buffered 2 bytes host) (staged true (holds_bytes 2 []) (idle false 3)) ≡ (outcome.Over, staged true (holds_bytes 2 []) (idle false 3), buffered 2 bytes host)
  pub room_for_one : (bytes : List ℕ) (b : ℕ) → length bytes ≡ 1048575
      → take_event (from_client (b ∷ [])) (buffered 2 bytes host) (staged true (holds_bytes 2 []) (idle false 3))
      ≡ (outcome.Sends [], staged true (holds_bytes 2 (Piece (b ∷ []) false ∷ [])) (idle false 3), buffered 2 bytes host)
  -- a stage after it has as much room of its own: what goes on to it may be too much there
  pub past_next : (bytes : List ℕ) (b : ℕ) → length bytes ≡ 1048576
      → resume_at false 0 (staged true (holds_bytes 2 []) (holds_bytes 3 [])) (buffered 2 (b ∷ []) (buffered 3 bytes host))
      ≡ (outcome.Over, staged true (holds_bytes 2 []) (holds_bytes 3 []), buffered 2 (b ∷ []) (buffered 3 bytes host))
