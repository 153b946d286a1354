-- A LINE WHOSE CONNECTIONS ARE STREAMS OF BYTES: what comes to it, what its stages let go on, and what is sent then. New, with which a
-- connection to the server is opened, is a head without an end; the end of a side's bytes is an empty piece with the end flag.
use Rattle.std.specs.Prelude.{ℕ, Bool, true, false, not, ◌&&◌, ◌||◌, ◌==◌, List, [], ◌∷◌, ◌++◌, nat_lt, Option, position, if◌then◌else◌}
use Rattle.contexts.specs.declared.parts.Contexts.{Contexts}
use Rattle.filter_chain.specs.declared.stage.Stage.{Stage}
use Rattle.filter_chain.specs.declared.item.ChainItem.{ChainItem}
use Rattle.filter_chain.specs.declared.item.ChainItem.TheVariants.{Head, Piece, Trailers}
use Rattle.filter_chain.specs.declared.item.Asking.{Asking}
use Rattle.filter_chain.specs.declared.item.Asking.TheVariants.{Nothing}
use Rattle.filter_chain.specs.declared.item.PassOutcome.{PassOutcome}
use Rattle.filter_chain.specs.declared.item.PassOutcome.TheVariants as passed
use Rattle.filter_chain.specs.Chains.{put, asked, continued, paused, let_through, ready, is_of, without_buffers}
use Rattle.gate_io.specs.declared.event.Sent.{Sent}
use Rattle.gate_io.specs.declared.event.Sent.TheVariants as to
use Rattle.gate_io.specs.declared.event.Side.{Side}
use Rattle.gate_io.specs.declared.event.Side.TheVariants.{Down, Up}
use Rattle.gate_io.specs.declared.event.What.{What}
use Rattle.gate_io.specs.declared.event.What.TheVariants as whats
use Rattle.tcp_filters.specs.declared.line.TcpLine.{TcpLine}
use Rattle.tcp_filters.specs.declared.types.Action.{Action}
use Rattle.tcp_filters.specs.declared.types.Action.TheVariants.{Continue, Pause}
use Rattle.tcp_filters.specs.declared.types.TcpAsking.{TcpAsking}
use Rattle.tcp_filters.specs.declared.types.TcpOutcome.{TcpOutcome}
use Rattle.tcp_filters.specs.declared.types.TcpOutcome.TheVariants.{Over, Sends}

-- ---- the line and its chains

-- a line that nothing came to
abbrev pub new_line : ℕ → List Stage → List Stage → TcpLine
new_line number down up = record {
  number = number;
  down = down;
  up = up;
  is_entered = false;
  is_up = false;
  down_ended = false;
  up_ended = false;
  is_gone = false;
  has_ended = false;
}

-- the stages of a direction: those that bytes of the client pass, or those that bytes of the server pass
abbrev pub chain_of : Bool → TcpLine → List Stage
chain_of false l = l.down
chain_of true l = l.up

-- the line with other stages in a direction
abbrev pub with_chain : Bool → List Stage → TcpLine → TcpLine
with_chain false stages l = record l { down = stages }
with_chain true stages l = record l { up = stages }

-- what comes of a call: what is sent or that it was too much, and the line and the contexts then
abbrev pub Outcome : Type 0
Outcome = TcpOutcome × TcpLine × Contexts

-- nothing comes of it
abbrev pub no_change : TcpLine → Contexts → Outcome
no_change l h = (Sends [], l, h)

-- ---- what leaves a chain

-- bytes for a side, if there are any
abbrev pub bytes_to : ℕ → Side → List ℕ → List Sent
bytes_to number side [] = []
bytes_to number side (b ∷ bytes) = to.Bytes number side (b ∷ bytes) ∷ []

-- TOWARDS THE SERVER: with New a connection is opened. Bytes are sent; an end sends nothing.
abbrev pub send_up : ChainItem → TcpLine × List Sent → TcpLine × List Sent
send_up (Head end) (l, sent) = (record l { is_up = true }, sent ++ to.Connect l.number ∷ [])
send_up (Piece bytes end) (l, sent) = (l, sent ++ bytes_to l.number Up bytes)
send_up Trailers (l, sent) = (l, sent)

-- TOWARDS THE CLIENT: bytes are sent; with the end the connection has come to its own.
abbrev pub send_down : ChainItem → TcpLine × List Sent → TcpLine × List Sent
send_down (Head end) (l, sent) = (l, sent)
send_down (Piece bytes end) (l, sent) = (record l { has_ended = end }, sent ++ bytes_to l.number Down bytes)
send_down Trailers (l, sent) = (l, sent)

-- an item leaves the chain of a direction, unless the connection has come to its end
abbrev pub send_item : Bool → ChainItem → TcpLine × List Sent → TcpLine × List Sent
send_item false item (l, sent) = if l.has_ended then (l, sent) else send_up item (l, sent)
send_item true item (l, sent) = if l.has_ended then (l, sent) else send_down item (l, sent)

-- items leave it, one after another
abbrev pub send_items : Bool → List ChainItem → TcpLine × List Sent → TcpLine × List Sent
send_items response [] ls = ls
send_items response (item ∷ items) ls = send_items response items (send_item response item ls)

-- what is sent, and the line then
abbrev pub sends : TcpLine × List Sent → TcpOutcome × TcpLine
sends (l, sent) = (Sends sent, l)

-- what comes of passing items on
abbrev pub take_passed : Bool → PassOutcome → TcpLine → TcpOutcome × TcpLine
take_passed response passed.Over l = (Over, l)
take_passed response (passed.Left items) l = sends (send_items response items (l, []))

-- the outcome, and the contexts then
abbrev pub with_contexts : Contexts → TcpOutcome × TcpLine → Outcome
with_contexts h (outcome, l) = (outcome, l, h)

-- the stages of a direction and the contexts, which have what is held, are these then. (They are as before where it was too much.)
abbrev pub take_move : Bool → TcpLine → PassOutcome × List Stage × Contexts → Outcome
take_move response l (p, stages, h) = with_contexts h (take_passed response p (with_chain response stages l))

-- the same where the contexts stay
abbrev pub take_put : Bool → TcpLine → Contexts → PassOutcome × List Stage → Outcome
take_put response l h (p, stages) = with_contexts h (take_passed response p (with_chain response stages l))

-- AN ITEM COMES to the chain of a direction
abbrev pub put_item : Bool → ChainItem → Contexts → TcpLine → Outcome
put_item response item h l = take_put response l h (put h item (chain_of response l))

-- ---- the end

-- nothing is held of a connection that has come to its end
abbrev pub cut_line : TcpLine → Contexts → TcpLine × Contexts
cut_line l h = (record l { down = []; up = []; has_ended = true }, without_buffers (without_buffers h l.down) l.up)

-- THE CONNECTION COMES TO ITS END, unless it has
abbrev pub close_line : TcpLine → Contexts → TcpLine × Contexts
close_line l h = if l.has_ended then (l, h) else cut_line l h

-- the end sends nothing by itself
abbrev pub ends_with : TcpLine × Contexts → Outcome
ends_with (l, h) = (Sends [], l, h)

-- ---- what happens on the line

-- which chain the bytes of a side pass
abbrev pub is_response : Side → Bool
is_response Down = false
is_response Up = true

-- The bytes of a side fit: those of the client once New came, those of the server once there is a connection to it, and none after its end.
abbrev pub fits_from : Side → TcpLine → Bool
fits_from Down l = l.is_entered && not l.down_ended
fits_from Up l = l.is_up && not l.up_ended

-- the last byte of a side came
abbrev pub with_end : Side → TcpLine → TcpLine
with_end Down l = record l { down_ended = true }
with_end Up l = record l { up_ended = true }

-- NEW comes, once
abbrev pub take_new : Contexts → TcpLine → Outcome
take_new h l = if l.is_entered then no_change l h else put_item false (Head false) h (record l { is_entered = true })

-- BYTES of a side come
abbrev pub take_bytes : Side → List ℕ → Contexts → TcpLine → Outcome
take_bytes side bytes h l = if fits_from side l then put_item (is_response side) (Piece bytes false) h l else no_change l h

-- THE END of a side's bytes comes
abbrev pub take_end : Side → Contexts → TcpLine → Outcome
take_end side h l = if fits_from side l then put_item (is_response side) (Piece [] true) h (with_end side l) else no_change l h

-- A SIDE IS GONE, or the connection to the server was refused: that ends the connection
abbrev pub take_loss : Side → Contexts → TcpLine → Outcome
take_loss Down h l = ends_with (close_line (record l { down_ended = true; is_gone = true }) h)
take_loss Up h l = if l.is_up then ends_with (close_line (record l { up_ended = true }) h) else no_change l h

-- the event is of this line
abbrev pub is_of_line : ℕ → What → Bool
is_of_line number (whats.Opened n) = n == number
is_of_line number (whats.Bytes n side bytes) = n == number
is_of_line number (whats.End n side) = n == number
is_of_line number (whats.Gone n side) = n == number
is_of_line number (whats.Joined n) = n == number
is_of_line number (whats.Refused n) = n == number
is_of_line number (whats.Room n side) = n == number
is_of_line number whats.Clock = false
is_of_line number whats.Stop = false

-- what comes of an event of the line
abbrev pub take_own : What → Contexts → TcpLine → Outcome
take_own (whats.Opened n) h l = take_new h l
take_own (whats.Bytes n side bytes) h l = take_bytes side bytes h l
take_own (whats.End n side) h l = take_end side h l
take_own (whats.Gone n side) h l = take_loss side h l
take_own (whats.Joined n) h l = no_change l h
take_own (whats.Refused n) h l = take_loss Up h l
take_own (whats.Room n side) h l = no_change l h
take_own whats.Clock h l = no_change l h
take_own whats.Stop h l = no_change l h

-- AN EVENT: one of another line changes nothing, and nothing comes after the end of the connection
abbrev pub take_event : What → Contexts → TcpLine → Outcome
take_event what h l = if l.has_ended || not (is_of_line l.number what) then no_change l h else take_own what h l

-- ---- asking

-- the direction that is asked: towards the server first
abbrev pub asks_response : TcpLine → Bool
asks_response l = not (nat_lt 0 (ready l.down))

-- what a direction was asked, and the line and the contexts then
abbrev pub ask_chain : Bool → TcpLine → Asking × List Stage × Contexts → TcpAsking × TcpLine × Contexts
ask_chain response l (asking, stages, h) = (record { response = response; asking = asking }, with_chain response stages l, h)

-- THE STAGE THAT IS TO BE ASKED, with what its callback is asked about; none once the connection has come to its end
abbrev pub ask_line : TcpLine → Contexts → TcpAsking × TcpLine × Contexts
ask_line l h =
    if l.has_ended then (record { response = false; asking = Nothing }, l, h)
    else ask_chain (asks_response l) l (asked h (chain_of (asks_response l) l))

-- some stage of the line may be asked
abbrev pub may_ask : TcpLine → Bool
may_ask l = not l.has_ended && (nat_lt 0 (ready l.down) || nat_lt 0 (ready l.up))

-- ---- what the stage at a place of a direction holds

-- CONTINUE: what it holds goes on
abbrev pub resume_at : Bool → ℕ → TcpLine → Contexts → Outcome
resume_at response at l h = if l.has_ended then no_change l h else take_move response l (continued h at (chain_of response l))

-- LET THROUGH: it passes everything from here on, what it held first
abbrev pub let_through_at : Bool → ℕ → TcpLine → Contexts → Outcome
let_through_at response at l h = if l.has_ended then no_change l h else take_move response l (let_through h at (chain_of response l))

-- its callback has returned
abbrev pub pause_at : Bool → ℕ → TcpLine → Contexts → Contexts
pause_at response at l h = paused h at (chain_of response l)

-- THE ANSWER of its callback is put in force
abbrev pub answer_at : Action → Bool → ℕ → TcpLine → Contexts → Outcome
answer_at Continue response at l h = resume_at response at l (pause_at response at l h)
answer_at Pause response at l h = no_change l (pause_at response at l h)

-- where the stage of a context stands in a direction
abbrev pub place_at : Bool → (vm context : ℕ) → TcpLine → Option ℕ
place_at response vm context l = position (is_of vm context) (chain_of response l)
