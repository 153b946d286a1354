-- AN INTERIM HEAD leaves an exchange as it was, but for its reader: the response is still waited for, by the same moment.
use Rattle.std.specs.Prelude.{◌≡◌, true, List, [], ◌∷◌, ◌++◌, Some, codes}
use Rattle.filter_host.specs.Heard.{hands}
use Rattle.exchange.specs.declared.types.Exchange.{Exchange}
use Rattle.gate_io.specs.declared.event.Sent.{Sent}
use Rattle.gate_io.specs.declared.event.Sent.TheVariants as sent
use Rattle.gate_io.specs.declared.event.Side.TheVariants.{Down}
use Rattle.h1_model.specs.Examples.{worked_interim}
use Rattle.h1_model.specs.Head.{Head}
use Rattle.h1_model.specs.Unread.{Reading, interim_part, new_reading}
use Rattle.worker_model.specs.Plan.{Plan}
use Rattle.worker_model.specs.Steps.{after_heard, exchange_on, on_line, read_on}
use Rattle.worker_model.specs.Wants.{due_in}
use Rattle.worker_model.specs.Room.{Room}
use Rattle.worker_model.specs.declared.types.ReadBatch.{ReadBatch}
use Rattle.law_turns.specs.Due.{quiet, until, waits, on_line as line_with}
use Rattle.law_turns.specs.Scenes.{get, line_of}

-- what a room is after an interim head that was read on a side, whose reader is this then
abbrev pub behind_interim : Plan → ReadBatch → Head → Reading → Room → Room
behind_interim plan r h new old = after_heard plan r (hands (interim_part h) new) old

-- WHATEVER THE HEAD: of the lines the reader of that side alone changes; the contexts, what is to be done, and all else but what is read
-- and what was sent stay
pub record InterimKeepsLines : Type 0 where
  pub lines : (plan : Plan) (r : ReadBatch) (h : Head) (new : Reading) (old : Room) → (behind_interim plan r h new old).lines ≡ on_line (read_on r.up new) r.line old.lines
  pub contexts : (plan : Plan) (r : ReadBatch) (h : Head) (new : Reading) (old : Room) → (behind_interim plan r h new old).hub.contexts ≡ old.hub.contexts
  pub jobs : (plan : Plan) (r : ReadBatch) (h : Head) (new : Reading) (old : Room) → (behind_interim plan r h new old).jobs ≡ old.jobs
  pub agenda : (plan : Plan) (r : ReadBatch) (h : Head) (new : Reading) (old : Room) → (behind_interim plan r h new old).agenda ≡ old.agenda
  pub waits : (plan : Plan) (r : ReadBatch) (h : Head) (new : Reading) (old : Room) → (behind_interim plan r h new old).waits ≡ old.waits
  pub dead : (plan : Plan) (r : ReadBatch) (h : Head) (new : Reading) (old : Room) → (behind_interim plan r h new old).dead ≡ old.dead
  pub is_begun : (plan : Plan) (r : ReadBatch) (h : Head) (new : Reading) (old : Room) → (behind_interim plan r h new old).is_begun ≡ old.is_begun
  pub moment : (plan : Plan) (r : ReadBatch) (h : Head) (new : Reading) (old : Room) → (behind_interim plan r h new old).hub.moment ≡ old.hub.moment
  pub goes_on : (plan : Plan) (r : ReadBatch) (h : Head) (new : Reading) (old : Room) → (behind_interim plan r h new old).reading ≡ Some r

-- ---- worked: the response of line 1 is due at moment 9

abbrev pub server : ReadBatch
server = record { line = 1; up = true; batch = [] }

abbrev pub text : Reading
text = new_reading (Some (codes "GET"))

abbrev pub joined : Exchange
joined = record (until 9) { reader = Some text }

abbrev pub continued : Exchange → Room
continued x = behind_interim quiet server worked_interim text (waits (line_with 1 x ∷ []))

abbrev pub hint : List Sent
hint = sent.Bytes 1 Down (line_of (codes "HTTP/1.1 100 ") ++ line_of []) ∷ []

pub record InterimExample : Type 0 where
  pub exchange : exchange_on 1 (continued joined) ≡ Some joined
  pub due : due_in quiet (continued joined) ≡ Some 9
  pub sends : (continued joined).hub.sent ≡ hint
  -- a client of HTTP/1.0 is sent none
  pub old_client : (continued (record joined { asked = record get { old_client = true; minor = 0 } })).hub.sent ≡ []
  pub old_due : due_in quiet (continued (record joined { asked = record get { old_client = true; minor = 0 } })) ≡ Some 9
