-- Single steps: the order of filters, what is paused, interim heads, the last words of contexts, and stale Sets.
use Rattle.std.specs.Prelude.{◌≡◌, ◌<◌, ℕ, Bool, true, false, All, List, [], ◌∷◌, ◌++◌, filter, length, map, reverse, None, Some}
use Rattle.contexts.specs.Reached.{view_at}
use Rattle.contexts.specs.declared.parts.EffectKind.TheVariants as what
use Rattle.contexts.specs.declared.parts.ExchangeView.{ExchangeView}
use Rattle.exchange.specs.declared.types.Exchange.{Exchange}
use Rattle.exchange.specs.declared.types.Filter.{Filter}
use Rattle.exchange.specs.declared.types.Hub.{Hub}
use Rattle.exchange.specs.Heads.{sent_head}
use Rattle.exchange.specs.Leaving.{bytes_sent_to}
use Rattle.exchange.specs.Maps.{response_map}
use Rattle.exchange.specs.Passing.{apply_action, put_read_items, resume_context}
use Rattle.filter_chain.specs.declared.item.ChainItem.{ChainItem}
use Rattle.filter_chain.specs.declared.item.ChainItem.TheVariants as items
use Rattle.filter_chain.specs.declared.stage.Stage.{Stage}
use Rattle.gate_config.specs.declared.entries.PluginEntry.{PluginEntry}
use Rattle.gate_io.specs.declared.event.Side.TheVariants.{Down, Up}
use Rattle.gate_io.specs.declared.event.What.TheVariants as whats
use Rattle.h1_model.specs.Fields.{Pair}
use Rattle.h1_model.specs.Framing.{no_body, items_wire}
use Rattle.h1_model.specs.Framing as out
use Rattle.h1_model.specs.Head.{Head}
use Rattle.h1_model.specs.Messages.{rest}
use Rattle.h1_model.specs.Unread.{Reading, head_part, interim_part, piece, trailer_part}
use Rattle.store_model.specs.Keys.{Keys, held_at, number_of, set_after, set_reply}
use Rattle.store_model.specs.declared.call.Reply.TheVariants.{CasMismatch}
use Rattle.store_model.specs.declared.used.Used.{Used}
use Rattle.worker_model.specs.Plan.{Plan}
use Rattle.worker_model.specs.Room.{Room}
use Rattle.worker_model.specs.Rooms.{apply_effect, on_context, on_number}
use Rattle.worker_model.specs.Steps.{end_of_read, exchange_on, exchange_with_stages, filters_of, finish_context, has_vm, is_live, line_in, on_lines, read_side, release_at, run_silent_job, side_with_more, take_event, take_part}
use Rattle.worker_model.specs.declared.types.ContextAt.{ContextAt}
use Rattle.worker_model.specs.declared.types.Job.TheVariants as jobs
use Rattle.worker_model.specs.declared.types.Line.{Line}
use Rattle.worker_model.specs.declared.types.Owner.TheVariants as owners
use Rattle.worker_model.specs.declared.types.ReadBatch.{ReadBatch}

-- ---- the order of filters

-- the context that a stage asks
abbrev pub asks_of : Stage → ℕ × ℕ
asks_of s = (s.vm, s.context)

-- that of a filter
abbrev pub context_of : Filter → ℕ × ℕ
context_of f = (f.vm, f.context)

-- FILTERS STAND IN THE ORDER OF THE ROUTE, for the request, and in reverse for the response.
pub record FiltersStandInOrder : Type 0 where
  -- the filters of a route of plug-ins that the configuration has are these plug-ins, in its order
  pub filters : (plugins : List PluginEntry) (route : List ℕ) → All (λ (p : ℕ). p < length plugins) route → map (λ (f : Filter). f.plugin) (filters_of plugins route) ≡ route
  -- when the stages of an exchange that runs and was not answered are made, the request has those of its live filters, in order
  pub request : (dead : List ℕ) (x : Exchange) → x.has_ended ≡ false → x.is_answered ≡ false
      → map asks_of (exchange_with_stages dead x).request ≡ map context_of (filter (is_live dead) x.filters)
  pub response : (dead : List ℕ) (x : Exchange) → x.has_ended ≡ false → x.is_answered ≡ false
      → map asks_of (exchange_with_stages dead x).response ≡ reverse (map asks_of (exchange_with_stages dead x).request)

-- ---- what is paused

-- WHAT IS PAUSED IS HELD, until it is let go on.
pub record WhatIsPausedIsHeld : Type 0 where
  -- an action other than Continue leaves the exchange as it is, and sends nothing
  pub exchange : (response : Bool) (k value n : ℕ) (x : Exchange) (hub : Hub) → (value ≡ 0 → ⊥) → (apply_action response k value n x hub).0 ≡ x
  pub sends : (response : Bool) (k value n : ℕ) (x : Exchange) (hub : Hub) → (value ≡ 0 → ⊥) → (apply_action response k value n x hub).1.sent ≡ hub.sent
  -- A callback of a stage may let a direction of a stream go on. Its own stage waits for the action that it returns; every other goes on at once: that of the other
  -- direction of its stream, and those of other streams.
  pub own : (vm c : ℕ) (response : Bool) (room : Room) → apply_effect vm (owners.Stage c response) c (what.Continue response) room ≡ room
  pub other_direction : (vm c : ℕ) (own response : Bool) (room : Room) → (own ≡ response → ⊥)
      → apply_effect vm (owners.Stage c own) c (what.Continue response) room ≡ on_context (resume_context vm c response) vm c room
  pub other_stream : (vm c context : ℕ) (own response : Bool) (room : Room) → (c ≡ context → ⊥)
      → apply_effect vm (owners.Stage c own) context (what.Continue response) room ≡ on_context (resume_context vm context response) vm context room
  -- and a callback of no stage, as that of a root, lets each go on at once
  pub no_stage : (vm context : ℕ) (response : Bool) (room : Room)
      → apply_effect vm owners.Nobody context (what.Continue response) room ≡ on_context (resume_context vm context response) vm context room

-- ---- what is read

-- WHAT IS READ OF A RESPONSE COMES TO ITS CHAIN, in order. Bytes that come from the server of an exchange that was not answered are added to what its reader has, and
-- are read next; of a server that has sent its end nothing is looked at. What a reader hands on joins what was read before it; with the last of a message, or where nothing more is
-- there, all of it is put to the chain next, as it is.
pub record WhatIsReadComesOn : Type 0 where
  pub arrives : (n : ℕ) (bytes : List ℕ) (room : Room) (l : Line) (x : Exchange) (r : Reading) → line_in n room.lines ≡ Some l → l.exchange ≡ Some x → x.reader ≡ Some r → r.ended ≡ false
      → x.is_answered ≡ false → take_event (whats.Bytes n Up bytes) room ≡ read_side n true (on_lines (side_with_more true false bytes) n room)
  pub ended : (n : ℕ) (bytes : List ℕ) (room : Room) (l : Line) (x : Exchange) (r : Reading) → line_in n room.lines ≡ Some l → l.exchange ≡ Some x → x.reader ≡ Some r → r.ended ≡ true
      → take_event (whats.Bytes n Up bytes) room ≡ room
  -- The head of a response is kept as the response's map, where the exchange has its place among the contexts.
  pub heads : (plan : Plan) (r : ReadBatch) (h : Head) (x : Exchange) (v : ExchangeView) (room : Room) → r.up ≡ true → exchange_on r.line room ≡ Some x
      → view_at room.hub.contexts.exchanges x.place ≡ Some v → response_map x.place (take_part plan r (head_part h) room).hub.contexts ≡ h.fields
  pub joins : (plan : Plan) (r : ReadBatch) (bytes : List ℕ) (room : Room) → (take_part plan r (piece bytes false) room).reading ≡ Some (record r { batch = r.batch ++ items.Piece bytes false ∷ [] })
  pub ends : (plan : Plan) (r : ReadBatch) (bytes : List ℕ) (room : Room) → r.up ≡ true
      → (take_part plan r (piece bytes true) room).jobs ≡ jobs.Put r.line true (r.batch ++ items.Piece bytes true ∷ []) ∷ room.jobs
  pub trails : (plan : Plan) (r : ReadBatch) (fields : List Pair) (room : Room) → r.up ≡ true
      → (take_part plan r (trailer_part fields) room).jobs ≡ jobs.Put r.line true (r.batch ++ items.Trailers ∷ []) ∷ room.jobs
  pub rests : (r : ReadBatch) (item : ChainItem) (more : List ChainItem) (room : Room) → r.up ≡ true → r.batch ≡ item ∷ more → (end_of_read r rest room).jobs ≡ jobs.Put r.line true (item ∷ more) ∷ room.jobs
  pub put : (line : ℕ) (batch : List ChainItem) (room : Room) → run_silent_job (jobs.Put line true batch) room ≡ on_number (put_read_items true batch) line room

-- ---- interim heads

-- AN INTERIM HEAD goes down at once, with the fields that came, to a client of HTTP/1.1, and not to one of HTTP/1.0.
pub record InterimHeadsGoDown : Type 0 where
  pub to_new : (plan : Plan) (r : ReadBatch) (h : Head) (x : Exchange) (room : Room) → exchange_on r.line room ≡ Some x → x.asked.old_client ≡ false
      → (take_part plan r (interim_part h) room).hub.sent ≡ room.hub.sent ++ bytes_sent_to r.line Down (items_wire no_body (out.interim (sent_head h.fields []) ∷ []))
  pub to_old : (plan : Plan) (r : ReadBatch) (h : Head) (x : Exchange) (room : Room) → exchange_on r.line room ≡ Some x → x.asked.old_client ≡ true
      → (take_part plan r (interim_part h) room).hub.sent ≡ room.hub.sent

-- ---- the last words of contexts

-- A CONTEXT THAT IS DONE WITH is to log, and to be deleted then: these jobs are in hand at once where its `done` answered anything but 0, or was missing, or its VM died;
-- else it waits, and they are once it is released.
pub record ContextsHaveTheirLastWords : Type 0 where
  pub done : (c : ContextAt) (value : ℕ) (room : Room) → (value ≡ 0 → ⊥) → (finish_context c (Some (Some value)) room).jobs ≡ jobs.Log c ∷ jobs.Delete c ∷ room.jobs
  pub missing : (c : ContextAt) (room : Room) → (finish_context c (Some None) room).jobs ≡ jobs.Log c ∷ jobs.Delete c ∷ room.jobs
  pub dead : (c : ContextAt) (room : Room) → (finish_context c None room).jobs ≡ jobs.Log c ∷ jobs.Delete c ∷ room.jobs
  pub waits : (c : ContextAt) (room : Room) → has_vm c.vm room.hub.contexts ≡ true → (finish_context c (Some (Some 0)) room).waits ≡ room.waits ++ c ∷ []
  pub released : (c : ContextAt) (at : ℕ) (room : Room) → (release_at at (Some c) room).jobs ≡ jobs.Log c ∷ jobs.Delete c ∷ room.jobs

-- ---- stores

-- A STALE SET IS REFUSED: one with a number other than 0 that is not the key's changes nothing.
pub record StaleSetsAreRefused : Type 0 where
  pub reply : (other : Used) (d : Keys) (key value : List ℕ) (number : ℕ) → (number ≡ 0 → ⊥) → (number ≡ number_of (held_at d key) → ⊥) → set_reply other d key value number ≡ CasMismatch
  pub keys : (other : Used) (d : Keys) (key value : List ℕ) (number : ℕ) → (number ≡ 0 → ⊥) → (number ≡ number_of (held_at d key) → ⊥) → set_after other d key value number ≡ d
