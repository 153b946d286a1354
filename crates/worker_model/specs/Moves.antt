-- The stage that is to be asked on a line; and an exchange whose end has come.
use Rattle.std.specs.Prelude.{ℕ, Bool, true, false, not, List, length, slice_get, slice_set, Option, None, Some, option_map, nat_lt}
use Rattle.contexts.specs.declared.parts.Contexts.{Contexts}
use Rattle.exchange.specs.declared.types.Exchange.{Exchange}
use Rattle.exchange.specs.declared.types.Hub.{Hub}
use Rattle.exchange.specs.Answering.{with_held}
use Rattle.exchange.specs.Maps.{request_map, response_map, request_trailers, response_trailers}
use Rattle.exchange.specs.Passing.{chain_of, with_chain, finish_put}
use Rattle.filter_chain.specs.declared.stage.Stage as chain_stage
use Rattle.filter_chain.specs.declared.item.Ask.{Ask}
use Rattle.filter_chain.specs.declared.item.AskKind.{AskKind}
use Rattle.filter_chain.specs.declared.item.AskKind.TheVariants as kinds
use Rattle.filter_chain.specs.declared.item.Asking.{Asking}
use Rattle.filter_chain.specs.declared.item.Asking.TheVariants.{Nothing, Over, Asks}
use Rattle.filter_chain.specs.declared.item.PassOutcome.TheVariants as passed
use Rattle.filter_chain.specs.Chains.{asked, ready}
use Rattle.worker_model.specs.declared.types.Asked.{Asked}
use Rattle.worker_model.specs.declared.types.Line.{Line}
use Rattle.worker_model.specs.Rooms.{with_marks}

-- how many pairs the map has, or how many bytes there are
abbrev pub count_of : Bool → AskKind → ℕ → ℕ → Hub → ℕ
count_of false kinds.Head bytes place hub = length (request_map place hub.contexts).pairs
count_of true kinds.Head bytes place hub = length (response_map place hub.contexts).pairs
count_of response kinds.Piece bytes place hub = bytes
count_of false kinds.Trailers bytes place hub = length (request_trailers place hub.contexts).pairs
count_of true kinds.Trailers bytes place hub = length (response_trailers place hub.contexts).pairs

-- the stage, by its VM and its context
abbrev pub asks_stage : Bool → ℕ → Ask → ℕ → Option (ℕ × ℕ) → Option Asked
asks_stage response n ask count None = None
asks_stage response n ask count (Some (vm, context)) = Some (record { vm = vm; context = context; response = response; line = n; ask = ask; count = count })

abbrev pub with_none : Exchange × Hub → Option Asked × Exchange × Hub
with_none (x, hub) = (None, x, hub)

-- too much is answered for
abbrev pub asks_as : Bool → ℕ → Asking → Exchange → Hub → Option Asked × Exchange × Hub
asks_as response n Nothing x hub = (None, x, hub)
asks_as response n (Over k) x hub = with_none (with_marks (finish_put response n passed.Over x hub))
asks_as response n (Asks ask) x hub = (asks_stage response n ask (count_of response ask.kind ask.count x.place hub) (option_map (λ (s : chain_stage.Stage). (s.vm, s.context)) (slice_get (chain_of response x) ask.stage)), x, hub)

abbrev pub asks_chain : Bool → ℕ → Exchange → Hub → Asking × List chain_stage.Stage × Contexts → Option Asked × Exchange × Hub
asks_chain response n x hub (asking, stages, contexts) = asks_as response n asking (with_chain response stages x) (with_held contexts hub)

-- the chain of the request first
abbrev pub asks_response : Exchange → Bool
asks_response x = not (nat_lt 0 (ready x.request))

abbrev pub asks_exchange : ℕ → Exchange → Hub → Option Asked × Exchange × Hub
asks_exchange n x hub = asks_chain (asks_response x) n x hub (asked hub.contexts (chain_of (asks_response x) x))

abbrev pub asks_with : Line → Option Asked × Exchange × Hub → Option Asked × Line × Hub
asks_with line (a, x, hub) = (a, record line { exchange = Some x }, hub)

abbrev pub asks_in : Line → Option Exchange → Hub → Option Asked × Line × Hub
asks_in line None hub = (None, line, hub)
asks_in line (Some x) hub = asks_with line (asks_exchange line.number x hub)

abbrev pub asks_line : Line → Hub → Option Asked × Line × Hub
asks_line line hub = asks_in line line.exchange hub

abbrev pub asks_back : ℕ → List Line → Option Asked × Line × Hub → Option Asked × List Line × Hub
asks_back place lines (a, line, hub) = (a, slice_set lines place line, hub)

abbrev pub asks_at : ℕ → Option Line → List Line → Hub → Option Asked × List Line × Hub
asks_at place None lines hub = (None, lines, hub)
asks_at place (Some line) lines hub = asks_back place lines (asks_line line hub)

-- ---- an exchange whose end has come is taken off its line

abbrev pub ended_in : Line → Option Exchange → Option (ℕ × Exchange) × Line
ended_in line None = (None, line)
ended_in line (Some x) = (Some (line.number, x), record line { exchange = None })

abbrev pub ended_line : Line → Option (ℕ × Exchange) × Line
ended_line line = ended_in line line.exchange

abbrev pub ended_back : ℕ → List Line → Option (ℕ × Exchange) × Line → Option (ℕ × Exchange) × List Line
ended_back place lines (x, line) = (x, slice_set lines place line)

abbrev pub ended_at : ℕ → Option Line → List Line → Option (ℕ × Exchange) × List Line
ended_at place None lines = (None, lines)
ended_at place (Some line) lines = ended_back place lines (ended_line line)
