-- All that may happen to an exchange, one thing after the other.
use Rattle.std.specs.Prelude.{◌≡◌, ℕ, Bool, true, false, ◌||◌, List, [], ◌∷◌, ◌++◌}
use Rattle.contexts.specs.declared.parts.Contexts.{Contexts}
use Rattle.filter_chain.specs.declared.item.ChainItem.{ChainItem}
use Rattle.filter_chain.specs.declared.item.ChainItem.TheVariants.{Head, Piece, Trailers}
use Rattle.h1_model.specs.Fields.{Pair}
use Rattle.h1_model.specs.Framing.{OutItem}
use Rattle.h1_model.specs.Framing as out
use Rattle.exchange.specs.declared.types.Exchange.{Exchange}
use Rattle.exchange.specs.declared.types.Hub.{Hub}
use Rattle.exchange.specs.Answering.{answer}
use Rattle.exchange.specs.Heads.{sent_head, up_tail, connection_fields, with_connection}
use Rattle.exchange.specs.Leaving.{request_framing}
use Rattle.exchange.specs.Maps.{request_map, request_trailers}
use Rattle.exchange.specs.Passing as passing
use Rattle.law_exchange.specs.Traffic.{up_traffic}

-- What is read of the request comes to its chain, or what is read of the response; a callback's action is put in force, a stage goes on, both
-- connections are closed, a local response is asked for; a VM dies; it is refused; its response is late. Or something else becomes of it, of
-- what all lines have in common and of what is sent.
pub data Deed : Type 0 where
  comes : List ChainItem → Deed
  responds : List ChainItem → Deed
  acts : (response : Bool) → ℕ → ℕ → Deed
  resumes : ℕ → ℕ → (response : Bool) → Deed
  closes : Deed
  answers : Bool → ℕ → List Pair → List ℕ → Deed
  dies : ℕ → Deed
  refuses : ℕ → Deed
  expires : Deed
  turns : Exchange → Hub → Deed

abbrev pub done_by : ℕ → Deed → Exchange → Hub → Exchange × Hub
done_by n (comes items) x hub = passing.put_read_items false items n x hub
done_by n (responds items) x hub = passing.put_read_items true items n x hub
done_by n (acts response k value) x hub = passing.apply_action response k value n x hub
done_by n (resumes vm context response) x hub = passing.resume_context vm context response n x hub
done_by n closes x hub = passing.close_exchange n x hub
done_by n (answers shuts status fields body) x hub = answer n shuts status fields body x hub
done_by n (dies vm) x hub = passing.lose_vm vm n x hub
done_by n (refuses status) x hub = passing.refuse_exchange status n x hub
done_by n expires x hub = passing.expire_exchange n x hub
done_by n (turns y hub) x before = (y, hub)

-- nothing more goes up of it
abbrev pub is_over : Exchange → Bool
is_over x = x.has_ended || x.is_answered

-- Of an exchange without request filters this became the other: it still has none, its request is framed alike, and once it was answered or
-- has ended that stays so.
pub record IsKin (x y : Exchange) : Type 0 where
  pub unfiltered : y.request ≡ []
  pub framed : request_framing y ≡ request_framing x
  pub stays_over : is_over x ≡ true → is_over y ≡ true

-- what else becomes of it sends nothing up on its line
abbrev pub IsFair : ℕ → Deed → Exchange → Hub → Type 0
IsFair n (comes items) x hub = Unit {0}
IsFair n (responds items) x hub = Unit {0}
IsFair n (acts response k value) x hub = Unit {0}
IsFair n (resumes vm context response) x hub = Unit {0}
IsFair n closes x hub = Unit {0}
IsFair n (answers shuts status fields body) x hub = Unit {0}
IsFair n (dies vm) x hub = Unit {0}
IsFair n (refuses status) x hub = Unit {0}
IsFair n expires x hub = Unit {0}
IsFair n (turns y after) x hub = IsKin x y × (up_traffic n after.sent ≡ up_traffic n hub.sent)

-- An item that is read, as it is to go out: the head with the map of the request, `via` with the version received and `connection: close`; the
-- trailers with the Connection fields of the head as it went up, which keep what they list from going out.
abbrev pub out_of : (place minor : ℕ) → Contexts → (connection : List Pair) → ChainItem → OutItem
out_of place minor contexts connection (Head end) = out.head (sent_head (request_map place contexts) (up_tail minor))
out_of place minor contexts connection (Piece bytes end) = out.piece bytes end
out_of place minor contexts connection Trailers =
    out.trailers (record (request_trailers place contexts) { pairs = with_connection connection (request_trailers place contexts).pairs })

-- the Connection fields of the head after an item
abbrev pub connection_behind : ℕ → Contexts → List Pair → ChainItem → List Pair
connection_behind place contexts connection (Head end) = connection_fields (request_map place contexts)
connection_behind place contexts connection (Piece bytes end) = connection
connection_behind place contexts connection Trailers = connection

abbrev pub all_out : (place minor : ℕ) → Contexts → (connection : List Pair) → List ChainItem → List OutItem
all_out place minor contexts connection [] = []
all_out place minor contexts connection (item ∷ items) =
    out_of place minor contexts connection item ∷ all_out place minor contexts (connection_behind place contexts connection item) items

abbrev pub out_item : Exchange → Hub → ChainItem → OutItem
out_item x hub item = out_of x.place x.asked.minor hub.contexts x.connection_up item

-- the items that are read together, as they are to go out
abbrev pub items_out : Exchange → Hub → List ChainItem → List OutItem
items_out x hub items = all_out x.place x.asked.minor hub.contexts x.connection_up items

abbrev pub items_by : Deed → Exchange → Hub → List OutItem
items_by (comes items) x hub = items_out x hub items
items_by (responds items) x hub = []
items_by (acts response k value) x hub = []
items_by (resumes vm context response) x hub = []
items_by closes x hub = []
items_by (answers shuts status fields body) x hub = []
items_by (dies vm) x hub = []
items_by (refuses status) x hub = []
items_by expires x hub = []
items_by (turns y after) x hub = []

-- THE LIFE OF AN EXCHANGE: these things happen to it, and these items of its request are read on the way
abbrev pub Lives : ℕ → Exchange → Hub → List Deed → List OutItem → Exchange → Hub → Type 0
Lives n x hub [] came y after = (came ≡ []) × (y ≡ x) × (after ≡ hub)
Lives n x hub (deed ∷ deeds) came y after =
    (later : List OutItem) × IsFair n deed x hub × (came ≡ items_by deed x hub ++ later)
    × Lives n (done_by n deed x hub).0 (done_by n deed x hub).1 deeds later y after
