-- A RESPONSE GOES DOWN AS IT CAME, over the life of an exchange without filters.
use Rattle.std.specs.Prelude.{◌≡◌, ◌⊎◌, ℕ, Bool, true, false, List, [], ◌∷◌, ◌++◌}
use Rattle.exchange.specs.declared.types.Exchange.{Exchange}
use Rattle.exchange.specs.declared.types.Hub.{Hub}
use Rattle.exchange.specs.Heads.{down_tail, lacks_body, sent_head, status_in}
use Rattle.exchange.specs.Maps.{response_map}
use Rattle.filter_chain.specs.declared.item.ChainItem.{ChainItem}
use Rattle.filter_chain.specs.declared.item.ChainItem.TheVariants.{Head, Piece, Trailers}
use Rattle.h1_model.specs.Framing.{Framing, OutItem, head_wire, items_wire}
use Rattle.h1_model.specs.Framing as out
use Rattle.header_maps.specs.Headers.{Headers}
use Rattle.law_exchange.specs.Lives.{Deed, dies, done_by, responds}
use Rattle.law_exchange.specs.Responses.{down_bytes, IsMessage, IsNew, IsReply, IsResponse, LivesDown, response_in, responses_in}

-- ---- the items of a body, as they were read and as they go down

-- a piece has the same bytes, and ends the body where that ended it; trailers are trailers
abbrev pub IsAs : ChainItem → OutItem → Type 0
IsAs (Head end) o = ⊥
IsAs (Piece bytes end) (out.head h) = ⊥
IsAs (Piece bytes end) (out.interim h) = ⊥
IsAs (Piece bytes end) (out.piece went last) = (went ≡ bytes) × (last ≡ end)
IsAs (Piece bytes end) (out.trailers fields) = ⊥
IsAs Trailers (out.head h) = ⊥
IsAs Trailers (out.interim h) = ⊥
IsAs Trailers (out.piece went last) = ⊥
IsAs Trailers (out.trailers fields) = Unit {0}

-- one by one, in order
abbrev pub AreAs : List ChainItem → List OutItem → Type 0
AreAs [] [] = Unit {0}
AreAs [] (o ∷ outs) = ⊥
AreAs (item ∷ items) [] = ⊥
AreAs (item ∷ items) (o ∷ outs) = IsAs item o × AreAs items outs

-- ---- a response

-- the head of a response that comes to the chain: the response's map among the contexts has these fields then
abbrev pub IsHeadOf : Headers → Exchange → Hub → List ChainItem → Type 0
IsHeadOf fields x hub [] = Unit {0}
IsHeadOf fields x hub (Head end ∷ items) = response_map x.place hub.contexts ≡ fields
IsHeadOf fields x hub (Piece bytes end ∷ items) = Unit {0}
IsHeadOf fields x hub (Trailers ∷ items) = Unit {0}

-- THE FIELDS OF THE HEAD THAT CAME, over a life: wherever a head of the response comes to the chain, these are in the response's map. (`what_is_read_comes_on` says that a head that
-- is read puts its fields there.)
abbrev pub HeadsAre : Headers → ℕ → Exchange → Hub → List Deed → Type 0
HeadsAre fields n x hub [] = Unit {0}
HeadsAre fields n x hub (deed ∷ deeds) = IsHeadOf fields x hub (response_in deed) × HeadsAre fields n (done_by n deed x hub).0 (done_by n deed x hub).1 deeds

-- Of what was read of a response, a head and these items of its body went down: the fields of the head that came, with the date where they have none and with the word that the line
-- is closed where it is, framed in some way; and each item as it came, written by that framing where the client awaits a body. Nothing is left while the exchange runs.
pub record GoesAsItCame (to_head : Bool) (Came : Headers → Type 0) (came : List ChainItem) (y : Exchange) (wire : List ℕ) : Type 0 where
  pub end : Bool
  pub body : List ChainItem
  pub later : List ChainItem
  pub is : came ≡ Head end ∷ (body ++ later)
  pub framing : Framing
  pub written : Framing
  pub fields : Headers
  pub read : (head : Headers) → Came head → fields ≡ head
  pub stays : Bool
  pub now : ℕ
  pub outs : List OutItem
  pub goes : wire ≡ head_wire framing (sent_head fields (down_tail stays now fields)) ++ items_wire written outs
  pub same : AreAs body outs
  pub follows : lacks_body to_head (status_in fields) ≡ false → written ≡ framing
  pub all : y.has_ended ≡ false → later ≡ []

-- nothing went down, and while the exchange runs nothing came; or it was answered, before anything came; or that response went down
pub data GoesDown (x : Exchange) (Came : Headers → Type 0) (came : List ChainItem) (y : Exchange) (wire : List ℕ) : Type 0 where
  sends_nothing : wire ≡ [] → (y.has_ended ≡ false → came ≡ []) → GoesDown x Came came y wire
  sends_answer : (stays : Bool) → IsReply x.asked.is_head stays wire ⊎ IsResponse x.asked.is_head x.asked.old_client stays wire true → y.has_ended ≡ true → GoesDown x Came came y wire
  sends_response : GoesAsItCame x.asked.is_head Came came y wire → GoesDown x Came came y wire

-- WHAT GOES DOWN IS WHAT CAME UP, whatever happens to a new exchange without filters but that an interim head is handed on, where what is read of its response is a
-- front of one message.
abbrev pub ResponsesGoDownAsTheyCame : Type 0
ResponsesGoDownAsTheyCame =
    (n : ℕ) (x y : Exchange) (hub after : Hub) (deeds : List Deed) → IsNew x → LivesDown n x hub deeds y after → IsMessage (responses_in deeds)
    → (wire : List ℕ) × (down_bytes n after.sent ≡ down_bytes n hub.sent ++ wire) × GoesDown x (λ head. HeadsAre head n x hub deeds) (responses_in deeds) y wire

-- ---- worked: what says which head came, and which body

-- three lives of one deed or two, and a body that goes down in another order
pub record LivesExamples : Type 0 where
  -- where a head comes while the map has other fields, these are not its fields; pieces that come say nothing of it, nor does the death of a VM
  pub other : (fields : Headers) (x : Exchange) (hub : Hub) → (response_map x.place hub.contexts ≡ fields → ⊥) → HeadsAre fields 7 x hub (responds (Head true ∷ []) ∷ []) → ⊥
  pub head : (fields : Headers) (x : Exchange) (hub : Hub) → response_map x.place hub.contexts ≡ fields → HeadsAre fields 7 x hub (responds (Head true ∷ []) ∷ [])
  pub silent : (fields : Headers) (x : Exchange) (hub : Hub) → HeadsAre fields 7 x hub (responds (Piece (1 ∷ []) false ∷ []) ∷ dies 3 ∷ [])
  -- bytes that go down in another order than they came are not those that came
  pub backward : AreAs (Piece (1 ∷ 2 ∷ []) true ∷ []) (out.piece (2 ∷ 1 ∷ []) true ∷ []) → ⊥
