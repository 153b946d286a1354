-- THE DEAD ARE ASKED NOTHING: the stages of a VM that died pass everything, and stay so, whatever becomes of the exchange; and no such stage is asked.
use Rattle.std.specs.List.{list_any}
use Rattle.std.specs.Prelude.{◌≡◌, ◌⊎◌, ℕ, ◌==◌, Bool, true, false, List, [], ◌∷◌, ◌++◌, Some, codes, slice_get}
use Rattle.contexts.specs.declared.parts.Contexts.{Contexts}
use Rattle.exchange.specs.declared.types.Exchange.{Exchange}
use Rattle.exchange.specs.declared.types.Hub.{Hub}
use Rattle.exchange.specs.Answering.{answer}
use Rattle.exchange.specs.Examples as exchanges
use Rattle.exchange.specs.Passing.{with_chain, put_read_items, apply_action, resume_context, close_exchange, lose_vm, refuse_exchange, expire_exchange}
use Rattle.filter_chain.specs.declared.item.Asking.{Asking}
use Rattle.filter_chain.specs.declared.item.Asking.TheVariants.{Nothing, Over, Asks}
use Rattle.filter_chain.specs.declared.item.Held.TheVariants as held
use Rattle.filter_chain.specs.declared.item.ChainItem.{ChainItem}
use Rattle.filter_chain.specs.declared.item.ChainItem.TheVariants.{Piece}
use Rattle.filter_chain.specs.declared.stage.Stage.{Stage}
use Rattle.filter_chain.specs.Chains.{asked, ready}
use Rattle.gate_io.specs.declared.event.Sent.TheVariants.{Bytes}
use Rattle.gate_io.specs.declared.event.Side.TheVariants.{Up}
use Rattle.h1_model.specs.Fields.{Pair}
use Rattle.httparse.specs.Ascii.{crlf_bytes}
use Rattle.law_body.specs.Apart.{Does}

-- a stage that passes everything, and at which nothing waits
pub record IsSpent (s : Stage) : Type 0 where
  pub passes : s.passes ≡ true
  pub waiting : s.waiting ≡ []

-- so is each stage of which it is needed, by its place and its VM
abbrev pub Spent : (ℕ → ℕ → Type 0) → List Stage → Type 0
Spent N ss = (j : ℕ) (s : Stage) → slice_get ss j ≡ Some s → N j s.vm → IsSpent s

-- of the stages of a request, all once the exchange was answered
abbrev pub OrAnswered : (ℕ → ℕ → Type 0) → Exchange → ℕ → ℕ → Type 0
OrAnswered Q x j w = Q j w ⊎ (x.is_answered ≡ true)

-- the stages of both directions of which it is needed are spent
pub record AreSpent (Q R : ℕ → ℕ → Type 0) (x : Exchange) : Type 0 where
  pub request : Spent (OrAnswered Q x) x.request
  pub response : Spent R x.response

-- a VM is among these
abbrev pub IsIn : List ℕ → ℕ → Type 0
IsIn dead w = list_any (λ (d : ℕ). d == w) dead ≡ true

-- or the exchange has ended
abbrev pub SparesBoth : (Q R : ℕ → ℕ → Type 0) → Exchange → Type 0
SparesBoth Q R x = (x.has_ended ≡ true) ⊎ AreSpent Q R x

-- THE DEAD ARE SPARED: the exchange has ended, or each of its stages is spent whose VM is among these, and each of its request once it was answered.
abbrev pub Spares : List ℕ → Exchange → Type 0
Spares dead x = SparesBoth (λ (j w : ℕ). IsIn dead w) (λ (j w : ℕ). IsIn dead w) x

-- where a stage is asked, its VM is none of these
abbrev pub AsksOther : List ℕ → Asking × List Stage × Contexts → Type 0
AsksOther dead (Nothing, after, h) = Unit {0}
AsksOther dead (Over k, after, h) = Unit {0}
AsksOther dead (Asks ask, after, h) = (s : Stage) → slice_get after ask.stage ≡ Some s → IsIn dead s.vm → ⊥

-- What is done to an exchange spares them where it did before.
abbrev pub SparesBy : Does → Type 0
SparesBy does = (dead : List ℕ) (n : ℕ) (x : Exchange) (hub : Hub) → Spares dead x → Spares dead (does n x hub).0

pub record TheDeadAreSpared : Type 0 where
  -- a VM dies, and is spared then, as those before
  pub dying : (dead : List ℕ) (vm n : ℕ) (x : Exchange) (hub : Hub) → Spares dead x → Spares (dead ++ vm ∷ []) (lose_vm vm n x hub).0
  -- whatever is done to the exchange, they stay spared
  pub putting : (response : Bool) (items : List ChainItem) → SparesBy (put_read_items response items)
  pub acting : (response : Bool) (k value : ℕ) → SparesBy (apply_action response k value)
  pub resuming : (vm context : ℕ) (response : Bool) → SparesBy (resume_context vm context response)
  pub closing : SparesBy close_exchange
  pub answering : (shuts : Bool) (status : ℕ) (fields : List Pair) (body : List ℕ) → SparesBy (λ n x hub. answer n shuts status fields body x hub)
  pub refusing : (status : ℕ) → SparesBy (refuse_exchange status)
  pub expiring : SparesBy expire_exchange
  -- a stage that is asked, with the chain as it is then
  pub asking_requests : (dead : List ℕ) (x : Exchange) (h : Contexts) → Spares dead x → Spares dead (with_chain false (asked h x.request).1 x)
  pub asking_responses : (dead : List ℕ) (x : Exchange) (h : Contexts) → Spares dead x → Spares dead (with_chain true (asked h x.response).1 x)

-- and of no such stage anything is asked, in either direction
pub record TheDeadAreAskedNothing : Type 0 where
  pub requests : (dead : List ℕ) (x : Exchange) (h : Contexts) → Spares dead x → x.has_ended ≡ false → AsksOther dead (asked h x.request)
  pub responses : (dead : List ℕ) (x : Exchange) (h : Contexts) → Spares dead x → x.has_ended ≡ false → AsksOther dead (asked h x.response)

-- ---- worked: the VM of the one filter dies

abbrev pub begins : Exchange
begins = exchanges.uploading held.Nothing

abbrev pub its_hub : Hub
its_hub = exchanges.hub_of exchanges.host

-- the exchange goes on, since no filter of it fails closed
abbrev pub behind_death : Exchange × Hub
behind_death = lose_vm 0 1 begins its_hub

abbrev pub with_piece : Exchange × Hub
with_piece = put_read_items false (Piece (codes "ab") false ∷ []) 1 behind_death.0 behind_death.1

pub record DeathExample : Type 0 where
  -- none was dead
  pub spared : Spares [] begins
  pub spares : Spares (0 ∷ []) behind_death.0
  pub goes_on : behind_death.0.has_ended ≡ false
  -- of a piece that comes before, the filter would be asked; of one that comes then it is not, which goes up past it
  pub asked_before : ready (put_read_items false (Piece (codes "ab") false ∷ []) 1 begins its_hub).0.request ≡ 1
  pub asked_then : ready with_piece.0.request ≡ 0
  pub passes : with_piece.1.sent ≡ Bytes 1 Up (codes "2" ++ crlf_bytes ++ codes "ab" ++ crlf_bytes) ∷ []
