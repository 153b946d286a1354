-- WHAT IS DONE TO ONE EXCHANGE leaves what the stages of others hold.
use Rattle.std.specs.Prelude.{◌≡◌, ℕ, Bool, List, [], ◌∷◌, ◌++◌}
use Rattle.exchange.specs.declared.types.Exchange.{Exchange}
use Rattle.exchange.specs.declared.types.Hub.{Hub}
use Rattle.exchange.specs.Answering.{answer}
use Rattle.exchange.specs.Passing.{put_read_items, apply_action, resume_context, close_exchange, lose_vm, refuse_exchange, expire_exchange}
use Rattle.filter_chain.specs.declared.stage.Stage.{Stage}
use Rattle.filter_chain.specs.declared.item.ChainItem.{ChainItem}
use Rattle.filter_chain.specs.Flow.{NoneIs}
use Rattle.gate_io.specs.declared.event.Sent.{Sent}
use Rattle.h1_model.specs.Fields.{Pair}
use Rattle.law_chain.specs.Acts.{HoldSame, AreThere}

-- none of these stages is one of those
abbrev pub AreAliens : List Stage → List Stage → Type 0
AreAliens ss [] = Unit {0}
AreAliens ss (t ∷ ts) = NoneIs t ss × AreAliens ss ts

pub record IsAlien (ss : List Stage) (x : Exchange) : Type 0 where
  pub request : AreAliens ss x.request
  pub response : AreAliens ss x.response

-- The stages hold what they held, and their contexts are there as they were; the exchange is still one of other stages; the moment is the same, and what was
-- sent before stays in front of what is sent.
pub record PassesBy (ss : List Stage) (hub : Hub) (y : Exchange) (after : Hub) : Type 0 where
  pub holds : HoldSame hub.contexts after.contexts ss
  pub there : AreThere hub.contexts ss → AreThere after.contexts ss
  pub alien : IsAlien ss y
  pub moment : after.moment ≡ hub.moment
  pub sent : (more : List Sent) × (after.sent ≡ hub.sent ++ more)

-- what an exchange does
abbrev pub Does : Type 0
Does = ℕ → Exchange → Hub → Exchange × Hub

abbrev pub PassesAliens : Does → Type 0
PassesAliens does = (ss : List Stage) (n : ℕ) (x : Exchange) (hub : Hub) → IsAlien ss x → PassesBy ss hub (does n x hub).0 (does n x hub).1

-- WHATEVER IS DONE TO AN EXCHANGE passes by stages that are none of its own.
pub record ExchangesPassBy : Type 0 where
  pub putting : (response : Bool) (items : List ChainItem) → PassesAliens (put_read_items response items)
  pub acting : (response : Bool) (k value : ℕ) → PassesAliens (apply_action response k value)
  pub resuming : (vm context : ℕ) (response : Bool) → PassesAliens (resume_context vm context response)
  pub closing : PassesAliens close_exchange
  pub answering : (shuts : Bool) (status : ℕ) (fields : List Pair) (body : List ℕ) → PassesAliens (λ n x hub. answer n shuts status fields body x hub)
  pub dying : (vm : ℕ) → PassesAliens (lose_vm vm)
  pub refusing : (status : ℕ) → PassesAliens (refuse_exchange status)
  pub expiring : PassesAliens expire_exchange
