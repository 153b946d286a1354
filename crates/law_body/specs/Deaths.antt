-- WHERE A VM OF THE ROUTE DIES: the exchange is answered 503 and ends without a stage, or the stages of the VM are let through.
use Rattle.std.specs.Prelude.{◌≡◌, ℕ, zero, suc, ◌==◌, Bool, true, false, not, List, [], ◌∷◌, ◌++◌, length, slice_get, Option, None, Some, option_map, if◌then◌else◌}
use Rattle.contexts.specs.declared.parts.Contexts.{Contexts}
use Rattle.exchange.specs.declared.types.Exchange.{Exchange}
use Rattle.exchange.specs.declared.types.Hub.{Hub}
use Rattle.exchange.specs.Answering.{none_held, stays_open}
use Rattle.exchange.specs.Leaving.{bytes_sent_to}
use Rattle.exchange.specs.Passing.{chain_of, fails_closed, bypass_vm_stages, bypass_vm, lose_vm}
use Rattle.filter_chain.specs.declared.stage.Stage.{Stage}
use Rattle.filter_chain.specs.Chains.{bytes_at}
use Rattle.gate_io.specs.declared.event.Side.TheVariants.{Down}
use Rattle.h1_model.specs.LocalReply.{local_reply_of}
use Rattle.law_chain.specs.Acts.{AreThere}
use Rattle.law_body.specs.Apart.{AreAliens}
use Rattle.law_body.specs.Deeds.{Deed, lets, turns, Running, items_put, AreDeeds, done_all}

-- ---- answered

-- these stages hold nothing
abbrev pub HoldNothing : Contexts → List Stage → Type 0
HoldNothing h [] = Unit {0}
HoldNothing h (s ∷ ss) = (bytes_at h s ≡ []) × HoldNothing h ss

-- The exchange has ended, and no stage is left; what its stages held is dropped. Where no response head went down, the answer 503 goes down; else nothing does.
pub record IsCutShort (n : ℕ) (x : Exchange) (hub : Hub) (y : Exchange) (after : Hub) : Type 0 where
  pub ended : y.has_ended ≡ true
  pub request : y.request ≡ []
  pub response : y.response ≡ []
  pub requests : HoldNothing after.contexts x.request
  pub responses : HoldNothing after.contexts x.response
  pub answered : x.is_head_out ≡ false → after.sent ≡ hub.sent ++ bytes_sent_to n Down (local_reply_of 503 [] [] x.asked.is_head (not (stays_open x)) hub.moment)
  pub silent : x.is_head_out ≡ true → after.sent ≡ hub.sent

-- what the stages of an exchange held is dropped
pub record AreDropped (x : Exchange) (after : Contexts) : Type 0 where
  pub requests : HoldNothing after x.request
  pub responses : HoldNothing after x.response

-- WHAT IS HELD IS DROPPED where an exchange is closed, answered past its filters, or over
abbrev pub DroppingDrops : Type 0
DroppingDrops = (x : Exchange) (hub : Hub) → AreThere hub.contexts x.request → AreThere hub.contexts x.response → AreDropped x (none_held x hub).contexts

-- ---- let through

abbrev pub vm_at : List Stage → ℕ → Option ℕ
vm_at stages k = option_map (λ (s : Stage). s.vm) (slice_get stages k)

abbrev pub lets_at : ℕ → ℕ → Option ℕ → List Deed
lets_at vm k None = []
lets_at vm k (Some of) = if of == vm then lets k ∷ [] else []

-- each stage of the VM among the first so many is let through, the one nearest to the exit first
abbrev pub lets_of : ℕ → ℕ → List Stage → List Deed
lets_of vm zero stages = []
lets_of vm (suc k) stages = lets_at vm k (vm_at stages k) ++ lets_of vm k stages

-- the stages of the VM from a place on pass everything
abbrev pub PassFrom : ℕ → ℕ → List Stage → Type 0
PassFrom vm k [] = Unit {0}
PassFrom vm zero (s ∷ ss) = ((s.vm == vm) ≡ true → s.passes ≡ true) × PassFrom vm zero ss
PassFrom vm (suc k) (s ∷ ss) = PassFrom vm k ss

-- What is done to a direction is these deeds, and each stage of the VM passes everything after them.
pub record AreLetThrough (response : Bool) (n vm : ℕ) (w : Running) : Type 0 where
  pub is : ((done_all response n (lets_of vm (length (chain_of response w.exchange)) (chain_of response w.exchange)) w).exchange, (done_all response n (lets_of vm (length (chain_of response w.exchange)) (chain_of response w.exchange)) w).hub)
      ≡ bypass_vm_stages response vm n (length (chain_of response w.exchange)) (w.exchange, w.hub)
  pub passes : PassFrom vm zero (chain_of response (bypass_vm_stages response vm n (length (chain_of response w.exchange)) (w.exchange, w.hub)).0)

-- each of these is let through, and that is not too much
abbrev pub MayLet : Bool → ℕ → ℕ → Running → Type 0
MayLet response n vm w = AreDeeds response n 0 (lets_of vm (length (chain_of response w.exchange)) (chain_of response w.exchange)) w

abbrev pub between : ℕ → ℕ → Exchange → Hub → Exchange × Hub
between vm n x hub = bypass_vm_stages false vm n (length x.request) (x, hub)

-- the exchange and the hub behind deeds
abbrev pub comes_to : Bool → ℕ → List Deed → Running → Exchange × Hub
comes_to response n deeds w = ((done_all response n deeds w).exchange, (done_all response n deeds w).hub)

-- the stage at this count, from 1, is of another VM
abbrev pub CutIsAnothers : ℕ → ℕ → List Stage → Type 0
CutIsAnothers count vm stages = (k of : ℕ) → suc k ≡ count → vm_at stages k ≡ Some of → (of == vm) ≡ false

-- The deeds of a death: the direction's own stages of the VM are let through, and something becomes of the exchange by those of the other direction: for the
-- request after that, for the response before.
abbrev pub request_death : ℕ → ℕ → Running → List Deed
request_death n vm w =
    lets_of vm (length w.exchange.request) w.exchange.request ++ turns (bypass_vm vm n w.exchange w.hub).0 (bypass_vm vm n w.exchange w.hub).1 ∷ []

abbrev pub response_death : ℕ → ℕ → Running → List Deed
response_death n vm w =
    turns (between vm n w.exchange w.hub).0 (between vm n w.exchange w.hub).1
    ∷ lets_of vm (length (between vm n w.exchange w.hub).0.response) (between vm n w.exchange w.hub).0.response

-- these are deeds of the law, by which nothing comes, and they are what a death does to the exchange
pub record IsDeath (response : Bool) (n count vm : ℕ) (deeds : List Deed) (w : Running) : Type 0 where
  pub are : AreDeeds response n count deeds w
  pub none_came : items_put deeds ≡ []
  pub comes : comes_to response n deeds w ≡ lose_vm vm n w.exchange w.hub

-- A DEATH AS DEEDS of the law on bodies, as a direction sees it: its own stages of the VM are let through, and what becomes of those of the other direction
-- leaves it as it was. So for any last stage with a body callback that is of another VM.
pub record DeathsAreDeeds : Type 0 where
  pub request : (n count vm : ℕ) (w : Running) → w.exchange.has_ended ≡ false → fails_closed vm w.exchange ≡ false → CutIsAnothers count vm w.exchange.request → MayLet false n vm w
      → MayLet true n vm (record { due = None; exchange = (between vm n w.exchange w.hub).0; hub = (between vm n w.exchange w.hub).1 })
      → AreAliens (between vm n w.exchange w.hub).0.request (between vm n w.exchange w.hub).0.response
      → AreThere (between vm n w.exchange w.hub).1.contexts (between vm n w.exchange w.hub).0.request
      → IsDeath false n count vm (request_death n vm w) w
  pub response : (n count vm : ℕ) (w : Running) → w.exchange.has_ended ≡ false → fails_closed vm w.exchange ≡ false → CutIsAnothers count vm w.exchange.response
      → MayLet false n vm (record { due = None; exchange = w.exchange; hub = w.hub })
      → MayLet true n vm (record w { exchange = (between vm n w.exchange w.hub).0; hub = (between vm n w.exchange w.hub).1 })
      → AreAliens w.exchange.response w.exchange.request → AreThere w.hub.contexts w.exchange.response
      → IsDeath true n count vm (response_death n vm w) w

-- A VM DIES. An exchange that has ended stays as it is; one with a filter of the VM that fails closed is cut short; else the stages of the VM are let through,
-- those of the request first.
pub record DeathsPass : Type 0 where
  pub ended : (n vm : ℕ) (x : Exchange) (hub : Hub) → x.has_ended ≡ true → lose_vm vm n x hub ≡ (x, hub)
  pub closed : (n vm : ℕ) (x : Exchange) (hub : Hub) → x.has_ended ≡ false → fails_closed vm x ≡ true → AreThere hub.contexts x.request → AreThere hub.contexts x.response
      → IsCutShort n x hub (lose_vm vm n x hub).0 (lose_vm vm n x hub).1
  pub open_ : (n vm : ℕ) (x : Exchange) (hub : Hub) → x.has_ended ≡ false → fails_closed vm x ≡ false → lose_vm vm n x hub ≡ bypass_vm vm n x hub
  pub let_through : (response : Bool) (n count vm : ℕ) (w : Running) → AreDeeds response n count (lets_of vm (length (chain_of response w.exchange)) (chain_of response w.exchange)) w
      → AreLetThrough response n vm w
