-- How an exchange begins with the head of its request.
use Rattle.std.specs.Prelude.{◌≡◌, ℕ, false, List, [], Option}
use Rattle.contexts.specs.declared.parts.Contexts.{Contexts}
use Rattle.contexts.specs.Creating.{open_exchange}
use Rattle.exchange.specs.declared.types.Exchange.{Exchange}
use Rattle.exchange.specs.Heads.{request_of, up_framing}
use Rattle.exchange.specs.Leaving.{request_framing}
use Rattle.exchange.specs.Maps.{request_map}
use Rattle.h1_model.specs.Head.{Head}
use Rattle.worker_model.specs.Plan.{Plan}
use Rattle.worker_model.specs.Steps.{exchange_with_stages, exchange_for, free_place}

abbrev pub begun_for : Plan → ℕ → List ℕ → Head → Option ℕ → Contexts → Exchange
begun_for plan now dead h route contexts = exchange_for plan (free_place contexts) now dead h route

-- IT BEGINS NEW: no stage is there, nothing went out, and it was neither answered nor ended. Its request's map is that of the head that was
-- judged, wherever its place among the contexts is, and what frames it upwards and the version that `via` tells are of that head. Where its route
-- has no filters it never has a stage.
pub record BeginsNew (plan : Plan) (now number : ℕ) (dead : List ℕ) (h : Head) (route : Option ℕ) (contexts : Contexts) : Type 0 where
  pub request : (begun_for plan now dead h route contexts).request ≡ []
  pub response : (begun_for plan now dead h route contexts).response ≡ []
  pub head : (begun_for plan now dead h route contexts).is_head_out ≡ false
  pub running : (begun_for plan now dead h route contexts).has_ended ≡ false
  pub unanswered : (begun_for plan now dead h route contexts).is_answered ≡ false
  pub judged : request_map (begun_for plan now dead h route contexts).place (open_exchange number h.fields contexts) ≡ h.fields
  pub framed : request_framing (begun_for plan now dead h route contexts)
      ≡ up_framing (begun_for plan now dead h route contexts).filters_requests (request_of h)
  pub version : (begun_for plan now dead h route contexts).asked.minor ≡ h.minor
  pub no_request_stage : (begun_for plan now dead h route contexts).filters ≡ [] → (exchange_with_stages dead (begun_for plan now dead h route contexts)).request ≡ []
  pub no_response_stage : (begun_for plan now dead h route contexts).filters ≡ [] → (exchange_with_stages dead (begun_for plan now dead h route contexts)).response ≡ []

abbrev pub ExchangesBeginNew : Type 0
ExchangesBeginNew =
    (plan : Plan) (now number : ℕ) (dead : List ℕ) (h : Head) (route : Option ℕ) (contexts : Contexts) → BeginsNew plan now number dead h route contexts
