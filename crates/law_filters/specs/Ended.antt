-- WHAT A DEAD FILTER THAT FAILS CLOSED HAD A PART IN HAS ENDED: over a worker's life, so that nothing more of it goes down.
use Rattle.std.specs.Prelude.{◌≡◌, ℕ, true, false, List, [], ◌∷◌, slice_get, Some}
use Rattle.exchange.specs.Passing.{lose_vm}
use Rattle.exchange.specs.declared.types.Exchange.{Exchange}
use Rattle.exchange.specs.declared.types.Filter.{Filter}
use Rattle.exchange.specs.declared.types.Hub.{Hub}
use Rattle.filter_chain.specs.declared.item.Held.TheVariants as held
use Rattle.filter_chain.specs.declared.stage.Stage.{Stage}
use Rattle.gate_config.specs.declared.config.Config.{Config}
use Rattle.law_meaning.specs.Walks.{Step}
use Rattle.vm_host.specs.declared.slots.Vms.{Vms}
use Rattle.worker_model.specs.Room.{Room}
use Rattle.worker_model.specs.Rooms.{is_dead, next_of}
use Rattle.worker_model.specs.Settling.{is_rest}
use Rattle.worker_model.specs.Steps.{Both, exchange_on}
use Rattle.law_filters.specs.Roots.{WalksTo}

-- The stage is that of the filter's context.
pub record IsItsStage (f : Filter) (s : Stage) : Type 0 where
  pub vm : s.vm ≡ f.vm
  pub context : s.context ≡ f.context

-- A FILTER HAS A PART in an exchange: its stage is there, for the request or for the response; or the stages are still to be made, and it was not answered.
pub data HasPart (f : Filter) (x : Exchange) : Type 0 where
  for_request : (k : ℕ) (s : Stage) → slice_get x.request k ≡ Some s → IsItsStage f s → HasPart f x
  for_response : (k : ℕ) (s : Stage) → slice_get x.response k ≡ Some s → IsItsStage f s → HasPart f x
  to_come : x.is_entered ≡ false → x.is_answered ≡ false → HasPart f x

-- The exchange on a line has a filter that fails closed and has a part in it, and the filter's VM is dead.
pub record IsShutOn (n : ℕ) (room : Room) (x : Exchange) : Type 0 where
  pub on : exchange_on n room ≡ Some x
  pub place : ℕ
  pub its : Filter
  pub at : slice_get x.filters place ≡ Some its
  pub closed : its.fails_open ≡ false
  pub part : HasPart its x
  pub dead : is_dead its.vm room ≡ true

-- DEAD FILTERS THAT FAIL CLOSED END THEIR EXCHANGES, whatever callbacks return and ask for, whatever comes on lines, and in whichever order VMs die:
pub record DeadFiltersEndExchanges : Type 0 where
  -- at each moment of a worker's life such an exchange has ended;
  pub ended : (config : Config) (who : ℕ) (seed : List ℕ) (steps : List (Step Vms)) (to : Both Vms) (n : ℕ) (x : Exchange) → WalksTo config who seed steps to → IsShutOn n to.room x → x.has_ended ≡ true
  -- and where a turn has come to rest, there is none.
  pub gone : (config : Config) (who : ℕ) (seed : List ℕ) (steps : List (Step Vms)) (to : Both Vms) (n : ℕ) (x : Exchange) → WalksTo config who seed steps to → is_rest (next_of to.room) ≡ true → IsShutOn n to.room x → ⊥

-- ---- worked: a filter of context 6 of VM 3, which fails closed, and its stage for responses

-- the filter
abbrev pub closed_filter : Filter
closed_filter = record { plugin = 0; vm = 3; fails_open = false; created = true; context = 6 }

-- its stage for responses, at which nothing waits
abbrev pub its_stage : Stage
its_stage = record { vm = 3; context = 6; response = true; waiting = []; held = held.Nothing; passes = false }

-- when it has a part, and what its death does then
pub record EndedExamples : Type 0 where
  -- Another filter answered the request, so that the stages of the request are gone: this one has its part in the answer. Where its VM dies, the exchange ends.
  pub part : (x : Exchange) → x.response ≡ its_stage ∷ [] → HasPart closed_filter x
  pub ends : (n : ℕ) (x : Exchange) (hub : Hub) → x.filters ≡ closed_filter ∷ [] → x.request ≡ [] → x.response ≡ its_stage ∷ [] → (lose_vm 3 n x hub).0.has_ended ≡ true
  -- where it was not reached before that answer, it has none
  pub none : (x : Exchange) → x.is_entered ≡ true → x.request ≡ [] → x.response ≡ [] → HasPart closed_filter x → ⊥
