-- WHICH STAGES AN EXCHANGE HAS: those of the filters of its route.
use Rattle.std.specs.Prelude.{◌≡◌, ℕ, Bool, true, false, ◌==◌, List, [], ◌∷◌, reverse, slice_get, None, Some}
use Rattle.std.specs.List.{list_any}
use Rattle.exchange.specs.declared.types.Exchange.{Exchange}
use Rattle.exchange.specs.declared.types.Filter.{Filter}
use Rattle.filter_chain.specs.declared.stage.Stage.{Stage}
use Rattle.gate_config.specs.declared.entries.PluginEntry.{PluginEntry}
use Rattle.gate_config.specs.declared.entries.RouteEntry.{RouteEntry}
use Rattle.h1_model.specs.Head.{Head}
use Rattle.worker_model.specs.Plan.{Plan}
use Rattle.worker_model.specs.Steps.{exchange_for, exchange_with_stages}
use Rattle.law_asked.specs.Asked.{IsUnused, AreUnused}

abbrev pub is_among : List ℕ → ℕ → Bool
is_among dead vm = list_any (λ (d : ℕ). d == vm) dead

-- ---- the filters of a new exchange

-- the filter is that of the plug-in at a place of the configuration
pub record IsFilterOf (p : ℕ) (e : PluginEntry) (f : Filter) : Type 0 where
  pub plugin : f.plugin ≡ p
  pub vm : f.vm ≡ e.vm
  pub fails_open : f.fails_open ≡ e.fail_open

-- Of these plug-ins, in order, each is a filter, but where its VM is dead. (A place at which the configuration has no plug-in is no filter.)
pub data Chosen (plugins : List PluginEntry) (dead : List ℕ) : List ℕ → List Filter → Type 0 where
  no_filter : Chosen plugins dead [] []
  takes : {p : ℕ} {e : PluginEntry} {f : Filter} {ps : List ℕ} {fs : List Filter} → slice_get plugins p ≡ Some e → is_among dead e.vm ≡ false → IsFilterOf p e f
      → Chosen plugins dead ps fs → Chosen plugins dead (p ∷ ps) (f ∷ fs)
  filter_dead : {p : ℕ} {e : PluginEntry} {ps : List ℕ} {fs : List Filter} → slice_get plugins p ≡ Some e → is_among dead e.vm ≡ true
      → Chosen plugins dead ps fs → Chosen plugins dead (p ∷ ps) fs
  unknown : {p : ℕ} {ps : List ℕ} {fs : List Filter} → slice_get plugins p ≡ None → Chosen plugins dead ps fs → Chosen plugins dead (p ∷ ps) fs

-- A NEW EXCHANGE HAS THE FILTERS OF ITS ROUTE: all of them, in the order of the configuration, but those of dead VMs. Where one of these fails closed, the exchange
-- is refused with 503 before any filter sees it; where no route takes it, with 404.
pub record HasItsFilters (plan : Plan) (place now : ℕ) (dead : List ℕ) (h : Head) : Type 0 where
  pub filters : (route : ℕ) (entry : RouteEntry) → slice_get plan.routes route ≡ Some entry → Chosen plan.plugins dead entry.filters (exchange_for plan place now dead h (Some route)).filters
  pub closed : (route at p : ℕ) (entry : RouteEntry) (e : PluginEntry) → slice_get plan.routes route ≡ Some entry → slice_get entry.filters at ≡ Some p → slice_get plan.plugins p ≡ Some e
      → is_among dead e.vm ≡ true → e.fail_open ≡ false → (exchange_for plan place now dead h (Some route)).refusal ≡ Some 503
  pub no_route : (exchange_for plan place now dead h None).refusal ≡ Some 404

abbrev pub ExchangesHaveTheirFilters : Type 0
ExchangesHaveTheirFilters = (plan : Plan) (place now : ℕ) (dead : List ℕ) (h : Head) → HasItsFilters plan place now dead h

-- ---- the stages of an exchange that is entered

-- it is the stage of the filter, in this direction, and nothing passed it yet
pub record IsStageOf (response : Bool) (f : Filter) (s : Stage) : Type 0 where
  pub vm : s.vm ≡ f.vm
  pub context : s.context ≡ f.context
  pub direction : s.response ≡ response
  pub unused : IsUnused s

-- Each filter has a stage, in order, but where its VM is dead or no context of it was made.
pub data Staged (response : Bool) (dead : List ℕ) : List Filter → List Stage → Type 0 where
  no_stage : Staged response dead [] []
  stands : {f : Filter} {s : Stage} {fs : List Filter} {ss : List Stage} → f.created ≡ true → is_among dead f.vm ≡ false → IsStageOf response f s
      → Staged response dead fs ss → Staged response dead (f ∷ fs) (s ∷ ss)
  stage_dead : {f : Filter} {fs : List Filter} {ss : List Stage} → is_among dead f.vm ≡ true → Staged response dead fs ss → Staged response dead (f ∷ fs) ss
  has_none : {f : Filter} {fs : List Filter} {ss : List Stage} → f.created ≡ false → Staged response dead fs ss → Staged response dead (f ∷ fs) ss

-- ITS STAGES ARE THOSE OF ITS FILTERS, in the order of the route for the request, in reverse for the response, unless it was answered or has ended before
pub record HasItsStages (dead : List ℕ) (x : Exchange) : Type 0 where
  pub request : Staged false dead x.filters (exchange_with_stages dead x).request
  pub response : (ss : List Stage) × Staged true dead x.filters ss × ((exchange_with_stages dead x).response ≡ reverse ss)
  pub unused_request : AreUnused (exchange_with_stages dead x).request
  pub unused_response : AreUnused (exchange_with_stages dead x).response

abbrev pub ExchangesHaveTheirStages : Type 0
ExchangesHaveTheirStages = (dead : List ℕ) (x : Exchange) → x.has_ended ≡ false → x.is_answered ≡ false → HasItsStages dead x
