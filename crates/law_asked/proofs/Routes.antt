-- The filters of a route, and their stages.
use Rattle.std.proofs.Common.{◌≡◌, ℕ, zero, suc, Bool, true, false, not, ◌&&◌, ◌||◌, List, [], ◌∷◌, ◌++◌, ap, ◌∙◌, sym, refl, subst}
use Rattle.std.specs.Prelude.{reverse, map, filter, slice_get, Option, None, Some, option_map, if◌then◌else◌}
use Rattle.std.specs.List.{list_any}
use mathlib.Core.List.{reverse_aux}
use Rattle.exchange.specs.declared.types.Exchange.{Exchange}
use Rattle.exchange.specs.declared.types.Filter.{Filter}
use Rattle.filter_chain.specs.declared.stage.Stage.{Stage}
use Rattle.gate_config.specs.declared.entries.PluginEntry.{PluginEntry}
use Rattle.gate_config.specs.declared.entries.RouteEntry.{RouteEntry}
use Rattle.worker_model.specs.Steps.{exchange_with_stages, filters_of, filters_by, filter_at_plugin, filter_of, plugins_of, is_gone, is_blocking, is_live, new_stage}
use Rattle.law_asked.specs.Asked.{AreUnused}
use Rattle.law_asked.specs.Filters.{is_among, Chosen, no_filter, takes, filter_dead, unknown, ExchangesHaveTheirFilters, Staged, no_stage, stands, stage_dead, has_none, ExchangesHaveTheirStages}

abbrev lives : List ℕ → Filter → Bool
lives dead f = not (is_gone dead f)

-- ---- filters

one_chosen : (plugins : List PluginEntry) (dead : List ℕ) (p : ℕ) (ps : List ℕ) (fs : List Filter) (o : Option PluginEntry) → slice_get plugins p ≡ o → Chosen plugins dead ps (filter (lives dead) fs)
    → Chosen plugins dead (p ∷ ps) (filter (lives dead) (filters_by (option_map (filter_of p) o) ++ fs))
one_chosen plugins dead p ps fs None at later = unknown at later
one_chosen plugins dead p ps fs (Some e) at later = by_dead (is_among dead e.vm) refl
  where
    by_dead : (b : Bool) → is_among dead e.vm ≡ b → Chosen plugins dead (p ∷ ps) (filter (lives dead) (filter_of p e ∷ fs))
    by_dead true is = rw is (filter_dead at is later)
    by_dead false is = rw is (takes at is (record { plugin = refl; vm = refl; fails_open = refl }) later)

chosen : (plugins : List PluginEntry) (dead : List ℕ) (ps : List ℕ) → Chosen plugins dead ps (filter (lives dead) (filters_of plugins ps))
chosen plugins dead [] = no_filter
chosen plugins dead (p ∷ ps) = one_chosen plugins dead p ps (filters_of plugins ps) (slice_get plugins p) refl (chosen plugins dead ps)

or_later : (b c : Bool) → c ≡ true → (b || c) ≡ true
or_later true c is = refl
or_later false c is = is

any_front : (f : Filter → Bool) (a b : List Filter) → list_any f b ≡ true → list_any f (a ++ b) ≡ true
any_front f [] b is = is
any_front f (x ∷ a) b is = or_later (f x) (list_any f (a ++ b)) (any_front f a b is)

blocks : (plugins : List PluginEntry) (dead : List ℕ) (ps : List ℕ) (at p : ℕ) (e : PluginEntry) → slice_get ps at ≡ Some p → slice_get plugins p ≡ Some e → is_among dead e.vm ≡ true
    → e.fail_open ≡ false → list_any (is_blocking dead) (filters_of plugins ps) ≡ true
blocks plugins dead [] at p e here entry gone closed = absurd (cc here)
blocks plugins dead (q ∷ ps) zero p e here entry gone closed =
    let same : q ≡ p = (cc here) in
    let is : slice_get plugins q ≡ Some e = ap (slice_get plugins) same ∙ entry in
    let blocking : is_blocking dead (filter_of q e) ≡ true = (λ i. not (closed i) && gone i) in
    ap (λ (o : Option PluginEntry). list_any (is_blocking dead) (filters_by (option_map (filter_of q) o) ++ filters_of plugins ps)) is
    ∙ ap (λ (c : Bool). c || list_any (is_blocking dead) (filters_of plugins ps)) blocking
blocks plugins dead (q ∷ ps) (suc at) p e here entry gone closed =
    any_front (is_blocking dead) (filters_by (filter_at_plugin plugins q)) (filters_of plugins ps) (blocks plugins dead ps at p e here entry gone closed)

pub have_filters : ExchangesHaveTheirFilters
have_filters plan place now dead h = record {
  filters = λ route entry at.
      subst (λ (o : Option RouteEntry). Chosen plan.plugins dead entry.filters (filter (lives dead) (filters_of plan.plugins (plugins_of o)))) (sym at)
      (chosen plan.plugins dead entry.filters);
  closed = λ route at p entry e is here there gone closed.
      let blocking : list_any (is_blocking dead) (filters_of plan.plugins (plugins_of (slice_get plan.routes route))) ≡ true
      = ap (λ (o : Option RouteEntry). list_any (is_blocking dead) (filters_of plan.plugins (plugins_of o))) is ∙ blocks plan.plugins dead entry.filters at p e here there gone closed in
      ap (λ (c : Bool). if c then Some 503 else None) blocking;
  no_route = refl;
}

-- ---- stages

one_staged : (response : Bool) (dead : List ℕ) (f : Filter) (fs : List Filter) → Staged response dead fs (map (new_stage response) (filter (is_live dead) fs))
    → Staged response dead (f ∷ fs) (map (new_stage response) (filter (is_live dead) (f ∷ fs)))
one_staged response dead f fs later = by_created f.created refl
  where
    by_dead : f.created ≡ true → (b : Bool) → is_among dead f.vm ≡ b → Staged response dead (f ∷ fs) (map (new_stage response) (filter (is_live dead) (f ∷ fs)))
    by_dead made true is =
        let live : is_live dead f ≡ false = (λ i. made i && not (is i)) in
        rw live (stage_dead is later)
    by_dead made false is =
        let live : is_live dead f ≡ true = (λ i. made i && not (is i)) in
        rw live
        (stands made is (record { vm = refl; context = refl; direction = refl; unused = record { waiting = refl; holding = refl; asking = refl } }) later)

    by_created : (b : Bool) → f.created ≡ b → Staged response dead (f ∷ fs) (map (new_stage response) (filter (is_live dead) (f ∷ fs)))
    by_created true made = by_dead made (is_among dead f.vm) refl
    by_created false made =
        let live : is_live dead f ≡ false = ap (λ (c : Bool). c && not (is_among dead f.vm)) made in
        rw live (has_none made later)

staged : (response : Bool) (dead : List ℕ) (fs : List Filter) → Staged response dead fs (map (new_stage response) (filter (is_live dead) fs))
staged response dead [] = no_stage
staged response dead (f ∷ fs) = one_staged response dead f fs (staged response dead fs)

unused_of : {response : Bool} {dead : List ℕ} {fs : List Filter} {ss : List Stage} → Staged response dead fs ss → AreUnused ss
unused_of no_stage = tt
unused_of (stands made alive is more) = (is.unused, unused_of more)
unused_of (stage_dead is more) = unused_of more
unused_of (has_none is more) = unused_of more

unused_back : (a b : List Stage) → AreUnused a → AreUnused b → AreUnused (reverse_aux a b)
unused_back [] b first second = second
unused_back (s ∷ a) b first second = unused_back a (s ∷ b) first.1 (first.0, second)

abbrev entered_as : List ℕ → Exchange → Exchange
entered_as dead x = record x { request = map (new_stage false) (filter (is_live dead) x.filters); response = reverse (map (new_stage true) (filter (is_live dead) x.filters)); is_entered = true }

pub have_stages : ExchangesHaveTheirStages
have_stages dead x runs open_ =
    let none_over : (x.has_ended || x.is_answered) ≡ false = (λ i. runs i || open_ i) in
    let is : exchange_with_stages dead x ≡ entered_as dead x = ap (λ (b : Bool). if b then x else entered_as dead x) none_over in
    let ups : List Stage = map (new_stage false) (filter (is_live dead) x.filters) in
    let downs : List Stage = map (new_stage true) (filter (is_live dead) x.filters) in
    let up_is : (exchange_with_stages dead x).request ≡ ups = ap (λ (y : Exchange). y.request) is in
    let down_is : (exchange_with_stages dead x).response ≡ reverse downs = ap (λ (y : Exchange). y.response) is in
    record {
      request = subst (Staged false dead x.filters) (sym up_is) (staged false dead x.filters);
      response = (downs, staged true dead x.filters, down_is);
      unused_request = subst AreUnused (sym up_is) (unused_of (staged false dead x.filters));
      unused_response = subst AreUnused (sym down_is) (unused_back downs [] (unused_of (staged true dead x.filters)) tt);
    }
