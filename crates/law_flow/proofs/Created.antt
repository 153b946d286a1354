-- Why a context is of the VM of its filter.
use Rattle.std.proofs.Common.{◌≡◌, ℕ, Bool, true, false, cond, not, ◌||◌, List, [], ◌∷◌, ◌++◌, filter, refl, subst}
use Rattle.std.specs.Prelude.{Option, None, Some, option_map, slice_get}
use Rattle.contexts.specs.Creating.{next_id, plugin_in}
use Rattle.filter_host.specs.declared.host.Death.TheVariants as deaths
use Rattle.exchange.specs.declared.types.Filter.{Filter}
use Rattle.gate_config.specs.declared.entries.PluginEntry.{PluginEntry}
use Rattle.worker_model.specs.Room.{Room}
use Rattle.worker_model.specs.declared.types.NewContext.{NewContext}
use Rattle.worker_model.specs.Rooms.{is_dead, lose_vm_in}
use Rattle.worker_model.specs.Steps.{filter_at, is_drawn_out, may_stream, new_one, with_stream, create_stream, create_filter, filter_of, filters_by, filters_of, is_gone, plugins_at}
use Rattle.law_body.proofs.Spent.{of_if, neither}
use Rattle.law_flow.specs.Created.{IsOfItsVm, ContextsAreOfTheirVms, TellTheirVms, FiltersTellTheirVms, CreatedExample}

same_new : (c d : NewContext) → Some c ≡ Some d → c ≡ d
same_new c d is = cc

none_new : {A : Type 0} (c : NewContext) → None ≡ Some c → A
none_new c is = absurd (cc)

not_false : (b : Bool) → not b ≡ false → b ≡ true
not_false true is = refl
not_false false is = absurd (cc)

pub of_their_vms : ContextsAreOfTheirVms
of_their_vms number k room c made = by_filter (filter_at number k room.lines) refl made
  where
    by_root : (f : Filter) → filter_at number k room.lines ≡ Some f → (o : Option ℕ) → (plugin_in room.hub.contexts f.plugin).root ≡ o → (create_stream number k f o room).0 ≡ Some c → IsOfItsVm number k room c
    by_root f at None root is = none_new c is
    by_root f at (Some r) root is =
        of_if (λ (p : Option NewContext × Room). p.0 ≡ Some c → IsOfItsVm number k room c) (is_dead f.vm room || not (may_stream f.vm r room.hub.contexts)) (None, room) _ (λ some none. none_new c none)
        (λ lives.
        of_if (λ (p : Option NewContext × Room). p.0 ≡ Some c → IsOfItsVm number k room c) (is_drawn_out f.vm room.hub.contexts) (None, lose_vm_in f.vm deaths.Ids room) (with_stream number k f r room)
        (λ out none. none_new c none)
        (λ more new.
        let same : new_one f.vm (next_id room.hub.contexts f.vm) r ≡ c = same_new (new_one f.vm (next_id room.hub.contexts f.vm) r) c new in
        let each = neither (is_dead f.vm room) (not (may_stream f.vm r room.hub.contexts)) lives in
        subst (λ (d : NewContext). IsOfItsVm number k room d) same
        (record { filter = f; at = at; vm = refl; lives = each.0; root = root; has_root = not_false (may_stream f.vm r room.hub.contexts) each.1; context = refl }))) is

    by_filter : (o : Option Filter) → filter_at number k room.lines ≡ o → (create_filter number k o room).0 ≡ Some c → IsOfItsVm number k room c
    by_filter None at is = none_new c is
    by_filter (Some f) at is = by_root f at (plugin_in room.hub.contexts f.plugin).root refl is

-- ---- the filters of a new exchange

all_tell : (plugins : List PluginEntry) (ps : List ℕ) → TellTheirVms plugins (filters_of plugins ps)
all_tell plugins [] = tt
all_tell plugins (p ∷ ps) = by_entry (all_tell plugins ps) (slice_get plugins p) refl
  where
    by_entry : TellTheirVms plugins (filters_of plugins ps) → (o : Option PluginEntry) → slice_get plugins p ≡ o → TellTheirVms plugins (filters_by (option_map (filter_of p) o) ++ filters_of plugins ps)
    by_entry later None at = later
    by_entry later (Some e) at = (record { entry = e; at = at; vm = refl }, later)

-- so do those of them that are left
left_tell : (plugins : List PluginEntry) (keeps : Filter → Bool) (fs : List Filter) → TellTheirVms plugins fs → TellTheirVms plugins (filter keeps fs)
left_tell plugins keeps [] all = tt
left_tell plugins keeps (f ∷ fs) all = by_test (keeps f) (left_tell plugins keeps fs all.1)
  where
    by_test : (b : Bool) → TellTheirVms plugins (filter keeps fs) → TellTheirVms plugins (cond b (f ∷ filter keeps fs) (filter keeps fs))
    by_test true later = (all.0, later)
    by_test false later = later

pub filters_tell : FiltersTellTheirVms
filters_tell plan place now dead h route =
    left_tell plan.plugins (λ (f : Filter). not (is_gone dead f)) (filters_of plan.plugins (plugins_at plan.routes route)) (all_tell plan.plugins (plugins_at plan.routes route))

pub created_example : CreatedExample
created_example = record { made = refl; dead = refl; filters = refl }
