-- An array that is not refused says the entries that are made of it.
use Rattle.std.proofs.Common.{◌≡◌, ℕ, ◌+◌, List, [], ◌∷◌, ◌++◌, true, length, nat_lt, codes, Option, Some, None, is_some, Ok, refl, ap, sym, subst, ◌∙◌}
use Rattle.std.proofs.lemmas.List.{append-nil, append_assoc}
use Rattle.std.proofs.lemmas.Bool.{and_parts}
use Rattle.std.specs.List.{list_all}
use Rattle.toml.specs.Data.{Data, string, integer, float, boolean, datetime, array, table, Items, no_items, item, Members, get_member, as_array, as_table}
use Rattle.gate_config.specs.declared.entries.VmEntry.{VmEntry}
use Rattle.gate_config.specs.declared.entries.PluginEntry.{PluginEntry}
use Rattle.gate_config.specs.declared.entries.RouteEntry.{RouteEntry}
use Rattle.gate_config.specs.Given.{Given}
use Rattle.config_reader.specs.Judge.{list_of, table_fault}
use Rattle.config_reader.specs.Rows.{vm_keys, plugin_keys, route_keys}
use Rattle.config_reader.specs.Whole.{judge_entries, judge_list, judge_found, judge_array, entry_front, given_with_entry, members_in, most_of, vm_of, plugin_of, route_of}
use Rattle.config_reader.specs.declared.section.TableArray.TheVariants.{Vm, Plugin, Route}
use Rattle.law_config.specs.Says.{VmSays, PluginSays, RouteSays, EachSays, Entries}
use Rattle.law_config.proofs.Kept.{itself, items_by, not_refused}
use Rattle.law_config.proofs.Tables.{vm_says, plugin_says, route_says, is_array}

its_table : (d : Data) → is_some (as_table d) ≡ true → d ≡ table (members_in d)
its_table (table ms) h = refl
its_table (string s) h = cc
its_table (integer z) h = cc
its_table (float x) h = cc
its_table (boolean b) h = cc
its_table (datetime t) h = cc
its_table (array ds) h = cc

-- ---- `vm`

abbrev WithVms : Given → List VmEntry → Given
WithVms g xs = record g { vms = g.vms ++ xs }

abbrev VmsSay : Items → Given → Given → Type 0
VmsSay ds g h = (xs : List VmEntry) × (h ≡ WithVms g xs) × EachSays VmSays xs ds

vm_none : (g h : Given) → g ≡ h → VmsSay no_items g h
vm_none g h e = ([], sym e ∙ ap (λ (xs : List VmEntry). record g { vms = xs }) (sym (append-nil g.vms)), tt)

vm_more : (d : Data) (ms : Members) (ds : Items) (g h : Given) → d ≡ table ms → table_fault vm_keys g ms ≡ None → VmsSay ds (given_with_entry Vm ms g) h → VmsSay (item d ds) g h
vm_more d ms ds g h is good rest = (
  vm_of ms ∷ rest.0,
  rest.1 ∙ ap (λ (xs : List VmEntry). record g { vms = xs }) (append_assoc g.vms (vm_of ms ∷ []) rest.0),
  ((ms, is, vm_says g ms good), rest.2),
)

vm_entries : (place : ℕ) (ds : Items) (g h : Given) → list_all (λ d. is_some (as_table d)) (list_of ds) ≡ true → judge_entries Vm place (list_of ds) g ≡ Ok h → VmsSay ds g h
vm_entries place no_items g h all e = vm_none g h (itself g h e)
vm_entries place (item d ds) g h all e =
    let p = and_parts (is_some (as_table d)) (list_all (λ d. is_some (as_table d)) (list_of ds)) all in
    let t = not_refused (entry_front Vm place) (table_fault vm_keys g (members_in d)) (judge_entries Vm (place + 1) (list_of ds) (given_with_entry Vm (members_in d) g)) h e in
    vm_more d (members_in d) ds g h (its_table d p.0) t.0 (vm_entries (place + 1) ds (given_with_entry Vm (members_in d) g) h p.1 t.1)

vm_list : (d : Data) (o : Option Items) (g h : Given) → as_array d ≡ o → g.vms ≡ [] → judge_list Vm g o ≡ Ok h → (h ≡ record g { vms = h.vms }) × ((ds : Items) × (d ≡ array ds) × EachSays VmSays h.vms ds)
vm_list d None g h is none e = cc
vm_list d (Some ds) g h is none e =
    let t = items_by Vm (list_all (λ d. is_some (as_table d)) (list_of ds)) (nat_lt (most_of Vm) (length (list_of ds))) (judge_entries Vm 0 (list_of ds) g) h e in
    let s = vm_entries 0 ds g h t.0 t.2 in
    let one : h ≡ record g { vms = s.0 } = s.1 ∙ ap (λ (l : List VmEntry). record g { vms = l ++ s.0 }) none in
    let same : h.vms ≡ s.0 = ap (λ (x : Given). x.vms) one in
    (one ∙ ap (λ (l : List VmEntry). record g { vms = l }) (sym same), (ds, is_array d ds is, subst (λ (l : List VmEntry). EachSays VmSays l ds) (sym same) s.2))

vm_found : (o : Option Data) (g h : Given) → g.vms ≡ [] → judge_found Vm g o ≡ Ok h → (h ≡ record g { vms = h.vms }) × Entries VmSays h.vms o
vm_found None g h none e =
    let same = itself g h e in
    let nothing : h.vms ≡ [] = ap (λ (x : Given). x.vms) (sym same) ∙ none in
    (sym same ∙ ap (λ (l : List VmEntry). record g { vms = l }) (none ∙ sym nothing), nothing)
vm_found (Some d) g h none e = vm_list d (as_array d) g h refl none e

pub vm_array : (ms : Members) (g h : Given) → g.vms ≡ [] → judge_array Vm ms g ≡ Ok h → (h ≡ record g { vms = h.vms }) × Entries VmSays h.vms (get_member (codes "vm") ms)
vm_array ms g h none e = vm_found (get_member (codes "vm") ms) g h none e

-- ---- `plugin`

abbrev WithPlugins : Given → List PluginEntry → Given
WithPlugins g xs = record g { plugins = g.plugins ++ xs }

abbrev PluginsSay : Items → Given → Given → Type 0
PluginsSay ds g h = (xs : List PluginEntry) × (h ≡ WithPlugins g xs) × EachSays (PluginSays g.vms) xs ds

plugin_none : (g h : Given) → g ≡ h → PluginsSay no_items g h
plugin_none g h e = ([], sym e ∙ ap (λ (xs : List PluginEntry). record g { plugins = xs }) (sym (append-nil g.plugins)), tt)

plugin_more : (d : Data) (ms : Members) (ds : Items) (g h : Given) → d ≡ table ms → table_fault plugin_keys g ms ≡ None → PluginsSay ds (given_with_entry Plugin ms g) h → PluginsSay (item d ds) g h
plugin_more d ms ds g h is good rest = (
  plugin_of g ms ∷ rest.0,
  rest.1 ∙ ap (λ (xs : List PluginEntry). record g { plugins = xs }) (append_assoc g.plugins (plugin_of g ms ∷ []) rest.0),
  ((ms, is, plugin_says g ms good), rest.2),
)

plugin_entries : (place : ℕ) (ds : Items) (g h : Given) → list_all (λ d. is_some (as_table d)) (list_of ds) ≡ true → judge_entries Plugin place (list_of ds) g ≡ Ok h → PluginsSay ds g h
plugin_entries place no_items g h all e = plugin_none g h (itself g h e)
plugin_entries place (item d ds) g h all e =
    let p = and_parts (is_some (as_table d)) (list_all (λ d. is_some (as_table d)) (list_of ds)) all in
    let t = not_refused (entry_front Plugin place) (table_fault plugin_keys g (members_in d)) (judge_entries Plugin (place + 1) (list_of ds) (given_with_entry Plugin (members_in d) g)) h e in
    plugin_more d (members_in d) ds g h (its_table d p.0) t.0 (plugin_entries (place + 1) ds (given_with_entry Plugin (members_in d) g) h p.1 t.1)

plugin_list : (d : Data) (o : Option Items) (g h : Given) → as_array d ≡ o → g.plugins ≡ [] → judge_list Plugin g o ≡ Ok h → (h ≡ record g { plugins = h.plugins }) × ((ds : Items) × (d ≡ array ds) × EachSays (PluginSays g.vms) h.plugins ds)
plugin_list d None g h is none e = cc
plugin_list d (Some ds) g h is none e =
    let t = items_by Plugin (list_all (λ d. is_some (as_table d)) (list_of ds)) (nat_lt (most_of Plugin) (length (list_of ds))) (judge_entries Plugin 0 (list_of ds) g) h e in
    let s = plugin_entries 0 ds g h t.0 t.2 in
    let one : h ≡ record g { plugins = s.0 } = s.1 ∙ ap (λ (l : List PluginEntry). record g { plugins = l ++ s.0 }) none in
    let same : h.plugins ≡ s.0 = ap (λ (x : Given). x.plugins) one in
    (one ∙ ap (λ (l : List PluginEntry). record g { plugins = l }) (sym same), (ds, is_array d ds is, subst (λ (l : List PluginEntry). EachSays (PluginSays g.vms) l ds) (sym same) s.2))

plugin_found : (o : Option Data) (g h : Given) → g.plugins ≡ [] → judge_found Plugin g o ≡ Ok h → (h ≡ record g { plugins = h.plugins }) × Entries (PluginSays g.vms) h.plugins o
plugin_found None g h none e =
    let same = itself g h e in
    let nothing : h.plugins ≡ [] = ap (λ (x : Given). x.plugins) (sym same) ∙ none in
    (sym same ∙ ap (λ (l : List PluginEntry). record g { plugins = l }) (none ∙ sym nothing), nothing)
plugin_found (Some d) g h none e = plugin_list d (as_array d) g h refl none e

pub plugin_array : (ms : Members) (g h : Given) → g.plugins ≡ [] → judge_array Plugin ms g ≡ Ok h → (h ≡ record g { plugins = h.plugins }) × Entries (PluginSays g.vms) h.plugins (get_member (codes "plugin") ms)
plugin_array ms g h none e = plugin_found (get_member (codes "plugin") ms) g h none e

-- ---- `route`

abbrev WithRoutes : Given → List RouteEntry → Given
WithRoutes g xs = record g { routes = g.routes ++ xs }

abbrev RoutesSay : Items → Given → Given → Type 0
RoutesSay ds g h = (xs : List RouteEntry) × (h ≡ WithRoutes g xs) × EachSays (RouteSays g.plugins) xs ds

route_none : (g h : Given) → g ≡ h → RoutesSay no_items g h
route_none g h e = ([], sym e ∙ ap (λ (xs : List RouteEntry). record g { routes = xs }) (sym (append-nil g.routes)), tt)

route_more : (d : Data) (ms : Members) (ds : Items) (g h : Given) → d ≡ table ms → table_fault route_keys g ms ≡ None → RoutesSay ds (given_with_entry Route ms g) h → RoutesSay (item d ds) g h
route_more d ms ds g h is good rest = (
  route_of g ms ∷ rest.0,
  rest.1 ∙ ap (λ (xs : List RouteEntry). record g { routes = xs }) (append_assoc g.routes (route_of g ms ∷ []) rest.0),
  ((ms, is, route_says g ms good), rest.2),
)

route_entries : (place : ℕ) (ds : Items) (g h : Given) → list_all (λ d. is_some (as_table d)) (list_of ds) ≡ true → judge_entries Route place (list_of ds) g ≡ Ok h → RoutesSay ds g h
route_entries place no_items g h all e = route_none g h (itself g h e)
route_entries place (item d ds) g h all e =
    let p = and_parts (is_some (as_table d)) (list_all (λ d. is_some (as_table d)) (list_of ds)) all in
    let t = not_refused (entry_front Route place) (table_fault route_keys g (members_in d)) (judge_entries Route (place + 1) (list_of ds) (given_with_entry Route (members_in d) g)) h e in
    route_more d (members_in d) ds g h (its_table d p.0) t.0 (route_entries (place + 1) ds (given_with_entry Route (members_in d) g) h p.1 t.1)

route_list : (d : Data) (o : Option Items) (g h : Given) → as_array d ≡ o → g.routes ≡ [] → judge_list Route g o ≡ Ok h → (h ≡ record g { routes = h.routes }) × ((ds : Items) × (d ≡ array ds) × EachSays (RouteSays g.plugins) h.routes ds)
route_list d None g h is none e = cc
route_list d (Some ds) g h is none e =
    let t = items_by Route (list_all (λ d. is_some (as_table d)) (list_of ds)) (nat_lt (most_of Route) (length (list_of ds))) (judge_entries Route 0 (list_of ds) g) h e in
    let s = route_entries 0 ds g h t.0 t.2 in
    let one : h ≡ record g { routes = s.0 } = s.1 ∙ ap (λ (l : List RouteEntry). record g { routes = l ++ s.0 }) none in
    let same : h.routes ≡ s.0 = ap (λ (x : Given). x.routes) one in
    (one ∙ ap (λ (l : List RouteEntry). record g { routes = l }) (sym same), (ds, is_array d ds is, subst (λ (l : List RouteEntry). EachSays (RouteSays g.plugins) l ds) (sym same) s.2))

route_found : (o : Option Data) (g h : Given) → g.routes ≡ [] → judge_found Route g o ≡ Ok h → (h ≡ record g { routes = h.routes }) × Entries (RouteSays g.plugins) h.routes o
route_found None g h none e =
    let same = itself g h e in
    let nothing : h.routes ≡ [] = ap (λ (x : Given). x.routes) (sym same) ∙ none in
    (sym same ∙ ap (λ (l : List RouteEntry). record g { routes = l }) (none ∙ sym nothing), nothing)
route_found (Some d) g h none e = route_list d (as_array d) g h refl none e

pub route_array : (ms : Members) (g h : Given) → g.routes ≡ [] → judge_array Route ms g ≡ Ok h → (h ≡ record g { routes = h.routes }) × Entries (RouteSays g.plugins) h.routes (get_member (codes "route") ms)
route_array ms g h none e = route_found (get_member (codes "route") ms) g h none e
