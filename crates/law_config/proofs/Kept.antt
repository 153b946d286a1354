-- A configuration keeps what it keeps with one more entry that is not refused, and so does one with all entries of an array.
use Rattle.std.proofs.Common.{◌≡◌, ◌≢◌, ℕ, ◌+◌, ◌<◌, ◌≤◌, List, [], ◌∷◌, ◌++◌, Bool, true, false, cond, length, nat_lt, Option, Some, None, is_some, Ok, Err, refl, subst, arith, length-append, All}
use Rattle.std.proofs.lemmas.Bool.{and_parts}
use Rattle.std.proofs.lemmas.Bool.Decides.{nat_tests}
use Rattle.std.proofs.lemmas.List.Elements.{All-push, All-weaker}
use Rattle.std.proofs.lemmas.List.Quantifiers.{all_pairs_push}
use Rattle.std.specs.List.{list_all}
use Rattle.matchit.specs.Route.{parse_route}
use Rattle.toml.specs.Data.{Data, Items, Members, get_member, as_array, as_table}
use Rattle.gate_config.specs.declared.entries.VmEntry.{VmEntry}
use Rattle.gate_config.specs.declared.entries.PluginEntry.{PluginEntry}
use Rattle.gate_config.specs.declared.entries.RouteEntry.{RouteEntry}
use Rattle.gate_config.specs.Given.{Given}
use Rattle.gate_config.specs.Kept.{IsKept, IsVm, IsPlugin, IsRoute}
use Rattle.gate_config.specs.Routes.{Table, fits, all_fit, with_route, with_routes, table_of}
use Rattle.config_reader.specs.Judge.{Fault, list_of, table_fault}
use Rattle.config_reader.specs.Whole.{Judged, unless, judge_entries, judge_list, judge_found, judge_array, entry_front, given_with_entry, keys_of, length_of, members_in, most_of, name_of, vm_of, plugin_of, route_of}
use Rattle.config_reader.specs.declared.section.TableArray.{TableArray}
use Rattle.config_reader.specs.declared.section.TableArray.TheVariants.{Vm, Plugin, Route}
use Rattle.config_reader.proofs.Fits.{vm_is, vm_is_new, plugin_is, plugin_is_new, route_fits, route_filters}

fit_last : (place : ℕ) (routes : List RouteEntry) (r : RouteEntry) (t : Table) → all_fit place routes t ≡ true → fits (parse_route r.path) (with_routes place routes t) ≡ true → all_fit place (routes ++ r ∷ []) t ≡ true
fit_last place [] r t a f = rw f
fit_last place (x ∷ xs) r t a f =
    let p = and_parts (fits (parse_route x.path) t) (all_fit (place + 1) xs (with_route x.path place t)) a in
    rw (p.0, fit_last (place + 1) xs r (with_route x.path place t) p.1 f)

kept_more : (workers : ℕ) (vms : List VmEntry) (plugins : List PluginEntry) (routes : List RouteEntry) (r : RouteEntry) → IsKept workers vms plugins routes → length routes < 256 → IsRoute (length plugins) r → fits (parse_route r.path) (table_of routes) ≡ true → IsKept workers vms plugins (routes ++ r ∷ [])
kept_more workers vms plugins routes r k few is f = record {
  worker_count = k.worker_count;
  vm_count = k.vm_count;
  plugin_count = k.plugin_count;
  route_count = omega (arith, length-append routes (r ∷ []));
  all_vms = k.all_vms;
  all_plugins = k.all_plugins;
  all_routes = All-push (IsRoute (length plugins)) routes r k.all_routes is;
  vm_names = k.vm_names;
  plugin_names = k.plugin_names;
  routes_fit = fit_last 0 routes r [] k.routes_fit f;
}

kept_vm : (workers : ℕ) (vms : List VmEntry) (plugins : List PluginEntry) (routes : List RouteEntry) (vm : VmEntry) → IsKept workers vms plugins routes → length vms < 16 → IsVm vm → All (λ v. v.name ≢ vm.name) vms → IsKept workers (vms ++ vm ∷ []) plugins routes
kept_vm workers vms plugins routes vm k few is fresh = record {
  worker_count = k.worker_count;
  vm_count = omega (arith, length-append vms (vm ∷ []));
  plugin_count = k.plugin_count;
  route_count = k.route_count;
  all_vms = All-push IsVm vms vm k.all_vms is;
  all_plugins = All-weaker (IsPlugin (length vms)) (IsPlugin (length (vms ++ vm ∷ []))) (λ p h. record { name = h.name; configuration = h.configuration; vm = omega (arith, length-append vms (vm ∷ [])) }) plugins k.all_plugins;
  all_routes = k.all_routes;
  vm_names = all_pairs_push (λ a b. a.name ≢ b.name) vms vm k.vm_names fresh;
  plugin_names = k.plugin_names;
  routes_fit = k.routes_fit;
}

still_there : (plugins : List PluginEntry) (plugin : PluginEntry) (r : RouteEntry) → IsRoute (length plugins) r → IsRoute (length (plugins ++ plugin ∷ [])) r
still_there plugins plugin r h = record {
  count = h.count;
  there = All-weaker (λ n. n < length plugins) (λ n. n < length (plugins ++ plugin ∷ [])) (λ n low. omega (arith, length-append plugins (plugin ∷ []))) r.filters h.there;
  differ = h.differ;
}

kept_plugin : (workers : ℕ) (vms : List VmEntry) (plugins : List PluginEntry) (routes : List RouteEntry) (plugin : PluginEntry) → IsKept workers vms plugins routes → length plugins < 64 → IsPlugin (length vms) plugin → All (λ p. p.name ≢ plugin.name) plugins → IsKept workers vms (plugins ++ plugin ∷ []) routes
kept_plugin workers vms plugins routes plugin k few is fresh = record {
  worker_count = k.worker_count;
  vm_count = k.vm_count;
  plugin_count = omega (arith, length-append plugins (plugin ∷ []));
  route_count = k.route_count;
  all_vms = k.all_vms;
  all_plugins = All-push (IsPlugin (length vms)) plugins plugin k.all_plugins is;
  all_routes = All-weaker (IsRoute (length plugins)) (IsRoute (length (plugins ++ plugin ∷ []))) (still_there plugins plugin) routes k.all_routes;
  vm_names = k.vm_names;
  plugin_names = all_pairs_push (λ a b. a.name ≢ b.name) plugins plugin k.plugin_names fresh;
  routes_fit = k.routes_fit;
}

pub kept_bare : (workers : ℕ) → (1 ≤ workers) × (workers ≤ 8) → IsKept workers [] [] []
kept_bare workers h = record {
  worker_count = h;
  vm_count = omega arith;
  plugin_count = omega arith;
  route_count = omega arith;
  all_vms = λ k d low. absurd (omega arith);
  all_plugins = λ k d low. absurd (omega arith);
  all_routes = λ k d low. absurd (omega arith);
  vm_names = λ i j d less low. absurd (omega arith);
  plugin_names = λ i j d less low. absurd (omega arith);
  routes_fit = refl;
}

-- ---- entries of an array

abbrev pub Kept : Given → Type 0
Kept g = IsKept g.workers g.vms g.plugins g.routes

pub not_refused : (front : List ℕ) (fault : Fault) (judged : Judged) (h : Given) → unless front fault judged ≡ Ok h → (fault ≡ None) × (judged ≡ Ok h)
not_refused front None judged h e = (refl, e)
not_refused front (Some f) judged h e = cc

-- with one more entry
kept_with : (section : TableArray) (ms : Members) (g : Given) → Kept g → length_of section g < most_of section → table_fault (keys_of section) g ms ≡ None → Kept (given_with_entry section ms g)
kept_with Vm ms g k few h = kept_vm g.workers g.vms g.plugins g.routes (vm_of ms) k few (vm_is g ms h) (vm_is_new g ms h)
kept_with Plugin ms g k few h = kept_plugin g.workers g.vms g.plugins g.routes (plugin_of g ms) k few (plugin_is g ms h) (plugin_is_new g ms h)
kept_with Route ms g k few h =
    let f = route_filters g ms h in
    kept_more g.workers g.vms g.plugins g.routes (route_of g ms) k few (record { count = f.few; there = f.there; differ = f.differ }) (route_fits g ms h)

one_more : (section : TableArray) (ms : Members) (g : Given) → length_of section (given_with_entry section ms g) ≡ length_of section g + 1
one_more Vm ms g = omega (arith, length-append g.vms (vm_of ms ∷ []))
one_more Plugin ms g = omega (arith, length-append g.plugins (plugin_of g ms ∷ []))
one_more Route ms g = omega (arith, length-append g.routes (route_of g ms ∷ []))

abbrev accepts : Given → Judged
accepts g = Ok g

pub itself : (g h : Given) → accepts g ≡ accepts h → g ≡ h
itself g h e = cc

kept_entries : (section : TableArray) (place : ℕ) (ds : List Data) (g h : Given) → Kept g → length_of section g + length ds ≤ most_of section → judge_entries section place ds g ≡ Ok h → Kept h
kept_entries section place [] g h k few e = subst Kept (itself g h e) k
kept_entries section place (d ∷ ds) g h k few e =
    let t = not_refused (entry_front section place) (table_fault (keys_of section) g (members_in d)) (judge_entries section (place + 1) ds (given_with_entry section (members_in d) g)) h e in
    kept_entries section (place + 1) ds (given_with_entry section (members_in d) g) h
    (kept_with section (members_in d) g k (omega arith) t.0)
    (omega (arith, one_more section (members_in d) g))
    t.1

pub items_by : (section : TableArray) (a b : Bool) (judged : Judged) (h : Given) → cond a (cond b (Err (7, name_of section)) judged) (Err (4, name_of section)) ≡ Ok h → (a ≡ true) × (b ≡ false) × (judged ≡ Ok h)
items_by section false b judged h e = cc
items_by section true true judged h e = cc
items_by section true false judged h e = (refl, refl, e)

kept_list : (section : TableArray) (o : Option Items) (g h : Given) → Kept g → length_of section g ≡ 0 → judge_list section g o ≡ Ok h → Kept h
kept_list section None g h k none e = cc
kept_list section (Some ds) g h k none e =
    let t = items_by section (list_all (λ d. is_some (as_table d)) (list_of ds)) (nat_lt (most_of section) (length (list_of ds))) (judge_entries section 0 (list_of ds) g) h e in
    let few : length (list_of ds) ≤ most_of section = grind (arith, nat_tests, t.1) in
    kept_entries section 0 (list_of ds) g h k (omega arith) t.2

kept_found : (section : TableArray) (o : Option Data) (g h : Given) → Kept g → length_of section g ≡ 0 → judge_found section g o ≡ Ok h → Kept h
kept_found section None g h k none e = subst Kept (itself g h e) k
kept_found section (Some d) g h k none e = kept_list section (as_array d) g h k none e

pub kept_array : (section : TableArray) (ms : Members) (g h : Given) → Kept g → length_of section g ≡ 0 → judge_array section ms g ≡ Ok h → Kept h
kept_array section ms g h k none e = kept_found section (get_member (name_of section) ms) g h k none e
