-- A configuration keeps what it keeps with one more route that the router takes.
use Rattle.std.proofs.Common.{◌≡◌, ◌≢◌, ℕ, ◌+◌, ◌<◌, ◌≤◌, List, [], ◌∷◌, ◌++◌, true, false, length, refl, ap, sym, subst, ◌∙◌, arith, length-append, All, Result, Ok, Err, is_err}
use Rattle.std.specs.Result.{OnOk, OnErr}
use Rattle.std.proofs.lemmas.Bool.{and_parts}
use Rattle.std.proofs.lemmas.List.Elements.{All-push, All-weaker}
use Rattle.std.proofs.lemmas.List.Quantifiers.{all_pairs_push}
use Rattle.matchit.specs.Route.{parse_route}
use Rattle.gate_config.specs.declared.entries.VmEntry.{VmEntry}
use Rattle.gate_config.specs.declared.entries.PluginEntry.{PluginEntry}
use Rattle.gate_config.specs.declared.entries.RouteEntry.{RouteEntry}
use Rattle.gate_config.specs.Kept.{IsKept, IsVm, IsPlugin, IsRoute}
use Rattle.gate_config.specs.Routes.{Table, fits, all_fit, with_route, with_routes, table_of}

with_last : (place : ℕ) (routes : List RouteEntry) (r : RouteEntry) (t : Table) → with_routes place (routes ++ r ∷ []) t ≡ with_route r.path (place + length routes) (with_routes place routes t)
with_last place [] r t = let e : place ≡ place + 0 = omega arith in ap (λ (n : ℕ). with_route r.path n t) e
with_last place (x ∷ xs) r t =
    let e : (place + 1) + length xs ≡ place + length (x ∷ xs) = omega arith in
    with_last (place + 1) xs r (with_route x.path place t) ∙ ap (λ (n : ℕ). with_route r.path n (with_routes (place + 1) xs (with_route x.path place t))) e

fit_last : (place : ℕ) (routes : List RouteEntry) (r : RouteEntry) (t : Table) → all_fit place routes t ≡ true → fits (parse_route r.path) (with_routes place routes t) ≡ true → all_fit place (routes ++ r ∷ []) t ≡ true
fit_last place [] r t a f = rw f
fit_last place (x ∷ xs) r t a f =
    let p = and_parts (fits (parse_route x.path) t) (all_fit (place + 1) xs (with_route x.path place t)) a in
    rw (p.0, fit_last (place + 1) xs r (with_route x.path place t) p.1 f)

pub table_more : (routes : List RouteEntry) (r : RouteEntry) → table_of (routes ++ r ∷ []) ≡ with_route r.path (length routes) (table_of routes)
table_more routes r = with_last 0 routes r [] ∙ (let e : 0 + length routes ≡ length routes = omega arith in ap (λ (n : ℕ). with_route r.path n (table_of routes)) e)

pub kept_more : (workers : ℕ) (vms : List VmEntry) (plugins : List PluginEntry) (routes : List RouteEntry) (r : RouteEntry) → IsKept workers vms plugins routes → length routes < 256 → IsRoute (length plugins) r → fits (parse_route r.path) (table_of routes) ≡ true → IsKept workers vms plugins (routes ++ r ∷ [])
kept_more workers vms plugins routes r k few is f = record {
  worker_count = k.worker_count;
  vm_count = k.vm_count;
  plugin_count = k.plugin_count;
  route_count = omega (arith, length-append routes (r ∷ []));
  all_vms = k.all_vms;
  all_plugins = k.all_plugins;
  all_routes = All-push (IsRoute (length plugins)) routes r k.all_routes is;
  vm_names = k.vm_names;
  plugin_names = k.plugin_names;
  routes_fit = fit_last 0 routes r [] k.routes_fit f;
}

pub kept_vm : (workers : ℕ) (vms : List VmEntry) (plugins : List PluginEntry) (routes : List RouteEntry) (vm : VmEntry) → IsKept workers vms plugins routes → length vms < 16 → IsVm vm → All (λ v. v.name ≢ vm.name) vms → IsKept workers (vms ++ vm ∷ []) plugins routes
kept_vm workers vms plugins routes vm k few is fresh = record {
  worker_count = k.worker_count;
  vm_count = omega (arith, length-append vms (vm ∷ []));
  plugin_count = k.plugin_count;
  route_count = k.route_count;
  all_vms = All-push IsVm vms vm k.all_vms is;
  all_plugins = All-weaker (IsPlugin (length vms)) (IsPlugin (length (vms ++ vm ∷ []))) (λ p h. record { name = h.name; configuration = h.configuration; vm = omega (arith, length-append vms (vm ∷ [])) }) plugins k.all_plugins;
  all_routes = k.all_routes;
  vm_names = all_pairs_push (λ a b. a.name ≢ b.name) vms vm k.vm_names fresh;
  plugin_names = k.plugin_names;
  routes_fit = k.routes_fit;
}

still_there : (plugins : List PluginEntry) (plugin : PluginEntry) (r : RouteEntry) → IsRoute (length plugins) r → IsRoute (length (plugins ++ plugin ∷ [])) r
still_there plugins plugin r h = record {
  count = h.count;
  there = All-weaker (λ n. n < length plugins) (λ n. n < length (plugins ++ plugin ∷ [])) (λ n low. omega (arith, length-append plugins (plugin ∷ []))) r.filters h.there;
  differ = h.differ;
}

pub kept_plugin : (workers : ℕ) (vms : List VmEntry) (plugins : List PluginEntry) (routes : List RouteEntry) (plugin : PluginEntry) → IsKept workers vms plugins routes → length plugins < 64 → IsPlugin (length vms) plugin → All (λ p. p.name ≢ plugin.name) plugins → IsKept workers vms (plugins ++ plugin ∷ []) routes
kept_plugin workers vms plugins routes plugin k few is fresh = record {
  worker_count = k.worker_count;
  vm_count = k.vm_count;
  plugin_count = omega (arith, length-append plugins (plugin ∷ []));
  route_count = k.route_count;
  all_vms = k.all_vms;
  all_plugins = All-push (IsPlugin (length vms)) plugins plugin k.all_plugins is;
  all_routes = All-weaker (IsRoute (length plugins)) (IsRoute (length (plugins ++ plugin ∷ []))) (still_there plugins plugin) routes k.all_routes;
  vm_names = k.vm_names;
  plugin_names = all_pairs_push (λ a b. a.name ≢ b.name) plugins plugin k.plugin_names fresh;
  routes_fit = k.routes_fit;
}

pub kept_bare : (workers : ℕ) → (1 ≤ workers) × (workers ≤ 8) → IsKept workers [] [] []
kept_bare workers h = record {
  worker_count = h;
  vm_count = omega arith;
  plugin_count = omega arith;
  route_count = omega arith;
  all_vms = λ k d low. absurd (omega arith);
  all_plugins = λ k d low. absurd (omega arith);
  all_routes = λ k d low. absurd (omega arith);
  vm_names = λ i j d less low. absurd (omega arith);
  plugin_names = λ i j d less low. absurd (omega arith);
  routes_fit = refl;
}

pub on_ok : {A E : Type 0} (r : Result A E) (P : Type 0) → is_err r ≡ false → OnOk r P → P
on_ok (Ok a) P e h = h
on_ok (Err x) P e h = cc

-- a push that may be refused keeps it either way
pub pushed_vm : {A E : Type 0} (r : Result A E) (workers : ℕ) (vms new : List VmEntry) (plugins : List PluginEntry) (routes : List RouteEntry) (vm : VmEntry) → OnOk r (new ≡ vms ++ vm ∷ []) → OnErr r (new ≡ vms) → IsKept workers vms plugins routes → length vms < 16 → IsVm vm → All (λ v. v.name ≢ vm.name) vms → IsKept workers new plugins routes
pushed_vm (Ok a) workers vms new plugins routes vm ok err k few is fresh = subst (λ (l : List VmEntry). IsKept workers l plugins routes) (sym ok) (kept_vm workers vms plugins routes vm k few is fresh)
pushed_vm (Err e) workers vms new plugins routes vm ok err k few is fresh = subst (λ (l : List VmEntry). IsKept workers l plugins routes) (sym err) k

pub pushed_plugin : {A E : Type 0} (r : Result A E) (workers : ℕ) (vms : List VmEntry) (plugins new : List PluginEntry) (routes : List RouteEntry) (plugin : PluginEntry) → OnOk r (new ≡ plugins ++ plugin ∷ []) → OnErr r (new ≡ plugins) → IsKept workers vms plugins routes → length plugins < 64 → IsPlugin (length vms) plugin → All (λ p. p.name ≢ plugin.name) plugins → IsKept workers vms new routes
pushed_plugin (Ok a) workers vms plugins new routes plugin ok err k few is fresh = subst (λ (l : List PluginEntry). IsKept workers vms l routes) (sym ok) (kept_plugin workers vms plugins routes plugin k few is fresh)
pushed_plugin (Err e) workers vms plugins new routes plugin ok err k few is fresh = subst (λ (l : List PluginEntry). IsKept workers vms l routes) (sym err) k
