-- A document says one configuration.
use Rattle.std.proofs.Common.{◌≡◌, ◌≢◌, ℕ, zero, suc, ◌<◌, pos, List, [], ◌∷◌, Bool, true, false, cond, length, get_or, codes, Option, Some, None, refl, ap, sym, subst, ◌∙◌, arith, bytes_eq}
use Rattle.std.specs.List.{AllPairs, slice_get}
use Rattle.toml.specs.Data.{Data, string, integer, array, table, Items, no_items, item, Members, get_member}
use Rattle.gate_base.specs.declared.level.Level.{Level}
use Rattle.gate_base.specs.declared.level.Level.TheVariants.{Trace, Debug, Info, Warn, Error, Critical}
use Rattle.gate_config.specs.declared.entries.VmEntry.{VmEntry}
use Rattle.gate_config.specs.declared.entries.PluginEntry.{PluginEntry}
use Rattle.gate_config.specs.declared.entries.RouteEntry.{RouteEntry}
use Rattle.gate_config.specs.Given.{Given}
use Rattle.config_reader.specs.Words.{level_of}
use Rattle.law_config.specs.Says.{TextOr, NumberOr, level_word, GatewaySays, TableOr, EachSays, Entries, VmSays, PluginSays, EachNamed, FiltersOr, NamesOr, RouteSays, TcpSays}
use Rattle.law_config.specs.Laws.{DocumentsSayOneConfiguration}

-- ---- values

text_same : (o : Option Data) (v w : List ℕ) → o ≡ Some (string v) → o ≡ Some (string w) → v ≡ w
text_same o v w a b = let e : Some (string v) ≡ Some (string w) = sym a ∙ b in cc

text_or_same : (default v w : List ℕ) (o : Option Data) → TextOr default v o → TextOr default w o → v ≡ w
text_or_same default v w None a b = a ∙ sym b
text_or_same default v w (Some d) a b = let e : string v ≡ string w = sym a ∙ b in cc

number_or_same : (default v w : ℕ) (o : Option Data) → NumberOr default v o → NumberOr default w o → v ≡ w
number_or_same default v w None a b = a ∙ sym b
number_or_same default v w (Some d) a b = let e : integer (pos v) ≡ integer (pos w) = sym a ∙ b in cc

level_back : (l : Level) → level_of (level_word l) ≡ Some l
level_back Trace = refl
level_back Debug = refl
level_back Info = refl
level_back Warn = refl
level_back Error = refl
level_back Critical = refl

level_same : (a b : Level) → level_word a ≡ level_word b → a ≡ b
level_same a b e = let o : Some a ≡ Some b = sym (level_back a) ∙ ap level_of e ∙ level_back b in cc

choice_same : (a b : Bool) → cond a (codes "open") (codes "closed") ≡ cond b (codes "open") (codes "closed") → a ≡ b
choice_same true true e = refl
choice_same false false e = refl
choice_same true false e = ap (λ (s : List ℕ). bytes_eq s (codes "open")) e
choice_same false true e = ap (λ (s : List ℕ). bytes_eq s (codes "open")) e

-- ---- places

module _ {X : Type 0} (of : X → List ℕ) where
  got : (xs : List X) (j : ℕ) (w : X) → slice_get xs j ≡ Some w → (j < length xs) × (get_or xs j w ≡ w)
  got [] j w h = cc
  got (x ∷ xs) zero w h = let e : x ≡ w = cc in (omega arith, e)
  got (x ∷ xs) (suc j) w h = let g = got xs j w h in (omega (arith, g.0), g.1)

  -- of a name and that of an element after the first
  apart : (x : X) (xs : List X) → AllPairs (λ a b. of a ≢ of b) (x ∷ xs) → (j : ℕ) (w : X) → slice_get xs j ≡ Some w → of x ≢ of w
  apart x xs pairs j w h =
      let g = got xs j w h in
      let p : of x ≢ of (get_or xs j w) = pairs 0 (suc j) w (omega arith) (omega (arith, g.0)) in
      subst (λ (y : X). of x ≢ of y) g.1 p

  place_same : (xs : List X) → AllPairs (λ a b. of a ≢ of b) xs → (i j : ℕ) (v w : X) → slice_get xs i ≡ Some v → slice_get xs j ≡ Some w → of v ≡ of w → i ≡ j
  place_same [] pairs i j v w a b e = cc
  place_same (x ∷ xs) pairs zero zero v w a b e = refl
  place_same (x ∷ xs) pairs zero (suc j) v w a b e = let one : x ≡ v = cc in absurd (apart x xs pairs j w b (ap of one ∙ e))
  place_same (x ∷ xs) pairs (suc i) zero v w a b e = let one : x ≡ w = cc in absurd (apart x xs pairs i v a (ap of one ∙ sym e))
  place_same (x ∷ xs) pairs (suc i) (suc j) v w a b e =
      ap suc (place_same xs (λ k l d less low. pairs (suc k) (suc l) d (omega (arith, less)) (omega (arith, low))) i j v w a b e)

-- ---- entries

vm_same : (a b : VmEntry) (ms : Members) → VmSays a ms → VmSays b ms → a ≡ b
vm_same a b ms p q =
    (λ i. record {
      name = text_same (get_member (codes "name") ms) a.name b.name p.name q.name i;
      «module» = text_same (get_member (codes "module") ms) a.«module» b.«module» p.path q.path i;
      configuration = text_or_same [] a.configuration b.configuration (get_member (codes "configuration") ms) p.configuration q.configuration i;
      fuel = number_or_same 10000000 a.fuel b.fuel (get_member (codes "fuel") ms) p.fuel q.fuel i;
      pages = number_or_same 128 a.pages b.pages (get_member (codes "pages") ms) p.pages q.pages i;
      code = (p.no_code ∙ sym q.no_code) i;
    })

plugin_same : (vms : List VmEntry) → AllPairs (λ a b. a.name ≢ b.name) vms → (a b : PluginEntry) (ms : Members) → PluginSays vms a ms → PluginSays vms b ms → a ≡ b
plugin_same vms pairs a b ms p q =
    let named : p.vm.0.name ≡ q.vm.0.name = text_same (get_member (codes "vm") ms) p.vm.0.name q.vm.0.name p.vm.2 q.vm.2 in
    let place : a.vm ≡ b.vm = place_same (λ (v : VmEntry). v.name) vms pairs a.vm b.vm p.vm.0 q.vm.0 p.vm.1 q.vm.1 named in
    let fails : a.fail_open ≡ b.fail_open = choice_same a.fail_open b.fail_open (text_or_same (codes "closed") _ _ (get_member (codes "fail") ms) p.fail q.fail) in
    (λ i. record {
      name = text_same (get_member (codes "name") ms) a.name b.name p.name q.name i;
      vm = place i;
      configuration = text_or_same [] a.configuration b.configuration (get_member (codes "configuration") ms) p.configuration q.configuration i;
      fail_open = fails i;
    })

each_named_same : (plugins : List PluginEntry) → AllPairs (λ a b. a.name ≢ b.name) plugins → (ns ks : List ℕ) (ds : Items) → EachNamed plugins ns ds → EachNamed plugins ks ds → ns ≡ ks
each_named_same plugins pairs [] [] no_items p q = refl
each_named_same plugins pairs [] [] (item d ds) p q = absurd p
each_named_same plugins pairs [] (k ∷ ks) no_items p q = absurd q
each_named_same plugins pairs [] (k ∷ ks) (item d ds) p q = absurd p
each_named_same plugins pairs (n ∷ ns) ks no_items p q = absurd p
each_named_same plugins pairs (n ∷ ns) [] (item d ds) p q = absurd q
each_named_same plugins pairs (n ∷ ns) (k ∷ ks) (item d ds) p q =
    let e : string p.0.0.name ≡ string q.0.0.name = sym p.0.2 ∙ q.0.2 in
    let named : p.0.0.name ≡ q.0.0.name = cc in
    let place : n ≡ k = place_same (λ (x : PluginEntry). x.name) plugins pairs n k p.0.0 q.0.0 p.0.1 q.0.1 named in
    let rest : ns ≡ ks = each_named_same plugins pairs ns ks ds p.1 q.1 in
    (λ i. place i ∷ rest i)

filters_same : (plugins : List PluginEntry) → AllPairs (λ a b. a.name ≢ b.name) plugins → (ns ks : List ℕ) (o : Option Data) → FiltersOr plugins ns o → FiltersOr plugins ks o → ns ≡ ks
filters_same plugins pairs ns ks None p q = p ∙ sym q
filters_same plugins pairs ns ks (Some d) p q =
    let e : array p.0 ≡ array q.0 = sym p.1 ∙ q.1 in
    let one : p.0 ≡ q.0 = cc in
    each_named_same plugins pairs ns ks q.0 (subst (λ (ds : Items). EachNamed plugins ns ds) one p.2) q.2

route_same : (plugins : List PluginEntry) → AllPairs (λ a b. a.name ≢ b.name) plugins → (a b : RouteEntry) (ms : Members) → RouteSays plugins a ms → RouteSays plugins b ms → a ≡ b
route_same plugins pairs a b ms p q =
    (λ i. record {
      path = text_same (get_member (codes "path") ms) a.path b.path p.path q.path i;
      filters = filters_same plugins pairs a.filters b.filters (get_member (codes "filters") ms) p.filters q.filters i;
    })

module _ {X : Type 0} (P : X → Members → Type 0) (one : (a b : X) (ms : Members) → P a ms → P b ms → a ≡ b) where
  table_one : (d : Data) (a b : X) → ((ms : Members) × (d ≡ table ms) × P a ms) → ((ms : Members) × (d ≡ table ms) × P b ms) → a ≡ b
  table_one d a b p q =
      let e : table p.0 ≡ table q.0 = sym p.1 ∙ q.1 in
      let same : p.0 ≡ q.0 = cc in
      one a b q.0 (subst (λ (ms : Members). P a ms) same p.2) q.2

  each_same : (xs ys : List X) (ds : Items) → EachSays P xs ds → EachSays P ys ds → xs ≡ ys
  each_same [] [] no_items p q = refl
  each_same [] [] (item d ds) p q = absurd p
  each_same [] (y ∷ ys) no_items p q = absurd q
  each_same [] (y ∷ ys) (item d ds) p q = absurd p
  each_same (x ∷ xs) ys no_items p q = absurd p
  each_same (x ∷ xs) [] (item d ds) p q = absurd q
  each_same (x ∷ xs) (y ∷ ys) (item d ds) p q =
      let first : x ≡ y = table_one d x y p.0 q.0 in
      let rest : xs ≡ ys = each_same xs ys ds p.1 q.1 in
      (λ i. first i ∷ rest i)

  entries_same : (xs ys : List X) (o : Option Data) → Entries P xs o → Entries P ys o → xs ≡ ys
  entries_same xs ys None p q = p ∙ sym q
  entries_same xs ys (Some d) p q =
      let e : array p.0 ≡ array q.0 = sym p.1 ∙ q.1 in
      let same : p.0 ≡ q.0 = cc in
      each_same xs ys q.0 (subst (λ (ds : Items). EachSays P xs ds) same p.2) q.2

-- ---- `gateway`

record SameGateway (g h : Given) : Type 0 where
  workers : g.workers ≡ h.workers
  listen : g.listen ≡ h.listen
  upstream : g.upstream ≡ h.upstream
  deadline_ms : g.deadline_ms ≡ h.deadline_ms
  log_level : g.log_level ≡ h.log_level

gateway_same : (g h : Given) (ms : Members) → GatewaySays g ms → GatewaySays h ms → SameGateway g h
gateway_same g h ms p q = record {
  workers = number_or_same 1 g.workers h.workers (get_member (codes "workers") ms) p.workers q.workers;
  listen = text_or_same (codes "127.0.0.1:8080") g.listen h.listen (get_member (codes "listen") ms) p.listen q.listen;
  upstream = text_or_same (codes "127.0.0.1:9000") g.upstream h.upstream (get_member (codes "upstream") ms) p.upstream q.upstream;
  deadline_ms = number_or_same 0 g.deadline_ms h.deadline_ms (get_member (codes "deadline_ms") ms) p.deadline_ms q.deadline_ms;
  log_level = level_same g.log_level h.log_level (text_or_same (codes "info") (level_word g.log_level) (level_word h.log_level) (get_member (codes "log_level") ms) p.log_level q.log_level);
}

found_same : (g h : Given) (o : Option Data) → TableOr (GatewaySays g) o → TableOr (GatewaySays h) o → SameGateway g h
found_same g h None p q = gateway_same g h _ p q
found_same g h (Some d) p q =
    let e : table p.0 ≡ table q.0 = sym p.1 ∙ q.1 in
    let same : p.0 ≡ q.0 = cc in
    gateway_same g h q.0 (subst (λ (ms : Members). GatewaySays g ms) same p.2) q.2

names_same : (plugins : List PluginEntry) → AllPairs (λ a b. a.name ≢ b.name) plugins → (ns ks : List ℕ) (o : Option Data) → NamesOr plugins ns o → NamesOr plugins ks o → ns ≡ ks
names_same plugins pairs ns ks None p q = p ∙ sym q
names_same plugins pairs ns ks (Some d) p q = filters_same plugins pairs ns ks (Some d) p.0 q.0

tcp_same : (plugins : List PluginEntry) → AllPairs (λ a b. a.name ≢ b.name) plugins → (ns ks : List ℕ) (o : Option Data) → TableOr (TcpSays plugins ns) o → TableOr (TcpSays plugins ks) o → ns ≡ ks
tcp_same plugins pairs ns ks None p q = p ∙ sym q
tcp_same plugins pairs ns ks (Some d) p q =
    let e : table p.0 ≡ table q.0 = sym p.1 ∙ q.1 in
    let same : p.0 ≡ q.0 = cc in
    names_same plugins pairs ns ks (get_member (codes "tcp") q.0) (subst (λ (ms : Members). TcpSays plugins ns ms) same p.2) q.2

-- ---- the whole

pub one_configuration : DocumentsSayOneConfiguration
one_configuration ms g h p q names =
    let gateway = found_same g h (get_member (codes "gateway") ms) p.gateway q.gateway in
    let vms : g.vms ≡ h.vms = entries_same VmSays vm_same g.vms h.vms (get_member (codes "vm") ms) p.vms q.vms in
    let its_plugins : Entries (PluginSays g.vms) h.plugins (get_member (codes "plugin") ms) = subst (λ (l : List VmEntry). Entries (PluginSays l) h.plugins (get_member (codes "plugin") ms)) (sym vms) q.plugins in
    let plugins : g.plugins ≡ h.plugins = entries_same (PluginSays g.vms) (plugin_same g.vms names.vms) g.plugins h.plugins (get_member (codes "plugin") ms) p.plugins its_plugins in
    let its_routes : Entries (RouteSays g.plugins) h.routes (get_member (codes "route") ms) = subst (λ (l : List PluginEntry). Entries (RouteSays l) h.routes (get_member (codes "route") ms)) (sym plugins) q.routes in
    let routes : g.routes ≡ h.routes = entries_same (RouteSays g.plugins) (route_same g.plugins names.plugins) g.routes h.routes (get_member (codes "route") ms) p.routes its_routes in
    let its_tcp : TableOr (TcpSays g.plugins h.tcp) (get_member (codes "gateway") ms) = subst (λ (l : List PluginEntry). TableOr (TcpSays l h.tcp) (get_member (codes "gateway") ms)) (sym plugins) q.tcp in
    let tcp : g.tcp ≡ h.tcp = tcp_same g.plugins names.plugins g.tcp h.tcp (get_member (codes "gateway") ms) p.tcp its_tcp in
    (λ i. record {
      workers = gateway.workers i;
      listen = gateway.listen i;
      upstream = gateway.upstream i;
      deadline_ms = gateway.deadline_ms i;
      log_level = gateway.log_level i;
      vms = vms i;
      plugins = plugins i;
      routes = routes i;
      tcp = tcp i;
    })
