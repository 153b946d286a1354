-- A text that gives a configuration says it.
use Rattle.std.proofs.Common.{◌≡◌, ℕ, ◌^◌, ◌<◌, ◌≤◌, List, [], ◌∷◌, Bool, true, false, cond, length, nat_lt, codes, Option, Some, None, option_map, Ok, Err, refl, ap, sym, subst, ◌∙◌, arith}
use Rattle.std.proofs.lemmas.Bool.Decides.{nat_tests}
use Rattle.std.specs.Str.{is_utf8}
use Rattle.toml.specs.Data.{Data, string, integer, float, boolean, datetime, array, table, Items, no_items, item, Members, no_members, get_member, as_array, as_table}
use Rattle.toml.specs.Parse.{parse_document}
use Rattle.gate_config.specs.declared.entries.VmEntry.{VmEntry}
use Rattle.gate_config.specs.declared.entries.PluginEntry.{PluginEntry}
use Rattle.gate_config.specs.declared.entries.RouteEntry.{RouteEntry}
use Rattle.gate_config.specs.Given.{Given}
use Rattle.config_reader.specs.Judge.{found_fault, list_of, places_in, streams_fault, table_fault, unknown_key}
use Rattle.config_reader.specs.Rows.{gateway_keys, tcp, top_keys}
use Rattle.config_reader.specs.Whole.{Judged, and_then, config_of, gateway_at, gateway_in, gateway_of, has_routes, judge, judge_array, judge_arrays, judge_gateway, judge_tables, all_plugins, judge_streams, judge_tcp, judge_tcp_found, routes_in, tcp_at, tcp_in, tcp_key, with_tcp}
use Rattle.config_reader.specs.declared.section.TableArray.TheVariants.{Vm, Plugin, Route}
use Rattle.config_reader.proofs.Filters.{nobody, some_streams, streams_filters, streams_names}
use Rattle.config_reader.proofs.Fits.{gateway_is}
use Rattle.config_reader.proofs.Later.{no_entries}
use Rattle.law_config.specs.Laws.{AreStreams, IsWritten}
use Rattle.law_config.specs.Says.{EachSays, GatewaySays, NamesOr, TableOr, VmSays, PluginSays, RouteSays, TcpSays, Entries, Says}
use Rattle.law_config.proofs.Entries.{vm_array, plugin_array, route_array}
use Rattle.law_config.proofs.Kept.{Kept, itself, kept_array, kept_bare, not_refused}
use Rattle.law_config.proofs.Tables.{each_named, gateway_says, is_array, only, tcp_form}

-- ---- `gateway`

abbrev Bare : Given → Type 0
Bare g = (1 ≤ g.workers) × (g.workers ≤ 8)

of_table : (routes : Bool) (ms : Members) (g : Given) → judge_gateway routes ms ≡ Ok g → GatewaySays g ms × Bare g
of_table routes ms g e =
    let t = not_refused (codes "gateway.") (table_fault (gateway_keys routes) (gateway_of no_members) ms) (Ok (gateway_of ms)) g e in
    let same = itself (gateway_of ms) g t.1 in (
      subst (λ (x : Given). GatewaySays x ms) same (gateway_says routes (gateway_of no_members) ms t.0),
      subst Bare same (gateway_is routes (gateway_of no_members) ms t.0).workers,
    )

of_data : (routes : Bool) (d : Data) (g : Given) → gateway_in routes (Some (as_table d)) ≡ Ok g → TableOr (GatewaySays g) (Some d) × Bare g
of_data routes (table ms) g e = let t = of_table routes ms g e in ((ms, refl, t.0), t.1)
of_data routes (string s) g e = cc
of_data routes (integer z) g e = cc
of_data routes (float x) g e = cc
of_data routes (boolean b) g e = cc
of_data routes (datetime t) g e = cc
of_data routes (array ds) g e = cc

of_found : (routes : Bool) (o : Option Data) (g : Given) → gateway_in routes (option_map as_table o) ≡ Ok g → TableOr (GatewaySays g) o × Bare g
of_found routes None g e = of_table routes no_members g e
of_found routes (Some d) g e = of_data routes d g e

-- what `gateway` says stays so with the entries
also_with : (a : Given) (vms : List VmEntry) (plugins : List PluginEntry) (routes : List RouteEntry) (tcp : List ℕ) (ms : Members) → GatewaySays a ms → GatewaySays (record a { vms = vms; plugins = plugins; routes = routes; tcp = tcp }) ms
also_with a vms plugins routes tcp ms s = record { keys = s.keys; listen = s.listen; upstream = s.upstream; workers = s.workers; deadline_ms = s.deadline_ms; log_level = s.log_level }

also_found : (a : Given) (vms : List VmEntry) (plugins : List PluginEntry) (routes : List RouteEntry) (tcp : List ℕ) (o : Option Data)
    → TableOr (GatewaySays a) o → TableOr (GatewaySays (record a { vms = vms; plugins = plugins; routes = routes; tcp = tcp })) o
also_found a vms plugins routes tcp None s = also_with a vms plugins routes tcp no_members s
also_found a vms plugins routes tcp (Some d) s = (s.0, s.1, also_with a vms plugins routes tcp s.0 s.2)

-- ---- the tables

parts : (judged : Judged) (next : Given → Judged) (h : Given) → and_then judged next ≡ Ok h → (g : Given) × (judged ≡ Ok g) × (next g ≡ Ok h)
parts (Ok g) next h e = (g, refl, e)
parts (Err f) next h e = cc

-- what the tables say, whatever the plug-ins of streams are
record TablesSay (g : Given) (ms : Members) : Type 0 where
  gateway : TableOr (GatewaySays g) (get_member (codes "gateway") ms)
  vms : Entries VmSays g.vms (get_member (codes "vm") ms)
  plugins : Entries (PluginSays g.vms) g.plugins (get_member (codes "plugin") ms)
  routes : Entries (RouteSays g.plugins) g.routes (get_member (codes "route") ms)

-- also with other plug-ins of streams
other_streams : (g : Given) (tcp : List ℕ) (ms : Members) → TablesSay g ms → TablesSay (with_tcp tcp g) ms
other_streams g tcp ms t = record {
  gateway = also_found g g.vms g.plugins g.routes tcp (get_member (codes "gateway") ms) t.gateway;
  vms = t.vms;
  plugins = t.plugins;
  routes = t.routes;
}

in_tables : (ms : Members) (h : Given) → and_then (gateway_at ms) (judge_arrays ms) ≡ Ok h → TablesSay h ms × Kept h × (h.tcp ≡ [])
in_tables ms h e =
    let (a, ea, ra) = parts (gateway_at ms) (judge_arrays ms) h e in
    let (b, eb, rb) = parts (judge_array Vm ms a) (λ x. and_then (judge_array Plugin ms x) (judge_array Route ms)) h ra in
    let (c, ec, eh) = parts (judge_array Plugin ms b) (judge_array Route ms) h rb in
    let bare = no_entries ms a ea in
    let gateway = of_found (has_routes ms) (get_member (codes "gateway") ms) a ea in
    let vms = vm_array ms a b bare.vms eb in
    let none_plugins : b.plugins ≡ [] = ap (λ (x : Given). x.plugins) vms.0 ∙ bare.plugins in
    let none_routes : b.routes ≡ [] = ap (λ (x : Given). x.routes) vms.0 ∙ bare.routes in
    let plugins = plugin_array ms b c none_plugins ec in
    let no_routes : c.routes ≡ [] = ap (λ (x : Given). x.routes) plugins.0 ∙ none_routes in
    let routes = route_array ms c h no_routes eh in
    let same_plugins : h.plugins ≡ c.plugins = ap (λ (x : Given). x.plugins) routes.0 in
    let c_vms : c.vms ≡ b.vms = ap (λ (x : Given). x.vms) plugins.0 in
    let same_vms : h.vms ≡ b.vms = ap (λ (x : Given). x.vms) routes.0 ∙ c_vms in
    let same : h ≡ record a { vms = b.vms; plugins = c.plugins; routes = h.routes; tcp = a.tcp } =
    routes.0
    ∙ ap (λ (x : Given). record x { routes = h.routes }) plugins.0
    ∙ ap (λ (x : Given). record x { plugins = c.plugins; routes = h.routes }) vms.0 in
    let k_bare : Kept (record a { vms = []; plugins = []; routes = [] }) = kept_bare a.workers gateway.1 in
    let is_bare : a ≡ record a { vms = []; plugins = []; routes = [] } =
    ap (λ (l : List VmEntry). record a { vms = l }) bare.vms
    ∙ ap (λ (l : List PluginEntry). record a { vms = []; plugins = l }) bare.plugins
    ∙ ap (λ (l : List RouteEntry). record a { vms = []; plugins = []; routes = l }) bare.routes in
    let k_a : Kept a = subst Kept (sym is_bare) k_bare in
    let k_b : Kept b = kept_array Vm ms a b k_a (ap length bare.vms) eb in
    let k_c : Kept c = kept_array Plugin ms b c k_b (ap length none_plugins) ec in
    let k_h : Kept h = kept_array Route ms c h k_c (ap length no_routes) eh in (
      record {
        gateway = subst (λ (x : Given). TableOr (GatewaySays x) (get_member (codes "gateway") ms)) (sym same) (also_found a b.vms c.plugins h.routes a.tcp (get_member (codes "gateway") ms) gateway.0);
        vms = subst (λ (l : List VmEntry). Entries VmSays l (get_member (codes "vm") ms)) (sym same_vms) vms.1;
        plugins = subst (λ (l : List PluginEntry). Entries (PluginSays h.vms) l (get_member (codes "plugin") ms)) (sym same_plugins) (subst (λ (l : List VmEntry). Entries (PluginSays l) c.plugins (get_member (codes "plugin") ms)) (sym same_vms) plugins.1);
        routes = subst (λ (l : List PluginEntry). Entries (RouteSays l) h.routes (get_member (codes "route") ms)) (sym same_plugins) routes.1;
      },
      k_h,
      ap (λ (x : Given). x.tcp) same ∙ bare.tcp,
    )

-- ---- the plug-ins of streams

-- what stands at `tcp` of a table `gateway` that was not refused is of its form
form_in : (routes : Bool) (o : Option (Option Members)) (a : Given) → gateway_in routes o ≡ Ok a → found_fault (tcp routes) (gateway_of no_members) (tcp_in o) ≡ None
form_in routes None a e = refl
form_in routes (Some None) a e = cc
form_in routes (Some (Some gs)) a e = tcp_form routes (gateway_of no_members) gs (not_refused (codes "gateway.") (table_fault (gateway_keys routes) (gateway_of no_members) gs) (Ok (gateway_of gs)) a e).0

-- what is said of them beside the plug-ins and routes of a configuration, by what stands at `tcp`
record StreamsSay (m h : Given) (o : Option Data) : Type 0 where
  same : with_tcp h.tcp m ≡ h
  named : NamesOr m.plugins h.tcp o
  are : AreStreams m.plugins m.routes h.tcp

-- an array without entries gives none
no_entry : {X : Type 0} (P : X → Members → Type 0) (xs : List X) (ds : Items) → EachSays P xs ds → nat_lt 0 (length (list_of ds)) ≡ false → xs ≡ []
no_entry P [] ds says h = refl
no_entry P (x ∷ xs) no_items says h = absurd says
no_entry P (x ∷ xs) (item d ds) says h = absurd (let few : length (list_of (item d ds)) ≤ 0 = grind (arith, nat_tests, h) in omega (arith, few))

lonely : (g : Given) (o : Option Data) → Entries (RouteSays g.plugins) g.routes o → routes_in (option_map as_array o) ≡ false → g.routes ≡ []
lonely g None says h = says
lonely g (Some d) says h = no_entry (RouteSays g.plugins) g.routes says.0 says.2 (subst (λ (x : Data). routes_in (Some (as_array x)) ≡ false) says.1 h)

two : (b : Bool) (x : List ℕ) (g h : Given) → cond {A = Judged} b (Ok (with_tcp x g)) (Err (5, tcp_key)) ≡ Ok h → (b ≡ true) × (with_tcp x g ≡ h)
two false x g h e = cc
two true x g h e = (refl, itself (with_tcp x g) h e)

none_are : (g : Given) → AreStreams g.plugins g.routes []
none_are g = let t = nobody g in record { count = t.few; there = t.there; differ = t.differ; alone = λ some. absurd (some refl) }

named_streams : (m h : Given) (d : Data) (o : Option Items) → m.routes ≡ [] → as_array d ≡ o → streams_fault o ≡ None → judge_streams m o ≡ Ok h → StreamsSay m h (Some d)
named_streams m h d None alone is form e = cc
named_streams m h d (Some ds) alone is form e =
    let t = two (all_plugins m (list_of ds)) (places_in m (list_of ds)) m h e in
    let are = streams_filters m (list_of ds) form t.0 in
    let its : places_in m (list_of ds) ≡ h.tcp = ap (λ (x : Given). x.tcp) t.1 in
    record {
      same = ap (λ (x : List ℕ). with_tcp x m) (sym its) ∙ t.1;
      named = subst (λ (x : List ℕ). NamesOr m.plugins x (Some d)) its ((ds, is_array d ds is, each_named m ds (streams_names (list_of ds) form) t.0), some_streams m (list_of ds) form);
      are = subst (λ (x : List ℕ). AreStreams m.plugins m.routes x) its (record { count = are.few; there = are.there; differ = are.differ; alone = λ some. alone });
    }

in_streams : (routes : Bool) (m h : Given) (o : Option Data) → (routes ≡ false → m.routes ≡ []) → m.tcp ≡ [] → found_fault (tcp routes) (gateway_of no_members) o ≡ None → judge_tcp_found m o ≡ Ok h → StreamsSay m h o
in_streams routes m h None alone none form e =
    let one : m ≡ h = itself m h e in
    let its : h.tcp ≡ [] = ap (λ (x : Given). x.tcp) (sym one) ∙ none in
    record {
      same = ap (λ (x : List ℕ). with_tcp x m) (its ∙ sym none) ∙ one;
      named = its;
      are = subst (λ (x : List ℕ). AreStreams m.plugins m.routes x) (sym its) (none_are m);
    }
in_streams true m h (Some d) alone none form e = cc
in_streams false m h (Some d) alone none form e = named_streams m h d (as_array d) (alone refl) refl form e

-- the same, said of the table `gateway`
of_gateway : (g m h : Given) (o : Option Data) → TableOr (GatewaySays g) o → NamesOr m.plugins h.tcp (tcp_in (option_map as_table o)) → TableOr (TcpSays m.plugins h.tcp) o
of_gateway g m h None t s = s
of_gateway g m h (Some d) t s = (t.0, t.1, subst (λ (x : Data). NamesOr m.plugins h.tcp (tcp_in (Some (as_table x)))) t.1 s)

abbrev SaysAndKeeps : Given → Members → Type 0
SaysAndKeeps g ms = Says g ms × Kept g × AreStreams g.plugins g.routes g.tcp

in_whole : (ms : Members) (h : Given) → unknown_key top_keys ms ≡ None → and_then (and_then (gateway_at ms) (judge_arrays ms)) (judge_tcp ms) ≡ Ok h → SaysAndKeeps h ms
in_whole ms h listed e =
    let (m, em, eh) = parts (and_then (gateway_at ms) (judge_arrays ms)) (judge_tcp ms) h e in
    let (a, ea, ra) = parts (gateway_at ms) (judge_arrays ms) m em in
    let tables = in_tables ms m em in
    let form = form_in (has_routes ms) (option_map as_table (get_member (codes "gateway") ms)) a ea in
    let streams = in_streams (has_routes ms) m h (tcp_at ms) (lonely m (get_member (codes "route") ms) tables.0.routes) tables.2 form eh in
    let t = other_streams m h.tcp ms tables.0 in
    let whole : SaysAndKeeps (with_tcp h.tcp m) ms = (
      record {
        keys = only top_keys ms listed;
        gateway = t.gateway;
        vms = t.vms;
        plugins = t.plugins;
        routes = t.routes;
        tcp = of_gateway m m h (get_member (codes "gateway") ms) tables.0.gateway streams.named;
      },
      tables.1,
      streams.are,
    ) in
    subst (λ (x : Given). SaysAndKeeps x ms) streams.same whole

by_unknown : (o : Option (List ℕ)) (ms : Members) (h : Given) → unknown_key top_keys ms ≡ o → judge_tables o ms ≡ Ok h → SaysAndKeeps h ms
by_unknown None ms h listed e = in_whole ms h listed e
by_unknown (Some key) ms h listed e = cc

in_document : (o : Option Members) (h : Given) → judge o ≡ Ok h → (ms : Members) × (o ≡ Some ms) × SaysAndKeeps h ms
in_document None h e = cc
in_document (Some ms) h e = (ms, refl, by_unknown (unknown_key top_keys ms) ms h refl e)

-- ---- the text

by_tests : (a b : Bool) (judged : Judged) (h : Given) → cond a (Err (7, codes "-")) (cond b judged (Err (1, codes "-"))) ≡ Ok h → (a ≡ false) × (b ≡ true) × (judged ≡ Ok h)
by_tests true b judged h e = cc
by_tests false false judged h e = cc
by_tests false true judged h e = (refl, refl, e)

pub is_written : (text : List ℕ) (g : Given) → config_of text ≡ Ok g → IsWritten text g
is_written text g e =
    let t = by_tests (nat_lt (2 ^ 20) (length text)) (is_utf8 text) (judge (parse_document text)) g e in
    let d = in_document (parse_document text) g t.2 in
    let short : length text ≤ 1048576 = grind (arith, nat_tests, t.0) in
    record { short = short; utf8 = t.1; document = d.0; toml = d.1; says = d.2.0; kept = d.2.1; streams = d.2.2 }

-- ---- what is refused first

pub too_long : (text : List ℕ) → 1048576 < length text → config_of text ≡ Err (7, codes "-")
too_long text h = let e : nat_lt (2 ^ 20) (length text) ≡ true = grind (arith, nat_tests) in rw e

pub no_utf8 : (text : List ℕ) → length text ≤ 1048576 → is_utf8 text ≡ false → config_of text ≡ Err (1, codes "-")
no_utf8 text h u = let e : nat_lt (2 ^ 20) (length text) ≡ false = grind (arith, nat_tests) in rw (e, u)

pub no_toml : (text : List ℕ) → length text ≤ 1048576 → is_utf8 text ≡ true → parse_document text ≡ None → config_of text ≡ Err (1, codes "-")
no_toml text h u p = let e : nat_lt (2 ^ 20) (length text) ≡ false = grind (arith, nat_tests) in rw (e, u, p)
