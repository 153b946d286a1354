-- A table that is not refused says the entry that is made of it.
use Rattle.std.proofs.Common.{◌≡◌, inl, inr, ℕ, suc, pos, negsuc, List, [], ◌∷◌, Bool, true, false, not, ◌||◌, cond, map, length, nat_lt, Option, Some, None, is_some, unwrap_or, codes, refl, ap, sym, ◌∙◌, arith, bytes_eq}
use Rattle.std.proofs.lemmas.Bool.{and_parts}
use Rattle.std.proofs.lemmas.Option.{slice_get_cases}
use Rattle.std.proofs.lemmas.Slice.Eq.{bytes_eq-Decides}
use Rattle.std.specs.List.{Contains, list_any, list_all, position, slice_get}
use Rattle.toml.specs.Data.{Data, string, integer, float, boolean, datetime, array, table, Items, no_items, item, Members, no_members, member, get_member, as_str, as_integer, as_array}
use Rattle.gate_base.specs.declared.level.Level.{Level}
use Rattle.gate_base.specs.declared.level.Level.TheVariants.{Trace, Debug, Info, Warn, Error, Critical}
use Rattle.gate_config.specs.declared.entries.VmEntry.{VmEntry}
use Rattle.gate_config.specs.declared.entries.PluginEntry.{PluginEntry}
use Rattle.gate_config.specs.Given.{Given}
use Rattle.config_reader.specs.Judge.{Fault, natural, fault_if, name_fault, number_fault, text_fault, address_fault, level_fault, choice_fault, path_fault, filters_fault, found_fault, fault_of, first_fault, or_then, or_unknown, table_fault, unknown_key, is_key, number_in, text_in, text_of, filters_in, places_of, list_of, is_a_name, repeats}
use Rattle.config_names.specs.Names.{has_vm, has_plugin, vm_number, plugin_number}
use Rattle.config_reader.specs.Rows.{Row, vm_name, vm_module, configuration, fuel, pages, plugin_name, plugin_vm, fail, path, filters, listen, upstream, workers, deadline_ms, log_level, tcp, vm_keys, plugin_keys, route_keys, gateway_keys}
use Rattle.config_reader.specs.Whole.{vm_of, plugin_of, route_of, gateway_of}
use Rattle.config_reader.specs.Words.{is_name, level_of}
use Rattle.config_reader.proofs.Places.{position_below, position_passes}
use Rattle.law_config.specs.Says.{HasOnly, TextOr, NumberOr, level_word, GatewaySays, VmSays, PluginSays, EachNamed, FiltersOr, RouteSays}

-- ---- keys

pub known : (o : Option (List ℕ)) (rest : Fault) → or_unknown o rest ≡ None → (o ≡ None) × (rest ≡ None)
known None rest h = (refl, h)
known (Some key) rest h = cc

taken : (key : List ℕ) (r : Option ℕ) (rest : Fault) → or_then key r rest ≡ None → (r ≡ None) × (rest ≡ None)
taken key None rest h = (refl, h)
taken key (Some n) rest h = cc

abbrev names : List Row → List (List ℕ)
names rows = map (λ r. r.name) rows

further : (x k : List ℕ) (xs : List (List ℕ)) → Contains xs k → Contains (x ∷ xs) k
further x k xs c = (suc c.0, omega (arith, c.1), c.2)

listed_by : (r : Row) (rs : List Row) (k : List ℕ) (b : Bool) → bytes_eq r.name k ≡ b → (b || is_key rs k) ≡ true → (is_key rs k ≡ true → Contains (names rs) k) → Contains (names (r ∷ rs)) k
listed_by r rs k true e h rest = (0, omega arith, (bytes_eq-Decides r.name k).0 e)
listed_by r rs k false e h rest = further r.name k (names rs) (rest h)

listed : (rows : List Row) (k : List ℕ) → is_key rows k ≡ true → Contains (names rows) k
listed [] k h = cc
listed (r ∷ rs) k h = listed_by r rs k (bytes_eq r.name k) refl h (listed rs k)

only_by : (rows : List Row) (k : List ℕ) (d : Data) (ms : Members) (b : Bool) → is_key rows k ≡ b → cond b (unknown_key rows ms) (Some k) ≡ None → (unknown_key rows ms ≡ None → HasOnly (names rows) ms) → HasOnly (names rows) (member k d ms)
only_by rows k d ms true e h rest = (listed rows k e, rest h)
only_by rows k d ms false e h rest = cc

pub only : (rows : List Row) (ms : Members) → unknown_key rows ms ≡ None → HasOnly (names rows) ms
only rows no_members h = tt
only rows (member k d ms) h = only_by rows k d ms (is_key rows k) refl h (only rows ms)

-- ---- values

-- what is refused with 4 where it is no text, and is not refused, is a text
needs : (F : Option (List ℕ) → Option ℕ) (d : Data) → F None ≡ Some 4 → F (as_str d) ≡ None → d ≡ string (text_of d)
needs F (string s) e h = refl
needs F (integer z) e h = cc
needs F (float x) e h = cc
needs F (boolean b) e h = cc
needs F (datetime t) e h = cc
needs F (array ds) e h = cc
needs F (table ms) e h = cc

counted : (least most : ℕ) (d : Data) → number_fault least most (natural (as_integer d)) ≡ None → d ≡ integer (pos (unwrap_or (natural (as_integer d)) 0))
counted least most (integer (pos n)) h = refl
counted least most (integer (negsuc n)) h = cc
counted least most (string s) h = cc
counted least most (float x) h = cc
counted least most (boolean b) h = cc
counted least most (datetime t) h = cc
counted least most (array ds) h = cc
counted least most (table ms) h = cc

by_test : (why : ℕ) (f : List ℕ → Bool) (s : List ℕ) (b c : Bool) → f s ≡ c → fault_if why f (cond b (Some s) None) ≡ None → f s ≡ false
by_test why f s true true t h = let bad = rw t at h in cc
by_test why f s true false t h = t
by_test why f s false c t h = cc

-- a name that is not refused passes the test
passes : (why : ℕ) (f : List ℕ → Bool) (o : Option (List ℕ)) → name_fault why f o ≡ None → f (unwrap_or o []) ≡ false
passes why f None h = cc
passes why f (Some s) h = by_test why f s (is_name s) (f s) refl h

not_false : (b : Bool) → not b ≡ false → b ≡ true
not_false true h = refl
not_false false h = cc

-- ---- keys that must be there

vm_name_is : (g : Given) (o : Option Data) → found_fault vm_name g o ≡ None → o ≡ Some (string (text_in vm_name o))
vm_name_is g None h = cc
vm_name_is g (Some d) h = ap Some (needs (name_fault 8 (has_vm g)) d refl h)

vm_module_is : (g : Given) (o : Option Data) → found_fault vm_module g o ≡ None → o ≡ Some (string (text_in vm_module o))
vm_module_is g None h = cc
vm_module_is g (Some d) h = ap Some (needs (text_fault 1 4096) d refl h)

plugin_name_is : (g : Given) (o : Option Data) → found_fault plugin_name g o ≡ None → o ≡ Some (string (text_in plugin_name o))
plugin_name_is g None h = cc
plugin_name_is g (Some d) h = ap Some (needs (name_fault 8 (has_plugin g)) d refl h)

plugin_vm_is : (g : Given) (o : Option Data) → found_fault plugin_vm g o ≡ None → (o ≡ Some (string (text_in plugin_vm o))) × (has_vm g (text_in plugin_vm o) ≡ true)
plugin_vm_is g None h = cc
plugin_vm_is g (Some d) h = (ap Some (needs (name_fault 5 (λ s. not (has_vm g s))) d refl h), not_false _ (passes 5 (λ s. not (has_vm g s)) (as_str d) h))

path_is : (g : Given) (o : Option Data) → found_fault path g o ≡ None → o ≡ Some (string (text_in path o))
path_is g None h = cc
path_is g (Some d) h = ap Some (needs (path_fault g) d refl h)

-- ---- keys with a default

configuration_is : (g : Given) (o : Option Data) → found_fault configuration g o ≡ None → TextOr [] (text_in configuration o) o
configuration_is g None h = refl
configuration_is g (Some d) h = needs (text_fault 0 65536) d refl h

fuel_is : (g : Given) (o : Option Data) → found_fault fuel g o ≡ None → NumberOr 10000000 (number_in fuel o) o
fuel_is g None h = refl
fuel_is g (Some d) h = counted 1 1000000000000 d h

pages_is : (g : Given) (o : Option Data) → found_fault pages g o ≡ None → NumberOr 128 (number_in pages o) o
pages_is g None h = refl
pages_is g (Some d) h = counted 1 256 d h

listen_is : (g : Given) (o : Option Data) → found_fault listen g o ≡ None → TextOr (codes "127.0.0.1:8080") (text_in listen o) o
listen_is g None h = refl
listen_is g (Some d) h = needs address_fault d refl h

upstream_is : (g : Given) (o : Option Data) → found_fault upstream g o ≡ None → TextOr (codes "127.0.0.1:9000") (text_in upstream o) o
upstream_is g None h = refl
upstream_is g (Some d) h = needs address_fault d refl h

workers_is : (g : Given) (o : Option Data) → found_fault workers g o ≡ None → NumberOr 1 (number_in workers o) o
workers_is g None h = refl
workers_is g (Some d) h = counted 1 8 d h

deadline_is : (g : Given) (o : Option Data) → found_fault deadline_ms g o ≡ None → NumberOr 0 (number_in deadline_ms o) o
deadline_is g None h = refl
deadline_is g (Some d) h = counted 0 3600000 d h

abbrev level_by : Bool → Bool → Bool → Bool → Bool → Bool → Option Level
level_by a b c d e f = cond a (Some Trace) (cond b (Some Debug) (cond c (Some Info) (cond d (Some Warn) (cond e (Some Error) (cond f (Some Critical) None)))))

word_by : (s : List ℕ) (a b c d e f : Bool)
    → bytes_eq s (codes "trace") ≡ a → bytes_eq s (codes "debug") ≡ b → bytes_eq s (codes "info") ≡ c → bytes_eq s (codes "warn") ≡ d → bytes_eq s (codes "error") ≡ e → bytes_eq s (codes "critical") ≡ f
    → is_some (level_by a b c d e f) ≡ true → s ≡ level_word (unwrap_or (level_by a b c d e f) Info)
word_by s true b c d e f ha hb hc hd he hf h = (bytes_eq-Decides s (codes "trace")).0 ha
word_by s false true c d e f ha hb hc hd he hf h = (bytes_eq-Decides s (codes "debug")).0 hb
word_by s false false true d e f ha hb hc hd he hf h = (bytes_eq-Decides s (codes "info")).0 hc
word_by s false false false true e f ha hb hc hd he hf h = (bytes_eq-Decides s (codes "warn")).0 hd
word_by s false false false false true f ha hb hc hd he hf h = (bytes_eq-Decides s (codes "error")).0 he
word_by s false false false false false true ha hb hc hd he hf h = (bytes_eq-Decides s (codes "critical")).0 hf
word_by s false false false false false false ha hb hc hd he hf h = cc

word_back : (s : List ℕ) → is_some (level_of s) ≡ true → s ≡ level_word (unwrap_or (level_of s) Info)
word_back s h = word_by s (bytes_eq s (codes "trace")) (bytes_eq s (codes "debug")) (bytes_eq s (codes "info")) (bytes_eq s (codes "warn")) (bytes_eq s (codes "error")) (bytes_eq s (codes "critical")) refl refl refl refl refl refl h

is_there : (b : Bool) → cond {A = Option ℕ} b None (Some 4) ≡ None → b ≡ true
is_there true h = refl
is_there false h = cc

worded : (d : Data) → level_fault (as_str d) ≡ None → is_some (level_of (text_of d)) ≡ true
worded (string s) h = is_there (is_some (level_of s)) h
worded (integer z) h = cc
worded (float x) h = cc
worded (boolean b) h = cc
worded (datetime t) h = cc
worded (array ds) h = cc
worded (table ms) h = cc

level_is : (g : Given) (o : Option Data) → found_fault log_level g o ≡ None → TextOr (codes "info") (level_word (unwrap_or (level_of (text_in log_level o)) Info)) o
level_is g None h = refl
level_is g (Some d) h = needs level_fault d refl h ∙ ap string (word_back (text_of d) (worded d h))

choice_by : (s : List ℕ) (a b : Bool) → bytes_eq s (codes "closed") ≡ a → bytes_eq s (codes "open") ≡ b → cond {A = Option ℕ} (a || b) None (Some 4) ≡ None → s ≡ cond b (codes "open") (codes "closed")
choice_by s a true ha hb h = (bytes_eq-Decides s (codes "open")).0 hb
choice_by s true false ha hb h = (bytes_eq-Decides s (codes "closed")).0 ha
choice_by s false false ha hb h = cc

chosen : (d : Data) → choice_fault (as_str d) ≡ None → text_of d ≡ cond (bytes_eq (text_of d) (codes "open")) (codes "open") (codes "closed")
chosen (string s) h = choice_by s (bytes_eq s (codes "closed")) (bytes_eq s (codes "open")) refl refl h
chosen (integer z) h = cc
chosen (float x) h = cc
chosen (boolean b) h = cc
chosen (datetime t) h = cc
chosen (array ds) h = cc
chosen (table ms) h = cc

fail_is : (g : Given) (o : Option Data) → found_fault fail g o ≡ None → TextOr (codes "closed") (cond (bytes_eq (text_in fail o) (codes "open")) (codes "open") (codes "closed")) o
fail_is g None h = refl
fail_is g (Some d) h = needs choice_fault d refl h ∙ ap string (chosen d h)

-- ---- the one of a name

module _ {X : Type 0} where
  -- the element at its place, which has the name
  the_one : (of : X → List ℕ) (name : List ℕ) (xs : List X) → list_any (λ x. bytes_eq (of x) name) xs ≡ true → (x : X) × (slice_get xs (unwrap_or (position (λ x. bytes_eq (of x) name) xs) 0) ≡ Some x) × (of x ≡ name)
  the_one of name xs h =
      let low = position_below (λ x. bytes_eq (of x) name) xs h in
      elim ((slice_get_cases xs (unwrap_or (position (λ x. bytes_eq (of x) name) xs) 0)).1) [
        | inl w ↦ (w.0, w.2, (bytes_eq-Decides (of w.0) name).0 (ap (λ (x : X). bytes_eq (of x) name) (sym w.3) ∙ position_passes (λ x. bytes_eq (of x) name) xs w.0 h))
        | inr w ↦ absurd (omega arith)
      ]

the_vm : (g : Given) (s : List ℕ) → has_vm g s ≡ true → (vm : VmEntry) × (slice_get g.vms (vm_number g s) ≡ Some vm) × (vm.name ≡ s)
unfolding vm_number
the_vm g s h = the_one (λ vm. vm.name) s g.vms h

the_plugin : (g : Given) (s : List ℕ) → has_plugin g s ≡ true → (p : PluginEntry) × (slice_get g.plugins (plugin_number g s) ≡ Some p) × (p.name ≡ s)
unfolding plugin_number
the_plugin g s h = the_one (λ p. p.name) s g.plugins h

-- ---- filters

none_of : (a b c d : Bool) → cond {A = Option ℕ} a (cond b (Some 7) (cond c (Some 8) (cond d None (Some 5)))) (Some 4) ≡ None → (a ≡ true) × (d ≡ true)
none_of false b c d h = cc
none_of true true c d h = cc
none_of true false true d h = cc
none_of true false false false h = cc
none_of true false false true h = (refl, refl)

name_is_text : (d : Data) → is_a_name d ≡ true → d ≡ string (text_of d)
name_is_text (string s) h = refl
name_is_text (integer z) h = cc
name_is_text (float x) h = cc
name_is_text (boolean b) h = cc
name_is_text (datetime t) h = cc
name_is_text (array ds) h = cc
name_is_text (table ms) h = cc

pub each_named : (g : Given) (ds : Items) → list_all is_a_name (list_of ds) ≡ true → list_all (λ d. has_plugin g (text_of d)) (list_of ds) ≡ true → EachNamed g.plugins (map (λ d. plugin_number g (text_of d)) (list_of ds)) ds
each_named g no_items a h = tt
each_named g (item d ds) a h =
    let p = and_parts (is_a_name d) (list_all is_a_name (list_of ds)) a in
    let q = and_parts (has_plugin g (text_of d)) (list_all (λ d. has_plugin g (text_of d)) (list_of ds)) h in
    let one = the_plugin g (text_of d) q.0 in
    ((one.0, one.1, name_is_text d p.0 ∙ ap string (sym one.2)), each_named g ds p.1 q.1)

named : (g : Given) (d : Data) (o : Option Items) → as_array d ≡ o → filters_fault g o ≡ None → (ds : Items) × (o ≡ Some ds) × EachNamed g.plugins (places_of g o) ds
named g d None e h = cc
named g d (Some ds) e h =
    let t = none_of (list_all is_a_name (list_of ds)) (nat_lt 16 (length (list_of ds))) (repeats (list_of ds)) (list_all (λ d. has_plugin g (text_of d)) (list_of ds)) h in
    (ds, refl, each_named g ds t.0 t.1)

pub is_array : (d : Data) (ds : Items) → as_array d ≡ Some ds → d ≡ array ds
is_array (array es) ds h = cc
is_array (string s) ds h = cc
is_array (integer z) ds h = cc
is_array (float x) ds h = cc
is_array (boolean b) ds h = cc
is_array (datetime t) ds h = cc
is_array (table ms) ds h = cc

filters_is : (g : Given) (o : Option Data) → found_fault filters g o ≡ None → FiltersOr g.plugins (filters_in g o) o
filters_is g None h = refl
filters_is g (Some d) h = let n = named g d (as_array d) refl h in (n.0, is_array d n.0 n.1, n.2)

-- ---- whole tables

pub vm_says : (g : Given) (ms : Members) → table_fault vm_keys g ms ≡ None → VmSays (vm_of ms) ms
vm_says g ms h =
    let a = known (unknown_key vm_keys ms) (first_fault vm_keys g ms) h in
    let b = taken _ (fault_of vm_name g ms) _ a.1 in
    let c = taken _ (fault_of vm_module g ms) _ b.1 in
    let d = taken _ (fault_of configuration g ms) _ c.1 in
    let e = taken _ (fault_of fuel g ms) _ d.1 in
    let f = taken _ (fault_of pages g ms) _ e.1 in
    record {
      keys = only vm_keys ms a.0;
      name = vm_name_is g (get_member vm_name.name ms) b.0;
      path = vm_module_is g (get_member vm_module.name ms) c.0;
      configuration = configuration_is g (get_member configuration.name ms) d.0;
      fuel = fuel_is g (get_member fuel.name ms) e.0;
      pages = pages_is g (get_member pages.name ms) f.0;
      no_code = refl;
    }

pub plugin_says : (g : Given) (ms : Members) → table_fault plugin_keys g ms ≡ None → PluginSays g.vms (plugin_of g ms) ms
plugin_says g ms h =
    let a = known (unknown_key plugin_keys ms) (first_fault plugin_keys g ms) h in
    let b = taken _ (fault_of plugin_name g ms) _ a.1 in
    let c = taken _ (fault_of plugin_vm g ms) _ b.1 in
    let d = taken _ (fault_of configuration g ms) _ c.1 in
    let e = taken _ (fault_of fail g ms) _ d.1 in
    let v = plugin_vm_is g (get_member plugin_vm.name ms) c.0 in
    let one = the_vm g (text_in plugin_vm (get_member plugin_vm.name ms)) v.1 in
    record {
      keys = only plugin_keys ms a.0;
      name = plugin_name_is g (get_member plugin_name.name ms) b.0;
      vm = (one.0, one.1, v.0 ∙ ap (λ (s : List ℕ). Some (string s)) (sym one.2));
      configuration = configuration_is g (get_member configuration.name ms) d.0;
      fail = fail_is g (get_member fail.name ms) e.0;
    }

pub route_says : (g : Given) (ms : Members) → table_fault route_keys g ms ≡ None → RouteSays g.plugins (route_of g ms) ms
route_says g ms h =
    let a = known (unknown_key route_keys ms) (first_fault route_keys g ms) h in
    let b = taken _ (fault_of path g ms) _ a.1 in
    let c = taken _ (fault_of filters g ms) _ b.1 in
    record {
      keys = only route_keys ms a.0;
      path = path_is g (get_member path.name ms) b.0;
      filters = filters_is g (get_member filters.name ms) c.0;
    }

pub gateway_says : (routes : Bool) (g : Given) (ms : Members) → table_fault (gateway_keys routes) g ms ≡ None → GatewaySays (gateway_of ms) ms
gateway_says routes g ms h =
    let a = known (unknown_key (gateway_keys routes) ms) (first_fault (gateway_keys routes) g ms) h in
    let b = taken _ (fault_of listen g ms) _ a.1 in
    let c = taken _ (fault_of upstream g ms) _ b.1 in
    let d = taken _ (fault_of workers g ms) _ c.1 in
    let e = taken _ (fault_of deadline_ms g ms) _ d.1 in
    let f = taken _ (fault_of log_level g ms) _ e.1 in
    record {
      keys = only (gateway_keys routes) ms a.0;
      listen = listen_is g (get_member listen.name ms) b.0;
      upstream = upstream_is g (get_member upstream.name ms) c.0;
      workers = workers_is g (get_member workers.name ms) d.0;
      deadline_ms = deadline_is g (get_member deadline_ms.name ms) e.0;
      log_level = level_is g (get_member log_level.name ms) f.0;
    }

-- what stands at `tcp` is of its form
pub tcp_form : (routes : Bool) (g : Given) (ms : Members) → table_fault (gateway_keys routes) g ms ≡ None → fault_of (tcp routes) g ms ≡ None
tcp_form routes g ms h =
    let a = known (unknown_key (gateway_keys routes) ms) (first_fault (gateway_keys routes) g ms) h in
    let b = taken _ (fault_of listen g ms) _ a.1 in
    let c = taken _ (fault_of upstream g ms) _ b.1 in
    let d = taken _ (fault_of workers g ms) _ c.1 in
    let e = taken _ (fault_of deadline_ms g ms) _ d.1 in
    let f = taken _ (fault_of log_level g ms) _ e.1 in
    (taken _ (fault_of (tcp routes) g ms) _ f.1).0
