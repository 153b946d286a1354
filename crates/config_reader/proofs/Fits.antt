-- What a table that is not refused has.
use Rattle.std.proofs.Common.{◌≡◌, ◌≢◌, ℕ, ◌<◌, ◌≤◌, ◌^◌, List, [], ◌∷◌, Bool, true, false, not, ◌&&◌, cond, length, nat_le, Option, Some, None, unwrap_or, refl, ap, sym, ◌∙◌, arith, rules, All}
use Rattle.std.proofs.lemmas.Bool.{and_parts}
use Rattle.std.proofs.lemmas.Bool.Decides.{nat_tests}
use Rattle.std.specs.List.{list_all}
use Rattle.matchit.specs.Route.{parse_route}
use Rattle.toml.specs.Data.{Data, Members, no_members, get_member, as_str, as_integer}
use Rattle.gate_config.specs.Given.{Given}
use Rattle.gate_config.specs.Kept.{IsVm, IsPlugin}
use Rattle.gate_config.specs.Routes.{fits, table_of}
use Rattle.config_reader.specs.Judge.{Fault, natural, name_in, fault_if, name_fault, number_fault, text_fault, path_fault, found_fault, fault_of, first_fault, or_then, or_unknown, table_fault, unknown_key, number_in, number_at, text_in, text_at, filters_at}
use Rattle.config_names.specs.Names.{has_vm, has_plugin, vm_number}
use Rattle.config_reader.specs.Rows.{Row, vm_name, vm_module, configuration, fuel, pages, plugin_name, plugin_vm, fail, path, filters, listen, upstream, workers, deadline_ms, log_level, vm_keys, plugin_keys, route_keys, gateway_keys}
use Rattle.config_reader.specs.Whole.{vm_of, plugin_of, route_of, gateway_of}
use Rattle.config_reader.specs.Words.{is_name, is_name_byte}
use Rattle.config_reader.proofs.Filters.{AreFilters, filters_are}
use Rattle.config_reader.proofs.Places.{apart, vm_there}

none_unknown : (o : Option (List ℕ)) (rest : Fault) → or_unknown o rest ≡ None → rest ≡ None
none_unknown None rest h = h
none_unknown (Some key) rest h = cc

none_then : (key : List ℕ) (r : Option ℕ) (rest : Fault) → or_then key r rest ≡ None → (r ≡ None) × (rest ≡ None)
none_then key None rest h = (refl, h)
none_then key (Some n) rest h = cc

by_test : (why : ℕ) (f : List ℕ → Bool) (s : List ℕ) (b c : Bool) → is_name s ≡ b → f s ≡ c → fault_if why f (cond b (Some s) None) ≡ None → (is_name s ≡ true) × (f s ≡ false)
by_test why f s true true e t h = let bad = rw t at h in cc
by_test why f s true false e t h = (e, t)
by_test why f s false c e t h = cc

-- a name that is not refused is a name and passes the test
accepted : (why : ℕ) (f : List ℕ → Bool) (o : Option (List ℕ)) → name_fault why f o ≡ None → (is_name (unwrap_or o []) ≡ true) × (f (unwrap_or o []) ≡ false)
accepted why f None h = cc
accepted why f (Some s) h = by_test why f s (is_name s) (f s) refl refl h

short : (s : List ℕ) → is_name s ≡ true → length s ≤ 32
short s h =
    let a = and_parts (nat_le 1 (length s) && nat_le (length s) 32) (list_all is_name_byte s) h in
    let b = and_parts (nat_le 1 (length s)) (nat_le (length s) 32) a.0 in
    grind (arith, nat_tests, b.1)

within_by : (least most n : ℕ) (b : Bool) → (nat_le least n && nat_le n most) ≡ b → cond {A = Option ℕ} b None (Some 4) ≡ None → (least ≤ n) × (n ≤ most)
within_by least most n true e h = let (a, b) = and_parts (nat_le least n) (nat_le n most) e in (grind (arith, nat_tests), grind (arith, nat_tests))
within_by least most n false e h = cc

within : (least most : ℕ) (o : Option ℕ) → number_fault least most o ≡ None → (least ≤ unwrap_or o 0) × (unwrap_or o 0 ≤ most)
within least most None h = cc
within least most (Some n) h = within_by least most n (nat_le least n && nat_le n most) refl h

sized : (least most : ℕ) (o : Option (List ℕ)) → text_fault least most o ≡ None → length (unwrap_or o []) ≤ most
sized least most None h = cc
sized least most (Some s) h = (within_by least most (length s) (nat_le least (length s) && nat_le (length s) most) refl h).1

-- ---- one key

vm_fresh : (g : Given) (o : Option Data) → found_fault vm_name g o ≡ None → (is_name (text_in vm_name o) ≡ true) × (has_vm g (text_in vm_name o) ≡ false)
vm_fresh g None h = cc
vm_fresh g (Some d) h = accepted 8 (has_vm g) (as_str d) h

plugin_fresh : (g : Given) (o : Option Data) → found_fault plugin_name g o ≡ None → (is_name (text_in plugin_name o) ≡ true) × (has_plugin g (text_in plugin_name o) ≡ false)
plugin_fresh g None h = cc
plugin_fresh g (Some d) h = accepted 8 (has_plugin g) (as_str d) h

not_false : (b : Bool) → not b ≡ false → b ≡ true
not_false true h = refl
not_false false h = cc

some_vm : (g : Given) (o : Option Data) → found_fault plugin_vm g o ≡ None → has_vm g (text_in plugin_vm o) ≡ true
some_vm g None h = cc
some_vm g (Some d) h = not_false _ (accepted 5 (λ s. not (has_vm g s)) (as_str d) h).1

small : (g : Given) (o : Option Data) → found_fault configuration g o ≡ None → length (text_in configuration o) ≤ 65536
small g None h = omega arith
small g (Some d) h = sized 0 65536 (as_str d) h

fuel_within : (g : Given) (o : Option Data) → found_fault fuel g o ≡ None → (1 ≤ number_in fuel o) × (number_in fuel o ≤ 1000000000000)
fuel_within g None h = (omega arith, omega arith)
fuel_within g (Some d) h = within 1 1000000000000 (natural (as_integer d)) h

pages_within : (g : Given) (o : Option Data) → found_fault pages g o ≡ None → (1 ≤ number_in pages o) × (number_in pages o ≤ 256)
pages_within g None h = (omega arith, omega arith)
pages_within g (Some d) h = within 1 256 (natural (as_integer d)) h

workers_within : (g : Given) (o : Option Data) → found_fault workers g o ≡ None → (1 ≤ number_in workers o) × (number_in workers o ≤ 8)
workers_within g None h = (omega arith, omega arith)
workers_within g (Some d) h = within 1 8 (natural (as_integer d)) h

deadline_within : (g : Given) (o : Option Data) → found_fault deadline_ms g o ≡ None → number_in deadline_ms o ≤ 3600000
deadline_within g None h = omega arith
deadline_within g (Some d) h = (within 0 3600000 (natural (as_integer d)) h).1

taken_by : (b : Bool) → cond {A = Option ℕ} b None (Some 6) ≡ None → b ≡ true
taken_by true h = refl
taken_by false h = cc

path_taken : (g : Given) (o : Option (List ℕ)) → path_fault g o ≡ None → fits (parse_route (unwrap_or o [])) (table_of g.routes) ≡ true
path_taken g None h = cc
path_taken g (Some s) h = taken_by _ h

path_fits : (g : Given) (o : Option Data) → found_fault path g o ≡ None → fits (parse_route (text_in path o)) (table_of g.routes) ≡ true
path_fits g None h = cc
path_fits g (Some d) h = path_taken g (as_str d) h

-- ---- one table

pub vm_is : (g : Given) (ms : Members) → table_fault vm_keys g ms ≡ None → IsVm (vm_of ms)
vm_is g ms h =
    let a = none_unknown (unknown_key vm_keys ms) (first_fault vm_keys g ms) h in
    let b = none_then _ (fault_of vm_name g ms) _ a in
    let c = none_then _ (fault_of vm_module g ms) _ b.1 in
    let d = none_then _ (fault_of configuration g ms) _ c.1 in
    let e = none_then _ (fault_of fuel g ms) _ d.1 in
    let f = none_then _ (fault_of pages g ms) _ e.1 in
    record {
      name = short _ (vm_fresh g (get_member vm_name.name ms) b.0).0;
      configuration = small g (get_member configuration.name ms) d.0;
      fuel = fuel_within g (get_member fuel.name ms) e.0;
      pages = pages_within g (get_member pages.name ms) f.0;
    }

pub vm_is_new : (g : Given) (ms : Members) → table_fault vm_keys g ms ≡ None → All (λ vm. vm.name ≢ (vm_of ms).name) g.vms
vm_is_new g ms h =
    let a = none_unknown (unknown_key vm_keys ms) (first_fault vm_keys g ms) h in
    let b = none_then _ (fault_of vm_name g ms) _ a in
    apart (λ vm. vm.name) (text_at vm_name ms) g.vms (vm_fresh g (get_member vm_name.name ms) b.0).1

pub plugin_is : (g : Given) (ms : Members) → table_fault plugin_keys g ms ≡ None → IsPlugin (length g.vms) (plugin_of g ms)
plugin_is g ms h =
    let a = none_unknown (unknown_key plugin_keys ms) (first_fault plugin_keys g ms) h in
    let b = none_then _ (fault_of plugin_name g ms) _ a in
    let c = none_then _ (fault_of plugin_vm g ms) _ b.1 in
    let d = none_then _ (fault_of configuration g ms) _ c.1 in
    record {
      name = short _ (plugin_fresh g (get_member plugin_name.name ms) b.0).0;
      configuration = small g (get_member configuration.name ms) d.0;
      vm = vm_there g _ (some_vm g (get_member plugin_vm.name ms) c.0);
    }

pub plugin_is_new : (g : Given) (ms : Members) → table_fault plugin_keys g ms ≡ None → All (λ plugin. plugin.name ≢ (plugin_of g ms).name) g.plugins
plugin_is_new g ms h =
    let a = none_unknown (unknown_key plugin_keys ms) (first_fault plugin_keys g ms) h in
    let b = none_then _ (fault_of plugin_name g ms) _ a in
    apart (λ plugin. plugin.name) (text_at plugin_name ms) g.plugins (plugin_fresh g (get_member plugin_name.name ms) b.0).1

pub route_fits : (g : Given) (ms : Members) → table_fault route_keys g ms ≡ None → fits (parse_route (text_at path ms)) (table_of g.routes) ≡ true
route_fits g ms h =
    let a = none_unknown (unknown_key route_keys ms) (first_fault route_keys g ms) h in
    let b = none_then _ (fault_of path g ms) _ a in
    path_fits g (get_member path.name ms) b.0

pub route_filters : (g : Given) (ms : Members) → table_fault route_keys g ms ≡ None → AreFilters g (filters_at filters g ms)
route_filters g ms h =
    let a = none_unknown (unknown_key route_keys ms) (first_fault route_keys g ms) h in
    let b = none_then _ (fault_of path g ms) _ a in
    let c = none_then _ (fault_of filters g ms) _ b.1 in
    filters_are g (get_member filters.name ms) c.0

-- the numbers of a table `gateway` are within their bounds
pub record AreGateway (ms : Members) : Type 0 where
  pub workers : (1 ≤ number_at workers ms) × (number_at workers ms ≤ 8)
  pub deadline : number_at deadline_ms ms ≤ 3600000

pub gateway_is : (routes : Bool) (g : Given) (ms : Members) → table_fault (gateway_keys routes) g ms ≡ None → AreGateway ms
gateway_is routes g ms h =
    let a = none_unknown (unknown_key (gateway_keys routes) ms) (first_fault (gateway_keys routes) g ms) h in
    let b = none_then _ (fault_of listen g ms) _ a in
    let c = none_then _ (fault_of upstream g ms) _ b.1 in
    let d = none_then _ (fault_of workers g ms) _ c.1 in
    let e = none_then _ (fault_of deadline_ms g ms) _ d.1 in
    record { workers = workers_within g (get_member workers.name ms) d.0; deadline = deadline_within g (get_member deadline_ms.name ms) e.0 }

pub no_table_is : AreGateway no_members
no_table_is = record { workers = (omega arith, omega arith); deadline = omega arith }
