-- What the entries of an array leave as it was: the lists of the arrays after it.
use Rattle.std.proofs.Common.{◌≡◌, ℕ, ◌+◌, List, [], ◌∷◌, Bool, true, false, cond, length, nat_lt, Option, Some, None, is_some, option_map, codes, Ok, Err, refl, ap, sym, ◌∙◌, arith, rules}
use Rattle.std.specs.List.{list_all}
use Rattle.toml.specs.Data.{Data, Items, Members, no_members, get_member, as_array, as_table}
use Rattle.gate_config.specs.Given.{Given}
use Rattle.config_reader.specs.Judge.{Fault, list_of, table_fault}
use Rattle.config_reader.specs.Whole.{Judged, unless, judge_entries, judge_items, judge_list, judge_found, judge_array, entry_front, given_with_entry, keys_of, members_in, most_of, name_of, gateway_of, gateway_in, gateway_at, has_routes, judge_gateway}
use Rattle.config_reader.specs.Rows.{gateway_keys}
use Rattle.config_reader.specs.declared.section.TableArray.{TableArray}
use Rattle.config_reader.specs.declared.section.TableArray.TheVariants.{Vm, Plugin, Route}

-- the lists of the arrays after this one are those of the other
abbrev pub LaterStays : TableArray → Given → Given → Type 0
LaterStays Vm g h = (h.plugins ≡ g.plugins) × (h.routes ≡ g.routes)
LaterStays Plugin g h = h.routes ≡ g.routes
LaterStays Route g h = Unit {0}

same : (section : TableArray) (g : Given) → LaterStays section g g
same Vm g = (refl, refl)
same Plugin g = refl
same Route g = tt

through : (section : TableArray) (ms : Members) (g h : Given) → LaterStays section (given_with_entry section ms g) h → LaterStays section g h
through Vm ms g h e = e
through Plugin ms g h e = e
through Route ms g h e = tt

not_refused : (front : List ℕ) (fault : Fault) (judged : Judged) (h : Given) → unless front fault judged ≡ Ok h → judged ≡ Ok h
not_refused front None judged h e = e
not_refused front (Some f) judged h e = cc

is_itself : (judged : Judged) (g h : Given) → judged ≡ Ok g → judged ≡ Ok h → g ≡ h
is_itself judged g h d e = cc

from_same : (section : TableArray) (g h : Given) → g ≡ h → LaterStays section g h
from_same Vm g h e = (ap (λ (x : Given). x.plugins) (sym e), ap (λ (x : Given). x.routes) (sym e))
from_same Plugin g h e = ap (λ (x : Given). x.routes) (sym e)
from_same Route g h e = tt

entries_stay : (section : TableArray) (place : ℕ) (ds : List Data) (g h : Given) → judge_entries section place ds g ≡ Ok h → LaterStays section g h
entries_stay section place [] g h e = from_same section g h (is_itself (Ok g) g h refl e)
entries_stay section place (d ∷ ds) g h e =
    through section (members_in d) g h
    (entries_stay section (place + 1) ds (given_with_entry section (members_in d) g) h
    (not_refused (entry_front section place) (table_fault (keys_of section) g (members_in d)) (judge_entries section (place + 1) ds (given_with_entry section (members_in d) g)) h e))

items_by : (section : TableArray) (a b : Bool) (judged : Judged) (h : Given) → cond a (cond b (Err (7, name_of section)) judged) (Err (4, name_of section)) ≡ Ok h → judged ≡ Ok h
items_by section false b judged h e = cc
items_by section true true judged h e = cc
items_by section true false judged h e = e

list_stays : (section : TableArray) (o : Option Items) (g h : Given) → judge_list section g o ≡ Ok h → LaterStays section g h
list_stays section None g h e = cc
list_stays section (Some ds) g h e =
    entries_stay section 0 (list_of ds) g h (items_by section (list_all (λ d. is_some (as_table d)) (list_of ds)) (nat_lt (most_of section) (length (list_of ds))) (judge_entries section 0 (list_of ds) g) h e)

found_stays : (section : TableArray) (o : Option Data) (g h : Given) → judge_found section g o ≡ Ok h → LaterStays section g h
found_stays section None g h e = from_same section g h (is_itself (Ok g) g h refl e)
found_stays section (Some d) g h e = list_stays section (as_array d) g h e

pub array_stays : (section : TableArray) (ms : Members) (g h : Given) → judge_array section ms g ≡ Ok h → LaterStays section g h
array_stays section ms g h e = found_stays section (get_member (name_of section) ms) g h e

-- ---- a configuration of `gateway` alone has no entries

pub record IsBare (g : Given) : Type 0 where
  pub vms : g.vms ≡ []
  pub plugins : g.plugins ≡ []
  pub routes : g.routes ≡ []
  pub tcp : g.tcp ≡ []

bare_is : (ms : Members) (g : Given) → gateway_of ms ≡ g → IsBare g
bare_is ms g e = record { vms = ap (λ (x : Given). x.vms) (sym e); plugins = ap (λ (x : Given). x.plugins) (sym e); routes = ap (λ (x : Given). x.routes) (sym e); tcp = ap (λ (x : Given). x.tcp) (sym e) }

gateway_is_bare : (routes : Bool) (ms : Members) (g : Given) → judge_gateway routes ms ≡ Ok g → IsBare g
gateway_is_bare routes ms g e =
    bare_is ms g (is_itself (Ok (gateway_of ms)) (gateway_of ms) g refl (not_refused (codes "gateway.") (table_fault (gateway_keys routes) (gateway_of no_members) ms) (Ok (gateway_of ms)) g e))

in_is_bare : (routes : Bool) (o : Option (Option Members)) (g : Given) → gateway_in routes o ≡ Ok g → IsBare g
in_is_bare routes None g e = gateway_is_bare routes no_members g e
in_is_bare routes (Some None) g e = cc
in_is_bare routes (Some (Some ms)) g e = gateway_is_bare routes ms g e

pub no_entries : (ms : Members) (g : Given) → gateway_at ms ≡ Ok g → IsBare g
no_entries ms g e = in_is_bare (has_routes ms) (option_map as_table (get_member (codes "gateway") ms)) g e
