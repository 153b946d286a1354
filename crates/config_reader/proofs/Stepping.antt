-- One step along the entries of an array.
use Rattle.std.proofs.Common.{◌≡◌, ℕ, zero, suc, ◌+◌, ◌<◌, List, [], ◌∷◌, ◌++◌, Bool, true, false, ◌&&◌, map, length, length-append, nat_lt, get_or, drop, Result, Option, Some, None, is_some, Ok, Err, subst, unwrap_or, refl, ap, sym, ◌∙◌, arith, rules}
use Rattle.std.proofs.lemmas.Bool.{and_parts}
use Rattle.std.proofs.lemmas.List.{drop_more, length-map}
use Rattle.std.specs.List.{list_all}
use Rattle.toml.specs.Data.{Data, Items, Members, no_members, as_table}
use Rattle.toml.specs.View.{view, items_view}
use Rattle.toml.specs.declared.value.Value.{Value}
use Rattle.gate_config.specs.declared.config.Config.{Config}
use Rattle.gate_config.specs.Given.{Given}
use Rattle.config_reader.specs.declared.read.ConfigEnd.{ConfigEnd}
use Rattle.config_reader.specs.declared.read.ConfigEnd.TheVariants.{Refused, OutOfMemory}
use Rattle.config_reader.specs.declared.section.TableArray.{TableArray}
use Rattle.config_reader.specs.declared.section.TableArray.TheVariants.{Vm, Plugin, Route}
use Rattle.config_reader.specs.Judge.{Fault, table_fault, list_of, names_fault, filters_fault, streams_form, streams_fault, places_in, places_of, text_of}
use Rattle.config_names.specs.Names.{plugin_number}
use Rattle.config_reader.specs.Whole.{Judged, Refuses, unless, judge_entries, entry_front, keys_of, length_of, given_with_entry, members_in, judge_list, judge_items, judge_names, judge_streams, routes_in, Answers, Ends, and_then}

pub all_at : {X : Type 0} (p : X → Bool) (xs : List X) (i : ℕ) (d : X) → list_all p xs ≡ true → i < length xs → p (get_or xs i d) ≡ true
all_at p [] i d h low = absurd (omega arith)
all_at p (x ∷ xs) zero d h low = (and_parts (p x) (list_all p xs) h).0
all_at p (x ∷ xs) (suc i) d h low = all_at p xs i d (and_parts (p x) (list_all p xs) h).1 (omega arith)

-- the members of a value that is a table
pub members_are : (v : Value) (ms : Members) → Some ms ≡ as_table (view v) → members_in (view v) ≡ ms
members_are v ms e = ap (λ (o : Option Members). unwrap_or o no_members) (sym e)

pub entry_step : (section : TableArray) (items : List Value) (i : ℕ) (d : Value) (g : Given) (ms : Members) → i < length items → members_in (view (get_or items i d)) ≡ ms
    → judge_entries section i (map view (drop i items)) g ≡ unless (entry_front section i) (table_fault (keys_of section) g ms) (judge_entries section (i + 1) (map view (drop (i + 1) items)) (given_with_entry section ms g))
entry_step section items i d g ms h e =
    rw (drop_more items i d h)
    (ap (λ (m : Members). unless (entry_front section i) (table_fault (keys_of section) g m) (judge_entries section (i + 1) (map view (drop (i + 1) items)) (given_with_entry section m g))) e)

-- an entry that is not refused is taken
pub entry_taken : (section : TableArray) (items : List Value) (i : ℕ) (d : Value) (g h : Given) (ms : Members) → i < length items → members_in (view (get_or items i d)) ≡ ms → table_fault (keys_of section) g ms ≡ None → h ≡ given_with_entry section ms g
    → judge_entries section i (map view (drop i items)) g ≡ judge_entries section (i + 1) (map view (drop (i + 1) items)) h
entry_taken section items i d g h ms low e none same =
    entry_step section items i d g ms low e
    ∙ ap (λ (f : Fault). unless (entry_front section i) f (judge_entries section (i + 1) (map view (drop (i + 1) items)) (given_with_entry section ms g))) none
    ∙ ap (λ (x : Given). judge_entries section (i + 1) (map view (drop (i + 1) items)) x) (sym same)

pub listed : (vs : List Value) → list_of (items_view vs) ≡ map view vs
listed [] = refl
listed (v ∷ vs) = ap (λ (ds : List Data). view v ∷ ds) (listed vs)

pub ends_as : (j k : Judged) (r : Result (Unit {0}) ConfigEnd) (g : Given) → j ≡ k → Ends k r g → Ends j r g
ends_as j k r g e h = subst (λ (x : Judged). Ends x r g) (sym e) h

pub answers_as : (j k : Judged) (r : Result Config ConfigEnd) → j ≡ k → Answers k r → Answers j r
answers_as j k r e h = subst (λ (x : Judged). Answers x r) (sym e) h

pub list_is : (section : TableArray) (g : Given) (o : Option Items) (vs : List Value) → Some (items_view vs) ≡ o → judge_list section g o ≡ judge_items section g (map view vs)
list_is section g o vs e = sym (ap (judge_list section g) e) ∙ ap (judge_items section g) (listed vs)

pub names_are : (g : Given) (o : Option Items) (vs : List Value) → Some (items_view vs) ≡ o → filters_fault g o ≡ names_fault g (map view vs)
names_are g o vs e = sym (ap (filters_fault g) e) ∙ ap (names_fault g) (listed vs)

map_twice : {X Y Z : Type 0} (f : Y → Z) (h : X → Y) (xs : List X) → map f (map h xs) ≡ map (λ x. f (h x)) xs
map_twice f h [] = refl
map_twice f h (x ∷ xs) = ap (λ l. f (h x) ∷ l) (map_twice f h xs)

-- the places of the names of a list
pub places_are : (g : Given) (o : Option Items) (vs : List Value) → Some (items_view vs) ≡ o → places_of g o ≡ map (λ v. plugin_number g (text_of (view v))) vs
places_are g o vs e =
    sym (ap (places_of g) e) ∙ ap (map (λ (d : Data). plugin_number g (text_of d))) (listed vs) ∙ map_twice (λ (d : Data). plugin_number g (text_of d)) view vs

-- whether an array has entries, by the values themselves
pub entries_are : (o : Option Items) (vs : List Value) → Some (items_view vs) ≡ o → routes_in (Some o) ≡ nat_lt 0 (length vs)
entries_are o vs e =
    sym (ap (λ (x : Option Items). routes_in (Some x)) e)
    ∙ ap (λ (ds : List Data). nat_lt 0 (length ds)) (listed vs)
    ∙ ap (nat_lt 0) (length-map vs view)

pub streams_are : (o : Option Items) (vs : List Value) → Some (items_view vs) ≡ o → streams_fault o ≡ streams_form (map view vs)
streams_are o vs e = sym (ap streams_fault e) ∙ ap streams_form (listed vs)

pub names_judged : (g : Given) (o : Option Items) (vs : List Value) → Some (items_view vs) ≡ o → judge_streams g o ≡ judge_names g (map view vs)
names_judged g o vs e = sym (ap (judge_streams g) e) ∙ ap (judge_names g) (listed vs)

-- the same places, by the values themselves
pub places_seen : (g : Given) (vs : List Value) → places_in g (map view vs) ≡ map (λ v. plugin_number g (text_of (view v))) vs
places_seen g vs = map_twice (λ (d : Data). plugin_number g (text_of d)) view vs

pub no_table : (v : Value) → None ≡ as_table (view v) → is_some (as_table (view v)) ≡ true → ⊥
no_table v e t = let bad = rw (← e) at t in cc

-- a refusal is the end of the code, whatever would come after it
pub refused_ends : (judged : Judged) (number : ℕ) (key : List ℕ) (e : ConfigEnd) (g : Given) → judged ≡ Err (number, key) → Refuses number key e → Ends judged (Err e) g
refused_ends judged number key (Refused n k) g is h = is ∙ ap (λ (n : ℕ). Err (n, key)) (sym h.0) ∙ ap (λ (k : List ℕ). Err (n, k)) (sym h.1)
refused_ends judged number key OutOfMemory g is h = tt

pub refused_answers : (judged : Judged) (number : ℕ) (key : List ℕ) (e : ConfigEnd) → judged ≡ Err (number, key) → Refuses number key e → Answers judged (Err e)
refused_answers judged number key (Refused n k) is h = is ∙ ap (λ (n : ℕ). Err (n, key)) (sym h.0) ∙ ap (λ (k : List ℕ). Err (n, k)) (sym h.1)
refused_answers judged number key OutOfMemory is h = tt

-- what a configuration's end is is an answer too, and goes on
pub ends_answers : (judged : Judged) (r : Result (Unit {0}) ConfigEnd) (e : ConfigEnd) (g : Given) → r ≡ Err e → Ends judged r g → Answers judged (Err e)
ends_answers judged (Err (Refused n k)) (Refused m l) g is h = h ∙ (cc)
ends_answers judged (Err OutOfMemory) OutOfMemory g is h = tt
ends_answers judged (Err (Refused n k)) OutOfMemory g is h = tt
ends_answers judged (Err OutOfMemory) (Refused m l) g is h = cc
ends_answers judged (Ok u) e g is h = cc

-- one more entry is one more of its array
pub length-entered : (section : TableArray) (ms : Members) (g : Given) → length_of section (given_with_entry section ms g) ≡ length_of section g + 1
length-entered Vm ms g = length-append g.vms _
length-entered Plugin ms g = length-append g.plugins _
length-entered Route ms g = length-append g.routes _
