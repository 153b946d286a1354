-- What a list of filters that is not refused has.
use Rattle.std.proofs.Common.{◌≡◌, ◌≢◌, ℕ, zero, suc, ◌+◌, ◌<◌, ◌≤◌, List, [], ◌∷◌, Bool, true, false, not, ◌&&◌, ◌||◌, cond, map, length, get_or, nat_lt, Option, Some, None, refl, ap, sym, ◌∙◌, arith, rules, All, bytes_eq}
use Rattle.std.proofs.lemmas.Bool.{and_parts}
use Rattle.std.proofs.lemmas.Bool.Decides.{nat_tests}
use Rattle.std.proofs.lemmas.List.{length-map}
use Rattle.std.proofs.lemmas.List.Kept.{AllPairs-cons}
use Rattle.std.proofs.lemmas.Slice.Eq.{bytes_eq-Decides}
use Rattle.std.specs.List.{AllPairs, list_all, list_any}
use Rattle.toml.specs.Data.{Data, Items, as_array}
use Rattle.gate_config.specs.Given.{Given}
use Rattle.config_reader.specs.Judge.{filters_fault, filters_in, found_fault, is_a_name, is_among, list_of, names_fault, places_in, places_of, repeats, streams_form, text_of}
use Rattle.config_names.specs.Names.{has_plugin, plugin_number}
use Rattle.config_reader.specs.Rows.{filters}
use Rattle.config_reader.proofs.Places.{plugin_there, same_name}

none_of : (a b c d : Bool) → cond {A = Option ℕ} a (cond b (Some 7) (cond c (Some 8) (cond d None (Some 5)))) (Some 4) ≡ None → (b ≡ false) × (c ≡ false) × (d ≡ true)
none_of false b c d h = cc
none_of true true c d h = cc
none_of true false true d h = cc
none_of true false false false h = cc
none_of true false false true h = (refl, refl, refl)

abbrev number_of : Given → Data → ℕ
number_of g d = plugin_number g (text_of d)

abbrev is_there : Given → Data → Bool
is_there g d = has_plugin g (text_of d)

all_there : (g : Given) (ds : List Data) → list_all (is_there g) ds ≡ true → (k e : ℕ) → k < length (map (number_of g) ds) → get_or (map (number_of g) ds) k e < length g.plugins
all_there g [] h k e low = absurd (omega arith)
all_there g (d ∷ ds) h zero e low = plugin_there g (text_of d) (and_parts (is_there g d) (list_all (is_there g) ds) h).0
all_there g (d ∷ ds) h (suc k) e low = all_there g ds (and_parts (is_there g d) (list_all (is_there g) ds) h).1 k e (omega arith)

or_none : (a b : Bool) → (a || b) ≡ false → (a ≡ false) × (b ≡ false)
or_none true b h = cc
or_none false b h = (refl, h)

others : (g : Given) (d : Data) (ds : List Data) → is_there g d ≡ true → list_all (is_there g) ds ≡ true → is_among d ds ≡ false → (k e : ℕ) → k < length (map (number_of g) ds) → number_of g d ≢ get_or (map (number_of g) ds) k e
others g d [] here h once k e low = absurd (omega arith)
others g d (x ∷ ds) here h once zero e low = λ same.
    let there = (and_parts (is_there g x) (list_all (is_there g) ds) h).0 in
    let one : text_of x ≡ text_of d = sym (same_name g (text_of d) (text_of x) here there same) in
    let yes : bytes_eq (text_of x) (text_of d) ≡ true = (bytes_eq-Decides (text_of x) (text_of d)).1 one in
    let no_one = (or_none (bytes_eq (text_of x) (text_of d)) (is_among d ds) once).0 in
    cc
others g d (x ∷ ds) here h once (suc k) e low =
    others g d ds here (and_parts (is_there g x) (list_all (is_there g) ds) h).1 (or_none (bytes_eq (text_of x) (text_of d)) (is_among d ds) once).1 k e (omega arith)

all_differ : (g : Given) (ds : List Data) → list_all (is_there g) ds ≡ true → repeats ds ≡ false → AllPairs (λ a b. a ≢ b) (map (number_of g) ds)
all_differ g [] h once = λ i j e less low. absurd (omega arith)
all_differ g (d ∷ ds) h once =
    let there = and_parts (is_there g d) (list_all (is_there g) ds) h in
    let single = or_none (is_among d ds) (repeats ds) once in
    AllPairs-cons (λ a b. a ≢ b) (number_of g d) (map (number_of g) ds) (others g d ds there.0 there.1 single.0) (all_differ g ds there.1 single.1)

-- a list of filters of a route
pub record AreFilters (g : Given) (places : List ℕ) : Type 0 where
  pub few : length places ≤ 16
  pub there : All (λ place. place < length g.plugins) places
  pub differ : AllPairs (λ a b. a ≢ b) places

names_are : (g : Given) (ds : List Data) → names_fault g ds ≡ None → AreFilters g (map (number_of g) ds)
names_are g ds h =
    let t = none_of (list_all is_a_name ds) (nat_lt 16 (length ds)) (repeats ds) (list_all (is_there g) ds) h in
    let few : length ds ≤ 16 = grind (arith, nat_tests, t.0) in
    record {
      few = omega (arith, few, length-map ds (number_of g));
      there = all_there g ds t.2;
      differ = all_differ g ds t.2 t.1;
    }

no_fault : (a b c d : Bool) → cond {A = Option ℕ} a (cond b (Some 4) (cond c (Some 7) (cond d (Some 8) None))) (Some 4) ≡ None → (a ≡ true) × (c ≡ false) × (d ≡ false)
no_fault false b c d h = cc
no_fault true true c d h = cc
no_fault true false true d h = cc
no_fault true false false true h = cc
no_fault true false false false h = (refl, refl, refl)

-- names of streams that are of the form are names
pub streams_names : (ds : List Data) → streams_form ds ≡ None → list_all is_a_name ds ≡ true
streams_names ds h = (no_fault (list_all is_a_name ds) (nat_lt (length ds) 1) (nat_lt 16 (length ds)) (repeats ds) h).0

not_empty : (g : Given) (ds : List Data) → nat_lt (length ds) 1 ≡ false → places_in g ds ≢ []
not_empty g [] h = cc
not_empty g (d ∷ ds) h = λ e. cc

one_at_least : (a b c d : Bool) → cond {A = Option ℕ} a (cond b (Some 4) (cond c (Some 7) (cond d (Some 8) None))) (Some 4) ≡ None → b ≡ false
one_at_least false b c d h = cc
one_at_least true true c d h = cc
one_at_least true false c d h = refl

-- there is one at least
pub some_streams : (g : Given) (ds : List Data) → streams_form ds ≡ None → places_in g ds ≢ []
some_streams g ds h = not_empty g ds (one_at_least (list_all is_a_name ds) (nat_lt (length ds) 1) (nat_lt 16 (length ds)) (repeats ds) h)

-- where plug-ins have them, they are filters as those of a route
pub streams_filters : (g : Given) (ds : List Data) → streams_form ds ≡ None → list_all (λ d. has_plugin g (text_of d)) ds ≡ true → AreFilters g (places_in g ds)
streams_filters g ds h there =
    let t = no_fault (list_all is_a_name ds) (nat_lt (length ds) 1) (nat_lt 16 (length ds)) (repeats ds) h in
    let few : length ds ≤ 16 = grind (arith, nat_tests, t.1) in
    record {
      few = omega (arith, few, length-map ds (number_of g));
      there = all_there g ds there;
      differ = all_differ g ds there t.2;
    }

pub nobody : (g : Given) → AreFilters g []
nobody g = record { few = omega arith; there = λ k e low. absurd (omega arith); differ = λ i j e less low. absurd (omega arith) }

items_are : (g : Given) (o : Option Items) → filters_fault g o ≡ None → AreFilters g (places_of g o)
items_are g None h = cc
items_are g (Some ds) h = names_are g (list_of ds) h

pub filters_are : (g : Given) (o : Option Data) → found_fault filters g o ≡ None → AreFilters g (filters_in g o)
filters_are g None h = nobody g
filters_are g (Some d) h = items_are g (as_array d) h
