-- The place of a name that is there.
use Rattle.std.proofs.Common.{◌≡◌, ◌≢◌, ℕ, zero, suc, ◌<◌, ◌≤◌, List, [], ◌∷◌, Bool, true, false, not, ◌||◌, cond, length, get_or, nat_lt, Option, Some, None, unwrap_or, refl, ap, sym, ◌∙◌, arith, rules, bytes_eq}
use Rattle.std.proofs.lemmas.Bool.Decides.{nat_tests}
use Rattle.std.proofs.lemmas.List.Folds.{Any-from_list_any}
use Rattle.std.proofs.lemmas.List.Sums.{fails_before_first, passes_at_first}
use Rattle.std.proofs.lemmas.Slice.Eq.{bytes_eq-Decides}
use Rattle.std.specs.List.{list_any, position, position_or_len}
use Rattle.gate_config.specs.declared.entries.PluginEntry.{PluginEntry}
use Rattle.gate_config.specs.Given.{Given}
use Rattle.config_names.specs.Names.{has_vm, has_plugin, vm_number, plugin_number}

or_none : (a b : Bool) → (a || b) ≡ false → (a ≡ false) × (b ≡ false)
or_none true b h = cc
or_none false b h = (refl, h)

module _ {X : Type 0} where
  low_by : (p : X → Bool) (xs : List X) (b : Bool) → nat_lt (position_or_len p xs) (length xs) ≡ b → list_any p xs ≡ true → position_or_len p xs < length xs
  low_by p xs true e h = grind (arith, nat_tests)
  low_by p xs false e h =
      let a = Any-from_list_any p xs h in
      let past : length xs ≤ position_or_len p xs = grind (arith, nat_tests) in
      let fails : p (get_or xs a.0 a.1) ≡ false = fails_before_first p xs a.0 a.1 (omega (arith, a.2)) in
      let passes : p a.1 ≡ true = a.4 in
      let same : get_or xs a.0 a.1 ≡ a.1 = a.3 in
      absurd (let bad : true ≡ false = sym passes ∙ ap p (sym same) ∙ fails in cc)

  first_below : (p : X → Bool) (xs : List X) → list_any p xs ≡ true → position_or_len p xs < length xs
  first_below p xs h = low_by p xs (nat_lt (position_or_len p xs) (length xs)) refl h

  pub position_is : (p : X → Bool) (xs : List X) → list_any p xs ≡ true → unwrap_or (position p xs) 0 ≡ position_or_len p xs
  position_is p xs h =
      let low = first_below p xs h in
      let e : nat_lt (position_or_len p xs) (length xs) ≡ true = grind (arith, nat_tests) in
      ap (λ (b : Bool). unwrap_or (cond b (Some (position_or_len p xs)) None) 0) e

  -- it is a place of the list
  pub position_below : (p : X → Bool) (xs : List X) → list_any p xs ≡ true → unwrap_or (position p xs) 0 < length xs
  position_below p xs h = let low = first_below p xs h in omega (arith, position_is p xs h)

  -- the element there passes
  pub position_passes : (p : X → Bool) (xs : List X) (d : X) → list_any p xs ≡ true → p (get_or xs (unwrap_or (position p xs) 0) d) ≡ true
  position_passes p xs d h = ap (λ (n : ℕ). p (get_or xs n d)) (position_is p xs h) ∙ passes_at_first p xs d (first_below p xs h)

  -- no element has the name, so each has another one
  pub apart : (of : X → List ℕ) (name : List ℕ) (xs : List X) → list_any (λ x. bytes_eq (of x) name) xs ≡ false → (k : ℕ) (d : X) → k < length xs → of (get_or xs k d) ≢ name
  apart of name [] h k d low = absurd (omega arith)
  apart of name (x ∷ xs) h zero d low = λ same. let yes : bytes_eq (of x) name ≡ true = (bytes_eq-Decides (of x) name).1 same in let no_one = (or_none (bytes_eq (of x) name) _ h).0 in cc
  apart of name (x ∷ xs) h (suc k) d low = apart of name xs (or_none (bytes_eq (of x) name) _ h).1 k d (omega arith)

pub vm_there : (g : Given) (s : List ℕ) → has_vm g s ≡ true → vm_number g s < length g.vms
unfolding vm_number
vm_there g s h = position_below (λ vm. bytes_eq vm.name s) g.vms h

pub plugin_there : (g : Given) (s : List ℕ) → has_plugin g s ≡ true → plugin_number g s < length g.plugins
unfolding plugin_number
plugin_there g s h = position_below (λ plugin. bytes_eq plugin.name s) g.plugins h

nobody : PluginEntry
nobody = record { name = []; vm = 0; configuration = []; fail_open = false }

named : (g : Given) (s : List ℕ) → has_plugin g s ≡ true → (get_or g.plugins (plugin_number g s) nobody).name ≡ s
unfolding plugin_number
named g s h = (bytes_eq-Decides _ s).0 (position_passes (λ plugin. bytes_eq plugin.name s) g.plugins nobody h)

-- names of one plug-in are one name
pub same_name : (g : Given) (s t : List ℕ) → has_plugin g s ≡ true → has_plugin g t ≡ true → plugin_number g s ≡ plugin_number g t → s ≡ t
same_name g s t p q e = sym (named g s p) ∙ ap (λ (n : ℕ). (get_or g.plugins n nobody).name) e ∙ named g t q
