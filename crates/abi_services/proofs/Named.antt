-- A VM of a name stands where the name does among the names.
use Rattle.std.proofs.Common.{◌≡◌, ℕ, ◌+◌, Bool, cond, List, [], ◌∷◌, map, None, Some, refl, sym, ap}
use Rattle.std.specs.Prelude.{nat_lt, not, bytes_eq}
use Rattle.std.specs.List.{prefix_len, position, position_or_len}
use Rattle.std.proofs.lemmas.List.{length-map}
use Rattle.contexts.specs.declared.parts.VmContexts.{VmContexts}
use Rattle.abi_services.specs.Queues.{vm_named}

prefix-map : {A B : Type 0} (f : A → B) (p : B → Bool) (xs : List A) → prefix_len p (map f xs) ≡ prefix_len (λ x. p (f x)) xs
prefix-map f p [] = refl
prefix-map f p (x ∷ xs) = ap (λ n. cond (p (f x)) (1 + n) 0) (prefix-map f p xs)

pub vm_is_named : (name : List ℕ) (vms : List VmContexts) → position (λ (v : VmContexts). bytes_eq v.name name) vms ≡ vm_named name (map (λ (v : VmContexts). v.name) vms)
vm_is_named name vms =
    let f : VmContexts → List ℕ = λ v. v.name in
    let p : List ℕ → Bool = λ n. bytes_eq n name in
    let same : position_or_len (λ v. p (f v)) vms ≡ position_or_len p (map f vms) = sym (prefix-map f (λ n. not (p n)) vms) in
    λ i. cond (nat_lt (same i) (sym (length-map vms f) i)) (Some (same i)) None
