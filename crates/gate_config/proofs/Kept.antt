-- The plain configuration keeps what a configuration keeps.
use Rattle.std.proofs.Common.{◌≡◌, ◌≢◌, ℕ, zero, suc, ◌+◌, ◌<◌, ◌≤◌, List, [], ◌∷◌, ◌++◌, Bool, true, false, length, refl, ap, sym, subst, arith, length-append, All, codes, if◌then◌else◌, nat_lt}
use Rattle.std.specs.List.{AllPairs}
use Rattle.std.proofs.lemmas.List.Elements.{All-push}
use Rattle.std.proofs.lemmas.List.Quantifiers.{all_pairs_push}
use Rattle.matchit.proofs.OnLiterals.{matchit_on_literals}
use Rattle.gate_config.specs.Kept.{IsVm, IsPlugin, IsRoute, IsKept}
use Rattle.gate_config.specs.Plain.{name_of, plain_vm, plain_plugin, first_n, places, plain_route, plain_routes}
use Rattle.gate_config.specs.Routes.{all_fit}

length-first_n : {A : Type 0} (of : ℕ → A) (n : ℕ) → length (first_n of n) ≡ n
length-first_n of zero = refl
length-first_n of (suc n) = grind (arith, length-append (first_n of n) (of n ∷ []), length-first_n of n)

all_first : {A : Type 0} (P : A → Type 0) (of : ℕ → A) (n : ℕ) → ((k : ℕ) → k < n → P (of k)) → All P (first_n of n)
all_first P of zero each = λ k d low. absurd (omega (arith, low))
all_first P of (suc n) each = All-push P (first_n of n) (of n) (all_first P of n (λ k low. each k (omega arith))) (each n (omega arith))

pairs_first : {A : Type 0} (R : A → A → Type 0) (of : ℕ → A) (n : ℕ) → ((i j : ℕ) → i < j → j < n → R (of i) (of j)) → AllPairs R (first_n of n)
pairs_first R of zero each = λ i j d less low. absurd (omega (arith, low))
pairs_first R of (suc n) each =
    all_pairs_push R (first_n of n) (of n) (pairs_first R of n (λ i j less low. each i j less (omega arith)))
    (all_first (λ x. R x (of n)) of n (λ k low. each k n low (omega arith)))

places_first : (n : ℕ) → places n ≡ first_n (λ (k : ℕ). k) n
places_first zero = refl
places_first (suc n) = ap (λ (l : List ℕ). l ++ n ∷ []) (places_first n)

abbrev name_by : Bool → ℕ → List ℕ
name_by b k = 109 ∷ (if b then (49 + k) ∷ [] else 49 ∷ (39 + k) ∷ [])

differ : (a b : Bool) (i j : ℕ) → i < j → name_by a i ≡ name_by b j → ⊥
differ true true i j less same = let e : 49 + i ≡ 49 + j = cc in omega arith
differ true false i j less same = cc
differ false true i j less same = cc
differ false false i j less same = let e : 39 + i ≡ 39 + j = cc in omega arith

names_differ : (i j : ℕ) → i < j → name_of i ≢ name_of j
names_differ i j less = λ same. differ (nat_lt i 9) (nat_lt j 9) i j less same

short_name : (b : Bool) (k : ℕ) → length (name_by b k) ≤ 32
short_name true k = omega arith
short_name false k = omega arith

is_vm : (k : ℕ) → IsVm (plain_vm k)
is_vm k = record { name = short_name (nat_lt k 9) k; configuration = omega arith; fuel = (omega arith, omega arith); pages = (omega arith, omega arith) }

is_plugin : (n k : ℕ) → k < n → IsPlugin n (plain_plugin k)
is_plugin n k low = record { name = short_name (nat_lt k 9) k; configuration = omega arith; vm = low }

is_route : (n : ℕ) (path : List ℕ) → n ≤ 16 → IsRoute n (plain_route path n)
is_route n path few = record {
  count = omega (arith, ap length (places_first n), length-first_n (λ (k : ℕ). k) n);
  there = subst (All (λ filter. filter < n)) (sym (places_first n)) (all_first (λ filter. filter < n) (λ k. k) n (λ k low. low));
  differ = subst (AllPairs (λ a b. a ≢ b)) (sym (places_first n)) (pairs_first (λ a b. a ≢ b) (λ k. k) n (λ i j less low same. absurd (omega arith)));
}

-- the router takes both routes
both_fit : (n : ℕ) → all_fit 0 (plain_routes n) [] ≡ true
unfolding matchit_on_literals
both_fit n = refl

pub plain_kept : (n : ℕ) → n ≤ 16 → IsKept 1 (first_n plain_vm n) (first_n plain_plugin n) (plain_routes n)
plain_kept n few =
    let vms = length-first_n plain_vm n in
    let plugins = length-first_n plain_plugin n in
    let route = λ (path : List ℕ). subst (λ (m : ℕ). IsRoute m (plain_route path n)) (sym plugins) (is_route n path few) in
    let P = IsRoute (length (first_n plain_plugin n)) in
    record {
      worker_count = (omega arith, omega arith);
      vm_count = omega (arith, vms);
      plugin_count = omega (arith, plugins);
      route_count = omega arith;
      all_vms = all_first IsVm plain_vm n (λ k low. is_vm k);
      all_plugins = subst (λ (m : ℕ). All (IsPlugin m) (first_n plain_plugin n)) (sym vms) (all_first (IsPlugin n) plain_plugin n (is_plugin n));
      all_routes = All-push P (plain_route (codes "/") n ∷ []) (plain_route (codes "/{*rest}") n) (All-push P [] (plain_route (codes "/") n) (λ k d low. absurd (omega (arith, low))) (route (codes "/"))) (route (codes "/{*rest}"));
      vm_names = pairs_first (λ a b. a.name ≢ b.name) plain_vm n (λ i j less low. names_differ i j less);
      plugin_names = pairs_first (λ a b. a.name ≢ b.name) plain_plugin n (λ i j less low. names_differ i j less);
      routes_fit = both_fit n;
    }
