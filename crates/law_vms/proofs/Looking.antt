-- Contexts that look the same to a VM do so after a host call.
use Rattle.std.proofs.Common.{◌≡◌, ◌≢◌, ℕ, zero, suc, ◌<◌, Bool, true, false, length, map, Option, None, Some, refl, ap, ◌∙◌, subst, sym, nat_eq, List, [], ◌∷◌, ◌++◌, slice_index_or}
use Rattle.std.proofs.lemmas.Bool.{eqb-true, eqb-false}
use Rattle.std.proofs.lemmas.List.{get_or-set_same, get_or-set_other, length-map}
use Rattle.std.proofs.lemmas.Option.{none-some}
use Rattle.std.specs.Option.{option_map}
use Rattle.std.specs.Prelude.{slice_get, slice_set}
use Rattle.contexts.proofs.Places.{from_some}
use Rattle.contexts.specs.Keyed.{first_of_number}
use Rattle.contexts.specs.Reached.{Changes, seen, seen_of, common_of, reach_by, vm_in, no_vm, context_in, context_no, exchange_at, view_at, view_in, with_view, effective_of, level_no, or_old, viewed_by, exchanges_by, exchanges_after, vm_after, put}
use Rattle.contexts.specs.declared.parts.Context.{Context}
use Rattle.contexts.specs.declared.parts.Contexts.{Contexts}
use Rattle.contexts.specs.declared.parts.ExchangeEntry.{ExchangeEntry}
use Rattle.contexts.specs.declared.parts.ExchangeView.{ExchangeView}
use Rattle.contexts.specs.declared.parts.VmContexts.{VmContexts}
use Rattle.law_vms.proofs.OwnChanges.{same_outline, put_own}
use Rattle.law_vms.specs.OwnChanges.{outline, ChangesItsOwn}
use Rattle.law_vms.specs.SeesItsOwn.{LookTheSame}

-- as many VMs
pub same_count : (vm : ℕ) (h k : Contexts) → LookTheSame vm h k → length h.vms ≡ length k.vms
same_count vm h k same = sym (length-map h.vms (λ (w : VmContexts). w.name)) ∙ ap length same.names ∙ length-map k.vms (λ (w : VmContexts). w.name)

-- ---- the view

same_view : (h k : Contexts) (o : Option ℕ) → ((n : ℕ) → o ≡ Some n → view_at h.exchanges n ≡ view_at k.exchanges n) → view_in h.exchanges o ≡ view_in k.exchanges o
same_view h k None same = refl
same_view h k (Some n) same = same n refl

same_reach : (vm e : ℕ) (h k : Contexts) (v : VmContexts) (o : Option Context) → context_in h vm e ≡ o → LookTheSame vm h k → reach_by h v o ≡ reach_by k v o
same_reach vm e h k v None is same = refl
same_reach vm e h k v (Some c) is same = λ i. record (reach_by h v (Some c)) {
  plugin = same.plugins e c is i;
  exchange = same_view h k c.exchange (λ n of. same.views e n c is of) i;
}

same_common : (vm : ℕ) (h k : Contexts) → LookTheSame vm h k → common_of h (vm_in h vm) ≡ common_of k (vm_in k vm)
same_common vm h k same = λ i. record {
  level = level_no (same.level i);
  names = same.names i;
  ids = map context_no (same.own i).contexts;
  waiting = (same.own i).waiting;
  effective = (same.own i).effective;
  effects = same.effects i;
  random_key = same.random_key i;
  random_place = same.random_place i;
  calls = same.calls i;
  is_tcp = same.is_tcp i;
}

pub seen_same_of : (vm e : ℕ) (h k : Contexts) → LookTheSame vm h k → seen_of h vm e ≡ seen_of k vm e
seen_same_of vm e h k same =
    let reach : reach_by h (vm_in h vm) (context_in h vm e) ≡ reach_by k (vm_in k vm) (context_in k vm e) =
    same_reach vm e h k (vm_in h vm) (context_in h vm e) refl same ∙ ap (λ v. reach_by k v (first_of_number context_no e v.contexts)) same.own in
    λ i. record { common = same_common vm h k same i; reach = reach i }

pub seen_same : (vm : ℕ) (h k : Contexts) → LookTheSame vm h k → seen h vm ≡ seen k vm
seen_same vm h k same = seen_same_of vm (effective_of h vm) h k same ∙ ap (λ (v : VmContexts). seen_of k vm v.effective) same.own

-- ---- one host call

names_set : (x : VmContexts) (vms : List VmContexts) (vm : ℕ) → x.name ≡ (slice_index_or vms vm no_vm).name
    → map (λ (w : VmContexts). w.name) (slice_set vms vm x) ≡ map (λ (w : VmContexts). w.name) vms
names_set x [] vm is = refl
names_set x (v ∷ vms) zero is = λ i. is i ∷ map (λ (w : VmContexts). w.name) vms
names_set x (v ∷ vms) (suc n) is = ap (λ ns. v.name ∷ ns) (names_set x vms n is)

pub outline_kept : (o : Option Context) (c : Context) → option_map outline (Some c) ≡ option_map outline o → (b : Context) × (o ≡ Some b) × (outline c ≡ outline b)
outline_kept None c is = absurd (none-some (outline c) (sym is))
outline_kept (Some b) c is = (b, refl, from_some is)

-- a view that is set is there
view_of : (w : ExchangeView) (x : Option ExchangeEntry) → option_map (λ (y : ExchangeEntry). y.view) (option_map (with_view w) x) ≡ option_map (λ (v : ExchangeView). w) (option_map (λ (y : ExchangeEntry). y.view) x)
view_of w None = refl
view_of w (Some x) = refl

set_view : (w : ExchangeView) (xs : List (Option ExchangeEntry)) (m : ℕ) → view_at (slice_set xs m (option_map (with_view w) (exchange_at xs m))) m ≡ option_map (λ (v : ExchangeView). w) (view_at xs m)
set_view w [] m = refl
set_view w (x ∷ xs) zero = view_of w x
set_view w (x ∷ xs) (suc m) = set_view w xs m

set_same : (b : Bool) (w : ExchangeView) (xs ys : List (Option ExchangeEntry)) (m n : ℕ) → nat_eq n m ≡ b → view_at xs n ≡ view_at ys n
    → view_at (slice_set xs m (option_map (with_view w) (exchange_at xs m))) n ≡ view_at (slice_set ys m (option_map (with_view w) (exchange_at ys m))) n
set_same true w xs ys m n is same =
    subst (λ j. view_at (slice_set xs m (option_map (with_view w) (exchange_at xs m))) j ≡ view_at (slice_set ys m (option_map (with_view w) (exchange_at ys m))) j) (sym (eqb-true n m is))
    (set_view w xs m ∙ ap (option_map (λ (v : ExchangeView). w)) (subst (λ j. view_at xs j ≡ view_at ys j) (eqb-true n m is) same) ∙ sym (set_view w ys m))
set_same false w xs ys m n is same =
    let apart : n ≢ m = eqb-false n m is in
    ap (option_map (λ (y : ExchangeEntry). y.view)) (get_or-set_other xs m n (option_map (with_view w) (exchange_at xs m)) None apart)
    ∙ same ∙ sym (ap (option_map (λ (y : ExchangeEntry). y.view)) (get_or-set_other ys m n (option_map (with_view w) (exchange_at ys m)) None apart))

viewed_same : (o : Option ExchangeView) (xs ys : List (Option ExchangeEntry)) (m n : ℕ) → view_at xs n ≡ view_at ys n → view_at (viewed_by m o xs) n ≡ view_at (viewed_by m o ys) n
viewed_same None xs ys m n same = same
viewed_same (Some w) xs ys m n same = set_same (nat_eq n m) w xs ys m n refl same

views_by : (c : Changes) (o : Option ℕ) (xs ys : List (Option ExchangeEntry)) (n : ℕ) → view_at xs n ≡ view_at ys n → view_at (exchanges_by c o xs) n ≡ view_at (exchanges_by c o ys) n
views_by c None xs ys n same = same
views_by c (Some m) xs ys n same = viewed_same c.exchange xs ys m n same

views_after : (c : Changes) (o : Option Context) (xs ys : List (Option ExchangeEntry)) (n : ℕ) → view_at xs n ≡ view_at ys n → view_at (exchanges_after c o xs) n ≡ view_at (exchanges_after c o ys) n
views_after c None xs ys n same = same
views_after c (Some d) xs ys n same = views_by c d.exchange xs ys n same

abbrev effective_in : VmContexts → Option Context
effective_in v = first_of_number context_no v.effective v.contexts

pub put_same : (s : Changes) (vm : ℕ) (h k : Contexts) → vm < length h.vms → vm < length k.vms → LookTheSame vm h k → LookTheSame vm (put s vm h) (put s vm k)
put_same s vm h k here there same =
    let step : ChangesItsOwn vm h (put s vm h) = put_own s vm h here in
    let was = λ (e : ℕ) (c : Context) (is : context_in (put s vm h) vm e ≡ Some c).
    outline_kept (context_in h vm e) c (ap (option_map outline) (sym is) ∙ same_outline h (put s vm h) vm e step.outlined) in
    let after = λ (v : VmContexts). vm_after s v.effective (effective_in v) v in
    record {
      own = get_or-set_same h.vms vm (after (vm_in h vm)) no_vm here ∙ ap after same.own ∙ sym (get_or-set_same k.vms vm (after (vm_in k vm)) no_vm there);
      plugins = λ e c is.
          let b = was e c is in
          subst (λ p. slice_get h.plugins p ≡ slice_get k.plugins p) (sym (ap (λ (y : ℕ × ℕ × ℕ × Option ℕ). y.1) b.2)) (same.plugins e b.0 b.1);
      views = λ e n c is of.
          let b = was e c is in
          views_after s (effective_in (vm_in h vm)) h.exchanges k.exchanges n (same.views e n b.0 b.1 (sym (ap (λ (y : ℕ × ℕ × ℕ × Option ℕ). y.3) b.2) ∙ of))
          ∙ ap (λ v. view_at (exchanges_after s (effective_in v) k.exchanges) n) same.own;
      names = names_set (after (vm_in h vm)) h.vms vm refl ∙ same.names ∙ sym (names_set (after (vm_in k vm)) k.vms vm refl);
      level = same.level;
      effects = ap (λ es. es ++ s.effects) same.effects;
      random_key = same.random_key;
      random_place = ap (λ n. or_old n s.random_place) same.random_place;
      calls = same.calls;
      is_tcp = same.is_tcp;
    }
