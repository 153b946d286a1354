-- The laws of what a call sees and changes.
use Rattle.std.proofs.Common.{◌≡◌, ◌<◌, ℕ, zero, suc, List, [], ◌∷◌, length, map, Option, None, Some, refl, sym, ap, ◌∙◌, length-set, get_or-set_same, get_or-set_other}
use Rattle.std.specs.Prelude.{slice_get, slice_set, slice_index_or}
use Rattle.std.specs.Option.{option_map}
use Rattle.contexts.specs.declared.parts.Own.{Own}
use Rattle.contexts.specs.declared.parts.Tick.{Tick}
use Rattle.contexts.specs.declared.parts.Context.{Context}
use Rattle.contexts.specs.declared.parts.ExchangeView.{ExchangeView}
use Rattle.contexts.specs.declared.parts.ExchangeEntry.{ExchangeEntry}
use Rattle.contexts.specs.declared.parts.VmContexts.{VmContexts}
use Rattle.contexts.specs.declared.parts.Contexts.{Contexts}
use Rattle.contexts.specs.Keyed.{first_of_number}
use Rattle.contexts.specs.Reached.{Reach, Changes, common_of, reach_by, seen_of, no_vm, vm_in, context_no, context_in, exchange_at, view_at, view_in, viewed_by, tick_in, with_own, with_tick, with_view, or_old, changed_by, contexts_after, exchanges_by, exchanges_after, vm_after, put_of, fitted, seen_after}
use Rattle.contexts.specs.Isolation.{PutIsSeen, IsIsolated, AllElseStays, MapsAreShared}
use Rattle.contexts.proofs.Keyed.{found_same, found_other, kept, kept_found}

-- ---- a change that there may be

module _ {A B : Type 0} (number : A → ℕ) (k : ℕ) (f : B → A → A) (keeps : (b : B) (x : A) → number (f b x) ≡ number x) where
  by_other : (j : ℕ) (o : Option B) (xs : List A) → (j ≡ k → ⊥) → first_of_number number j (changed_by number k f o xs) ≡ first_of_number number j xs
  by_other j None xs apart = refl
  by_other j (Some b) xs apart = found_other number k (f b) (keeps b) j xs apart

  by_kept : {C : Type 0} (g : A → C) → ((b : B) (x : A) → g (f b x) ≡ g x) → (o : Option B) (xs : List A) → map g (changed_by number k f o xs) ≡ map g xs
  by_kept g same None xs = refl
  by_kept g same (Some b) xs = kept number k (f b) (keeps b) g (same b) xs

  by_kept_found : {C : Type 0} (g : A → C) → ((b : B) (x : A) → g (f b x) ≡ g x) → (j : ℕ) (o : Option B) (xs : List A) → option_map g (first_of_number number j (changed_by number k f o xs)) ≡ option_map g (first_of_number number j xs)
  by_kept_found g same j None xs = refl
  by_kept_found g same j (Some b) xs = kept_found number k (f b) (keeps b) g (same b) j xs

  fitted_none : {C : Type 0} (o : Option C) → o ≡ fitted o None
  fitted_none None = refl
  fitted_none (Some c) = refl

  fitted_some : (g : A → B) → ((b : B) (x : A) → g (f b x) ≡ b) → (b : B) (o : Option A) → option_map g (option_map (f b) o) ≡ fitted (option_map g o) (Some b)
  fitted_some g gets b None = refl
  fitted_some g gets b (Some x) = λ i. Some (gets b x i)

  -- what the change gives is got
  by_same : (g : A → B) → ((b : B) (x : A) → g (f b x) ≡ b) → (o : Option B) (xs : List A) → option_map g (first_of_number number k (changed_by number k f o xs)) ≡ fitted (option_map g (first_of_number number k xs)) o
  by_same g gets None xs = fitted_none (option_map g (first_of_number number k xs))
  by_same g gets (Some b) xs = ap (option_map g) (found_same number k (f b) (keeps b) xs) ∙ fitted_some g gets b (first_of_number number k xs)

-- ---- the contexts of a VM

module _ (r : Changes) (e : ℕ) (cs : List Context) (c : Context) where
  abbrev firsts : List Context
  firsts = changed_by context_no e with_own r.own cs

  tick_after : tick_in (contexts_after r e (Some c) cs) c.root ≡ fitted (tick_in cs c.root) r.tick
  tick_after =
      by_same context_no c.root with_tick (λ t x. refl) (λ (x : Context). x.tick) (λ t x. refl) r.tick firsts
      ∙ ap (λ o. fitted o r.tick) (by_kept_found context_no e with_own (λ t x. refl) (λ (x : Context). x.tick) (λ t x. refl) c.root r.own cs)

  -- what a change of the own and of the tick keeps
  still : {B : Type 0} (g : Context → B) → ((o : Own) (x : Context) → g (with_own o x) ≡ g x) → ((t : Option Tick) (x : Context) → g (with_tick t x) ≡ g x) →
      option_map g (first_of_number context_no e (contexts_after r e (Some c) cs)) ≡ option_map g (first_of_number context_no e cs)
  still g owns ticks =
      by_kept_found context_no c.root with_tick (λ t x. refl) g ticks e r.tick firsts
      ∙ by_kept_found context_no e with_own (λ t x. refl) g owns e r.own cs

  own_after : option_map (λ (x : Context). x.own) (first_of_number context_no e (contexts_after r e (Some c) cs)) ≡ fitted (option_map (λ (x : Context). x.own) (first_of_number context_no e cs)) r.own
  own_after =
      by_kept_found context_no c.root with_tick (λ t x. refl) (λ (x : Context). x.own) (λ t x. refl) e r.tick firsts
      ∙ by_same context_no e with_own (λ t x. refl) (λ (x : Context). x.own) (λ t x. refl) r.own cs

  ids_after : map context_no (contexts_after r e (Some c) cs) ≡ map context_no cs
  ids_after =
      by_kept context_no c.root with_tick (λ t x. refl) context_no (λ t x. refl) r.tick firsts
      ∙ by_kept context_no e with_own (λ t x. refl) context_no (λ t x. refl) r.own cs

  others_after : (d : ℕ) → (d ≡ e → ⊥) → (d ≡ c.root → ⊥) → first_of_number context_no d (contexts_after r e (Some c) cs) ≡ first_of_number context_no d cs
  others_after d apart rooted =
      by_other context_no c.root with_tick (λ t x. refl) d r.tick firsts rooted
      ∙ by_other context_no e with_own (λ t x. refl) d r.own cs apart

all_ids : (r : Changes) (e : ℕ) (o : Option Context) (cs : List Context) → map context_no (contexts_after r e o cs) ≡ map context_no cs
all_ids r e None cs = refl
all_ids r e (Some c) cs = ids_after r e cs c

set_view : (s : ExchangeView) (xs : List (Option ExchangeEntry)) (n : ℕ) → view_at (slice_set xs n (option_map (with_view s) (exchange_at xs n))) n ≡ fitted (view_at xs n) (Some s)
set_view s [] n = refl
set_view s (None ∷ xs) zero = refl
set_view s (Some x ∷ xs) zero = refl
set_view s (x ∷ xs) (suc n) = set_view s xs n

not_fitted : {A : Type 0} (o : Option A) → o ≡ fitted o None
not_fitted None = refl
not_fitted (Some a) = refl

view_at_after : (n : ℕ) (o : Option ExchangeView) (xs : List (Option ExchangeEntry)) → view_at (viewed_by n o xs) n ≡ fitted (view_at xs n) o
view_at_after n None xs = not_fitted (view_at xs n)
view_at_after n (Some s) xs = set_view s xs n

view_after : (r : Changes) (xs : List (Option ExchangeEntry)) (n : Option ℕ) → view_in (exchanges_by r n xs) n ≡ fitted (view_in xs n) r.exchange
view_after r xs None = refl
view_after r xs (Some n) = view_at_after n r.exchange xs

none_some : {A : Type 0} {a : A} → None ≡ Some a → ⊥
none_some same = cc

from_some : {A : Type 0} {a b : A} → Some a ≡ Some b → a ≡ b
from_some same = cc

-- a list whose members' names stay
set_kept : {A B : Type 0} (g : A → B) (xs : List A) (i : ℕ) (d x : A) → g x ≡ g (slice_index_or xs i d) → map g (slice_set xs i x) ≡ map g xs
set_kept g [] i d x same = refl
set_kept g (y ∷ xs) zero d x same = ap (λ b. b ∷ map g xs) same
set_kept g (y ∷ xs) (suc i) d x same = ap (λ ys. g y ∷ ys) (set_kept g xs i d x same)

module _ (s : Changes) (vm e : ℕ) (h : Contexts) (within : vm < length h.vms) where
  abbrev v : VmContexts
  v = vm_in h vm

  abbrev after : VmContexts
  after = vm_after s e (context_in h vm e) v

  vm_is : vm_in (put_of s vm e h) vm ≡ after
  vm_is = get_or-set_same h.vms vm after no_vm within

  common_after : common_of (put_of s vm e h) after ≡ (seen_after s (seen_of h vm e)).common
  common_after = λ i. record (seen_after s (seen_of h vm e)).common { names = set_kept (λ (w : VmContexts). w.name) h.vms vm no_vm after refl i; ids = all_ids s e (context_in h vm e) v.contexts i }

  abbrev host_with : Option Context → Contexts
  host_with o = record (put_of s vm e h) { exchanges = exchanges_after s o h.exchanges }

  abbrev vm_with : Option Context → VmContexts
  vm_with o = vm_after s e o v

  abbrev fit_reach : Reach → Reach
  fit_reach r = record r { own = fitted r.own s.own; tick = fitted r.tick s.tick; exchange = fitted r.exchange s.exchange }

  -- what is read of a context that is there
  parts_after : (c : Context) → first_of_number context_no e v.contexts ≡ Some c → (o : Option Context) → first_of_number context_no e (contexts_after s e (Some c) v.contexts) ≡ o →
      reach_by (host_with (Some c)) (vm_with (Some c)) o ≡ fit_reach (reach_by h v (Some c))
  parts_after c is None gone =
      let e1 = still s e v.contexts c context_no (λ o x. refl) (λ t x. refl) in
      let e2 : None ≡ Some c.id = sym (ap (option_map context_no) gone) ∙ e1 ∙ ap (option_map context_no) is in
      absurd (none_some e2)
  parts_after c is (Some d) there =
      let root : d.root ≡ c.root = from_some (sym (ap (option_map (λ (x : Context). x.root)) there) ∙ still s e v.contexts c (λ (x : Context). x.root) (λ o x. refl) (λ t x. refl) ∙ ap (option_map (λ (x : Context). x.root)) is) in
      let plugin : d.plugin ≡ c.plugin = from_some (sym (ap (option_map (λ (x : Context). x.plugin)) there) ∙ still s e v.contexts c (λ (x : Context). x.plugin) (λ o x. refl) (λ t x. refl) ∙ ap (option_map (λ (x : Context). x.plugin)) is) in
      let exchange : d.exchange ≡ c.exchange = from_some (sym (ap (option_map (λ (x : Context). x.exchange)) there) ∙ still s e v.contexts c (λ (x : Context). x.exchange) (λ o x. refl) (λ t x. refl) ∙ ap (option_map (λ (x : Context). x.exchange)) is) in
      let own : Some d.own ≡ Some (or_old c.own s.own) = sym (ap (option_map (λ (x : Context). x.own)) there) ∙ own_after s e v.contexts c ∙ ap (λ o. fitted (option_map (λ (x : Context). x.own) o) s.own) is in
      (λ i. record {
        root = Some (root i);
        plugin = slice_get h.plugins (plugin i);
        vm_name = v.name;
        vm_configuration = v.configuration;
        own = own i;
        tick = tick_in (contexts_after s e (Some c) v.contexts) (root i);
        exchange = view_in (exchanges_by s c.exchange h.exchanges) (exchange i);
      })
      ∙ (λ i. record {
        root = Some c.root;
        plugin = slice_get h.plugins c.plugin;
        vm_name = v.name;
        vm_configuration = v.configuration;
        own = Some (or_old c.own s.own);
        tick = tick_after s e v.contexts c i;
        exchange = view_after s h.exchanges c.exchange i;
      })

  reach_after : (o : Option Context) → first_of_number context_no e v.contexts ≡ o →
      reach_by (host_with o) (vm_with o) (first_of_number context_no e (contexts_after s e o v.contexts)) ≡ fit_reach (reach_by h v o)
  reach_after None is = ap (reach_by (host_with None) (vm_with None)) is
  reach_after (Some c) is = parts_after c is (first_of_number context_no e (contexts_after s e (Some c) v.contexts)) refl

  put_seen : seen_of (put_of s vm e h) vm e ≡ seen_after s (seen_of h vm e)
  put_seen =
      (λ i. record { common = common_of (put_of s vm e h) (vm_is i); reach = reach_by (put_of s vm e h) (vm_is i) (first_of_number context_no e (vm_is i).contexts) })
      ∙ (λ i. record { common = common_after i; reach = reach_after (context_in h vm e) refl i })

pub put_is_seen : PutIsSeen
put_is_seen s vm e h within = put_seen s vm e h within

pub is_isolated : IsIsolated
is_isolated call vm e h k within there same =
    put_seen (call (seen_of h vm e)) vm e h within ∙ ap (λ x. seen_after (call x) x) same ∙ sym (put_seen (call (seen_of k vm e)) vm e k there)

contexts_stay : (r : Changes) (e d : ℕ) (o : Option Context) (cs : List Context) → (d ≡ e → ⊥) → ((c : Context) → o ≡ Some c → d ≡ c.root → ⊥) → first_of_number context_no d (contexts_after r e o cs) ≡ first_of_number context_no d cs
contexts_stay r e d None cs apart rooted = refl
contexts_stay r e d (Some c) cs apart rooted = others_after r e cs c d apart (rooted c refl)

viewed_stay : (n m : ℕ) (o : Option ExchangeView) (xs : List (Option ExchangeEntry)) → (n ≡ m → ⊥) → exchange_at (viewed_by m o xs) n ≡ exchange_at xs n
viewed_stay n m None xs apart = refl
viewed_stay n m (Some s) xs apart = get_or-set_other xs m n (option_map (with_view s) (exchange_at xs m)) None apart

exchanges_by_stay : (r : Changes) (n : ℕ) (m : Option ℕ) (xs : List (Option ExchangeEntry)) → (m ≡ Some n → ⊥) → exchange_at (exchanges_by r m xs) n ≡ exchange_at xs n
exchanges_by_stay r n None xs apart = refl
exchanges_by_stay r n (Some m) xs apart = viewed_stay n m r.exchange xs (λ same. apart (λ i. Some (sym same i)))

exchanges_stay : (r : Changes) (n : ℕ) (o : Option Context) (xs : List (Option ExchangeEntry)) → ((c : Context) → o ≡ Some c → c.exchange ≡ Some n → ⊥) → exchange_at (exchanges_after r o xs) n ≡ exchange_at xs n
exchanges_stay r n None xs apart = refl
exchanges_stay r n (Some c) xs apart = exchanges_by_stay r n c.exchange xs (apart c refl)

-- each exchange stays on its line

line_in : (s : ExchangeView) (o : Option ExchangeEntry) → option_map (λ (x : ExchangeEntry). x.line) (option_map (with_view s) o) ≡ option_map (λ (x : ExchangeEntry). x.line) o
line_in s None = refl
line_in s (Some x) = refl

set_line : (s : ExchangeView) (xs : List (Option ExchangeEntry)) (m n : ℕ) → option_map (λ (x : ExchangeEntry). x.line) (exchange_at (slice_set xs m (option_map (with_view s) (exchange_at xs m))) n) ≡ option_map (λ (x : ExchangeEntry). x.line) (exchange_at xs n)
set_line s [] m n = refl
set_line s (x ∷ xs) zero zero = line_in s x
set_line s (x ∷ xs) zero (suc n) = refl
set_line s (x ∷ xs) (suc m) zero = refl
set_line s (x ∷ xs) (suc m) (suc n) = set_line s xs m n

viewed_line : (m : ℕ) (o : Option ExchangeView) (xs : List (Option ExchangeEntry)) (n : ℕ) → option_map (λ (x : ExchangeEntry). x.line) (exchange_at (viewed_by m o xs) n) ≡ option_map (λ (x : ExchangeEntry). x.line) (exchange_at xs n)
viewed_line m None xs n = refl
viewed_line m (Some s) xs n = set_line s xs m n

lines_by : (r : Changes) (m : Option ℕ) (xs : List (Option ExchangeEntry)) (n : ℕ) → option_map (λ (x : ExchangeEntry). x.line) (exchange_at (exchanges_by r m xs) n) ≡ option_map (λ (x : ExchangeEntry). x.line) (exchange_at xs n)
lines_by r None xs n = refl
lines_by r (Some m) xs n = viewed_line m r.exchange xs n

lines_stay : (r : Changes) (o : Option Context) (xs : List (Option ExchangeEntry)) (n : ℕ) → option_map (λ (x : ExchangeEntry). x.line) (exchange_at (exchanges_after r o xs) n) ≡ option_map (λ (x : ExchangeEntry). x.line) (exchange_at xs n)
lines_stay r None xs n = refl
lines_stay r (Some c) xs n = lines_by r c.exchange xs n

-- what other contexts have for themselves

owns_stay : (r : Changes) (e d : ℕ) (o : Option Context) (cs : List Context) → (d ≡ e → ⊥) → option_map (λ (c : Context). c.own) (first_of_number context_no d (contexts_after r e o cs)) ≡ option_map (λ (c : Context). c.own) (first_of_number context_no d cs)
owns_stay r e d None cs apart = refl
owns_stay r e d (Some c) cs apart =
    by_kept_found context_no c.root with_tick (λ t x. refl) (λ (x : Context). x.own) (λ t x. refl) d r.tick (firsts r e cs c)
    ∙ ap (option_map (λ (x : Context). x.own)) (by_other context_no e with_own (λ t x. refl) d r.own cs apart)

pub all_else_stays : AllElseStays
all_else_stays s vm e h within = record {
  vms = λ w apart. get_or-set_other h.vms vm w (vm_after s e (context_in h vm e) (vm_in h vm)) no_vm apart;
  many = length-set h.vms vm (vm_after s e (context_in h vm e) (vm_in h vm));
  name = ap (λ (w : VmContexts). w.name) (vm_is s vm e h within);
  configuration = ap (λ (w : VmContexts). w.configuration) (vm_is s vm e h within);
  last = ap (λ (w : VmContexts). w.last) (vm_is s vm e h within);
  contexts = λ d apart rooted. ap (λ (w : VmContexts). first_of_number context_no d w.contexts) (vm_is s vm e h within) ∙ contexts_stay s e d (context_in h vm e) (vm_in h vm).contexts apart rooted;
  owns = λ d apart. ap (λ (w : VmContexts). option_map (λ (c : Context). c.own) (first_of_number context_no d w.contexts)) (vm_is s vm e h within) ∙ owns_stay s e d (context_in h vm e) (vm_in h vm).contexts apart;
  exchanges = λ n apart. exchanges_stay s n (context_in h vm e) h.exchanges apart;
  lines = λ n. lines_stay s (context_in h vm e) h.exchanges n;
  plugins = refl;
  level = refl;
  random_key = refl;
  calls = refl;
  is_tcp = refl;
}

pub maps_are_shared : MapsAreShared
maps_are_shared h vm e wm d c b is other same =
    ap (λ o. (reach_by h (vm_in h vm) o).exchange) is ∙ ap (view_in h.exchanges) same ∙ sym (ap (λ o. (reach_by h (vm_in h wm) o).exchange) other)
