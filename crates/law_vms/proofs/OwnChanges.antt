-- A callback changes what its own VM has.
use Rattle.std.proofs.Common.{◌≡◌, ℕ, ◌<◌, ◌==◌, Bool, true, false, cond, length, map, Option, None, Some, refl, ap, ◌∙◌, subst, sym, nat_lt, nat_le, ◌&&◌, if◌then◌else◌, List, [], ◌∷◌, nat_eq}
use Rattle.std.proofs.lemmas.Bool.{ltb-true, eqb-true, eqb-false, false≢true}
use Rattle.std.proofs.lemmas.List.{get_or-set_same, length-set}
use Rattle.std.proofs.lemmas.Option.{none-some}
use Rattle.std.specs.List.{find}
use Rattle.std.specs.Option.{option_map}
use Rattle.abi_calls.specs.Hosting.{hosting, wasi_hosting}
use Rattle.contexts.proofs.Isolation.{all_else_stays}
use Rattle.contexts.proofs.Keyed.{kept}
use Rattle.contexts.proofs.Places.{from_some}
use Rattle.contexts.specs.Isolation.{Stays}
use Rattle.contexts.specs.Keyed.{first_of_number}
use Rattle.contexts.specs.Reached.{Changes, seen, no_changes, vm_in, no_vm, context_in, context_no, exchange_at, effective_of, with_own, with_tick, with_view, changed_by, contexts_after, viewed_by, exchanges_by, exchanges_after, vm_after, put}
use Rattle.contexts.specs.declared.parts.Context.{Context}
use Rattle.contexts.specs.declared.parts.Contexts.{Contexts}
use Rattle.contexts.specs.declared.parts.ExchangeEntry.{ExchangeEntry}
use Rattle.contexts.specs.declared.parts.ExchangeView.{ExchangeView}
use Rattle.contexts.specs.declared.parts.VmContexts.{VmContexts}
use Rattle.filter_host.specs.Called.{Called, called_back}
use Rattle.filter_host.specs.declared.host.CallbackEnd.TheVariants as call_end
use Rattle.filter_host.specs.declared.host.Callback.{Callback}
use Rattle.store_model.specs.Program.{Program, done, ask, measure, bind}
use Rattle.vm_host.specs.declared.dispatch.Dispatcher.{Dispatcher}
use Rattle.vm_host.specs.declared.slots.Slot.{Slot}
use Rattle.vm_host.specs.declared.slots.Vms.{Vms}
use Rattle.vm_host.specs.HostStates.{HostState}
use Rattle.vm_host.specs.Slots.{Came, silent, calling_live, calling_slot, is_at_home, slot_in, with_live, calling}
use Rattle.vm_host.specs.Vms.{VmAt}
use Rattle.law_vms.proofs.Apart.{with_other, with_own as own_live}
use Rattle.law_vms.proofs.Ends.{AllAlong, AnyCall, AnyMeasure, along_ends, all_then, all_weaker}
use Rattle.law_vms.proofs.Whole.{HasCalls, CameKeeps, live_keeps}
use Rattle.law_vms.specs.Apart.{AllEnds}
use Rattle.law_vms.specs.OwnChanges.{IsPlaced, ArePlaced, PlacesBegin, PlacesStay, outline, outlines, HasNoneAt, ChangesItsOwn, CallbacksChangeTheirOwn}

-- ---- outlines

abbrev Outline : Type 0
Outline = ℕ × ℕ × ℕ × Option ℕ

outlined_at : (b : Bool) (e : ℕ) (c : Context) (cs : List Context) → option_map outline (first_of_number context_no e cs) ≡ find (λ (y : Outline). y.0 == e) (map outline cs)
    → option_map outline (cond b (Some c) (first_of_number context_no e cs)) ≡ cond b (Some (outline c)) (find (λ (y : Outline). y.0 == e) (map outline cs))
outlined_at true e c cs ih = refl
outlined_at false e c cs ih = ih

found_outlined : (e : ℕ) (cs : List Context) → option_map outline (first_of_number context_no e cs) ≡ find (λ (y : Outline). y.0 == e) (map outline cs)
found_outlined e [] = refl
found_outlined e (c ∷ cs) = outlined_at (c.id == e) e c cs (found_outlined e cs)

-- contexts of equal outlines
pub same_outline : (h k : Contexts) (vm e : ℕ) → outlines k vm ≡ outlines h vm → option_map outline (context_in k vm e) ≡ option_map outline (context_in h vm e)
same_outline h k vm e same =
    found_outlined e (vm_in k vm).contexts ∙ ap (find (λ (y : Outline). y.0 == e)) same ∙ sym (found_outlined e (vm_in h vm).contexts)

pub exchange_kept : (o : Option Context) (c : Context) → option_map outline (Some c) ≡ option_map outline o → (b : Context) × (o ≡ Some b) × (c.exchange ≡ b.exchange)
exchange_kept None c is = absurd (none-some (outline c) (sym is))
exchange_kept (Some b) c is = (b, refl, ap (λ (y : Outline). y.3) (from_some is))

pub none_kept : (h k : Contexts) (vm n : ℕ) → outlines k vm ≡ outlines h vm → HasNoneAt h vm n → HasNoneAt k vm n
none_kept h k vm n same none e c is of =
    let there = exchange_kept (context_in h vm e) c (ap (option_map outline) (sym is) ∙ same_outline h k vm e same) in
    none e there.0 there.1 (sym there.2 ∙ of)

-- ---- nothing changed, and one change after another

pub own_same : (vm : ℕ) (h : Contexts) → ChangesItsOwn vm h h
own_same vm h = record {
  others = λ other is. refl;
  exchanges = λ n none. refl;
  name = refl;
  configuration = refl;
  last = refl;
  outlined = refl;
  count = refl;
  places = refl;
  lines = λ n. refl;
  plugins = refl;
  level = refl;
  random_key = refl;
  calls = refl;
  is_tcp = refl;
}

pub own_then : (vm : ℕ) (h k l : Contexts) → ChangesItsOwn vm h k → ChangesItsOwn vm k l → ChangesItsOwn vm h l
own_then vm h k l a b = record {
  others = λ other is. b.others other is ∙ a.others other is;
  exchanges = λ n none. b.exchanges n (none_kept h k vm n a.outlined none) ∙ a.exchanges n none;
  name = b.name ∙ a.name;
  configuration = b.configuration ∙ a.configuration;
  last = b.last ∙ a.last;
  outlined = b.outlined ∙ a.outlined;
  count = b.count ∙ a.count;
  places = b.places ∙ a.places;
  lines = λ n. b.lines n ∙ a.lines n;
  plugins = b.plugins ∙ a.plugins;
  level = b.level ∙ a.level;
  random_key = b.random_key ∙ a.random_key;
  calls = b.calls ∙ a.calls;
  is_tcp = b.is_tcp ∙ a.is_tcp;
}

-- ---- one host call

outlines_by : {B : Type 0} (k : ℕ) (f : B → Context → Context) → ((b : B) (c : Context) → outline (f b c) ≡ outline c) → (o : Option B) (cs : List Context)
    → map outline (changed_by context_no k f o cs) ≡ map outline cs
outlines_by k f same None cs = refl
outlines_by k f same (Some b) cs = kept context_no k (f b) (λ c. ap (λ (y : Outline). y.0) (same b c)) outline (same b) cs

outlines_after : (s : Changes) (e : ℕ) (o : Option Context) (cs : List Context) → map outline (contexts_after s e o cs) ≡ map outline cs
outlines_after s e None cs = refl
outlines_after s e (Some c) cs =
    outlines_by c.root with_tick (λ t x. refl) s.tick (changed_by context_no e with_own s.own cs) ∙ outlines_by e with_own (λ t x. refl) s.own cs

viewed_places : (n : ℕ) (o : Option ExchangeView) (xs : List (Option ExchangeEntry)) → length (viewed_by n o xs) ≡ length xs
viewed_places n None xs = refl
viewed_places n (Some s) xs = length-set xs n (option_map (with_view s) (exchange_at xs n))

places_by : (s : Changes) (m : Option ℕ) (xs : List (Option ExchangeEntry)) → length (exchanges_by s m xs) ≡ length xs
places_by s None xs = refl
places_by s (Some n) xs = viewed_places n s.exchange xs

places_after : (s : Changes) (o : Option Context) (xs : List (Option ExchangeEntry)) → length (exchanges_after s o xs) ≡ length xs
places_after s None xs = refl
places_after s (Some c) xs = places_by s c.exchange xs

pub put_own : (s : Changes) (vm : ℕ) (h : Contexts) → vm < length h.vms → ChangesItsOwn vm h (put s vm h)
put_own s vm h there =
    let e = effective_of h vm in
    let stays : Stays s vm e h = all_else_stays s vm e h there in
    record {
      others = stays.vms;
      exchanges = λ n none. stays.exchanges n (λ c is. none e c is);
      name = stays.name;
      configuration = stays.configuration;
      last = stays.last;
      outlined = ap (λ (w : VmContexts). map outline w.contexts) (get_or-set_same h.vms vm (vm_after s e (context_in h vm e) (vm_in h vm)) no_vm there) ∙ outlines_after s e (context_in h vm e) (vm_in h vm).contexts;
      count = stays.many;
      places = places_after s (context_in h vm e) h.exchanges;
      lines = stays.lines;
      plugins = stays.plugins;
      level = stays.level;
      random_key = stays.random_key;
      calls = stays.calls;
      is_tcp = stays.is_tcp;
    }

-- ---- a callback

-- the VM's contexts are there, and what was changed since is its own
abbrev pub IsOwn : ℕ → Contexts → HostState → Type 0
IsOwn vm h s = (vm < length s.contexts.vms) × ChangesItsOwn vm h s.contexts

pub own_step : (c : Changes) (vm : ℕ) (h k : Contexts) → vm < length k.vms → ChangesItsOwn vm h k → (vm < length (put c vm k).vms) × ChangesItsOwn vm h (put c vm k)
own_step c vm h k there own =
    let step : ChangesItsOwn vm k (put c vm k) = put_own c vm k there in
    (subst (λ n. vm < n) (sym step.count) there, own_then vm h k (put c vm k) own step)

pub both_left : (a b : Bool) → (a && b) ≡ true → a ≡ true
both_left true b is = refl
both_left false b is = absurd (false≢true is)

placed_calls : (d : Dispatcher) (o : Option VmAt) → HasCalls d o → IsPlaced d.place o
placed_calls d None same = tt
placed_calls d (Some w) same = ap (λ (c : Dispatcher). c.place) same

any_end : {A : Type 0} (p : Program A) → AllAlong AnyCall AnyMeasure (λ (a : A). Unit {0}) p
any_end (done a) = tt
any_end (ask n call k) = (tt, λ r. any_end (k r))
any_end (measure n asked k) = (tt, λ r. any_end (k r))

abbrev CameOwn : ℕ → Contexts → Came → Type 0
CameOwn vm h c = ChangesItsOwn vm h c.contexts × IsPlaced vm c.live

came_own : (v : VmAt) (h : Contexts) (c : Came) → CameKeeps v.calls (IsOwn v.calls.place h) c → CameOwn v.calls.place h c
came_own v h c came = (came.0.1, placed_calls v.calls c.live came.1)

live_own : (v : VmAt) (name : Callback) (context first second now : ℕ) (h : Contexts) → v.calls.place < length h.vms
    → AllEnds (CameOwn v.calls.place h) (calling_live v name context first second now h)
live_own v name context first second now h there =
    all_weaker (CameKeeps v.calls (IsOwn v.calls.place h)) (CameOwn v.calls.place h) (calling_live v name context first second now h)
    (along_ends AnyCall AnyMeasure (CameKeeps v.calls (IsOwn v.calls.place h)) (calling_live v name context first second now h)
    (live_keeps v.calls AnyCall AnyMeasure (IsOwn v.calls.place h) (λ s c. Unit {0})
    (λ s c is good. own_step c.changes v.calls.place h s.contexts is.0 is.1)
    (λ s e is. own_step (record no_changes { effective = Some e }) v.calls.place h s.contexts is.0 is.1)
    (λ c n args g s is. any_end (hosting c n v.calls.place args g (seen s.contexts v.calls.place)))
    (λ c n args g s is. any_end (wasi_hosting c n v.calls.place args g (seen s.contexts v.calls.place)))
    v name context first second now h refl (there, own_same v.calls.place h)))
    (came_own v h)

home_own : (b : Bool) (most : ℕ) (v : VmAt) (name : Callback) (context first second now : ℕ) (h : Contexts) → is_at_home most v.calls.place h ≡ b
    → AllEnds (CameOwn v.calls.place h) (if b then calling_live v name context first second now h else done (silent (Some v) h))
home_own true most v name context first second now h home =
    live_own v name context first second now h (ltb-true v.calls.place (length h.vms) (both_left (nat_lt v.calls.place (length h.vms)) (nat_le (length h.vms) most) home))
home_own false most v name context first second now h home = (own_same v.calls.place h, refl)

slot_own : (most vm : ℕ) (o : Option VmAt) (name : Callback) (context first second now : ℕ) (h : Contexts) → IsPlaced vm o
    → AllEnds (CameOwn vm h) (calling_slot most o name context first second now h)
unfolding calling_slot
slot_own most vm None name context first second now h placed = (own_same vm h, tt)
slot_own most vm (Some v) name context first second now h placed =
    subst (λ n. AllEnds (CameOwn n h) (calling_slot most (Some v) name context first second now h)) placed
    (home_own (is_at_home most v.calls.place h) most v name context first second now h refl)

-- ---- all VMs

live_with : (v : Vms) (vm : ℕ) (live : Option VmAt) → vm < length v.slots → slot_in (with_live vm live v) vm ≡ record (slot_in v vm) { live = live }
live_with v vm live there = own_live vm live v there

abbrev HasPlace : ℕ → Slot → Type 0
HasPlace vm slot = IsPlaced vm slot.live

place_at : (b : Bool) (v : Vms) (vm at : ℕ) (live : Option VmAt) → nat_eq at vm ≡ b → vm < length v.slots → ArePlaced v → IsPlaced vm live → HasPlace at (slot_in (with_live vm live v) at)
place_at true v vm at live is there placed own =
    subst (λ n. HasPlace n (slot_in (with_live vm live v) n)) (sym (eqb-true at vm is)) (subst (HasPlace vm) (sym (live_with v vm live there)) own)
place_at false v vm at live is there placed own = subst (HasPlace at) (sym (with_other vm at live v (eqb-false at vm is))) (placed at)

abbrev CalledOwn : ℕ → Contexts → Called Vms → Type 0
CalledOwn vm h c = ChangesItsOwn vm h c.contexts × ArePlaced c.host

called_own : (b : Bool) (v : Vms) (vm : ℕ) (name : Callback) (context first second now : ℕ) (h : Contexts) → nat_lt vm (length v.slots) ≡ b → ArePlaced v
    → AllEnds (CalledOwn vm h) (if b then bind (calling_slot (length v.slots) (slot_in v vm).live name context first second now h) (λ c. done (called_back c.end c.lines (with_live vm c.live v) c.contexts)) else done (called_back (call_end.Returned None) [] v h))
called_own true v vm name context first second now h is placed =
    all_then (CameOwn vm h) (CalledOwn vm h) (calling_slot (length v.slots) (slot_in v vm).live name context first second now h) (λ c. done (called_back c.end c.lines (with_live vm c.live v) c.contexts))
    (slot_own (length v.slots) vm (slot_in v vm).live name context first second now h (placed vm))
    (λ c own. (own.0, λ at. place_at (nat_eq at vm) v vm at c.live refl (ltb-true vm (length v.slots) is) placed own.1))
called_own false v vm name context first second now h is placed = (own_same vm h, placed)

both_own : (v : Vms) (vm : ℕ) (name : Callback) (context first second now : ℕ) (h : Contexts) → ArePlaced v → AllEnds (CalledOwn vm h) (calling v vm name context first second now h)
unfolding calling
both_own v vm name context first second now h placed = called_own (nat_lt vm (length v.slots)) v vm name context first second now h refl placed

pub change_their_own : CallbacksChangeTheirOwn
change_their_own v vm name context first second now h placed =
    all_weaker (CalledOwn vm h) (λ c. ChangesItsOwn vm h c.contexts) (calling v vm name context first second now h) (both_own v vm name context first second now h placed) (λ c own. own.0)

pub places_stay : PlacesStay
places_stay v vm name context first second now h placed =
    all_weaker (CalledOwn vm h) (λ c. ArePlaced c.host) (calling v vm name context first second now h) (both_own v vm name context first second now h placed) (λ c own. own.1)

pub places_begin : PlacesBegin
places_begin = record { first = λ place m pages fuel. refl; none = λ place. tt }
