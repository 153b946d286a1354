-- What a callback asks of its worker is for its own VM.
use Rattle.std.proofs.Common.{◌≡◌, ℕ, zero, suc, ◌<◌, Bool, true, false, length, Option, None, Some, refl, ap, ◌∙◌, subst, sym, nat_lt, nat_le, arith, ◌++◌, if◌then◌else◌, List, [], ◌∷◌, All, get_or, append_assoc, append-nil}
use Rattle.std.proofs.lemmas.Bool.{ltb-true, eqb-false, false≢true}
use Rattle.std.proofs.lemmas.List.Elements.{All-nil, All-append}
use Rattle.std.proofs.lemmas.Option.{none-some}
use Rattle.std.specs.Option.{option_map}
use Rattle.std.specs.Prelude.{slice_set, is_some, not, ◌==◌}
use Rattle.abi_calls.specs.Hosting.{Hosted, hosting, wasi_hosting}
use Rattle.abi_maps.specs.Streams.{is_other, is_stream}
use Rattle.contexts.proofs.Places.{from_some}
use Rattle.contexts.specs.Reached.{Changes, seen, no_changes, vm_in, context_in, exchange_at, view_at, view_in, with_view, effective_of, level_no, reach_by, viewed_by, exchanges_by, exchanges_after, put}
use Rattle.contexts.specs.declared.parts.Context.{Context}
use Rattle.contexts.specs.declared.parts.Contexts.{Contexts}
use Rattle.contexts.specs.declared.parts.Effect.{Effect}
use Rattle.contexts.specs.declared.parts.EffectKind.{EffectKind}
use Rattle.contexts.specs.declared.parts.EffectKind.TheVariants as what
use Rattle.contexts.specs.declared.parts.ExchangeEntry.{ExchangeEntry}
use Rattle.contexts.specs.declared.parts.ExchangeView.{ExchangeView}
use Rattle.contexts.specs.declared.parts.VmContexts.{VmContexts}
use Rattle.filter_host.specs.Called.{Called, called_back}
use Rattle.filter_host.specs.declared.host.CallbackEnd.TheVariants as call_end
use Rattle.filter_host.specs.declared.host.Callback.{Callback}
use Rattle.gate_io.specs.declared.event.Sent.{Sent}
use Rattle.store_model.specs.Program.{done, bind}
use Rattle.vm_host.specs.HostStates.{HostState, host_state}
use Rattle.vm_host.specs.Slots.{Came, silent, calling_live, calling_slot, is_at_home, slot_in, with_live, calling}
use Rattle.vm_host.specs.Vms.{VmAt}
use Rattle.vm_host.specs.declared.slots.Vms.{Vms}
use Rattle.law_vms.proofs.Ends.{AnyCall, AnyMeasure, along_ends, ends_along, all_then, all_weaker}
use Rattle.law_vms.proofs.Fitting.{IsAskSeen, IsEffectSeen, view_marks, KeepsMarks, Fits, IsGood, env_good, wasi_good}
use Rattle.law_vms.proofs.OwnChanges.{both_left, same_outline, own_same, own_then, put_own}
use Rattle.law_vms.proofs.Whole.{CameKeeps, live_keeps}
use Rattle.law_vms.specs.Apart.{AllEnds}
use Rattle.law_vms.specs.OwnChanges.{IsPlaced, ArePlaced, outline, ChangesItsOwn}
use Rattle.law_vms.specs.OwnEffects.{IsLine, IsOnLine, IsAskOf, IsEffectOf, GrowsBy, marks_of, marks_at, AsksForItsOwn, EffectsAreOwn}

-- ---- the marks of exchanges

abbrev AsIn : List (Option ExchangeEntry) → ℕ → ExchangeView → Type 0
AsIn xs m w = (v : ExchangeView) × (view_at xs m ≡ Some v) × (view_marks w ≡ view_marks v)

marked : (w : ExchangeView) (x : Option ExchangeEntry) → (v : ExchangeView) → option_map (λ (y : ExchangeEntry). y.view) x ≡ Some v → view_marks w ≡ view_marks v → option_map marks_of (option_map (with_view w) x) ≡ option_map marks_of x
marked w None v is same = refl
marked w (Some x) v is same = ap Some (same ∙ sym (ap view_marks (from_some is)))

set_marks : (w : ExchangeView) (xs : List (Option ExchangeEntry)) (m n : ℕ) → AsIn xs m w
    → option_map marks_of (exchange_at (slice_set xs m (option_map (with_view w) (exchange_at xs m))) n) ≡ option_map marks_of (exchange_at xs n)
set_marks w [] m n keeps = refl
set_marks w (x ∷ xs) zero zero keeps = marked w x keeps.0 keeps.1 keeps.2
set_marks w (x ∷ xs) zero (suc n) keeps = refl
set_marks w (x ∷ xs) (suc m) zero keeps = refl
set_marks w (x ∷ xs) (suc m) (suc n) keeps = set_marks w xs m n keeps

marks_viewed : (o : Option ExchangeView) (xs : List (Option ExchangeEntry)) (m n : ℕ) → KeepsMarks (view_at xs m) o → option_map marks_of (exchange_at (viewed_by m o xs) n) ≡ option_map marks_of (exchange_at xs n)
marks_viewed None xs m n keeps = refl
marks_viewed (Some w) xs m n keeps = set_marks w xs m n keeps

marks_by : (c : Changes) (o : Option ℕ) (xs : List (Option ExchangeEntry)) (n : ℕ) → KeepsMarks (view_in xs o) c.exchange → option_map marks_of (exchange_at (exchanges_by c o xs) n) ≡ option_map marks_of (exchange_at xs n)
marks_by c None xs n keeps = refl
marks_by c (Some m) xs n keeps = marks_viewed c.exchange xs m n keeps

marks_after : (c : Changes) (h : Contexts) (v : VmContexts) (o : Option Context) (n : ℕ) → KeepsMarks (reach_by h v o).exchange c.exchange
    → option_map marks_of (exchange_at (exchanges_after c o h.exchanges) n) ≡ option_map marks_of (exchange_at h.exchanges n)
marks_after c h v None n keeps = refl
marks_after c h v (Some d) n keeps = marks_by c d.exchange h.exchanges n keeps

-- ---- whose the effects are

in_view : (xs : List (Option ExchangeEntry)) (c : Context) (o : Option ℕ) → c.exchange ≡ o → (v : ExchangeView) → view_in xs o ≡ Some v → (n : ℕ) × (c.exchange ≡ Some n)
in_view xs c None at v is = absurd (none-some v is)
in_view xs c (Some n) at v is = (n, at)

some_view : (o : Option ExchangeView) → is_some o ≡ true → (v : ExchangeView) × (o ≡ Some v)
some_view None is = absurd (false≢true is)
some_view (Some v) is = (v, refl)

not_true : (b : Bool) → not b ≡ true → b ≡ false
not_true false is = refl
not_true true is = absurd (false≢true is)

-- a stream is a context that is on a line
on_line : (b : Bool) (h : Contexts) (w : VmContexts) (e : ℕ) (o : Option Context) → (if b then is_other e (reach_by h w o).root else is_some (reach_by h w o).exchange) ≡ true
    → (c : Context) × (o ≡ Some c) × IsOnLine b e c
on_line false h w e None is = absurd (false≢true is)
on_line false h w e (Some c) is = let v = some_view (reach_by h w (Some c)).exchange is in (c, refl, in_view h.exchanges c c.exchange refl v.0 v.1)
on_line true h w e None is = absurd (false≢true is)
on_line true h w e (Some c) is = (c, refl, eqb-false c.root e (not_true (c.root == e) is))

line_kept : (b : Bool) (e : ℕ) (o : Option Context) (c : Context) → option_map outline (Some c) ≡ option_map outline o → IsOnLine b e c → (d : Context) × (o ≡ Some d) × IsOnLine b e d
line_kept b e None c is on = absurd (none-some (outline c) (sym is))
line_kept false e (Some d) c is on = (d, refl, (on.0, sym (ap (λ (y : ℕ × ℕ × ℕ × Option ℕ). y.3) (from_some is)) ∙ on.1))
line_kept true e (Some d) c is on = (d, refl, λ same. on (ap (λ (y : ℕ × ℕ × ℕ × Option ℕ). y.2) (from_some is) ∙ same))

stream_of_own : (vm : ℕ) (h k : Contexts) → ChangesItsOwn vm h k → (n : ℕ) → n ≡ effective_of k vm → is_stream (seen k vm) ≡ true → (c : Context) × (context_in h vm n ≡ Some c) × IsOnLine h.is_tcp n c
stream_of_own vm h k own n at is =
    let id = effective_of k vm in
    let there = on_line k.is_tcp k (vm_in k vm) id (context_in k vm id) is in
    let kept = line_kept k.is_tcp id (context_in h vm id) there.0 (ap (option_map outline) (sym there.1) ∙ same_outline h k vm id own.outlined) there.2 in
    (kept.0, ap (context_in h vm) at ∙ kept.1, subst (λ b. IsOnLine b n kept.0) own.is_tcp (subst (λ m. IsOnLine k.is_tcp m kept.0) (sym at) kept.2))

-- a context that is there, as one was before
there_by : (h : Contexts) (w : VmContexts) (o : Option Context) → is_some (reach_by h w o).own ≡ true → (c : Context) × (o ≡ Some c)
there_by h w None is = absurd (false≢true is)
there_by h w (Some c) is = (c, refl)

one_kept : (o : Option Context) (c : Context) → option_map outline (Some c) ≡ option_map outline o → (d : Context) × (o ≡ Some d)
one_kept None c is = absurd (none-some (outline c) (sym is))
one_kept (Some d) c is = (d, refl)

call_of_own : (vm : ℕ) (h k : Contexts) → ChangesItsOwn vm h k → (n : ℕ) → n ≡ effective_of k vm → is_some (seen k vm).reach.own ≡ true → (c : Context) × (context_in h vm n ≡ Some c)
call_of_own vm h k own n at is =
    let id = effective_of k vm in
    let there = there_by k (vm_in k vm) (context_in k vm id) is in
    let kept = one_kept (context_in h vm id) there.0 (ap (option_map outline) (sym there.1) ∙ same_outline h k vm id own.outlined) in
    (kept.0, ap (context_in h vm) at ∙ kept.1)

ask_of_own : (vm : ℕ) (h k : Contexts) → ChangesItsOwn vm h k → (n : ℕ) (w : EffectKind) → n ≡ effective_of k vm → IsAskSeen vm (seen k vm) w → (c : Context) × (context_in h vm n ≡ Some c) × IsAskOf h vm n c w
ask_of_own vm h k own n (what.Continue is_response) at is = stream_of_own vm h k own n at is
ask_of_own vm h k own n what.Close at is = stream_of_own vm h k own n at is
ask_of_own vm h k own n (what.Answer status fields body) at is = stream_of_own vm h k own n at is
ask_of_own vm h k own n (what.Call q) at is =
    let there = call_of_own vm h k own n at is.0 in
    (there.0, there.1, (is.1, is.2 ∙ sym at))

effect_of_own : (vm : ℕ) (h k : Contexts) → ChangesItsOwn vm h k → (e : Effect) → IsEffectSeen vm (seen k vm) e → IsEffectOf h vm e
effect_of_own vm h k own e is = ask_of_own vm h k own e.context e.what is.0 is.1

-- ---- one host call

-- what was changed, asked for and written since
pub record IsWork (vm : ℕ) (h : Contexts) (s : HostState) : Type 0 where
  pub there : vm < length s.contexts.vms
  pub own : ChangesItsOwn vm h s.contexts
  pub lines : All (IsLine (level_no h.level)) s.lines
  pub effects : GrowsBy (IsEffectOf h vm) h.effects s.contexts.effects
  pub marks : (n : ℕ) → marks_at s.contexts n ≡ marks_at h n

pub grown : {A : Type 0} (P : A → Type 0) (old new more : List A) → GrowsBy P old new → All P more → GrowsBy P old (new ++ more)
grown P old new more by all = (by.0 ++ more, ap (λ xs. xs ++ more) by.1 ∙ append_assoc old by.0 more, All-append P by.0 more by.2 all)

pub all_as : {A : Type 0} (P Q : A → Type 0) (xs : List A) → ((a : A) → P a → Q a) → All P xs → All Q xs
all_as P Q xs so all = λ k d within. so (get_or xs k d) (all k d within)

work_step : (vm : ℕ) (h : Contexts) (s : HostState) (c : Changes) (ls : List Sent) → IsWork vm h s → Fits vm (seen s.contexts vm) c → All (IsLine (level_no h.level)) ls → IsWork vm h (host_state (put c vm s.contexts) ls)
work_step vm h s c ls work fits lines =
    let k = s.contexts in
    let step : ChangesItsOwn vm k (put c vm k) = put_own c vm k work.there in
    record {
      there = subst (λ n. vm < n) (sym step.count) work.there;
      own = own_then vm h k (put c vm k) work.own step;
      lines = lines;
      effects = grown (IsEffectOf h vm) h.effects k.effects c.effects work.effects (all_as (IsEffectSeen vm (seen k vm)) (IsEffectOf h vm) c.effects (effect_of_own vm h k work.own) fits.0);
      marks = λ n. marks_after c k (vm_in k vm) (context_in k vm (effective_of k vm)) n fits.1 ∙ work.marks n;
    }

serve_step : (vm : ℕ) (h : Contexts) (s : HostState) (c : Hosted) → IsWork vm h s → IsGood vm (seen s.contexts vm) c → IsWork vm h (host_state (put c.changes vm s.contexts) (s.lines ++ c.lines))
serve_step vm h s c work good =
    work_step vm h s c.changes (s.lines ++ c.lines) work good.1
    (All-append (IsLine (level_no h.level)) s.lines c.lines work.lines (subst (λ l. All (IsLine (level_no l)) c.lines) work.own.level good.0))

wake_step : (vm : ℕ) (h : Contexts) (s : HostState) (e : ℕ) → IsWork vm h s → IsWork vm h (host_state (put (record no_changes { effective = Some e }) vm s.contexts) s.lines)
wake_step vm h s e work = work_step vm h s (record no_changes { effective = Some e }) s.lines work (All-nil (IsEffectSeen vm (seen s.contexts vm)), tt, omega arith) work.lines

-- ---- a callback

-- whatever VMs there are then
abbrev HasAsked : ℕ → Contexts → List Sent → Contexts → Type 0
HasAsked vm h ls k = All (IsLine (level_no h.level)) ls × GrowsBy (IsEffectOf h vm) h.effects k.effects × ((n : ℕ) → marks_at k n ≡ marks_at h n)

nothing_asked : (vm : ℕ) (h : Contexts) → HasAsked vm h [] h
nothing_asked vm h = (All-nil (IsLine (level_no h.level)), ([], sym (append-nil h.effects), All-nil (IsEffectOf h vm)), λ n. refl)

abbrev CameAsked : ℕ → Contexts → Came → Type 0
CameAsked vm h c = HasAsked vm h c.lines c.contexts

live_asked : (v : VmAt) (name : Callback) (context first second now : ℕ) (h : Contexts) → v.calls.place < length h.vms
    → AllEnds (CameAsked v.calls.place h) (calling_live v name context first second now h)
live_asked v name context first second now h there =
    let none = nothing_asked v.calls.place h in
    all_weaker (CameKeeps v.calls (IsWork v.calls.place h)) (CameAsked v.calls.place h) (calling_live v name context first second now h)
    (along_ends AnyCall AnyMeasure (CameKeeps v.calls (IsWork v.calls.place h)) (calling_live v name context first second now h)
    (live_keeps v.calls AnyCall AnyMeasure (IsWork v.calls.place h) (IsGood v.calls.place) (serve_step v.calls.place h) (wake_step v.calls.place h)
    (λ c n args g s is.
    ends_along (IsGood v.calls.place (seen s.contexts v.calls.place)) (hosting c n v.calls.place args g (seen s.contexts v.calls.place)) (env_good v.calls.place c n args g (seen s.contexts v.calls.place)))
    (λ c n args g s is.
    ends_along (IsGood v.calls.place (seen s.contexts v.calls.place)) (wasi_hosting c n v.calls.place args g (seen s.contexts v.calls.place)) (wasi_good v.calls.place c n args g (seen s.contexts v.calls.place)))
    v name context first second now h refl (record { there = there; own = own_same v.calls.place h; lines = none.0; effects = none.1; marks = none.2 })))
    (λ c kept. (kept.0.lines, kept.0.effects, kept.0.marks))

home_asked : (b : Bool) (most : ℕ) (v : VmAt) (name : Callback) (context first second now : ℕ) (h : Contexts) → is_at_home most v.calls.place h ≡ b
    → AllEnds (CameAsked v.calls.place h) (if b then calling_live v name context first second now h else done (silent (Some v) h))
home_asked true most v name context first second now h home =
    live_asked v name context first second now h (ltb-true v.calls.place (length h.vms) (both_left (nat_lt v.calls.place (length h.vms)) (nat_le (length h.vms) most) home))
home_asked false most v name context first second now h home = nothing_asked v.calls.place h

slot_asked : (most vm : ℕ) (o : Option VmAt) (name : Callback) (context first second now : ℕ) (h : Contexts) → IsPlaced vm o
    → AllEnds (CameAsked vm h) (calling_slot most o name context first second now h)
unfolding calling_slot
slot_asked most vm None name context first second now h placed = nothing_asked vm h
slot_asked most vm (Some v) name context first second now h placed =
    subst (λ n. AllEnds (CameAsked n h) (calling_slot most (Some v) name context first second now h)) placed
    (home_asked (is_at_home most v.calls.place h) most v name context first second now h refl)

asks_own : (vm : ℕ) (h : Contexts) (c : Called Vms) → HasAsked vm h c.lines c.contexts → AsksForItsOwn vm h c
asks_own vm h c asked = record { lines = asked.0; effects = asked.1; marks = asked.2 }

called_asked : (b : Bool) (v : Vms) (vm : ℕ) (name : Callback) (context first second now : ℕ) (h : Contexts) → ArePlaced v
    → AllEnds (AsksForItsOwn vm h) (if b then bind (calling_slot (length v.slots) (slot_in v vm).live name context first second now h) (λ c. done (called_back c.end c.lines (with_live vm c.live v) c.contexts)) else done (called_back (call_end.Returned None) [] v h))
called_asked true v vm name context first second now h placed =
    all_then (CameAsked vm h) (AsksForItsOwn vm h) (calling_slot (length v.slots) (slot_in v vm).live name context first second now h) (λ c. done (called_back c.end c.lines (with_live vm c.live v) c.contexts))
    (slot_asked (length v.slots) vm (slot_in v vm).live name context first second now h (placed vm))
    (λ c asked. asks_own vm h (called_back c.end c.lines (with_live vm c.live v) c.contexts) asked)
called_asked false v vm name context first second now h placed = asks_own vm h (called_back (call_end.Returned None) [] v h) (nothing_asked vm h)

pub effects_own : EffectsAreOwn
unfolding calling
effects_own v vm name context first second now h placed = called_asked (nat_lt vm (length v.slots)) v vm name context first second now h placed
