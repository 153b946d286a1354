-- No callback asks for more callouts than there is room for.
use Rattle.std.proofs.Common.{◌≡◌, ℕ, ◌+◌, ◌≤◌, ◌<◌, Bool, true, false, cond, ◌||◌, ◌++◌, List, [], ◌∷◌, All, length, Option, None, Some, refl, ap, sym, nat_lt, nat_le, if◌then◌else◌, arith}
use Rattle.std.proofs.lemmas.Bool.{leb-false, false≢true}
use Rattle.std.proofs.lemmas.List.{append-nil}
use Rattle.std.proofs.lemmas.List.Elements.{All-nil, All-head}
use Rattle.std.proofs.lemmas.List.Sums.{sum_by_push}
use Rattle.abi_calls.specs.Hosting.{Hosted, hosting, wasi_hosting}
use Rattle.abi_services.specs.Callouts.{is_call, call_count, is_full_for, most_under_way, last_id}
use Rattle.contexts.specs.Reached.{Seen, Changes, seen, no_changes, put}
use Rattle.contexts.specs.declared.parts.Contexts.{Contexts}
use Rattle.contexts.specs.declared.parts.Effect.{Effect}
use Rattle.contexts.specs.declared.parts.EffectKind.{EffectKind}
use Rattle.contexts.specs.declared.parts.EffectKind.TheVariants as what
use Rattle.filter_host.specs.Called.{Called, called_back}
use Rattle.filter_host.specs.declared.host.CallbackEnd.TheVariants as call_end
use Rattle.filter_host.specs.declared.host.Callback.{Callback}
use Rattle.store_model.specs.Program.{done, bind}
use Rattle.vm_host.specs.HostStates.{HostState, host_state}
use Rattle.vm_host.specs.Slots.{Came, silent, calling_live, calling_slot, is_at_home, slot_in, with_live, calling}
use Rattle.vm_host.specs.Vms.{VmAt}
use Rattle.vm_host.specs.declared.slots.Vms.{Vms}
use Rattle.law_vms.proofs.Ends.{AnyCall, AnyMeasure, along_ends, ends_along, all_then, all_weaker}
use Rattle.law_vms.proofs.Fitting.{IsAskSeen, IsEffectSeen, Fits, IsGood, env_good, wasi_good}
use Rattle.law_vms.proofs.Whole.{CameKeeps, live_keeps}
use Rattle.law_vms.specs.Apart.{AllEnds}
use Rattle.law_vms.specs.OwnCalls.{CallsFit, CallsHaveRoom}

-- ---- one host call

both_false : (a b : Bool) → (a || b) ≡ false → (a ≡ false) × (b ≡ false)
both_false true b is = absurd (false≢true (sym is))
both_false false b is = (refl, is)

room_left : (s : Seen) → is_full_for s ≡ false → (s.common.calls.under_way + call_count s.common.effects < most_under_way) × (s.common.calls.last + call_count s.common.effects < last_id)
room_left s is =
    let both = both_false (nat_le most_under_way (s.common.calls.under_way + call_count s.common.effects)) (nat_le last_id (s.common.calls.last + call_count s.common.effects)) is in
    (leb-false most_under_way (s.common.calls.under_way + call_count s.common.effects) both.0, leb-false last_id (s.common.calls.last + call_count s.common.effects) both.1)

-- one effect more
abbrev more_of : EffectKind → ℕ
more_of w = cond (is_call w) 1 0

abbrev FitWith : Contexts → ℕ → Type 0
FitWith k more = (k.calls.under_way + (call_count k.effects + more) ≤ most_under_way) × (k.calls.last + (call_count k.effects + more) ≤ last_id)

room_with : (vm : ℕ) (k : Contexts) (w : EffectKind) → IsAskSeen vm (seen k vm) w → CallsFit k → FitWith k (more_of w)
room_with vm k (what.Continue is_response) is fit = (omega (arith, fit.under_way), omega (arith, fit.ids))
room_with vm k what.Close is fit = (omega (arith, fit.under_way), omega (arith, fit.ids))
room_with vm k (what.Answer status fields body) is fit = (omega (arith, fit.under_way), omega (arith, fit.ids))
room_with vm k (what.Call q) is fit = let left = room_left (seen k vm) is.3 in (omega (arith, left.0), omega (arith, left.1))

abbrev FitAfter : Contexts → List Effect → Type 0
FitAfter k es = (k.calls.under_way + call_count (k.effects ++ es) ≤ most_under_way) × (k.calls.last + call_count (k.effects ++ es) ≤ last_id)

room_after : (vm : ℕ) (k : Contexts) (es : List Effect) → length es ≤ 1 → All (IsEffectSeen vm (seen k vm)) es → CallsFit k → FitAfter k es
room_after vm k [] few all fit = let same : call_count (k.effects ++ []) ≡ call_count k.effects = ap call_count (append-nil k.effects) in (omega (arith, same, fit.under_way), omega (arith, same, fit.ids))
room_after vm k (e ∷ []) few all fit =
    let one : call_count (k.effects ++ e ∷ []) ≡ call_count k.effects + more_of e.what = sum_by_push (λ (x : Effect). more_of x.what) k.effects e in
    let room = room_with vm k e.what (All-head (IsEffectSeen vm (seen k vm)) e [] all).1 fit in
    (omega (arith, one, room.0), omega (arith, one, room.1))
room_after vm k (e ∷ x ∷ es) few all fit = absurd (omega (arith, few))

put_fit : (vm : ℕ) (k : Contexts) (c : Changes) → Fits vm (seen k vm) c → CallsFit k → CallsFit (put c vm k)
put_fit vm k c fits fit = let after = room_after vm k c.effects fits.2 fits.0 fit in record { under_way = after.0; ids = after.1 }

-- ---- a callback

abbrev HasRoom : HostState → Type 0
HasRoom s = CallsFit s.contexts

abbrev CameFit : Came → Type 0
CameFit c = CallsFit c.contexts

serve_fit : (vm : ℕ) (s : HostState) (h : Hosted) → HasRoom s → IsGood vm (seen s.contexts vm) h → HasRoom (host_state (put h.changes vm s.contexts) (s.lines ++ h.lines))
serve_fit vm s h fit good = put_fit vm s.contexts h.changes good.1 fit

wake_fit : (vm : ℕ) (s : HostState) (e : ℕ) → HasRoom s → HasRoom (host_state (put (record no_changes { effective = Some e }) vm s.contexts) s.lines)
wake_fit vm s e fit = put_fit vm s.contexts (record no_changes { effective = Some e }) (All-nil (IsEffectSeen vm (seen s.contexts vm)), tt, omega arith) fit

live_fit : (v : VmAt) (name : Callback) (context first second now : ℕ) (h : Contexts) → CallsFit h → AllEnds CameFit (calling_live v name context first second now h)
live_fit v name context first second now h fit =
    all_weaker (CameKeeps v.calls HasRoom) CameFit (calling_live v name context first second now h)
    (along_ends AnyCall AnyMeasure (CameKeeps v.calls HasRoom) (calling_live v name context first second now h)
    (live_keeps v.calls AnyCall AnyMeasure HasRoom (IsGood v.calls.place) (serve_fit v.calls.place) (wake_fit v.calls.place)
    (λ c n args g s is.
    ends_along (IsGood v.calls.place (seen s.contexts v.calls.place)) (hosting c n v.calls.place args g (seen s.contexts v.calls.place)) (env_good v.calls.place c n args g (seen s.contexts v.calls.place)))
    (λ c n args g s is.
    ends_along (IsGood v.calls.place (seen s.contexts v.calls.place)) (wasi_hosting c n v.calls.place args g (seen s.contexts v.calls.place)) (wasi_good v.calls.place c n args g (seen s.contexts v.calls.place)))
    v name context first second now h refl fit))
    (λ c kept. kept.0)

home_fit : (b : Bool) (v : VmAt) (name : Callback) (context first second now : ℕ) (h : Contexts) → CallsFit h
    → AllEnds CameFit (if b then calling_live v name context first second now h else done (silent (Some v) h))
home_fit true v name context first second now h fit = live_fit v name context first second now h fit
home_fit false v name context first second now h fit = fit

slot_fit : (most : ℕ) (o : Option VmAt) (name : Callback) (context first second now : ℕ) (h : Contexts) → CallsFit h → AllEnds CameFit (calling_slot most o name context first second now h)
unfolding calling_slot
slot_fit most None name context first second now h fit = fit
slot_fit most (Some v) name context first second now h fit = home_fit (is_at_home most v.calls.place h) v name context first second now h fit

called_fit : (b : Bool) (v : Vms) (vm : ℕ) (name : Callback) (context first second now : ℕ) (h : Contexts) → CallsFit h
    → AllEnds (λ (c : Called Vms). CallsFit c.contexts) (if b then bind (calling_slot (length v.slots) (slot_in v vm).live name context first second now h) (λ c. done (called_back c.end c.lines (with_live vm c.live v) c.contexts)) else done (called_back (call_end.Returned None) [] v h))
called_fit true v vm name context first second now h fit =
    all_then CameFit (λ (c : Called Vms). CallsFit c.contexts) (calling_slot (length v.slots) (slot_in v vm).live name context first second now h) (λ c. done (called_back c.end c.lines (with_live vm c.live v) c.contexts))
    (slot_fit (length v.slots) (slot_in v vm).live name context first second now h fit) (λ c is. is)
called_fit false v vm name context first second now h fit = fit

pub calls_have_room : CallsHaveRoom
unfolding calling
calls_have_room v vm name context first second now h fit = called_fit (nat_lt vm (length v.slots)) v vm name context first second now h fit
