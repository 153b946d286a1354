-- Steps of callouts.
use Rattle.std.proofs.Common.{◌≡◌, ℕ, Bool, true, false, List, [], if◌then◌else◌, sym, subst}
use Rattle.std.specs.Prelude.{Result, Ok, Err, OnOk, Option, None, Some}
use Rattle.callouts.specs.declared.types.Callout.{Callout}
use Rattle.contexts.specs.declared.parts.CallAnswer.{CallAnswer}
use Rattle.contexts.specs.declared.parts.Contexts.{Contexts}
use Rattle.filter_host.specs.Called.{Called}
use Rattle.filter_host.specs.Course.{Course, ends, Goes, Ends}
use Rattle.filter_host.specs.Runs.{goes_still, goes_heard, goes_as}
use Rattle.filter_host.specs.declared.host.Callback.{Callback}
use Rattle.filter_host.specs.declared.host.Callback.TheVariants.{CallAnswered}
use Rattle.store_model.specs.Made.{Made}
use Rattle.store_model.specs.Program.{Program}
use Rattle.worker_model.specs.Calls.{take_call_heard, answer_if, put_call_answer, has_listener}
use Rattle.worker_model.specs.Room.{Room}
use Rattle.worker_model.specs.Steps.{Both, both, calls_live, drop_answer, reads_call, tells_call, ends_call}
use Rattle.worker_room.specs.Calls.{ReadsCall, close_if}
use Rattle.worker.proofs.Quietly.{quiet_ends}

module _ {S : Type 0} (performs : S → List Made → S → Type 0) (s : S) (here : performs s [] s) where
  hears_call : {H : Type 0} (host : H) (id : ℕ) (o : Option Callout) (old new : Room) → ReadsCall id o old new → Goes performs s (reads_call id o host old) (ends (both host new)) s
  hears_call host id None old new is = goes_as (goes_still performs s s (ends (both host old)) here) (λ i. ends (both host (sym is i)))
  hears_call host id (Some c) old new is =
      goes_as (goes_heard performs s c.reader (λ h. ends (both host (take_call_heard id c h old))) is.0 here is.1) (λ i. ends (both host (sym is.2 i)))

  -- a response that is read on
  pub reads_call_ends : {H C E : Type 0} (host : H) (id : ℕ) (o : Option Callout) (old new : Room) (r : Result C E) → OnOk r (ReadsCall id o old new)
      → Ends performs s (reads_call id o host old) (λ _. both host new) r s
  reads_call_ends host id o old new (Ok x) is = hears_call host id o old new is
  reads_call_ends host id o old new (Err e) is = (_, goes_still performs s s (reads_call id o host old) here)

  module _ {H : Type 0} (calling : H → ℕ → Callback → ℕ → ℕ → ℕ → ℕ → Contexts → Program (Called H)) where
    -- one that is not under way has no end
    pub none_ends : (is_answered : Bool) (host : H) (id : ℕ) (o : Option Callout) (old new : Room) → o ≡ None → new ≡ close_if id o old
        → Goes performs s (ends_call calling is_answered id o host old) (ends (both host new)) s
    none_ends is_answered host id None old new none is = goes_as (goes_still performs s s (ends (both host old)) here) (λ i. ends (both host (sym is i)))
    none_ends is_answered host id (Some c) old new none is = absurd (cc)

-- the end of one that is under way: it is closed, and its context is told
module _ {S H : Type 0} (performs : S → List Made → S → Type 0) (calling : H → ℕ → Callback → ℕ → ℕ → ℕ → ℕ → Contexts → Program (Called H)) where
  pub told_ends : {B E : Type 0} (s t : S) (is_answered : Bool) (host : H) (id : ℕ) (o : Option Callout) (c : Callout) (old new : Room) (view : B → Both H) (r : Result B E)
      → o ≡ Some c → new ≡ close_if id o old → Ends performs s (tells_call calling (answer_if is_answered c) c host new) view r t
      → Ends performs s (ends_call calling is_answered id o host old) view r t
  told_ends s t is_answered host id None c old new view r some is told = absurd (cc)
  told_ends s t is_answered host id (Some d) c old new view r some is told = by (cc)
    where
      by : c ≡ d → Ends performs s (ends_call calling is_answered id (Some d) host old) view r t
      by same = subst (λ (p : Callout × Room). Ends performs s (tells_call calling (answer_if is_answered p.0) p.0 host p.1) view r t) (λ i. (same i, is i)) told

  -- a context that is there is told
  pub tells_there : {B E : Type 0} (s t : S) (a : Option CallAnswer) (c : Callout) (host : H) (room new : Room) (view : B → Both H) (r : Result B E)
      → has_listener c room ≡ true → new ≡ put_call_answer a c.vm c.context room
      → Ends performs s (calls_live calling c.vm CallAnswered c.context c.id 0 (drop_answer c.vm c.context) host new) view r t
      → Ends performs s (tells_call calling a c host room) view r t
  tells_there s t a c host room new view r there is told =
      subst (λ (b : Bool). Ends performs s (if b then calls_live calling c.vm CallAnswered c.context c.id 0 (drop_answer c.vm c.context) host (put_call_answer a c.vm c.context room) else ends (both host room)) view r t) (sym there)
      (subst (λ (x : Room). Ends performs s (calls_live calling c.vm CallAnswered c.context c.id 0 (drop_answer c.vm c.context) host x) view r t) is told)

  -- and else none is
  pub tells_none : {B E : Type 0} (s t : S) (a : Option CallAnswer) (c : Callout) (host : H) (room : Room) (view : B → Both H) (r : Result B E)
      → has_listener c room ≡ false → Ends performs s (ends (both host room)) view r t → Ends performs s (tells_call calling a c host room) view r t
  tells_none s t a c host room view r away told =
      subst (λ (b : Bool). Ends performs s (if b then calls_live calling c.vm CallAnswered c.context c.id 0 (drop_answer c.vm c.context) host (put_call_answer a c.vm c.context room) else ends (both host room)) view r t) (sym away) told
