-- Steps of callouts.
use Rattle.std.proofs.Common.{◌≡◌, ℕ, Bool, false, List, [], sym, subst, ap}
use Rattle.std.specs.Prelude.{Result, Ok, Err, OnOk, Option, None, Some, if◌then◌else◌}
use Rattle.callouts.specs.declared.types.Callout.{Callout}
use Rattle.contexts.specs.declared.parts.CallAnswer.{CallAnswer}
use Rattle.filter_host.specs.Called.{Calling}
use Rattle.filter_host.specs.Course.{ends, Goes, Ends}
use Rattle.filter_host.specs.Runs.{goes_still, goes_heard, goes_as, goes_from}
use Rattle.filter_host.specs.declared.host.Callback.TheVariants.{CallAnswered}
use Rattle.store_model.specs.Made.{Made}
use Rattle.worker_model.specs.Calls.{take_call_heard, answer_if, has_listener, put_call_answer}
use Rattle.worker_model.specs.Room.{Room}
use Rattle.streams_model.specs.Callbacks.{Takes, calls_live, tells_call, ends_call}
use Rattle.worker_model.specs.Steps.{Both, both, drop_answer, reads_call}
use Rattle.worker_room.specs.Calls.{ReadsCall, close_if}

module _ {S : Type 0} (performs : S → List Made → S → Type 0) (s : S) (here : performs s [] s) where
  hears_call : {H : Type 0} (host : H) (id : ℕ) (o : Option Callout) (old new : Room) → ReadsCall id o old new → Goes performs s (reads_call id o host old) (ends (both host new)) s
  hears_call host id None old new is = goes_as (goes_still performs s s (ends (both host old)) here) (λ i. ends (both host (sym is i)))
  hears_call host id (Some c) old new is =
      goes_as (goes_heard performs s c.reader (λ h. ends (both host (take_call_heard id c h old))) is.0 here is.1) (λ i. ends (both host (sym is.2 i)))

  -- a response that is read on
  pub reads_call_ends : {H C E : Type 0} (host : H) (id : ℕ) (o : Option Callout) (old new : Room) (r : Result C E) → OnOk r (ReadsCall id o old new)
      → Ends performs s (reads_call id o host old) (λ _. both host new) r s
  reads_call_ends host id o old new (Ok x) is = hears_call host id o old new is
  reads_call_ends host id o old new (Err e) is = (_, goes_still performs s s (reads_call id o host old) here)

  module _ {H : Type 0} (takes : Takes) (calling : Calling H) where
    -- nobody is there to be told
    pub unheard_ends : (a : Option CallAnswer) (c : Callout) (host : H) (room : Room) → has_listener c room ≡ false
        → Goes performs s (tells_call takes calling a c host room) (ends (both host room)) s
    unheard_ends a c host room none =
        goes_from
        (ap (λ (b : Bool). if b then calls_live takes calling c.vm CallAnswered c.context c.id 0 (drop_answer c.vm c.context) host (put_call_answer a c.vm c.context room) else ends (both host room)) none)
        (goes_still performs s s (ends (both host room)) here)

    -- one that is not under way has no end
    pub none_ends : (is_answered : Bool) (host : H) (id : ℕ) (o : Option Callout) (old new : Room) → o ≡ None → new ≡ close_if id o old
        → Goes performs s (ends_call takes calling is_answered id o host old) (ends (both host new)) s
    none_ends is_answered host id None old new none is = goes_as (goes_still performs s s (ends (both host old)) here) (λ i. ends (both host (sym is i)))
    none_ends is_answered host id (Some c) old new none is = absurd (cc)

-- the end of one that is under way: it is closed, and its context is told
module _ {S H : Type 0} (performs : S → List Made → S → Type 0) (takes : Takes) (calling : Calling H) where
  pub told_ends : {B E : Type 0} (s t : S) (is_answered : Bool) (host : H) (id : ℕ) (o : Option Callout) (c : Callout) (old new : Room) (view : B → Both H) (r : Result B E)
      → o ≡ Some c → new ≡ close_if id o old → Ends performs s (tells_call takes calling (answer_if is_answered c) c host new) view r t
      → Ends performs s (ends_call takes calling is_answered id o host old) view r t
  told_ends s t is_answered host id None c old new view r some is told = absurd (cc)
  told_ends s t is_answered host id (Some d) c old new view r some is told = by (cc)
    where
      by : c ≡ d → Ends performs s (ends_call takes calling is_answered id (Some d) host old) view r t
      by same = subst (λ (p : Callout × Room). Ends performs s (tells_call takes calling (answer_if is_answered p.0) p.0 host p.1) view r t) (λ i. (same i, is i)) told
