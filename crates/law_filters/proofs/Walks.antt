-- What is known of roots stays over all steps of all turns.
use Rattle.std.proofs.Common.{◌≡◌, ◌⊎◌, inl, inr, refl, ℕ, zero, suc, ◌+◌, ◌<◌, ◌≤◌, ◌==◌, ◌&&◌, Bool, true, false, List, [], ◌∷◌, ◌++◌, length, ap, ◌∙◌, sym, subst, arith}
use Rattle.std.proofs.lemmas.Bool.{ltb-true, eqb-true, le-leb}
use Rattle.std.specs.List.{list_any}
use Rattle.std.specs.Prelude.{Contains, nat_le, slice_get, slice_index_or, position, if◌then◌else◌, is_some, Option, None, Some}
use Rattle.callouts.specs.Callouts.{line_in, is_of_call, callout_at, due_at}
use Rattle.callouts.specs.declared.types.Callout.{Callout}
use Rattle.contexts.specs.Creating.{next_id, no_plugin, plugin_in}
use Rattle.contexts.specs.Reached.{vm_in}
use Rattle.contexts.specs.declared.parts.Context.{Context}
use Rattle.contexts.specs.declared.parts.Contexts.{Contexts}
use Rattle.contexts.specs.declared.parts.Plugin.{Plugin}
use Rattle.filter_host.proofs.Holds.{AllEnds, all_reached, all_then}
use Rattle.filter_host.specs.Course.{Course, ends, Reaches}
use Rattle.gate_io.specs.Events.{is_stop}
use Rattle.gate_config.specs.declared.entries.PluginEntry.{PluginEntry}
use Rattle.gate_io.specs.declared.event.Event.{Event}
use Rattle.gate_io.specs.declared.event.What.{What}
use Rattle.law_lines.specs.Logs.{WriteLogs}
use Rattle.law_meaning.specs.Turns.{Turn, Turns}
use Rattle.law_meaning.specs.Walks.{Step, Walk, stays, steps, turns}
use Rattle.law_roots.specs.Roots.{FiltersGetContexts, RootStands, StartsHaveRoots}
use Rattle.law_vms.specs.MadeVms.{MadeVmsAreInPlace}
use Rattle.law_vms.specs.OwnChanges.{ArePlaced, CallbacksChangeTheirOwn, PlacesStay}
use Rattle.streams_model.proofs.Http.{turn_is}
use Rattle.vm_host.specs.Slots.{calling}
use Rattle.vm_host.specs.declared.slots.Vms.{Vms}
use Rattle.worker_model.specs.Plan.{Plan}
use Rattle.worker_model.specs.Room.{Room}
use Rattle.worker_model.specs.Rooms.{is_dead, next_of, next_part, moves_or, frees_or, ends_or, begins_or_rests, has_move, is_any, is_over, is_released}
use Rattle.worker_model.specs.Settling.{is_rest, settling, settling_none, settling_rest, settling_step}
use Rattle.worker_model.specs.Steps.{Both, both, create_filter, may_stream, step, with_stream}
use Rattle.worker_model.specs.Turn.{agenda_of, at_moment, deadline_jobs, fail_jobs, calls_due, first_vms, happening, is_due_now, is_of, notice_of, notices_of, registers_at, room_for_event, roots_from, start_jobs, start_of, starts_of, new_ticks, new_ticks_from, new_ticks_of, ticks_due, ticks_in, ticks_of, vms_in, with_agenda, without_sent, comes_if, Outcome, outcome_of, most_steps, turn, turn_by}
use Rattle.worker_model.specs.declared.types.Job.{Job}
use Rattle.worker_model.specs.declared.types.Job.TheVariants as jobs
use Rattle.worker_model.specs.declared.types.Next.{Next}
use Rattle.worker_model.specs.declared.types.Next.TheVariants as next
use Rattle.law_filters.proofs.Begun.{first_sound}
use Rattle.law_filters.proofs.Good as good
use Rattle.law_filters.proofs.Ids.{AreDrawn, both_true}
use Rattle.law_filters.proofs.Kept.{sound_stepped}
use Rattle.law_filters.proofs.Rooms.{numbers}
use Rattle.law_filters.proofs.Same.{pick}
use Rattle.law_filters.proofs.Sound.{IsSound, OfJob, OfJobs, HasRoot, NoRoots, Ordered, no_root, todo, SoundBut, Nobody, Any, rebased, sound_calm}
use Rattle.law_filters.proofs.Steps.{step_fine}
use Rattle.law_filters.specs.Roots.{ComeToRest, FiltersGetContextsForLife, IsToCome, RootsStandAfterTurns, RootsStand, RootsStandForLife, first_worker, rules_for}

-- ---- at rest nothing is to be done

from_read : (b : Bool) (y : Next) → is_rest (if b then next.Read else y) ≡ true → is_rest y ≡ true
from_read true y is = absurd (cc is)
from_read false y is = is

from_moves : (o : Option ℕ) (y : Next) → is_rest (moves_or o y) ≡ true → is_rest y ≡ true
from_moves None y is = is
from_moves (Some place) y is = absurd (cc is)

from_frees : (o : Option ℕ) (y : Next) → is_rest (frees_or o y) ≡ true → is_rest y ≡ true
from_frees None y is = is
from_frees (Some place) y is = absurd (cc is)

from_ends : (o : Option ℕ) (y : Next) → is_rest (ends_or o y) ≡ true → is_rest y ≡ true
from_ends None y is = is
from_ends (Some place) y is = absurd (cc is)

from_jobs : (js : List Job) (y : Next) → is_rest (if is_any js then next.Work else y) ≡ true → (js ≡ []) × (is_rest y ≡ true)
from_jobs [] y is = (refl, is)
from_jobs (job ∷ js) y is = absurd (cc is)

from_agenda : (js : List Job) → is_rest (begins_or_rests js) ≡ true → js ≡ []
from_agenda [] is = refl
from_agenda (job ∷ js) is = absurd (cc is)

pub at_rest : (room : Room) → is_rest (next_of room) ≡ true → (room.jobs ≡ []) × (room.agenda ≡ [])
at_rest room is =
    let one = from_read (is_some room.reading) (moves_or (position has_move room.lines) (if is_any room.jobs then next.Work else next_part room)) is in
    let two = from_jobs room.jobs (next_part room) (from_moves (position has_move room.lines) (if is_any room.jobs then next.Work else next_part room) one) in
    (two.0, from_agenda room.agenda (from_ends (position is_over room.lines) (begins_or_rests room.agenda) (from_frees (position (is_released room) room.waits) (ends_or (position is_over room.lines) (begins_or_rests room.agenda)) two.1)))

ends_none : (o : Option ℕ) (y : Next) → is_rest (ends_or o y) ≡ true → o ≡ None
ends_none None y is = refl
ends_none (Some place) y is = absurd (cc is)

-- and no exchange has ended
pub no_over : (room : Room) → is_rest (next_of room) ≡ true → position is_over room.lines ≡ None
no_over room is =
    let one = from_read (is_some room.reading) (moves_or (position has_move room.lines) (if is_any room.jobs then next.Work else next_part room)) is in
    let two = from_jobs room.jobs (next_part room) (from_moves (position has_move room.lines) (if is_any room.jobs then next.Work else next_part room) one) in
    ends_none (position is_over room.lines) (begins_or_rests room.agenda) (from_frees (position (is_released room) room.waits) (ends_or (position is_over room.lines) (begins_or_rests room.agenda)) two.1)

-- ---- the parts of a turn

-- a job that is neither of a context nor makes a root
abbrev IsPlain : Job → Type 0
IsPlain (jobs.Root vm p first) = ⊥
IsPlain (jobs.Done c) = ⊥
IsPlain (jobs.Log c) = ⊥
IsPlain (jobs.Delete c) = ⊥
IsPlain job = Unit {0}

abbrev ArePlain : List Job → Type 0
ArePlain [] = Unit {0}
ArePlain (job ∷ js) = IsPlain job × ArePlain js

-- a job of a start
abbrev IsStart : Job → Type 0
IsStart (jobs.Begin vm) = Unit {0}
IsStart (jobs.Root vm p first) = Unit {0}
IsStart job = ⊥

abbrev AreStarts : List Job → Type 0
AreStarts [] = Unit {0}
AreStarts (job ∷ js) = IsStart job × AreStarts js

plain_join : (a b : List Job) → ArePlain a → ArePlain b → ArePlain (a ++ b)
plain_join [] b one two = two
plain_join (job ∷ a) b one two = (one.0, plain_join a b one.1 two)

starts_join : (a b : List Job) → AreStarts a → AreStarts b → AreStarts (a ++ b)
starts_join [] b one two = two
starts_join (job ∷ a) b one two = (one.0, starts_join a b one.1 two)

none_of : (js : List Job) → ArePlain js → NoRoots js
none_of [] are = tt
none_of (jobs.Root vm p first ∷ js) are = are.0
none_of (job ∷ js) are = none_of js are.1

plain_of : (h : Contexts) (job : Job) → IsPlain job → OfJob h job
plain_of h (jobs.Done c) is = absurd is
plain_of h (jobs.Log c) is = absurd is
plain_of h (jobs.Delete c) is = absurd is
plain_of h job is = tt

plains_of : (h : Contexts) (js : List Job) → ArePlain js → OfJobs h js
plains_of h [] are = tt
plains_of h (job ∷ js) are = (plain_of h job are.0, plains_of h js are.1)

start_of_job : (h : Contexts) (job : Job) → IsStart job → OfJob h job
start_of_job h (jobs.Done c) is = absurd is
start_of_job h (jobs.Log c) is = absurd is
start_of_job h (jobs.Delete c) is = absurd is
start_of_job h job is = tt

starts_of_jobs : (h : Contexts) (a b : List Job) → AreStarts a → OfJobs h b → OfJobs h (a ++ b)
starts_of_jobs h [] b are of = of
starts_of_jobs h (job ∷ a) b are of = (start_of_job h job are.0, starts_of_jobs h a b are.1 of)

none_ordered : (js : List Job) → NoRoots js → Ordered js
none_ordered [] none = tt
none_ordered (jobs.Happen what ∷ later) none = none
none_ordered (jobs.Root w q first ∷ later) none = absurd none
none_ordered (job ∷ later) none = none_ordered later none

starts_ordered : (a b : List Job) → AreStarts a → NoRoots b → Ordered (a ++ b)
starts_ordered [] b are none = none_ordered b none
starts_ordered (jobs.Happen what ∷ a) b are none = absurd are.0
starts_ordered (job ∷ a) b are none = starts_ordered a b are.1 none

roots_start : (vm place : ℕ) (first : Bool) (ps : List Plugin) → AreStarts (roots_from vm place first ps)
roots_start vm place first [] = tt
roots_start vm place first (p ∷ ps) =
    pick AreStarts (is_of vm p) (jobs.Root vm place first ∷ roots_from vm (place + 1) false ps) (roots_from vm (place + 1) first ps) (tt, roots_start vm (place + 1) false ps) (roots_start vm (place + 1) first ps)

one_starts : (vm : ℕ) (ps : List Plugin) → AreStarts (start_of vm ps)
one_starts vm ps = pick AreStarts (list_any (is_of vm) ps) (jobs.Begin vm ∷ roots_from vm 0 true ps) [] (tt, roots_start vm 0 true ps) tt

all_start : (n : ℕ) (ps : List Plugin) → AreStarts (starts_of n ps)
all_start zero ps = tt
all_start (suc n) ps = starts_join (starts_of n ps) (start_of n ps) (all_start n ps) (one_starts n ps)

ticks_plain : (now vm : ℕ) (cs : List Context) → ArePlain (ticks_in now vm cs)
ticks_plain now vm [] = tt
ticks_plain now vm (c ∷ cs) = pick ArePlain (is_due_now now c.tick) (jobs.Tick vm c.id ∷ ticks_in now vm cs) (ticks_in now vm cs) (tt, ticks_plain now vm cs) (ticks_plain now vm cs)

all_ticks : (now n : ℕ) (h : Contexts) → ArePlain (ticks_of now n h)
all_ticks now zero h = tt
all_ticks now (suc n) h = plain_join (ticks_of now n h) (ticks_in now n (vm_in h n).contexts) (all_ticks now n h) (ticks_plain now n (vm_in h n).contexts)

new_from_plain : (vm id : ℕ) (ps : List Plugin) → ArePlain (new_ticks_from vm id ps)
new_from_plain vm id [] = tt
new_from_plain vm id (p ∷ ps) =
    pick ArePlain (is_of vm p && nat_le id 4294967295) (jobs.Tick vm id ∷ new_ticks_from vm (id + 1) ps) (new_ticks_from vm id ps) (tt, new_from_plain vm (id + 1) ps) (new_from_plain vm id ps)

new_ticks_plain : (n : ℕ) (h : Contexts) → ArePlain (new_ticks_of n h)
new_ticks_plain zero h = tt
new_ticks_plain (suc n) h = plain_join (new_ticks_of n h) (new_ticks_from n (next_id h n) h.plugins) (new_ticks_plain n h) (new_from_plain n (next_id h n) h.plugins)

due_ticks_plain : (room : Room) → ArePlain (ticks_due room)
due_ticks_plain room =
    plain_join (ticks_of room.hub.moment (vms_in room) room.hub.contexts) (new_ticks room) (all_ticks room.hub.moment (vms_in room) room.hub.contexts)
    (pick ArePlain room.is_begun [] (new_ticks_of (vms_in room) room.hub.contexts) tt (new_ticks_plain (vms_in room) room.hub.contexts))

notices_plain : (plan : Plan) (n : ℕ) → ArePlain (notices_of plan n)
notices_plain plan zero = tt
notices_plain plan (suc n) =
    plain_join (notices_of plan n) (notice_of plan n) (notices_plain plan n) (pick ArePlain (registers_at (slice_get plan.registers n)) (jobs.Notice n 16 ∷ []) [] (tt, tt) tt)

happening_plain : (what : What) (room : Room) → ArePlain (happening what room)
happening_plain what room = pick ArePlain (is_of_call (line_in what)) (comes_if (callout_at (line_in what) room.calls) what) (jobs.Happen what ∷ []) (comes (callout_at (line_in what) room.calls)) (tt, tt)
  where
    comes : (o : Option Callout) → ArePlain (comes_if o what)
    comes None = tt
    comes (Some c) = (tt, tt)

fails_plain : (ids : List ℕ) → ArePlain (fail_jobs ids)
fails_plain [] = tt
fails_plain (id ∷ ids) = (tt, fails_plain ids)

abbrev behind_starts : Plan → What → Room → List Job
behind_starts plan what room = ticks_due room ++ (deadline_jobs plan ++ (calls_due room ++ (happening what room ++ notices_of plan (vms_in room))))

behind_plain : (plan : Plan) (what : What) (room : Room) → ArePlain (behind_starts plan what room)
behind_plain plan what room =
    plain_join (ticks_due room) (deadline_jobs plan ++ (calls_due room ++ (happening what room ++ notices_of plan (vms_in room)))) (due_ticks_plain room)
    (plain_join (deadline_jobs plan) (calls_due room ++ (happening what room ++ notices_of plan (vms_in room))) (pick ArePlain (plan.deadline == 0) [] (jobs.Expire ∷ []) tt (tt, tt))
    (plain_join (calls_due room) (happening what room ++ notices_of plan (vms_in room)) (fails_plain (due_at room.hub.moment room.calls))
    (plain_join (happening what room) (notices_of plan (vms_in room)) (happening_plain what room) (notices_plain plan (vms_in room)))))

start_jobs_start : (room : Room) → AreStarts (start_jobs room)
start_jobs_start room = pick AreStarts room.is_begun [] (starts_of (vms_in room) room.hub.contexts.plugins) tt (all_start (vms_in room) room.hub.contexts.plugins)

-- ---- roots that are to come, as members

here_root : (p vm : ℕ) (first : Bool) (job : Job) (js : List Job) → job ≡ jobs.Root vm p first → HasRoot p vm (job ∷ js)
here_root p vm first job js is = subst (λ (j : Job). HasRoot p vm (j ∷ js)) (sym is) (inl (refl, refl))

root_later : (p vm : ℕ) (job : Job) (later : List Job) → HasRoot p vm later → HasRoot p vm (job ∷ later)
root_later p vm (jobs.Root w q first) later has = inr has
root_later p vm job later has = has

root_in : (p vm : ℕ) (first : Bool) (js : List Job) (k : ℕ) → k < length js → slice_index_or js k (jobs.Root vm p first) ≡ jobs.Root vm p first → HasRoot p vm js
root_in p vm first [] k low at = absurd (omega (arith, low))
root_in p vm first (job ∷ js) zero low at = here_root p vm first job js at
root_in p vm first (job ∷ js) (suc k) low at = let less : k < length js = omega (arith, low) in root_later p vm job js (root_in p vm first js k less at)

pub contained : (p vm : ℕ) (first : Bool) (js : List Job) → Contains js (jobs.Root vm p first) → HasRoot p vm js
contained p vm first js is = root_in p vm first js is.0 is.1 is.2

abbrev Among : (p vm : ℕ) → List Job → Type 0
Among p vm js = (first : Bool) × Contains js (jobs.Root vm p first)

among_later : (p vm : ℕ) (job : Job) (js : List Job) → Among p vm js → Among p vm (job ∷ js)
among_later p vm job js a = (a.0, (suc a.1.0, (let low : a.1.0 < length js = a.1.1 in let more : suc a.1.0 < length (job ∷ js) = omega (arith, low) in more), a.1.2))

among_here : (p vm w q : ℕ) (first : Bool) (js : List Job) → (w ≡ vm) × (q ≡ p) → Among p vm (jobs.Root w q first ∷ js)
among_here p vm w q first js is = (first, (0, (let low : 0 < length (jobs.Root w q first ∷ js) = omega arith in low), λ i. jobs.Root (is.0 i) (is.1 i) first))

among : (p vm : ℕ) (js : List Job) → HasRoot p vm js → Among p vm js
among p vm [] has = absurd has
among p vm (jobs.Root w q first ∷ js) (inl is) = among_here p vm w q first js is
among p vm (jobs.Root w q first ∷ js) (inr has) = among_later p vm (jobs.Root w q first) js (among p vm js has)
among p vm (job ∷ js) has = among_later p vm job js (among p vm js has)

root_split : (p vm : ℕ) (a b : List Job) → HasRoot p vm (a ++ b) → HasRoot p vm a ⊎ HasRoot p vm b
root_split p vm [] b has = inr has
root_split p vm (jobs.Root w q first ∷ a) b (inl is) = inl (inl is)
root_split p vm (jobs.Root w q first ∷ a) b (inr has) = under (root_split p vm a b has)
  where
    under : HasRoot p vm a ⊎ HasRoot p vm b → HasRoot p vm (jobs.Root w q first ∷ a) ⊎ HasRoot p vm b
    under (inl has) = inl (inr has)
    under (inr has) = inr has
root_split p vm (job ∷ a) b has = root_split p vm a b has

root_left : (p vm : ℕ) (a b : List Job) → HasRoot p vm a → HasRoot p vm (a ++ b)
root_left p vm [] b has = absurd has
root_left p vm (jobs.Root w q first ∷ a) b (inl is) = inl is
root_left p vm (jobs.Root w q first ∷ a) b (inr has) = inr (root_left p vm a b has)
root_left p vm (job ∷ a) b has = root_left p vm a b has

root_right : (p vm : ℕ) (a b : List Job) → HasRoot p vm b → HasRoot p vm (a ++ b)
root_right p vm [] b has = has
root_right p vm (job ∷ a) b has = root_later p vm job (a ++ b) (root_right p vm a b has)

-- ---- a turn begins

plugin_there : (ps : List Plugin) (p : ℕ) → p < length ps → slice_get ps p ≡ Some (slice_index_or ps p no_plugin)
plugin_there [] p low = absurd (omega (arith, low))
plugin_there (x ∷ ps) zero low = refl
plugin_there (x ∷ ps) (suc p) low = let less : p < length ps = omega (arith, low) in plugin_there ps p less

few_vms : (n vm : ℕ) → n ≤ 16 → vm < n → vm < first_vms n
few_vms n vm few low = subst (λ (b : Bool). vm < (if b then n else 16)) (sym (le-leb n 16 few)) low

module _ (starts : StartsHaveRoots) (plan : Plan) where
  first_roots : (what : What) (room : Room) → room.is_begun ≡ false → AreDrawn plan room.hub.contexts → (p : ℕ) (e : PluginEntry) → slice_get plan.plugins p ≡ Some e → HasRoot p e.vm (agenda_of plan what room)
  first_roots what room begun d p e at =
      let h : Contexts = room.hub.contexts in
      let a = both_true _ _ (d.table p e at) in
      let b = both_true _ _ a.0 in
      let c = both_true _ _ b.0 in
      let of : (plugin_in h p).vm ≡ e.vm = eqb-true (plugin_in h p).vm e.vm a.1 in
      let there : slice_get h.plugins p ≡ Some (plugin_in h p) = plugin_there h.plugins p (ltb-true p (length h.plugins) b.1) in
      let low : e.vm < vms_in room = few_vms (length h.vms) e.vm d.few (ltb-true e.vm (length h.vms) c.0) in
      let found = starts plan what room p (plugin_in h p) begun there (subst (λ (v : ℕ). v < vms_in room) (sym of) low) in
      subst (λ (v : ℕ). HasRoot p v (agenda_of plan what room)) of (contained p (plugin_in h p).vm found.0 (agenda_of plan what room) found.1)

  faced : (what : What) (room : Room) → room.jobs ≡ [] → room.agenda ≡ [] → SoundBut plan Nobody room.hub.contexts room → IsSound plan Nobody (with_agenda plan what room)
  faced what room jobless partless s =
      let h : Contexts = room.hub.contexts in
      let r = s.2 in
      let agenda : List Job = agenda_of plan what room in
      let same : agenda ≡ room.jobs ++ agenda = λ i. sym jobless i ++ agenda in
      let plain = behind_plain plan what room in
      let begins = start_jobs_start room in
      record {
        contexts = h;
        holds = (
          s.0,
          s.1,
          record {
            drawn = r.drawn;
            of_jobs = subst (OfJobs h) same (starts_of_jobs h (start_jobs room) (behind_starts plan what room) begins (plains_of h (behind_starts plan what room) plain));
            of_waits = r.of_waits;
            ordered = subst Ordered same (starts_ordered (start_jobs room) (behind_starts plan what room) begins (none_of (behind_starts plan what room) plain));
            begun = inl refl;
            no_line = λ p vm has. no_line plain p vm room.is_begun refl r.begun (subst (HasRoot p vm) (sym same) has);
            each = λ b p e at. rooted p e at same room.is_begun refl (r.each);
          },
        );
      }
    where
      nothing : todo room ≡ []
      nothing = λ i. jobless i ++ partless i

      no_line : ArePlain (behind_starts plan what room) → (p vm : ℕ) (b : Bool) → room.is_begun ≡ b → (room.is_begun ≡ true) ⊎ ((todo room ≡ []) × (numbers room.lines ≡ []) × (room.waits ≡ [])) → HasRoot p vm (agenda_of plan what room)
          → numbers room.lines ≡ []
      no_line plain p vm true is begun has =
          absurd (no_root p vm (behind_starts plan what room) (none_of (behind_starts plan what room) plain)
          (subst (λ (c : Bool). HasRoot p vm ((if c then [] else starts_of (vms_in room) room.hub.contexts.plugins) ++ behind_starts plan what room)) is has))
      no_line plain p vm false is (inl begun) has = absurd (false_true (sym is ∙ begun))
        where
          false_true : false ≡ true → ⊥
          false_true e = cc e
      no_line plain p vm false is (inr none) has = none.1

      rooted : (p : ℕ) (e : PluginEntry) → slice_get plan.plugins p ≡ Some e → agenda_of plan what room ≡ room.jobs ++ agenda_of plan what room → (b : Bool) → room.is_begun ≡ b
          → (room.is_begun ≡ true → (p : ℕ) (e : PluginEntry) → slice_get plan.plugins p ≡ Some e → ⊥ ⊎ ((is_dead e.vm room ≡ true) ⊎ (RootStands room.hub.contexts p e.vm ⊎ HasRoot p e.vm (todo room))))
          → ⊥ ⊎ ((is_dead e.vm room ≡ true) ⊎ (RootStands room.hub.contexts p e.vm ⊎ HasRoot p e.vm (room.jobs ++ agenda_of plan what room)))
      rooted p e at same true is each = old (each is p e at)
        where
          old : ⊥ ⊎ ((is_dead e.vm room ≡ true) ⊎ (RootStands room.hub.contexts p e.vm ⊎ HasRoot p e.vm (todo room)))
              → ⊥ ⊎ ((is_dead e.vm room ≡ true) ⊎ (RootStands room.hub.contexts p e.vm ⊎ HasRoot p e.vm (room.jobs ++ agenda_of plan what room)))
          old (inl none) = inl none
          old (inr (inl dead)) = inr (inl dead)
          old (inr (inr (inl stands))) = inr (inr (inl stands))
          old (inr (inr (inr has))) = absurd (subst (HasRoot p e.vm) nothing has)
      rooted p e at same false is each = inr (inr (inr (subst (HasRoot p e.vm) same (first_roots what room is s.2.drawn p e at))))

  -- what was sent is no matter
  unsent : (room : Room) → IsSound plan Nobody room → IsSound plan Nobody (without_sent room)
  unsent room s =
      let r = s.holds.2 in
      record {
        contexts = s.contexts;
        holds = (
          s.holds.0,
          s.holds.1,
          record { drawn = r.drawn; of_jobs = r.of_jobs; of_waits = r.of_waits; ordered = r.ordered; begun = r.begun; no_line = r.no_line; each = r.each },
        );
      }

  event_begun : (event : Event) (room : Room) → is_rest (next_of room) ≡ true → IsSound plan Nobody room → IsSound plan Nobody (room_for_event plan event room)
  event_begun event room is s =
      let h : Contexts = room.hub.contexts in
      let done = at_rest room is in
      let base : SoundBut plan Nobody h room = rebased plan Nobody room s in
      let r = base.2 in
      let later : Room = at_moment event.now room in
      let now : SoundBut plan Nobody h later
      = (base.0, base.1, record { drawn = r.drawn; of_jobs = r.of_jobs; of_waits = r.of_waits; ordered = r.ordered; begun = r.begun; no_line = r.no_line; each = r.each }) in
      faced event.what later done.0 done.1 now

  event_faced : (event : Event) (room : Room) → is_rest (next_of room) ≡ true → IsSound plan Nobody room → IsSound plan Nobody (room_for_event plan event (without_sent room))
  event_faced event room is s = event_begun event (without_sent room) is (unsent room s)

  -- ---- all steps

  module _ (logs : WriteLogs calling) (change : CallbacksChangeTheirOwn) (stay : PlacesStay) where
    abbrev Fine : Both Vms → Type 0
    Fine b = IsSound plan Nobody b.room × ArePlaced b.host

    pub walked : (b e : Both Vms) (all : List (Step Vms)) → Walk calling plan b all e → Fine b → Fine e
    walked _ _ _ (stays b) is = is
    walked _ _ _ (steps b m e ms more goes reaches later) is =
        walked m e more later
        (all_reached Fine ms (step calling plan (next_of b.room) b.host b.room) m
        (step_fine logs change stay plan (λ room. Unit {0}) Any (λ r. IsSound plan Nobody r) (λ r. IsSound plan Nobody r) (sound_calm plan Nobody) (sound_stepped plan) b.host b.room tt is.0 is.1 (λ place at quiet. tt)) reaches)
    walked _ _ _ (turns b e event all rest goes later) is =
        walked (both b.host (room_for_event plan event (without_sent b.room))) e all later (event_faced event b.room rest is.0, is.1)

    step_kept : (b : Both Vms) → Fine b → AllEnds Fine (step calling plan (next_of b.room) b.host b.room)
    step_kept b is = step_fine logs change stay plan (λ room. Unit {0}) Any (λ r. IsSound plan Nobody r) (λ r. IsSound plan Nobody r) (sound_calm plan Nobody) (sound_stepped plan) b.host b.room tt is.0 is.1 (λ place at quiet. tt)

    settled : (n : ℕ) (host : Vms) (room : Room) → Fine (both host room) → AllEnds Fine (settling calling plan n host room)
    settled zero host room is = subst (AllEnds Fine) (sym (settling_none calling plan host room)) is
    settled (suc n) host room is = by_rest (λ b here. settled n b.host b.room here) (is_rest (next_of room)) refl
      where
        by_rest : ((b : Both Vms) → Fine b → AllEnds Fine (settling calling plan n b.host b.room)) → (r : Bool) → is_rest (next_of room) ≡ r → AllEnds Fine (settling calling plan (suc n) host room)
        by_rest later true rest = subst (AllEnds Fine) (sym (settling_rest calling plan n (next_of room) host room refl rest)) is
        by_rest later false rest =
            subst (AllEnds Fine) (sym (settling_step calling plan n (next_of room) host room refl rest))
            (all_then Fine Fine (step calling plan (next_of room) host room) (λ b. settling calling plan n b.host b.room) (step_kept (both host room) is) later)

    turn_kept : (b : Both Vms) (event : Event) → is_rest (next_of b.room) ≡ true → Fine b → AllEnds (λ (out : Outcome Vms). Fine out.state) (turn calling plan b event)
    turn_kept b event rest is = by_stop (is_stop event.what)
      where
        by_stop : (stop : Bool) → AllEnds (λ (out : Outcome Vms). Fine out.state) (turn_by calling plan stop b event)
        by_stop true = is
        by_stop false =
            all_then Fine (λ (out : Outcome Vms). Fine out.state) (settling calling plan most_steps b.host (room_for_event plan event b.room)) (λ c. ends (outcome_of c))
            (settled most_steps b.host (room_for_event plan event b.room) (event_begun event b.room rest is.0, is.1)) (λ c here. (unsent c.room here.0, here.1))

    pub turned : (b e : Both Vms) (all : List (Turn Vms)) → plan.tcp ≡ [] → Turns calling plan b all e → ComeToRest all → is_rest (next_of b.room) ≡ true → Fine b → Fine e
    turned b e [] http same rests rest is = subst Fine (sym same) is
    turned b e (t ∷ all) http chain rests rest is =
        let first = subst (λ (c : Course (Outcome Vms)). Reaches c t.met (ends t.end)) (turn_is calling plan b t.event http) chain.0 in
        turned t.end.state e all http chain.1 rests.1 rests.0 (all_reached (λ (out : Outcome Vms). Fine out.state) t.met (turn calling plan b t.event) t.end (turn_kept b t.event rest is) first)

-- ---- what it says

pub roots_of : (plan : Plan) (room : Room) → IsSound plan Nobody room → RootsStand plan room
roots_of plan room s =
    let now : SoundBut plan Nobody room.hub.contexts room = rebased plan Nobody room s in
    record {
      each = λ begun p e at. shown p e (now.2.each begun p e at);
      no_line = λ p vm comes. good.no_lines plan room.lines (now.2.no_line p vm (coming p vm comes));
      not_begun = λ begun. good.no_lines plan room.lines (none begun now.2.begun);
    }
  where
    shown : (p : ℕ) (e : PluginEntry) → ⊥ ⊎ ((is_dead e.vm room ≡ true) ⊎ (RootStands room.hub.contexts p e.vm ⊎ HasRoot p e.vm (todo room))) → (is_dead e.vm room ≡ true) ⊎ (RootStands room.hub.contexts p e.vm ⊎ IsToCome p e.vm room)
    shown p e (inl none) = absurd none
    shown p e (inr (inl dead)) = inl dead
    shown p e (inr (inr (inl stands))) = inr (inl stands)
    shown p e (inr (inr (inr has))) = inr (inr (come (root_split p e.vm room.jobs room.agenda has)))
      where
        come : HasRoot p e.vm room.jobs ⊎ HasRoot p e.vm room.agenda → IsToCome p e.vm room
        come (inl has) = let a = among p e.vm room.jobs has in (a.0, inl a.1)
        come (inr has) = let a = among p e.vm room.agenda has in (a.0, inr a.1)

    coming : (p vm : ℕ) → IsToCome p vm room → HasRoot p vm (todo room)
    coming p vm comes = at_one comes.1
      where
        at_one : Contains room.jobs (jobs.Root vm p comes.0) ⊎ Contains room.agenda (jobs.Root vm p comes.0) → HasRoot p vm (todo room)
        at_one (inl is) = root_left p vm room.jobs room.agenda (contained p vm comes.0 room.jobs is)
        at_one (inr is) = root_right p vm room.jobs room.agenda (contained p vm comes.0 room.agenda is)

    none : room.is_begun ≡ false → (room.is_begun ≡ true) ⊎ ((todo room ≡ []) × (numbers room.lines ≡ []) × (room.waits ≡ [])) → numbers room.lines ≡ []
    none begun (inl is) = absurd (false_true (sym begun ∙ is))
      where
        false_true : false ≡ true → ⊥
        false_true e = cc e
    none begun (inr is) = is.1

pub roots_stand_for_life : StartsHaveRoots → WriteLogs calling → CallbacksChangeTheirOwn → PlacesStay → MadeVmsAreInPlace → RootsStandForLife
roots_stand_for_life starts logs change stay made config who seed all to walk =
    roots_of (rules_for config who seed) to.room
    (walked starts (rules_for config who seed) logs change stay (first_worker config who seed).state to all walk
    (first_sound config seed (rules_for config who seed) refl, made.placed config.vms)).0

pub roots_stand_after_turns : StartsHaveRoots → WriteLogs calling → CallbacksChangeTheirOwn → PlacesStay → MadeVmsAreInPlace → RootsStandAfterTurns
roots_stand_after_turns starts logs change stay made config who seed all to http chain rests =
    roots_of (rules_for config who seed) to.room
    (turned starts (rules_for config who seed) logs change stay (first_worker config who seed).state to all http chain rests refl
    (first_sound config seed (rules_for config who seed) refl, made.placed config.vms)).0

pub filters_get_contexts : FiltersGetContexts → RootsStandForLife → FiltersGetContextsForLife
filters_get_contexts gets stand config who seed all to e number k f walk some at of live left =
    by_stands (roots.each (begun to.room.is_begun refl) f.plugin e at)
  where
    roots : RootsStand (rules_for config who seed) to.room
    roots = stand config who seed all to walk

    begun : (b : Bool) → to.room.is_begun ≡ b → to.room.is_begun ≡ true
    begun true is = is
    begun false is = absurd (some (roots.not_begun is))

    never : is_dead e.vm to.room ≡ true → ⊥
    never dead = wrong (sym live ∙ (ap (λ (v : ℕ). is_dead v to.room) of ∙ dead))
      where
        wrong : false ≡ true → ⊥
        wrong e = cc e

    by_stands : (is_dead e.vm to.room ≡ true) ⊎ (RootStands to.room.hub.contexts f.plugin e.vm ⊎ IsToCome f.plugin e.vm to.room)
        → (root : ℕ) × ((plugin_in to.room.hub.contexts f.plugin).root ≡ Some root) × (create_filter number k (Some f) to.room ≡ with_stream number k f root to.room)
    by_stands (inl dead) = absurd (never dead)
    by_stands (inr (inl stands)) =
        let its : RootStands to.room.hub.contexts f.plugin f.vm = record { root = stands.root; is = stands.is; streams = subst (λ (v : ℕ). may_stream v stands.root to.room.hub.contexts ≡ true) (sym of) stands.streams } in
        (stands.root, stands.is, gets number k f to.room live left its)
    by_stands (inr (inr comes)) = absurd (some (roots.no_line f.plugin e.vm comes))
