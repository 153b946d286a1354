-- Why each death has a cause.
use Rattle.std.proofs.Common.{◌≡◌, ◌⊎◌, inl, inr, ℕ, Bool, true, false, not, ◌||◌, ◌==◌, List, [], ◌∷◌, ◌++◌, ap, ◌∙◌, sym, refl, subst, eqb-true}
use Rattle.std.specs.List.{list_any}
use Rattle.std.specs.Prelude.{Option, None, Some, nat_lt, slice_get, if◌then◌else◌}
use Rattle.callouts.specs.Callouts.{callout_in, after_heard as after_part_heard}
use Rattle.callouts.specs.Steps.{after_event, after_read}
use Rattle.callouts.specs.declared.types.Callout.{Callout}
use Rattle.callouts.specs.declared.types.CallStep.{CallStep}
use Rattle.callouts.specs.declared.types.CallStep.TheVariants as steps
use Rattle.contexts.specs.declared.parts.CallAnswer.{CallAnswer}
use Rattle.contexts.specs.Creating.{next_id, plugin_in, root_created}
use Rattle.filter_host.proofs.Holds.{AllEnds, all_reached}
use Rattle.filter_host.proofs.Once.{once}
use Rattle.filter_host.specs.Called.{Called, Calling}
use Rattle.filter_host.specs.Course.{Course, ends, runs_then, then_do, Met, Reaches}
use Rattle.filter_host.specs.declared.host.Callback.{Callback}
use Rattle.filter_host.specs.declared.host.Callback.TheVariants as callbacks
use Rattle.filter_host.specs.declared.host.CallbackEnd.{CallbackEnd}
use Rattle.filter_host.specs.declared.host.CallbackEnd.TheVariants as call_ends
use Rattle.filter_host.specs.declared.host.Death.{Death}
use Rattle.filter_host.specs.declared.host.Death.TheVariants as deaths
use Rattle.exchange.specs.declared.types.Filter.{Filter}
use Rattle.exchange.specs.declared.types.Hub.{Hub}
use Rattle.h1_model.specs.Unread.{Reading}
use Rattle.worker_model.specs.Room.{Room}
use Rattle.worker_model.specs.declared.types.Asked.{Asked}
use Rattle.worker_model.specs.declared.types.Job.{Job}
use Rattle.worker_model.specs.declared.types.Job.TheVariants as jobs
use Rattle.worker_model.specs.declared.types.Line.{Line}
use Rattle.worker_model.specs.declared.types.NewContext.{NewContext}
use Rattle.worker_model.specs.declared.types.Next.{Next}
use Rattle.worker_model.specs.declared.types.Next.TheVariants as next
use Rattle.worker_model.specs.declared.types.OtherStep.{OtherStep}
use Rattle.worker_model.specs.declared.types.OtherStep.TheVariants as others
use Rattle.worker_model.specs.declared.types.Owner.{Owner}
use Rattle.worker_model.specs.declared.types.Owner.TheVariants as owns
use Rattle.worker_model.specs.declared.types.ReadBatch.{ReadBatch}
use Rattle.worker_model.specs.Calls.{take_call_event, answer_if, put_call_answer, has_listener, close_call}
use Rattle.worker_model.specs.Moves.{asks_at}
use Rattle.worker_model.specs.Plan.{Plan}
use Rattle.worker_model.specs.Rooms.{take_callback_end, lose_vm_in, is_dead, next_of, room_with_sent, value_of_end, with_contexts, with_lines, without_effects}
use Rattle.worker_model.specs.Steps.{Answered, Both, Then, apply_stage_action, callback_result, both, called_in, callback_of, calls_live, create_context, create_filter, delete_context, finish_context, filter_at, continue_with, with_jobs_first, is_drawn_out, is_zero, made_with, may_root, may_stream, moved_with, nothing_more, notice_step, number_of, plugin_length, reading_on, reads_in, reads_next, root_jobs, create_root, step, create_stream, tells, tells_ready, reads_call, drop_answer, tells_call, ends_call, works_call, works_other, tick_root, ticks_with, unless_zero, vm_length, with_stream, works, works_first}
use Rattle.worker_model.specs.Turn.{without_sent, room_for_event}
use Rattle.law_body.proofs.Spent.{of_if, not_both}
use Rattle.law_flow.proofs.Callouts.{after_same}
use Rattle.law_flow.proofs.DeadLives.{vms_die}
use Rattle.law_flow.proofs.DeadRooms.{died_dead}
use Rattle.law_flow.proofs.DyingRooms.{Same, effects_same, done_same, deletes_same, ticked_same, noticed_same, quietly_same, begins_same, frees_same, ends_same, heard_same}
use Rattle.law_flow.proofs.Moving.{then_runs, Ran, ran}
use Rattle.law_flow.specs.Dead.{Runs, no_step, one_step, next_turn, begins}
use Rattle.law_flow.specs.Dying.{Callee, callee, live_callee, made_callee, ticked_callee, ready_callee, told_callee, ended_callee, call_callee, other_callee, job_callee, first_callee, asked_callee, step_callee, program_of, CallsBack, nothing, callback, CallbackEnds, Kills, by_callback, by_start, by_configuration, by_root, by_filter, DeadBehind, none_died, one_died, DeathsHaveCauses, KilledIn, by_this, by_later, in_turn, DeathsAreKillings, DyingExample}

-- ---- lists of the dead

any_behind : (p : ℕ → Bool) (vm : ℕ) (l : List ℕ) → list_any p l ≡ false → list_any p (l ++ vm ∷ []) ≡ true → p vm ≡ true
any_behind p vm [] none some = by_bool (p vm) some
  where
    by_bool : (c : Bool) → (c || false) ≡ true → c ≡ true
    by_bool true is = refl
    by_bool false is = is
any_behind p vm (x ∷ l) none some = by_bool (p x) (any_behind p vm l) none some
  where
    by_bool : (c : Bool) → (list_any p l ≡ false → list_any p (l ++ vm ∷ []) ≡ true → p vm ≡ true) → (c || list_any p l) ≡ false → (c || list_any p (l ++ vm ∷ [])) ≡ true → p vm ≡ true
    by_bool true later none_ some_ = absurd (cc)
    by_bool false later none_ some_ = later none_ some_

-- ---- how a course ends

ended : {A : Type 0} (x y : A) (ms : List Met) → Reaches (ends x) ms (ends y) → y ≡ x
ended x y [] reaches = sym (cc)
ended x y (m ∷ ms) reaches = absurd reaches

-- what an end of a callback makes of the dead; Z says which values kill
abbrev DeadAs : (ℕ → Option ℕ → Type 0) → ℕ → CallbackEnd → List ℕ → List ℕ → Type 0
DeadAs Z vm (call_ends.Returned value) dead after = (after ≡ dead) ⊎ (Z vm value × (after ≡ dead ++ vm ∷ []))
DeadAs Z vm (call_ends.Died death) dead after = after ≡ dead ++ vm ∷ []

-- it calls nothing; no id was left for a VM, as N says; or it calls this
data Goes {H : Type 0} (N : ℕ → Type 0) (Z : ℕ → Option ℕ → Type 0) (calling : Calling H) (o : Option Callee) (host : H) (dead : List ℕ) (ms : List Met) (m : Both H) : Type 0 where
  silent : o ≡ None → m.host ≡ host → m.room.dead ≡ dead → Goes N Z calling o host dead ms m
  drawn : (vm : ℕ) → o ≡ None → m.host ≡ host → N vm → m.room.dead ≡ dead ++ vm ∷ [] → Goes N Z calling o host dead ms m
  calls : (q : Callee) → o ≡ Some q → (c : Called H) → Reaches (runs_then (program_of calling host q) ends) ms (ends c) → m.host ≡ c.host → DeadAs Z q.vm c.end dead m.room.dead
      → Goes N Z calling o host dead ms m

abbrev No : ℕ → Type 0
No vm = ⊥

abbrev Never : ℕ → Option ℕ → Type 0
Never vm value = ⊥

-- what comes after a callback
record Behind (Z : ℕ → Option ℕ → Type 0) (vm : ℕ) (then_ : Then) : Type 0 where
  none : (r : Room) → Same r (then_ None r)
  some : (value : Option ℕ) (r : Room) → Same r (then_ (Some value) r) ⊎ (Z vm value × ((then_ (Some value) r).dead ≡ r.dead ++ vm ∷ []))

same_behind : (vm : ℕ) (then_ : Then) → ((value : Option (Option ℕ)) (r : Room) → Same r (then_ value r)) → Behind Never vm then_
same_behind vm then_ same = record { none = λ r. same None r; some = λ value r. inl (same (Some value) r) }

nothing_behind : (vm : ℕ) → Behind Never vm nothing_more
nothing_behind vm = same_behind vm nothing_more (λ value r. refl)

abbrev Zero : ℕ → ℕ → Option ℕ → Type 0
Zero vm v value = (v ≡ vm) × (is_zero value ≡ true)

zero_behind : (vm : ℕ) (death : Death) → Behind (Zero vm) vm (unless_zero vm death)
zero_behind vm death = record {
  none = λ r. refl;
  some = λ value r.
      of_if (λ (x : Room). Same r x ⊎ (Zero vm vm value × (x.dead ≡ r.dead ++ vm ∷ []))) (is_zero value) (lose_vm_in vm death r) r (λ is. inr ((refl, is), refl)) (λ is. inl refl);
}

acts_behind : (a : Asked) → Behind Never a.vm (apply_stage_action a)
acts_behind a = record { none = λ r. refl; some = λ value r. inl refl }

module _ {H : Type 0} (calling : Calling H) where
  abbrev came_to : ℕ → Owner → Room → Called H → Answered H
  came_to vm own room c = callback_result (value_of_end c.end) (both c.host (take_callback_end vm own c.end c.lines c.contexts room))

  abbrev in_full : Callee → Owner → Then → Called H → Both H
  in_full q own then_ c = continue_with then_ (came_to q.vm own q.room c)

  called_goes : (N : ℕ → Type 0) (Z : ℕ → Option ℕ → Type 0) (q : Callee) (own : Owner) (then_ : Then) (host : H) (ms : List Met) (m : Both H) → Behind Z q.vm then_
      → Reaches (then_do (called_in calling q.vm q.name q.context q.first q.second own host q.room) (λ a. ends (continue_with then_ a))) ms (ends m)
      → Goes N Z calling (Some q) host q.room.dead ms m
  called_goes N Z q own then_ host ms m behind reaches =
      let r : Ran (program_of calling host q) (in_full q own then_) ms m
      = ran (program_of calling host q) (in_full q own then_) ms m
      (subst (λ (k : Course (Both H)). Reaches k ms (ends m)) (then_runs (program_of calling host q) (λ c. ends (came_to q.vm own q.room c)) (λ a. ends (continue_with then_ a))) reaches) in
      calls q refl r.end r.reached (ap (λ (b : Both H). b.host) r.is) (subst (λ (b : Both H). DeadAs Z q.vm r.end.end q.room.dead b.room.dead) (sym r.is) (so r.end r.end.end))
    where
      so : (c : Called H) (e : CallbackEnd) → DeadAs Z q.vm e q.room.dead (then_ (value_of_end e) (take_callback_end q.vm own e c.lines c.contexts q.room)).dead
      so c (call_ends.Returned value) =
          let r : Room = take_callback_end q.vm own (call_ends.Returned value) c.lines c.contexts q.room in
          let same : r.dead ≡ q.room.dead = effects_same q.vm own c.contexts.effects (without_effects (room_with_sent c.lines (with_contexts c.contexts q.room))) in
          returned value r same (behind.some value r)
        where
          returned : (value : Option ℕ) (r : Room) → r.dead ≡ q.room.dead → Same r (then_ (Some value) r) ⊎ (Z q.vm value × ((then_ (Some value) r).dead ≡ r.dead ++ q.vm ∷ []))
              → (Same q.room (then_ (Some value) r)) ⊎ (Z q.vm value × ((then_ (Some value) r).dead ≡ q.room.dead ++ q.vm ∷ []))
          returned value r same (inl is) = inl (is ∙ same)
          returned value r same (inr is) = inr (is.0, is.1 ∙ ap (λ (l : List ℕ). l ++ q.vm ∷ []) same)
      so c (call_ends.Died death) = behind.none (take_callback_end q.vm own (call_ends.Died death) c.lines c.contexts q.room)

  live_goes : (N : ℕ → Type 0) (Z : ℕ → Option ℕ → Type 0) (vm : ℕ) (name : Callback) (context first second : ℕ) (then_ : Then) (host : H) (room : Room) (ms : List Met) (m : Both H) → Behind Z vm then_
      → Reaches (calls_live calling vm name context first second then_ host room) ms (ends m) → Goes N Z calling (live_callee vm name context first second room) host room.dead ms m
  live_goes N Z vm name context first second then_ host room ms m behind reaches = by_dead (is_dead vm room) reaches
    where
      by_dead : (d : Bool)
          → Reaches (then_do (if d then ends (callback_result None (both host room)) else called_in calling vm name context first second owns.Nobody host room) (λ a. ends (continue_with then_ a))) ms (ends m)
          → Goes N Z calling (if d then None else Some (callee vm name context first second room)) host room.dead ms m
      by_dead true r =
          let is : m ≡ both host (then_ None room) = ended (both host (then_ None room)) m ms r in
          silent refl (ap (λ (b : Both H). b.host) is) (ap (λ (b : Both H). b.room.dead) is ∙ behind.none room)
      by_dead false r = called_goes N Z (callee vm name context first second room) owns.Nobody then_ host ms m behind r

  tells_goes : (N : ℕ → Type 0) (vm : ℕ) (name : Callback) (context first : ℕ) (host : H) (room : Room) (ms : List Met) (m : Both H) → Reaches (tells calling vm name context first host room) ms (ends m)
      → Goes N Never calling (live_callee vm name context first 0 room) host room.dead ms m
  tells_goes N vm name context first host room ms m reaches = live_goes N Never vm name context first 0 nothing_more host room ms m (nothing_behind vm) reaches

  silent_goes : (N : ℕ → Type 0) (Z : ℕ → Option ℕ → Type 0) (host : H) (room after : Room) (ms : List Met) (m : Both H) → Same room after → Reaches (ends (both host after)) ms (ends m)
      → Goes N Z calling None host room.dead ms m
  silent_goes N Z host room after ms m same reaches =
      let is : m ≡ both host after = ended (both host after) m ms reaches in silent refl (ap (λ (b : Both H). b.host) is) (ap (λ (b : Both H). b.room.dead) is ∙ same)

  drawn_goes : (N : ℕ → Type 0) (host : H) (room : Room) (vm : ℕ) (ms : List Met) (m : Both H) → N vm → Reaches (ends (both host (lose_vm_in vm deaths.Ids room))) ms (ends m)
      → Goes N Never calling None host room.dead ms m
  drawn_goes N host room vm ms m why reaches =
      let is : m ≡ both host (lose_vm_in vm deaths.Ids room) = ended (both host (lose_vm_in vm deaths.Ids room)) m ms reaches in
      drawn vm refl (ap (λ (b : Both H). b.host) is) why (ap (λ (b : Both H). b.room.dead) is)

  moved_goes : (host : H) (room : Room) (r : Option Asked × List Line × Hub) (ms : List Met) (m : Both H) → Reaches (moved_with calling host room r) ms (ends m)
      → Goes No Never calling (asked_callee room r) host room.dead ms m
  moved_goes host room (None, lines, hub) ms m reaches = silent_goes No Never host room (with_lines room (lines, hub)) ms m refl reaches
  moved_goes host room (Some a, lines, hub) ms m reaches =
      called_goes No Never (callee a.vm (callback_of a.response a.ask.kind) a.context a.count (number_of a.ask.end) (with_lines room (lines, hub))) (owns.Stage a.context a.response) (apply_stage_action a) host ms m
      (acts_behind a) reaches

  -- a root is made
  abbrev NoRoot : ℕ → ℕ → Room → ℕ → Type 0
  NoRoot vm plugin room v = (v ≡ vm) × (may_root vm plugin room.hub.contexts ≡ true) × (is_drawn_out vm room.hub.contexts ≡ true)

  may_of : (d may : Bool) → (d || not may) ≡ false → may ≡ true
  may_of true may is = absurd (cc)
  may_of false true is = refl
  may_of false false is = absurd (cc)

  root_goes : (vm plugin : ℕ) (first : Bool) (host : H) (room : Room) (ms : List Met) (m : Both H) → Reaches (made_with calling host (create_root vm plugin first room)) ms (ends m)
      → Goes (NoRoot vm plugin room) Never calling (made_callee (create_root vm plugin first room)) host room.dead ms m
  root_goes vm plugin first host room ms m reaches =
      of_if P (is_dead vm room || not (may_root vm plugin room.hub.contexts)) _ _ (λ is r. silent_goes (NoRoot vm plugin room) Never host room room ms m refl r)
      (λ is. of_if P (is_drawn_out vm room.hub.contexts) _ _
      (λ out r. drawn_goes (NoRoot vm plugin room) host room vm ms m (refl, may_of (is_dead vm room) (may_root vm plugin room.hub.contexts) is, out) r)
      (λ left r. tells_goes (NoRoot vm plugin room) vm callbacks.ContextCreate (next_id room.hub.contexts vm) 0 host
      (with_jobs_first (root_jobs vm (next_id room.hub.contexts vm) plugin first) (with_contexts (root_created vm plugin room.hub.contexts) room)) ms m r))
      reaches
    where
      P : Option NewContext × Room → Type 0
      P r = Reaches (made_with calling host r) ms (ends m) → Goes (NoRoot vm plugin room) Never calling (made_callee r) host room.dead ms m

  -- the context of a filter is made
  record NoStream (number k : ℕ) (room : Room) (v : ℕ) : Type 0 where
    filter : Filter
    at : filter_at number k room.lines ≡ Some filter
    vm : filter.vm ≡ v
    root : ℕ
    of_plugin : (plugin_in room.hub.contexts filter.plugin).root ≡ Some root
    may : may_stream v root room.hub.contexts ≡ true
    out : is_drawn_out v room.hub.contexts ≡ true

  stream_goes : (number k : ℕ) (host : H) (room : Room) (ms : List Met) (m : Both H) → Reaches (made_with calling host (create_context number k room)) ms (ends m)
      → Goes (NoStream number k room) Never calling (made_callee (create_context number k room)) host room.dead ms m
  stream_goes number k host room ms m reaches = by_filter (filter_at number k room.lines) refl reaches
    where
      P : Option NewContext × Room → Type 0
      P r = Reaches (made_with calling host r) ms (ends m) → Goes (NoStream number k room) Never calling (made_callee r) host room.dead ms m

      by_root : (f : Filter) → filter_at number k room.lines ≡ Some f → (o : Option ℕ) → (plugin_in room.hub.contexts f.plugin).root ≡ o → P (create_stream number k f o room)
      by_root f at None is = λ r. silent_goes (NoStream number k room) Never host room room ms m refl r
      by_root f at (Some root) is =
          of_if P (is_dead f.vm room || not (may_stream f.vm root room.hub.contexts)) _ _ (λ no r. silent_goes (NoStream number k room) Never host room room ms m refl r)
          (λ yes. of_if P (is_drawn_out f.vm room.hub.contexts) _ _
          (λ out r. drawn_goes (NoStream number k room) host room f.vm ms m
          (record { filter = f; at = at; vm = refl; root = root; of_plugin = is; may = may_of (is_dead f.vm room) (may_stream f.vm root room.hub.contexts) yes; out = out }) r)
          (λ left r. tells_goes (NoStream number k room) f.vm callbacks.ContextCreate (next_id room.hub.contexts f.vm) root host (with_stream number k f root room).1 ms m r))

      by_filter : (o : Option Filter) → filter_at number k room.lines ≡ o → P (create_filter number k o room)
      by_filter None at = λ r. silent_goes (NoStream number k room) Never host room room ms m refl r
      by_filter (Some f) at = by_root f at (plugin_in room.hub.contexts f.plugin).root refl

  tick_goes : (vm root : ℕ) (host : H) (room : Room) (r : Bool × Room) (ms : List Met) (m : Both H) → Same room r.1 → Reaches (ticks_with calling vm root host r) ms (ends m)
      → Goes No Never calling (ticked_callee vm root r) host room.dead ms m
  tick_goes vm root host room (true, mid) ms m same reaches =
      subst (λ (l : List ℕ). Goes No Never calling (live_callee vm callbacks.Tick root 0 0 mid) host l ms m) same (tells_goes No vm callbacks.Tick root 0 host mid ms m reaches)
  tick_goes vm root host room (false, mid) ms m same reaches = silent_goes No Never host room mid ms m same reaches

  ready_goes : (vm root queue : ℕ) (host : H) (room : Room) (ms : List Met) (m : Both H) → Reaches (tells_ready calling vm root queue host room) ms (ends m)
      → Goes No Never calling (ready_callee vm root queue room) host room.dead ms m
  ready_goes vm root queue host room ms m reaches = by_may (may_stream vm root room.hub.contexts) reaches
    where
      by_may : (may : Bool) → Reaches (if may then tells calling vm callbacks.QueueReady root queue host room else ends (both host room)) ms (ends m)
          → Goes No Never calling (if may then live_callee vm callbacks.QueueReady root queue 0 room else None) host room.dead ms m
      by_may true r = tells_goes No vm callbacks.QueueReady root queue host room ms m r
      by_may false r = silent_goes No Never host room room ms m refl r

  -- the machines and the dead as before
  abbrev AsBefore : H → Room → Both H → Type 0
  AsBefore host room b = (b.host ≡ host) × (b.room.dead ≡ room.dead)

  notice_goes : (plan : Plan) (vm left : ℕ) (host : H) (room : Room) (ms : List Met) (m : Both H) → Reaches (notice_step plan vm left host room) ms (ends m) → AsBefore host room m
  notice_goes plan vm left host room ms m reaches =
      all_reached (AsBefore host room) ms (notice_step plan vm left host room) m
      (of_if (λ (c : Course (Both H)). AllEnds (AsBefore host room) c) ((left == 0 || is_dead vm room) || not (nat_lt vm plan.vms)) _ _ (λ is. (refl, refl))
      (λ is. λ reply. (refl, noticed_same vm left reply room))) reaches

  read_goes : (plan : Plan) (o : Option ReadBatch) (host : H) (room : Room) (ms : List Met) (m : Both H) → Reaches (reads_next plan o host room) ms (ends m) → AsBefore host room m
  read_goes plan None host room ms m reaches = all_reached (AsBefore host room) ms (reads_next plan None host room) m (refl, refl) reaches
  read_goes plan (Some r) host room ms m reaches = by_reading (reading_on r room) reaches
    where
      by_reading : (o : Option Reading) → Reaches (reads_in plan r o host room) ms (ends m) → AsBefore host room m
      by_reading None reached = all_reached (AsBefore host room) ms (reads_in plan r None host room) m (refl, refl) reached
      by_reading (Some reading) reached = all_reached (AsBefore host room) ms (reads_in plan r (Some reading) host room) m (λ h hears_. (refl, heard_same plan r h room)) reached

  -- ---- callouts

  told_goes : (a : Option CallAnswer) (c : Callout) (host : H) (room : Room) (ms : List Met) (m : Both H) → Reaches (tells_call calling a c host room) ms (ends m)
      → Goes No Never calling (told_callee a c room) host room.dead ms m
  told_goes a c host room ms m reaches = by_listener (has_listener c room) reaches
    where
      by_listener : (there : Bool)
          → Reaches (if there then calls_live calling c.vm callbacks.CallAnswered c.context c.id 0 (drop_answer c.vm c.context) host (put_call_answer a c.vm c.context room) else ends (both host room)) ms (ends m)
          → Goes No Never calling (if there then live_callee c.vm callbacks.CallAnswered c.context c.id 0 (put_call_answer a c.vm c.context room) else None) host room.dead ms m
      by_listener true r =
          live_goes No Never c.vm callbacks.CallAnswered c.context c.id 0 (drop_answer c.vm c.context) host (put_call_answer a c.vm c.context room) ms m
          (same_behind c.vm (drop_answer c.vm c.context) (λ value q. refl)) r
      by_listener false r = silent_goes No Never host room room ms m refl r

  ended_goes : (is_answered : Bool) (id : ℕ) (o : Option Callout) (host : H) (room : Room) (ms : List Met) (m : Both H) → Reaches (ends_call calling is_answered id o host room) ms (ends m)
      → Goes No Never calling (ended_callee is_answered id o room) host room.dead ms m
  ended_goes is_answered id None host room ms m reaches = silent_goes No Never host room room ms m refl reaches
  ended_goes is_answered id (Some c) host room ms m reaches = told_goes (answer_if is_answered c) c host (close_call id room) ms m reaches

  heard_goes : (id : ℕ) (o : Option Callout) (host : H) (room : Room) (ms : List Met) (m : Both H) → Reaches (reads_call id o host room) ms (ends m) → AsBefore host room m
  heard_goes id None host room ms m reaches = all_reached (AsBefore host room) ms (reads_call id None host room) m (refl, refl) reaches
  heard_goes id (Some c) host room ms m reaches =
      all_reached (AsBefore host room) ms (reads_call id (Some c) host room) m (λ h hears_. (refl, after_same (after_read id (after_part_heard h c) room.calls) room)) reaches

  call_goes : (step_ : CallStep) (host : H) (room : Room) (ms : List Met) (m : Both H) → Reaches (works_call calling step_ host room) ms (ends m)
      → Goes No Never calling (call_callee step_ room) host room.dead ms m
  call_goes (steps.Comes what) host room ms m reaches = silent_goes No Never host room (take_call_event what room) ms m (after_same (after_event what room.calls) room) reaches
  call_goes (steps.Read id) host room ms m reaches = let so : AsBefore host room m = heard_goes id (callout_in id room.calls) host room ms m reaches in silent refl so.0 so.1
  call_goes (steps.Fail id) host room ms m reaches = ended_goes false id (callout_in id room.calls) host room ms m reaches
  call_goes (steps.Answer id) host room ms m reaches = ended_goes true id (callout_in id room.calls) host room ms m reaches

  other_goes : (step_ : OtherStep) (host : H) (room : Room) (ms : List Met) (m : Both H) → Reaches (works_other calling step_ host room) ms (ends m)
      → Goes No Never calling (other_callee step_ room) host room.dead ms m
  other_goes (others.Call step_) host room ms m reaches = call_goes step_ host room ms m reaches
  other_goes (others.Tcp step_) host room ms m reaches = silent_goes No Never host room room ms m refl reaches

  -- ---- the cause

  module _ (nx : Next) (b : Both H) (ms : List Met) (m : Both H) where
    abbrev the_end : (q : Callee) (c : Called H) → step_callee nx b.room ≡ Some q → Reaches (runs_then (program_of calling b.host q) ends) ms (ends c) → CallbackEnds calling nx b ms q.vm c.end
    the_end q c is reached = record { asked = q; is = is; of_vm = refl; came = c; reached = reached; ended = refl }

    -- where its callback died, so did its VM
    abbrev pub Strikes : Type 0
    Strikes = (q : Callee) (c : Called H) (death : Death) → step_callee nx b.room ≡ Some q → Reaches (runs_then (program_of calling b.host q) ends) ms (ends c) → c.end ≡ call_ends.Died death
        → m.room.dead ≡ b.room.dead ++ q.vm ∷ []

    record StepSo : Type 0 where
      dead : DeadBehind calling nx b ms m
      back : CallsBack calling nx b ms m
      strikes : Strikes

    strikes_none : step_callee nx b.room ≡ None → Strikes
    strikes_none none q c death is reached died_ = absurd (none_some (sym none ∙ is))
      where
        none_some : None ≡ Some q → ⊥
        none_some e = cc

    caused : (N : ℕ → Type 0) (Z : ℕ → Option ℕ → Type 0) → ((vm : ℕ) → N vm → Kills calling nx b ms vm)
        → ((vm : ℕ) (value : Option ℕ) → Z vm value → CallbackEnds calling nx b ms vm (call_ends.Returned value) → Kills calling nx b ms vm)
        → Goes N Z calling (step_callee nx b.room) b.host b.room.dead ms m → StepSo
    caused N Z ids zeros (silent none host is) = record { dead = none_died is; back = nothing none host; strikes = strikes_none none }
    caused N Z ids zeros (drawn vm none host why is) = record { dead = one_died vm (ids vm why) is; back = nothing none host; strikes = strikes_none none }
    caused N Z ids zeros (calls q is c reached host dead) = record { dead = by_end c.end refl dead; back = callback q c is reached host; strikes = λ p d death. strikes p d death }
      where
        by_end : (e : CallbackEnd) → c.end ≡ e → DeadAs Z q.vm e b.room.dead m.room.dead → DeadBehind calling nx b ms m
        by_end (call_ends.Returned value) end_is (inl same) = none_died same
        by_end (call_ends.Returned value) end_is (inr (zero_, more)) =
            let k : Kills calling nx b ms q.vm = zeros q.vm value zero_ (subst (λ (e : CallbackEnd). CallbackEnds calling nx b ms q.vm e) end_is (the_end q c is reached)) in
            one_died q.vm k more
        by_end (call_ends.Died death) end_is more = one_died q.vm (by_callback death (subst (λ (e : CallbackEnd). CallbackEnds calling nx b ms q.vm e) end_is (the_end q c is reached))) more

        same_callee : (o : Option Callee) (x y : Callee) → o ≡ Some x → o ≡ Some y → x ≡ y
        same_callee o x y one other = cc

        strikes : (p : Callee) (d : Called H) (death : Death) → step_callee nx b.room ≡ Some p → Reaches (runs_then (program_of calling b.host p) ends) ms (ends d) → d.end ≡ call_ends.Died death
            → m.room.dead ≡ b.room.dead ++ p.vm ∷ []
        strikes p d death p_is came died_ =
            let same : q ≡ p = same_callee (step_callee nx b.room) q p is p_is in
            let there : Reaches (runs_then (program_of calling b.host q) ends) ms (ends d)
            = subst (λ (r : Callee). Reaches (runs_then (program_of calling b.host r) ends) ms (ends d)) (sym same) came in
            let one : c ≡ d = (once ms ms (runs_then (program_of calling b.host q) ends) c d reached there refl).1 in
            let end_is : c.end ≡ call_ends.Died death = ap (λ (e : Called H). e.end) one ∙ died_ in
            subst (λ (r : Callee). m.room.dead ≡ b.room.dead ++ r.vm ∷ []) same (subst (λ (e : CallbackEnd). DeadAs Z q.vm e b.room.dead m.room.dead) end_is dead)

  -- ---- the job in hand

  -- where no value kills, and ids are left
  calm : (nx : Next) (b : Both H) (ms : List Met) (m : Both H) → Goes No Never calling (step_callee nx b.room) b.host b.room.dead ms m → StepSo nx b ms m
  calm nx b ms m goes = caused nx b ms m No Never (λ vm why. absurd why) (λ vm value why. absurd why) goes

  works_so : (plan : Plan) (job : Job) (later : List Job) (b : Both H) (ms : List Met) (m : Both H) → b.room.jobs ≡ job ∷ later
      → Reaches (works calling plan job b.host (record b.room { jobs = later })) ms (ends m) → StepSo next.Work b ms m
  works_so plan job later b ms m is reaches = by_job job is reaches
    where
      room : Room
      room = record b.room { jobs = later }

      conv : (N : ℕ → Type 0) (Z : ℕ → Option ℕ → Type 0) (j : Job) → b.room.jobs ≡ j ∷ later → ((vm : ℕ) → N vm → Kills calling next.Work b ms vm)
          → ((vm : ℕ) (value : Option ℕ) → Z vm value → CallbackEnds calling next.Work b ms vm (call_ends.Returned value) → Kills calling next.Work b ms vm)
          → Goes N Z calling (job_callee j room) b.host b.room.dead ms m → StepSo next.Work b ms m
      conv N Z j here ids zeros goes =
          caused next.Work b ms m N Z ids zeros (subst (λ (js : List Job). Goes N Z calling (first_callee js b.room) b.host b.room.dead ms m) (sym here) goes)

      plain : (j : Job) → b.room.jobs ≡ j ∷ later → Goes No Never calling (job_callee j room) b.host b.room.dead ms m → StepSo next.Work b ms m
      plain j here goes = conv No Never j here (λ vm why. absurd why) (λ vm value why. absurd why) goes

      quiet : (j : Job) → b.room.jobs ≡ j ∷ later → job_callee j room ≡ None → (after : Room) → Same b.room after → Reaches (ends (both b.host after)) ms (ends m) → StepSo next.Work b ms m
      quiet j here none after same r =
          plain j here (subst (λ (o : Option Callee). Goes No Never calling o b.host b.room.dead ms m) (sym none) (silent_goes No Never b.host b.room after ms m same r))

      by_job : (j : Job) → b.room.jobs ≡ j ∷ later → Reaches (works calling plan j b.host room) ms (ends m) → StepSo next.Work b ms m
      by_job (jobs.Root vm plugin first) here r =
          conv (NoRoot vm plugin room) Never (jobs.Root vm plugin first) here
          (λ v why. subst (λ (w : ℕ). Kills calling next.Work b ms w) (sym why.0) (by_root plugin first later refl here why.1 why.2)) (λ v value why. absurd why)
          (root_goes vm plugin first b.host room ms m r)
      by_job (jobs.Create number k) here r =
          conv (NoStream number k room) Never (jobs.Create number k) here (λ v why. by_filter number k why.root why.filter later refl here why.at why.vm why.of_plugin why.may why.out)
          (λ v value why. absurd why) (stream_goes number k b.host room ms m r)
      by_job (jobs.Tick vm root) here r = plain (jobs.Tick vm root) here (tick_goes vm root b.host room (tick_root vm root room) ms m (ticked_same vm root room) r)
      by_job (jobs.Notice vm left) here r =
          let so : AsBefore b.host room m = notice_goes plan vm left b.host room ms m r in plain (jobs.Notice vm left) here (silent refl so.0 so.1)
      by_job (jobs.Ready vm root queue) here r = plain (jobs.Ready vm root queue) here (ready_goes vm root queue b.host room ms m r)
      by_job (jobs.Other step_) here r = plain (jobs.Other step_) here (other_goes step_ b.host room ms m r)
      by_job (jobs.Begin vm) here r = plain (jobs.Begin vm) here (tells_goes No vm callbacks.Begin 0 0 b.host room ms m r)
      by_job (jobs.Start vm root) here r =
          conv No (Zero vm) (jobs.Start vm root) here (λ v why. absurd why)
          (λ v value why end.
          subst (λ (w : ℕ). Kills calling next.Work b ms w) (sym why.0)
          (by_start root later value refl here (subst (λ (w : ℕ). CallbackEnds calling next.Work b ms w (call_ends.Returned value)) why.0 end) why.1))
          (live_goes No (Zero vm) vm callbacks.VmStart root (vm_length vm room.hub.contexts) 0 (unless_zero vm deaths.Start) b.host room ms m (zero_behind vm deaths.Start) r)
      by_job (jobs.Configure vm root plugin) here r =
          conv No (Zero vm) (jobs.Configure vm root plugin) here (λ v why. absurd why)
          (λ v value why end.
          subst (λ (w : ℕ). Kills calling next.Work b ms w) (sym why.0)
          (by_configuration root plugin later value refl here (subst (λ (w : ℕ). CallbackEnds calling next.Work b ms w (call_ends.Returned value)) why.0 end) why.1))
          (live_goes No (Zero vm) vm callbacks.Configure root (plugin_length plugin room.hub.contexts) 0 (unless_zero vm deaths.Configure) b.host room ms m (zero_behind vm deaths.Configure) r)
      by_job (jobs.Done c) here r =
          plain (jobs.Done c) here (live_goes No Never c.vm callbacks.Done c.context 0 0 (finish_context c) b.host room ms m (same_behind c.vm (finish_context c) (λ value q. done_same c value q)) r)
      by_job (jobs.Log c) here r = plain (jobs.Log c) here (tells_goes No c.vm callbacks.Log c.context 0 b.host room ms m r)
      by_job (jobs.Delete c) here r =
          plain (jobs.Delete c) here (live_goes No Never c.vm callbacks.Delete c.context 0 0 (delete_context c) b.host room ms m (same_behind c.vm (delete_context c) (λ value q. deletes_same c value q)) r)
      by_job jobs.Expire here r = quiet jobs.Expire here refl _ (quietly_same jobs.Expire room) r
      by_job (jobs.Happen w) here r = quiet (jobs.Happen w) here refl _ (quietly_same (jobs.Happen w) room) r
      by_job (jobs.Enter number) here r = quiet (jobs.Enter number) here refl _ (quietly_same (jobs.Enter number) room) r
      by_job (jobs.Put number response items) here r = quiet (jobs.Put number response items) here refl _ (quietly_same (jobs.Put number response items) room) r
      by_job (jobs.Refuse number status) here r = quiet (jobs.Refuse number status) here refl _ (quietly_same (jobs.Refuse number status) room) r
      by_job (jobs.Close number stays) here r = quiet (jobs.Close number stays) here refl _ (quietly_same (jobs.Close number stays) room) r

  -- ---- the step

  step_so : (plan : Plan) (nx : Next) (b : Both H) (ms : List Met) (m : Both H) → Reaches (step calling plan nx b.host b.room) ms (ends m) → StepSo nx b ms m
  step_so plan next.Read b ms m reaches = let so : AsBefore b.host b.room m = read_goes plan b.room.reading b.host b.room ms m reaches in calm next.Read b ms m (silent refl so.0 so.1)
  step_so plan (next.Move place) b ms m reaches =
      calm (next.Move place) b ms m (moved_goes b.host b.room (asks_at place (slice_get b.room.lines place) b.room.lines b.room.hub) ms m reaches)
  step_so plan next.Work b ms m reaches = by_jobs b.room.jobs refl reaches
    where
      by_jobs : (js : List Job) → b.room.jobs ≡ js → Reaches (works_first calling plan js b.host b.room) ms (ends m) → StepSo next.Work b ms m
      by_jobs [] is r =
          calm next.Work b ms m (subst (λ (js : List Job). Goes No Never calling (first_callee js b.room) b.host b.room.dead ms m) (sym is) (silent_goes No Never b.host b.room b.room ms m refl r))
      by_jobs (job ∷ later) is r = works_so plan job later b ms m is r
  step_so plan (next.Free at) b ms m reaches = calm (next.Free at) b ms m (silent_goes No Never b.host b.room _ ms m (frees_same at b.room) reaches)
  step_so plan (next.End place) b ms m reaches = calm (next.End place) b ms m (silent_goes No Never b.host b.room _ ms m (ends_same place b.room) reaches)
  step_so plan next.Begin b ms m reaches = calm next.Begin b ms m (silent_goes No Never b.host b.room _ ms m (begins_same b.room.agenda b.room) reaches)
  step_so plan next.Rest b ms m reaches = calm next.Rest b ms m (silent_goes No Never b.host b.room b.room ms m refl reaches)

  -- who came among the dead
  newly : (b m : Both H) (vm v : ℕ) → m.room.dead ≡ b.room.dead ++ v ∷ [] → is_dead vm b.room ≡ false → is_dead vm m.room ≡ true → v ≡ vm
  newly b m vm v more alive dead =
      eqb-true v vm (any_behind (λ (d : ℕ). d == vm) v b.room.dead alive (subst (λ (l : List ℕ). list_any (λ (d : ℕ). d == vm) l ≡ true) more dead))

  not_newly : (b m : Both H) (vm : ℕ) → m.room.dead ≡ b.room.dead → is_dead vm b.room ≡ false → is_dead vm m.room ≡ true → ⊥
  not_newly b m vm same alive dead = not_both (is_dead vm b.room) (subst (λ (l : List ℕ). list_any (λ (d : ℕ). d == vm) l ≡ true) same dead) alive

  cause_of : (nx : Next) (b : Both H) (ms : List Met) (m : Both H) (vm : ℕ) → DeadBehind calling nx b ms m → is_dead vm b.room ≡ false → is_dead vm m.room ≡ true
      → Kills calling nx b ms vm
  cause_of nx b ms m vm (none_died same) alive dead = absurd (not_newly b m vm same alive dead)
  cause_of nx b ms m vm (one_died v kills more) alive dead = subst (λ (w : ℕ). Kills calling nx b ms w) (newly b m vm v more alive dead) kills

  one_of : (nx : Next) (b : Both H) (ms : List Met) (m : Both H) (v w : ℕ) → DeadBehind calling nx b ms m → is_dead v b.room ≡ false → is_dead w b.room ≡ false
      → is_dead v m.room ≡ true → is_dead w m.room ≡ true → v ≡ w
  one_of nx b ms m v w (none_died same) one other first second = absurd (not_newly b m v same one first)
  one_of nx b ms m v w (one_died u kills more) one other first second = sym (newly b m v u more one first) ∙ newly b m w u more other second

  -- ---- who is killed is dead

  any_first : (p : ℕ → Bool) (l : List ℕ) (v : ℕ) → list_any p l ≡ true → list_any p (l ++ v ∷ []) ≡ true
  any_first p [] v is = absurd (cc)
  any_first p (x ∷ l) v is = by_bool (p x) is (any_first p l v)
    where
      by_bool : (c : Bool) → (c || list_any p l) ≡ true → (list_any p l ≡ true → list_any p (l ++ v ∷ []) ≡ true) → (c || list_any p (l ++ v ∷ [])) ≡ true
      by_bool true is_ later = refl
      by_bool false is_ later = later is_

  abbrev Among : ℕ → List ℕ → Type 0
  Among vm l = list_any (λ (d : ℕ). d == vm) l ≡ true

  still : (vm : ℕ) (dead after : List ℕ) → Among vm dead → after ≡ dead → Among vm after
  still vm dead after there same = subst (Among vm) (sym same) there

  still_more : (vm v : ℕ) (dead after : List ℕ) → Among vm dead → after ≡ dead ++ v ∷ [] → Among vm after
  still_more vm v dead after there more = subst (Among vm) (sym more) (any_first (λ (d : ℕ). d == vm) dead v there)

  -- who was dead still is
  stays_dead : (N : ℕ → Type 0) (o : Option Callee) (host : H) (dead : List ℕ) (ms : List Met) (m : Both H) (vm : ℕ) → Goes N Never calling o host dead ms m → Among vm dead → is_dead vm m.room ≡ true
  stays_dead N o host dead ms m vm (silent none here same) there = still vm dead m.room.dead there same
  stays_dead N o host dead ms m vm (drawn v none here why more) there = still_more vm v dead m.room.dead there more
  stays_dead N o host dead ms m vm (calls q is c reached here as_) there = by_end c.end as_
    where
      by_end : (e : CallbackEnd) → DeadAs Never q.vm e dead m.room.dead → is_dead vm m.room ≡ true
      by_end (call_ends.Returned value) (inl same) = still vm dead m.room.dead there same
      by_end (call_ends.Returned value) (inr more) = still_more vm q.vm dead m.room.dead there more.1
      by_end (call_ends.Died death) more = still_more vm q.vm dead m.room.dead there more

  made_goes : (host : H) (r : Option NewContext × Room) (ms : List Met) (m : Both H) → Reaches (made_with calling host r) ms (ends m) → Goes No Never calling (made_callee r) host r.1.dead ms m
  made_goes host (None, room) ms m reaches = silent_goes No Never host room room ms m refl reaches
  made_goes host (Some c, room) ms m reaches = tells_goes No c.vm callbacks.ContextCreate c.context c.root host room ms m reaches

  made_dead : (vm : ℕ) (host : H) (r : Option NewContext × Room) (ms : List Met) (m : Both H) → is_dead vm r.1 ≡ true → Reaches (made_with calling host r) ms (ends m) → is_dead vm m.room ≡ true
  made_dead vm host r ms m there reaches = stays_dead No (made_callee r) host r.1.dead ms m vm (made_goes host r ms m reaches) there

  -- it answered 0
  zero_dead : (vm : ℕ) (name : Callback) (context first second : ℕ) (death : Death) (host : H) (room : Room) (ms : List Met) (m : Both H) (value : Option ℕ) (q : Callee) (c : Called H)
      → live_callee vm name context first second room ≡ Some q → Reaches (runs_then (program_of calling host q) ends) ms (ends c) → c.end ≡ call_ends.Returned value → is_zero value ≡ true
      → Reaches (calls_live calling vm name context first second (unless_zero vm death) host room) ms (ends m) → is_dead vm m.room ≡ true
  zero_dead vm name context first second death host room ms m value q c is came end_is zero_ reaches = by_dead (is_dead vm room) is reaches
    where
      o : Callee
      o = callee vm name context first second room

      none_some : None ≡ Some q → ⊥
      none_some e = cc

      same : Some o ≡ Some q → o ≡ q
      same e = cc

      by_dead : (d : Bool) → (if d then None else Some o) ≡ Some q
          → Reaches (then_do (if d then ends (callback_result None (both host room)) else called_in calling vm name context first second owns.Nobody host room) (λ a. ends (continue_with (unless_zero vm death) a))) ms (ends m)
          → is_dead vm m.room ≡ true
      by_dead true some r = absurd (none_some some)
      by_dead false some r =
          let run : Ran (program_of calling host o) (in_full o owns.Nobody (unless_zero vm death)) ms m
          = ran (program_of calling host o) (in_full o owns.Nobody (unless_zero vm death)) ms m
          (subst (λ (k : Course (Both H)). Reaches k ms (ends m)) (then_runs (program_of calling host o) (λ e. ends (came_to vm owns.Nobody room e)) (λ a. ends (continue_with (unless_zero vm death) a))) r) in
          let there : Reaches (runs_then (program_of calling host o) ends) ms (ends c)
          = subst (λ (p : Callee). Reaches (runs_then (program_of calling host p) ends) ms (ends c)) (sym (same some)) came in
          let one : run.end ≡ c = (once ms ms (runs_then (program_of calling host o) ends) run.end c run.reached there refl).1 in
          let returned : run.end.end ≡ call_ends.Returned value = ap (λ (e : Called H). e.end) one ∙ end_is in
          subst (λ (e : Both H). is_dead vm e.room ≡ true) (sym run.is)
          (subst (λ (e : CallbackEnd). is_dead vm (unless_zero vm death (value_of_end e) (take_callback_end vm owns.Nobody e run.end.lines run.end.contexts room)) ≡ true) (sym returned)
          (vms_die.starts vm value death (take_callback_end vm owns.Nobody (call_ends.Returned value) run.end.lines run.end.contexts room) zero_))

  module _ (plan : Plan) (b : Both H) (ms : List Met) (m : Both H) where
    abbrev in_hand : List Job → Room
    in_hand later = record b.room { jobs = later }

    -- the step does the first job
    job_done : (nx : Next) (job : Job) (later : List Job) → nx ≡ next.Work → b.room.jobs ≡ job ∷ later → Reaches (step calling plan nx b.host b.room) ms (ends m)
        → Reaches (works calling plan job b.host (in_hand later)) ms (ends m)
    job_done nx job later work is reaches =
        subst (λ (js : List Job). Reaches (works_first calling plan js b.host b.room) ms (ends m)) is (subst (λ (n : Next). Reaches (step calling plan n b.host b.room) ms (ends m)) work reaches)

    job_calls : (nx : Next) (job : Job) (later : List Job) (q : Callee) → nx ≡ next.Work → b.room.jobs ≡ job ∷ later → step_callee nx b.room ≡ Some q → job_callee job (in_hand later) ≡ Some q
    job_calls nx job later q work is calls_ =
        subst (λ (js : List Job). first_callee js b.room ≡ Some q) is (subst (λ (n : Next). step_callee n b.room ≡ Some q) work calls_)

    killed_dead : (nx : Next) (vm : ℕ) → Reaches (step calling plan nx b.host b.room) ms (ends m) → Kills calling nx b ms vm → is_dead vm m.room ≡ true
    killed_dead nx vm reaches (by_callback death end) =
        let more : m.room.dead ≡ b.room.dead ++ end.asked.vm ∷ [] = (step_so plan nx b ms m reaches).strikes end.asked end.came death end.is end.reached end.ended in
        let here : m.room.dead ≡ b.room.dead ++ vm ∷ [] = subst (λ (v : ℕ). m.room.dead ≡ b.room.dead ++ v ∷ []) end.of_vm more in
        subst (Among vm) (sym here) (died_dead vm death b.room)
    killed_dead nx vm reaches (by_start root later value work is end zero_) =
        zero_dead vm callbacks.VmStart root (vm_length vm b.room.hub.contexts) 0 deaths.Start b.host (in_hand later) ms m value end.asked end.came
        (job_calls nx (jobs.Start vm root) later end.asked work is end.is) end.reached end.ended zero_ (job_done nx (jobs.Start vm root) later work is reaches)
    killed_dead nx vm reaches (by_configuration root plugin later value work is end zero_) =
        zero_dead vm callbacks.Configure root (plugin_length plugin b.room.hub.contexts) 0 deaths.Configure b.host (in_hand later) ms m value end.asked end.came
        (job_calls nx (jobs.Configure vm root plugin) later end.asked work is end.is) end.reached end.ended zero_ (job_done nx (jobs.Configure vm root plugin) later work is reaches)
    killed_dead nx vm reaches (by_root plugin first later work is may out) =
        made_dead vm b.host (create_root vm plugin first (in_hand later)) ms m (vms_die.roots vm plugin first (in_hand later) may out) (job_done nx (jobs.Root vm plugin first) later work is reaches)
    killed_dead nx vm reaches (by_filter number k root f later work is at of_vm of_plugin may out) =
        let r : create_context number k (in_hand later) ≡ create_stream number k f (Some root) (in_hand later)
        = ap (λ (o : Option Filter). create_filter number k o (in_hand later)) at ∙ ap (λ (o : Option ℕ). create_stream number k f o (in_hand later)) of_plugin in
        let dead_then : is_dead f.vm (create_stream number k f (Some root) (in_hand later)).1 ≡ true
        = vms_die.streams number k root f (in_hand later) (subst (λ (v : ℕ). may_stream v root b.room.hub.contexts ≡ true) (sym of_vm) may)
        (subst (λ (v : ℕ). is_drawn_out v b.room.hub.contexts ≡ true) (sym of_vm) out) in
        made_dead vm b.host (create_stream number k f (Some root) (in_hand later)) ms m (subst (λ (v : ℕ). is_dead v (create_stream number k f (Some root) (in_hand later)).1 ≡ true) of_vm dead_then)
        (subst (λ (x : Option NewContext × Room). Reaches (made_with calling b.host x) ms (ends m)) r (job_done nx (jobs.Create number k) later work is reaches))

  -- ---- over a life

  killed_in : (plan : Plan) (b e : Both H) (vm : ℕ) (runs : Runs calling plan b e) → is_dead vm b.room ≡ false → is_dead vm e.room ≡ true → KilledIn calling plan vm b e runs
  killed_in plan _ _ vm (no_step b) alive dead = absurd (not_both (is_dead vm b.room) dead alive)
  killed_in plan _ _ vm (one_step b m e ms reaches more) alive dead = by_mid (is_dead vm m.room) refl (λ here. killed_in plan m e vm more here dead)
    where
      by_mid : (d : Bool) → is_dead vm m.room ≡ d → (is_dead vm m.room ≡ false → KilledIn calling plan vm m e more) → KilledIn calling plan vm b e (one_step b m e ms reaches more)
      by_mid true is further =
          let k : Kills calling (next_of b.room) b ms vm = cause_of (next_of b.room) b ms m vm (step_so plan (next_of b.room) b ms m reaches).dead alive is in by_this b m e ms reaches more alive k
      by_mid false is further = by_later b m e ms reaches more (further is)
  killed_in plan _ _ vm (next_turn b e event more) alive dead =
      in_turn b e event more (killed_in plan (both b.host (room_for_event plan event (without_sent b.room))) e vm more alive dead)

pub deaths_have_causes : (H : Type 0) → DeathsHaveCauses H
deaths_have_causes H = record {
  calls = λ calling plan nx b m ms reaches. (step_so calling plan nx b ms m reaches).back;
  dead = λ calling plan nx b m ms reaches. (step_so calling plan nx b ms m reaches).dead;
  causes = λ calling plan nx b m ms vm reaches alive dead. cause_of calling nx b ms m vm (step_so calling plan nx b ms m reaches).dead alive dead;
  killed = λ calling plan nx b m ms vm reaches kills. killed_dead calling plan b ms m nx vm reaches kills;
  one = λ calling plan nx b m ms v w reaches one other first second. one_of calling nx b ms m v w (step_so calling plan nx b ms m reaches).dead one other first second;
}

pub deaths_are_killings : (H : Type 0) → DeathsAreKillings H
deaths_are_killings H calling plan b e vm runs alive dead = killed_in calling plan b e vm runs alive dead

-- ---- worked

pub dying_example : DyingExample
dying_example = record {
  next = refl;
  reached = refl;
  alive = refl;
  dead = refl;
  kills =
      by_start 1 _ (Some 0) refl refl
      (record { asked = callee 0 callbacks.VmStart 1 0 0 (record begins.room { jobs = jobs.Configure 0 1 0 ∷ [] }); is = refl; of_vm = refl; came = _; reached = refl; ended = refl }) refl;
  then_none = refl;
  then_dead = refl;
}
