-- Why steps whose callback died leave a direction as it was, where the exchange has no stage of its VM.
use Rattle.std.proofs.Common.{◌≡◌, ℕ, Bool, true, false, not, ◌||◌, ◌==◌, List, [], ◌∷◌, ap, ◌∙◌, sym, refl, subst, eq-eqb}
use Rattle.std.specs.Prelude.{Option, None, Some, slice_get, if◌then◌else◌}
use Rattle.callouts.specs.Callouts.{callout_in}
use Rattle.callouts.specs.declared.types.Callout.{Callout}
use Rattle.callouts.specs.declared.types.CallStep.{CallStep}
use Rattle.callouts.specs.declared.types.CallStep.TheVariants as steps
use Rattle.contexts.specs.declared.parts.CallAnswer.{CallAnswer}
use Rattle.contexts.specs.Creating.{plugin_in}
use Rattle.filter_host.specs.Called.{Called, Calling}
use Rattle.filter_host.specs.Course.{Course, ends, runs_then, then_do, Met, Reaches}
use Rattle.filter_host.specs.declared.host.Callback.{Callback}
use Rattle.filter_host.specs.declared.host.Callback.TheVariants as callbacks
use Rattle.filter_host.specs.declared.host.CallbackEnd.{CallbackEnd}
use Rattle.filter_host.specs.declared.host.CallbackEnd.TheVariants as call_ends
use Rattle.filter_host.specs.declared.host.Death.{Death}
use Rattle.filter_host.specs.declared.host.Death.TheVariants as deaths
use Rattle.exchange.specs.declared.types.Exchange.{Exchange}
use Rattle.exchange.specs.declared.types.Filter.{Filter}
use Rattle.exchange.specs.declared.types.Hub.{Hub}
use Rattle.exchange.specs.Passing.{chain_of}
use Rattle.filter_chain.specs.declared.stage.Stage.{Stage}
use Rattle.worker_model.specs.Room.{Room}
use Rattle.worker_model.specs.declared.types.Asked.{Asked}
use Rattle.worker_model.specs.declared.types.Job.{Job}
use Rattle.worker_model.specs.declared.types.Job.TheVariants as jobs
use Rattle.worker_model.specs.declared.types.Line.{Line}
use Rattle.worker_model.specs.declared.types.NewContext.{NewContext}
use Rattle.worker_model.specs.declared.types.Next.TheVariants as next
use Rattle.worker_model.specs.declared.types.OtherStep.{OtherStep}
use Rattle.worker_model.specs.declared.types.OtherStep.TheVariants as others
use Rattle.worker_model.specs.declared.types.Owner.TheVariants as owns
use Rattle.worker_model.specs.Calls.{answer_if, put_call_answer, has_listener, close_call}
use Rattle.worker_model.specs.Moves.{asks_at}
use Rattle.worker_model.specs.Plan.{Plan}
use Rattle.worker_model.specs.Rooms.{place_in, take_callback_end, lose_vm_in, is_dead, value_of_end, with_lines}
use Rattle.worker_model.specs.Steps.{Answered, Both, Then, callback_result, both, called_in, calls_live, create_context, create_filter, delete_context, finish_context, filter_at, continue_with, with_jobs_first, is_drawn_out, last_jobs, made_with, may_root, may_stream, nothing_more, plugin_length, create_root, step, create_stream, tells, drop_answer, tells_call, ends_call, works_call, works_other, tick_root, ticks_with, unless_zero, vm_length, with_stream, works}
use Rattle.law_chain.specs.Acts.{HoldSame, AreThere, NotOf}
use Rattle.law_flow.specs.Besides.{OthersAreAlien, IsWhole}
use Rattle.law_flow.specs.Deaths.{NoneOf}
use Rattle.law_flow.specs.Dying.{Callee, callee, live_callee, made_callee, ticked_callee, told_callee, ended_callee, call_callee, other_callee, job_callee, program_of}
use Rattle.law_flow.specs.Elsewhere.{asked_program}
use Rattle.law_flow.specs.Rooms.{IsOn, Leaves, leaves, quiet_room, Meanwhile, nothing, other}
use Rattle.law_flow.specs.Stepping.{DiesBeside}
use Rattle.law_body.proofs.Spent.{of_if, not_both}
use Rattle.law_flow.proofs.Besides.{stays}
use Rattle.law_flow.proofs.Callouts.{closes_call, puts_answer}
use Rattle.law_flow.proofs.Contexts.{contexts_leave}
use Rattle.law_flow.proofs.Deaths.{all_lines_leave}
use Rattle.law_flow.proofs.Effects.{quietly, asking_elsewhere}
use Rattle.law_flow.proofs.Elsewhere.{other_lines_move}
use Rattle.law_flow.proofs.Jobs.{jobs_leave}
use Rattle.law_flow.proofs.Moving.{deaths_end_moves, then_runs, Ran, ran}

-- what a step comes to
abbrev pub Comes : Bool → ℕ → ℕ → Exchange → Room → Room → Type 0
Comes response n count x room after = (y : Exchange) × Meanwhile response n count x room y after

none_some : {A : Type 0} (a : A) → None ≡ Some a → ⊥
none_some a e = cc

some_same : {A : Type 0} (a b : A) → Some a ≡ Some b → a ≡ b
some_same a b e = cc

-- ---- no stage of the VM

none_of : (response : Bool) (vm : ℕ) (x : Exchange) → NoneOf vm x.request → NoneOf vm x.response → NoneOf vm (chain_of response x)
none_of false vm x requests responses = requests
none_of true vm x requests responses = responses

not_of : (vm context : ℕ) (ss : List Stage) → NoneOf vm ss → NotOf vm context ss
not_of vm context [] none = tt
not_of vm context (s ∷ ss) none = (λ same also. not_both (s.vm == vm) (eq-eqb s.vm vm same) none.0, not_of vm context ss none.1)

-- ---- where a context was made, ids were left

abbrev None_made : Callee → Option NewContext × Room → Type 0
None_made q r = made_callee r ≡ Some q → ⊥

root_left : (vm plugin : ℕ) (first : Bool) (room : Room) (q : Callee) → made_callee (create_root vm plugin first room) ≡ Some q → is_drawn_out vm room.hub.contexts ≡ false
root_left vm plugin first room q is = by_drawn (is_drawn_out vm room.hub.contexts) refl
  where
    by_drawn : (d : Bool) → is_drawn_out vm room.hub.contexts ≡ d → d ≡ false
    by_drawn false out = refl
    by_drawn true out =
        absurd (of_if (None_made q) (is_dead vm room || not (may_root vm plugin room.hub.contexts)) (None, room) _ (λ e made. none_some q made)
        (λ e. of_if (None_made q) (is_drawn_out vm room.hub.contexts) (None, lose_vm_in vm deaths.Ids room) _ (λ d made. none_some q made)
        (λ d made. not_both (is_drawn_out vm room.hub.contexts) out d)) is)

stream_left : (number k : ℕ) (room : Room) (q : Callee) → made_callee (create_context number k room) ≡ Some q → (f : Filter) → filter_at number k room.lines ≡ Some f
    → is_drawn_out f.vm room.hub.contexts ≡ false
stream_left number k room q is f at = by_drawn (is_drawn_out f.vm room.hub.contexts) refl
  where
    by_root : is_drawn_out f.vm room.hub.contexts ≡ true → (o : Option ℕ) → None_made q (create_stream number k f o room)
    by_root out None = λ made. none_some q made
    by_root out (Some root) =
        of_if (None_made q) (is_dead f.vm room || not (may_stream f.vm root room.hub.contexts)) (None, room) _ (λ e made. none_some q made)
        (λ e. of_if (None_made q) (is_drawn_out f.vm room.hub.contexts) (None, lose_vm_in f.vm deaths.Ids room) (with_stream number k f root room) (λ d made. none_some q made)
        (λ d made. not_both (is_drawn_out f.vm room.hub.contexts) out d))

    by_drawn : (d : Bool) → is_drawn_out f.vm room.hub.contexts ≡ d → d ≡ false
    by_drawn false out = refl
    by_drawn true out =
        absurd (by_root out (plugin_in room.hub.contexts f.plugin).root (subst (λ (o : Option Filter). made_callee (create_filter number k o room) ≡ Some q) at is))

whole_alike : (response : Bool) (n : ℕ) (x : Exchange) (room after : Room) → IsOn n room x → IsWhole response x room → after.lines ≡ room.lines → after.hub ≡ room.hub
    → Leaves response n x room x after
whole_alike response n x room after on whole lines hub =
    let l : Leaves response n x room x room = stays response n x room on whole in
    record {
      on = record {
        place = on.place;
        line = on.line;
        stands = ap (place_in n) lines ∙ on.stands;
        at = ap (λ (ls : List Line). slice_get ls on.place) lines ∙ on.at;
        number = on.number;
        exchange = on.exchange;
      };
      chain = refl;
      holds = subst (λ (h : Hub). HoldSame room.hub.contexts h.contexts (chain_of response x)) (sym hub) l.holds;
      there = subst (λ (h : Hub). AreThere h.contexts (chain_of response x)) (sym hub) whole;
    }

-- ---- after a callback that died

module _ {H : Type 0} (response : Bool) (n : ℕ) (x : Exchange) (room : Room) (vm : ℕ) (c : Called H) (on : IsOn n room x) (e : DiesBeside response n vm c x room) where
  abbrev pub behind_death : Room
  behind_death = lose_vm_in vm e.death (quiet_room c room)

  quiet_leaves : Leaves response n x room x (quiet_room c room)
  quiet_leaves = quietly response n c x room on e.holds e.there

  death_leaves : Leaves response n x (quiet_room c room) x behind_death
  death_leaves =
      all_lines_leave.dying vm e.death response n x (quiet_room c room) (record { place = on.place; line = on.line; stands = on.stands; at = on.at; number = on.number; exchange = on.exchange })
      (e.alien on) quiet_leaves.there e.opens e.of_request e.of_response

  chain_free : NoneOf vm (chain_of response x)
  chain_free = none_of response vm x e.of_request e.of_response

module _ {H : Type 0} (calling : Calling H) (plan : Plan) (response : Bool) (n count : ℕ) where
  -- ---- a move of another line

  pub moved_died : (place : ℕ) (x : Exchange) (room : Room) (host : H) (m : Both H) (ms : List Met) (on : IsOn n room x) → OthersAreAlien (chain_of response x) on.place room
      → IsWhole response x room → (place ≡ on.place → ⊥)
      → ((a : Asked) (lines : List Line) (hub : Hub) (c : Called H) → asks_at place (slice_get room.lines place) room.lines room.hub ≡ (Some a, lines, hub)
      → Reaches (runs_then (asked_program calling host a (with_lines room (lines, hub))) ends) ms (ends c) → DiesBeside response n a.vm c x (with_lines room (lines, hub)))
      → Reaches (step calling plan (next.Move place) host room) ms (ends m) → Comes response n count x room m.room
  moved_died place x room host m ms on alien whole apart may reaches = by_asked (asks_at place (slice_get room.lines place) room.lines room.hub) refl
    where
      by_asked : (r : Option Asked × List Line × Hub) → asks_at place (slice_get room.lines place) room.lines room.hub ≡ r → Comes response n count x room m.room
      by_asked (None, lines, hub) is =
          other_lines_move H calling plan response n count place x room on host ms m alien whole apart
          (λ a ls h c also reached. absurd (none_some a (ap (λ (r : Option Asked × List Line × Hub). r.0) (sym is ∙ also)))) reaches
      by_asked (Some a, lines, hub) is =
          let room1 : Room = with_lines room (lines, hub) in
          let l : Leaves response n x room x room1
          = subst (λ (r : Option Asked × List Line × Hub). Leaves response n x room x (with_lines room (r.1, r.2))) is (asking_elsewhere response n place x room on alien whole apart) in
          let end : (c : Called H) × Reaches (runs_then (asked_program calling host a room1) ends) ms (ends c)
          × ((death : Death) → c.end ≡ call_ends.Died death → m ≡ both c.host (lose_vm_in a.vm death (quiet_room c room1)))
          = deaths_end_moves H calling plan place host room a lines hub ms m is reaches in
          let c : Called H = end.0 in
          let e : DiesBeside response n a.vm c x room1 = may a lines hub c is end.1 in
          subst (λ (d : Both H). Comes response n count x room d.room) (sym (end.2 e.death e.ended)) (
            x,
            other (leaves l) (other (leaves (quiet_leaves response n x room1 a.vm c l.on e))
                (other (leaves (death_leaves response n x room1 a.vm c l.on e)) (nothing x (behind_death response n x room1 a.vm c l.on e)))),
          )

  -- ---- a callback of no stage

  -- of a VM that lives
  live_died : (x : Exchange) (host : H) (room : Room) (vm : ℕ) (name : Callback) (context first second : ℕ) (then_ : Then) (b : Both H) (ms : List Met) (q : Callee) → IsOn n room x
      → live_callee vm name context first second room ≡ Some q
      → ((c : Called H) (y : Exchange) → Reaches (runs_then (program_of calling host q) ends) ms (ends c) → IsOn n q.room y → DiesBeside response n q.vm c y q.room)
      → (NoneOf vm (chain_of response x) → (r : Room) → IsOn n r x → IsWhole response x r → Leaves response n x r x (then_ None r))
      → Reaches (calls_live calling vm name context first second then_ host room) ms (ends b) → Comes response n count x room b.room
  live_died x host room vm name context first second then_ b ms q on is may last reaches = by_dead (is_dead vm room) is reaches
    where
      by_dead : (d : Bool) → (if d then None else Some (callee vm name context first second room)) ≡ Some q
          → Reaches (then_do (if d then ends (callback_result None (both host room)) else called_in calling vm name context first second owns.Nobody host room) (λ a. ends (continue_with then_ a))) ms (ends b)
          → Comes response n count x room b.room
      by_dead true none r = absurd (none_some q none)
      by_dead false some r =
          let k : Callee = callee vm name context first second room in
          let mine : (c : Called H) (y : Exchange) → Reaches (runs_then (program_of calling host k) ends) ms (ends c) → IsOn n room y → DiesBeside response n vm c y room
          = subst (λ (p : Callee). (c : Called H) (y : Exchange) → Reaches (runs_then (program_of calling host p) ends) ms (ends c) → IsOn n p.room y → DiesBeside response n p.vm c y p.room)
          (sym (some_same k q some)) may in
          let f : Called H → Answered H = λ c. callback_result (value_of_end c.end) (both c.host (take_callback_end vm owns.Nobody c.end c.lines c.contexts room)) in
          let h : Called H → Both H = λ c. both c.host (then_ (value_of_end c.end) (take_callback_end vm owns.Nobody c.end c.lines c.contexts room)) in
          let here : Reaches (runs_then (program_of calling host k) (λ c. ends (h c))) ms (ends b)
          = subst (λ (t : Course (Both H)). Reaches t ms (ends b)) (then_runs (program_of calling host k) (λ c. ends (f c)) (λ a. ends (continue_with then_ a))) r in
          let end : Ran (program_of calling host k) h ms b = ran (program_of calling host k) h ms b here in
          let c : Called H = end.end in
          let e : DiesBeside response n vm c x room = mine c x end.reached on in
          let mid : Room = behind_death response n x room vm c on e in
          let l : Leaves response n x (quiet_room c room) x mid = death_leaves response n x room vm c on e in
          let behind : Leaves response n x mid x (then_ None mid) = last (chain_free response n x room vm c on e) mid l.on l.there in
          let is_b : b ≡ both c.host (then_ None mid)
          = end.is ∙ ap (λ (t : CallbackEnd). both c.host (then_ (value_of_end t) (take_callback_end vm owns.Nobody t c.lines c.contexts room))) e.ended in
          subst (λ (d : Both H). Comes response n count x room d.room) (sym is_b)
          (x, other (leaves (quiet_leaves response n x room vm c on e)) (other (leaves l) (other (leaves behind) (nothing x (then_ None mid)))))

  tells_died : (x : Exchange) (host : H) (room : Room) (vm : ℕ) (name : Callback) (context first : ℕ) (b : Both H) (ms : List Met) (q : Callee) → IsOn n room x
      → live_callee vm name context first 0 room ≡ Some q
      → ((c : Called H) (y : Exchange) → Reaches (runs_then (program_of calling host q) ends) ms (ends c) → IsOn n q.room y → DiesBeside response n q.vm c y q.room)
      → Reaches (tells calling vm name context first host room) ms (ends b) → Comes response n count x room b.room
  tells_died x host room vm name context first b ms q on is may reaches =
      live_died x host room vm name context first 0 nothing_more b ms q on is may (λ free r there whole. stays response n x r there whole) reaches

  -- first this, and then what comes of it
  behind_leaving : {x y : Exchange} {room mid after : Room} → Leaves response n x room y mid → Comes response n count y mid after → Comes response n count x room after
  behind_leaving l later = (later.0, other (leaves l) later.1)

  -- ---- a context that was made is told of its making

  made_died : (x y : Exchange) (host : H) (room : Room) (r : Option NewContext × Room) (b : Both H) (ms : List Met) (q : Callee) → Leaves response n x room y r.1 → made_callee r ≡ Some q
      → ((c : Called H) (z : Exchange) → Reaches (runs_then (program_of calling host q) ends) ms (ends c) → IsOn n q.room z → DiesBeside response n q.vm c z q.room)
      → Reaches (made_with calling host r) ms (ends b) → Comes response n count x room b.room
  made_died x y host room (None, mid) b ms q l is may reaches = absurd (none_some q is)
  made_died x y host room (Some c, mid) b ms q l is may reaches =
      behind_leaving l (tells_died y host mid c.vm callbacks.ContextCreate c.context c.root b ms q l.on is may reaches)

  ticked_died : (x : Exchange) (host : H) (room : Room) (vm root : ℕ) (r : Bool × Room) (b : Both H) (ms : List Met) (q : Callee) → Leaves response n x room x r.1 → ticked_callee vm root r ≡ Some q
      → ((c : Called H) (z : Exchange) → Reaches (runs_then (program_of calling host q) ends) ms (ends c) → IsOn n q.room z → DiesBeside response n q.vm c z q.room)
      → Reaches (ticks_with calling vm root host r) ms (ends b) → Comes response n count x room b.room
  ticked_died x host room vm root (true, mid) b ms q l is may reaches = behind_leaving l (tells_died x host mid vm callbacks.Tick root 0 b ms q l.on is may reaches)
  ticked_died x host room vm root (false, mid) b ms q l is may reaches = absurd (none_some q is)

  -- ---- the end of a callout

  told_died : (x : Exchange) (host : H) (room : Room) (a : Option CallAnswer) (c : Callout) (b : Both H) (ms : List Met) (q : Callee) → IsOn n room x → IsWhole response x room
      → told_callee a c room ≡ Some q
      → ((d : Called H) (y : Exchange) → Reaches (runs_then (program_of calling host q) ends) ms (ends d) → IsOn n q.room y → DiesBeside response n q.vm d y q.room)
      → Reaches (tells_call calling a c host room) ms (ends b) → Comes response n count x room b.room
  told_died x host room a c b ms q on whole is may reaches = by_listener (has_listener c room) is reaches
    where
      by_listener : (there : Bool) → (if there then live_callee c.vm callbacks.CallAnswered c.context c.id 0 (put_call_answer a c.vm c.context room) else None) ≡ Some q
          → Reaches (if there then calls_live calling c.vm callbacks.CallAnswered c.context c.id 0 (drop_answer c.vm c.context) host (put_call_answer a c.vm c.context room) else ends (both host room)) ms (ends b)
          → Comes response n count x room b.room
      by_listener true some r =
          let l : Leaves response n x room x (put_call_answer a c.vm c.context room) = puts_answer a c.vm c.context response n x room on whole in
          behind_leaving l
          (live_died x host (put_call_answer a c.vm c.context room) c.vm callbacks.CallAnswered c.context c.id 0 (drop_answer c.vm c.context) b ms q l.on some may
          (λ free after there full. puts_answer None c.vm c.context response n x after there full) r)
      by_listener false none r = absurd (none_some q none)

  ended_died : (x : Exchange) (host : H) (room : Room) (is_answered : Bool) (id : ℕ) (o : Option Callout) (b : Both H) (ms : List Met) (q : Callee) → IsOn n room x → IsWhole response x room
      → ended_callee is_answered id o room ≡ Some q
      → ((d : Called H) (y : Exchange) → Reaches (runs_then (program_of calling host q) ends) ms (ends d) → IsOn n q.room y → DiesBeside response n q.vm d y q.room)
      → Reaches (ends_call calling is_answered id o host room) ms (ends b) → Comes response n count x room b.room
  ended_died x host room is_answered id None b ms q on whole is may reaches = absurd (none_some q is)
  ended_died x host room is_answered id (Some c) b ms q on whole is may reaches =
      let l : Leaves response n x room x (close_call id room) = closes_call id response n x room on whole in
      behind_leaving l (told_died x host (close_call id room) (answer_if is_answered c) c b ms q l.on l.there is may reaches)

  call_died : (x : Exchange) (host : H) (room : Room) (step_ : CallStep) (b : Both H) (ms : List Met) (q : Callee) → IsOn n room x → IsWhole response x room → call_callee step_ room ≡ Some q
      → ((d : Called H) (y : Exchange) → Reaches (runs_then (program_of calling host q) ends) ms (ends d) → IsOn n q.room y → DiesBeside response n q.vm d y q.room)
      → Reaches (works_call calling step_ host room) ms (ends b) → Comes response n count x room b.room
  call_died x host room (steps.Comes what) b ms q on whole is may reaches = absurd (none_some q is)
  call_died x host room (steps.Read id) b ms q on whole is may reaches = absurd (none_some q is)
  call_died x host room (steps.Fail id) b ms q on whole is may reaches = ended_died x host room false id (callout_in id room.calls) b ms q on whole is may reaches
  call_died x host room (steps.Answer id) b ms q on whole is may reaches = ended_died x host room true id (callout_in id room.calls) b ms q on whole is may reaches

  other_died : (x : Exchange) (host : H) (room : Room) (step_ : OtherStep) (b : Both H) (ms : List Met) (q : Callee) → IsOn n room x → IsWhole response x room → other_callee step_ room ≡ Some q
      → ((d : Called H) (y : Exchange) → Reaches (runs_then (program_of calling host q) ends) ms (ends d) → IsOn n q.room y → DiesBeside response n q.vm d y q.room)
      → Reaches (works_other calling step_ host room) ms (ends b) → Comes response n count x room b.room
  other_died x host room (others.Call step_) b ms q on whole is may reaches = call_died x host room step_ b ms q on whole is may reaches
  other_died x host room (others.Tcp step_) b ms q on whole is may reaches = absurd (none_some q is)

  -- ---- the job in hand

  pub job_died : (x : Exchange) (host : H) (room : Room) (job : Job) (q : Callee) (b : Both H) (ms : List Met) → IsOn n room x → IsWhole response x room → job_callee job room ≡ Some q
      → ((c : Called H) (y : Exchange) → Reaches (runs_then (program_of calling host q) ends) ms (ends c) → IsOn n q.room y → DiesBeside response n q.vm c y q.room)
      → Reaches (works calling plan job host room) ms (ends b) → Comes response n count x room b.room
  job_died x host room (jobs.Begin vm) q b ms on whole is may reaches = tells_died x host room vm callbacks.Begin 0 0 b ms q on is may reaches
  job_died x host room (jobs.Root vm plugin first) q b ms on whole is may reaches =
      made_died x x host room (create_root vm plugin first room) b ms q
      (contexts_leave.making_root vm plugin first response n x room on whole (root_left vm plugin first room q is)) is may reaches
  job_died x host room (jobs.Start vm root) q b ms on whole is may reaches =
      live_died x host room vm callbacks.VmStart root (vm_length vm room.hub.contexts) 0 (unless_zero vm deaths.Start) b ms q on is may (λ free r there full. stays response n x r there full) reaches
  job_died x host room (jobs.Configure vm root plugin) q b ms on whole is may reaches =
      live_died x host room vm callbacks.Configure root (plugin_length plugin room.hub.contexts) 0 (unless_zero vm deaths.Configure) b ms q on is may
      (λ free r there full. stays response n x r there full) reaches
  job_died x host room (jobs.Tick vm root) q b ms on whole is may reaches =
      ticked_died x host room vm root (tick_root vm root room) b ms q (jobs_leave.ticking vm root response n x room on whole) is may reaches
  job_died x host room (jobs.Create number k) q b ms on whole is may reaches =
      let l : (y : Exchange) × Leaves response n x room y (create_context number k room).1
      = contexts_leave.making_stream number k response n x room on whole (stream_left number k room q is) in
      made_died x l.0 host room (create_context number k room) b ms q l.1 is may reaches
  job_died x host room (jobs.Done c) q b ms on whole is may reaches =
      live_died x host room c.vm callbacks.Done c.context 0 0 (finish_context c) b ms q on is may (λ free r there full. whole_alike response n x r (with_jobs_first (last_jobs c) r) there full refl refl) reaches
  job_died x host room (jobs.Log c) q b ms on whole is may reaches = tells_died x host room c.vm callbacks.Log c.context 0 b ms q on is may reaches
  job_died x host room (jobs.Delete c) q b ms on whole is may reaches =
      live_died x host room c.vm callbacks.Delete c.context 0 0 (delete_context c) b ms q on is may
      (λ free r there full. contexts_leave.deleting c None response n x r there full (not_of c.vm c.context (chain_of response x) free)) reaches
  job_died x host room (jobs.Ready vm root queue) q b ms on whole is may reaches = by_may (may_stream vm root room.hub.contexts) is reaches
    where
      by_may : (m : Bool) → (if m then live_callee vm callbacks.QueueReady root queue 0 room else None) ≡ Some q
          → Reaches (if m then tells calling vm callbacks.QueueReady root queue host room else ends (both host room)) ms (ends b) → Comes response n count x room b.room
      by_may true some r = tells_died x host room vm callbacks.QueueReady root queue b ms q on some may r
      by_may false none r = absurd (none_some q none)
  job_died x host room (jobs.Other step_) q b ms on whole is may reaches = other_died x host room step_ b ms q on whole is may reaches
  job_died x host room jobs.Expire q b ms on whole is may reaches = absurd (none_some q is)
  job_died x host room (jobs.Happen w) q b ms on whole is may reaches = absurd (none_some q is)
  job_died x host room (jobs.Enter number) q b ms on whole is may reaches = absurd (none_some q is)
  job_died x host room (jobs.Put number of_response items) q b ms on whole is may reaches = absurd (none_some q is)
  job_died x host room (jobs.Refuse number status) q b ms on whole is may reaches = absurd (none_some q is)
  job_died x host room (jobs.Close number stay) q b ms on whole is may reaches = absurd (none_some q is)
  job_died x host room (jobs.Notice vm left) q b ms on whole is may reaches = absurd (none_some q is)
