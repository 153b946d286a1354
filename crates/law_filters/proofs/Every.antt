-- From the head of a request on, over a worker's steps: what holds of them where it holds of those that come after its stages are made, and of those where nothing goes up.
use Rattle.std.proofs.Common.{◌≡◌, ◌⊎◌, inl, inr, refl, ℕ, zero, suc, ◌<◌, ◌≤◌, ◌==◌, Bool, true, false, not, ◌&&◌, List, [], ◌∷◌, ◌++◌, length, ap, ◌∙◌, sym, subst, ⊎_elim, arith, append-nil}
use Rattle.std.proofs.lemmas.Bool.{cases_Bool}
use Rattle.std.proofs.lemmas.List.{append-nil as append_nothing}
use Rattle.std.specs.List.{filter, list_any}
use Rattle.std.specs.Option.{option_map}
use Rattle.std.specs.Prelude.{slice_get, is_some, if◌then◌else◌, Option, None, Some}
use Rattle.callouts.specs.Callouts.{is_call_line}
use Rattle.exchange.specs.Heads.{path_of, route_in}
use Rattle.exchange.specs.declared.types.Exchange.{Exchange}
use Rattle.exchange.specs.declared.types.Filter.{Filter}
use Rattle.filter_host.proofs.Holds.{all_reached}
use Rattle.filter_host.specs.Course.{ends, Met, Reaches}
use Rattle.filter_host.specs.Heard.{Hears, hands}
use Rattle.gate_config.specs.declared.entries.PluginEntry.{PluginEntry}
use Rattle.gate_io.specs.declared.event.Event.{Event}
use Rattle.gate_io.specs.declared.event.Sent.{Sent}
use Rattle.gate_io.specs.declared.event.Sent.TheVariants as to
use Rattle.h1_model.specs.Head.{Head}
use Rattle.h1_model.specs.Unread.{head_part, Reading}
use Rattle.law_lines.proofs.Looks.{look, line_in_is, equal_is}
use Rattle.law_lines.proofs.OnLines.{on_same}
use Rattle.law_lines.proofs.Story.{ExOk, Known, LineOk, batch_of}
use Rattle.law_lines.proofs.Unused.{no_exchange}
use Rattle.law_lines.specs.Logs.{WriteLogs}
use Rattle.law_meaning.specs.Walks.{Step, Walk, stays, steps, turns}
use Rattle.law_roots.specs.Roots.{FiltersGetContexts, StartsHaveRoots}
use Rattle.law_vms.specs.OwnChanges.{CallbacksChangeTheirOwn, PlacesStay}
use Rattle.vm_host.specs.Slots.{calling}
use Rattle.vm_host.specs.declared.slots.Vms.{Vms}
use Rattle.worker_model.specs.Plan.{Plan}
use Rattle.worker_model.specs.Rooms.{is_dead, next_of}
use Rattle.worker_model.specs.Settling.{is_rest}
use Rattle.worker_model.specs.Steps.{Both, both, after_heard, begin_jobs_for, exchange_jobs, exchange_of_line, exchange_on, filter_of, filters_of, is_blocking, is_gone, jobs_of, line_in, line_reading, on_line, on_lines, plugins_at, put_jobs, read_on, reading_on, refusal_of, refuse_jobs, step}
use Rattle.worker_model.specs.Turn.{room_for_event, without_sent}
use Rattle.worker_model.specs.declared.types.Job.{Job}
use Rattle.worker_model.specs.declared.types.Job.TheVariants as jobs
use Rattle.worker_model.specs.declared.types.Line.{Line}
use Rattle.worker_model.specs.declared.types.Next.TheVariants as next
use Rattle.worker_model.specs.declared.types.ReadBatch.{ReadBatch}
use Rattle.law_filters.proofs.Asking as asking
use Rattle.law_filters.proofs.Before.{each_by, find_it, from_each, IsFound}
use Rattle.law_filters.proofs.Beginning.{Ahead, IsFresh, IsHeading, IsReading, Reads, ahead_or, any_there, head_read, heard_read, in_filters, kept_filter, next_reads, one_step, reading_step, refused_so}
use Rattle.law_filters.proofs.Doing.{never}
use Rattle.law_filters.proofs.Lasting.{NoneSince}
use Rattle.law_filters.proofs.Making.{Goes, IsKnown, IsMaking, IsPutting, IsQuiet, IsWaiting, Quiet, is_refusing, Enters, job_goes, made_step, own, put_step, step_known, turn_known, un_step}
use Rattle.law_filters.specs.Every.{Begins, IsBarred, Makes}
use Rattle.law_filters.specs.Onward.{StaysOn}

within : (fs : List Filter) (k : ℕ) (f : Filter) → slice_get fs k ≡ Some f → k < length fs
within [] zero f at = absurd (cc at)
within [] (suc k) f at = absurd (cc at)
within (x ∷ fs) zero f at = omega arith
within (x ∷ fs) (suc k) f at = let less : k < length fs = within fs k f at in omega (arith, less)

first_step : (s t : Step Vms) (more rest : List (Step Vms)) → ◌≡◌ {A = List (Step Vms)} (s ∷ more) (t ∷ rest) → s ≡ t
first_step s t more rest is = cc is

-- one step of a walk
abbrev pub one : (b m : Both Vms) (ms : List Met) → Step Vms
one b m ms = record { before = b; met = ms; after = m }

module _ (starts : StartsHaveRoots) (logs : WriteLogs calling) (change : CallbacksChangeTheirOwn) (stay : PlacesStay) (gets : FiltersGetContexts) (plan : Plan) (n : ℕ) (low : is_call_line n ≡ false) (p : ℕ) (e : PluginEntry) (at_p : slice_get plan.plugins p ≡ Some e) where
  abbrev pub KnownB : Both Vms → Type 0
  KnownB b = IsKnown starts logs change stay gets plan n low b

  abbrev pub QuietB : Both Vms → Type 0
  QuietB b = Quiet starts logs change stay gets plan n low b

  abbrev pub WaitsB : ℕ → Both Vms → Type 0
  WaitsB c b = (k : ℕ) × (len : ℕ) × IsWaiting starts logs change stay gets plan n low p e at_p k len c b

  -- no connection is opened for the line by the step
  abbrev pub Opens : Both Vms → Both Vms → Type 0
  Opens b m = NoneSince n b.room.hub.sent m.room.hub

  -- WHAT HOLDS OF A STATE AND THE STEPS FROM THERE ON, where a context was made for the filter, or not yet
  pub record IsGoal (Goal : Option ℕ → Both Vms → List (Step Vms) → Type 0) : Type 0 where
    pub nothing : (o : Option ℕ) (b : Both Vms) → Goal o b []
    -- a step that reads, before contexts are made
    pub reads : (b m : Both Vms) (ms : List Met) (more : List (Step Vms)) (y : Exchange) → exchange_on n m.room ≡ Some y → m.room.dead ≡ b.room.dead → Opens b m → (e.fail_open ≡ false → is_dead e.vm b.room ≡ true → IsBarred y) → Goal None m more
        → Goal None b (one b m ms ∷ more)
    -- a step before which the VM lives
    pub goes : (o : Option ℕ) (b m : Both Vms) (ms : List Met) (more : List (Step Vms)) → is_dead e.vm b.room ≡ false → Opens b m → Goal o m more → Goal o b (one b m ms ∷ more)
    pub makes : (c : ℕ) (b m : Both Vms) (ms : List Met) (more : List (Step Vms)) → is_dead e.vm b.room ≡ false → Opens b m → Makes n p e.vm c (one b m ms) → Goal (Some c) m more → Goal None b (one b m ms ∷ more)
    pub passes : (o : Option ℕ) (b m : Both Vms) (ms : List Met) (more : List (Step Vms)) → is_dead e.vm m.room ≡ true → e.fail_open ≡ true → Goal o b (one b m ms ∷ more)
    pub gone : (b : Both Vms) (all : List (Step Vms)) → is_dead e.vm b.room ≡ true → e.fail_open ≡ true → Goal None b all
    -- a turn begins
    pub faced : (b : Both Vms) (event : Event) (all : List (Step Vms)) → Goal None (both b.host (room_for_event plan event (without_sent b.room))) all → Goal None b all
    -- where nothing goes up, and where the head waits
    pub quiets : (o : Option ℕ) (b c : Both Vms) (all : List (Step Vms)) → KnownB b → (x : Exchange) → exchange_on n b.room ≡ Some x → QuietB b → Walk calling plan b all c → StaysOn n all → Goal o b all
    pub waits : (id : ℕ) (b c : Both Vms) (all : List (Step Vms)) → KnownB b → WaitsB id b → Walk calling plan b all c → StaysOn n all → Goal (Some id) b all

  module _ (Goal : Option ℕ → Both Vms → List (Step Vms) → Type 0) (goal : IsGoal Goal) where
    -- ---- contexts and stages are made

    module _ (k len : ℕ) where
      abbrev Making : Filter → ℕ → Both Vms → Type 0
      Making f j b = IsMaking starts logs change stay gets plan n low p e at_p k len f j b

      abbrev its : ℕ → Filter
      its c = own starts logs change stay gets plan n low p e at_p k len c

      quiet_goes : (o : Option ℕ) (b m c : Both Vms) (ms : List Met) (more : List (Step Vms)) → is_dead e.vm b.room ≡ false → KnownB m → (q : IsQuiet starts logs change stay gets plan n low b m) → (y : Exchange) → exchange_on n m.room ≡ Some y
          → Walk calling plan m more c → StaysOn n more → Goal o b (one b m ms ∷ more)
      quiet_goes o b m c ms more lives known q y on later on_later = goal.goes o b m ms more lives q.since (goal.quiets o m c more known y on (q.quiet y on) later on_later)

      put_walk : (c : ℕ) (b d : Both Vms) (all : List (Step Vms)) → Walk calling plan b all d → StaysOn n all → KnownB b → IsPutting starts logs change stay gets plan n low p e at_p k len c b → Goal (Some c) b all
      put_walk c _ _ _ (stays b) on known s = goal.nothing (Some c) b
      put_walk c _ _ _ (steps b m d ms more goes reaches later) on known s =
          let r = put_step starts logs change stay gets plan n low p e at_p k len b m ms c on.0.0 reaches known on.0.1 s in
          goal.goes (Some c) b m ms more s.lives r.0 (goal.waits c m d more (step_known starts logs change stay gets plan n low b m ms goes reaches known) (k, len, r.1) later on.1)
      put_walk c _ _ _ (turns b d event all rests goes later) on known s = absurd (job_goes b.room _ s.later s.quiet s.jobs_are rests)

      no_turn : (f : Filter) (j : ℕ) (b : Both Vms) → Making f j b → is_rest (next_of b.room) ≡ true → ⊥
      no_turn f j b s rests = by_jobs b.room.jobs refl s.ahead
        where
          by_jobs : (js : List Job) → b.room.jobs ≡ js → Ahead n len j js → ⊥
          by_jobs [] at none = none
          by_jobs (job ∷ later) at so = job_goes b.room job later s.quiet at rests

      made_walk : (c j : ℕ) (b d : Both Vms) (all : List (Step Vms)) → Walk calling plan b all d → StaysOn n all → KnownB b → k < j → Making (its c) j b → Goal (Some c) b all
      made_walk c j _ _ _ (stays b) on known late s = goal.nothing (Some c) b
      made_walk c j _ _ _ (steps b m d ms more goes reaches later) on known late s =
          by_step (made_step starts logs change stay gets plan n low p e at_p k len b m ms c j on.0.0 reaches known on.0.1 late s) (λ i less making. made_walk c i m d more later on.1 known_m less making)
        where
          known_m : KnownB m
          known_m = step_known starts logs change stay gets plan n low b m ms goes reaches known

          by_step : Enters starts logs change stay gets plan n low p e at_p k len c b m → ((i : ℕ) → k < i → Making (its c) i m → Goal (Some c) m more) → Goal (Some c) b (one b m ms ∷ more)
          by_step (inl (i, less, inl (since, making))) again = goal.goes (Some c) b m ms more s.lives since (again i less making)
          by_step (inl (i, less, inr (inl passed))) again = goal.passes (Some c) b m ms more passed.0 passed.1
          by_step (inl (i, less, inr (inr q))) again = quiet_goes (Some c) b m d ms more s.lives known_m q on.0.0 on.0.1 later on.1
          by_step (inr (since, puts)) again = goal.goes (Some c) b m ms more s.lives since (put_walk c m d more later on.1 known_m puts)
      made_walk c j _ _ _ (turns b d event all rests goes later) on known late s = absurd (no_turn (its c) j b s rests)

      un_walk : (j : ℕ) (b d : Both Vms) (all : List (Step Vms)) → Walk calling plan b all d → StaysOn n all → KnownB b → j ≤ k → k < len → Making (filter_of p e) j b → Goal None b all
      un_walk j _ _ _ (stays b) on known early few s = goal.nothing None b
      un_walk j _ _ _ (steps b m d ms more goes reaches later) on known early few s =
          by_step (un_step starts logs change stay gets plan n low p e at_p k len b m ms j on.0.0 reaches known on.0.1 early few s) (λ i less making. un_walk i m d more later on.1 known_m less few making)
        where
          known_m : KnownB m
          known_m = step_known starts logs change stay gets plan n low b m ms goes reaches known

          Out : Type 0
          Out =
              ((i : ℕ) × (i ≤ k) × Goes starts logs change stay gets plan n low p e at_p k len (filter_of p e) i b m)
              ⊎ ((id : ℕ) × (i : ℕ) × (k < i) × Makes n p e.vm id (one b m ms) × Goes starts logs change stay gets plan n low p e at_p k len (its id) i b m)

          by_step : Out → ((i : ℕ) → i ≤ k → Making (filter_of p e) i m → Goal None m more) → Goal None b (one b m ms ∷ more)
          by_step (inl (i, less, inl (since, making))) again = goal.goes None b m ms more s.lives since (again i less making)
          by_step (inl (i, less, inr (inl passed))) again = goal.passes None b m ms more passed.0 passed.1
          by_step (inl (i, less, inr (inr q))) again = quiet_goes None b m d ms more s.lives known_m q on.0.0 on.0.1 later on.1
          by_step (inr (id, i, less, made, inl (since, making))) again = goal.makes id b m ms more s.lives since made (made_walk id i m d more later on.1 known_m less making)
          by_step (inr (id, i, less, made, inr (inl passed))) again = goal.passes None b m ms more passed.0 passed.1
          by_step (inr (id, i, less, made, inr (inr q))) again = quiet_goes None b m d ms more s.lives known_m q on.0.0 on.0.1 later on.1
      un_walk j _ _ _ (turns b d event all rests goes later) on known early few s = absurd (no_turn (filter_of p e) j b s rests)

    -- ---- the request is read behind its head

    module _ (refused : Option ℕ) (fs : List Filter) (dead : List ℕ) where
      -- it is refused with 503; or its VM lives, and it has the filter
      abbrev Given : Type 0
      Given = (refused ≡ Some 503) ⊎ ((refused ≡ None) × (list_any (λ (d : ℕ). d == e.vm) dead ≡ false) × ((k : ℕ) × (slice_get fs k ≡ Some (filter_of p e))))

      module _ (given : Given) (closed : e.fail_open ≡ false → list_any (λ (d : ℕ). d == e.vm) dead ≡ true → refused ≡ Some 503) where
        abbrev X : Exchange → Type 0
        X = IsFresh refused fs

        -- reading, between two steps
        record IsAt (b : Both Vms) : Type 0 where
          batch : ReadBatch
          at : b.room.reading ≡ Some batch
          heading : IsHeading n batch
          exchange : Exchange
          on : exchange_on n b.room ≡ Some exchange
          fresh : X exchange
          dead_is : b.room.dead ≡ dead

        barred_by : (b m : Both Vms) → b.room.dead ≡ dead → IsReading n b.room.hub.sent refused fs dead m.room → (y : Exchange) → exchange_on n m.room ≡ Some y → e.fail_open ≡ false → is_dead e.vm b.room ≡ true → IsBarred y
        barred_by b m same r y on shut is_dead_so =
            let fresh : X y = from_each n X m.room y r.each on in
            inr
            (record {
              status = fresh.refusal ∙ closed shut (ap (λ (ds : List ℕ). list_any (λ (d : ℕ). d == e.vm) ds) (sym same) ∙ is_dead_so);
              unentered = fresh.unentered;
              nothing = fresh.nothing;
            })

        -- what comes of what was read
        hands_over : (m d : Both Vms) (all : List (Step Vms)) (base : List Sent) (r : ReadBatch) (status : Option ℕ) (y : Exchange) → m.room.reading ≡ None → IsHeading n r → m.room.jobs ≡ jobs_of r status m.room ++ [] → exchange_on n m.room ≡ Some y → X y
            → m.room.dead ≡ dead → KnownB m → Walk calling plan m all d → StaysOn n all → Goal None m all
        hands_over m d all base r status y quiet h jobs_are on fresh same known walk on_all = by_or (ahead_or n r status y h.line h.first refused fresh.refusal)
          where
            jobs_so : m.room.jobs ≡ exchange_jobs r status y refused
            jobs_so =
                jobs_are ∙ (append_nothing (jobs_of r status m.room)
                ∙ ((λ i. if h.first i && not (h.down i) then begin_jobs_for r status (exchange_on (h.line i) m.room) else (put_jobs r.line r.up r.batch ++ refuse_jobs r.line status))
                ∙ (ap (begin_jobs_for r status) on ∙ ap (exchange_jobs r status y) fresh.refusal)))

            by_or : ((s : ℕ) × (refused ≡ Some s) × (exchange_jobs r status y refused ≡ jobs.Refuse n s ∷ [])) ⊎ ((refused ≡ None) × Ahead n (length y.filters) 0 (exchange_jobs r status y refused)) → Goal None m all
            by_or (inl (s, is, jobs_is)) = by_given given
              where
                status_is : refused ≡ Some 503 → s ≡ 503
                status_is same_status = number_same s (sym is ∙ same_status)
                  where
                    number_same : (a : ℕ) → Some a ≡ Some 503 → a ≡ 503
                    number_same a t = cc t

                by_given : Given → Goal None m all
                by_given (inl refused_so) =
                    goal.quiets None m d all known y on
                    (is_refusing starts logs change stay gets plan n low m y quiet (jobs_so ∙ (jobs_is ∙ ap (λ (v : ℕ). jobs.Refuse n v ∷ []) (status_is refused_so))) on
                    (fresh.nothing, inr (inr (fresh.unentered, fresh.refusal ∙ refused_so)))) walk on_all
                by_given (inr lives) = absurd (wrong (sym is ∙ lives.0))
                  where
                    wrong : ◌≡◌ {A = Option ℕ} (Some s) None → ⊥
                    wrong t = cc t
            by_or (inr (none, ahead)) = by_given given
              where
                by_given : Given → Goal None m all
                by_given (inl refused_so) = absurd (wrong (sym none ∙ refused_so))
                  where
                    wrong : ◌≡◌ {A = Option ℕ} None (Some 503) → ⊥
                    wrong t = cc t
                by_given (inr lives) =
                    let k : ℕ = lives.2.0 in
                    let few : k < length fs = within fs k (filter_of p e) lives.2.1 in
                    let early : 0 ≤ k = omega arith in
                    un_walk k (length fs) 0 m d all walk on_all known early few
                    (record {
                      quiet = quiet;
                      ahead = subst (Ahead n (length fs) 0) (sym jobs_so) (subst (λ (l : ℕ). Ahead n l 0 (exchange_jobs r status y refused)) (ap length fresh.filters) ahead);
                      exchange = y;
                      on = on;
                      lives = ap (λ (ds : List ℕ). list_any (λ (d : ℕ). d == e.vm) ds) same ∙ lives.1;
                      pre = (
                        fresh.nothing,
                        inr (inr (record { unentered = fresh.unentered; many = ap length fresh.filters; its = ap (λ (l : List Filter). slice_get l k) fresh.filters ∙ lives.2.1 })),
                      );
                    })

        -- on from a state in which it is read, or was
        after_read : (b m d : Both Vms) (more : List (Step Vms)) → IsReading n b.room.hub.sent refused fs dead m.room → KnownB m → Walk calling plan m more d → StaysOn n more → (y : Exchange) → exchange_on n m.room ≡ Some y → (IsAt m → Goal None m more) → Goal None m more
        after_read b m d more r known walk on_more y on again = by_reads r.reads
          where
            fresh : X y
            fresh = from_each n X m.room y r.each on

            by_reads : Reads n m.room → Goal None m more
            by_reads (inl (batch, at, heading)) = again (record { batch = batch; at = at; heading = heading; exchange = y; on = on; fresh = fresh; dead_is = r.dead_is })
            by_reads (inr (quiet, (batch, status, heading, jobs_are))) = hands_over m d more b.room.hub.sent batch status y quiet heading jobs_are on fresh r.dead_is known walk on_more

        read_on_step : (b m : Both Vms) (ms : List Met) → Reaches (step calling plan (next_of b.room) b.host b.room) ms (ends m) → KnownB b → IsAt b → IsReading n b.room.hub.sent refused fs dead m.room
        read_on_step b m ms reaches known s =
            all_reached (λ (c : Both Vms). IsReading n b.room.hub.sent refused fs dead c.room) ms (step calling plan (next_of b.room) b.host b.room) m
            (reading_step plan b r s.at (λ (c : Both Vms). IsReading n b.room.hub.sent refused fs dead c.room)
            (λ reading on h says.
            heard_read n b.room.hub.sent refused fs dead plan r h (record b.room { reading = None }) s.heading
            (λ head new is. asking.unheard logs plan n known.knows.past b.room s.exchange s.on here r reading head new s.at on (subst (Hears reading) is says) s.heading.down s.heading.line) still
            (each_by n X s.exchange b.room.lines f.line here.once f.there f.its s.fresh) ([], sym (append-nil b.room.hub.sent), tt) s.dead_is (here.alone r s.at).0)
            nowhere) reaches
          where
            r : ReadBatch
            r = s.batch

            here : Known plan n known.knows.past b.room
            here = known.knows.known.0 n low

            f : IsFound n b.room s.exchange
            f = find_it n b.room s.exchange s.on

            still : (new : Reading) → is_some (exchange_on r.line (on_lines (read_on r.up new) r.line (record b.room { reading = None }))) ≡ true
            still new =
                subst (λ (u : Bool). is_some (exchange_on r.line (on_lines (read_on u new) r.line (record b.room { reading = None }))) ≡ true) (sym s.heading.down)
                (subst (λ (v : ℕ). is_some (exchange_on v (on_lines (read_on false new) v (record b.room { reading = None }))) ≡ true) (sym s.heading.line)
                (ap is_some (exchange_read new)))
              where
                exchange_read : (new : Reading) → exchange_on n (on_lines (read_on false new) n (record b.room { reading = None })) ≡ Some s.exchange
                exchange_read new =
                    ap exchange_of_line
                    (line_in_is n (on_line (read_on false new) n b.room.lines)
                    ∙ (on_same n n (read_on false new) b.room.lines (λ l. refl) here.once (equal_is n n refl) ∙ ap (option_map (read_on false new)) f.there)) ∙ f.its

            nowhere : reading_on r b.room ≡ None → ⊥
            nowhere none =
                wrong
                (sym
                (ap (λ (u : Bool). line_reading u (line_in r.line b.room.lines)) s.heading.down
                ∙ (ap (λ (v : ℕ). line_reading false (line_in v b.room.lines)) s.heading.line ∙ ap (line_reading false) (line_in_is n b.room.lines ∙ f.there))) ∙ none)
              where
                wrong : ◌≡◌ {A = Option Reading} (Some f.line.requests) None → ⊥
                wrong t = cc t

        read_walk : (b d : Both Vms) (all : List (Step Vms)) → Walk calling plan b all d → StaysOn n all → KnownB b → IsAt b → Goal None b all
        read_walk _ _ _ (stays b) on known s = goal.nothing None b
        read_walk _ _ _ (steps b m d ms more goes reaches later) on known s =
            let r : IsReading n b.room.hub.sent refused fs dead m.room = read_on_step b m ms reaches known s in
            goal.reads b m ms more on.0.0 on.0.1 (r.dead_is ∙ sym s.dead_is) r.since (barred_by b m s.dead_is r on.0.0 on.0.1)
            (after_read b m d more r (step_known starts logs change stay gets plan n low b m ms goes reaches known) later on.1 on.0.0 on.0.1 (λ t. read_walk m d more later on.1 (step_known starts logs change stay gets plan n low b m ms goes reaches known) t))
        read_walk _ _ _ (turns b d event all rests goes later) on known s = absurd (never (is_rest (next_of b.room)) (ap is_rest (next_reads b.room s.batch s.at)) rests)

    -- ---- it begins

    begins_walk : (b m d : Both Vms) (ms : List Met) (more : List (Step Vms)) (head : Head) (place : ℕ) → is_rest (next_of b.room) ≡ false → Reaches (step calling plan (next_of b.room) b.host b.room) ms (ends m) → Walk calling plan m more d → Begins n head (one b m ms)
        → ((y : Exchange) × (exchange_on n m.room ≡ Some y)) → StaysOn n more → KnownB b
        → slice_get (plugins_at plan.routes (route_in plan.routes (path_of head.fields))) place ≡ Some p → Goal None b (one b m ms ∷ more)
    begins_walk b m d ms more head place goes reaches later begins y_on on known at =
        ⊎_elim
        (λ (dead_so : is_dead e.vm b.room ≡ true).
        ⊎_elim (λ (open_so : e.fail_open ≡ true). goal.gone b (one b m ms ∷ more) dead_so open_so) (λ (shut : e.fail_open ≡ false). begun (inl (closed shut dead_so))) (cases_Bool e.fail_open))
        (λ (lives : is_dead e.vm b.room ≡ false). begun (by_refusal lives refused refl)) (cases_Bool (is_dead e.vm b.room))
      where
        route : Option ℕ
        route = route_in plan.routes (path_of head.fields)

        dead : List ℕ
        dead = b.room.dead

        filters : List Filter
        filters = filters_of plan.plugins (plugins_at plan.routes route)

        refused : Option ℕ
        refused = refusal_of route dead filters

        fs : List Filter
        fs = filter (λ (f : Filter). not (is_gone dead f)) filters

        there : (j : ℕ) × (slice_get filters j ≡ Some (filter_of p e))
        there = in_filters plan.plugins (plugins_at plan.routes route) place p e at at_p

        routed : (r : Option ℕ) → slice_get (plugins_at plan.routes r) place ≡ Some p → r ≡ None → ⊥
        routed None is none = nothing_there place is
          where
            nothing_there : (k : ℕ) → slice_get [] k ≡ Some p → ⊥
            nothing_there zero t = cc t
            nothing_there (suc k) t = cc t
        routed (Some q) is none = cc none

        blocked : (r : Option ℕ) → (r ≡ None → ⊥) → list_any (is_blocking dead) filters ≡ true → refusal_of r dead filters ≡ Some 503
        blocked None some any = absurd (some refl)
        blocked (Some q) some any = λ i. if any i then Some 503 else None

        closed : e.fail_open ≡ false → list_any (λ (v : ℕ). v == e.vm) dead ≡ true → refused ≡ Some 503
        closed shut is_dead_so = blocked route (routed route at) (any_there (is_blocking dead) filters there.0 (filter_of p e) there.1 (λ i. not (shut i) && is_dead_so i))

        by_refusal : is_dead e.vm b.room ≡ false → (o : Option ℕ) → refused ≡ o → Given refused fs dead
        by_refusal lives (Some s) is = inl (is ∙ ap Some (refused_so route dead filters s (routed route at) is))
        by_refusal lives None is = inr (is, lives, kept_filter (λ (f : Filter). not (is_gone dead f)) filters there.0 (filter_of p e) there.1 (λ i. not (lives i)))

        r : ReadBatch
        r = begins.batch

        here : Known plan n known.knows.past b.room
        here = known.knows.known.0 n low

        known_m : KnownB m
        known_m = step_known starts logs change stay gets plan n low b m ms goes reaches known

        first : IsReading n b.room.hub.sent refused fs dead m.room
        first =
            one_step plan b r begins.reads (λ (c : Both Vms). IsReading n b.room.hub.sent refused fs dead c.room) (hands (head_part head) begins.left) m
            (subst (λ (l : List Met). Reaches (step calling plan (next_of b.room) b.host b.room) l (ends m)) begins.hears reaches) (λ reading on says. by_line reading on says (look n b.room.lines) refl)
          where
            on_reading : (reading : Reading) → reading_on r b.room ≡ Some reading → (o : Option Line) → look n b.room.lines ≡ o → line_reading false o ≡ Some reading
            on_reading reading on o at_o =
                sym
                (ap (λ (u : Bool). line_reading u (line_in r.line b.room.lines)) begins.from_client
                ∙ (ap (λ (v : ℕ). line_reading false (line_in v b.room.lines)) begins.on_line ∙ ap (line_reading false) (line_in_is n b.room.lines ∙ at_o))) ∙ on

            by_line : (reading : Reading) → reading_on r b.room ≡ Some reading → Hears reading (hands (head_part head) begins.left) → (o : Option Line) → look n b.room.lines ≡ o
                → IsReading n b.room.hub.sent refused fs dead (after_heard plan r (hands (head_part head) begins.left) (record b.room { reading = None }))
            by_line reading on says None at_o = absurd (wrong (on_reading reading on None at_o))
              where
                wrong : ◌≡◌ {A = Option Reading} None (Some reading) → ⊥
                wrong t = cc t
            by_line reading on says (Some l) at_o = by_exchange l.exchange refl
              where
                its : exchange_on n b.room ≡ l.exchange
                its = ap exchange_of_line (line_in_is n b.room.lines ∙ at_o)

                ok : LineOk plan n known.knows.past (Some r) [] b.room.lines (Some l) b.room.hub
                ok =
                    subst (λ (o : Option Line). LineOk plan n known.knows.past (Some r) [] b.room.lines o b.room.hub) at_o
                    (subst (λ (js : List Job). LineOk plan n known.knows.past (Some r) js b.room.lines (look n b.room.lines) b.room.hub) (here.alone r begins.reads).0
                    (subst (λ (q : Option ReadBatch). LineOk plan n known.knows.past q b.room.jobs b.room.lines (look n b.room.lines) b.room.hub) begins.reads here.line))

                by_exchange : (o : Option Exchange) → l.exchange ≡ o → IsReading n b.room.hub.sent refused fs dead (after_heard plan r (hands (head_part head) begins.left) (record b.room { reading = None }))
                by_exchange (Some x) some =
                    absurd (asking.unheard logs plan n known.knows.past b.room x (its ∙ some) here r reading head begins.left begins.reads on says begins.from_client begins.on_line)
                by_exchange None none =
                    let free : ExOk plan n known.knows.past (Some r) [] b.room.lines l.requests.due None b.room.hub
                    = subst (λ (o : Option Exchange). ExOk plan n known.knows.past (Some r) [] b.room.lines l.requests.due o b.room.hub) none ok.1 in
                    let batch : batch_of n (Some r) ≡ r.batch = λ i. if (equal_is r.line n begins.on_line i) && not (begins.from_client i) then r.batch else [] in
                    head_read n b.room.hub.sent refused fs dead plan r head begins.left (record b.room { reading = None }) l begins.on_line begins.from_client (sym batch ∙ free.none) here.once at_o
                    (record { nothing = refl; unentered = refl; refusal = refl; filters = refl }) ([], sym (append-nil b.room.hub.sent), tt) refl (here.alone r begins.reads).0

        begun : Given refused fs dead → Goal None b (one b m ms ∷ more)
        begun given =
            goal.reads b m ms more y_on.0 y_on.1 first.dead_is first.since (barred_by refused fs dead given closed b m refl first y_on.0 y_on.1)
            (after_read refused fs dead given closed b m d more first known_m later on y_on.0 y_on.1 (λ t. read_walk refused fs dead given closed m d more later on known_m t))

    -- FROM THE HEAD OF A REQUEST ON
    pub from_head : (b d : Both Vms) (all : List (Step Vms)) → Walk calling plan b all d → KnownB b → (begins : Step Vms) (more : List (Step Vms)) (head : Head) (place : ℕ) → all ≡ begins ∷ more → Begins n head begins → StaysOn n all
        → slice_get (plugins_at plan.routes (route_in plan.routes (path_of head.fields))) place ≡ Some p → Goal None b all
    from_head _ _ _ (stays b) known begins more head place is begun on at = absurd (cc is)
    from_head _ _ _ (steps b m d ms later goes reaches walk) known begins more head place is begun on at =
        begins_walk b m d ms later head place goes reaches walk (subst (Begins n head) (sym (first_step (one b m ms) begins later more is)) begun) on.0 on.1 known at
    from_head _ _ _ (turns b d event all rests goes walk) known begins more head place is begun on at =
        goal.faced b event all (from_head (both b.host (room_for_event plan event (without_sent b.room))) d all walk (turn_known starts logs change stay gets plan n low b event rests goes known) begins more head place is begun on at)

-- on a line with an exchange, which is none of a callout
pub low_of : (logs : WriteLogs calling) (plan : Plan) (n : ℕ) (b d : Both Vms) (all : List (Step Vms)) → Walk calling plan b all d → asking.Knows logs plan b.room → (begins : Step Vms) (more : List (Step Vms)) → all ≡ begins ∷ more → StaysOn n all → is_call_line n ≡ false
low_of logs plan n _ _ _ (stays b) knows begins more is on = absurd (cc is)
low_of logs plan n _ _ _ (steps b m d ms later goes reaches walk) knows begins more is on = by_line (is_call_line n) refl
  where
    by_line : (c : Bool) → is_call_line n ≡ c → is_call_line n ≡ false
    by_line false is = is
    by_line true high = absurd (wrong (sym (no_exchange n m.room ((asking.step_knows logs plan b m ms reaches knows).known.1 n high)) ∙ on.0.1))
      where
        wrong : ◌≡◌ {A = Option Exchange} None (Some on.0.0) → ⊥
        wrong t = cc t
low_of logs plan n _ _ _ (turns b d event all rests goes walk) knows begins more is on =
    low_of logs plan n (both b.host (room_for_event plan event (without_sent b.room))) d all walk (asking.turn_knows logs plan event b.room knows) begins more is on
