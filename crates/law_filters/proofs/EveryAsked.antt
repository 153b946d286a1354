-- Every filter of a route is asked before a connection is opened.
use Rattle.std.proofs.Common.{◌≡◌, ◌⊎◌, inl, inr, refl, ℕ, Bool, true, false, List, [], ◌∷◌, ◌++◌, ap, ◌∙◌, sym, subst, append-nil}
use Rattle.std.specs.Prelude.{slice_get, Option, None, Some}
use Rattle.callouts.specs.Callouts.{is_call_line}
use Rattle.exchange.specs.declared.types.Exchange.{Exchange}
use Rattle.filter_host.proofs.Holds.{all_reached}
use Rattle.filter_host.specs.Course.{ends, Met, Reaches}
use Rattle.gate_config.specs.declared.entries.PluginEntry.{PluginEntry}
use Rattle.gate_io.specs.declared.event.Event.{Event}
use Rattle.gate_io.specs.declared.event.Sent.{Sent}
use Rattle.gate_io.specs.declared.event.Sent.TheVariants as to
use Rattle.law_lines.proofs.Turning.{new_all}
use Rattle.law_lines.specs.Logs.{WriteLogs}
use Rattle.law_meaning.specs.Walks.{Sends, Step, Walk, asked_at, stays, steps, turns}
use Rattle.law_roots.specs.Roots.{FiltersGetContexts, StartsHaveRoots}
use Rattle.law_vms.specs.MadeVms.{MadeVmsAreInPlace}
use Rattle.law_vms.specs.OwnChanges.{ArePlaced, CallbacksChangeTheirOwn, PlacesStay}
use Rattle.vm_host.specs.Slots.{calling}
use Rattle.vm_host.specs.declared.slots.Vms.{Vms}
use Rattle.worker_model.specs.Making.{contexts_of}
use Rattle.worker_model.specs.Plan.{Plan}
use Rattle.worker_model.specs.Rooms.{next_of}
use Rattle.worker_model.specs.Steps.{Both, both, exchange_on, step}
use Rattle.worker_model.specs.Turn.{room_for_event, without_sent}
use Rattle.worker_model.specs.declared.types.Next.{Next}
use Rattle.law_filters.proofs.Asking as asking
use Rattle.law_filters.proofs.Asking.{asked_cases, moves_next, none_among, same_rest, step_here, step_later}
use Rattle.law_filters.proofs.Before.{to_each}
use Rattle.law_filters.proofs.Begun.{first_sound}
use Rattle.law_filters.proofs.Every as every
use Rattle.law_filters.proofs.Every.{IsGoal, one}
use Rattle.law_filters.proofs.Lasting.{Cold, NoneSince, Unheard}
use Rattle.law_filters.proofs.Onward.{NoneOn}
use Rattle.law_filters.proofs.Making as making
use Rattle.law_filters.proofs.Making.{IsKnown, IsQuiet, Quiet, quiet_step, quiet_turn, step_known, turn_known}
use Rattle.law_filters.proofs.Sound.{IsSound, Nobody}
use Rattle.law_filters.proofs.Steps.{step_fine}
use Rattle.law_filters.proofs.Waited as waited
use Rattle.law_filters.proofs.Walks.{walked}
use Rattle.law_filters.specs.Every.{EveryFilterIsAsked, Makes, WasAskedItself, WasPassedOver}
use Rattle.law_filters.specs.Heads.{IsAskedOn}
use Rattle.law_filters.specs.Onward.{HasDied, StaysOn, WasAsked}
use Rattle.law_filters.specs.Roots.{first_worker, rules_for}

-- ---- lists of steps

pub first_same : (s t : Step Vms) (more rest : List (Step Vms)) → ◌≡◌ {A = List (Step Vms)} (s ∷ more) (t ∷ rest) → s ≡ t
first_same s t more rest is = cc is

pub rest_same : (s t : Step Vms) (more rest : List (Step Vms)) → ◌≡◌ {A = List (Step Vms)} (s ∷ more) (t ∷ rest) → more ≡ rest
rest_same s t more rest is = cc is

pub not_nothing : (between : List (Step Vms)) (last : Step Vms) → ◌≡◌ {A = List (Step Vms)} [] (between ++ last ∷ []) → ⊥
not_nothing [] last is = cc is
not_nothing (s ∷ between) last is = cc is

-- a connection is opened for the line
abbrev pub Opened : ℕ → Step Vms → Type 0
Opened n s = (front : List Sent) × (back : List Sent) × Sends s (front ++ to.Connect n ∷ back)

pub not_opened : (n : ℕ) (b m : Both Vms) (s : Step Vms) → s.before ≡ b → s.after ≡ m → NoneSince n b.room.hub.sent m.room.hub → Opened n s → ⊥
not_opened n b m s before after more o =
    let sent : m.room.hub.sent ≡ b.room.hub.sent ++ (o.0 ++ to.Connect n ∷ o.1)
    = ap (λ (c : Both Vms). c.room.hub.sent) (sym after) ∙ (o.2.is ∙ ap (λ (c : Both Vms). c.room.hub.sent ++ (o.0 ++ to.Connect n ∷ o.1)) before) in
    let same : more.0 ≡ o.0 ++ to.Connect n ∷ o.1 = same_rest b.room.hub.sent more.0 (o.0 ++ to.Connect n ∷ o.1) (sym more.1 ∙ sent) in
    none_among n o.0 o.1 (subst (NoneOn n) same more.2)

pub died_later : (vm : ℕ) (b m : Both Vms) (ms : List Met) (more : List (Step Vms)) → HasDied vm m more → HasDied vm b (one b m ms ∷ more)
died_later vm b m ms more (inl dead) = inr (one b m ms, step_here (one b m ms) more, dead)
died_later vm b m ms more (inr died) = inr (died.0, step_later (one b m ms) died.0 more died.1, died.2)

module _ (starts : StartsHaveRoots) (logs : WriteLogs calling) (change : CallbacksChangeTheirOwn) (stay : PlacesStay) (gets : FiltersGetContexts) (plan : Plan) (n : ℕ) (low : is_call_line n ≡ false) (p : ℕ) (e : PluginEntry) (at_p : slice_get plan.plugins p ≡ Some e) where
  abbrev KnownB : Both Vms → Type 0
  KnownB b = IsKnown starts logs change stay gets plan n low b

  -- passed over, or asked: with a context that was made before, or with one that these make
  abbrev Answer : Option ℕ → Both Vms → List (Step Vms) → Type 0
  Answer None b all = WasPassedOver e b all ⊎ WasAskedItself n p e.vm all
  Answer (Some c) b all = WasPassedOver e b all ⊎ WasAsked n e.vm c all

  abbrev Goal : Option ℕ → Both Vms → List (Step Vms) → Type 0
  Goal o b all = (between : List (Step Vms)) (opens : Step Vms) → all ≡ between ++ opens ∷ [] → Opened n opens → Answer o b all

  passed_later : (b m : Both Vms) (ms : List Met) (more : List (Step Vms)) → WasPassedOver e m more → WasPassedOver e b (one b m ms ∷ more)
  passed_later b m ms more w = record { fails_open = w.fails_open; died = died_later e.vm b m ms more w.died }

  asked_later : (c : ℕ) (b m : Both Vms) (ms : List Met) (more : List (Step Vms)) → WasAsked n e.vm c more → WasAsked n e.vm c (one b m ms ∷ more)
  asked_later c b m ms more w = record { ask = w.ask; among = step_later (one b m ms) w.ask more w.among; asks = w.asks }

  later : (o : Option ℕ) (b m : Both Vms) (ms : List Met) (more : List (Step Vms)) → Answer o m more → Answer o b (one b m ms ∷ more)
  later None b m ms more (inl w) = inl (passed_later b m ms more w)
  later None b m ms more (inr w) =
      inr (record { context = w.context; maker = w.maker; among = step_later (one b m ms) w.maker more w.among; makes = w.makes; asked = asked_later w.context b m ms more w.asked })
  later (Some c) b m ms more (inl w) = inl (passed_later b m ms more w)
  later (Some c) b m ms more (inr w) = inr (asked_later c b m ms more w)

  -- a step that opens nothing
  goes_on : (o : Option ℕ) (b m : Both Vms) (ms : List Met) (more : List (Step Vms)) → NoneSince n b.room.hub.sent m.room.hub → Goal o m more → Goal o b (one b m ms ∷ more)
  goes_on o b m ms more since go [] opens is opened =
      let same : one b m ms ≡ opens = first_same (one b m ms) opens more [] is in
      absurd (not_opened n b m opens (ap (λ (t : Step Vms). t.before) (sym same)) (ap (λ (t : Step Vms). t.after) (sym same)) since opened)
  goes_on o b m ms more since go (t ∷ between) opens is opened = later o b m ms more (go between opens (rest_same (one b m ms) t more (between ++ opens ∷ []) is) opened)

  passed_now : (o : Option ℕ) (b : Both Vms) (all : List (Step Vms)) → e.fail_open ≡ true → HasDied e.vm b all → Answer o b all
  passed_now None b all open_so died = inl (record { fails_open = open_so; died = died })
  passed_now (Some c) b all open_so died = inl (record { fails_open = open_so; died = died })

  makes_now : (c : ℕ) (b m : Both Vms) (ms : List Met) (more : List (Step Vms)) → NoneSince n b.room.hub.sent m.room.hub → Makes n p e.vm c (one b m ms) → Goal (Some c) m more → Goal None b (one b m ms ∷ more)
  makes_now c b m ms more since made go [] opens is opened =
      let same : one b m ms ≡ opens = first_same (one b m ms) opens more [] is in
      absurd (not_opened n b m opens (ap (λ (t : Step Vms). t.before) (sym same)) (ap (λ (t : Step Vms). t.after) (sym same)) since opened)
  makes_now c b m ms more since made go (t ∷ between) opens is opened = with_maker (go between opens (rest_same (one b m ms) t more (between ++ opens ∷ []) is) opened)
    where
      with_maker : Answer (Some c) m more → Answer None b (one b m ms ∷ more)
      with_maker (inl w) = inl (passed_later b m ms more w)
      with_maker (inr w) = inr (record { context = c; maker = one b m ms; among = step_here (one b m ms) more; makes = made; asked = asked_later c b m ms more w })

  -- where nothing goes up, nothing is opened
  quiet_walk : (b d : Both Vms) (all : List (Step Vms)) → Walk calling plan b all d → StaysOn n all → KnownB b → (x : Exchange) → exchange_on n b.room ≡ Some x → Quiet starts logs change stay gets plan n low b → (between : List (Step Vms)) (opens : Step Vms)
      → all ≡ between ++ opens ∷ [] → Opened n opens → ⊥
  quiet_walk _ _ _ (stays b) on known x on_b q between opens is opened = not_nothing between opens is
  quiet_walk _ _ _ (steps b m d ms more goes reaches walk) on known x on_b q between opens is opened = by_list between is (λ rest same. quiet_walk m d more walk on.1 known_m on.0.0 on.0.1 (did.quiet on.0.0 on.0.1) rest opens same opened)
    where
      known_m : KnownB m
      known_m = step_known starts logs change stay gets plan n low b m ms goes reaches known

      did : IsQuiet starts logs change stay gets plan n low b m
      did = quiet_step starts logs change stay gets plan n low b m ms x reaches known on_b q

      by_list : (rest : List (Step Vms)) → ◌≡◌ {A = List (Step Vms)} (one b m ms ∷ more) (rest ++ opens ∷ []) → ((rest : List (Step Vms)) → more ≡ rest ++ opens ∷ [] → ⊥) → ⊥
      by_list [] same go =
          let s : one b m ms ≡ opens = first_same (one b m ms) opens more [] same in
          not_opened n b m opens (ap (λ (t : Step Vms). t.before) (sym s)) (ap (λ (t : Step Vms). t.after) (sym s)) did.since opened
      by_list (t ∷ rest) same go = go rest (rest_same (one b m ms) t more (rest ++ opens ∷ []) same)
  quiet_walk _ _ _ (turns b d event all rests goes walk) on known x on_b q between opens is opened =
      quiet_walk (both b.host (room_for_event plan event (without_sent b.room))) d all walk on (turn_known starts logs change stay gets plan n low b event rests goes known) x on_b
      (quiet_turn starts logs change stay gets plan n low b event rests goes known q) between opens is opened

  -- ---- the head waits for the stage

  module _ (k len c : ℕ) where
    abbrev Fair : Bool → List Sent → Both Vms → Type 0
    Fair i base b = waited.Fair n e.vm c k (making.own starts logs change stay gets plan n low p e at_p k len c) e.fail_open refl refl refl base low i b.room

    fair_step : (b m : Both Vms) (ms : List Met) (x : Exchange) → Reaches (step calling plan (next_of b.room) b.host b.room) ms (ends m) → KnownB b → exchange_on n b.room ≡ Some x → (IsAskedOn n e.vm c (asked_at b.room (next_of b.room)) → ⊥) → Fair true b.room.hub.sent b
        → (i : Bool) × Fair i b.room.hub.sent m
    fair_step b m ms x reaches known on none s =
        let base : List Sent = b.room.hub.sent in
        let f = making.own starts logs change stay gets plan n low p e at_p k len c in
        (all_reached (λ (d : Both Vms). waited.P n e.vm c k f e.fail_open refl refl refl base low d.room × ArePlaced d.host) ms (step calling plan (next_of b.room) b.host b.room) m
        (step_fine logs change stay plan (Unheard n) (waited.NotAsked n e.vm c k f e.fail_open refl refl refl base low) (waited.P n e.vm c k f e.fail_open refl refl refl base low) (waited.P n e.vm c k f e.fail_open refl refl refl base low)
        (waited.calm n e.vm c k f e.fail_open refl refl refl base low) (waited.stepped n e.vm c k f e.fail_open refl refl refl base low plan) b.host b.room
        (making.unheard_of starts logs change stay gets plan n low b x known on) (true, s) known.placed
        (λ place at quiet is. none (subst (λ (v : Next). IsAskedOn n e.vm c (asked_at b.room v)) (sym (moves_next b.room place at quiet)) is))) reaches).0

    rebased : (b m : Both Vms) → Fair true b.room.hub.sent m → Fair true m.room.hub.sent m
    rebased b m s = (s.0, (λ t. ([], sym (append-nil m.room.hub.sent), tt)), s.2)

    waits_walk : (b d : Both Vms) (all : List (Step Vms)) → Walk calling plan b all d → StaysOn n all → KnownB b → (x : Exchange) → exchange_on n b.room ≡ Some x → Fair true b.room.hub.sent b → Goal (Some c) b all
    waits_walk _ _ _ (stays b) on known x on_b s between opens is opened = absurd (not_nothing between opens is)
    waits_walk _ _ _ (steps b m d ms more goes reaches walk) on known x on_b s between opens is opened =
        by_asked (asked_cases n e.vm c (asked_at b.room (next_of b.room))) (λ t rest last same o. waits_walk m d more walk on.1 (step_known starts logs change stay gets plan n low b m ms goes reaches known) on.0.0 on.0.1 t rest last same o)
      where
        by_fair : (i : Bool) → Fair i b.room.hub.sent m → (Fair true m.room.hub.sent m → Goal (Some c) m more) → Answer (Some c) b (one b m ms ∷ more)
        by_fair true t again = goes_on (Some c) b m ms more (t.1 refl) (again (rebased b m t)) between opens is opened
        by_fair false t again = passed_now (Some c) b (one b m ms ∷ more) t.2.0.1 (inr (one b m ms, step_here (one b m ms) more, t.2.0.0))

        by_asked : IsAskedOn n e.vm c (asked_at b.room (next_of b.room)) ⊎ (IsAskedOn n e.vm c (asked_at b.room (next_of b.room)) → ⊥) → (Fair true m.room.hub.sent m → Goal (Some c) m more) → Answer (Some c) b (one b m ms ∷ more)
        by_asked (inl asks) again = inr (record { ask = one b m ms; among = step_here (one b m ms) more; asks = asks })
        by_asked (inr none) again = let r = fair_step b m ms x reaches known on_b none s in by_fair r.0 r.1 again
    waits_walk _ _ _ (turns b d event all rests goes walk) on known x on_b s between opens is opened =
        let next_b : Both Vms = both b.host (room_for_event plan event (without_sent b.room)) in
        let known_t : KnownB next_b = turn_known starts logs change stay gets plan n low b event rests goes known in
        faced (waits_walk next_b d all walk on known_t x on_b (s.0, (λ t. ([], refl, tt)), (tt, s.2.1, making.agenda_of starts logs change stay gets plan n low next_b known_t, s.2.3)) between opens is opened)
      where
        faced : Answer (Some c) (both b.host (room_for_event plan event (without_sent b.room))) all → Answer (Some c) b all
        faced (inl w) = inl (record { fails_open = w.fails_open; died = same w.died })
          where
            same : HasDied e.vm (both b.host (room_for_event plan event (without_sent b.room))) all → HasDied e.vm b all
            same (inl dead) = inl dead
            same (inr died) = inr died
        faced (inr w) = inr w

  asked_goal : IsGoal starts logs change stay gets plan n low p e at_p Goal
  asked_goal = record {
    nothing = λ o b between opens is opened. absurd (not_nothing between opens is);
    reads = λ b m ms more y on same since barred go. goes_on None b m ms more since go;
    goes = λ o b m ms more lives since go. goes_on o b m ms more since go;
    makes = λ c b m ms more lives since made go. makes_now c b m ms more since made go;
    passes = λ o b m ms more dead open_so between opens is opened. passed_now o b (one b m ms ∷ more) open_so (inr (one b m ms, step_here (one b m ms) more, dead));
    gone = λ b all dead open_so between opens is opened. passed_now None b all open_so (inl dead);
    faced = λ b event all go between opens is opened. faced_now b event all (go between opens is opened);
    quiets = λ o b d all known x on_b q walk on between opens is opened. absurd (quiet_walk b d all walk on known x on_b q between opens is opened);
    waits = λ c b d all known w walk on. waits_from c b d all known w walk on;
  }
    where
      faced_now : (b : Both Vms) (event : Event) (all : List (Step Vms)) → Answer None (both b.host (room_for_event plan event (without_sent b.room))) all → Answer None b all
      faced_now b event all (inl w) = inl (record { fails_open = w.fails_open; died = same w.died })
        where
          same : HasDied e.vm (both b.host (room_for_event plan event (without_sent b.room))) all → HasDied e.vm b all
          same (inl dead) = inl dead
          same (inr died) = inr died
      faced_now b event all (inr w) = inr w

      waits_from : (c : ℕ) (b d : Both Vms) (all : List (Step Vms)) → KnownB b → every.WaitsB starts logs change stay gets plan n low p e at_p c b → Walk calling plan b all d → StaysOn n all → Goal (Some c) b all
      waits_from c b d all known (k, len, w) walk on =
          waits_walk k len c b d all walk on known w.exchange w.on (
            to_each n (waited.X n e.vm c k (making.own starts logs change stay gets plan n low p e at_p k len c) e.fail_open refl refl refl b.room.hub.sent low true) b.room w.exchange (making.once_of starts logs change stay gets plan n low b known) w.on (w.waits, w.its),
            (λ t. ([], sym (append-nil b.room.hub.sent), tt)),
            (tt, w.none, making.agenda_of starts logs change stay gets plan n low b known, subst (Cold n) (sym w.quiet) tt),
          )

pub every_filter_is_asked : StartsHaveRoots → WriteLogs calling → CallbacksChangeTheirOwn → PlacesStay → FiltersGetContexts → MadeVmsAreInPlace → EveryFilterIsAsked
every_filter_is_asked starts logs change stay gets made config who seed earlier between begins opens mid to n place p head entry front back before walk begun on sends at at_p =
    every.from_head starts logs change stay gets plan n low p entry at_p (Goal starts logs change stay gets plan n low p entry at_p) (asked_goal starts logs change stay gets plan n low p entry at_p) mid to (begins ∷ between ++ opens ∷ []) walk
    (record { knows = knows; sound = sound.0; placed = sound.1 }) begins (between ++ opens ∷ []) head place refl begun on at (begins ∷ between) opens refl (front, back, sends)
  where
    plan : Plan
    plan = rules_for config who seed

    first : Both Vms
    first = (first_worker config who seed).state

    knows : asking.Knows logs plan mid.room
    knows = asking.walk_knows logs plan first mid earlier before (record { past = []; known = new_all plan (contexts_of config seed) })

    sound : IsSound plan Nobody mid.room × ArePlaced mid.host
    sound = walked starts plan logs change stay first mid earlier before (first_sound config seed plan refl, made.placed config.vms)

    low : is_call_line n ≡ false
    low = every.low_of logs plan n mid to (begins ∷ between ++ opens ∷ []) walk knows begins (between ++ opens ∷ []) refl on
