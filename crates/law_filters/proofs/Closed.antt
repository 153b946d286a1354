-- What fails closed lets nothing pass.
use Rattle.std.proofs.Common.{◌≡◌, ◌⊎◌, inl, inr, refl, ℕ, zero, suc, ◌<◌, Bool, true, false, List, [], ◌∷◌, ◌++◌, length, ap, ◌∙◌, sym, subst, arith, append-nil}
use Rattle.std.specs.Prelude.{Contains, slice_get, slice_index_or, Option, None, Some}
use Rattle.callouts.specs.Callouts.{is_call_line}
use Rattle.exchange.specs.declared.types.Exchange.{Exchange}
use Rattle.filter_host.proofs.Holds.{all_reached}
use Rattle.filter_host.specs.Course.{ends, Met, Reaches}
use Rattle.gate_config.specs.declared.entries.PluginEntry.{PluginEntry}
use Rattle.gate_io.specs.declared.event.Event.{Event}
use Rattle.gate_io.specs.declared.event.Sent.{Sent}
use Rattle.gate_io.specs.declared.event.Sent.TheVariants as to
use Rattle.law_lines.proofs.Turning.{new_all}
use Rattle.law_lines.specs.Logs.{WriteLogs}
use Rattle.law_meaning.specs.Walks.{Step, Walk, stays, steps, turns}
use Rattle.law_roots.specs.Roots.{FiltersGetContexts, StartsHaveRoots}
use Rattle.law_vms.specs.MadeVms.{MadeVmsAreInPlace}
use Rattle.law_vms.specs.OwnChanges.{ArePlaced, CallbacksChangeTheirOwn, PlacesStay}
use Rattle.vm_host.specs.Slots.{calling}
use Rattle.vm_host.specs.declared.slots.Vms.{Vms}
use Rattle.worker_model.specs.Making.{contexts_of}
use Rattle.worker_model.specs.Plan.{Plan}
use Rattle.worker_model.specs.Rooms.{is_dead, next_of}
use Rattle.worker_model.specs.Steps.{Both, both, exchange_on, step}
use Rattle.worker_model.specs.Turn.{room_for_event, without_sent}
use Rattle.law_filters.proofs.Asking as asking
use Rattle.law_filters.proofs.Before.{to_each}
use Rattle.law_filters.proofs.Begun.{first_sound}
use Rattle.law_filters.proofs.Doing.{never}
use Rattle.law_filters.proofs.Every as every
use Rattle.law_filters.proofs.Every.{IsGoal, one}
use Rattle.law_filters.proofs.EveryAsked.{Opened, first_same, not_nothing, not_opened, rest_same}
use Rattle.law_filters.proofs.Guarded as guarded
use Rattle.law_filters.proofs.Lasting.{Cold, NoneSince, Unheard}
use Rattle.law_filters.proofs.Making as making
use Rattle.law_filters.proofs.Making.{IsKnown, IsQuiet, Quiet, is_over, quiet_step, quiet_turn, step_known, turn_known}
use Rattle.law_filters.proofs.Sound.{Any, IsSound, Nobody}
use Rattle.law_filters.proofs.Steps.{step_fine}
use Rattle.law_filters.proofs.Waited.{comes_has}
use Rattle.law_filters.proofs.Walks.{walked}
use Rattle.law_filters.specs.Every.{ClosedLetsNothingPass, IsBarred}
use Rattle.law_filters.specs.Heads.{Waits}
use Rattle.law_filters.specs.Onward.{HasDied, StaysOn}
use Rattle.law_filters.specs.Roots.{first_worker, rules_for}

none_contained : (s : Step Vms) → Contains [] s → ⊥
none_contained s is = let low : is.0 < 0 = is.1 in omega (arith, low)

module _ (starts : StartsHaveRoots) (logs : WriteLogs calling) (change : CallbacksChangeTheirOwn) (stay : PlacesStay) (gets : FiltersGetContexts) (plan : Plan) (n : ℕ) (low : is_call_line n ≡ false) (p : ℕ) (e : PluginEntry) (at_p : slice_get plan.plugins p ≡ Some e) (shut : e.fail_open ≡ false) where
  abbrev KnownB : Both Vms → Type 0
  KnownB b = IsKnown starts logs change stay gets plan n low b

  abbrev QuietB : Both Vms → Type 0
  QuietB b = Quiet starts logs change stay gets plan n low b

  -- no connection is opened by the last of the steps, and the exchange is barred after it
  abbrev Shuts : Step Vms → Type 0
  Shuts last = (Opened n last → ⊥) × ((x : Exchange) × (exchange_on n last.after.room ≡ Some x) × IsBarred x)

  abbrev Goal : Option ℕ → Both Vms → List (Step Vms) → Type 0
  Goal o b all = (between : List (Step Vms)) (last : Step Vms) → all ≡ between ++ last ∷ [] → HasDied e.vm b between → Shuts last

  shuts_by : (b m : Both Vms) (ms : List Met) (last : Step Vms) (y : Exchange) → one b m ms ≡ last → NoneSince n b.room.hub.sent m.room.hub → exchange_on n m.room ≡ Some y → IsBarred y → Shuts last
  shuts_by b m ms last y same since on barred =
      (not_opened n b m last (ap (λ (t : Step Vms). t.before) (sym same)) (ap (λ (t : Step Vms). t.after) (sym same)) since, (y, ap (λ (t : Step Vms). exchange_on n t.after.room) (sym same) ∙ on, barred))

  -- the VM died in what is left of the steps
  died_then : (b m : Both Vms) (ms : List Met) (t : Step Vms) (between : List (Step Vms)) → one b m ms ≡ t → is_dead e.vm b.room ≡ false → HasDied e.vm b (t ∷ between) → HasDied e.vm m between
  died_then b m ms t between same lives (inl dead) = absurd (never (is_dead e.vm b.room) lives dead)
  died_then b m ms t between same lives (inr (s, among, dead)) = by_place among.0 among.1 among.2
    where
      by_place : (k : ℕ) → k < length (t ∷ between) → slice_index_or (t ∷ between) k s ≡ s → HasDied e.vm m between
      by_place zero less at = inl (ap (λ (u : Step Vms). is_dead e.vm u.after.room) (same ∙ at) ∙ dead)
      by_place (suc k) less at = inr (s, (k, (let fewer : k < length between = omega (arith, less) in fewer), at), dead)

  goes_on : (o : Option ℕ) (b m : Both Vms) (ms : List Met) (more : List (Step Vms)) → is_dead e.vm b.room ≡ false → Goal o m more → Goal o b (one b m ms ∷ more)
  goes_on o b m ms more lives go [] last is (inl dead) = absurd (never (is_dead e.vm b.room) lives dead)
  goes_on o b m ms more lives go [] last is (inr died) = absurd (none_contained died.0 died.1)
  goes_on o b m ms more lives go (t ∷ between) last is died =
      go between last (rest_same (one b m ms) t more (between ++ last ∷ []) is) (died_then b m ms t between (first_same (one b m ms) t more (between ++ last ∷ []) is) lives died)

  reads_on : (b m : Both Vms) (ms : List Met) (more : List (Step Vms)) (y : Exchange) → exchange_on n m.room ≡ Some y → m.room.dead ≡ b.room.dead → NoneSince n b.room.hub.sent m.room.hub → (e.fail_open ≡ false → is_dead e.vm b.room ≡ true → IsBarred y) → Goal None m more
      → Goal None b (one b m ms ∷ more)
  reads_on b m ms more y on same since barred go [] last is (inl dead) = shuts_by b m ms last y (first_same (one b m ms) last more [] is) since on (barred shut dead)
  reads_on b m ms more y on same since barred go [] last is (inr died) = absurd (none_contained died.0 died.1)
  reads_on b m ms more y on same since barred go (t ∷ between) last is (inl dead) =
      go between last (rest_same (one b m ms) t more (between ++ last ∷ []) is) (inl (dead_still dead))
    where
      dead_still : is_dead e.vm b.room ≡ true → is_dead e.vm m.room ≡ true
      dead_still d = ap (λ (ds : List ℕ). is_dead_in ds) same ∙ d
        where
          is_dead_in : List ℕ → Bool
          is_dead_in ds = is_dead e.vm (record b.room { dead = ds })
  reads_on b m ms more y on same since barred go (t ∷ between) last is (inr (s, among, dead)) =
      go between last (rest_same (one b m ms) t more (between ++ last ∷ []) is) (by_place among.0 among.1 among.2)
    where
      first : one b m ms ≡ t
      first = first_same (one b m ms) t more (between ++ last ∷ []) is

      by_place : (k : ℕ) → k < length (t ∷ between) → slice_index_or (t ∷ between) k s ≡ s → HasDied e.vm m between
      by_place zero less at = inl (ap (λ (u : Step Vms). is_dead e.vm u.after.room) (first ∙ at) ∙ dead)
      by_place (suc k) less at = inr (s, (k, (let fewer : k < length between = omega (arith, less) in fewer), at), dead)

  -- where nothing goes up it stays so
  quiet_walk : (b d : Both Vms) (all : List (Step Vms)) → Walk calling plan b all d → StaysOn n all → KnownB b → (x : Exchange) → exchange_on n b.room ≡ Some x → QuietB b → (between : List (Step Vms)) (last : Step Vms) → all ≡ between ++ last ∷ [] → Shuts last
  quiet_walk _ _ _ (stays b) on known x on_b q between last is = absurd (not_nothing between last is)
  quiet_walk _ _ _ (steps b m d ms more goes reaches walk) on known x on_b q between last is = by_list between is (λ rest same. quiet_walk m d more walk on.1 known_m on.0.0 on.0.1 (did.quiet on.0.0 on.0.1) rest last same)
    where
      known_m : KnownB m
      known_m = step_known starts logs change stay gets plan n low b m ms goes reaches known

      did : IsQuiet starts logs change stay gets plan n low b m
      did = quiet_step starts logs change stay gets plan n low b m ms x reaches known on_b q

      by_list : (rest : List (Step Vms)) → ◌≡◌ {A = List (Step Vms)} (one b m ms ∷ more) (rest ++ last ∷ []) → ((rest : List (Step Vms)) → more ≡ rest ++ last ∷ [] → Shuts last) → Shuts last
      by_list [] same go = shuts_by b m ms last on.0.0 (first_same (one b m ms) last more [] same) did.since on.0.1 (did.barred on.0.0 on.0.1)
      by_list (t ∷ rest) same go = go rest (rest_same (one b m ms) t more (rest ++ last ∷ []) same)
  quiet_walk _ _ _ (turns b d event all rests goes walk) on known x on_b q between last is =
      quiet_walk (both b.host (room_for_event plan event (without_sent b.room))) d all walk on (turn_known starts logs change stay gets plan n low b event rests goes known) x on_b
      (quiet_turn starts logs change stay gets plan n low b event rests goes known q) between last is

  -- ---- its stage is there

  module _ (k len c : ℕ) where
    abbrev Fair : Bool → List Sent → Both Vms → Type 0
    Fair i base b = guarded.Fair n e.vm c k (making.own starts logs change stay gets plan n low p e at_p k len c) refl refl shut base low i b.room

    guard_step : (b m : Both Vms) (ms : List Met) (x : Exchange) → Reaches (step calling plan (next_of b.room) b.host b.room) ms (ends m) → KnownB b → exchange_on n b.room ≡ Some x → Fair true b.room.hub.sent b → (i : Bool) × Fair i b.room.hub.sent m
    guard_step b m ms x reaches known on s =
        let base : List Sent = b.room.hub.sent in
        let f = making.own starts logs change stay gets plan n low p e at_p k len c in
        (all_reached (λ (d : Both Vms). guarded.P n e.vm c k f refl refl shut base low d.room × ArePlaced d.host) ms (step calling plan (next_of b.room) b.host b.room) m
        (step_fine logs change stay plan (Unheard n) Any (guarded.P n e.vm c k f refl refl shut base low) (guarded.P n e.vm c k f refl refl shut base low) (guarded.calm n e.vm c k f refl refl shut base low) (guarded.stepped n e.vm c k f refl refl shut base low plan) b.host b.room
        (making.unheard_of starts logs change stay gets plan n low b x known on) (true, s) known.placed (λ place at quiet. tt)) reaches).0

    rebased : (b m : Both Vms) → Fair true b.room.hub.sent m → Fair true m.room.hub.sent m
    rebased b m s = (s.0, (λ t. absurd (cc t)), s.2)

    quieted : (b m : Both Vms) → Fair false b.room.hub.sent m → QuietB m
    quieted b m s = is_over starts logs change stay gets plan n low m (s.0, (λ t. ([], sym (append-nil m.room.hub.sent), tt)), (tt, s.2.1, s.2.2, s.2.3))

    guard_walk : (b d : Both Vms) (all : List (Step Vms)) → Walk calling plan b all d → StaysOn n all → KnownB b → (x : Exchange) → exchange_on n b.room ≡ Some x → Fair true b.room.hub.sent b → Goal (Some c) b all
    guard_walk _ _ _ (stays b) on known x on_b s between last is died = absurd (not_nothing between last is)
    guard_walk _ _ _ (steps b m d ms more goes reaches walk) on known x on_b s between last is died =
        (let r = guard_step b m ms x reaches known on_b s in by_fair r.0 r.1 (λ t. guard_walk m d more walk on.1 known_m on.0.0 on.0.1 t)) between last is died
      where
        known_m : KnownB m
        known_m = step_known starts logs change stay gets plan n low b m ms goes reaches known

        by_fair : (i : Bool) → Fair i b.room.hub.sent m → (Fair true m.room.hub.sent m → Goal (Some c) m more) → Goal (Some c) b (one b m ms ∷ more)
        by_fair true t again = goes_on (Some c) b m ms more s.2.0 (again (rebased b m t))
        by_fair false t again = goes_on (Some c) b m ms more s.2.0 (λ rest end same gone. quiet_walk m d more walk on.1 known_m on.0.0 on.0.1 (quieted b m t) rest end same)
    guard_walk _ _ _ (turns b d event all rests goes walk) on known x on_b s between last is died =
        let next_b : Both Vms = both b.host (room_for_event plan event (without_sent b.room)) in
        let known_t : KnownB next_b = turn_known starts logs change stay gets plan n low b event rests goes known in
        guard_walk next_b d all walk on known_t x on_b (s.0, (λ t. absurd (cc t)), (s.2.0, s.2.1, making.agenda_of starts logs change stay gets plan n low next_b known_t, s.2.3)) between last is (faced died)
      where
        faced : HasDied e.vm b between → HasDied e.vm (both b.host (room_for_event plan event (without_sent b.room))) between
        faced (inl dead) = inl dead
        faced (inr gone) = inr gone

  closed_goal : IsGoal starts logs change stay gets plan n low p e at_p Goal
  closed_goal = record {
    nothing = λ o b between last is died. absurd (not_nothing between last is);
    reads = λ b m ms more y on same since barred go. reads_on b m ms more y on same since barred go;
    goes = λ o b m ms more lives since go. goes_on o b m ms more lives go;
    makes = λ c b m ms more lives since made go between last is died. goes_on None b m ms more lives go between last is died;
    passes = λ o b m ms more dead open_so. absurd (never e.fail_open shut open_so);
    gone = λ b all dead open_so. absurd (never e.fail_open shut open_so);
    faced = λ b event all go between last is died. go between last is (faced_now b event between died);
    quiets = λ o b d all known x on_b q walk on between last is died. quiet_walk b d all walk on known x on_b q between last is;
    waits = λ c b d all known w walk on. waits_from c b d all known w walk on;
  }
    where
      faced_now : (b : Both Vms) (event : Event) (between : List (Step Vms)) → HasDied e.vm b between → HasDied e.vm (both b.host (room_for_event plan event (without_sent b.room))) between
      faced_now b event between (inl dead) = inl dead
      faced_now b event between (inr gone) = inr gone

      waits_from : (c : ℕ) (b d : Both Vms) (all : List (Step Vms)) → KnownB b → every.WaitsB starts logs change stay gets plan n low p e at_p c b → Walk calling plan b all d → StaysOn n all → Goal (Some c) b all
      waits_from c b d all known (k, len, w) walk on =
          guard_walk k len c b d all walk on known w.exchange w.on (
            to_each n (guarded.X n e.vm c k (making.own starts logs change stay gets plan n low p e at_p k len c) refl refl shut b.room.hub.sent low true) b.room w.exchange (making.once_of starts logs change stay gets plan n low b known) w.on (has w.waits),
            (λ t. absurd (cc t)),
            (w.lives, w.none, making.agenda_of starts logs change stay gets plan n low b known, subst (Cold n) (sym w.quiet) tt),
          )
        where
          has : Waits e.vm c w.exchange → guarded.IsGuarded e.vm c k (making.own starts logs change stay gets plan n low p e at_p k len c) w.exchange
          has (inl silenced) = inl silenced
          has (inr is) = inr (comes_has e.vm c is.0 w.exchange.request is.1, w.its)

pub closed_lets_nothing_pass : StartsHaveRoots → WriteLogs calling → CallbacksChangeTheirOwn → PlacesStay → FiltersGetContexts → MadeVmsAreInPlace → ClosedLetsNothingPass
closed_lets_nothing_pass starts logs change stay gets made config who seed earlier between begins last mid to n place p head entry before walk begun on at at_p shut died =
    let r = every.from_head starts logs change stay gets plan n low p entry at_p (Goal starts logs change stay gets plan n low p entry at_p shut) (closed_goal starts logs change stay gets plan n low p entry at_p shut) mid to (begins ∷ between ++ last ∷ []) walk
    (record { knows = knows; sound = sound.0; placed = sound.1 }) begins (between ++ last ∷ []) head place refl begun on at (begins ∷ between) last refl died in
    ((λ front back sends. r.0 (front, back, sends)), r.1)
  where
    plan : Plan
    plan = rules_for config who seed

    first : Both Vms
    first = (first_worker config who seed).state

    knows : asking.Knows logs plan mid.room
    knows = asking.walk_knows logs plan first mid earlier before (record { past = []; known = new_all plan (contexts_of config seed) })

    sound : IsSound plan Nobody mid.room × ArePlaced mid.host
    sound = walked starts plan logs change stay first mid earlier before (first_sound config seed plan refl, made.placed config.vms)

    low : is_call_line n ≡ false
    low = every.low_of logs plan n mid to (begins ∷ between ++ last ∷ []) walk knows begins (between ++ last ∷ []) refl on
