-- The contexts of an exchange are made, and its stages; then the head of its request comes to wait. Or nothing of the request goes up. Step by step.
use Rattle.std.proofs.Common.{◌≡◌, ◌⊎◌, inl, inr, refl, ℕ, zero, suc, ◌+◌, ◌<◌, ◌≤◌, ◌==◌, Bool, true, false, not, ◌||◌, ◌&&◌, List, [], ◌∷◌, ◌++◌, length, ap, ◌∙◌, sym, subst, ⊎_elim, arith, append-nil}
use Rattle.std.proofs.lemmas.Bool.{cases_Bool, cases_eq}
use Rattle.std.proofs.Math.ListN.{length-set}
use Rattle.std.specs.List.{filter, find}
use Rattle.std.specs.Option.{option_map}
use Rattle.std.specs.Prelude.{map, nat_lt, reverse, slice_get, slice_set, is_some, if◌then◌else◌, Option, None, Some, position}
use Rattle.callouts.specs.Callouts.{is_call_line}
use Rattle.contexts.specs.Creating.{next_id, plugin_in}
use Rattle.exchange.specs.Answering.{answer, answer_directly, with_closes}
use Rattle.exchange.specs.Heads.{closes_line, passes_filters}
use Rattle.exchange.specs.Passing as passing
use Rattle.exchange.specs.Passing.{fails_closed, has_stage_of, put_read_items, refuse_exchange}
use Rattle.exchange.specs.declared.types.Exchange.{Exchange}
use Rattle.exchange.specs.declared.types.Filter.{Filter}
use Rattle.exchange.specs.declared.types.Hub.{Hub}
use Rattle.filter_chain.proofs.Picks.{ready_picks}
use Rattle.filter_chain.specs.Chains.{is_any as any_item, may_be_picked, ready}
use Rattle.filter_chain.specs.Items.{is_free}
use Rattle.filter_chain.specs.declared.item.ChainItem.{ChainItem}
use Rattle.filter_chain.specs.declared.item.ChainItem.TheVariants as items
use Rattle.filter_chain.specs.declared.stage.Stage.{Stage}
use Rattle.filter_host.proofs.Holds.{AllEnds, all_then, all_reached}
use Rattle.filter_host.specs.Course.{ends, Met, Reaches}
use Rattle.filter_host.specs.declared.host.Callback.TheVariants as callbacks
use Rattle.filter_host.specs.declared.host.Death.TheVariants as deaths
use Rattle.gate_config.specs.declared.entries.PluginEntry.{PluginEntry}
use Rattle.gate_io.specs.Events.{is_stop}
use Rattle.gate_io.specs.declared.event.Event.{Event}
use Rattle.gate_io.specs.declared.event.Sent.{Sent}
use mathlib.Core.List.{reverse_aux}
use Rattle.law_lines.proofs.Finding.{IsOnce, Seeks, first as the_first, missing, seeks}
use Rattle.law_lines.proofs.Looks.{is_n, look, equal_is}
use Rattle.law_lines.proofs.OnLines.{on_once, on_rests, on_same}
use Rattle.law_lines.proofs.Stepping.{none_found}
use Rattle.law_lines.proofs.Kept.{put_in_kept}
use Rattle.law_lines.specs.Logs.{WriteLogs}
use Rattle.law_meaning.specs.Walks.{stays, steps, turns}
use Rattle.law_roots.specs.Roots.{FiltersGetContexts, RootStands, StartsHaveRoots}
use Rattle.law_vms.specs.OwnChanges.{ArePlaced, CallbacksChangeTheirOwn, PlacesStay}
use Rattle.vm_host.specs.Slots.{calling}
use Rattle.vm_host.specs.declared.slots.Vms.{Vms}
use Rattle.worker_model.specs.Plan.{Plan}
use Rattle.worker_model.specs.Room.{Room}
use Rattle.worker_model.specs.Rooms.{exchange_moves, has_move, is_any, is_dead, lose_vm_in, moves_or, next_of, next_part, on_number}
use Rattle.worker_model.specs.Settling.{is_rest}
use Rattle.worker_model.specs.Steps.{Answered, Both, both, action_of, apply_stage_action, callback_of, called_in, change_exchange, change_line, continue_with, create_context, create_filter, create_stream, enter_stages, exchange_of_line, exchange_on, exchange_with_stages, filter_at, filter_of, is_drawn_out, is_live, line_in, made_with, may_stream, moved, new_one, new_stage, nothing_more, number_of, on_line, open_filter, refuse_in, refuse_line, step, with_exchange, with_filter, with_stream, works, works_first}
use Rattle.worker_model.specs.Turn.{room_for_event, without_sent}
use Rattle.worker_model.specs.declared.types.Asked.{Asked}
use Rattle.worker_model.specs.declared.types.Job.{Job}
use Rattle.worker_model.specs.declared.types.Job.TheVariants as jobs
use Rattle.worker_model.specs.declared.types.Line.{Line}
use Rattle.worker_model.specs.declared.types.NewContext.{NewContext}
use Rattle.worker_model.specs.declared.types.Next.{Next}
use Rattle.worker_model.specs.declared.types.Next.TheVariants as next
use Rattle.worker_model.specs.declared.types.Owner.TheVariants as owns
use Rattle.law_filters.proofs.Asking as asking
use Rattle.law_filters.proofs.Asking.{moves_next}
use Rattle.law_filters.proofs.Before.{IsFound, IsPre, IsRaw, Never, Pre, Stays, create_stays, directly_ended, each_by, find_it, from_each, never_raw, pre_asked, pre_calm, stays_calm, to_each}
use Rattle.law_filters.proofs.Beginning.{Ahead, Follows}
use Rattle.law_filters.proofs.Doing.{by_ended, never}
use Rattle.law_filters.proofs.Entering.{stages_await}
use Rattle.law_filters.proofs.Lasting.{Cold, NoMaking, NoneSince, Unheard, none_any, parts_making}
use Rattle.law_filters.proofs.Numbered.{Becomes, becomes_on, number_is}
use Rattle.law_filters.proofs.Rooms.{IsCalm, asked_lines, op_acts, op_refuses, with_asked}
use Rattle.law_filters.proofs.Silent as silent
use Rattle.law_filters.proofs.Silent.{pre_silenced}
use Rattle.law_filters.proofs.Sound.{Any, IsSound, Nobody, now_dead}
use Rattle.law_filters.proofs.Steps.{called_fine, live_then, step_fine, weaker}
use Rattle.law_filters.proofs.Waited.{closes_by}
use Rattle.law_filters.proofs.Waiting.{heads_wait}
use Rattle.law_filters.proofs.Walks.{roots_of, walked}
use Rattle.law_filters.specs.Every.{IsBarred, Makes}
use Rattle.law_filters.specs.Heads.{IsSilenced, Waits, WaitsOn, WaitsYet}
use Rattle.law_filters.specs.Roots.{IsToCome, RootsStand}

-- ---- what is next

pub works_next : (room : Room) (job : Job) (later : List Job) → room.reading ≡ None → position has_move room.lines ≡ None → room.jobs ≡ job ∷ later → next_of room ≡ next.Work
works_next room job later quiet rests at = λ i. if is_some (quiet i) then next.Read else moves_or (rests i) (if is_any (at i) then next.Work else next_part room)

no_rest : (x y : Next) → x ≡ y → is_rest y ≡ false → is_rest x ≡ true → ⊥
no_rest x y same goes rests = never (is_rest y) goes (ap is_rest (sym same) ∙ rests)

-- where a job is in hand and nothing is read, a chain moves, or the job is worked
job_step : (plan : Plan) (b : Both Vms) (job : Job) (later : List Job) (Q : Both Vms → Type 0) → b.room.reading ≡ None → b.room.jobs ≡ job ∷ later
    → ((place : ℕ) → position has_move b.room.lines ≡ Some place → AllEnds Q (step calling plan (next.Move place) b.host b.room))
    → (position has_move b.room.lines ≡ None → AllEnds Q (works calling plan job b.host (record b.room { jobs = later }))) → AllEnds Q (step calling plan (next_of b.room) b.host b.room)
job_step plan b job later Q quiet at moves work = by_moves (position has_move b.room.lines) refl
  where
    by_moves : (o : Option ℕ) → position has_move b.room.lines ≡ o → AllEnds Q (step calling plan (next_of b.room) b.host b.room)
    by_moves (Some place) is = subst (λ (x : Next). AllEnds Q (step calling plan x b.host b.room)) (sym (moves_next b.room place is quiet)) (moves place is)
    by_moves None is =
        subst (λ (x : Next). AllEnds Q (step calling plan x b.host b.room)) (sym (works_next b.room job later quiet is at))
        (subst (λ (js : List Job). AllEnds Q (works_first calling plan js b.host b.room)) (sym at) (work is))

pub job_goes : (room : Room) (job : Job) (later : List Job) → room.reading ≡ None → room.jobs ≡ job ∷ later → is_rest (next_of room) ≡ true → ⊥
job_goes room job later quiet at rests = by_moves (position has_move room.lines) refl
  where
    by_moves : (o : Option ℕ) → position has_move room.lines ≡ o → ⊥
    by_moves (Some place) is = no_rest (next_of room) (next.Move place) (moves_next room place is quiet) refl rests
    by_moves None is = no_rest (next_of room) next.Work (works_next room job later quiet is at) refl rests

-- ---- a chain moves; a context is made

module _ (logs : WriteLogs calling) (change : CallbacksChangeTheirOwn) (stay : PlacesStay) (P : Room → Type 0) (calm : IsCalm P) where
  abbrev pub Fine : Both Vms → Type 0
  Fine c = P c.room × ArePlaced c.host

  pub move_fine : (plan : Plan) (host : Vms) (room : Room) (place : ℕ) → P (with_asked room (asked_lines place room)) → ArePlaced host → AllEnds Fine (step calling plan (next.Move place) host room)
  move_fine plan host room place is placed = go (asked_lines place room).0 (with_asked room (asked_lines place room)) is
    where
      acted : (a : Asked) (value : Option (Option ℕ)) (r : Room) → P r → P (apply_stage_action a value r)
      acted a None r s = s
      acted a (Some value) r s = calm.number (passing.apply_action a.response a.ask.stage (action_of value)) a.line r (op_acts a.response a.ask.stage (action_of value)) s

      go : (a : Option Asked) (r : Room) → P r → AllEnds Fine (moved calling a host r)
      go None r s = (s, placed)
      go (Some a) r s =
          all_then (λ (c : Answered Vms). P c.both.room × ArePlaced c.both.host) Fine
          (called_in calling a.vm (callback_of a.response a.ask.kind) a.context a.count (number_of a.ask.end) (owns.Stage a.context a.response) host r) (λ c. ends (continue_with (apply_stage_action a) c))
          (called_fine logs change stay P calm a.vm (callback_of a.response a.ask.kind) a.context a.count (number_of a.ask.end) (owns.Stage a.context a.response) host r s placed)
          (λ c here. (acted a c.value c.both.room here.0, here.1))

  pub made_fine : (host : Vms) (r : Option NewContext × Room) → P r.1 → ArePlaced host → AllEnds Fine (made_with calling host r)
  made_fine host (None, room) is placed = (is, placed)
  made_fine host (Some c, room) is placed = live_then logs change stay P P calm c.vm callbacks.ContextCreate c.context c.root 0 nothing_more (λ value r s. s) host room is placed

-- ---- filters

get_other : (fs : List Filter) (j k : ℕ) (g : Filter) → (j ≡ k → ⊥) → slice_get (slice_set fs j g) k ≡ slice_get fs k
get_other [] j k g other = refl
get_other (x ∷ fs) zero zero g other = absurd (other refl)
get_other (x ∷ fs) zero (suc k) g other = refl
get_other (x ∷ fs) (suc j) zero g other = refl
get_other (x ∷ fs) (suc j) (suc k) g other = get_other fs j k g (λ same. other (ap suc same))

get_set : (fs : List Filter) (k : ℕ) (f g : Filter) → slice_get fs k ≡ Some f → slice_get (slice_set fs k g) k ≡ Some g
get_set [] zero f g at = absurd (cc at)
get_set [] (suc k) f g at = absurd (cc at)
get_set (x ∷ fs) zero f g at = refl
get_set (x ∷ fs) (suc k) f g at = get_set fs k f g at

within : (fs : List Filter) (k : ℕ) (f : Filter) → slice_get fs k ≡ Some f → k < length fs
within [] zero f at = absurd (cc at)
within [] (suc k) f at = absurd (cc at)
within (x ∷ fs) zero f at = omega arith
within (x ∷ fs) (suc k) f at = let less : k < length fs = within fs k f at in omega (arith, less)

-- its stages are not made, and it has this filter at this place, of so many
pub record IsRawOf (k len : ℕ) (f : Filter) (x : Exchange) : Type 0 where
  pub unentered : x.is_entered ≡ false
  pub many : length x.filters ≡ len
  pub its : slice_get x.filters k ≡ Some f

raw_of : (k len : ℕ) (f : Filter) → IsRaw (IsRawOf k len f)
raw_of k len f x y a is = record {
  unentered = a.entered ∙ is.unentered;
  many = ap length a.filters ∙ is.many;
  its = ap (λ (fs : List Filter). slice_get fs k) a.filters ∙ is.its;
}

raw_other : (k len : ℕ) (f : Filter) (j : ℕ) → (j ≡ k → ⊥) → (g : Filter) (x : Exchange) → IsRawOf k len f x → IsRawOf k len f (with_filter j g x)
raw_other k len f j other g x is = record { unentered = is.unentered; many = length-set x.filters j g ∙ is.many; its = get_other x.filters j k g other ∙ is.its }

or_true : (a : Bool) → (a || true) ≡ true
or_true true = refl
or_true false = refl

raw_closes : (vm k len : ℕ) (f : Filter) (opens : Bool) → f.vm ≡ vm → f.fails_open ≡ opens → opens ≡ false → (x : Exchange) → IsRawOf k len f x → x.is_answered ≡ false → fails_closed vm x ≡ true
raw_closes vm k len f opens of so shut x is free =
    closes_by vm k f x is.its of (so ∙ shut)
    ((λ i. (has_stage_of f.vm f.context x.request || has_stage_of f.vm f.context x.response) || (not (is.unentered i) && not (free i)))
    ∙ or_true (has_stage_of f.vm f.context x.request || has_stage_of f.vm f.context x.response))

not_last : (j k : ℕ) → j ≤ k → (j ≡ k → ⊥) → suc j ≤ k
not_last zero zero less other = absurd (other refl)
not_last zero (suc k) less other = omega arith
not_last (suc j) zero less other = absurd (omega (arith, less))
not_last (suc j) (suc k) less other = let l : j ≤ k = omega (arith, less) in let r : suc j ≤ k = not_last j k l (λ same. other (ap suc same)) in omega (arith, r)

after_last : (j k : ℕ) → j ≡ k → k < suc j
after_last j k same = omega (arith, same)

too_late : (j k len : ℕ) → j ≤ k → k < len → j ≡ len → ⊥
too_late j k len early few same = omega (arith, early, few, same)

-- ---- new stages do not move

abbrev AreFree : List Stage → Type 0
AreFree [] = Unit {0}
AreFree (s ∷ ss) = (s.waiting ≡ []) × AreFree ss

free_new : (response : Bool) (fs : List Filter) → AreFree (map (new_stage response) fs)
free_new response [] = tt
free_new response (f ∷ fs) = (refl, free_new response fs)

free_onto : (ss acc : List Stage) → AreFree ss → AreFree acc → AreFree (reverse_aux ss acc)
free_onto [] acc one two = two
free_onto (s ∷ ss) acc one two = free_onto ss (s ∷ acc) one.1 (one.0, two)

free_reverse : (ss : List Stage) → AreFree ss → AreFree (reverse ss)
free_reverse ss is = free_onto ss [] is tt

free_at : (ss : List Stage) (k : ℕ) (s : Stage) → slice_get ss k ≡ Some s → AreFree ss → s.waiting ≡ []
free_at [] zero s at is = absurd (cc at)
free_at [] (suc k) s at is = absurd (cc at)
free_at (x ∷ ss) zero s at is = ap (λ (y : Stage). y.waiting) (sym (stage_same x s at)) ∙ is.0
  where
    stage_same : (a b : Stage) → Some a ≡ Some b → a ≡ b
    stage_same a b e = cc e
free_at (x ∷ ss) (suc k) s at is = free_at ss k s at is.1

get_none : (ss : List Stage) (k : ℕ) → slice_get ss k ≡ None → length ss ≤ k
get_none [] k at = omega arith
get_none (x ∷ ss) zero at = absurd (cc at)
get_none (x ∷ ss) (suc k) at = let less : length ss ≤ k = get_none ss k at in omega (arith, less)

none_ready : (ss : List Stage) → AreFree ss → nat_lt 0 (ready ss) ≡ false
none_ready ss free = by_ready (ready ss) refl
  where
    picked : (s : Stage) → s.waiting ≡ [] → may_be_picked s ≡ true → ⊥
    picked s none is = never (may_be_picked s) (λ i. any_item (none i) && is_free s.held) is

    by_stage : (k : ℕ) → ready ss ≡ suc k → (o : Option Stage) → slice_get ss k ≡ o → ⊥
    by_stage k is None at = let less : length ss ≤ k = get_none ss k at in omega (arith, is, less)
    by_stage k is (Some s) at = picked s (free_at ss k s at free) (ready_picks ss k s is at)

    by_ready : (r : ℕ) → ready ss ≡ r → nat_lt 0 r ≡ false
    by_ready zero is = refl
    by_ready (suc k) is = absurd (by_stage k is (slice_get ss k) refl)

still_lines : (dead : List ℕ) (x : Exchange) → x.has_ended ≡ false → x.is_answered ≡ false → exchange_moves (Some (exchange_with_stages dead x)) ≡ false
still_lines dead x runs free =
    by_ended (λ (y : Exchange). exchange_moves (Some y) ≡ false) (x.has_ended || x.is_answered) x
    (record x {
      request = map (new_stage false) (filter (is_live dead) x.filters);
      response = reverse (map (new_stage true) (filter (is_live dead) x.filters));
      is_entered = true;
    }) (λ e. absurd (either_false x.has_ended x.is_answered runs free e))
    (λ e.
    (λ i. not x.has_ended && (none_ready (map (new_stage false) (filter (is_live dead) x.filters)) (free_new false (filter (is_live dead) x.filters)) i || nat_lt 0 (ready (reverse (map (new_stage true) (filter (is_live dead) x.filters))))))
    ∙ ((λ i. not x.has_ended && none_ready (reverse (map (new_stage true) (filter (is_live dead) x.filters))) (free_reverse (map (new_stage true) (filter (is_live dead) x.filters)) (free_new true (filter (is_live dead) x.filters))) i) ∙ none_both x.has_ended))
  where
    either_false : (a b : Bool) → a ≡ false → b ≡ false → (a || b) ≡ true → ⊥
    either_false true b c d e = cc c
    either_false false true c d e = cc d
    either_false false false c d e = cc e

    none_both : (a : Bool) → (not a && false) ≡ false
    none_both true = refl
    none_both false = refl

rest_position : (lines : List Line) → find has_move lines ≡ None → position has_move lines ≡ None
rest_position lines none = by_seek (seeks has_move lines)
  where
    by_seek : Seeks has_move lines → position has_move lines ≡ None
    by_seek (missing at gone) = at
    by_seek (the_first k l at there passes found) = absurd (wrong (sym none ∙ found))
      where
        wrong : ◌≡◌ {A = Option Line} None (Some l) → ⊥
        wrong e = cc e

entered_filters : (dead : List ℕ) (x : Exchange) → (exchange_with_stages dead x).filters ≡ x.filters
entered_filters dead x =
    by_ended (λ (y : Exchange). y.filters ≡ x.filters) (x.has_ended || x.is_answered) x
    (record x {
      request = map (new_stage false) (filter (is_live dead) x.filters);
      response = reverse (map (new_stage true) (filter (is_live dead) x.filters));
      is_entered = true;
    }) (λ e. refl) (λ e. refl)

-- it is to be refused
abbrev pub IsRefusing : Exchange → Type 0
IsRefusing x = (x.is_entered ≡ false) × (x.refusal ≡ Some 503)

-- ---- a worker between two steps

module _ (starts : StartsHaveRoots) (logs : WriteLogs calling) (change : CallbacksChangeTheirOwn) (stay : PlacesStay) (gets : FiltersGetContexts) (plan : Plan) (n : ℕ) (low : is_call_line n ≡ false) where
  -- what is known of every worker
  pub record IsKnown (b : Both Vms) : Type 0 where
    pub knows : asking.Knows logs plan b.room
    pub sound : IsSound plan Nobody b.room
    pub placed : ArePlaced b.host

  pub step_known : (b m : Both Vms) (ms : List Met) → is_rest (next_of b.room) ≡ false → Reaches (step calling plan (next_of b.room) b.host b.room) ms (ends m) → IsKnown b → IsKnown m
  step_known b m ms goes reaches k =
      let r = walked starts plan logs change stay b m (record { before = b; met = ms; after = m } ∷ []) (steps b m m ms [] goes reaches (stays m)) (k.sound, k.placed) in
      record { knows = asking.step_knows logs plan b m ms reaches k.knows; sound = r.0; placed = r.1 }

  pub turn_known : (b : Both Vms) (event : Event) → is_rest (next_of b.room) ≡ true → is_stop event.what ≡ false → IsKnown b → IsKnown (both b.host (room_for_event plan event (without_sent b.room)))
  turn_known b event rests goes k =
      let c : Both Vms = both b.host (room_for_event plan event (without_sent b.room)) in
      let r = walked starts plan logs change stay b c [] (turns b c event [] rests goes (stays c)) (k.sound, k.placed) in
      record { knows = asking.turn_knows logs plan event b.room k.knows; sound = r.0; placed = r.1 }

  pub once_of : (b : Both Vms) → IsKnown b → IsOnce (is_n n) b.room.lines
  once_of b k = (k.knows.known.0 n low).once

  pub agenda_of : (b : Both Vms) → IsKnown b → NoMaking n b.room.agenda
  agenda_of b k = parts_making n b.room.agenda (k.knows.known.0 n low).parts

  nothing_since : (hub : Hub) → NoneSince n hub.sent hub
  nothing_since hub = ([], sym (append-nil hub.sent), tt)

  -- the exchange on the line
  abbrev On : Both Vms → Exchange → Type 0
  On b x = exchange_on n b.room ≡ Some x

  -- ---- where nothing goes up any more

  -- contexts are made in vain; or it is refused; or nothing more is made
  pub data Quiet (b : Both Vms) : Type 0 where
    making : (len j : ℕ) (x : Exchange) → b.room.reading ≡ None → Ahead n len j b.room.jobs → On b x → IsPre Never x → Quiet b
    refusing : (x : Exchange) → b.room.reading ≡ None → b.room.jobs ≡ jobs.Refuse n 503 ∷ [] → On b x → IsPre IsRefusing x → Quiet b
    over : silent.Fair n b.room.hub.sent low b.room → Quiet b

  pub is_over : (b : Both Vms) → silent.Fair n b.room.hub.sent low b.room → Quiet b
  is_over b s = over s

  pub is_refusing : (b : Both Vms) (x : Exchange) → b.room.reading ≡ None → b.room.jobs ≡ jobs.Refuse n 503 ∷ [] → exchange_on n b.room ≡ Some x → IsPre IsRefusing x → Quiet b
  is_refusing b x quiet at on is = refusing x quiet at on is

  -- after a step
  pub record IsQuiet (b m : Both Vms) : Type 0 where
    pub since : NoneSince n b.room.hub.sent m.room.hub
    pub barred : (y : Exchange) → On m y → IsBarred y
    pub quiet : (y : Exchange) → On m y → Quiet m

  silent_fair : (base : List Sent) (room : Room) (x : Exchange) → IsOnce (is_n n) room.lines → exchange_on n room ≡ Some x → IsSilenced x → NoneSince n base room.hub → NoMaking n room.jobs → NoMaking n room.agenda → room.reading ≡ None
      → silent.Fair n base low room
  silent_fair base room x once on is since jobs agenda quiet =
      (to_each n IsSilenced room x once on is, (λ e. since), (tt, jobs, agenda, subst (Cold n) (sym quiet) tt))

  over_quiet : (b m : Both Vms) → silent.Fair n b.room.hub.sent low m.room → IsQuiet b m
  over_quiet b m s = record {
    since = s.1 refl;
    barred = λ y on. inl (from_each n IsSilenced m.room y s.0 on);
    quiet = λ y on. over (s.0, (λ e. nothing_since m.room.hub), s.2);
  }

  -- Ahead
  follows_making : (js : List Job) → Follows n js → NoMaking n js
  follows_making [] is = tt
  follows_making (jobs.Put m false (items.Head end ∷ list) ∷ later) is = is.1
  follows_making (jobs.Put m false (items.Piece bytes end ∷ list) ∷ later) is = absurd is
  follows_making (jobs.Put m false (items.Trailers ∷ list) ∷ later) is = absurd is
  follows_making (jobs.Put m false [] ∷ later) is = absurd is
  follows_making (jobs.Put m true list ∷ later) is = absurd is
  follows_making (job ∷ later) is = absurd is

  -- ---- a job that makes contexts in vain

  abbrev QuietStep : Both Vms → Both Vms → Type 0
  QuietStep b c =
      ((len : ℕ) × (j : ℕ) × (js : List Job) × Ahead n len j js × Pre n b.room.hub.sent low Never js c.room) ⊎ silent.Fair n b.room.hub.sent low c.room

  quiet_after : (b m : Both Vms) → QuietStep b m → IsQuiet b m
  quiet_after b m (inr s) = over_quiet b m s
  quiet_after b m (inl s) =
      let pre = s.4 in
      record {
        since = pre.1 refl;
        barred = λ y on. inl (pre_silenced y (from_each n (IsPre Never) m.room y pre.0 on));
        quiet = λ y on. making s.0 s.1 y pre.2.0 (subst (Ahead n s.0 s.1) (sym pre.2.1) s.3) on (from_each n (IsPre Never) m.room y pre.0 on);
      }

  -- of the alternatives none is left
  abbrev Vain : List Sent → List Job → Room → Type 0
  Vain base js room = Stays n base low 0 false Never js room

  vain_calm : (base : List Sent) (js : List Job) → IsCalm (Vain base js)
  vain_calm base js = stays_calm n base low 0 false Never never_raw (λ e x r free. absurd r) js

  in_vain : (base : List Sent) (js : List Job) (room : Room) → Vain base js room → Pre n base low Never js room
  in_vain base js room (inl is) = is.1
  in_vain base js room (inr (inl is)) = let e : false ≡ true = is.1 in absurd (cc e)
  in_vain base js room (inr (inr is)) = is

  pre_here : (Raw : Exchange → Type 0) (b : Both Vms) (js : List Job) (x : Exchange) → IsKnown b → b.room.reading ≡ None → On b x → IsPre Raw x → Pre n b.room.hub.sent low Raw js (record b.room { jobs = js })
  pre_here Raw b js x k quiet on is = (to_each n (IsPre Raw) b.room x (once_of b k) on is, (λ e. nothing_since b.room.hub), (quiet, refl))

  same_jobs : (Raw : Exchange → Type 0) (b : Both Vms) (js : List Job) → b.room.jobs ≡ js → Pre n b.room.hub.sent low Raw js (record b.room { jobs = js }) → Pre n b.room.hub.sent low Raw js b.room
  same_jobs Raw b js at is = (is.0, is.1, (is.2.0, at))

  vain_create : (b : Both Vms) (len j : ℕ) (later : List Job) (x : Exchange) → IsKnown b → b.room.reading ≡ None → Ahead n len (suc j) later → On b x → IsPre Never x
      → AllEnds (λ c. QuietStep b c) (works calling plan (jobs.Create n j) b.host (record b.room { jobs = later }))
  vain_create b len j later x k quiet ahead on is =
      let base : List Sent = b.room.hub.sent in
      let room : Room = record b.room { jobs = later } in
      let here : Vain base later room = inr (inr (pre_here Never b later x k quiet on is)) in
      weaker (λ c. Vain base later c.room × ArePlaced c.host) (λ c. QuietStep b c) (made_with calling b.host (create_context n j room))
      (made_fine logs change stay (Vain base later) (vain_calm base later) b.host (create_context n j room) (create_stays n base low 0 false Never never_raw (λ e y r free. absurd r) later j (λ g y r. r) room here) k.placed)
      (λ c done. inl (len, suc j, later, ahead, in_vain base later c.room done.0))

  -- what was answered or has ended gets no stage
  no_stages : (dead : List ℕ) (x : Exchange) → IsPre Never x → exchange_with_stages dead x ≡ x
  no_stages dead x is =
      by_ended (λ (y : Exchange). y ≡ x) (x.has_ended || x.is_answered) x
      (record x {
        request = map (new_stage false) (filter (is_live dead) x.filters);
        response = reverse (map (new_stage true) (filter (is_live dead) x.filters));
        is_entered = true;
      }) (λ e. refl) (λ e. absurd (never (x.has_ended || x.is_answered) e (over_true is.1)))
    where
      over_true : (x.has_ended ≡ true) ⊎ ((x.is_answered ≡ true) ⊎ ⊥) → (x.has_ended || x.is_answered) ≡ true
      over_true (inl ended) = λ i. ended i || x.is_answered
      over_true (inr (inl answered)) = (λ i. x.has_ended || answered i) ∙ or_true x.has_ended
      over_true (inr (inr none)) = absurd none

  vain_enter : (b : Both Vms) (later : List Job) (x : Exchange) → IsKnown b → b.room.reading ≡ None → Follows n later → On b x → IsPre Never x → silent.Fair n b.room.hub.sent low (on_number (enter_stages b.room.dead) n (record b.room { jobs = later }))
  vain_enter b later x k quiet follows on is =
      let room : Room = record b.room { jobs = later } in
      let new : Room = on_number (enter_stages b.room.dead) n room in
      let becomes : Becomes (enter_stages b.room.dead) n room x new = number_is (enter_stages b.room.dead) n room x on in
      let there : exchange_on n new ≡ Some (exchange_with_stages b.room.dead x) = becomes_on (enter_stages b.room.dead) n room new x (once_of b k) on becomes in
      let once : IsOnce (is_n n) new.lines
      = subst (IsOnce (is_n n)) (sym becomes.lines) (on_once n n (with_exchange (exchange_with_stages b.room.dead x)) room.lines (λ l. refl) (once_of b k)) in
      silent_fair b.room.hub.sent new x once (there ∙ ap Some (no_stages b.room.dead x is)) (pre_silenced x is) ([], ap (λ (h : Hub). h.sent) becomes.hub ∙ sym (append-nil b.room.hub.sent), tt) (follows_making later follows) (agenda_of b k) quiet

  quiet_making : (b m : Both Vms) (ms : List Met) (len j : ℕ) (x : Exchange) → Reaches (step calling plan (next_of b.room) b.host b.room) ms (ends m) → IsKnown b → b.room.reading ≡ None → Ahead n len j b.room.jobs → On b x → IsPre Never x → IsQuiet b m
  quiet_making b m ms len j x reaches k quiet ahead on is = by_jobs b.room.jobs refl ahead
    where
      reached : AllEnds (λ c. QuietStep b c) (step calling plan (next_of b.room) b.host b.room) → IsQuiet b m
      reached all = quiet_after b m (all_reached (λ c. QuietStep b c) ms (step calling plan (next_of b.room) b.host b.room) m all reaches)

      moving : (job : Job) (later : List Job) → b.room.jobs ≡ job ∷ later → Ahead n len j (job ∷ later) → (place : ℕ) → position has_move b.room.lines ≡ Some place → AllEnds (λ c. QuietStep b c) (step calling plan (next.Move place) b.host b.room)
      moving job later at ahead_so place moves =
          let base : List Sent = b.room.hub.sent in
          let js : List Job = job ∷ later in
          let here : Pre n base low Never js b.room = same_jobs Never b js at (pre_here Never b js x k quiet on is) in
          weaker (λ c. Vain base js c.room × ArePlaced c.host) (λ c. QuietStep b c) (step calling plan (next.Move place) b.host b.room)
          (move_fine logs change stay (Vain base js) (vain_calm base js) plan b.host b.room place (inr (inr (pre_asked n base low Never never_raw js place b.room here))) k.placed)
          (λ c done. inl (len, j, js, ahead_so, in_vain base js c.room done.0))

      by_jobs : (js : List Job) → b.room.jobs ≡ js → Ahead n len j js → IsQuiet b m
      by_jobs [] at none = absurd none
      by_jobs (jobs.Create l i ∷ later) at so =
          reached
          (job_step plan b (jobs.Create l i) later (λ c. QuietStep b c) quiet at (moving (jobs.Create l i) later at so)
          (λ rests.
          subst (λ (v : ℕ). AllEnds (λ c. QuietStep b c) (works calling plan (jobs.Create v i) b.host (record b.room { jobs = later }))) (sym so.0)
          (subst (λ (v : ℕ). AllEnds (λ c. QuietStep b c) (works calling plan (jobs.Create n v) b.host (record b.room { jobs = later }))) (sym so.1) (vain_create b len j later x k quiet so.2 on is))))
      by_jobs (jobs.Enter l ∷ later) at so =
          reached
          (job_step plan b (jobs.Enter l) later (λ c. QuietStep b c) quiet at (moving (jobs.Enter l) later at so)
          (λ rests. subst (λ (v : ℕ). AllEnds (λ c. QuietStep b c) (works calling plan (jobs.Enter v) b.host (record b.room { jobs = later }))) (sym so.0) (inr (vain_enter b later x k quiet so.2 on is))))
      by_jobs (job ∷ later) at none = absurd none

  -- ---- it is refused

  -- on the line with an exchange
  refuse_is : (status : ℕ) (room : Room) (x : Exchange) → exchange_on n room ≡ Some x → refuse_line (line_in n room.lines) n status room ≡ on_number (refuse_exchange status) n room
  refuse_is status room x on = by_line (line_in n room.lines) on
    where
      by_line : (o : Option Line) → exchange_of_line o ≡ Some x → refuse_line o n status room ≡ on_number (refuse_exchange status) n room
      by_line None is = absurd (cc is)
      by_line (Some line) is = by_exchange line.exchange is
        where
          by_exchange : (o : Option Exchange) → o ≡ Some x → refuse_in n status o room ≡ on_number (refuse_exchange status) n room
          by_exchange None none = absurd (cc none)
          by_exchange (Some y) some = refl

  either_true : (a b : Bool) → (a || b) ≡ true → (a ≡ true) ⊎ (b ≡ true)
  either_true true b is = inl refl
  either_true false b is = inr is

  -- it is over then
  refused_over : (x : Exchange) (hub : Hub) → x.request ≡ [] → IsSilenced (refuse_exchange 503 n x hub).0
  refused_over x hub none =
      by_ended (λ (r : Exchange × Hub). IsSilenced r.0) (x.has_ended || x.is_answered) (x, hub)
      (if passes_filters 503 then passing_answer x hub else answer_directly n 503 [] [] (with_closes (closes_line 503) x) hub) (λ e. was (either_true x.has_ended x.is_answered e))
      (λ e. inl (directly_ended n 503 (with_closes (closes_line 503) x) hub).1)
    where
      passing_answer : Exchange → Hub → Exchange × Hub
      passing_answer y h = answer n (closes_line 503) 503 [] [] y h

      was : (x.has_ended ≡ true) ⊎ (x.is_answered ≡ true) → IsSilenced x
      was (inl ended) = inl ended
      was (inr answered) = inr (answered, none)

  refusing_raw : IsRaw IsRefusing
  refusing_raw x y a is = (a.entered ∙ is.0, a.refusal ∙ is.1)

  refusing_barred : (x : Exchange) → IsPre IsRefusing x → IsBarred x
  refusing_barred x (request, inl ended) = inl (inl ended)
  refusing_barred x (request, inr (inl answered)) = inl (inr (answered, request))
  refusing_barred x (request, inr (inr is)) = inr (record { status = is.1; unentered = is.0; nothing = request })

  abbrev RefuseStep : Both Vms → Both Vms → Type 0
  RefuseStep b c = Pre n b.room.hub.sent low IsRefusing (jobs.Refuse n 503 ∷ []) c.room ⊎ silent.Fair n b.room.hub.sent low c.room

  refuse_after : (b m : Both Vms) → RefuseStep b m → IsQuiet b m
  refuse_after b m (inr s) = over_quiet b m s
  refuse_after b m (inl pre) = record {
    since = pre.1 refl;
    barred = λ y on. refusing_barred y (from_each n (IsPre IsRefusing) m.room y pre.0 on);
    quiet = λ y on. refusing y pre.2.0 pre.2.1 on (from_each n (IsPre IsRefusing) m.room y pre.0 on);
  }

  refuse_works : (b : Both Vms) (x : Exchange) → IsKnown b → b.room.reading ≡ None → On b x → IsPre IsRefusing x → silent.Fair n b.room.hub.sent low (refuse_line (line_in n b.room.lines) n 503 (record b.room { jobs = [] }))
  refuse_works b x k quiet on is =
      let base : List Sent = b.room.hub.sent in
      let room : Room = record b.room { jobs = [] } in
      let new : Room = on_number (refuse_exchange 503) n room in
      let becomes : Becomes (refuse_exchange 503) n room x new = number_is (refuse_exchange 503) n room x on in
      let there : exchange_on n new ≡ Some (refuse_exchange 503 n x room.hub).0 = becomes_on (refuse_exchange 503) n room new x (once_of b k) on becomes in
      let once : IsOnce (is_n n) new.lines
      = subst (IsOnce (is_n n)) (sym becomes.lines) (on_once n n (with_exchange (refuse_exchange 503 n x room.hub).0) room.lines (λ l. refl) (once_of b k)) in
      let kept : Pre n base low IsRefusing [] new = (pre_calm n base low IsRefusing refusing_raw []).number (refuse_exchange 503) n room (op_refuses 503) (pre_here IsRefusing b [] x k quiet on is) in
      subst (silent.Fair n base low) (sym (refuse_is 503 room x on))
      (silent_fair base new (refuse_exchange 503 n x room.hub).0 once there (refused_over x room.hub is.0) (kept.1 refl) (subst (NoMaking n) (sym kept.2.1) tt) (agenda_of b k) kept.2.0)

  quiet_refusing : (b m : Both Vms) (ms : List Met) (x : Exchange) → Reaches (step calling plan (next_of b.room) b.host b.room) ms (ends m) → IsKnown b → b.room.reading ≡ None → b.room.jobs ≡ jobs.Refuse n 503 ∷ [] → On b x → IsPre IsRefusing x → IsQuiet b m
  quiet_refusing b m ms x reaches k quiet at on is =
      refuse_after b m
      (all_reached (λ c. RefuseStep b c) ms (step calling plan (next_of b.room) b.host b.room) m
      (job_step plan b (jobs.Refuse n 503) [] (λ c. RefuseStep b c) quiet at moving (λ rests. inr (refuse_works b x k quiet on is))) reaches)
    where
      js : List Job
      js = jobs.Refuse n 503 ∷ []

      moving : (place : ℕ) → position has_move b.room.lines ≡ Some place → AllEnds (λ c. RefuseStep b c) (step calling plan (next.Move place) b.host b.room)
      moving place moves =
          let base : List Sent = b.room.hub.sent in
          let here : Pre n base low IsRefusing js b.room = same_jobs IsRefusing b js at (pre_here IsRefusing b js x k quiet on is) in
          weaker (λ c. Pre n base low IsRefusing js c.room × ArePlaced c.host) (λ c. RefuseStep b c) (step calling plan (next.Move place) b.host b.room)
          (move_fine logs change stay (Pre n base low IsRefusing js) (pre_calm n base low IsRefusing refusing_raw js) plan b.host b.room place (pre_asked n base low IsRefusing refusing_raw js place b.room here) k.placed) (λ c done. inl done.0)

  -- ---- it is over

  pub unheard_of : (b : Both Vms) (x : Exchange) → IsKnown b → On b x → Unheard n b.room
  unheard_of b x k on = λ r reading head new at found says down same. asking.unheard logs plan n k.knows.past b.room x on (k.knows.known.0 n low) r reading head new at found says down same

  quiet_over : (b m : Both Vms) (ms : List Met) (x : Exchange) → Reaches (step calling plan (next_of b.room) b.host b.room) ms (ends m) → IsKnown b → On b x → silent.Fair n b.room.hub.sent low b.room → IsQuiet b m
  quiet_over b m ms x reaches k on s =
      let base : List Sent = b.room.hub.sent in
      let r = all_reached (λ (c : Both Vms). silent.P n base low c.room × ArePlaced c.host) ms (step calling plan (next_of b.room) b.host b.room) m
      (step_fine logs change stay plan (Unheard n) Any (silent.P n base low) (silent.P n base low) (silent.calm n base low) (silent.stepped n base low plan) b.host b.room (unheard_of b x k on) (tt, s) k.placed (λ place at quiet. tt)) reaches in
      over_quiet b m r.0.1

  pub quiet_step : (b m : Both Vms) (ms : List Met) (x : Exchange) → Reaches (step calling plan (next_of b.room) b.host b.room) ms (ends m) → IsKnown b → On b x → Quiet b → IsQuiet b m
  quiet_step b m ms x reaches k on (making len j y quiet ahead there is) = quiet_making b m ms len j y reaches k quiet ahead there is
  quiet_step b m ms x reaches k on (refusing y quiet at there is) = quiet_refusing b m ms y reaches k quiet at there is
  quiet_step b m ms x reaches k on (over s) = quiet_over b m ms x reaches k on s

  -- a turn begins only where it is over
  pub quiet_turn : (b : Both Vms) (event : Event) → is_rest (next_of b.room) ≡ true → is_stop event.what ≡ false → IsKnown b → Quiet b → Quiet (both b.host (room_for_event plan event (without_sent b.room)))
  quiet_turn b event rests goes k (making len j x quiet ahead on is) = absurd (by_jobs b.room.jobs refl ahead)
    where
      by_jobs : (js : List Job) → b.room.jobs ≡ js → Ahead n len j js → ⊥
      by_jobs [] at none = none
      by_jobs (job ∷ later) at so = job_goes b.room job later quiet at rests
  quiet_turn b event rests goes k (refusing x quiet at on is) = absurd (job_goes b.room (jobs.Refuse n 503) [] quiet at rests)
  quiet_turn b event rests goes k (over s) =
      over (s.0, (λ e. ([], refl, tt)), (tt, s.2.1, agenda_of (both b.host (room_for_event plan event (without_sent b.room))) (turn_known b event rests goes k), s.2.3))

  -- ---- where its plug-in's VM lives

  module _ (p : ℕ) (e : PluginEntry) (at_p : slice_get plan.plugins p ≡ Some e) (k len : ℕ) where
    -- the filter of the plug-in, with a context
    abbrev pub own : ℕ → Filter
    own c = record (filter_of p e) { created = true; context = c }

    -- CONTEXTS ARE MADE, from this filter on
    pub record IsMaking (f : Filter) (j : ℕ) (b : Both Vms) : Type 0 where
      pub quiet : b.room.reading ≡ None
      pub ahead : Ahead n len j b.room.jobs
      pub exchange : Exchange
      pub on : exchange_on n b.room ≡ Some exchange
      pub lives : is_dead e.vm b.room ≡ false
      pub pre : IsPre (IsRawOf k len f) exchange

    -- the head is put next
    pub record IsPutting (c : ℕ) (b : Both Vms) : Type 0 where
      pub quiet : b.room.reading ≡ None
      pub rests : position has_move b.room.lines ≡ None
      pub end : Bool
      pub list : List ChainItem
      pub later : List Job
      pub jobs_are : b.room.jobs ≡ jobs.Put n false (items.Head end ∷ list) ∷ later
      pub none : NoMaking n later
      pub exchange : Exchange
      pub on : exchange_on n b.room ≡ Some exchange
      pub lives : is_dead e.vm b.room ≡ false
      pub waits : WaitsYet e.vm c exchange
      pub its : slice_get exchange.filters k ≡ Some (own c)

    -- the head waits for the stage
    pub record IsWaiting (c : ℕ) (b : Both Vms) : Type 0 where
      pub quiet : b.room.reading ≡ None
      pub none : NoMaking n b.room.jobs
      pub exchange : Exchange
      pub on : exchange_on n b.room ≡ Some exchange
      pub lives : is_dead e.vm b.room ≡ false
      pub waits : Waits e.vm c exchange
      pub its : slice_get exchange.filters k ≡ Some (own c)

    -- its VM died, and lets pass
    abbrev pub IsPassed : Both Vms → Type 0
    IsPassed b = (is_dead e.vm b.room ≡ true) × (e.fail_open ≡ true)

    abbrev Going : Filter → List Sent → List Job → Room → Type 0
    Going f base js room = Stays n base low e.vm e.fail_open (IsRawOf k len f) js room

    -- the filter is one of the plug-in
    pub record IsIts (f : Filter) : Type 0 where
      pub vm : f.vm ≡ e.vm
      pub opens : f.fails_open ≡ e.fail_open

    closes : (f : Filter) → IsIts f → e.fail_open ≡ false → (x : Exchange) → IsRawOf k len f x → x.is_answered ≡ false → fails_closed e.vm x ≡ true
    closes f its shut x is free = raw_closes e.vm k len f e.fail_open its.vm its.opens shut x is free

    going_calm : (f : Filter) → IsIts f → (base : List Sent) (js : List Job) → IsCalm (Going f base js)
    going_calm f its base js = stays_calm n base low e.vm e.fail_open (IsRawOf k len f) (raw_of k len f) (closes f its) js

    -- what comes of a step that leaves the jobs of the line as they are, or takes one of them
    abbrev pub Goes : Filter → ℕ → Both Vms → Both Vms → Type 0
    Goes f j b m = (NoneSince n b.room.hub.sent m.room.hub × IsMaking f j m) ⊎ (IsPassed m ⊎ IsQuiet b m)

    going_after : (f : Filter) (j : ℕ) (js : List Job) (b m : Both Vms) (y : Exchange) → Ahead n len j js → Going f b.room.hub.sent js m.room → On m y → Goes f j b m
    going_after f j js b m y ahead (inl is) on =
        inl (
          is.1.1 refl,
          record {
            quiet = is.1.2.0;
            ahead = subst (Ahead n len j) (sym is.1.2.1) ahead;
            exchange = y;
            on = on;
            lives = is.0;
            pre = from_each n (IsPre (IsRawOf k len f)) m.room y is.1.0 on;
          },
        )
    going_after f j js b m y ahead (inr (inl is)) on = inr (inl is)
    going_after f j js b m y ahead (inr (inr is)) on = inr (inr (quiet_after b m (inl (len, j, js, ahead, is))))

    going_here : (f : Filter) (b : Both Vms) (js : List Job) (x : Exchange) → IsKnown b → b.room.reading ≡ None → On b x → is_dead e.vm b.room ≡ false → IsPre (IsRawOf k len f) x → Going f b.room.hub.sent js (record b.room { jobs = js })
    going_here f b js x known quiet on lives is = inl (lives, pre_here (IsRawOf k len f) b js x known quiet on is)

    going_moves : (f : Filter) → IsIts f → (b : Both Vms) (js : List Job) (x : Exchange) → IsKnown b → b.room.reading ≡ None → b.room.jobs ≡ js → On b x → is_dead e.vm b.room ≡ false → IsPre (IsRawOf k len f) x → (place : ℕ)
        → AllEnds (λ c. Going f b.room.hub.sent js c.room × ArePlaced c.host) (step calling plan (next.Move place) b.host b.room)
    going_moves f its b js x known quiet at on lives is place =
        let base : List Sent = b.room.hub.sent in
        let here : Pre n base low (IsRawOf k len f) js b.room = same_jobs (IsRawOf k len f) b js at (pre_here (IsRawOf k len f) b js x known quiet on is) in
        move_fine logs change stay (Going f base js) (going_calm f its base js) plan b.host b.room place (inl (lives, pre_asked n base low (IsRawOf k len f) (raw_of k len f) js place b.room here)) known.placed

    -- the context of another filter is made
    going_creates : (f : Filter) → IsIts f → (b : Both Vms) (j : ℕ) (later : List Job) (x : Exchange) → (j ≡ k → ⊥) → IsKnown b → b.room.reading ≡ None → On b x → is_dead e.vm b.room ≡ false → IsPre (IsRawOf k len f) x
        → AllEnds (λ c. Going f b.room.hub.sent later c.room × ArePlaced c.host) (works calling plan (jobs.Create n j) b.host (record b.room { jobs = later }))
    going_creates f its b j later x other known quiet on lives is =
        let base : List Sent = b.room.hub.sent in
        let room : Room = record b.room { jobs = later } in
        made_fine logs change stay (Going f base later) (going_calm f its base later) b.host (create_context n j room)
        (create_stays n base low e.vm e.fail_open (IsRawOf k len f) (raw_of k len f) (closes f its) later j (raw_other k len f j other) room (going_here f b later x known quiet on lives is)) known.placed

    -- ---- its own context is made

    abbrev first : Filter
    first = filter_of p e

    first_its : IsIts first
    first_its = record { vm = refl; opens = refl }

    own_its : (c : ℕ) → IsIts (own c)
    own_its c = record { vm = refl; opens = refl }

    -- the plug-in's root stands
    roots_here : (b : Both Vms) (x : Exchange) → IsKnown b → On b x → is_dead e.vm b.room ≡ false → RootStands b.room.hub.contexts p e.vm
    roots_here b x known on lives = by_roots (roots.each (begun b.room.is_begun refl) p e at_p)
      where
        roots : RootsStand plan b.room
        roots = roots_of plan b.room known.sound

        some : b.room.lines ≡ [] → ⊥
        some none = wrong (ap (λ (ls : List Line). exchange_of_line (line_in n ls)) (sym none) ∙ on)
          where
            wrong : ◌≡◌ {A = Option Exchange} None (Some x) → ⊥
            wrong is = cc is

        begun : (c : Bool) → b.room.is_begun ≡ c → b.room.is_begun ≡ true
        begun true is = is
        begun false is = absurd (some (roots.not_begun is))

        by_roots : (is_dead e.vm b.room ≡ true) ⊎ (RootStands b.room.hub.contexts p e.vm ⊎ IsToCome p e.vm b.room) → RootStands b.room.hub.contexts p e.vm
        by_roots (inl dead) = absurd (never (is_dead e.vm b.room) lives dead)
        by_roots (inr (inl stands)) = stands
        by_roots (inr (inr comes)) = absurd (some (roots.no_line p e.vm comes))

    -- it was made so
    pub record IsMade (c : ℕ) (later : List Job) (b : Both Vms) : Type 0 where
      pub fresh : c ≡ next_id b.room.hub.contexts e.vm
      pub root : ℕ
      pub of_root : (plugin_in b.room.hub.contexts p).root ≡ Some root
      pub made : (create_context n k (record b.room { jobs = later })).0 ≡ Some (new_one e.vm c root)

    -- no context was made: the exchange is over, or the VM is dead
    abbrev Gone : List Sent → List Job → Room → Type 0
    Gone base js room = Stays n base low e.vm e.fail_open Never js room

    gone_calm : (base : List Sent) (js : List Job) → IsCalm (Gone base js)
    gone_calm base js = stays_calm n base low e.vm e.fail_open Never never_raw (λ t x r free. absurd r) js

    gone_of : (base : List Sent) (js : List Job) (room : Room) → is_dead e.vm room ≡ true → Going first base js room → Gone base js room
    gone_of base js room dead (inl is) = absurd (never (is_dead e.vm room) is.0 dead)
    gone_of base js room dead (inr is) = inr is

    gone_after : (j : ℕ) (js : List Job) (b m : Both Vms) → Ahead n len j js → Gone b.room.hub.sent js m.room → IsPassed m ⊎ IsQuiet b m
    gone_after j js b m ahead (inl is) = inr (quiet_after b m (inl (len, j, js, ahead, is.1)))
    gone_after j js b m ahead (inr (inl is)) = inl is
    gone_after j js b m ahead (inr (inr is)) = inr (quiet_after b m (inl (len, j, js, ahead, is)))

    abbrev OwnStep : List Job → Both Vms → Both Vms → Type 0
    OwnStep later b c = Gone b.room.hub.sent later c.room ⊎ ((id : ℕ) × IsMade id later b × Going (own id) b.room.hub.sent later c.room)

    own_numbered : (g : Exchange → Exchange) (l : Line) → (change_line g l).number ≡ l.number
    own_numbered g l = by_exchange l.exchange
      where
        by_exchange : (o : Option Exchange) → (change_exchange g l o).number ≡ l.number
        by_exchange None = refl
        by_exchange (Some x) = refl

    own_pre : (id : ℕ) (x : Exchange) → IsPre (IsRawOf k len first) x → IsPre (IsRawOf k len (own id)) (with_filter k (own id) x)
    own_pre id x is = (is.0, by_over is.1)
      where
        by_over : (x.has_ended ≡ true) ⊎ ((x.is_answered ≡ true) ⊎ IsRawOf k len first x) → (x.has_ended ≡ true) ⊎ ((x.is_answered ≡ true) ⊎ IsRawOf k len (own id) (with_filter k (own id) x))
        by_over (inl ended) = inl ended
        by_over (inr (inl answered)) = inr (inl answered)
        by_over (inr (inr raw)) =
            inr (inr (record { unentered = raw.unentered; many = length-set x.filters k (own id) ∙ raw.many; its = get_set x.filters k first (own id) raw.its }))

    -- the room with its context
    own_stream : (b : Both Vms) (later : List Job) (x : Exchange) (root : ℕ) → IsKnown b → b.room.reading ≡ None → On b x → is_dead e.vm b.room ≡ false → IsPre (IsRawOf k len first) x
        → Going (own (next_id b.room.hub.contexts e.vm)) b.room.hub.sent later (with_stream n k first root (record b.room { jobs = later })).1
    own_stream b later x root known quiet on lives is =
        let id : ℕ = next_id b.room.hub.contexts e.vm in
        let g : Exchange → Exchange = with_filter k (own id) in
        let lines : List Line = b.room.lines in
        let f : IsFound n b.room x = find_it n b.room x on in
        let once : IsOnce (is_n n) (on_line (change_line g) n lines) = on_once n n (change_line g) lines (own_numbered g) (once_of b known) in
        let found : look n (on_line (change_line g) n lines) ≡ Some (change_line g f.line)
        = on_same n n (change_line g) lines (own_numbered g) (once_of b known) (equal_is n n refl) ∙ ap (option_map (change_line g)) f.there in
        let its : (change_line g f.line).exchange ≡ Some (g x) = ap (λ (o : Option Exchange). (change_exchange g f.line o).exchange) f.its in
        inl (lives, (each_by n (IsPre (IsRawOf k len (own id))) (g x) (on_line (change_line g) n lines) (change_line g f.line) once found its (own_pre id x is), (λ t. nothing_since b.room.hub), (quiet, refl)))

    pub own_creates : (b : Both Vms) (later : List Job) (x : Exchange) → IsKnown b → b.room.reading ≡ None → On b x → is_dead e.vm b.room ≡ false → IsPre (IsRawOf k len first) x
        → AllEnds (λ c. OwnStep later b c) (works calling plan (jobs.Create n k) b.host (record b.room { jobs = later }))
    own_creates b later x known quiet on lives is = by_over (x.has_ended || x.is_answered) refl
      where
        base : List Sent
        base = b.room.hub.sent

        room : Room
        room = record b.room { jobs = later }

        here : Going first base later room
        here = going_here first b later x known quiet on lives is

        -- it comes to that, and then the VM is called
        comes : (id : Filter) → IsIts id → (r : Option NewContext × Room) → create_context n k room ≡ r → Going id base later r.1 → AllEnds (λ c. Going id base later c.room × ArePlaced c.host) (works calling plan (jobs.Create n k) b.host room)
        comes f its r same going =
            subst (λ (q : Option NewContext × Room). AllEnds (λ c. Going f base later c.room × ArePlaced c.host) (made_with calling b.host q)) (sym same)
            (made_fine logs change stay (Going f base later) (going_calm f its base later) b.host r going known.placed)

        gone : (r : Option NewContext × Room) → create_context n k room ≡ r → Gone base later r.1 → AllEnds (λ c. OwnStep later b c) (works calling plan (jobs.Create n k) b.host room)
        gone r same is_gone =
            weaker (λ c. Gone base later c.room × ArePlaced c.host) (λ c. OwnStep later b c) (works calling plan (jobs.Create n k) b.host room)
            (subst (λ (q : Option NewContext × Room). AllEnds (λ c. Gone base later c.room × ArePlaced c.host) (made_with calling b.host q)) (sym same)
            (made_fine logs change stay (Gone base later) (gone_calm base later) b.host r is_gone known.placed)) (λ c done. inl done.0)

        -- it was answered or has ended
        vain : IsPre Never x → Gone base later (create_context n k room).1
        vain none =
            inr
            (inr
            (in_vain base later (create_context n k room).1
            (create_stays n base low 0 false Never never_raw (λ t y r free. absurd r) later k (λ g y r. r) room (inr (inr (pre_here Never b later x known quiet on none))))))

        over_pre : (x.has_ended ≡ true) ⊎ (x.is_answered ≡ true) → IsPre Never x
        over_pre (inl ended) = (is.0, inl ended)
        over_pre (inr answered) = (is.0, inr (inl answered))

        raw_here : x.has_ended ≡ false → x.is_answered ≡ false → IsRawOf k len first x
        raw_here runs free = by_pre is.1
          where
            by_pre : (x.has_ended ≡ true) ⊎ ((x.is_answered ≡ true) ⊎ IsRawOf k len first x) → IsRawOf k len first x
            by_pre (inl ended) = absurd (never x.has_ended runs ended)
            by_pre (inr (inl answered)) = absurd (never x.is_answered free answered)
            by_pre (inr (inr raw)) = raw

        halves : (c d : Bool) → (c || d) ≡ false → (c ≡ false) × (d ≡ false)
        halves true d t = absurd (cc t)
        halves false d t = (refl, t)

        its_filter : (x.has_ended || x.is_answered) ≡ false → filter_at n k room.lines ≡ Some first
        its_filter runs =
            let both = halves x.has_ended x.is_answered runs in
            ap (open_filter k) on ∙ ((λ i. if runs i then None else slice_get x.filters k) ∙ (raw_here both.0 both.1).its)

        drawn_out : is_drawn_out e.vm room.hub.contexts ≡ true → (root : ℕ) → may_stream e.vm root room.hub.contexts ≡ true → Gone base later (create_stream n k first (Some root) room).1
        drawn_out drawn root may =
            by_ended (λ (r : Option NewContext × Room). Gone base later r.1) (is_dead e.vm room || not (may_stream e.vm root room.hub.contexts)) (None, room) _
            (λ t. absurd (never (is_dead e.vm room || not (may_stream e.vm root room.hub.contexts)) ((λ i. lives i || not (may i))) t))
            (λ t.
            by_ended (λ (r : Option NewContext × Room). Gone base later r.1) (is_drawn_out e.vm room.hub.contexts) (None, lose_vm_in e.vm deaths.Ids room) (with_stream n k first root room)
            (λ u. gone_of base later (lose_vm_in e.vm deaths.Ids room) (now_dead e.vm room.dead) ((going_calm first first_its base later).dies e.vm deaths.Ids room here)) (λ u. absurd (never (is_drawn_out e.vm room.hub.contexts) u drawn)))

        streamed : (x.has_ended || x.is_answered) ≡ false → is_drawn_out e.vm room.hub.contexts ≡ false → AllEnds (λ c. OwnStep later b c) (works calling plan (jobs.Create n k) b.host room)
        streamed runs left =
            let stands : RootStands b.room.hub.contexts p e.vm = roots_here b x known on lives in
            let id : ℕ = next_id b.room.hub.contexts e.vm in
            let made : create_context n k room ≡ with_stream n k first stands.root room = ap (λ (o : Option Filter). create_filter n k o room) (its_filter runs) ∙ gets n k first room lives left stands in
            weaker (λ c. Going (own id) base later c.room × ArePlaced c.host) (λ c. OwnStep later b c) (works calling plan (jobs.Create n k) b.host room)
            (comes (own id) (own_its id) (with_stream n k first stands.root room) made (own_stream b later x stands.root known quiet on lives is))
            (λ c done. inr (id, record { fresh = refl; root = stands.root; of_root = stands.is; made = ap (λ (r : Option NewContext × Room). r.0) made }, done.0))

        by_over : (c : Bool) → (x.has_ended || x.is_answered) ≡ c → AllEnds (λ c. OwnStep later b c) (works calling plan (jobs.Create n k) b.host room)
        by_over true over_so = gone (create_context n k room) refl (vain (over_pre (either_true x.has_ended x.is_answered over_so)))
        by_over false runs =
            ⊎_elim
            (λ (drawn : is_drawn_out e.vm room.hub.contexts ≡ true).
            let stands : RootStands b.room.hub.contexts p e.vm = roots_here b x known on lives in
            gone (create_stream n k first (Some stands.root) room)
            (ap (λ (o : Option Filter). create_filter n k o room) (its_filter runs) ∙ ap (λ (o : Option ℕ). create_stream n k first o room) stands.is) (drawn_out drawn stands.root stands.streams))
            (λ (left : is_drawn_out e.vm room.hub.contexts ≡ false). streamed runs left) (cases_Bool (is_drawn_out e.vm room.hub.contexts))

    pub un_step : (b m : Both Vms) (ms : List Met) (j : ℕ) (y : Exchange) → Reaches (step calling plan (next_of b.room) b.host b.room) ms (ends m) → IsKnown b → On m y → j ≤ k → k < len → IsMaking first j b
        → ((j : ℕ) × (j ≤ k) × Goes first j b m)
        ⊎ ((id : ℕ) × (j : ℕ) × (k < j) × Makes n p e.vm id (record { before = b; met = ms; after = m }) × Goes (own id) j b m)
    un_step b m ms j y reaches known on_m early few s = by_jobs b.room.jobs refl s.ahead
      where
        Out : Type 0
        Out = ((i : ℕ) × (i ≤ k) × Goes first i b m) ⊎ ((id : ℕ) × (i : ℕ) × (k < i) × Makes n p e.vm id (record { before = b; met = ms; after = m }) × Goes (own id) i b m)

        Mid : (js later : List Job) → Both Vms → Type 0
        Mid js later c = Going first b.room.hub.sent js c.room ⊎ ((position has_move b.room.lines ≡ None) × OwnStep later b c)

        -- another filter's
        other : (l i : ℕ) (later : List Job) → b.room.jobs ≡ jobs.Create l i ∷ later → Ahead n len j (jobs.Create l i ∷ later) → (j ≡ k → ⊥) → Out
        other l i later at so apart =
            let all : AllEnds (λ c. Going first b.room.hub.sent (jobs.Create l i ∷ later) c.room ⊎ Going first b.room.hub.sent later c.room) (step calling plan (next_of b.room) b.host b.room)
            = job_step plan b (jobs.Create l i) later (λ c. Going first b.room.hub.sent (jobs.Create l i ∷ later) c.room ⊎ Going first b.room.hub.sent later c.room) s.quiet at
            (λ place moves.
            weaker (λ c. Going first b.room.hub.sent (jobs.Create l i ∷ later) c.room × ArePlaced c.host) (λ c. Going first b.room.hub.sent (jobs.Create l i ∷ later) c.room ⊎ Going first b.room.hub.sent later c.room)
            (step calling plan (next.Move place) b.host b.room) (going_moves first first_its b (jobs.Create l i ∷ later) s.exchange known s.quiet at s.on s.lives s.pre place) (λ c done. inl done.0))
            (λ rests.
            subst (λ (v : ℕ). AllEnds (λ c. Going first b.room.hub.sent (jobs.Create l i ∷ later) c.room ⊎ Going first b.room.hub.sent later c.room) (works calling plan (jobs.Create v i) b.host (record b.room { jobs = later }))) (sym so.0)
            (subst (λ (v : ℕ). AllEnds (λ c. Going first b.room.hub.sent (jobs.Create l i ∷ later) c.room ⊎ Going first b.room.hub.sent later c.room) (works calling plan (jobs.Create n v) b.host (record b.room { jobs = later }))) (sym so.1)
            (weaker (λ c. Going first b.room.hub.sent later c.room × ArePlaced c.host) (λ c. Going first b.room.hub.sent (jobs.Create l i ∷ later) c.room ⊎ Going first b.room.hub.sent later c.room)
            (works calling plan (jobs.Create n j) b.host (record b.room { jobs = later })) (going_creates first first_its b j later s.exchange apart known s.quiet s.on s.lives s.pre) (λ c done. inr done.0)))) in
            by_end (all_reached (λ c. Going first b.room.hub.sent (jobs.Create l i ∷ later) c.room ⊎ Going first b.room.hub.sent later c.room) ms (step calling plan (next_of b.room) b.host b.room) m all reaches)
          where
            by_end : Going first b.room.hub.sent (jobs.Create l i ∷ later) m.room ⊎ Going first b.room.hub.sent later m.room → Out
            by_end (inl going) = inl (j, early, going_after first j (jobs.Create l i ∷ later) b m y so going on_m)
            by_end (inr going) = let less : suc j ≤ k = not_last j k early apart in inl (suc j, less, going_after first (suc j) later b m y so.2 going on_m)

        -- its own
        mine : (l i : ℕ) (later : List Job) → b.room.jobs ≡ jobs.Create l i ∷ later → Ahead n len j (jobs.Create l i ∷ later) → j ≡ k → Out
        mine l i later at so same =
            let all : AllEnds (Mid (jobs.Create l i ∷ later) later) (step calling plan (next_of b.room) b.host b.room)
            = job_step plan b (jobs.Create l i) later (Mid (jobs.Create l i ∷ later) later) s.quiet at
            (λ place moves.
            weaker (λ c. Going first b.room.hub.sent (jobs.Create l i ∷ later) c.room × ArePlaced c.host) (Mid (jobs.Create l i ∷ later) later) (step calling plan (next.Move place) b.host b.room)
            (going_moves first first_its b (jobs.Create l i ∷ later) s.exchange known s.quiet at s.on s.lives s.pre place) (λ c done. inl done.0))
            (λ rests.
            subst (λ (v : ℕ). AllEnds (Mid (jobs.Create l i ∷ later) later) (works calling plan (jobs.Create v i) b.host (record b.room { jobs = later }))) (sym so.0)
            (subst (λ (v : ℕ). AllEnds (Mid (jobs.Create l i ∷ later) later) (works calling plan (jobs.Create n v) b.host (record b.room { jobs = later }))) (sym (so.1 ∙ same))
            (weaker (λ c. OwnStep later b c) (Mid (jobs.Create l i ∷ later) later) (works calling plan (jobs.Create n k) b.host (record b.room { jobs = later })) (own_creates b later s.exchange known s.quiet s.on s.lives s.pre) (λ c done. inr (rests, done))))) in
            by_end (all_reached (Mid (jobs.Create l i ∷ later) later) ms (step calling plan (next_of b.room) b.host b.room) m all reaches)
          where
            here : b.room.jobs ≡ jobs.Create n k ∷ later
            here = at ∙ (λ t. jobs.Create (so.0 t) ((so.1 ∙ same) t) ∷ later)

            by_own : position has_move b.room.lines ≡ None → OwnStep later b m → Out
            by_own rests (inl gone) = inl (j, early, inr (gone_after (suc j) later b m so.2 gone))
            by_own rests (inr made) =
                let more : k < suc j = after_last j k same in
                inr (
                  made.0,
                  suc j,
                  more,
                  record {
                    works = works_next b.room (jobs.Create n k) later s.quiet rests here;
                    place = k;
                    later = later;
                    in_hand = here;
                    fresh = made.1.fresh;
                    root = made.1.root;
                    of_root = made.1.of_root;
                    made = made.1.made;
                  },
                  going_after (own made.0) (suc j) later b m y so.2 made.2 on_m,
                )

            by_end : Mid (jobs.Create l i ∷ later) later m → Out
            by_end (inl going) = inl (j, early, going_after first j (jobs.Create l i ∷ later) b m y so going on_m)
            by_end (inr did) = by_own did.0 did.1

        by_jobs : (js : List Job) → b.room.jobs ≡ js → Ahead n len j js → Out
        by_jobs [] at none = absurd none
        by_jobs (jobs.Create l i ∷ later) at so = ⊎_elim (λ (same : j ≡ k). mine l i later at so same) (λ (apart : j ≡ k → ⊥). other l i later at so apart) (cases_eq j k)
        by_jobs (jobs.Enter l ∷ later) at so = absurd (too_late j k len early few so.1)
        by_jobs (job ∷ later) at none = absurd none

    -- ---- its stage is made

    enter_waits : (b : Both Vms) (c : ℕ) (later : List Job) (x : Exchange) → IsKnown b → b.room.reading ≡ None → position has_move b.room.lines ≡ None → Follows n later → On b x → is_dead e.vm b.room ≡ false → x.has_ended ≡ false → x.is_answered ≡ false
        → slice_get x.filters k ≡ Some (own c) → (host : Vms)
        → NoneSince n b.room.hub.sent (on_number (enter_stages b.room.dead) n (record b.room { jobs = later })).hub × IsPutting c (both host (on_number (enter_stages b.room.dead) n (record b.room { jobs = later })))
    enter_waits b c later x known quiet rests follows on lives runs free its host =
        (([], ap (λ (h : Hub). h.sent) becomes.hub ∙ sym (append-nil b.room.hub.sent), tt), by_follows later refl follows)
      where
        room : Room
        room = record b.room { jobs = later }

        new : Room
        new = on_number (enter_stages b.room.dead) n room

        y : Exchange
        y = exchange_with_stages b.room.dead x

        becomes : Becomes (enter_stages b.room.dead) n room x new
        becomes = number_is (enter_stages b.room.dead) n room x on

        there : exchange_on n new ≡ Some y
        there = becomes_on (enter_stages b.room.dead) n room new x (once_of b known) on becomes

        waits : WaitsYet e.vm c y
        waits = stages_await b.room.dead x k (own c) runs free its (λ i. not (lives i))

        still : find has_move new.lines ≡ None
        still = subst (λ (ls : List Line). find has_move ls ≡ None) (sym becomes.lines)
            (on_rests n (with_exchange y) b.room.lines (λ l found none. still_lines b.room.dead x runs free) (none_found has_move b.room.lines rests))

        by_follows : (js : List Job) → later ≡ js → Follows n js → IsPutting c (both host new)
        by_follows [] at is = absurd is
        by_follows (jobs.Put m false (items.Head end ∷ list) ∷ more) at is = record {
          quiet = quiet;
          rests = rest_position new.lines still;
          end = end;
          list = list;
          later = more;
          jobs_are = at ∙ (λ i. jobs.Put (is.0 i) false (items.Head end ∷ list) ∷ more);
          none = is.1;
          exchange = y;
          on = there;
          lives = lives;
          waits = waits;
          its = ap (λ (fs : List Filter). slice_get fs k) (entered_filters b.room.dead x) ∙ its;
        }
        by_follows (jobs.Put m false (items.Piece bytes end ∷ list) ∷ more) at is = absurd is
        by_follows (jobs.Put m false (items.Trailers ∷ list) ∷ more) at is = absurd is
        by_follows (jobs.Put m false [] ∷ more) at is = absurd is
        by_follows (jobs.Put m true list ∷ more) at is = absurd is
        by_follows (job ∷ more) at is = absurd is

    -- what comes of a step where its context is made
    abbrev pub Enters : ℕ → Both Vms → Both Vms → Type 0
    Enters c b m = ((j : ℕ) × (k < j) × Goes (own c) j b m) ⊎ (NoneSince n b.room.hub.sent m.room.hub × IsPutting c m)

    pub made_step : (b m : Both Vms) (ms : List Met) (c j : ℕ) (y : Exchange) → Reaches (step calling plan (next_of b.room) b.host b.room) ms (ends m) → IsKnown b → On m y → k < j → IsMaking (own c) j b → Enters c b m
    made_step b m ms c j y reaches known on_m late s = by_jobs b.room.jobs refl s.ahead
      where
        x : Exchange
        x = s.exchange

        f : Filter
        f = own c

        base : List Sent
        base = b.room.hub.sent

        moving : (js : List Job) → b.room.jobs ≡ js → (Q : Both Vms → Type 0) → ((d : Both Vms) → Going f base js d.room → Q d) → (place : ℕ) → position has_move b.room.lines ≡ Some place → AllEnds Q (step calling plan (next.Move place) b.host b.room)
        moving js at Q so place moves =
            weaker (λ d. Going f base js d.room × ArePlaced d.host) Q (step calling plan (next.Move place) b.host b.room) (going_moves f (own_its c) b js x known s.quiet at s.on s.lives s.pre place) (λ d done. so d done.0)

        apart : j ≡ k → ⊥
        apart same = omega (arith, late, same)

        creates : (l i : ℕ) (later : List Job) → b.room.jobs ≡ jobs.Create l i ∷ later → Ahead n len j (jobs.Create l i ∷ later) → Enters c b m
        creates l i later at so =
            let Q : Both Vms → Type 0 = λ d. Going f base (jobs.Create l i ∷ later) d.room ⊎ Going f base later d.room in
            by_end
            (all_reached Q ms (step calling plan (next_of b.room) b.host b.room) m
            (job_step plan b (jobs.Create l i) later Q s.quiet at (moving (jobs.Create l i ∷ later) at Q (λ d going. inl going))
            (λ rests.
            subst (λ (v : ℕ). AllEnds Q (works calling plan (jobs.Create v i) b.host (record b.room { jobs = later }))) (sym so.0)
            (subst (λ (v : ℕ). AllEnds Q (works calling plan (jobs.Create n v) b.host (record b.room { jobs = later }))) (sym so.1)
            (weaker (λ d. Going f base later d.room × ArePlaced d.host) Q (works calling plan (jobs.Create n j) b.host (record b.room { jobs = later })) (going_creates f (own_its c) b j later x apart known s.quiet s.on s.lives s.pre) (λ d done. inr done.0))))) reaches)
          where
            by_end : Going f base (jobs.Create l i ∷ later) m.room ⊎ Going f base later m.room → Enters c b m
            by_end (inl going) = inl (j, late, going_after f j (jobs.Create l i ∷ later) b m y so going on_m)
            by_end (inr going) = let more : k < suc j = omega (arith, late) in inl (suc j, more, going_after f (suc j) later b m y so.2 going on_m)

        enters : (l : ℕ) (later : List Job) → b.room.jobs ≡ jobs.Enter l ∷ later → Ahead n len j (jobs.Enter l ∷ later) → Enters c b m
        enters l later at so =
            let room : Room = record b.room { jobs = later } in
            let Q : Both Vms → Type 0 = λ d. Going f base (jobs.Enter l ∷ later) d.room ⊎ ((NoneSince n base d.room.hub × IsPutting c d) ⊎ silent.Fair n base low d.room) in
            by_end
            (all_reached Q ms (step calling plan (next_of b.room) b.host b.room) m
            (job_step plan b (jobs.Enter l) later Q s.quiet at (moving (jobs.Enter l ∷ later) at Q (λ d going. inl going))
            (λ rests.
            subst (λ (v : ℕ). AllEnds Q (works calling plan (jobs.Enter v) b.host room)) (sym so.0)
            (inr (entered rests (x.has_ended || x.is_answered) refl)))) reaches)
          where
            halves : (u v : Bool) → (u || v) ≡ false → (u ≡ false) × (v ≡ false)
            halves true v t = absurd (cc t)
            halves false v t = (refl, t)

            its_raw : x.has_ended ≡ false → x.is_answered ≡ false → slice_get x.filters k ≡ Some f
            its_raw runs free = by_pre s.pre.1
              where
                by_pre : (x.has_ended ≡ true) ⊎ ((x.is_answered ≡ true) ⊎ IsRawOf k len f x) → slice_get x.filters k ≡ Some f
                by_pre (inl ended) = absurd (never x.has_ended runs ended)
                by_pre (inr (inl answered)) = absurd (never x.is_answered free answered)
                by_pre (inr (inr raw)) = raw.its

            over_pre : (x.has_ended ≡ true) ⊎ (x.is_answered ≡ true) → IsPre Never x
            over_pre (inl ended) = (s.pre.0, inl ended)
            over_pre (inr answered) = (s.pre.0, inr (inl answered))

            entered : position has_move b.room.lines ≡ None → (o : Bool) → (x.has_ended || x.is_answered) ≡ o
                → (NoneSince n base (on_number (enter_stages b.room.dead) n (record b.room { jobs = later })).hub × IsPutting c (both b.host (on_number (enter_stages b.room.dead) n (record b.room { jobs = later }))))
                ⊎ silent.Fair n base low (on_number (enter_stages b.room.dead) n (record b.room { jobs = later }))
            entered rests true is = inr (vain_enter b later x known s.quiet so.2 s.on (over_pre (either_true x.has_ended x.is_answered is)))
            entered rests false is =
                let both_so = halves x.has_ended x.is_answered is in inl (enter_waits b c later x known s.quiet rests so.2 s.on s.lives both_so.0 both_so.1 (its_raw both_so.0 both_so.1) b.host)

            by_end : Going f base (jobs.Enter l ∷ later) m.room ⊎ ((NoneSince n base m.room.hub × IsPutting c m) ⊎ silent.Fair n base low m.room) → Enters c b m
            by_end (inl going) = inl (j, late, going_after f j (jobs.Enter l ∷ later) b m y so going on_m)
            by_end (inr (inl puts)) = inr puts
            by_end (inr (inr is_over)) = inl (j, late, inr (inr (over_quiet b m is_over)))

        by_jobs : (js : List Job) → b.room.jobs ≡ js → Ahead n len j js → Enters c b m
        by_jobs [] at none = absurd none
        by_jobs (jobs.Create l i ∷ later) at so = creates l i later at so
        by_jobs (jobs.Enter l ∷ later) at so = enters l later at so
        by_jobs (job ∷ later) at none = absurd none

    -- ---- the head is put

    pub put_step : (b m : Both Vms) (ms : List Met) (c : ℕ) (y : Exchange) → Reaches (step calling plan (next_of b.room) b.host b.room) ms (ends m) → IsKnown b → On m y → IsPutting c b → NoneSince n b.room.hub.sent m.room.hub × IsWaiting c m
    put_step b m ms c y reaches known on_m s =
        all_reached Q ms (step calling plan (next_of b.room) b.host b.room) m
        (subst (λ (v : Next). AllEnds Q (step calling plan v b.host b.room)) (sym (works_next b.room (jobs.Put n false (items.Head s.end ∷ s.list)) s.later s.quiet s.rests s.jobs_are))
        (subst (λ (js : List Job). AllEnds Q (works_first calling plan js b.host b.room)) (sym s.jobs_are) done)) reaches
      where
        Q : Both Vms → Type 0
        Q d = NoneSince n b.room.hub.sent d.room.hub × IsWaiting c d

        x : Exchange
        x = s.exchange

        room : Room
        room = record b.room { jobs = s.later }

        change_it : ℕ → Exchange → Hub → Exchange × Hub
        change_it = put_read_items false (items.Head s.end ∷ s.list)

        new : Room
        new = on_number change_it n room

        becomes : Becomes change_it n room x new
        becomes = number_is change_it n room x s.on

        w : WaitsOn e.vm c room.hub (change_it n x room.hub)
        w = (heads_wait e.vm c).begins s.end s.list n x room.hub s.waits

        done : Q (both b.host new)
        done = (
          (w.sent.0, ap (λ (h : Hub). h.sent) becomes.hub ∙ w.sent.1, none_any n w.sent.0 w.sent.2),
          record {
            quiet = s.quiet;
            none = s.none;
            exchange = (change_it n x room.hub).0;
            on = becomes_on change_it n room new x (once_of b known) s.on becomes;
            lives = s.lives;
            waits = w.waits;
            its = ap (λ (fs : List Filter). slice_get fs k) (put_in_kept false (items.Head s.end ∷ s.list) n x room.hub).filters ∙ s.its;
          },
        )
