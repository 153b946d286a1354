-- Each callout goes out once, over turns.
use Rattle.std.proofs.Common.{◌≡◌, ◌<◌, ◌≤◌, ◌==◌, ◌&&◌, ℕ, zero, suc, Bool, true, false, cond, List, [], ◌∷◌, ◌++◌, refl, sym, ap, ◌∙◌, subst, eqb-true, arith}
use Rattle.std.proofs.lemmas.List.{append-nil, append_assoc}
use Rattle.std.proofs.lemmas.List.Elements.{filter-append}
use Rattle.std.specs.Prelude.{if◌then◌else◌}
use Rattle.callouts.specs.Callouts.{callout_in, line_of}
use Rattle.contexts.specs.declared.parts.Calls.{Calls}
use Rattle.filter_host.proofs.Holds.{AllEnds, all_then, all_reached}
use Rattle.filter_host.specs.Called.{Calling}
use Rattle.filter_host.specs.Course.{Course, ends, asks, measures, hears}
use Rattle.gate_config.specs.declared.config.Config.{Config}
use Rattle.gate_io.specs.Events.{is_stop}
use Rattle.gate_io.specs.declared.event.Event.{Event}
use Rattle.gate_io.specs.declared.event.Sent.{Sent}
use Rattle.gate_io.specs.declared.event.Sent.TheVariants as to
use Rattle.gate_io.specs.declared.event.Side.{Side}
use Rattle.send_queue.specs.Joined.{are_one, as_one, neighbours, behind_all, behind, joined_behind, join_neighbours, FollowApart, IsJoined}
use Rattle.send_queue.specs.Places.{is_same_side}
use Rattle.vm_host.specs.Slots as slots
use Rattle.vm_host.specs.declared.slots.Vms.{Vms}
use Rattle.worker_model.specs.Making.{first_room, contexts_of}
use Rattle.worker_model.specs.Plan.{Plan}
use Rattle.worker_model.specs.Room.{Room}
use Rattle.worker_model.specs.Rooms.{next_of}
use Rattle.worker_model.specs.Settling.{is_rest, settling, settling_none, settling_rest, settling_step}
use Rattle.worker_model.specs.Steps.{Both, both, step}
use Rattle.worker_model.specs.Turn.{Outcome, turn, turn_by, room_for_event, most_steps, outcome_of, without_sent}
use Rattle.law_lines.specs.Isolation.{is_sent_on, sent_on}
use Rattle.law_lines.specs.Logs.{WriteLogs}
use Rattle.law_lines.specs.Turns.{Done, Turns, sent_in}
use Rattle.law_lines.proofs.Callouts.{call_line_is}
use Rattle.law_lines.proofs.Machines.{machines_write_logs}
use Rattle.law_lines.proofs.OtherTurns.{idle_step}
use Rattle.law_lines.proofs.Turning.{turns_empty}
use Rattle.law_lines.proofs.Unused.{CallsUnused, steps_unused, facing_unused, emptied_unused, new_unused}
use Rattle.law_vms.specs.OwnChanges.{CallbacksChangeTheirOwn, PlacesStay, ArePlaced}
use Rattle.law_callouts.specs.GoingOut.{IsDrawn, GoesOut, CalloutsGoOutOnce, WorkersGoOutOnce}
use Rattle.law_callouts.specs.GoingOut as out
use Rattle.law_callouts.proofs.Holding.{Holds, still_holds, Held, step_holds}
use Rattle.law_callouts.proofs.Sound.{stays_sound, none_called}
use Rattle.law_callouts.proofs.Steps.{KeepsGood, Any, any_good}
use Rattle.law_callouts.proofs.Workers.{kept}

-- ---- neighbours are joined, of which none are bytes of the line

tail_joined : (s : Sent) (l : List Sent) → IsJoined (s ∷ l) → IsJoined l
tail_joined s [] j = tt
tail_joined s (x ∷ l) j = j.1

joined_end : (a b : List Sent) → IsJoined (a ++ b) → IsJoined b
joined_end [] b j = j
joined_end (s ∷ a) b j = joined_end a b (tail_joined s (a ++ b) j)

joined_front : (a b : List Sent) → IsJoined (a ++ b) → IsJoined a
joined_front [] b j = tt
joined_front (s ∷ a) b j = by_first s a j
  where
    by_first : (s : Sent) (a : List Sent) → FollowApart s (a ++ b) → FollowApart s a
    by_first s [] j = tt
    by_first s (x ∷ a) j = (j.0, by_first x a j.1)

module _ (n : ℕ) where
  rest_joined : (s : Sent) (l : List Sent) → IsJoined (sent_on n (s ∷ l)) → IsJoined (sent_on n l)
  rest_joined s l j = by_test (is_sent_on n s) j
    where
      by_test : (b : Bool) → IsJoined (cond b (s ∷ sent_on n l) (sent_on n l)) → IsJoined (sent_on n l)
      by_test true j = tail_joined s (sent_on n l) j
      by_test false j = j

  both_true : (a b : Bool) → (a && b) ≡ true → a ≡ true
  both_true true b is = refl
  both_true false b is = absurd (cc)

  -- two that are joined are of another line
  last_two : (first m : Sent) → IsJoined (sent_on n (first ∷ m ∷ [])) → sent_on n (neighbours first m) ≡ sent_on n (first ∷ m ∷ [])
  last_two first m j = by_one (are_one first m) refl
    where
      of_bytes : (line : ℕ) (side : Side) (bytes : List ℕ) (l : ℕ) (s : Side) (more : List ℕ) → line ≡ l → are_one (to.Bytes line side bytes) (to.Bytes l s more) ≡ true
          → IsJoined (sent_on n (to.Bytes line side bytes ∷ to.Bytes l s more ∷ [])) → (b : Bool) → (line == n) ≡ b → (l == n) ≡ b
          → sent_on n (to.Bytes line side (bytes ++ more) ∷ []) ≡ sent_on n (to.Bytes line side bytes ∷ to.Bytes l s more ∷ [])
      of_bytes line side bytes l s more same one j true here there =
          let both_on : sent_on n (to.Bytes line side bytes ∷ to.Bytes l s more ∷ []) ≡ to.Bytes line side bytes ∷ to.Bytes l s more ∷ [] =
          (λ i. cond (here i) (to.Bytes line side bytes ∷ cond (there i) (to.Bytes l s more ∷ []) []) (cond (there i) (to.Bytes l s more ∷ []) [])) in
          let apart : are_one (to.Bytes line side bytes) (to.Bytes l s more) ≡ false = (subst IsJoined both_on j).0 in
          let never : ◌≡◌ {A = Bool} true false = sym one ∙ apart in
          absurd (cc)
      of_bytes line side bytes l s more same one j false here there =
          ap (λ (b : Bool). cond b (to.Bytes line side (bytes ++ more) ∷ []) []) here
          ∙ sym (λ i. cond (here i) (to.Bytes line side bytes ∷ cond (there i) (to.Bytes l s more ∷ []) []) (cond (there i) (to.Bytes l s more ∷ []) []))

      by_two : (first m : Sent) → are_one first m ≡ true → IsJoined (sent_on n (first ∷ m ∷ [])) → sent_on n (as_one first m ∷ []) ≡ sent_on n (first ∷ m ∷ [])
      by_two (to.Bytes line side bytes) (to.Bytes l s more) one j =
          let same : line ≡ l = eqb-true line l (both_true (line == l) (is_same_side side s) one) in
          of_bytes line side bytes l s more same one j (line == n) refl (ap (λ (k : ℕ). k == n) (sym same))
      by_two (to.Bytes line side bytes) (to.Connect l) one j = absurd (cc)
      by_two (to.Bytes line side bytes) (to.Close l s) one j = absurd (cc)
      by_two (to.Bytes line side bytes) (to.Log level text) one j = absurd (cc)
      by_two (to.Connect line) m one j = absurd (cc)
      by_two (to.Close line side) m one j = absurd (cc)
      by_two (to.Log level text) m one j = absurd (cc)

      by_one : (b : Bool) → are_one first m ≡ b → sent_on n (if b then as_one first m ∷ [] else first ∷ m ∷ []) ≡ sent_on n (first ∷ m ∷ [])
      by_one true is = by_two first m is j
      by_one false is = refl

  one_more : (first : Sent) (rest : List Sent) (m : Sent) → IsJoined (sent_on n (first ∷ (rest ++ m ∷ []))) → sent_on n (behind_all first rest m) ≡ sent_on n (first ∷ (rest ++ m ∷ []))
  one_more first [] m j = last_two first m j
  one_more first (next ∷ rest) m j =
      ap (λ (l : List Sent). cond (is_sent_on n first) (first ∷ l) l) (one_more next rest m (rest_joined first (next ∷ (rest ++ m ∷ [])) j))

  behind_same : (done : List Sent) (m : Sent) → IsJoined (sent_on n (done ++ m ∷ [])) → sent_on n (behind done m) ≡ sent_on n (done ++ m ∷ [])
  behind_same [] m j = refl
  behind_same (first ∷ rest) m j = one_more first rest m j

  joins_same : (done s : List Sent) → IsJoined (sent_on n (done ++ s)) → sent_on n (joined_behind done s) ≡ sent_on n (done ++ s)
  joins_same done [] j = ap (sent_on n) (sym (append-nil done))
  joins_same done (m ∷ s) j = joins_same (behind done m) s (subst IsJoined (sym same) j) ∙ same
    where
      whole : sent_on n (done ++ m ∷ s) ≡ sent_on n (done ++ m ∷ []) ++ sent_on n s
      whole = ap (sent_on n) (sym (append_assoc done (m ∷ []) s)) ∙ filter-append (is_sent_on n) (done ++ m ∷ []) s

      same : sent_on n (behind done m ++ s) ≡ sent_on n (done ++ m ∷ s)
      same =
          filter-append (is_sent_on n) (behind done m) s
          ∙ (ap (λ (l : List Sent). l ++ sent_on n s) (behind_same done m (joined_front (sent_on n (done ++ m ∷ [])) (sent_on n s) (subst IsJoined whole j))) ∙ sym whole)

  pub joined_same : (s : List Sent) → IsJoined (sent_on n s) → sent_on n (join_neighbours s) ≡ sent_on n s
  joined_same s j = joins_same [] s j

-- ---- a turn

-- on the line of a callout bytes go once
out_joined : (id : ℕ) (room : Room) (sent : List Sent) → GoesOut id room sent → IsJoined (sent_on (line_of id) sent)
out_joined id room sent (out.nothing none is) = subst IsJoined (sym is) tt
out_joined id room sent (out.request c q there is) = subst IsJoined (sym is) (refl, tt)
out_joined id room sent (out.closed q drawn gone is) = subst IsJoined (sym is) (refl, (refl, tt))

out_as : (id : ℕ) (room after : Room) (sent now : List Sent) → after.calls ≡ room.calls → after.hub.contexts.calls ≡ room.hub.contexts.calls → sent_on (line_of id) now ≡ sent_on (line_of id) sent → GoesOut id room sent → GoesOut id after now
out_as id room after sent now calls counts same (out.nothing none is) = out.nothing (λ (d : IsDrawn id after). none (d.0, subst (λ (c : Calls). id ≤ c.last) counts d.1)) (same ∙ is)
out_as id room after sent now calls counts same (out.request c q there is) = out.request c q (ap (λ cs. callout_in id cs) calls ∙ there) (same ∙ is)
out_as id room after sent now calls counts same (out.closed q drawn gone is) = out.closed q (drawn.0, subst (λ (c : Calls). id ≤ c.last) (sym counts) drawn.1) (ap (λ cs. callout_in id cs) calls ∙ gone) (same ∙ is)

emptied_holds : (id : ℕ) (past : List Sent) (room : Room) → Holds id past room → Holds id (past ++ join_neighbours room.hub.sent) (without_sent room)
emptied_holds id past room h = record {
  sound = record { rising = h.sound.rising; drawn = h.sound.drawn; counted = h.sound.counted };
  clear = h.clear;
  out = out_as id room (without_sent room) (past ++ room.hub.sent) ((past ++ join_neighbours room.hub.sent) ++ []) refl refl same h.out;
}
  where
    n : ℕ
    n = line_of id

    whole : sent_on n (past ++ room.hub.sent) ≡ sent_on n past ++ sent_on n room.hub.sent
    whole = filter-append (is_sent_on n) past room.hub.sent

    joined : sent_on n (join_neighbours room.hub.sent) ≡ sent_on n room.hub.sent
    joined = joined_same n room.hub.sent (joined_end (sent_on n past) (sent_on n room.hub.sent) (subst IsJoined whole (out_joined id room (past ++ room.hub.sent) h.out)))

    same : sent_on n ((past ++ join_neighbours room.hub.sent) ++ []) ≡ sent_on n (past ++ room.hub.sent)
    same =
        ap (sent_on n) (append-nil (past ++ join_neighbours room.hub.sent))
        ∙ (filter-append (is_sent_on n) past (join_neighbours room.hub.sent) ∙ (ap (λ (l : List Sent). sent_on n past ++ l) joined ∙ sym whole))

two_ends : {A : Type 0} (P Q : A → Type 0) (p : Course A) → AllEnds P p → AllEnds Q p → AllEnds (λ (a : A). P a × Q a) p
two_ends P Q (ends a) one two = (one, two)
two_ends P Q (asks vm call k) one two = λ r. two_ends P Q (k r) (one r) (two r)
two_ends P Q (measures vm call k) one two = λ r. two_ends P Q (k r) (one r) (two r)
two_ends P Q (hears t k) one two = λ h is. two_ends P Q (k h) (one h is) (two h is)

module _ {H : Type 0} (calling : Calling H) (IsGood : H → Type 0) (kept_good : KeepsGood calling IsGood) (logs : WriteLogs calling) (plan : Plan) (id : ℕ) where
  -- no line of a client has the number of a callout's, and the callout of the id went out so
  abbrev Goes : List Sent → H → Room → Type 0
  Goes past host room = CallsUnused room × (IsGood host × Holds id past room)

  abbrev Leads : List Sent → Course (Both H) → Type 0
  Leads past course = AllEnds (λ (b : Both H). Goes past b.host b.room) course

  step_goes : (past : List Sent) (host : H) (room : Room) → Goes past host room → Leads past (step calling plan (next_of room) host room)
  step_goes past host room g =
      two_ends (λ (b : Both H). CallsUnused b.room) (λ (b : Both H). IsGood b.host × Holds id past b.room) (step calling plan (next_of room) host room) (steps_unused calling logs plan host room g.0)
      (step_holds calling IsGood kept_good logs plan id past host room (idle_step (line_of id) room (g.0 (line_of id) (call_line_is id)).idle) g.1.0 g.1.1)

  settling_goes : (past : List Sent) (k : ℕ) (host : H) (room : Room) → Goes past host room → Leads past (settling calling plan k host room)
  settling_goes past zero host room g = subst (Leads past) (sym (settling_none calling plan host room)) g
  settling_goes past (suc k) host room g = by_rest (λ h r e. settling_goes past k h r e) (is_rest (next_of room)) refl
    where
      by_rest : ((h : H) (r : Room) → Goes past h r → Leads past (settling calling plan k h r)) → (b : Bool) → is_rest (next_of room) ≡ b → Leads past (settling calling plan (suc k) host room)
      by_rest go true is = subst (Leads past) (sym (settling_rest calling plan k (next_of room) host room refl is)) g
      by_rest go false is =
          subst (Leads past) (sym (settling_step calling plan k (next_of room) host room refl is))
          (all_then (λ (b : Both H). Goes past b.host b.room) (λ (b : Both H). Goes past b.host b.room) (step calling plan (next_of room) host room) (λ b. settling calling plan k b.host b.room)
          (step_goes past host room g) (λ b e. go b.host b.room e))

  abbrev ComesSo : List Sent → Outcome H → Type 0
  ComesSo past o = Goes (past ++ o.sent) o.state.host o.state.room

  turn_goes : (past : List Sent) (state : Both H) (event : Event) → Goes past state.host state.room → AllEnds (ComesSo past) (turn calling plan state event)
  turn_goes past state event g = by_stop (is_stop event.what)
    where
      by_stop : (b : Bool) → AllEnds (ComesSo past) (turn_by calling plan b state event)
      by_stop true = subst (λ l. Goes l state.host state.room) (sym (append-nil past)) g
      by_stop false =
          all_then (λ (b : Both H). Goes past b.host b.room) (ComesSo past) (settling calling plan most_steps state.host (room_for_event plan event state.room)) (λ b. ends (outcome_of b))
          (settling_goes past most_steps state.host (room_for_event plan event state.room)
          (facing_unused plan event state.room g.0, (g.1.0, still_holds id past state.room (room_for_event plan event state.room) g.1.1 refl refl refl refl)))
          (λ b k. (emptied_unused b.room k.0, (k.1.0, emptied_holds id past b.room k.1.1)))

  turns_go : (past : List Sent) (from : Both H) (ts : List (Done H)) (to : Both H) → Goes past from.host from.room → Turns calling plan from ts to → Goes (past ++ sent_in ts) to.host to.room
  turns_go past from [] to g turned = subst (λ (b : Both H). Goes (past ++ []) b.host b.room) (sym turned) (subst (λ l. Goes l from.host from.room) (sym (append-nil past)) g)
  turns_go past from (t ∷ ts) to g turned =
      let one : ComesSo past t.end = all_reached (ComesSo past) t.met (turn calling plan from t.event) t.end (turn_goes past from t.event g) turned.0 in
      subst (λ l. Goes l to.host to.room) (append_assoc past t.end.sent (sent_in ts)) (turns_go (past ++ t.end.sent) t.end.state ts to one turned.1)

  pub goes_once : (config : Config) (seed : List ℕ) (host : H) (ts : List (Done H)) (to : Both H) → IsGood host → Turns calling plan (both host (first_room config seed)) ts to → GoesOut id to.room (sent_in ts)
  goes_once config seed host ts to good turned =
      let far : Goes (sent_in ts) to.host to.room = turns_go [] (both host (first_room config seed)) ts to (new_unused (contexts_of config seed), (good, first)) turned in
      let none : to.room.hub.sent ≡ [] = turns_empty calling logs plan (both host (first_room config seed)) ts to refl turned in
      subst (GoesOut id to.room) (ap (λ (l : List Sent). sent_in ts ++ l) none ∙ append-nil (sent_in ts)) far.1.1.out
    where
      undrawn : (last : ℕ) → last ≡ 0 → (0 < id) × (id ≤ last) → ⊥
      undrawn last is d = omega (arith, is, d.0, d.1)

      first : Holds id [] (first_room config seed)
      first = record {
        sound = stays_sound.first config seed;
        clear = refl;
        out = out.nothing (λ (d : IsDrawn id (first_room config seed)). undrawn (contexts_of config seed).calls.last (ap (λ (c : Calls). c.last) (none_called config seed)) d) refl;
      }

pub callouts_go_out : (H : Type 0) → CalloutsGoOutOnce H
callouts_go_out H calling plan config seed host ts to id counts logs turned = goes_once calling Any (any_good calling counts) logs plan id config seed host ts to tt turned

pub workers_go_out : CallbacksChangeTheirOwn → PlacesStay → WorkersGoOutOnce
workers_go_out change stay plan config seed host ts to id placed turned = goes_once slots.calling ArePlaced (kept change stay) machines_write_logs plan id config seed host ts to placed turned
