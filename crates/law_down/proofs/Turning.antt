-- Turns, and what is known after them of what went down.
use Rattle.std.proofs.Common.{◌≡◌, ℕ, Bool, true, false, List, [], ◌∷◌, ◌++◌, refl, ap, ◌∙◌, sym, subst}
use Rattle.std.proofs.lemmas.List.{append-nil, append_assoc}
use Rattle.std.specs.Prelude.{Option, None, Some, option_map, if◌then◌else◌}
use Rattle.callouts.specs.Callouts.{is_call_line}
use Rattle.contexts.specs.declared.parts.Contexts.{Contexts}
use Rattle.filter_host.specs.Called.{Calling}
use Rattle.filter_host.specs.Course.{ends}
use Rattle.filter_host.proofs.Holds.{AllEnds, all_then, all_reached}
use Rattle.exchange.specs.declared.types.Exchange.{Exchange}
use Rattle.law_exchange.specs.Responses.{IsOneResponse, sends_nothing, sends_response, stays_behind}
use Rattle.law_exchange.specs.Traffic.{Traffic}
use Rattle.gate_io.specs.declared.event.Event.{Event}
use Rattle.gate_io.specs.declared.event.Sent.{Sent}
use Rattle.gate_io.specs.Events.{is_stop}
use Rattle.send_queue.specs.Joined.{join_neighbours}
use Rattle.store_model.specs.Made.{Made}
use Rattle.vm_host.specs.Slots as slots
use Rattle.vm_host.specs.declared.slots.Vms.{Vms}
use Rattle.worker_model.specs.Room.{Room}
use Rattle.worker_model.specs.declared.types.Line.{Line}
use Rattle.worker_model.specs.Making.{contexts_of, new_worker}
use Rattle.worker_model.specs.Plan.{Plan}
use Rattle.worker_model.specs.Settling.{settling}
use Rattle.worker_model.specs.State.{Standing, rules_of}
use Rattle.worker_model.specs.Steps.{Both, both, line_in}
use Rattle.worker_model.specs.Turn.{Outcome, turn, turn_by, room_for_event, most_steps, outcome_of, without_sent}
use Rattle.law_lines.specs.Clients.{client_traffic}
use Rattle.law_lines.specs.Logs.{WriteLogs}
use Rattle.law_lines.specs.Turns.{Done, Turns, new_room, sent_in}
use Rattle.law_lines.proofs.Looks.{look, line_in_is}
use Rattle.law_lines.proofs.Machines.{machines_write_logs}
use Rattle.law_lines.proofs.Turning.{facing_known, emptied_known, new_known, turns_empty}
use Rattle.law_lines.proofs.Unused.{no_line}
use Rattle.law_lines.proofs.Wholly.{Run, worked_run}
use Rattle.law_down.specs.Downward.{Standing as Stands, Answering, GoesDownBy}
use Rattle.law_down.specs.Laws.{CalloutsGoUpAlone, ResponsesGoDownOneByOne, WorkersAnswerOneByOne, ResponsesOfTheProductGoDown}
use Rattle.law_down.proofs.Callouts.{emptied_client, facing_silent, emptied_silent, new_silent}
use Rattle.law_down.proofs.Below.{SentDown, nothing, running, at_end}
use Rattle.law_down.proofs.Under.{Going, Waiting, LineUnder, exchange_at, held_on, Under}
use Rattle.law_down.proofs.Ending.{one_of}
use Rattle.law_down.proofs.Stepping.{Whole, settling_whole}

-- ---- a turn

pub emptied_under : (plan : Plan) (n : ℕ) (past : List Sent) (room : Room) → Under plan n past room → Under plan n (past ++ join_neighbours room.hub.sent) (without_sent room)
emptied_under plan n past room u = subst (λ (t : List Traffic). LineUnder plan n t room.reading room.jobs (held_on n room.lines)) (sym (emptied_client n past room)) u

-- of all lines
pub facing_whole : (plan : Plan) (past : List Sent) (event : Event) (room : Room) → Whole plan past room → Whole plan past (room_for_event plan event room)
facing_whole plan past event room all = ((λ n low. (facing_known plan n past event room (all.0 n low).0, (all.0 n low).1)), facing_silent plan past event room all.1)

pub emptied_whole : (plan : Plan) (past : List Sent) (room : Room) → Whole plan past room → Whole plan (past ++ join_neighbours room.hub.sent) (without_sent room)
emptied_whole plan past room all = ((λ n low. (emptied_known plan n past room (all.0 n low).0, emptied_under plan n past room (all.0 n low).1)), emptied_silent past room all.1)

module _ {H : Type 0} (calling : Calling H) (logs : WriteLogs calling) (plan : Plan) where
  abbrev Comes : List Sent → Outcome H → Type 0
  Comes past o = Whole plan (past ++ o.sent) o.state.room

  turn_whole : (past : List Sent) (state : Both H) (event : Event) → Whole plan past state.room → AllEnds (Comes past) (turn calling plan state event)
  turn_whole past state event all = by_stop (is_stop event.what)
    where
      by_stop : (b : Bool) → AllEnds (Comes past) (turn_by calling plan b state event)
      by_stop true = subst (λ l. Whole plan l state.room) (sym (append-nil past)) all
      by_stop false =
          all_then (λ (b : Both H). Whole plan past b.room) (Comes past) (settling calling plan most_steps state.host (room_for_event plan event state.room)) (λ b. ends (outcome_of b))
          (settling_whole calling logs plan past most_steps state.host (room_for_event plan event state.room) (facing_whole plan past event state.room all)) (λ b k. emptied_whole plan past b.room k)

  turns_whole : (past : List Sent) (from : Both H) (ts : List (Done H)) (to : Both H) → Whole plan past from.room → Turns calling plan from ts to → Whole plan (past ++ sent_in ts) to.room
  turns_whole past from [] to all turned = subst (λ (b : Both H). Whole plan (past ++ []) b.room) (sym turned) (subst (λ l. Whole plan l from.room) (sym (append-nil past)) all)
  turns_whole past from (t ∷ ts) to all turned =
      let one : Comes past t.end = all_reached (Comes past) t.met (turn calling plan from t.event) t.end (turn_whole past from t.event all) turned.0 in
      subst (λ l. Whole plan l to.room) (append_assoc past t.end.sent (sent_in ts)) (turns_whole (past ++ t.end.sent) t.end.state ts to one turned.1)

-- a new worker
pub new_under : (plan : Plan) (contexts : Contexts) (n : ℕ) → Under plan n [] (new_room contexts)
new_under plan contexts n = record { connections = []; are = tt; is = refl }

pub new_whole : (plan : Plan) (contexts : Contexts) → Whole plan [] (new_room contexts)
new_whole plan contexts = ((λ n low. (new_known plan contexts n, new_under plan contexts n)), new_silent contexts)

-- ---- what went down

down_by : (plan : Plan) (n : ℕ) (total : List Traffic) (room : Room) → LineUnder plan n total room.reading room.jobs (held_on n room.lines) → GoesDownBy plan (line_in n room.lines) total
down_by plan n total room u = subst (λ (o : Option Line). GoesDownBy plan o total) (sym (line_in_is n room.lines)) (by_line (look n room.lines) u)
  where
    answering : (x : Exchange) → Going plan n total room.reading room.jobs x → Answering plan x total
    answering x g = record {
      before = g.before;
      closed = g.closed;
      staying = g.staying;
      stay = g.stay;
      head = g.head;
      first = g.first;
      asked = g.asked;
      interims = g.interims;
      wire = g.went;
      part = one_of plan n total room.reading room.jobs x (stays_behind x) g (by_sent g.below.sent);
      is = g.is;
    }
      where
        behind : (b : Bool) → x.has_ended ≡ b → stays_behind x ≡ (if b then x.stays else false)
        behind b is = ap (λ c. if c then x.stays else false) is

        by_sent : SentDown x g.went → IsOneResponse x.asked.is_head x.asked.old_client (stays_behind x) g.went
        by_sent (nothing h e is) = sends_nothing is (behind false e)
        by_sent (running h e r) = subst (λ b. IsOneResponse x.asked.is_head x.asked.old_client b g.went) (sym (behind false e)) (sends_response false r.response)
        by_sent (at_end e one) = subst (λ b. IsOneResponse x.asked.is_head x.asked.old_client b g.went) (sym (behind true e)) one

    standing : Waiting plan n total room.jobs → Stands plan total
    standing w = record { before = w.before; closed = w.closed; staying = w.staying; stay = w.stay; last = w.last; lasts = w.lasts; is = w.is }

    by_line : (o : Option Line) → LineUnder plan n total room.reading room.jobs (option_map exchange_at o) → GoesDownBy plan o total
    by_line None u = u
    by_line (Some l) u = by_exchange l.exchange refl u
      where
        by_exchange : (o : Option Exchange) → l.exchange ≡ o → LineUnder plan n total room.reading room.jobs (Some l.exchange) → GoesDownBy plan (Some l) total
        by_exchange None none u = subst (λ (o : Option Exchange). GoesDownBy plan (Some (record l { exchange = o })) total) (sym none) (standing (subst (λ (o : Option Exchange). LineUnder plan n total room.reading room.jobs (Some o)) none u))
        by_exchange (Some x) some u = subst (λ (o : Option Exchange). GoesDownBy plan (Some (record l { exchange = o })) total) (sym some) (answering x (subst (λ (o : Option Exchange). LineUnder plan n total room.reading room.jobs (Some o)) some u))

-- on the line of a callout nothing does
pub callouts_go_up : (H : Type 0) → CalloutsGoUpAlone H
callouts_go_up H calling plan contexts host ts to n high logs turned =
    let all : Whole plan (sent_in ts) to.room = turns_whole calling logs plan [] (both host (new_room contexts)) ts to (new_whole plan contexts) turned in
    let none : to.room.hub.sent ≡ [] = turns_empty calling logs plan (both host (new_room contexts)) ts to refl turned in (
      no_line n to.room (all.1 n high).0,
      sym (ap (λ l. client_traffic n (sent_in ts ++ l)) none ∙ ap (client_traffic n) (append-nil (sent_in ts))) ∙ (all.1 n high).1,
    )

-- where nothing did, and there is no line
none_down : (plan : Plan) (o : Option Line) (total : List Traffic) → o ≡ None → total ≡ [] → GoesDownBy plan o total
none_down plan o total none empty = subst (λ (t : List Traffic). GoesDownBy plan o t) (sym empty) (subst (λ (p : Option Line). GoesDownBy plan p []) (sym none) (record { connections = []; are = tt; is = refl }))

pub responses_go_down : (H : Type 0) → ResponsesGoDownOneByOne H
responses_go_down H calling plan contexts host ts to n logs turned = by_line (is_call_line n) refl
  where
    by_line : (b : Bool) → is_call_line n ≡ b → GoesDownBy plan (line_in n to.room.lines) (client_traffic n (sent_in ts))
    by_line false low =
        let all : Whole plan (sent_in ts) to.room = turns_whole calling logs plan [] (both host (new_room contexts)) ts to (new_whole plan contexts) turned in
        let none : to.room.hub.sent ≡ [] = turns_empty calling logs plan (both host (new_room contexts)) ts to refl turned in
        down_by plan n (client_traffic n (sent_in ts)) to.room
        (subst (λ (t : List Traffic). LineUnder plan n t to.room.reading to.room.jobs (held_on n to.room.lines)) (ap (λ l. client_traffic n (sent_in ts ++ l)) none ∙ ap (client_traffic n) (append-nil (sent_in ts))) (all.0 n low).1)
    by_line true high =
        let up = callouts_go_up H calling plan contexts host ts to n high logs turned in
        none_down plan (line_in n to.room.lines) (client_traffic n (sent_in ts)) up.0 up.1

-- ---- of a worker, and of the product

pub workers_answer : (H S : Type 0) (performs : S → List Made → S → Type 0) → WorkersAnswerOneByOne H S performs
workers_answer H S performs calling exported registering config who seed host sent to n http logs worked =
    let from : Standing H = new_worker exported registering config who seed host in
    let r : Run calling from sent to = worked_run calling performs from to sent http worked in
    subst (λ (plan : Plan). GoesDownBy plan (line_in n to.state.room.lines) (client_traffic n sent)) (sym (ap rules_of r.setting))
    (subst (λ (l : List Sent). GoesDownBy (rules_of from.setting) (line_in n to.state.room.lines) (client_traffic n l)) r.sends
    (responses_go_down H calling (rules_of from.setting) (contexts_of config seed) host r.turns to.state n logs r.run))

pub responses_of_the_product : (S : Type 0) (performs : S → List Made → S → Type 0) → ResponsesOfTheProductGoDown S performs
responses_of_the_product S performs config who seed host sent to n http worked =
    workers_answer Vms S performs slots.calling slots.exported_in slots.registering_in config who seed host sent to n http machines_write_logs worked
