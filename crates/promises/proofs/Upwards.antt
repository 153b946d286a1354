-- The laws on what goes up, and on the lines of callouts, hold of the lives of the headline.
use Rattle.std.proofs.Common.{◌≡◌, List, [], ◌∷◌, ◌++◌, map, refl, ap, ◌∙◌, subst}
use Rattle.filter_host.specs.Called.{Calling}
use Rattle.filter_host.specs.Course.{Course, ends, Reaches}
use Rattle.law_callouts.specs.GoingOut.{GoesOut, WorkersGoOutOnce}
use Rattle.law_exchange.specs.Traffic.{up_traffic}
use Rattle.gate_io.specs.declared.event.Sent.{Sent}
use Rattle.law_lines.specs.Laws.{RequestsGoUpOneByOne}
use Rattle.law_lines.specs.Logs.{WriteLogs}
use Rattle.law_lines.specs.Requests.{GoesUpBy}
use Rattle.law_lines.specs.Turns as lines
use Rattle.law_meaning.specs.Turns.{MeaningsAreTurns, Turn, Turns}
use Rattle.law_vms.specs.MadeVms.{MadeVmsAreInPlace}
use Rattle.send_queue.specs.Turns.{all_sent}
use Rattle.streams_model.proofs.Http.{turn_is}
use Rattle.vm_host.specs.Slots.{calling}
use Rattle.vm_host.specs.declared.slots.Vms.{Vms}
use Rattle.worker_model.specs.Making.{contexts_of}
use Rattle.worker_model.specs.Plan.{Plan}
use Rattle.worker_model.specs.State.{rules_of}
use Rattle.worker_model.specs.Steps.{Both, exchange_on}
use Rattle.worker_model.specs.Turn.{Outcome}
use Rattle.worker_model.specs.Turned.{one_turn}
use Rattle.promises.specs.Lines.{LivesGoUpOneByOne, LivesSendCalloutsOnce}
use Rattle.promises.specs.Replays.{first_of}

module _ {H : Type 0} (calling : Calling H) (plan : Plan) where
  -- the turns of a meaning in the form of the laws on lines
  done_of : Turn H → lines.Done H
  done_of t = record { event = t.event; met = t.met; end = t.end }

  as_done : (from to : Both H) (turns : List (Turn H)) → plan.tcp ≡ [] → Turns calling plan from turns to → lines.Turns calling plan from (map done_of turns) to
  unfolding done_of
  as_done from to [] http h = h
  as_done from to (t ∷ turns) http h =
      (subst (λ (c : Course (Outcome H)). Reaches c t.met (ends t.end)) (turn_is calling plan from t.event http) h.0, as_done t.end.state to turns http h.1)

  sends : (turns : List (Turn H)) → lines.sent_in (map done_of turns) ≡ all_sent (map (λ (t : Turn H). one_turn t.event t.end.sent) turns)
  unfolding done_of
  sends [] = refl
  sends (t ∷ turns) = ap (λ (l : List Sent). t.end.sent ++ l) (sends turns)

pub lives_go_up : MeaningsAreTurns Vms → RequestsGoUpOneByOne Vms → WriteLogs calling → LivesGoUpOneByOne
lives_go_up are law logs config who seed life n http low w =
    let first = first_of config who seed in
    let plan = rules_of first.setting in
    let far = are calling plan first.state life.events life.met _ w.turns.means in
    let up = law calling plan (contexts_of config seed) first.state.host (map (done_of calling plan) far.turns) w.turns.state n low logs (as_done calling plan first.state w.turns.state far.turns http far.chain) in
    subst (λ (sent : List Sent). GoesUpBy plan n w.turns.state.room (exchange_on n w.turns.state.room) (up_traffic n sent)) (sends calling plan far.turns ∙ ap all_sent far.sends) up

pub lives_send_callouts : MeaningsAreTurns Vms → WorkersGoOutOnce → MadeVmsAreInPlace → LivesSendCalloutsOnce
lives_send_callouts are law made config who seed life id http w =
    let first = first_of config who seed in
    let plan = rules_of first.setting in
    let far = are calling plan first.state life.events life.met _ w.turns.means in
    let out = law plan config seed first.state.host (map (done_of calling plan) far.turns) w.turns.state id (made.placed config.vms) (as_done calling plan first.state w.turns.state far.turns http far.chain) in
    subst (λ (sent : List Sent). GoesOut id w.turns.state.room sent) (sends calling plan far.turns ∙ ap all_sent far.sends) out
