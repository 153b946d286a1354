-- Whole turns of a worker of a configuration without streams are turns, as they are defined.
use Rattle.std.proofs.Common.{◌≡◌, List, [], ◌∷◌, ◌++◌, refl, ap, ◌∙◌, sym, subst}
use Rattle.filter_host.specs.Called.{Calling}
use Rattle.filter_host.specs.Course.{Course, ends, Reaches}
use Rattle.law_exchange.specs.Traffic.{up_traffic}
use Rattle.gate_io.specs.declared.event.Sent.{Sent}
use Rattle.store_model.specs.Made.{Made}
use Rattle.worker_model.specs.Making.{contexts_of, new_worker}
use Rattle.worker_model.specs.Plan.{Plan}
use Rattle.worker_model.specs.State.{Setting, Standing, rules_of}
use Rattle.worker_model.specs.Steps.{exchange_on}
use Rattle.worker_model.specs.Turn.{Outcome, outcome}
use Rattle.streams_model.proofs.Http.{turn_is}
use Rattle.law_lines.specs.Laws.{WorkersGoUpOneByOne}
use Rattle.law_lines.specs.Requests.{GoesUpBy}
use Rattle.law_lines.specs.Turns.{Done, Turns, Worked, no_turn, a_turn, sent_in}
use Rattle.law_lines.proofs.Turning.{all_go_up_one_by_one}

-- the turns, what they send, and the setting
pub record Run {H : Type 0} (calling : Calling H) (from : Standing H) (sent : List Sent) (to : Standing H) : Type 0 where
  pub turns : List (Done H)
  pub run : Turns calling (rules_of from.setting) from.state turns to.state
  pub sends : sent_in turns ≡ sent
  pub setting : to.setting ≡ from.setting

pub worked_run : {H S : Type 0} (calling : Calling H) (performs : S → List Made → S → Type 0) (from to : Standing H) (sent : List Sent) → from.setting.config.tcp ≡ []
    → Worked calling performs from sent to → Run calling from sent to
worked_run calling performs from to sent http (no_turn f) = record { turns = []; run = refl; sends = refl; setting = refl }
worked_run calling performs from to sent http (a_turn stop s t old new f mid l more w same later) =
    let r : Run calling mid more to = worked_run calling performs mid to more (ap (λ (x : Setting). x.config.tcp) same ∙ http) later in
    let first = subst (λ (c : Course (Outcome _)). Reaches c w.goes.met (ends (outcome mid.state w.sent))) (turn_is calling (rules_of from.setting) from.state w.event http) w.goes.reaches in
    let one : Done _ = record { event = w.event; met = w.goes.met; end = outcome mid.state w.sent } in
    record {
      turns = one ∷ r.turns;
      run = (first, subst (λ (plan : Plan). Turns calling plan mid.state r.turns to.state) (ap rules_of same) r.run);
      sends = ap (λ l. w.sent ++ l) r.sends;
      setting = r.setting ∙ same;
    }

pub workers_go_up : (H S : Type 0) (performs : S → List Made → S → Type 0) → WorkersGoUpOneByOne H S performs
workers_go_up H S performs calling exported registering config who seed host sent to n http low logs worked =
    let from : Standing H = new_worker exported registering config who seed host in
    let r : Run calling from sent to = worked_run calling performs from to sent http worked in
    subst (λ (plan : Plan). GoesUpBy plan n to.state.room (exchange_on n to.state.room) (up_traffic n sent)) (sym (ap rules_of r.setting))
    (subst (λ (l : List Sent). GoesUpBy (rules_of from.setting) n to.state.room (exchange_on n to.state.room) (up_traffic n l)) r.sends
    (all_go_up_one_by_one H calling (rules_of from.setting) (contexts_of config seed) host r.turns to.state n low logs r.run))
