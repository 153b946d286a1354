-- Whole turns of a worker of a configuration without streams are turns, as they are defined.
use Rattle.std.proofs.Common.{◌≡◌, List, [], refl, ap, ◌∙◌, subst}
use Rattle.filter_host.specs.Called.{Calling}
use Rattle.filter_host.specs.Course.{Course, ends, Reaches}
use Rattle.gate_io.specs.Events.{Obeys}
use Rattle.gate_io.specs.declared.passed.Wants.{Wants}
use Rattle.store_model.specs.Made.{Made}
use Rattle.worker_model.specs.Making.{new_worker}
use Rattle.worker_model.specs.Plan.{Plan}
use Rattle.worker_model.specs.State.{Setting, Standing, rules_of}
use Rattle.worker_model.specs.Turn.{Outcome, outcome}
use Rattle.worker_model.proofs.Resting.{whole_rests}
use Rattle.streams_model.proofs.Http.{turn_is, wants_is, whole_is}
use Rattle.law_reading.specs.Limits.{AreWanted}
use Rattle.law_reading.specs.Wholly.{Worked, no_turn, a_turn, Obeyed, none_heard, one_heard, WorkersReadWhatCame, WorkersLeaveLittleUnread}
use Rattle.law_reading.specs.Turns.{AreWhole, IsAtRest, OneTurn, Turns}
use Rattle.law_reading.proofs.Limits.{unread_stays_short}
use Rattle.law_reading.proofs.Since.{lines_read}

pub worked_turns : {H S : Type 0} (calling : Calling H) (performs : S → List Made → S → Type 0) (from to : Standing H) (turns : List (OneTurn H)) → from.setting.config.tcp ≡ []
    → Worked calling performs from turns to → Turns calling (rules_of from.setting) from.state turns to.state
worked_turns calling performs from to turns http (no_turn f) = refl
worked_turns calling performs from to turns http (a_turn stop s t old new f mid l more w same later) = (
  subst (λ (c : Course (Outcome _)). Reaches c w.goes.met (ends (outcome mid.state w.sent))) (turn_is calling (rules_of from.setting) from.state w.event http) w.goes.reaches,
  subst (λ (plan : Plan). Turns calling plan mid.state more to.state) (ap rules_of same) (worked_turns calling performs mid to more (ap (λ (x : Setting). x.config.tcp) same ∙ http) later),
)

-- and each of them came to rest
worked_whole : {H S : Type 0} (calling : Calling H) (performs : S → List Made → S → Type 0) (from to : Standing H) (turns : List (OneTurn H)) → from.setting.config.tcp ≡ []
    → Worked calling performs from turns to → IsAtRest from.state.room → AreWhole turns
worked_whole calling performs from to turns http (no_turn f) before = tt
worked_whole calling performs from to turns http (a_turn stop s t old new f mid l more w same later) before =
    let after : IsAtRest mid.state.room = whole_rests calling performs stop s t old new from mid (whole_is calling performs stop s old from mid t new http w) before in
    (after, worked_whole calling performs mid to more (ap (λ (x : Setting). x.config.tcp) same ∙ http) later after)

pub workers_read : (H S : Type 0) (performs : S → List Made → S → Type 0) → WorkersReadWhatCame H S performs
workers_read H S performs calling exported registering config who seed host turns to n l http worked there =
    let from : Standing H = new_worker exported registering config who seed host in
    lines_read H calling (rules_of from.setting) config seed host turns to.state n l (worked_turns calling performs from to turns http worked)
    (worked_whole calling performs from to turns http worked refl) there

-- such turns are turns
pub obeyed_worked : {H S : Type 0} (calling : Calling H) (performs : S → List Made → S → Type 0) (from to : Standing H) (turns : List (OneTurn H)) → Obeyed calling performs from turns to
    → Worked calling performs from turns to
obeyed_worked calling performs from to turns (none_heard f) = no_turn from
obeyed_worked calling performs from to turns (one_heard stop before after s t old new f mid l more w heard same later) =
    a_turn stop s t old new from mid to more w same (obeyed_worked calling performs mid to more later)

-- and each event is one that the worker asks for
obeyed_wanted : {H S : Type 0} (calling : Calling H) (performs : S → List Made → S → Type 0) (from to : Standing H) (turns : List (OneTurn H)) → from.setting.config.tcp ≡ []
    → Obeyed calling performs from turns to → AreWanted (rules_of from.setting) from.state turns
obeyed_wanted calling performs from to turns http (none_heard f) = tt
obeyed_wanted calling performs from to turns http (one_heard stop before after s t old new f mid l more w heard same later) = (
  from.waiting,
  subst (λ (x : Wants). Obeys x w.event.what) (wants_is from http) (heard.obeys refl),
  heard.follows.sized,
  subst (λ (plan : Plan). AreWanted plan mid.state more) (ap rules_of same) (obeyed_wanted calling performs mid to more (ap (λ (x : Setting). x.config.tcp) same ∙ http) later),
)

pub little_unread : (H S : Type 0) (performs : S → List Made → S → Type 0) → WorkersLeaveLittleUnread H S performs
little_unread H S performs calling exported registering config who seed host turns to l http obeyed there =
    let from : Standing H = new_worker exported registering config who seed host in
    let worked = obeyed_worked calling performs from to turns obeyed in
    unread_stays_short H calling (rules_of from.setting) config seed host turns to.state l
    (worked_turns calling performs from to turns http worked) (worked_whole calling performs from to turns http worked refl) (obeyed_wanted calling performs from to turns http obeyed) there
