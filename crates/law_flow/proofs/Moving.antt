-- A step that moves a direction comes to the end of its move.
use Rattle.std.proofs.Common.{◌≡◌, ℕ, Bool, true, false, List, [], ◌∷◌, ap, ◌∙◌, sym, refl, subst}
use Rattle.std.specs.Prelude.{Option, Some, slice_get, slice_set, option_map}
use Rattle.contexts.specs.declared.parts.Contexts.{Contexts}
use Rattle.filter_host.specs.Called.{Called, Calling}
use Rattle.filter_host.specs.Course.{Course, ends, asks, measures, then_do, runs_then, Met, called, measured, heard, Reaches}
use Rattle.filter_host.specs.declared.host.CallbackEnd.{CallbackEnd}
use Rattle.exchange.specs.declared.types.Exchange.{Exchange}
use Rattle.exchange.specs.declared.types.Hub.{Hub}
use Rattle.exchange.specs.Answering.{with_held}
use Rattle.exchange.specs.Passing.{chain_of, with_chain}
use Rattle.filter_chain.specs.declared.stage.Stage.{Stage}
use Rattle.filter_chain.specs.declared.item.Asking.{Asking}
use Rattle.filter_chain.specs.Chains.{asked}
use Rattle.store_model.specs.Program.{Program, done, ask, measure}
use Rattle.worker_model.specs.Room.{Room}
use Rattle.worker_model.specs.declared.types.Asked.{Asked}
use Rattle.worker_model.specs.declared.types.Job.{Job}
use Rattle.worker_model.specs.declared.types.Line.{Line}
use Rattle.worker_model.specs.declared.types.Owner.TheVariants as owns
use Rattle.worker_model.specs.Moves.{asks_stage, asks_chain, asks_with, asks_in, asks_back, asks_at}
use Rattle.worker_model.specs.Rooms.{with_lines, take_callback_end, value_of_end}
use Rattle.worker_model.specs.Steps.{Both, both, Answered, callback_result, apply_stage_action, continue_with, moved_with, move_at, works_first}
use Rattle.law_flow.specs.Deaths.{DeathsEndMoves}
use Rattle.law_flow.specs.Elsewhere.{asked_program}
use Rattle.law_flow.specs.Rooms.{IsAsked, asked_exchange, question}
use Rattle.law_flow.specs.Steps.{told_count, callback_program, MovesAreSteps, PutsAreSteps}

-- ---- courses of programs

pub then_runs : {A B C : Type 0} (p : Program A) (f : A → Course B) (g : B → Course C) → then_do (runs_then p f) g ≡ runs_then p (λ a. then_do (f a) g)
then_runs (done a) f g = refl
then_runs (ask vm call k) f g = λ i. asks vm call (λ r. then_runs (k r) f g i)
then_runs (measure vm call k) f g = λ i. measures vm call (λ r. then_runs (k r) f g i)

pub record Ran {A B : Type 0} (p : Program A) (h : A → B) (ms : List Met) (b : B) : Type 0 where
  pub end : A
  pub reached : Reaches (runs_then p ends) ms (ends end)
  pub is : b ≡ h end

pub ran : {A B : Type 0} (p : Program A) (h : A → B) (ms : List Met) (b : B) → Reaches (runs_then p (λ a. ends (h a))) ms (ends b) → Ran p h ms b
ran (done a) h [] b r = record { end = a; reached = refl; is = sym (cc) }
ran (done a) h (m ∷ ms) b r = absurd r
ran (ask vm call k) h [] b r = absurd (cc)
ran (ask vm call k) h (called c ∷ ms) b r =
    let later : Ran (k c.reply) h ms b = ran (k c.reply) h ms b r.2 in
    record { end = later.end; reached = (r.0, r.1, later.reached); is = later.is }
ran (ask vm call k) h (measured c ∷ ms) b r = absurd r
ran (ask vm call k) h (heard c ∷ ms) b r = absurd r
ran (measure vm call k) h [] b r = absurd (cc)
ran (measure vm call k) h (called c ∷ ms) b r = absurd r
ran (measure vm call k) h (measured c ∷ ms) b r =
    let later : Ran (k c.reply) h ms b = ran (k c.reply) h ms b r.2 in
    record { end = later.end; reached = (r.0, r.1, later.reached); is = later.is }
ran (measure vm call k) h (heard c ∷ ms) b r = absurd r

-- ---- what is asked

chain_with : (response : Bool) (stages : List Stage) (x : Exchange) → chain_of response (with_chain response stages x) ≡ stages
chain_with false stages x = refl
chain_with true stages x = refl

module _ {response : Bool} {n : ℕ} {x : Exchange} {room : Room} (q : IsAsked response n x room) where
  abbrev pub the_asked : Asked
  the_asked = record { vm = q.stage.vm; context = q.stage.context; response = response; line = n; ask = q.ask; count = told_count q }

  abbrev pub the_lines : List Line
  the_lines = slice_set room.lines q.on.place (record q.on.line { exchange = Some (asked_exchange q) })

  pub asks_is : asks_at q.on.place (slice_get room.lines q.on.place) room.lines room.hub ≡ (Some the_asked, the_lines, with_held q.contexts room.hub)
  asks_is =
      let hub : Hub = room.hub in
      let place : ℕ = q.on.place in
      let line : Line = q.on.line in
      let to : Option Asked × Exchange × Hub → Option Asked × List Line × Hub = λ r. asks_back place room.lines (asks_with line r) in
      let stage : slice_get (chain_of response (asked_exchange q)) q.ask.stage ≡ Some q.stage = ap (λ (l : List Stage). slice_get l q.ask.stage) (chain_with response q.stages x) ∙ q.at in
      ap (λ (l : Option Line). asks_at place l room.lines hub) q.on.at
      ∙ (ap (λ (e : Option Exchange). asks_back place room.lines (asks_in line e hub)) q.on.exchange
      ∙ (ap (λ (r : Bool). to (asks_chain r line.number x hub (asked hub.contexts (chain_of r x)))) q.direction
      ∙ (ap (λ (m : ℕ). to (asks_chain response m x hub (asked hub.contexts (chain_of response x)))) q.on.number
      ∙ (ap (λ (a : Asking × List Stage × Contexts). to (asks_chain response n x hub a)) q.asks
      ∙ ap
      (λ (s : Option Stage).
      to (asks_stage response n q.ask (told_count q) (option_map (λ (t : Stage). (t.vm, t.context)) s), asked_exchange q, with_held q.contexts hub))
      stage))))

-- ---- the step

-- of any stage that is asked
abbrev pub behind_it : {H : Type 0} → Asked → Room → Called H → Both H
behind_it a room c = both c.host (apply_stage_action a (value_of_end c.end) (take_callback_end a.vm (owns.Stage a.context a.response) c.end c.lines c.contexts room))

pub move_ran : {H : Type 0} (calling : Calling H) (place : ℕ) (host : H) (room : Room) (a : Asked) (lines : List Line) (hub : Hub) (ms : List Met) (b : Both H)
    → asks_at place (slice_get room.lines place) room.lines room.hub ≡ (Some a, lines, hub) → Reaches (move_at calling place host room) ms (ends b)
    → Ran (asked_program calling host a (with_lines room (lines, hub))) (behind_it a (with_lines room (lines, hub))) ms b
move_ran calling place host room a lines hub ms b asks_ reaches =
    let room1 : Room = with_lines room (lines, hub) in
    let p : Program (Called _) = asked_program calling host a room1 in
    let f : Called _ → Answered _ = λ c. callback_result (value_of_end c.end) (both c.host (take_callback_end a.vm (owns.Stage a.context a.response) c.end c.lines c.contexts room1)) in
    let is : moved_with calling host room (asks_at place (slice_get room.lines place) room.lines room.hub) ≡ runs_then p (λ c. ends (behind_it a room1 c))
    = ap (moved_with calling host room) asks_ ∙ then_runs p (λ c. ends (f c)) (λ c. ends (continue_with (apply_stage_action a) c)) in
    ran p (behind_it a room1) ms b (subst (λ (k : Course (Both _)). Reaches k ms (ends b)) is reaches)

pub moves_are : (H : Type 0) → MovesAreSteps H
moves_are H = λ calling plan response n x room q host ms b reaches.
    let a : Asked = the_asked q in
    let end : Ran (callback_program calling host q) (behind_it a (question q)) ms b
    = move_ran calling q.on.place host room a (the_lines q) (with_held q.contexts room.hub) ms b (asks_is q) reaches in
    record {
      end = end.end;
      reached = end.reached;
      moves = λ count m.
          end.is
          ∙ ap (λ (e : CallbackEnd). both end.end.host (apply_stage_action a (value_of_end e) (take_callback_end a.vm (owns.Stage a.context a.response) e end.end.lines end.end.contexts (question q)))) m.returned;
    }

pub puts_are : (H : Type 0) → PutsAreSteps H
puts_are H = λ calling plan response n items later host room is. ap (λ (l : List Job). works_first calling plan l host room) is

pub deaths_end_moves : (H : Type 0) → DeathsEndMoves H
deaths_end_moves H = λ calling plan place host room a lines hub ms b asks_ reaches.
    let room1 : Room = with_lines room (lines, hub) in
    let end : Ran (asked_program calling host a room1) (behind_it a room1) ms b = move_ran calling place host room a lines hub ms b asks_ reaches in (
      end.end,
      end.reached,
      λ death is.
          end.is
          ∙ ap (λ (e : CallbackEnd). both end.end.host (apply_stage_action a (value_of_end e) (take_callback_end a.vm (owns.Stage a.context a.response) e end.end.lines end.end.contexts room1))) is,
    )
