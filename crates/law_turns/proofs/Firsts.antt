-- An event that comes first; and one in front of which something is due, by computation.
use Rattle.std.proofs.Common.{◌≡◌, ℕ, suc, ◌+◌, ◌==◌, ◌≤◌, Bool, true, false, List, [], ◌∷◌, ◌++◌, map, Option, None, Some, refl, ap, ◌∙◌, arith}
use Rattle.std.specs.Prelude.{is_some, if◌then◌else◌}
use Rattle.std.specs.List.{list_any, position}
use Rattle.std.specs.Fmt.{digits}
use Rattle.callouts.specs.Callouts.{callout_at, is_of_call, line_in}
use Rattle.filter_host.specs.Called.{Calling}
use Rattle.filter_host.specs.Course.{Course, ends, then_do, heard}
use Rattle.filter_host.specs.Heard.{hands}
use Rattle.gate_io.specs.Events.{is_stop}
use Rattle.gate_io.specs.declared.event.Event.{Event}
use Rattle.h1_model.specs.Moment.{year_from, month_from}
use Rattle.h1_model.specs.Examples.{worked_head}
use Rattle.h1_model.specs.Unread.{head_part}
use Rattle.http_header.specs.Token.{is_token_byte}
use Rattle.httparse.proofs.OnLiterals.{httparse_on_literals}
use Rattle.httpdate.proofs.OnLiterals.{httpdate_on_literals}
use Rattle.matchit.proofs.OnLiterals.{matchit_on_literals}
use Rattle.worker_model.specs.Plan.{Plan}
use Rattle.exchange.specs.Passing.{expire_exchange}
use Rattle.worker_model.specs.Rooms.{all_lines, with_lines, is_any, is_over, is_released, has_move, next_of, moves_or, frees_or, ends_or, begins_or_rests}
use Rattle.worker_model.specs.Settling.{is_rest, settling, settling_step}
use Rattle.worker_model.specs.Steps.{Both, works, take_event, is_late, expire_all}
use Rattle.worker_model.specs.Turn.{Outcome, turn_by, room_for_event, at_moment, outcome_of, fail_jobs, deadline_jobs, most_steps, notices_of, starts_of, vms_in, comes_if}
use Rattle.worker_model.specs.Room.{Room}
use Rattle.worker_model.specs.declared.types.Job.{Job}
use Rattle.worker_model.specs.declared.types.Job.TheVariants as jobs
use Rattle.worker_model.specs.declared.types.Line.{Line}
use Rattle.worker_model.specs.declared.types.Next.{Next}
use Rattle.worker_model.specs.declared.types.Next.TheVariants as next
use Rattle.law_turns.proofs.Answer.{head_is_read, nothing_behind}
use Rattle.law_turns.proofs.Following.{end_by, ends_there, Meets, reaches_by}
use Rattle.law_turns.proofs.Passage.{response_is_read, body_is_read}
use Rattle.law_turns.specs.Answer.{behind_head}
use Rattle.law_turns.specs.Passage.{third_met}
use Rattle.law_turns.specs.Tables.{Call}
use Rattle.law_turns.specs.Firsts.{NothingIsDue, ComesFirst, LateExample, late, late_met, late_sends, first, first_sends, behind, behind_sends}

-- ---- a room in which nothing is to be done but the parts of a turn

abbrev next_by : Bool → Option ℕ → Bool → Option ℕ → Option ℕ → List Job → Next
next_by reading moving working free over agenda =
    if reading then next.Read else moves_or moving (if working then next.Work else frees_or free (ends_or over (begins_or_rests agenda)))

record IsCalm (room : Room) : Type 0 where
  reading : is_some room.reading ≡ false
  moving : position has_move room.lines ≡ None
  free : position (is_released room) room.waits ≡ None
  over : position is_over room.lines ≡ None

record Rests (reading : Bool) (moving : Option ℕ) (working : Bool) (free over : Option ℕ) : Type 0 where
  reads_none : reading ≡ false
  moves_none : moving ≡ None
  works_none : working ≡ false
  frees_none : free ≡ None
  ends_none : over ≡ None

rests_by : (reading : Bool) (moving : Option ℕ) (working : Bool) (free over : Option ℕ) (agenda : List Job) → is_rest (next_by reading moving working free over agenda) ≡ true → Rests reading moving working free over
rests_by true moving working free over agenda h = absurd (cc)
rests_by false (Some place) working free over agenda h = absurd (cc)
rests_by false None true free over agenda h = absurd (cc)
rests_by false None false (Some at) over agenda h = absurd (cc)
rests_by false None false None (Some place) agenda h = absurd (cc)
rests_by false None false None None agenda h = record { reads_none = refl; moves_none = refl; works_none = refl; frees_none = refl; ends_none = refl }

no_jobs : (js : List Job) → is_any js ≡ false → js ≡ []
no_jobs [] h = refl
no_jobs (job ∷ js) h = absurd (cc)

module _ {H : Type 0} (calling : Calling H) (plan : Plan) where
  -- the next part is taken in hand, and done
  one_part : (room : Room) → IsCalm room → (n : ℕ) (host : H) (job : Job) (later : List Job)
      → settling calling plan (suc (suc n)) host (record room { jobs = []; agenda = job ∷ later })
      ≡ then_do (works calling plan job host (record room { jobs = []; agenda = later })) (λ b. settling calling plan n b.host b.room)
  one_part room calm n host job later =
      let begins : next_of (record room { jobs = []; agenda = job ∷ later }) ≡ next.Begin =
      (λ i. next_by (calm.reading i) (calm.moving i) false (calm.free i) (calm.over i) (job ∷ later)) in
      let goes : next_of (record room { jobs = job ∷ []; agenda = later }) ≡ next.Work =
      (λ i. next_by (calm.reading i) (calm.moving i) true (position (is_released room) room.waits) (position is_over room.lines) later) in
      settling_step calling plan (suc n) next.Begin host (record room { jobs = []; agenda = job ∷ later }) begins refl
      ∙ settling_step calling plan n next.Work host (record room { jobs = job ∷ []; agenda = later }) goes refl

  -- deadlines, of which none is due
  no_deadline : (room : Room) → list_any (is_late room.hub.moment) room.lines ≡ false → expire_all room ≡ room
  no_deadline room h = ap (λ (b : Bool). if b then with_lines room (all_lines expire_exchange room.lines room.hub) else room) h

  expired : (room : Room) → IsCalm room → list_any (is_late room.hub.moment) room.lines ≡ false → (n : ℕ) (host : H) (later : List Job)
      → settling calling plan (suc (suc n)) host (record room { jobs = []; agenda = jobs.Expire ∷ later }) ≡ settling calling plan n host (record room { jobs = []; agenda = later })
  expired room calm none n host later =
      one_part room calm n host jobs.Expire later
      ∙ ap (λ (r : Room). settling calling plan n host r) (no_deadline (record room { jobs = []; agenda = later }) none)

  record Left (room : Room) (host : H) (e : Event) (later : List Job) (course : Course (Both H)) : Type 0 where
    left : ℕ
    many : most_steps ≤ left + 4
    is : course ≡ settling calling plan left host (take_event e.what (record room { jobs = []; agenda = later }))

  with_deadlines : (b : Bool) (room : Room) → IsCalm room → list_any (is_late room.hub.moment) room.lines ≡ false → (host : H) (e : Event) (later : List Job)
      → Left room host e later (settling calling plan most_steps host (record room { jobs = []; agenda = (if b then [] else jobs.Expire ∷ []) ++ (jobs.Happen e.what ∷ later) }))
  with_deadlines true room calm none host e later = record {
    left = 18446744073709551613;
    many = omega arith;
    is = one_part room calm 18446744073709551613 host (jobs.Happen e.what) later;
  }
  with_deadlines false room calm none host e later = record {
    left = 18446744073709551611;
    many = omega arith;
    is = expired room calm none 18446744073709551613 host (jobs.Happen e.what ∷ later) ∙ one_part room calm 18446744073709551611 host (jobs.Happen e.what) later;
  }

  pub event_first : (from : Both H) (e : Event) → is_stop e.what ≡ false → is_of_call (line_in e.what) ≡ false → NothingIsDue e.now from.room → ComesFirst calling plan from e
  event_first from e stop low none =
      let room : Room = from.room in
      let r = rests_by (is_some room.reading) (position has_move room.lines) (is_any room.jobs) (position (is_released room) room.waits) (position is_over room.lines) room.agenda none.at_rest in
      let calm : Room = record (at_moment e.now room) { is_begun = true } in
      let is_calm : IsCalm calm = record { reading = r.reads_none; moving = r.moves_none; free = r.frees_none; over = r.ends_none } in
      let later : List Job = notices_of plan (vms_in room) in
      let facing_is : room_for_event plan e room ≡ record calm { jobs = []; agenda = deadline_jobs plan ++ (jobs.Happen e.what ∷ later) } =
      (λ i. record calm {
        jobs = no_jobs room.jobs r.works_none i;
        agenda = (if none.begun i then [] else starts_of (vms_in room) room.hub.contexts.plugins) ++ (none.no_tick i ++ (deadline_jobs plan ++ (fail_jobs (none.no_call i) ++ ((if low i then comes_if (callout_at (line_in e.what) room.calls) e.what else jobs.Happen e.what ∷ []) ++ later))));
      }) in
      let l : Left calm from.host e later (settling calling plan most_steps from.host (record calm { jobs = []; agenda = deadline_jobs plan ++ (jobs.Happen e.what ∷ later) })) =
      with_deadlines (plan.deadline == 0) calm is_calm none.no_deadline from.host e later in
      record {
        left = l.left;
        many = l.many;
        course =
            ap (λ (b : Bool). turn_by calling plan b from e) stop
            ∙ ap (λ (x : Room). then_do (settling calling plan most_steps from.host x) (λ b. ends (outcome_of b))) facing_is
            ∙ ap (λ (p : Course (Both H)). then_do p (λ b. ends (outcome_of b))) l.is;
      }

-- ---- by computation

it_ends : ends_there late_met late ≡ true
unfolding settling matchit_on_literals is_token_byte
it_ends = refl

it_meets : Meets late_met late
unfolding settling matchit_on_literals is_token_byte
it_meets = (head_is_read, (response_is_read, (body_is_read, (nothing_behind, tt))))

it_asks : (end_by late_met late).state.host ≡ []
unfolding settling matchit_on_literals is_token_byte
it_asks = refl

it_sends : (end_by late_met late).sent ≡ late_sends
unfolding settling httparse_on_literals httpdate_on_literals digits year_from month_from matchit_on_literals is_token_byte
it_sends = refl

it_leaves : map (λ (l : Line). l.number) (end_by late_met late).state.room.lines ≡ 1 ∷ []
unfolding settling matchit_on_literals is_token_byte
it_leaves = refl

first_ends : ends_there (heard (hands (head_part worked_head) behind_head) ∷ []) first ≡ true
unfolding settling matchit_on_literals is_token_byte
first_ends = refl

first_meets : Meets (heard (hands (head_part worked_head) behind_head) ∷ []) first
unfolding settling matchit_on_literals is_token_byte
first_meets = (head_is_read, tt)

first_asks : (end_by (heard (hands (head_part worked_head) behind_head) ∷ []) first).state.host ≡ []
unfolding settling matchit_on_literals is_token_byte
first_asks = refl

first_hands : (end_by (heard (hands (head_part worked_head) behind_head) ∷ []) first).sent ≡ first_sends
unfolding settling httparse_on_literals httpdate_on_literals digits year_from month_from matchit_on_literals is_token_byte
first_hands = refl

first_leaves : map (λ (l : Line). l.number) (end_by (heard (hands (head_part worked_head) behind_head) ∷ []) first).state.room.lines ≡ 1 ∷ []
unfolding settling matchit_on_literals is_token_byte
first_leaves = refl

first_due : NothingIsDue 1000000001 (end_by (heard (hands (head_part worked_head) behind_head) ∷ []) first).state.room
unfolding settling matchit_on_literals is_token_byte
first_due = record { begun = refl; at_rest = refl; no_tick = refl; no_deadline = refl; no_call = refl }

-- the turn after that one
abbrev then_late : Course (Outcome (List Call))
then_late = behind (end_by (heard (hands (head_part worked_head) behind_head) ∷ []) first).state

behind_ends : ends_there third_met then_late ≡ true
unfolding settling matchit_on_literals is_token_byte
behind_ends = refl

behind_meets : Meets third_met then_late
unfolding settling matchit_on_literals is_token_byte
behind_meets = (response_is_read, (body_is_read, (nothing_behind, tt)))

behind_asks : (end_by third_met then_late).state.host ≡ []
unfolding settling matchit_on_literals is_token_byte
behind_asks = refl

behind_hands : (end_by third_met then_late).sent ≡ behind_sends
unfolding settling httparse_on_literals httpdate_on_literals digits year_from month_from matchit_on_literals is_token_byte
behind_hands = refl

behind_leaves : map (λ (l : Line). l.number) (end_by third_met then_late).state.room.lines ≡ 1 ∷ []
unfolding settling matchit_on_literals is_token_byte
behind_leaves = refl

pub late_example : LateExample
late_example = record {
  at_once = record { end = end_by late_met late; reaches = reaches_by late_met late it_ends it_meets; called = it_asks; hands_over = it_sends; leaves = it_leaves };
  apart = record {
    end = end_by (heard (hands (head_part worked_head) behind_head) ∷ []) first;
    reaches = reaches_by (heard (hands (head_part worked_head) behind_head) ∷ []) first first_ends first_meets;
    called = first_asks;
    hands_over = first_hands;
    leaves = first_leaves;
  };
  nothing_due = first_due;
  taken = record { end = end_by third_met then_late; reaches = reaches_by third_met then_late behind_ends behind_meets; called = behind_asks; hands_over = behind_hands; leaves = behind_leaves };
}
