-- NO LINE OF A CLIENT HAS A NUMBER FROM 2^31 ON: none is opened, none is read, and nothing is done on one.
use Rattle.std.proofs.Common.{◌≡◌, ℕ, Bool, true, false, List, [], ◌∷◌, ◌++◌, refl, ap, ◌∙◌, sym}
use Rattle.std.proofs.lemmas.List.Elements.{filter-append}
use Rattle.std.specs.List.{list_any}
use Rattle.std.specs.Prelude.{None, Some, filter}
use Rattle.callouts.specs.Callouts.{is_call_line, is_of_call, line_in as event_line}
use Rattle.contexts.specs.declared.parts.Contexts.{Contexts}
use Rattle.filter_host.specs.Called.{Calling}
use Rattle.filter_host.specs.Course.{Course, ends, asks, measures, hears}
use Rattle.filter_host.proofs.Holds.{AllEnds}
use Rattle.gate_io.specs.declared.event.Event.{Event}
use Rattle.gate_io.specs.declared.event.What.{What}
use Rattle.gate_io.specs.declared.event.What.TheVariants as whats
use Rattle.worker_model.specs.Plan.{Plan}
use Rattle.worker_model.specs.Room.{Room}
use Rattle.worker_model.specs.Rooms.{next_of}
use Rattle.worker_model.specs.Steps.{Both, exchange_of_line, exchange_on, is_late, line_in, step}
use Rattle.worker_model.specs.Turn.{agenda_of, at_moment, room_for_event, without_sent}
use Rattle.worker_model.specs.declared.types.Job.{Job}
use Rattle.worker_model.specs.declared.types.Line.{Line}
use Rattle.worker_model.specs.declared.types.ReadBatch.{ReadBatch}
use Rattle.law_lines.specs.Isolation.{lines_on, is_event_of, is_job_of, is_read_of}
use Rattle.law_lines.specs.Logs.{WriteLogs}
use Rattle.law_lines.specs.Turns.{new_room}
use Rattle.law_lines.proofs.Callouts.{client_apart, seen_on}
use Rattle.law_lines.proofs.Isolation.{found_same, step_spares, untouched_by}
use Rattle.law_lines.proofs.Looks.{equal_is}
use Rattle.law_lines.proofs.OtherTurns.{Idle, agenda_else, idle_step, idle_then}
use Rattle.law_lines.proofs.Spared.{Spared, else_none}
use Rattle.law_lines.proofs.Untouched.{not_both}

-- there is none of the number, and nothing is done on one
pub record Unused (n : ℕ) (room : Room) : Type 0 where
  pub none : lines_on n room.lines ≡ []
  pub idle : Idle n room

abbrev pub CallsUnused : Room → Type 0
CallsUnused room = (n : ℕ) → is_call_line n ≡ true → Unused n room

-- what is read is of a client
pub reads_clients : (room : Room) → CallsUnused room → (r : ReadBatch) → room.reading ≡ Some r → is_call_line r.line ≡ false
reads_clients room unused r is = by_test (is_call_line r.line) refl
  where
    by_test : (b : Bool) → is_call_line r.line ≡ b → b ≡ false
    by_test false low = refl
    by_test true high = not_both (is_read_of r.line room.reading) (ap (is_read_of r.line) is ∙ equal_is r.line r.line refl) (unused r.line high).idle.unread

-- and there is no exchange
pub no_line : (n : ℕ) (room : Room) → Unused n room → line_in n room.lines ≡ None
no_line n room u = found_same n [] room.lines u.none

pub no_exchange : (n : ℕ) (room : Room) → Unused n room → exchange_on n room ≡ None
no_exchange n room u = ap exchange_of_line (no_line n room u)

-- ---- a step

-- it leaves such a line so, and sends nothing down on it
pub record StaysUnused (n : ℕ) (room after : Room) : Type 0 where
  pub unused : Unused n after
  pub sent : seen_on n after.hub.sent ≡ seen_on n room.hub.sent

module _ {H : Type 0} (calling : Calling H) (logs : WriteLogs calling) (plan : Plan) (host : H) (room : Room) where
  spared_unused : (n : ℕ) → Unused n room → is_read_of n room.reading ≡ false → (p : Course (Both H)) → AllEnds (λ (b : Both H). Spared n room b.room) p → AllEnds (λ (b : Both H). StaysUnused n room b.room) p
  spared_unused n u quiet (ends b) all =
      let t = untouched_by n room b.room all quiet in
      record { unused = record { none = t.line ∙ u.none; idle = idle_then n room b.room u.idle t }; sent = all.lines.sent }
  spared_unused n u quiet (asks vm call k) all = λ r. spared_unused n u quiet (k r) (all r)
  spared_unused n u quiet (measures vm call k) all = λ r. spared_unused n u quiet (k r) (all r)
  spared_unused n u quiet (hears t k) all = λ h is. spared_unused n u quiet (k h) (all h is)

  pub step_unused : (n : ℕ) → Unused n room → AllEnds (λ (b : Both H). StaysUnused n room b.room) (step calling plan (next_of room) host room)
  step_unused n u =
      let all = step_spares calling logs plan n host room u.idle.free (idle_step n room u.idle) in
      spared_unused n u all.1 (step calling plan (next_of room) host room) all.0

  all_unused : (p : Course (Both H)) → ((n : ℕ) → is_call_line n ≡ true → AllEnds (λ (b : Both H). StaysUnused n room b.room) p) → AllEnds (λ (b : Both H). CallsUnused b.room) p
  all_unused (ends b) each = λ n high. (each n high).unused
  all_unused (asks vm call k) each = λ r. all_unused (k r) (λ n high. each n high r)
  all_unused (measures vm call k) each = λ r. all_unused (k r) (λ n high. each n high r)
  all_unused (hears t k) each = λ h says. all_unused (k h) (λ n high. each n high h says)

  pub steps_unused : CallsUnused room → AllEnds (λ (b : Both H). CallsUnused b.room) (step calling plan (next_of room) host room)
  steps_unused unused = all_unused (step calling plan (next_of room) host room) (λ n high. step_unused n (unused n high))

-- ---- a turn

-- no event on a line of a client is of such a number
event_apart : (n : ℕ) (what : What) → is_call_line n ≡ true → is_of_call (event_line what) ≡ false → is_event_of n what ≡ false
event_apart n (whats.Opened m) high low = client_apart m n low high
event_apart n (whats.Bytes m side bytes) high low = client_apart m n low high
event_apart n (whats.End m side) high low = client_apart m n low high
event_apart n (whats.Gone m side) high low = client_apart m n low high
event_apart n (whats.Joined m) high low = client_apart m n low high
event_apart n (whats.Refused m) high low = client_apart m n low high
event_apart n (whats.Room m side) high low = client_apart m n low high
event_apart n whats.Clock high low = refl
event_apart n whats.Stop high low = refl

first_none : {A : Type 0} (a b : List A) → a ++ b ≡ [] → a ≡ []
first_none [] b is = refl
first_none (x ∷ a) b is = absurd (cc)

pub facing_unused : (plan : Plan) (event : Event) (room : Room) → CallsUnused room → CallsUnused (room_for_event plan event room)
facing_unused plan event room unused n high =
    let u : Unused n room = unused n high in
    let agenda : List Job = agenda_of plan event.what (at_moment event.now room) in
    let before : filter (is_job_of n) room.jobs ≡ [] = first_none (filter (is_job_of n) room.jobs) (filter (is_job_of n) room.agenda) (sym (filter-append (is_job_of n) room.jobs room.agenda) ∙ u.idle.jobless) in
    let later : filter (is_job_of n) agenda ≡ [] = else_none n agenda (agenda_else n plan event.what (at_moment event.now room) (λ low. event_apart n event.what high low)) in
    record {
      none = u.none;
      idle = record {
        free = u.idle.free;
        unread = u.idle.unread;
        jobless = filter-append (is_job_of n) room.jobs agenda ∙ (λ i. before i ++ later i);
        unended = u.idle.unended;
        in_time = ap (λ (ls : List Line). list_any (is_late event.now) ls) u.none;
      };
    }

pub emptied_unused : (room : Room) → CallsUnused room → CallsUnused (without_sent room)
emptied_unused room unused n high =
    let u : Unused n room = unused n high in
    record { none = u.none; idle = record { free = u.idle.free; unread = u.idle.unread; jobless = u.idle.jobless; unended = u.idle.unended; in_time = u.idle.in_time } }

pub new_unused : (contexts : Contexts) → CallsUnused (new_room contexts)
new_unused contexts n high = record { none = refl; idle = record { free = tt; unread = refl; jobless = refl; unended = refl; in_time = refl } }
