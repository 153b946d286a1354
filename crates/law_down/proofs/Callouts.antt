-- On the line of a callout nothing goes down, and nobody is served.
use Rattle.std.proofs.Common.{◌≡◌, ℕ, Bool, true, false, cond, List, [], ◌∷◌, ◌++◌, map, refl, ap, ◌∙◌, sym, if◌then◌else◌}
use Rattle.std.proofs.lemmas.List.{append-nil}
use Rattle.callouts.specs.Callouts.{is_call_line}
use Rattle.contexts.specs.declared.parts.Contexts.{Contexts}
use Rattle.filter_host.specs.Called.{Calling}
use Rattle.filter_host.specs.Course.{Course, ends, asks, measures, hears}
use Rattle.filter_host.proofs.Holds.{AllEnds}
use Rattle.gate_io.specs.declared.event.Event.{Event}
use Rattle.gate_io.specs.declared.event.Sent.{Sent}
use Rattle.gate_io.specs.declared.event.Sent.TheVariants as to
use Rattle.gate_io.specs.declared.event.Side.TheVariants.{Down, Up}
use Rattle.law_exchange.specs.Traffic.{Traffic, byte, closes as closing}
use Rattle.send_queue.specs.Joined.{join_neighbours}
use Rattle.worker_model.specs.Plan.{Plan}
use Rattle.worker_model.specs.Room.{Room}
use Rattle.worker_model.specs.Rooms.{next_of}
use Rattle.worker_model.specs.Steps.{Both, step}
use Rattle.worker_model.specs.Turn.{room_for_event, without_sent}
use Rattle.law_lines.specs.Clients.{client_traffic, client_of}
use Rattle.law_lines.specs.Logs.{WriteLogs}
use Rattle.law_lines.specs.Turns.{new_room}
use Rattle.law_lines.proofs.Callouts.{is_seen_on, seen_on}
use Rattle.law_lines.proofs.Joining.{clients_joined}
use Rattle.law_lines.proofs.Unused.{CallsUnused, Unused, StaysUnused, step_unused, facing_unused, emptied_unused, new_unused}
use Rattle.law_down.proofs.Ordering.{turned}
use Rattle.law_down.proofs.Sending.{clients_join}

-- ---- what goes down is seen

unseen_none : (n : ℕ) (s : Sent) → is_seen_on n s ≡ false → client_of n s ≡ []
unseen_none n (to.Connect m) is = refl
unseen_none n (to.Bytes m Down bytes) is = ap (λ (b : Bool). if b then map byte bytes else []) (turned n m ∙ is)
unseen_none n (to.Bytes m Up bytes) is = refl
unseen_none n (to.Close m Down) is = ap (λ (b : Bool). if b then closing ∷ [] else []) (turned n m ∙ is)
unseen_none n (to.Close m Up) is = refl
unseen_none n (to.Log level text) is = refl

client_seen : (n : ℕ) (sent : List Sent) → client_traffic n (seen_on n sent) ≡ client_traffic n sent
client_seen n [] = refl
client_seen n (s ∷ sent) = by_test (is_seen_on n s) refl (client_seen n sent)
  where
    by_test : (b : Bool) → is_seen_on n s ≡ b → client_traffic n (seen_on n sent) ≡ client_traffic n sent → client_traffic n (cond b (s ∷ seen_on n sent) (seen_on n sent)) ≡ client_of n s ++ client_traffic n sent
    by_test true is later = ap (λ (t : List Traffic). client_of n s ++ t) later
    by_test false is later = later ∙ ap (λ (t : List Traffic). t ++ client_traffic n sent) (sym (unseen_none n s is))

-- ---- a line that no client has

-- there is none of the number, and nothing went down on one
abbrev pub IsSilent : List Sent → ℕ → Room → Type 0
IsSilent past n room = Unused n room × (client_traffic n (past ++ room.hub.sent) ≡ [])

abbrev pub CallsSilent : List Sent → Room → Type 0
CallsSilent past room = (n : ℕ) → is_call_line n ≡ true → IsSilent past n room

pub silent_unused : (past : List Sent) (room : Room) → CallsSilent past room → CallsUnused room
silent_unused past room silent n high = (silent n high).0

module _ {H : Type 0} (calling : Calling H) (logs : WriteLogs calling) (plan : Plan) (past : List Sent) (host : H) (room : Room) where
  stays_silent : (n : ℕ) (after : Room) → IsSilent past n room → StaysUnused n room after → IsSilent past n after
  stays_silent n after silent stays = (
    stays.unused,
    clients_join n past after.hub.sent
        ∙ (ap (λ (t : List Traffic). client_traffic n past ++ t) (sym (client_seen n after.hub.sent) ∙ (ap (client_traffic n) stays.sent ∙ client_seen n room.hub.sent))
        ∙ (sym (clients_join n past room.hub.sent) ∙ silent.1)),
  )

  all_silent : CallsSilent past room → (p : Course (Both H)) → ((n : ℕ) → is_call_line n ≡ true → AllEnds (λ (b : Both H). StaysUnused n room b.room) p) → AllEnds (λ (b : Both H). CallsSilent past b.room) p
  all_silent silent (ends b) each = λ n high. stays_silent n b.room (silent n high) (each n high)
  all_silent silent (asks vm call k) each = λ r. all_silent silent (k r) (λ n high. each n high r)
  all_silent silent (measures vm call k) each = λ r. all_silent silent (k r) (λ n high. each n high r)
  all_silent silent (hears t k) each = λ h says. all_silent silent (k h) (λ n high. each n high h says)

  pub steps_silent : CallsSilent past room → AllEnds (λ (b : Both H). CallsSilent past b.room) (step calling plan (next_of room) host room)
  steps_silent silent = all_silent silent (step calling plan (next_of room) host room) (λ n high. step_unused calling logs plan host room n (silent n high).0)

-- ---- a turn

pub facing_silent : (plan : Plan) (past : List Sent) (event : Event) (room : Room) → CallsSilent past room → CallsSilent past (room_for_event plan event room)
facing_silent plan past event room silent n high = (facing_unused plan event room (silent_unused past room silent) n high, (silent n high).1)

-- nothing is left to be sent
pub emptied_client : (n : ℕ) (past : List Sent) (room : Room) → client_traffic n ((past ++ join_neighbours room.hub.sent) ++ []) ≡ client_traffic n (past ++ room.hub.sent)
emptied_client n past room =
    ap (client_traffic n) (append-nil (past ++ join_neighbours room.hub.sent))
    ∙ (clients_join n past (join_neighbours room.hub.sent) ∙ (ap (λ t. client_traffic n past ++ t) (clients_joined n room.hub.sent) ∙ sym (clients_join n past room.hub.sent)))

pub emptied_silent : (past : List Sent) (room : Room) → CallsSilent past room → CallsSilent (past ++ join_neighbours room.hub.sent) (without_sent room)
emptied_silent past room silent n high = (emptied_unused room (silent_unused past room silent) n high, emptied_client n past room ∙ (silent n high).1)

pub new_silent : (contexts : Contexts) → CallsSilent [] (new_room contexts)
new_silent contexts n high = (new_unused contexts n high, refl)
