-- The same step of a line without filters does the same in two rooms that agree on it.
use Rattle.std.proofs.Common.{◌≡◌, ℕ, Bool, true, false, not, ◌||◌, ◌&&◌, List, [], ◌∷◌, ◌++◌, length, refl, ap, ◌∙◌, sym, subst, if◌then◌else◌}
use Rattle.std.proofs.lemmas.List.{append-nil}
use Rattle.std.proofs.lemmas.List.Quantifiers.{position-Some}
use Rattle.std.specs.Prelude.{Option, None, Some, is_some, is_none, option_map, nat_lt, slice_get, slice_set, slice_index_or, position, filter, drop}
use Rattle.contexts.specs.declared.parts.Contexts.{Contexts}
use Rattle.contexts.specs.declared.parts.ExchangeEntry as parts
use Rattle.contexts.specs.Creating.{new_exchange as new_part, new_view, open_exchange, placed_at, place_or}
use Rattle.contexts.specs.Reached.{view_at}
use Rattle.filter_host.specs.Called.{Calling}
use Rattle.filter_host.specs.Course.{Course, ends, hears, Met, called, measured, heard, Reaches}
use Rattle.filter_host.specs.Heard.{Heard, hands, halts, Hears}
use Rattle.filter_host.proofs.Holds.{all_reached}
use Rattle.exchange.specs.declared.types.Exchange.{Exchange}
use Rattle.exchange.specs.declared.types.Filter.{Filter}
use Rattle.exchange.specs.declared.types.Hub.{Hub}
use Rattle.exchange.specs.Heads.{is_final, path_of, route_in}
use Rattle.exchange.specs.Leaving.{bytes_sent_to as sending_to}
use Rattle.exchange.specs.Maps.{put_response, with_fields}
use Rattle.exchange.specs.Passing as passing
use Rattle.filter_chain.specs.declared.item.ChainItem.{ChainItem}
use Rattle.filter_chain.specs.declared.item.ChainItem.TheVariants as items
use Rattle.gate_io.specs.declared.event.Sent.{Sent}
use Rattle.gate_io.specs.declared.event.Sent.TheVariants as to
use Rattle.gate_io.specs.declared.event.Side.TheVariants.{Down, Up}
use Rattle.gate_io.specs.declared.event.What.{What}
use Rattle.gate_io.specs.declared.event.What.TheVariants as whats
use Rattle.header_maps.specs.Headers.{Headers}
use Rattle.header_maps.specs.Operations.{no_headers}
use Rattle.h1_model.specs.Head.{Head}
use Rattle.h1_model.specs.Messages.{Stop, rest, over, refusal}
use Rattle.h1_model.specs.Unread.{Part, head_part, interim_part, piece, trailer_part, Reading}
use Rattle.worker_model.specs.Room.{Room}
use Rattle.worker_model.specs.declared.types.Job.{Job}
use Rattle.worker_model.specs.declared.types.Job.TheVariants as jobs
use Rattle.worker_model.specs.declared.types.Line.{Line}
use Rattle.worker_model.specs.declared.types.Next.{Next}
use Rattle.worker_model.specs.declared.types.Next.TheVariants as next
use Rattle.worker_model.specs.declared.types.ReadBatch.{ReadBatch}
use Rattle.worker_model.specs.Moves.{ended_in, ended_back, ended_at}
use Rattle.worker_model.specs.Plan.{Plan}
use Rattle.worker_model.specs.Rooms.{place_in, with_contexts, room_with_sent, on_number, next_of}
use Rattle.worker_model.specs.Steps.{Both, both, with_jobs_first, change_line, exchange_of_line, exchange_on, line_in, line_at, line_at_place, open_filter, filter_at, create_filter, made_with, enter_stages, filters_of, plugins_at, is_gone, refusal_of, new_exchange, with_exchange, exchange_for, free_place, begin_exchange_on, line_reading, reading_on, read_on, with_reader, is_last, with_read_mark, on_lines, begin_jobs_for, exchange_jobs, begins_with_head, jobs_of, put_jobs, refuse_jobs, end_reading, with_item, take_read_item, with_response_head, in_contexts, head_item, interim_of, put_trailers, take_part, end_of_read, after_heard, drop_line, close_line, read_side, end_line, fixed_answer, refusal_sent, refuse_in, refuse_line, most_lines, accept_line, with_further, side_with_more, is_open, is_answered_in, is_read_in, receive_on, exchange_without_client, line_without_client, lose_client, is_missed, lose_server, take_event, done_jobs, close_up, end_exchange_of, end_with, end_at, run_silent_job, reads_in, reads_next, works, works_first, step}
use Rattle.law_lines.specs.Alike.{LooksAlike, Agree, IsSameStep, in_hand, StepsDependOnTheLine}
use Rattle.law_lines.specs.Isolation.{is_event_of, is_job_of, TakesNoFilters}
use Rattle.law_lines.proofs.AlikeRooms.{Sits, sits, absent, to_once, from_once, Match, Pair, none, bare, full, pair, put_look, looks_none, looks_bare, looks_full, test_same, Did, did_itself, did_then, did_if, did_sends, did_front, did_read, did_number, NotesAlike, notes_exchange, did_line, did_drop, PutsThere, did_contexts, did_insert}
use Rattle.law_lines.proofs.Depends.{placed, Meet, Same, view_then, put_in_alike, refused_alike, enters_alike}
use Rattle.law_lines.proofs.Looks.{look, line_in_is, equal_by, equal_is, IsPlain}
use Rattle.law_lines.proofs.Maps.{set_there, last_there}
use Rattle.law_lines.proofs.OwnSteps.{change_free, further_free, read_free, no_filter_at}
use Rattle.law_lines.proofs.Spared.{change_numbered, further_numbered, lost_numbered, read_numbered}
use Rattle.law_lines.proofs.Untouched.{not_both, free_at, free_set}

-- ---- what happens on the line

module _ (n : ℕ) where
  number_same : (change : ℕ → Exchange → Hub → Exchange × Hub) (a b : Room)
      → ((q : ℕ) (x : Exchange) (hub other : Hub) → IsPlain x → Meet q x hub other → Same q hub other (change n x hub) (change n (placed q x) other)) → Match n a b
      → Did n a (on_number change n a) b (on_number change n b)
  number_same change a b does fit = did_number n change change a b (λ q x plain meet. does q x a.hub b.hub plain meet) fit

  exchange_note : (g : Exchange → Exchange) (a b : Room) → ((x : Exchange) (q : ℕ) → g (record x { place = q }) ≡ record (g x) { place = q }) → ((x : Exchange) → (g x).place ≡ x.place) → ((x : Exchange) → IsPlain x → IsPlain (g x))
      → Match n a b → Did n a (on_lines (change_line g) n a) b (on_lines (change_line g) n b)
  exchange_note g a b moves stays keeps fit = did_line n (change_line g) a b (change_numbered g) (change_free n g keeps) (notes_exchange g moves stays) fit

  further_alike : (up stops_now : Bool) (bytes : List ℕ) → NotesAlike (side_with_more up stops_now bytes)
  further_alike false stops_now bytes l m h k alike = (ap (λ (z : Line). side_with_more false stops_now bytes z) alike.0, alike.1)
  further_alike true stops_now bytes l m h k alike = notes_exchange (with_further stops_now bytes) (λ x q. refl) (λ x. refl) l m h k alike

  -- what is asked of the line before something comes on it
  abbrev is_taken : (up : Bool) → Option Line → Bool
  is_taken up o = is_open (line_reading up o) && not (up && is_answered_in (exchange_of_line o))

  taken_same : (up : Bool) (a b : Room) → Match n a b → is_taken up (line_in n b.lines) ≡ is_taken up (line_in n a.lines)
  taken_same false a b fit = test_same (is_taken false) n a b fit (λ l x q. refl)
  taken_same true a b fit = test_same (is_taken true) n a b fit (λ l x q. refl)

  read_same : (up : Bool) (a b : Room) → Match n a b → is_read_in up (exchange_of_line (line_in n b.lines)) ≡ is_read_in up (exchange_of_line (line_in n a.lines))
  read_same false a b fit = test_same (λ (o : Option Line). is_read_in false (exchange_of_line o)) n a b fit (λ l x q. refl)
  read_same true a b fit = test_same (λ (o : Option Line). is_read_in true (exchange_of_line o)) n a b fit (λ l x q. refl)

  comes_same : (up stops_now : Bool) (bytes : List ℕ) (a b : Room) → Match n a b → Did n a (receive_on up stops_now bytes n (line_in n a.lines) a) b (receive_on up stops_now bytes n (line_in n b.lines) b)
  comes_same up stops_now bytes a b fit =
      let c : Room = on_lines (side_with_more up stops_now bytes) n a in
      let d : Room = on_lines (side_with_more up stops_now bytes) n b in
      let one : Did n a c b d = did_line n (side_with_more up stops_now bytes) a b (further_numbered up stops_now bytes) (further_free n up stops_now bytes) (further_alike up stops_now bytes) fit in
      did_if n a b (is_taken up (line_in n a.lines)) (is_taken up (line_in n b.lines)) (taken_same up a b fit) _ a _ b
      (λ e. did_if n a b (is_read_in up (exchange_of_line (line_in n a.lines))) (is_read_in up (exchange_of_line (line_in n b.lines))) (read_same up a b fit) (read_side n up c) c (read_side n up d) d
      (λ r. did_then n a c (read_side n up c) b d (read_side n up d) one (did_read n (Some (record { line = n; up = up; batch = [] })) c d one.fit)) (λ r. one))
      (λ e. did_itself n a b fit)

  closes_same : (a b : Room) → Match n a b → Did n a (close_line n a) b (close_line n b)
  closes_same a b fit =
      let one : Did n a (drop_line n a) b (drop_line n b) = did_drop n a b fit in
      did_then n a (drop_line n a) (close_line n a) b (drop_line n b) (close_line n b) one (did_sends n (to.Close n Down ∷ []) (to.Close n Down ∷ []) (drop_line n a) (drop_line n b) refl one.fit)

  lost_alike : NotesAlike line_without_client
  lost_alike l m h k alike =
      let one : LooksAlike (Some (change_line exchange_without_client l)) h (Some (change_line exchange_without_client m)) k = notes_exchange exchange_without_client (λ x q. refl) (λ x. refl) l m h k alike in
      (ap (λ (z : Line). record z { is_gone = true }) one.0, one.1)

  -- where there is a line in both, something of it is the same
  by_line : (P : Option Line → Room) (R : Option Line → Room) (a b : Room) → Match n a b → ((o p : Option Line) → o ≡ line_in n a.lines → p ≡ line_in n b.lines → is_some o ≡ is_some p → Did n a (P o) b (R p)) → Did n a (P (line_in n a.lines)) b (R (line_in n b.lines))
  by_line P R a b fit does = does (line_in n a.lines) (line_in n b.lines) refl refl (sym (test_same (λ (o : Option Line). is_some o) n a b fit (λ l x q. refl)))

  loses_down_same : (a b : Room) → Match n a b → Did n a (lose_client n (line_in n a.lines) a) b (lose_client n (line_in n b.lines) b)
  loses_down_same a b fit = by_line (λ o. lose_client n o a) (λ o. lose_client n o b) a b fit by_lines
    where
      has : Option Line → Bool
      has o = is_some (exchange_of_line o)

      by_lines : (o p : Option Line) → o ≡ line_in n a.lines → p ≡ line_in n b.lines → is_some o ≡ is_some p → Did n a (lose_client n o a) b (lose_client n p b)
      by_lines None None la mb same = did_itself n a b fit
      by_lines None (Some m) la mb same = absurd (cc)
      by_lines (Some l) None la mb same = absurd (cc)
      by_lines (Some l) (Some m) la mb same =
          did_if n a b (is_some l.exchange) (is_some m.exchange) (ap has mb ∙ (test_same has n a b fit (λ z x q. refl) ∙ sym (ap has la))) (on_lines line_without_client n a) (drop_line n a) (on_lines line_without_client n b) (drop_line n b)
          (λ e. did_line n line_without_client a b lost_numbered (λ z f. change_free n exchange_without_client (λ x g. g) z f) lost_alike fit) (λ e. did_drop n a b fit)

  refused_same : (status : ℕ) (a b : Room) → Match n a b → Did n a (on_number (passing.refuse_exchange status) n a) b (on_number (passing.refuse_exchange status) n b)
  refused_same status a b fit = number_same (passing.refuse_exchange status) a b (λ q x hub other plain meet. refused_alike q n status x hub other plain meet) fit

  loses_up_same : (a b : Room) → Match n a b → Did n a (lose_server n (exchange_on n a) a) b (lose_server n (exchange_on n b) b)
  loses_up_same a b fit =
      did_if n a b (is_missed (exchange_on n a)) (is_missed (exchange_on n b)) (test_same (λ (o : Option Line). is_missed (exchange_of_line o)) n a b fit (λ l x q. refl)) (on_number (passing.refuse_exchange 502) n a) a (on_number (passing.refuse_exchange 502) n b) b
      (λ e. refused_same 502 a b fit) (λ e. did_itself n a b fit)

  no_line : (r : Room) → is_some (place_in n r.lines) ≡ false → look n r.lines ≡ None
  no_line r is = by_look (look n r.lines) refl
    where
      by_look : (o : Option Line) → look n r.lines ≡ o → o ≡ None
      by_look None e = refl
      by_look (Some l) e = absurd (not_both (is_some (place_in n r.lines)) (ap (λ (o : Option ℕ). is_some o) (sits n r.lines l e).place) is)

  place_same : (a b : Room) → Match n a b → is_some (place_in n b.lines) ≡ is_some (place_in n a.lines)
  place_same a b fit = by_pair (pair n a b fit)
    where
      there : (r : Room) (l : Line) → look n r.lines ≡ Some l → is_some (place_in n r.lines) ≡ true
      there r l e = ap (λ (o : Option ℕ). is_some o) (sits n r.lines l e).place

      away : (r : Room) → look n r.lines ≡ None → is_some (place_in n r.lines) ≡ false
      away r e = ap (λ (o : Option ℕ). is_some o) (absent n r.lines e)

      by_pair : Pair n a b → is_some (place_in n b.lines) ≡ is_some (place_in n a.lines)
      by_pair (none la mb) = away b mb ∙ sym (away a la)
      by_pair (bare l m la mb is lx my) = there b m mb ∙ sym (there a l la)
      by_pair (full l m x y la mb is lx my alike plain) = there b m mb ∙ sym (there a l la)

  opens_same : (a b : Room) → nat_lt (length b.lines) most_lines ≡ nat_lt (length a.lines) most_lines → Match n a b → Did n a (accept_line n a) b (accept_line n b)
  opens_same a b room fit =
      did_if n a b (is_some (place_in n a.lines)) (is_some (place_in n b.lines)) (place_same a b fit) a _ b _ (λ e. did_itself n a b fit)
      (λ e. did_if n a b (nat_lt (length a.lines) most_lines) (nat_lt (length b.lines) most_lines) room _ (room_with_sent (to.Close n Down ∷ []) a) _ (room_with_sent (to.Close n Down ∷ []) b)
      (λ d. did_insert n a b (no_line a e) (no_line b (place_same a b fit ∙ e)) fit) (λ d. did_sends n (to.Close n Down ∷ []) (to.Close n Down ∷ []) a b refl fit))

  happens_same : (w : What) (a b : Room) → is_event_of n w ≡ true → nat_lt (length b.lines) most_lines ≡ nat_lt (length a.lines) most_lines → Match n a b → Did n a (take_event w a) b (take_event w b)
  happens_same (whats.Opened m) a b is room fit = subst (λ (k : ℕ). Did n a (accept_line k a) b (accept_line k b)) (sym (equal_by m n is)) (opens_same a b room fit)
  happens_same (whats.Bytes m Down bytes) a b is room fit =
      subst (λ (k : ℕ). Did n a (receive_on false false bytes k (line_in k a.lines) a) b (receive_on false false bytes k (line_in k b.lines) b)) (sym (equal_by m n is)) (comes_same false false bytes a b fit)
  happens_same (whats.Bytes m Up bytes) a b is room fit =
      subst (λ (k : ℕ). Did n a (receive_on true false bytes k (line_in k a.lines) a) b (receive_on true false bytes k (line_in k b.lines) b)) (sym (equal_by m n is)) (comes_same true false bytes a b fit)
  happens_same (whats.End m Down) a b is room fit =
      subst (λ (k : ℕ). Did n a (receive_on false true [] k (line_in k a.lines) a) b (receive_on false true [] k (line_in k b.lines) b)) (sym (equal_by m n is)) (comes_same false true [] a b fit)
  happens_same (whats.End m Up) a b is room fit =
      subst (λ (k : ℕ). Did n a (receive_on true true [] k (line_in k a.lines) a) b (receive_on true true [] k (line_in k b.lines) b)) (sym (equal_by m n is)) (comes_same true true [] a b fit)
  happens_same (whats.Gone m Down) a b is room fit = subst (λ (k : ℕ). Did n a (lose_client k (line_in k a.lines) a) b (lose_client k (line_in k b.lines) b)) (sym (equal_by m n is)) (loses_down_same a b fit)
  happens_same (whats.Gone m Up) a b is room fit = subst (λ (k : ℕ). Did n a (lose_server k (exchange_on k a) a) b (lose_server k (exchange_on k b) b)) (sym (equal_by m n is)) (loses_up_same a b fit)
  happens_same (whats.Joined m) a b is room fit = did_itself n a b fit
  happens_same (whats.Refused m) a b is room fit = subst (λ (k : ℕ). Did n a (lose_server k (exchange_on k a) a) b (lose_server k (exchange_on k b) b)) (sym (equal_by m n is)) (loses_up_same a b fit)
  happens_same (whats.Room m side) a b is room fit = did_itself n a b fit
  happens_same whats.Clock a b is room fit = absurd (cc)
  happens_same whats.Stop a b is room fit = absurd (cc)

  -- ---- the other jobs of the line

  refuses_same : (status : ℕ) (a b : Room) → Match n a b → Did n a (refuse_line (line_in n a.lines) n status a) b (refuse_line (line_in n b.lines) n status b)
  refuses_same status a b fit = by_line (λ o. refuse_line o n status a) (λ o. refuse_line o n status b) a b fit by_lines
    where
      told : Did n a (refusal_sent n status a) b (refusal_sent n status b)
      told =
          did_if n a b (is_final status) (is_final status) refl (room_with_sent (sending_to n Down (fixed_answer status a.hub.moment)) a) a (room_with_sent (sending_to n Down (fixed_answer status b.hub.moment)) b) b
          (λ e. did_sends n (sending_to n Down (fixed_answer status a.hub.moment)) (sending_to n Down (fixed_answer status b.hub.moment)) a b (ap (λ (t : ℕ). sending_to n Down (fixed_answer status t)) fit.moment) fit) (λ e. did_itself n a b fit)

      has : Option Line → Bool
      has o = is_some (exchange_of_line o)

      by_exchanges : (o p : Option Exchange) → is_some p ≡ is_some o → Did n a (refuse_in n status o a) b (refuse_in n status p b)
      by_exchanges None None same = did_then n a (refusal_sent n status a) (close_line n (refusal_sent n status a)) b (refusal_sent n status b) (close_line n (refusal_sent n status b)) told (closes_same (refusal_sent n status a) (refusal_sent n status b) told.fit)
      by_exchanges None (Some y) same = absurd (cc)
      by_exchanges (Some x) None same = absurd (cc)
      by_exchanges (Some x) (Some y) same = refused_same status a b fit

      by_lines : (o p : Option Line) → o ≡ line_in n a.lines → p ≡ line_in n b.lines → is_some o ≡ is_some p → Did n a (refuse_line o n status a) b (refuse_line p n status b)
      by_lines None None la mb same = did_itself n a b fit
      by_lines None (Some m) la mb same = absurd (cc)
      by_lines (Some l) None la mb same = absurd (cc)
      by_lines (Some l) (Some m) la mb same = by_exchanges l.exchange m.exchange (ap has mb ∙ (test_same has n a b fit (λ z x q. refl) ∙ sym (ap has la)))

  ends_same : (stays : Bool) (a b : Room) → Match n a b → Did n a (end_line (line_in n a.lines) n stays a) b (end_line (line_in n b.lines) n stays b)
  ends_same stays a b fit = by_line (λ o. end_line o n stays a) (λ o. end_line o n stays b) a b fit by_lines
    where
      gone_in : Option Line → Bool
      gone_in None = false
      gone_in (Some l) = l.is_gone

      by_lines : (o p : Option Line) → o ≡ line_in n a.lines → p ≡ line_in n b.lines → is_some o ≡ is_some p → Did n a (end_line o n stays a) b (end_line p n stays b)
      by_lines None None la mb same = did_itself n a b fit
      by_lines None (Some m) la mb same = absurd (cc)
      by_lines (Some l) None la mb same = absurd (cc)
      by_lines (Some l) (Some m) la mb same =
          did_if n a b l.is_gone m.is_gone (ap gone_in mb ∙ (test_same gone_in n a b fit (λ z x q. refl) ∙ sym (ap gone_in la))) (drop_line n a) _ (drop_line n b) _ (λ e. did_drop n a b fit)
          (λ e. did_if n a b stays stays refl (read_side n false a) (close_line n a) (read_side n false b) (close_line n b) (λ d. did_read n (Some (record { line = n; up = false; batch = [] })) a b fit) (λ d. closes_same a b fit))

  quietly_same : (job : Job) (a b : Room) → is_job_of n job ≡ true → nat_lt (length b.lines) most_lines ≡ nat_lt (length a.lines) most_lines → Match n a b → Did n a (run_silent_job job a) b (run_silent_job job b)
  quietly_same (jobs.Happen w) a b is room fit = happens_same w a b is room fit
  quietly_same (jobs.Create m k) a b is room fit = did_itself n a b fit
  quietly_same (jobs.Enter m) a b is room fit =
      subst (λ (k : ℕ). Did n a (on_number (enter_stages a.dead) k a) b (on_number (enter_stages b.dead) k b)) (sym (equal_by m n is))
      (did_number n (enter_stages a.dead) (enter_stages b.dead) a b (λ q x plain meet. enters_alike q a.dead b.dead x a.hub b.hub plain meet) fit)
  quietly_same (jobs.Put m response batch) a b is room fit =
      subst (λ (k : ℕ). Did n a (on_number (passing.put_read_items response batch) k a) b (on_number (passing.put_read_items response batch) k b)) (sym (equal_by m n is))
      (number_same (passing.put_read_items response batch) a b (λ q x hub other plain meet. put_in_alike q response batch n x hub other plain meet) fit)
  quietly_same (jobs.Refuse m status) a b is room fit =
      subst (λ (k : ℕ). Did n a (refuse_line (line_in k a.lines) k status a) b (refuse_line (line_in k b.lines) k status b)) (sym (equal_by m n is)) (refuses_same status a b fit)
  quietly_same (jobs.Close m stays) a b is room fit =
      subst (λ (k : ℕ). Did n a (end_line (line_in k a.lines) k stays a) b (end_line (line_in k b.lines) k stays b)) (sym (equal_by m n is)) (ends_same stays a b fit)
  quietly_same (jobs.Begin vm) a b is room fit = absurd (cc)
  quietly_same (jobs.Root vm plugin is_first) a b is room fit = absurd (cc)
  quietly_same (jobs.Start vm root) a b is room fit = absurd (cc)
  quietly_same (jobs.Configure vm root plugin) a b is room fit = absurd (cc)
  quietly_same (jobs.Tick vm root) a b is room fit = absurd (cc)
  quietly_same jobs.Expire a b is room fit = absurd (cc)
  quietly_same (jobs.Done c) a b is room fit = absurd (cc)
  quietly_same (jobs.Log c) a b is room fit = absurd (cc)
  quietly_same (jobs.Delete c) a b is room fit = absurd (cc)
  quietly_same (jobs.Notice vm left) a b is room fit = absurd (cc)
  quietly_same (jobs.Ready vm root queue) a b is room fit = absurd (cc)
  quietly_same (jobs.Other step) a b is room fit = absurd (cc)

-- ---- what is read of the line

begins_alike : (r : ReadBatch) (status : Option ℕ) (x : Exchange) (q : ℕ) → begin_jobs_for r status (Some (record x { place = q })) ≡ begin_jobs_for r status (Some x)
begins_alike r status x q = by_refusal x.refusal
  where
    by_refusal : (o : Option ℕ) → exchange_jobs r status (record x { place = q }) o ≡ exchange_jobs r status x o
    by_refusal None = refl
    by_refusal (Some number) = refl

jobs_same : (r : ReadBatch) (status : Option ℕ) (a b : Room) → Match r.line a b → jobs_of r status b ≡ jobs_of r status a
jobs_same r status a b fit =
    ap (λ (js : List Job). if begins_with_head r.batch && not r.up then js else put_jobs r.line r.up r.batch ++ refuse_jobs r.line status)
    (test_same (λ (o : Option Line). begin_jobs_for r status (exchange_of_line o)) r.line a b fit (λ l x q. begins_alike r status x q))

reading_ends_same : (r : ReadBatch) (status : Option ℕ) (a b : Room) → Match r.line a b → Did r.line a (end_reading r status a) b (end_reading r status b)
reading_ends_same r status a b fit = record {
  fit = record { once = fit.once; other_once = fit.other_once; free = fit.free; line = fit.line; moment = fit.moment };
  sent = [];
  sends = sym (append-nil a.hub.sent);
  other_sends = sym (append-nil b.hub.sent);
  front = jobs_of r status a;
  jobs = refl;
  other_jobs = ap (λ (js : List Job). js ++ b.jobs) (jobs_same r status a b fit);
  reading = λ e. refl;
}

noted_note : (n : ℕ) (up : Bool) (item : ChainItem) (a b : Room) → Match n a b → Did n a (on_lines (change_line (with_read_mark up item)) n a) b (on_lines (change_line (with_read_mark up item)) n b)
noted_note n false item a b fit = exchange_note n (with_read_mark false item) a b (λ x q. refl) (λ x. refl) (λ x p. p) fit
noted_note n true item a b fit = exchange_note n (with_read_mark true item) a b (λ x q. refl) (λ x. refl) (λ x p. p) fit

takes_same : (r : ReadBatch) (item : ChainItem) (a b : Room) → Match r.line a b → Did r.line a (take_read_item r item a) b (take_read_item r item b)
takes_same r item a b fit =
    let c : Room = on_lines (change_line (with_read_mark r.up item)) r.line a in
    let d : Room = on_lines (change_line (with_read_mark r.up item)) r.line b in
    let one : Did r.line a c b d = noted_note r.line r.up item a b fit in
    did_then r.line a c (take_read_item r item a) b d (take_read_item r item b) one
    (did_if r.line c d (is_last item) (is_last item) refl (end_reading (with_item item r) None c) _ (end_reading (with_item item r) None d) _
    (λ e. reading_ends_same (with_item item r) None c d one.fit) (λ e. did_read r.line (Some (with_item item r)) c d one.fit))

trailers_there : (up : Bool) (map : Headers) → PutsThere (put_trailers up map)
trailers_there false map = ((λ v. record v { maps = record v.maps { request_trailers = Some map } }), (λ q h. view_then (λ v. record v { maps = record v.maps { request_trailers = Some map } }) q h))
trailers_there true map = ((λ v. record v { maps = record v.maps { response_trailers = Some map } }), (λ q h. view_then (λ v. record v { maps = record v.maps { response_trailers = Some map } }) q h))

-- ---- an exchange begins, on a route without filters

placed_view : (number : ℕ) (fields : Headers) (xs : List (Option parts.ExchangeEntry)) (o : Option ℕ) → position is_none xs ≡ o
    → option_map (λ (x : parts.ExchangeEntry). x.view) (slice_index_or (placed_at (new_part number fields) o xs) (place_or (length xs) o) None) ≡ Some (new_view fields)
placed_view number fields xs None is = ap (option_map (λ (x : parts.ExchangeEntry). x.view)) (last_there xs (Some (new_part number fields)) None)
placed_view number fields xs (Some n) is = ap (option_map (λ (x : parts.ExchangeEntry). x.view)) (set_there xs n (Some (new_part number fields)) None (position-Some is_none xs n None is).0)

opened_view : (number : ℕ) (fields : Headers) (h : Contexts) → view_at (open_exchange number fields h).exchanges (free_place h) ≡ Some (new_view fields)
opened_view number fields h = placed_view number fields h.exchanges (position is_none h.exchanges) refl

new_same : (plan : Plan) (p q now : ℕ) (dead gone : List ℕ) (h : Head) (route : Option ℕ) → plugins_at plan.routes route ≡ [] → exchange_for plan q now gone h route ≡ record (exchange_for plan p now dead h route) { place = q }
new_same plan p q now dead gone h route is =
    ap (λ (ps : List ℕ). made q gone ps) is
    ∙ (ap (λ (f : Option ℕ). record (made p dead []) { place = q; refusal = f }) (refused_alike_by route)
    ∙ ap (λ (ps : List ℕ). record (made p dead ps) { place = q }) (sym is))
  where
    made : ℕ → List ℕ → List ℕ → Exchange
    made place d ps = new_exchange plan place now d h route ps (filters_of plan.plugins ps)

    refused_alike_by : (o : Option ℕ) → refusal_of o gone [] ≡ refusal_of o dead []
    refused_alike_by None = refl
    refused_alike_by (Some k) = refl

begun_same : (n : ℕ) (plan : Plan) (h : Head) (a b : Room) → plugins_at plan.routes (route_in plan.routes (path_of h.fields)) ≡ [] → Match n a b → Did n a (begin_exchange_on plan n h a) b (begin_exchange_on plan n h b)
begun_same n plan h a b none_of fit = by_pair (pair n a b fit)
  where
    route : Option ℕ
    route = route_in plan.routes (path_of h.fields)

    fresh : Room → Exchange
    fresh r = exchange_for plan (free_place r.hub.contexts) r.hub.moment r.dead h route

    now_in : Room → Contexts
    now_in r = open_exchange n h.fields r.hub.contexts

    line_is : (r : Room) (l : Line) (s : Sits n r.lines l) → begin_exchange_on plan n h r ≡ record (with_contexts (now_in r) r) { lines = slice_set r.lines s.k (with_exchange (fresh r) l) }
    line_is r l s =
        ap (λ (o : Option ℕ). record (with_contexts (now_in r) r) { lines = line_at_place (with_exchange (fresh r)) r.lines o }) s.place
        ∙ ap (λ (o : Option Line). record (with_contexts (now_in r) r) { lines = line_at (with_exchange (fresh r)) r.lines s.k o }) s.there

    alike : fresh b ≡ record (fresh a) { place = free_place b.hub.contexts }
    alike =
        ap (λ (t : ℕ). exchange_for plan (free_place b.hub.contexts) t b.dead h route) fit.moment
        ∙ new_same plan (free_place a.hub.contexts) (free_place b.hub.contexts) a.hub.moment a.dead b.dead h route none_of

    plainly : IsPlain (fresh a)
    plainly = (ap (λ (ps : List ℕ). filter (λ (f : Filter). not (is_gone a.dead f)) (filters_of plan.plugins ps)) none_of, refl, refl)

    there : (l m : Line) → look n a.lines ≡ Some l → look n b.lines ≡ Some m → m ≡ record l { exchange = m.exchange } → Did n a (begin_exchange_on plan n h a) b (begin_exchange_on plan n h b)
    there l m la mb is =
        let s : Sits n a.lines l = sits n a.lines l la in
        let t : Sits n b.lines m = sits n b.lines m mb in
        let p = put_look n a.lines s.k l (with_exchange (fresh a) l) s.there s.passes fit.once refl in
        let q = put_look n b.lines t.k m (with_exchange (fresh b) m) t.there t.passes fit.other_once refl in
        subst (λ (r : Room). Did n a r b (begin_exchange_on plan n h b)) (sym (line_is a l s))
        (subst (λ (r : Room). Did n a (record (with_contexts (now_in a) a) { lines = slice_set a.lines s.k (with_exchange (fresh a) l) }) b r) (sym (line_is b m t))
        (record {
          fit = record {
            once = p.0;
            other_once = q.0;
            free = free_set n a.lines s.k (with_exchange (fresh a) l) fit.free (λ e. plainly);
            line = looks_full _ _ (now_in a) (now_in b) (with_exchange (fresh a) l) (with_exchange (fresh b) m) (fresh a) (fresh b) p.1 q.1 (ap (λ (z : Line). record z { exchange = Some (fresh b) }) is) refl refl
                (record { exchange = alike; maps = opened_view n h.fields b.hub.contexts ∙ sym (opened_view n h.fields a.hub.contexts) });
            moment = fit.moment;
          };
          sent = [];
          sends = sym (append-nil a.hub.sent);
          other_sends = sym (append-nil b.hub.sent);
          front = [];
          jobs = refl;
          other_jobs = refl;
          reading = λ e. e;
        }))

    none_is : (r : Room) → look n r.lines ≡ None → begin_exchange_on plan n h r ≡ with_contexts (now_in r) r
    none_is r e = ap (λ (o : Option ℕ). record (with_contexts (now_in r) r) { lines = line_at_place (with_exchange (fresh r)) r.lines o }) (absent n r.lines e)

    by_pair : Pair n a b → Did n a (begin_exchange_on plan n h a) b (begin_exchange_on plan n h b)
    by_pair (none la mb) =
        subst (λ (r : Room). Did n a r b (begin_exchange_on plan n h b)) (sym (none_is a la))
        (subst (λ (r : Room). Did n a (with_contexts (now_in a) a) b r) (sym (none_is b mb))
        (record {
          fit = record { once = fit.once; other_once = fit.other_once; free = fit.free; line = looks_none _ _ (now_in a) (now_in b) la mb; moment = fit.moment };
          sent = [];
          sends = sym (append-nil a.hub.sent);
          other_sends = sym (append-nil b.hub.sent);
          front = [];
          jobs = refl;
          other_jobs = refl;
          reading = λ e. e;
        }))
    by_pair (bare l m la mb is lx my) = there l m la mb is
    by_pair (full l m x y la mb is lx my alike_ plain) = there l m la mb is

part_same : (plan : Plan) (r : ReadBatch) (p : Part) (a b : Room) → ((h : Head) → p ≡ head_part h → r.up ≡ false → plugins_at plan.routes (route_in plan.routes (path_of h.fields)) ≡ [])
    → Match r.line a b → Did r.line a (take_part plan r p a) b (take_part plan r p b)
part_same plan r (head_part h) a b route fit =
    did_if r.line a b r.up r.up refl _ (take_read_item r (head_item h) (begin_exchange_on plan r.line h a)) _ (take_read_item r (head_item h) (begin_exchange_on plan r.line h b))
    (λ up.
    let c : Room = in_contexts (put_response h.fields) (exchange_on r.line a) a in
    let d : Room = in_contexts (put_response h.fields) (exchange_on r.line b) b in
    let one : Did r.line a c b d = did_contexts r.line (put_response h.fields) a b ((λ v. record v { maps = record v.maps { response = Some h.fields } }), (λ q k. view_then (λ v. record v { maps = record v.maps { response = Some h.fields } }) q k)) fit in
    let e : Room = on_lines (change_line (with_response_head h)) r.line c in
    let f : Room = on_lines (change_line (with_response_head h)) r.line d in
    let two : Did r.line c e d f = exchange_note r.line (with_response_head h) c d (λ x q. refl) (λ x. refl) (λ x p. p) one.fit in
    did_then r.line a c (take_read_item r (head_item h) e) b d (take_read_item r (head_item h) f) one (did_then r.line c e (take_read_item r (head_item h) e) d f (take_read_item r (head_item h) f) two (takes_same r (head_item h) e f two.fit)))
    (λ down.
    let c : Room = begin_exchange_on plan r.line h a in
    let d : Room = begin_exchange_on plan r.line h b in
    let one : Did r.line a c b d = begun_same r.line plan h a b (route h refl down) fit in
    did_then r.line a c (take_read_item r (head_item h) c) b d (take_read_item r (head_item h) d) one (takes_same r (head_item h) c d one.fit))
part_same plan r (interim_part h) a b route fit =
    let s : List Sent = sending_to r.line Down (interim_of (exchange_on r.line a) h) in
    let t : List Sent = sending_to r.line Down (interim_of (exchange_on r.line b) h) in
    let one : Did r.line a (room_with_sent s a) b (room_with_sent t b)
    = did_sends r.line s t a b (ap (sending_to r.line Down) (test_same (λ (o : Option Line). interim_of (exchange_of_line o) h) r.line a b fit (λ l x q. refl))) fit in
    did_then r.line a (room_with_sent s a) (record (room_with_sent s a) { reading = Some r }) b (room_with_sent t b) (record (room_with_sent t b) { reading = Some r }) one (did_read r.line (Some r) (room_with_sent s a) (room_with_sent t b) one.fit)
part_same plan r (piece bytes last) a b route fit = takes_same r (items.Piece bytes last) a b fit
part_same plan r (trailer_part fields) a b route fit =
    let f : ℕ → Contexts → Contexts = put_trailers r.up (with_fields no_headers fields) in
    let c : Room = in_contexts f (exchange_on r.line a) a in
    let d : Room = in_contexts f (exchange_on r.line b) b in
    let one : Did r.line a c b d = did_contexts r.line f a b (trailers_there r.up (with_fields no_headers fields)) fit in
    did_then r.line a c (take_read_item r items.Trailers c) b d (take_read_item r items.Trailers d) one (takes_same r items.Trailers c d one.fit)

stops_same : (r : ReadBatch) (why : Stop) (a b : Room) → Match r.line a b → Did r.line a (end_of_read r why a) b (end_of_read r why b)
stops_same r rest a b fit = reading_ends_same r None a b fit
stops_same r over a b fit =
    let c : Room = end_reading r None a in
    let d : Room = end_reading r None b in
    let one : Did r.line a c b d = reading_ends_same r None a b fit in
    did_if r.line a b (r.up || is_some (exchange_on r.line a)) (r.up || is_some (exchange_on r.line b))
    (ap (λ (t : Bool). r.up || t) (test_same (λ (o : Option Line). is_some (exchange_of_line o)) r.line a b fit (λ l x q. refl))) c (with_jobs_first (jobs.Close r.line false ∷ []) c) d (with_jobs_first (jobs.Close r.line false ∷ []) d)
    (λ e. one) (λ e. did_then r.line a c (with_jobs_first (jobs.Close r.line false ∷ []) c) b d (with_jobs_first (jobs.Close r.line false ∷ []) d) one (did_front r.line (jobs.Close r.line false ∷ []) (jobs.Close r.line false ∷ []) c d refl one.fit))
stops_same r (refusal status) a b fit = reading_ends_same r (Some status) a b fit

read_alike : (up : Bool) (new : Reading) → NotesAlike (read_on up new)
read_alike false new l m h k alike = (ap (λ (z : Line). record z { requests = new }) alike.0, alike.1)
read_alike true new l m h k alike = notes_exchange (with_reader new) (λ x q. refl) (λ x. refl) l m h k alike

heard_same : (plan : Plan) (r : ReadBatch) (reading : Reading) (h : Heard) (a b : Room) → Hears reading h
    → ((hd : Head) (new : Reading) → Hears reading (hands (head_part hd) new) → r.up ≡ false → plugins_at plan.routes (route_in plan.routes (path_of hd.fields)) ≡ [])
    → Match r.line a b → Did r.line a (after_heard plan r h (record a { reading = None })) b (after_heard plan r h (record b { reading = None }))
heard_same plan r reading h a b says route fit = by_heard h says
  where
    c : Room
    c = record a { reading = None }

    d : Room
    d = record b { reading = None }

    start : Did r.line a c b d
    start = did_read r.line None a b fit

    read : (new : Reading) → Did r.line c (on_lines (read_on r.up new) r.line c) d (on_lines (read_on r.up new) r.line d)
    read new = did_line r.line (read_on r.up new) c d (read_numbered r.up new) (read_free r.line r.up new) (read_alike r.up new) start.fit

    by_heard : (h : Heard) → Hears reading h → Did r.line a (after_heard plan r h c) b (after_heard plan r h d)
    by_heard (hands p new) says_ =
        let e : Room = on_lines (read_on r.up new) r.line c in
        let f : Room = on_lines (read_on r.up new) r.line d in
        did_then r.line a c (take_part plan r p e) b d (take_part plan r p f) start (did_then r.line c e (take_part plan r p e) d f (take_part plan r p f) (read new)
        (part_same plan r p e f (λ hd is up. route hd new (subst (λ (q : Part). Hears reading (hands q new)) is says_) up) (read new).fit))
    by_heard (halts why new) says_ =
        let e : Room = on_lines (read_on r.up new) r.line c in
        let f : Room = on_lines (read_on r.up new) r.line d in
        did_then r.line a c (end_of_read r why e) b d (end_of_read r why f) start (did_then r.line c e (end_of_read r why e) d f (end_of_read r why f) (read new) (stops_same r why e f (read new).fit))

-- ---- the end of the exchange

ends_at_same : (n p q : ℕ) (a b : Room) → slice_get a.lines p ≡ line_in n a.lines → slice_get b.lines q ≡ line_in n b.lines → Match n a b → Did n a (end_at p a) b (end_at q b)
ends_at_same n p q a b at other_at fit = by_pair (pair n a b fit)
  where
    here : (o : Option Line) → look n a.lines ≡ o → slice_get a.lines p ≡ o
    here o e = at ∙ (line_in_is n a.lines ∙ e)

    there : (o : Option Line) → look n b.lines ≡ o → slice_get b.lines q ≡ o
    there o e = other_at ∙ (line_in_is n b.lines ∙ e)

    end_is : (r : Room) (k : ℕ) (l : Line) (e : Option Exchange) → slice_get r.lines k ≡ Some l → l.exchange ≡ e → end_at k r ≡ end_with r (ended_back k r.lines (ended_in l e))
    end_is r k l e is lx = ap (λ (o : Option Line). end_with r (ended_at k o r.lines)) is ∙ ap (λ (o : Option Exchange). end_with r (ended_back k r.lines (ended_in l o))) lx

    by_pair : Pair n a b → Did n a (end_at p a) b (end_at q b)
    by_pair (none la mb) =
        subst (λ (r : Room). Did n a r b (end_at q b)) (sym (ap (λ (o : Option Line). end_with a (ended_at p o a.lines)) (here None la)))
        (subst (λ (r : Room). Did n a a b r) (sym (ap (λ (o : Option Line). end_with b (ended_at q o b.lines)) (there None mb))) (did_itself n a b fit))
    by_pair (bare l m la mb is lx my) =
        let s : Sits n a.lines l = sits n a.lines l la in
        let t : Sits n b.lines m = sits n b.lines m mb in
        let u = put_look n a.lines p l l (here (Some l) la) s.passes fit.once refl in
        let v = put_look n b.lines q m m (there (Some m) mb) t.passes fit.other_once refl in
        subst (λ (r : Room). Did n a r b (end_at q b)) (sym (end_is a p l None (here (Some l) la) lx))
        (subst (λ (r : Room). Did n a (record a { lines = slice_set a.lines p l }) b r) (sym (end_is b q m None (there (Some m) mb) my))
        (record {
          fit = record {
            once = u.0;
            other_once = v.0;
            free = free_set n a.lines p l fit.free (λ e. free_at n a.lines p l (here (Some l) la) fit.free e);
            line = looks_bare _ _ a.hub.contexts b.hub.contexts l m u.1 v.1 is lx my;
            moment = fit.moment;
          };
          sent = [];
          sends = sym (append-nil a.hub.sent);
          other_sends = sym (append-nil b.hub.sent);
          front = [];
          jobs = refl;
          other_jobs = refl;
          reading = λ e. e;
        }))
    by_pair (full l m x y la mb is lx my alike plain) =
        let s : Sits n a.lines l = sits n a.lines l la in
        let t : Sits n b.lines m = sits n b.lines m mb in
        let u = put_look n a.lines p l (record l { exchange = None }) (here (Some l) la) s.passes fit.once refl in
        let v = put_look n b.lines q m (record m { exchange = None }) (there (Some m) mb) t.passes fit.other_once refl in
        let c : Room = end_exchange_of (Some (l.number, x)) (record a { lines = slice_set a.lines p (record l { exchange = None }) }) in
        let d : Room = end_exchange_of (Some (m.number, y)) (record b { lines = slice_set b.lines q (record m { exchange = None }) }) in
        let number : m.number ≡ l.number = ap (λ (z : Line). z.number) is in
        subst (λ (r : Room). Did n a r b (end_at q b)) (sym (end_is a p l (Some x) (here (Some l) la) lx))
        (subst (λ (r : Room). Did n a c b r) (sym (end_is b q m (Some y) (there (Some m) mb) my))
        (record {
          fit = record {
            once = u.0;
            other_once = v.0;
            free = free_set n a.lines p (record l { exchange = None }) fit.free (λ e. tt);
            line = looks_bare _ _ c.hub.contexts d.hub.contexts (record l { exchange = None }) (record m { exchange = None }) u.1 v.1 (ap (λ (z : Line). record z { exchange = None }) is) refl refl;
            moment = fit.moment;
          };
          sent = close_up l.number x.reader;
          sends = refl;
          other_sends = (λ i. b.hub.sent ++ close_up (number i) ((ap (λ (z : Exchange). z.reader) alike.exchange) i));
          front = done_jobs x.filters ++ jobs.Close l.number x.stays ∷ [];
          jobs = refl;
          other_jobs = (λ i. (done_jobs ((ap (λ (z : Exchange). z.filters) alike.exchange) i) ++ jobs.Close (number i) ((ap (λ (z : Exchange). z.stays) alike.exchange) i) ∷ []) ++ b.jobs);
          reading = λ e. e;
        }))

-- ---- THE STEP

reading_same : (r : ReadBatch) (a b : Room) → Match r.line a b → reading_on r b ≡ reading_on r a
reading_same r a b fit = by_side r.up
  where
    by_side : (up : Bool) → line_reading up (line_in r.line b.lines) ≡ line_reading up (line_in r.line a.lines)
    by_side false = test_same (λ (o : Option Line). line_reading false o) r.line a b fit (λ l x q. refl)
    by_side true = test_same (λ (o : Option Line). line_reading true o) r.line a b fit (λ l x q. refl)

-- a job of the line calls nothing
works_is : {H : Type 0} (calling : Calling H) (plan : Plan) (n : ℕ) (job : Job) (host : H) (r : Room) → is_job_of n job ≡ true → ((k : ℕ) → filter_at n k r.lines ≡ None) → works calling plan job host r ≡ ends (both host (run_silent_job job r))
works_is calling plan n (jobs.Happen w) host r is unmade = refl
works_is calling plan n (jobs.Create m k) host r is unmade = ap (λ (o : Option Filter). made_with calling host (create_filter m k o r)) (ap (λ (j : ℕ). filter_at j k r.lines) (equal_by m n is) ∙ unmade k)
works_is calling plan n (jobs.Enter m) host r is unmade = refl
works_is calling plan n (jobs.Put m response batch) host r is unmade = refl
works_is calling plan n (jobs.Refuse m status) host r is unmade = refl
works_is calling plan n (jobs.Close m stays) host r is unmade = refl
works_is calling plan n (jobs.Begin vm) host r is unmade = absurd (cc)
works_is calling plan n (jobs.Root vm plugin is_first) host r is unmade = absurd (cc)
works_is calling plan n (jobs.Start vm root) host r is unmade = absurd (cc)
works_is calling plan n (jobs.Configure vm root plugin) host r is unmade = absurd (cc)
works_is calling plan n (jobs.Tick vm root) host r is unmade = absurd (cc)
works_is calling plan n jobs.Expire host r is unmade = absurd (cc)
works_is calling plan n (jobs.Done c) host r is unmade = absurd (cc)
works_is calling plan n (jobs.Log c) host r is unmade = absurd (cc)
works_is calling plan n (jobs.Delete c) host r is unmade = absurd (cc)
works_is calling plan n (jobs.Notice vm left) host r is unmade = absurd (cc)
works_is calling plan n (jobs.Ready vm root queue) host r is unmade = absurd (cc)
works_is calling plan n (jobs.Other step) host r is unmade = absurd (cc)

-- where a course ends at once, it ends there
at_once : {H : Type 0} (e c : Both H) (ms : List Met) → Reaches (ends e) ms (ends c) → e.room ≡ c.room
at_once {H} e c ms reaches = all_reached (λ (z : Both H). e.room ≡ z.room) ms (ends e) c refl reaches

module _ {H K : Type 0} (calling : Calling H) (other : Calling K) (plan : Plan) (n : ℕ) (a c : Both H) (b d : Both K) (fit : Match n a.room b.room)
    (room : nat_lt (length b.room.lines) most_lines ≡ nat_lt (length a.room.lines) most_lines) (takes_none : TakesNoFilters plan n a.room) where
  -- what both heard
  record BothHeard (reading : Reading) (f : Heard → Both H) (g : Heard → Both K) : Type 0 where
    what : Heard
    says : Hears reading what
    one : (f what).room ≡ c.room
    two : (g what).room ≡ d.room

  both_heard : (reading : Reading) (f : Heard → Both H) (g : Heard → Both K) (ms : List Met) → Reaches (hears reading (λ h. ends (f h))) ms (ends c) → Reaches (hears reading (λ h. ends (g h))) ms (ends d) → BothHeard reading f g
  both_heard reading f g [] left right = absurd (cc)
  both_heard reading f g (heard h ∷ ms) left right = record { what = h; says = left.0; one = at_once (f h) c ms left.1; two = at_once (g h) d ms right.1 }
  both_heard reading f g (called m ∷ ms) left right = absurd left
  both_heard reading f g (measured m ∷ ms) left right = absurd left

  reads_same : (r : ReadBatch) (ms : List Met) → a.room.reading ≡ Some r → r.line ≡ n → (o : Option Reading) → reading_on r a.room ≡ o → Reaches (reads_in plan r o a.host a.room) ms (ends c)
      → Reaches (reads_in plan r o b.host b.room) ms (ends d) → Did n a.room c.room b.room d.room
  reads_same r ms is line None at left right =
      subst (λ (z : Room). Did n a.room z b.room d.room) (at_once (both a.host (record a.room { reading = None })) c ms left) (subst (λ (z : Room). Did n a.room (record a.room { reading = None }) b.room z) (at_once (both b.host (record b.room { reading = None })) d ms right) (did_read n None a.room b.room fit))
  reads_same r ms is line (Some reading) at left right =
      let h = both_heard reading (λ h. both a.host (after_heard plan r h (record a.room { reading = None }))) (λ h. both b.host (after_heard plan r h (record b.room { reading = None }))) ms left right in
      subst (λ (z : Room). Did n a.room z b.room d.room) h.one (subst (λ (z : Room). Did n a.room (after_heard plan r h.what (record a.room { reading = None })) b.room z) h.two
      (subst (λ (k : ℕ). Did k a.room (after_heard plan r h.what (record a.room { reading = None })) b.room (after_heard plan r h.what (record b.room { reading = None }))) line
      (heard_same plan r reading h.what a.room b.room h.says (λ hd new hears_ up. takes_none r reading new hd is line up at hears_) (subst (λ (k : ℕ). Match k a.room b.room) (sym line) fit))))

  popped : (later more : List Job) → Match n (record a.room { jobs = later }) (record b.room { jobs = more })
  popped later more = record { once = fit.once; other_once = fit.other_once; free = fit.free; line = fit.line; moment = fit.moment }

  steps_same : (x y : Next) (ms : List Met) → IsSameStep n a.room x b.room y → Reaches (step calling plan x a.host a.room) ms (ends c) → Reaches (step other plan y b.host b.room) ms (ends d)
      → Did n (in_hand x a.room) c.room (in_hand y b.room) d.room
  steps_same next.Read next.Read ms (r, ra, rb, line) left right =
      reads_same r ms ra line (reading_on r a.room) refl (subst (λ (o : Option ReadBatch). Reaches (reads_next plan o a.host a.room) ms (ends c)) ra left)
      (subst (λ (o : Option Reading). Reaches (reads_in plan r o b.host b.room) ms (ends d)) (reading_same r a.room b.room (subst (λ (k : ℕ). Match k a.room b.room) (sym line) fit))
      (subst (λ (o : Option ReadBatch). Reaches (reads_next plan o b.host b.room) ms (ends d)) rb right))
  steps_same next.Work next.Work ms (job, later, more, ja, jb, is) left right =
      let none_a : (k : ℕ) → filter_at n k a.room.lines ≡ None = λ k. no_filter_at n n k a.room.lines (equal_is n n refl) fit.free in
      let none_b : (k : ℕ) → filter_at n k b.room.lines ≡ None
      = λ k. test_same (λ (o : Option Line). open_filter k (exchange_of_line o)) n a.room b.room fit (λ l z q. refl) ∙ none_a k in
      let one : run_silent_job job (record a.room { jobs = later }) ≡ c.room
      = at_once (both a.host (run_silent_job job (record a.room { jobs = later }))) c ms (subst (λ (p : Course (Both H)). Reaches p ms (ends c)) (works_is calling plan n job a.host (record a.room { jobs = later }) is none_a)
      (subst (λ (js : List Job). Reaches (works_first calling plan js a.host a.room) ms (ends c)) ja left)) in
      let two : run_silent_job job (record b.room { jobs = more }) ≡ d.room
      = at_once (both b.host (run_silent_job job (record b.room { jobs = more }))) d ms (subst (λ (p : Course (Both K)). Reaches p ms (ends d)) (works_is other plan n job b.host (record b.room { jobs = more }) is none_b)
      (subst (λ (js : List Job). Reaches (works_first other plan js b.host b.room) ms (ends d)) jb right)) in
      subst (λ (js : List Job). Did n (record a.room { jobs = drop 1 js }) c.room (in_hand next.Work b.room) d.room) (sym ja)
      (subst (λ (js : List Job). Did n (record a.room { jobs = later }) c.room (record b.room { jobs = drop 1 js }) d.room) (sym jb)
      (subst (λ (z : Room). Did n (record a.room { jobs = later }) z (record b.room { jobs = more }) d.room) one
      (subst (λ (z : Room). Did n (record a.room { jobs = later }) (run_silent_job job (record a.room { jobs = later })) (record b.room { jobs = more }) z) two
      (quietly_same n job (record a.room { jobs = later }) (record b.room { jobs = more }) is room (popped later more)))))
  steps_same (next.End p) (next.End q) ms (at, other_at) left right =
      subst (λ (z : Room). Did n a.room z b.room d.room) (at_once (both a.host (end_at p a.room)) c ms left)
      (subst (λ (z : Room). Did n a.room (end_at p a.room) b.room z) (at_once (both b.host (end_at q b.room)) d ms right) (ends_at_same n p q a.room b.room at other_at fit))
  steps_same next.Read (next.Move q) ms is left right = absurd is
  steps_same next.Read next.Work ms is left right = absurd is
  steps_same next.Read (next.Free q) ms is left right = absurd is
  steps_same next.Read (next.End q) ms is left right = absurd is
  steps_same next.Read next.Begin ms is left right = absurd is
  steps_same next.Read next.Rest ms is left right = absurd is
  steps_same next.Work next.Read ms is left right = absurd is
  steps_same next.Work (next.Move q) ms is left right = absurd is
  steps_same next.Work (next.Free q) ms is left right = absurd is
  steps_same next.Work (next.End q) ms is left right = absurd is
  steps_same next.Work next.Begin ms is left right = absurd is
  steps_same next.Work next.Rest ms is left right = absurd is
  steps_same (next.End p) next.Read ms is left right = absurd is
  steps_same (next.End p) (next.Move q) ms is left right = absurd is
  steps_same (next.End p) next.Work ms is left right = absurd is
  steps_same (next.End p) (next.Free q) ms is left right = absurd is
  steps_same (next.End p) next.Begin ms is left right = absurd is
  steps_same (next.End p) next.Rest ms is left right = absurd is
  steps_same (next.Move p) y ms is left right = absurd is
  steps_same (next.Free p) y ms is left right = absurd is
  steps_same next.Begin y ms is left right = absurd is
  steps_same next.Rest y ms is left right = absurd is

agreed : (n : ℕ) (a b : Room) → Agree n a b → Match n a b
agreed n a b g = record {
  once = to_once n a.lines g.lone;
  other_once = to_once n b.lines g.other_lone;
  free = g.free;
  line = subst (λ (o : Option Line). LooksAlike o a.hub.contexts (look n b.lines) b.hub.contexts) (line_in_is n a.lines) (subst (λ (o : Option Line). LooksAlike (line_in n a.lines) a.hub.contexts o b.hub.contexts) (line_in_is n b.lines) g.line);
  moment = g.moment;
}

agrees : (n : ℕ) (a b : Room) → Match n a b → Agree n a b
agrees n a b fit = record {
  free = fit.free;
  lone = from_once n a.lines fit.once;
  other_lone = from_once n b.lines fit.other_once;
  line = subst (λ (o : Option Line). LooksAlike o a.hub.contexts (line_in n b.lines) b.hub.contexts) (sym (line_in_is n a.lines)) (subst (λ (o : Option Line). LooksAlike (look n a.lines) a.hub.contexts o b.hub.contexts) (sym (line_in_is n b.lines)) fit.line);
  moment = fit.moment;
}

pub steps_depend : (H K : Type 0) → StepsDependOnTheLine H K
steps_depend H K calling other plan n a c b d ms agree room same takes_none left right =
    let did = steps_same calling other plan n a c b d (agreed n a.room b.room agree) room takes_none (next_of a.room) (next_of b.room) ms same left right in
    record {
      agree = agrees n c.room d.room did.fit;
      sent = did.sent;
      sends = did.sends;
      other_sends = did.other_sends;
      front = did.front;
      jobs = did.jobs;
      other_jobs = did.other_jobs;
      reading = did.reading;
    }
