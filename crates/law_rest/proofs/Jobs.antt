-- EACH JOB leaves less to do, whatever it calls does.
use Rattle.std.proofs.Common.{◌≡◌, ℕ, suc, ◌+◌, ◌*◌, ◌≤◌, Bool, true, false, List, [], ◌∷◌, ◌++◌, length, ap, ◌∙◌, sym, refl, subst, arith}
use Rattle.std.proofs.lemmas.List.{length-reverse, reverse-append}
use Rattle.std.proofs.Math.ListN.{length-set}
use Rattle.std.specs.List.{list_any}
use Rattle.std.specs.Prelude.{Option, None, Some, is_some, filter, map, reverse, not, nat_lt, ◌&&◌, ◌||◌}
use Rattle.filter_host.specs.declared.host.Death.TheVariants as deaths
use Rattle.exchange.specs.declared.types.Exchange.{Exchange}
use Rattle.exchange.specs.declared.types.Filter.{Filter}
use Rattle.exchange.specs.Passing.{chain_of, refuse_exchange, expire_exchange, put_read_items}
use Rattle.exchange.specs.Heads.{is_final}
use Rattle.filter_chain.specs.Costs.{chain_cost, stage_cost}
use Rattle.filter_chain.specs.declared.item.ChainItem.{ChainItem}
use Rattle.filter_chain.specs.declared.stage.Stage.{Stage}
use Rattle.gate_io.specs.declared.event.Sent.TheVariants as to
use Rattle.gate_io.specs.declared.event.Side.TheVariants.{Down, Up}
use Rattle.gate_io.specs.declared.event.What.{What}
use Rattle.gate_io.specs.declared.event.What.TheVariants as whats
use Rattle.h1_model.specs.Unread.{Reading}
use Rattle.store_model.specs.declared.call.Reply.{Reply}
use Rattle.store_model.specs.declared.call.Reply.TheVariants as replies
use Rattle.worker_model.specs.Room.{Room}
use Rattle.worker_model.specs.declared.types.Job.{Job}
use Rattle.worker_model.specs.declared.types.Job.TheVariants as jobs
use Rattle.worker_model.specs.declared.types.Line.{Line}
use Rattle.worker_model.specs.declared.types.NewContext.{NewContext}
use Rattle.worker_model.specs.Rooms.{all_lines, place_in, with_lines, is_dead, lose_vm_in}
use Rattle.worker_model.specs.Steps.{with_jobs_first, is_drawn_out, may_root, root_jobs, create_root, with_filter, change_exchange, change_line, line_in, exchange_on, exchange_of_line, may_stream, create_stream, create_filter, filter_at, create_context, is_live, new_stage, exchange_with_stages, on_lines, drop_line, close_line, read_side, end_line, refusal_sent, refuse_in, refuse_line, most_lines, new_line, place_for, accept_line, reading_with_more, response_with_more, with_further, side_with_more, is_open, line_reading, is_answered_in, is_read_in, receive_on, exchange_without_client, line_without_client, lose_client, is_missed, lose_server, take_event, is_late, expire_all, take_notice_reply}
use Rattle.law_rest.specs.Moves.{for_each, moves_of, spare_of}
use Rattle.law_rest.specs.Left.{reading_cost, byte_cost, open_left, reader_left, exchange_left, job_left, jobs_left, bytes_of, Fits, OpenFits}
use Rattle.law_rest.proofs.Exchanges.{Adds, open_moves, refused_adds, expires_adds, put_in_adds}
use Rattle.law_rest.proofs.Lines.{Leaves, LeavesBy, LineLeaves, adds_leaves, on_line_leaves, drops_leave, all_lines_leave, insert_left, insert_fits}
use Rattle.law_rest.proofs.Rooms.{AtMost, at_most_more, with_lines_most, on_number_same, contexts_most, sending_most, died_most}
use Rattle.law_rest.proofs.Sums.{for_each-append, filter_fewer, length_map}
use Rattle.law_rest.proofs.Tests.{of_if, neither}

-- ---- jobs in front, and lines that are changed

pub jobs_left-append : (s : ℕ) (a b : List Job) → jobs_left s (a ++ b) ≡ jobs_left s a + jobs_left s b
jobs_left-append s [] b = omega arith
jobs_left-append s (j ∷ a) b = let e = jobs_left-append s a b in omega arith

pub in_front_most : (s m : ℕ) (more : List Job) (room : Room) → AtMost s m room → AtMost s (m + jobs_left s more) (with_jobs_first more room)
in_front_most s m more room a = record { fit = a.fit; few = omega (arith, a.few, jobs_left-append s more room.jobs) }

change_line_leaves : (s m : ℕ) (change : Exchange → Exchange) (l : Line) → ((x : Exchange) → Fits s x → Leaves s m x (change x)) → OpenFits s l.exchange → LineLeaves s m l (change_line change l)
change_line_leaves s m change l leaves fits = by_exchange l.exchange refl
  where
    by_exchange : (o : Option Exchange) → l.exchange ≡ o → LineLeaves s m l (change_exchange change l o)
    by_exchange None is = (fits, omega arith)
    by_exchange (Some x) is =
        let here : OpenFits s (Some x) = subst (λ (o : Option Exchange). OpenFits s o) is fits in
        let c = leaves x here in
        let e : open_left s l.exchange ≡ exchange_left s x = ap (open_left s) is in
        (c.0, omega (arith, c.1, e))

pub on_lines_most : (s m k : ℕ) (change : Line → Line) (number : ℕ) (room : Room) → AtMost s m room → ((l : Line) → OpenFits s l.exchange → LineLeaves s k l (change l))
    → AtMost s (m + k) (on_lines change number room)
on_lines_most s m k change number room a leaves =
    let l = on_line_leaves s k change number room.lines a.fit leaves in
    record { fit = l.fit; few = omega (arith, a.few, l.few) }

-- a change of exchanges that adds nothing
pub on_exchange_most : (s m : ℕ) (change : Exchange → Exchange) (number : ℕ) (room : Room) → AtMost s m room → ((x : Exchange) → Adds 0 x (change x))
    → AtMost s m (on_lines (change_line change) number room)
on_exchange_most s m change number room a adds =
    at_most_more s (m + 0) m (on_lines (change_line change) number room) (omega arith)
    (on_lines_most s m 0 (change_line change) number room a (λ l fits. change_line_leaves s 0 change l (λ x f. adds_leaves s 0 x (change x) (adds x) f) fits))

-- ---- contexts are made

pub rooting_most : (s m vm plugin : ℕ) (first : Bool) (room : Room) → AtMost s m room → AtMost s (m + 2) (create_root vm plugin first room).1
rooting_most s m vm plugin first room a =
    of_if (λ (r : Option NewContext × Room). AtMost s (m + 2) r.1) (is_dead vm room || not (may_root vm plugin room.hub.contexts)) _ _
    (λ is. at_most_more s m (m + 2) room (omega arith) a)
    (λ is. of_if (λ (r : Option NewContext × Room). AtMost s (m + 2) r.1) (is_drawn_out vm room.hub.contexts) _ _
    (λ out. at_most_more s m (m + 2) (lose_vm_in vm deaths.Ids room) (omega arith) (died_most s m vm deaths.Ids room a))
    (λ more. at_most_more s _ (m + 2) _ (few vm _ plugin first) (in_front_most s m _ _ (contexts_most s m _ room a))))
  where
    few : (vm root plugin : ℕ) (first : Bool) → m + jobs_left s (root_jobs vm root plugin first) ≤ m + 2
    few vm root plugin true = omega arith
    few vm root plugin false = omega arith

with_filter_adds : (k : ℕ) (f : Filter) (x : Exchange) → Adds 0 x (with_filter k f x)
with_filter_adds k f x = record {
  moves = omega arith;
  filters = omega (arith, length-set x.filters k f);
  request = omega arith;
  response = omega arith;
  unread = omega arith;
  clear = λ c. c;
}

streaming_most : (s m number k : ℕ) (f : Filter) (o : Option ℕ) (room : Room) → AtMost s m room → AtMost s m (create_stream number k f o room).1
streaming_most s m number k f None room a = a
streaming_most s m number k f (Some root) room a =
    of_if (λ (r : Option NewContext × Room). AtMost s m r.1) (is_dead f.vm room || not (may_stream f.vm root room.hub.contexts)) _ _ (λ is. a)
    (λ is. of_if (λ (r : Option NewContext × Room). AtMost s m r.1) (is_drawn_out f.vm room.hub.contexts) _ _ (λ out. died_most s m f.vm deaths.Ids room a)
    (λ more. on_exchange_most s m _ number _ (contexts_most s m _ room a) (λ x. with_filter_adds k _ x)))

pub creating_most : (s m number k : ℕ) (room : Room) → AtMost s m room → AtMost s m (create_context number k room).1
creating_most s m number k room a = by_filter (filter_at number k room.lines)
  where
    by_filter : (o : Option Filter) → AtMost s m (create_filter number k o room).1
    by_filter None = a
    by_filter (Some f) = streaming_most s m number k f _ room a

-- ---- the stages are made

-- nothing is to be done at these
AllIdle : List Stage → Type 0
AllIdle [] = Unit {0}
AllIdle (s ∷ ss) = ((r : ℕ) → stage_cost r s ≡ 0) × AllIdle ss

idle_cost : (ss : List Stage) → AllIdle ss → chain_cost ss ≡ 0
unfolding AllIdle
idle_cost [] idle = refl
idle_cost (s ∷ ss) idle = let e = idle_cost ss idle.1 in omega (arith, idle.0 (length ss))

idle-append : (a b : List Stage) → AllIdle a → AllIdle b → AllIdle (a ++ b)
unfolding AllIdle
idle-append [] b one other = other
idle-append (s ∷ a) b one other = (one.0, idle-append a b one.1 other)

idle-reverse : (ss : List Stage) → AllIdle ss → AllIdle (reverse ss)
unfolding AllIdle
idle-reverse [] idle = tt
idle-reverse (s ∷ ss) idle = subst AllIdle (sym (reverse-append (s ∷ []) ss)) (idle-append (reverse ss) (s ∷ []) (idle-reverse ss idle.1) (idle.0, tt))

new_idle : (response : Bool) (fs : List Filter) → AllIdle (map (new_stage response) fs)
unfolding AllIdle
new_idle response [] = tt
new_idle response (f ∷ fs) = (λ r. omega arith, new_idle response fs)

spare_most : (a o h : Bool) (n : ℕ) → spare_of a o h n ≤ (n + n) + (n + n)
spare_most true o h n = omega arith
spare_most false true h n = omega arith
spare_most false false true n = omega arith
spare_most false false false n = omega arith

moves_most : (e : Bool) (c s : ℕ) → moves_of e c s ≤ 1 + c + s
moves_most true c s = omega arith
moves_most false c s = omega arith

pub entered_leaves : (s : ℕ) (dead : List ℕ) (x : Exchange) → Fits s x → Leaves s (4 * s) x (exchange_with_stages dead x)
entered_leaves s dead x fits =
    of_if (λ (y : Exchange). Leaves s (4 * s) x y) (x.has_ended || x.is_answered) _ _ (λ is. (fits, omega arith))
    (λ is.
    let each = neither x.has_ended x.is_answered is in
    let live : List Filter = filter (is_live dead) x.filters in
    let few = filter_fewer (is_live dead) x.filters in
    let q = length_map (new_stage false) live in
    let r : length (reverse (map (new_stage true) live)) ≡ length live = length-reverse (map (new_stage true) live) ∙ length_map (new_stage true) live in
    let c : chain_cost (map (new_stage false) live) ≡ 0 = idle_cost (map (new_stage false) live) (new_idle false live) in
    let d : chain_cost (reverse (map (new_stage true) live)) ≡ 0 = idle_cost (reverse (map (new_stage true) live)) (idle-reverse (map (new_stage true) live) (new_idle true live)) in
    let p = spare_most x.is_answered x.is_head_out x.is_headed (length (reverse (map (new_stage true) live))) in
    let m = moves_most x.has_ended (chain_cost (map (new_stage false) live) + chain_cost (reverse (map (new_stage true) live))) (spare_of x.is_answered x.is_head_out x.is_headed (length (reverse (map (new_stage true) live)))) in
    let e = open_moves x each.0 in (
      record {
        filters = fits.filters;
        request = omega (arith, fits.filters);
        response = omega (arith, fits.filters);
        clear = λ answered. absurd (cc);
      },
      omega (arith, fits.filters),
    ))

-- ---- items come; what was read is refused; responses are due

pub put_leaves : (s : ℕ) (response : Bool) (items : List ChainItem) → LeavesBy s (for_each (s + s) items) (put_read_items response items)
put_leaves s response items n x hub fits = adds_leaves s (for_each (s + s) items) x (put_read_items response items n x hub).0 (put_in_adds s response items n x hub (few response)) fits
  where
    few : (response : Bool) → length (chain_of response x) ≤ s
    few false = fits.request
    few true = fits.response

drops_line_most : (s m number : ℕ) (room : Room) → AtMost s m room → AtMost s m (drop_line number room)
drops_line_most s m number room a =
    let l = drops_leave s room.lines (place_in number room.lines) a.fit in
    record { fit = l.fit; few = omega (arith, a.few, l.few) }

closes_line_most : (s m number : ℕ) (room : Room) → AtMost s m room → AtMost s m (close_line number room)
closes_line_most s m number room a = sending_most s m (to.Close number Down ∷ []) (drop_line number room) (drops_line_most s m number room a)

refusal_sent_most : (s m number status : ℕ) (room : Room) → AtMost s m room → AtMost s m (refusal_sent number status room)
refusal_sent_most s m number status room a = of_if (λ (r : Room). AtMost s m r) (is_final status) _ _ (λ is. sending_most s m _ room a) (λ is. a)

refuses_in_most : (s m number status : ℕ) (o : Option Exchange) (room : Room) → AtMost s m room → AtMost s m (refuse_in number status o room)
refuses_in_most s m number status None room a = closes_line_most s m number (refusal_sent number status room) (refusal_sent_most s m number status room a)
refuses_in_most s m number status (Some x) room a = on_number_same s m (refuse_exchange status) number room a (λ n y hub. refused_adds status n y hub)

pub refuses_line_most : (s m number status : ℕ) (o : Option Line) (room : Room) → AtMost s m room → AtMost s m (refuse_line o number status room)
refuses_line_most s m number status None room a = a
refuses_line_most s m number status (Some line) room a = refuses_in_most s m number status line.exchange room a

pub expires_most : (s m : ℕ) (room : Room) → AtMost s m room → AtMost s m (expire_all room)
expires_most s m room a =
    of_if (λ (r : Room). AtMost s m r) (list_any (is_late room.hub.moment) room.lines) _ _
    (λ is. at_most_more s (m + 0) m (with_lines room (all_lines expire_exchange room.lines room.hub)) (omega arith)
    (with_lines_most s m 0 room (all_lines expire_exchange room.lines room.hub) a
    (all_lines_leave s expire_exchange room.lines room.hub (λ n x hub fits. adds_leaves s 0 x (expire_exchange n x hub).0 (expires_adds n x hub) fits) a.fit)))
    (λ is. a)

-- ---- a side of a line is read; what is after an exchange

reads_side_most : (s m number : ℕ) (up : Bool) (room : Room) → AtMost s m room → AtMost s (m + reading_cost s) (read_side number up room)
reads_side_most s m number up room a = record { fit = a.fit; few = omega (arith, a.few) }

pub line_ends_most : (s m n : ℕ) (o : Option Line) (number : ℕ) (stays : Bool) (room : Room) → m + job_left s (jobs.Close number stays) ≤ suc n → AtMost s m room
    → AtMost s n (end_line o number stays room)
line_ends_most s m n None number true room less a = at_most_more s m n room (omega arith) a
line_ends_most s m n None number false room less a = at_most_more s m n room (omega arith) a
line_ends_most s m n (Some line) number true room less a =
    of_if (λ (r : Room). AtMost s n r) line.is_gone _ _ (λ is. at_most_more s m n (drop_line number room) (omega arith) (drops_line_most s m number room a))
    (λ is. at_most_more s (m + reading_cost s) n (read_side number false room) (omega arith) (reads_side_most s m number false room a))
line_ends_most s m n (Some line) number false room less a =
    of_if (λ (r : Room). AtMost s n r) line.is_gone _ _ (λ is. at_most_more s m n (drop_line number room) (omega arith) (drops_line_most s m number room a))
    (λ is. at_most_more s m n (close_line number room) (omega arith) (closes_line_most s m number room a))

-- ---- WHAT HAPPENS

further_most : (s : ℕ) (stops_now : Bool) (bytes : List ℕ) (reading : Reading)
    → for_each (byte_cost s) (reading_with_more stops_now bytes reading).unread ≤ for_each (byte_cost s) reading.unread + for_each (byte_cost s) bytes
further_most s stops_now bytes reading =
    of_if (λ (r : Reading). for_each (byte_cost s) r.unread ≤ for_each (byte_cost s) reading.unread + for_each (byte_cost s) bytes) reading.ended _ _ (λ is. omega arith)
    (λ is. of_if (λ (r : Reading). for_each (byte_cost s) r.unread ≤ for_each (byte_cost s) reading.unread + for_each (byte_cost s) bytes) stops_now _ _ (λ stops. omega arith)
    (λ goes. omega (arith, for_each-append (byte_cost s) reading.unread bytes)))

further_leaves : (s : ℕ) (up stops_now : Bool) (bytes : List ℕ) (l : Line) → OpenFits s l.exchange → LineLeaves s (for_each (byte_cost s) bytes) l (side_with_more up stops_now bytes l)
further_leaves s false stops_now bytes l fits = (fits, omega (arith, further_most s stops_now bytes l.requests))
further_leaves s true stops_now bytes l fits =
    change_line_leaves s (for_each (byte_cost s) bytes) (with_further stops_now bytes) l
    (λ x f. (record { filters = f.filters; request = f.request; response = f.response; clear = f.clear }, omega (arith, by_reader x.reader))) fits
  where
    by_reader : (o : Option Reading) → reader_left s (response_with_more stops_now bytes o) ≤ reader_left s o + for_each (byte_cost s) bytes
    by_reader None = omega arith
    by_reader (Some reading) = further_most s stops_now bytes reading

comes_most : (s m : ℕ) (up stops_now : Bool) (bytes : List ℕ) (number : ℕ) (o : Option Line) (room : Room) → AtMost s m room
    → AtMost s (m + for_each (byte_cost s) bytes + reading_cost s) (receive_on up stops_now bytes number o room)
comes_most s m up stops_now bytes number o room a =
    let on : AtMost s (m + for_each (byte_cost s) bytes) (on_lines (side_with_more up stops_now bytes) number room)
    = on_lines_most s m (for_each (byte_cost s) bytes) (side_with_more up stops_now bytes) number room a (λ l fits. further_leaves s up stops_now bytes l fits) in
    of_if (λ (r : Room). AtMost s (m + for_each (byte_cost s) bytes + reading_cost s) r) (is_open (line_reading up o) && not (up && is_answered_in (exchange_of_line o))) _ _
    (λ is. of_if (λ (r : Room). AtMost s (m + for_each (byte_cost s) bytes + reading_cost s) r) (is_read_in up (exchange_of_line o)) _ _
    (λ reads. reads_side_most s (m + for_each (byte_cost s) bytes) number up (on_lines (side_with_more up stops_now bytes) number room) on)
    (λ other. at_most_more s (m + for_each (byte_cost s) bytes) _ (on_lines (side_with_more up stops_now bytes) number room) (omega arith) on))
    (λ is. at_most_more s m _ room (omega arith) a)

lost_adds : (x : Exchange) → Adds 0 x (exchange_without_client x)
lost_adds x = record { moves = omega arith; filters = omega arith; request = omega arith; response = omega arith; unread = omega arith; clear = λ c. c }

lost_leaves : (s : ℕ) (l : Line) → OpenFits s l.exchange → LineLeaves s 0 l (line_without_client l)
lost_leaves s l fits =
    let c = change_line_leaves s 0 exchange_without_client l (λ x f. adds_leaves s 0 x (exchange_without_client x) (lost_adds x) f) fits in
    (c.0, omega (arith, c.1))

loses_down_most : (s m number : ℕ) (o : Option Line) (room : Room) → AtMost s m room → AtMost s m (lose_client number o room)
loses_down_most s m number None room a = a
loses_down_most s m number (Some line) room a =
    of_if (λ (r : Room). AtMost s m r) (is_some line.exchange) _ _
    (λ is. at_most_more s (m + 0) m (on_lines line_without_client number room) (omega arith) (on_lines_most s m 0 line_without_client number room a (λ l fits. lost_leaves s l fits)))
    (λ is. drops_line_most s m number room a)

loses_up_most : (s m number : ℕ) (o : Option Exchange) (room : Room) → AtMost s m room → AtMost s m (lose_server number o room)
loses_up_most s m number o room a =
    of_if (λ (r : Room). AtMost s m r) (is_missed o) _ _ (λ is. on_number_same s m (refuse_exchange 502) number room a (λ n x hub. refused_adds 502 n x hub)) (λ is. a)

opens_most : (s m number : ℕ) (room : Room) → AtMost s m room → AtMost s m (accept_line number room)
opens_most s m number room a =
    of_if (λ (r : Room). AtMost s m r) (is_some (place_in number room.lines)) _ _ (λ is. a)
    (λ is. of_if (λ (r : Room). AtMost s m r) (nat_lt (length room.lines) most_lines) _ _
    (λ more. record {
      fit = insert_fits s room.lines (place_for number room.lines) (new_line number) a.fit tt;
      few = omega (arith, a.few, insert_left s room.lines (place_for number room.lines) (new_line number));
    })
    (λ full. sending_most s m (to.Close number Down ∷ []) room a))

pub happens_most : (s m : ℕ) (what : What) (room : Room) → AtMost s m room → AtMost s (m + for_each (byte_cost s) (bytes_of what) + reading_cost s) (take_event what room)
happens_most s m (whats.Opened number) room a = at_most_more s m _ _ (omega arith) (opens_most s m number room a)
happens_most s m (whats.Bytes number Down bytes) room a = comes_most s m false false bytes number (line_in number room.lines) room a
happens_most s m (whats.Bytes number Up bytes) room a = comes_most s m true false bytes number (line_in number room.lines) room a
happens_most s m (whats.End number Down) room a = comes_most s m false true [] number (line_in number room.lines) room a
happens_most s m (whats.End number Up) room a = comes_most s m true true [] number (line_in number room.lines) room a
happens_most s m (whats.Gone number Down) room a = at_most_more s m _ _ (omega arith) (loses_down_most s m number (line_in number room.lines) room a)
happens_most s m (whats.Gone number Up) room a = at_most_more s m _ _ (omega arith) (loses_up_most s m number (exchange_on number room) room a)
happens_most s m (whats.Joined number) room a = at_most_more s m _ _ (omega arith) a
happens_most s m (whats.Refused number) room a = at_most_more s m _ _ (omega arith) (loses_up_most s m number (exchange_on number room) room a)
happens_most s m (whats.Room number side) room a = at_most_more s m _ _ (omega arith) a
happens_most s m whats.Clock room a = at_most_more s m _ _ (omega arith) a
happens_most s m whats.Stop room a = at_most_more s m _ _ (omega arith) a

-- ---- notices

pub noticed_most : (s m n vm more : ℕ) (reply : Reply) (room : Room) → (more ≡ 0 → ⊥) → m + job_left s (jobs.Notice vm more) ≤ suc n → AtMost s m room → AtMost s n (take_notice_reply vm more reply room)
noticed_most s m n vm more (replies.Owed root queue) room some less a = record { fit = a.fit; few = omega (arith, a.few, jobs_left-append s (jobs.Ready vm root queue ∷ []) room.jobs) }
noticed_most s m n vm more replies.Absent room some less a = at_most_more s m n room (omega arith) a
noticed_most s m n vm more (replies.Value value number) room some less a = at_most_more s m n room (omega arith) a
noticed_most s m n vm more (replies.Done number) room some less a = at_most_more s m n room (omega arith) a
noticed_most s m n vm more replies.CasMismatch room some less a = at_most_more s m n room (omega arith) a
noticed_most s m n vm more replies.Full room some less a = at_most_more s m n room (omega arith) a
noticed_most s m n vm more (replies.Id queue) room some less a = at_most_more s m n room (omega arith) a
noticed_most s m n vm more (replies.Item item) room some less a = at_most_more s m n room (omega arith) a
noticed_most s m n vm more replies.Empty room some less a = at_most_more s m n room (omega arith) a
noticed_most s m n vm more replies.NoneOwed room some less a = at_most_more s m n room (omega arith) a
