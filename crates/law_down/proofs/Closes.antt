-- Lines that come and go, seen from what goes down on the line of a number.
use Rattle.std.proofs.Common.{◌≡◌, ◌⊎◌, inl, inr, ℕ, ◌==◌, Bool, true, false, ◌&&◌, List, [], ◌∷◌, ◌++◌, map, refl, ap, ◌∙◌, sym, subst}
use Rattle.std.proofs.lemmas.Grind.{flat_map-append}
use Rattle.std.proofs.lemmas.List.{append-nil, append_assoc, map-append}
use Rattle.std.specs.List.{flat_map}
use Rattle.std.specs.Prelude.{Option, None, Some, option_map, if◌then◌else◌}
use Rattle.exchange.specs.declared.types.Exchange.{Exchange}
use Rattle.exchange.specs.Heads.{is_final}
use Rattle.exchange.specs.Leaving.{bytes_sent_to as sending_to}
use Rattle.law_exchange.specs.Traffic.{Traffic, byte, closes as closing, where_line}
use Rattle.law_exchange.proofs.Traffic.{here as where_here}
use Rattle.gate_io.specs.declared.event.Sent.{Sent}
use Rattle.gate_io.specs.declared.event.Sent.TheVariants as to
use Rattle.gate_io.specs.declared.event.Side.TheVariants.{Down}
use Rattle.worker_model.specs.Room.{Room}
use Rattle.worker_model.specs.declared.types.Job.{Job}
use Rattle.worker_model.specs.declared.types.Job.TheVariants as jobs
use Rattle.worker_model.specs.declared.types.Line.{Line}
use Rattle.worker_model.specs.declared.types.ReadBatch.{ReadBatch}
use Rattle.worker_model.specs.Plan.{Plan}
use Rattle.worker_model.specs.Rooms.{place_in, room_with_sent}
use Rattle.worker_model.specs.Steps.{line_in, without_place, drop_line, close_line, read_side, end_line, refusal_sent, fixed_answer, refuse_in, refuse_line}
use Rattle.law_lines.specs.Clients.{client_traffic}
use Rattle.law_lines.proofs.Finding.{IsOnce}
use Rattle.law_lines.proofs.Kept.{by_bool}
use Rattle.law_lines.proofs.Looks.{is_n, look, line_in_is, equal_by, other_is, other_by}
use Rattle.law_lines.proofs.Story.{NoClose, ExOk, LineOk}
use Rattle.law_lines.proofs.Closing.{drop_other, drop_same}
use Rattle.law_down.specs.Downward.{Part, AreStaying, IsLast, last_wire, wire_of, Connection, AreConnections, close_of, traffic_of, Closed}
use Rattle.law_down.proofs.Sending.{grows_by, grows_none, client_down}
use Rattle.law_down.proofs.Under.{backs_of, back_batch, Closing, BackReads, Waiting, LineUnder, exchange_at, held_on, Under, total_same, total_more, Alike, under_alike}
use Rattle.law_down.proofs.Works.{refused_under}

-- ---- a connection ends

connections_join : (plan : Plan) (a b : List Connection) → AreConnections plan a → AreConnections plan b → AreConnections plan (a ++ b)
connections_join plan [] b e f = f
connections_join plan (c ∷ a) b e f = (e.0, connections_join plan a b e.1 f)

-- one more
pub closed_more : (plan : Plan) (before total : List Traffic) (staying : List Part) (last : Option Part) (shut : Bool) → Closed plan before → AreStaying plan staying → IsLast plan last
    → total ≡ before ++ traffic_of (record { staying = staying; last = last; closed = shut }) → Closed plan total
closed_more plan before total staying last shut c stay lasts is =
    let one : Connection = record { staying = staying; last = last; closed = shut } in
    record {
      connections = c.connections ++ one ∷ [];
      are = connections_join plan c.connections (one ∷ []) c.are ((stay, lasts), tt);
      is = is ∙ ((λ i. c.is i ++ sym (append-nil (traffic_of one)) i) ∙ sym (flat_map-append traffic_of c.connections (one ∷ [])));
    }

pub waiting_closed : (plan : Plan) (n : ℕ) (total later : List Traffic) (js : List Job) (shut : Bool) → later ≡ total ++ close_of shut → Waiting plan n total js → Closed plan later
waiting_closed plan n total later js shut is w =
    closed_more plan w.before later w.staying w.last shut w.closed w.stay w.lasts (is ∙ (ap (λ t. t ++ close_of shut) w.is ∙ append_assoc w.before (map byte (flat_map wire_of w.staying ++ last_wire w.last)) (close_of shut)))

-- ---- closes

pub close_here : (n m : ℕ) → (m == n) ≡ true → client_traffic n (to.Close m Down ∷ []) ≡ closing ∷ []
close_here n m here = append-nil (where_line n m (closing ∷ [])) ∙ subst (λ (k : ℕ). where_line n k (closing ∷ []) ≡ closing ∷ []) (sym (equal_by m n here)) (where_here n (closing ∷ []))

pub close_aside : (n m : ℕ) → (m == n) ≡ false → client_traffic n (to.Close m Down ∷ []) ≡ []
close_aside n m other = append-nil (where_line n m (closing ∷ [])) ∙ ap (λ b. if b then closing ∷ [] else []) (other_is n m (λ e. other_by m n other (sym e)))

pub bytes_aside : (n m : ℕ) (bytes : List ℕ) → (m == n) ≡ false → client_traffic n (sending_to m Down bytes) ≡ []
bytes_aside n m [] other = refl
bytes_aside n m (b ∷ bytes) other = append-nil (where_line n m (map byte (b ∷ bytes))) ∙ ap (λ c. if c then map byte (b ∷ bytes) else []) (other_is n m (λ e. other_by m n other (sym e)))

pub bytes_here : (n m : ℕ) (bytes : List ℕ) → (m == n) ≡ true → client_traffic n (sending_to m Down bytes) ≡ map byte bytes
bytes_here n m bytes here = subst (λ (k : ℕ). client_traffic n (sending_to k Down bytes) ≡ map byte bytes) (sym (equal_by m n here)) (client_down n bytes)

module _ (plan : Plan) (n : ℕ) (past : List Sent) (mid : Room) (once : IsOnce (is_n n) mid.lines) (quiet : mid.reading ≡ None) where
  abbrev Total : Room → List Traffic
  Total room = client_traffic n (past ++ room.hub.sent)

  -- another line's
  pub aside_under : (js : List Job) (later : Room) → look n later.lines ≡ look n mid.lines → client_traffic n later.hub.sent ≡ client_traffic n mid.hub.sent → Alike n None js later.reading later.jobs → ((x : Exchange) → BackReads n later.reading x)
      → LineUnder plan n (Total mid) None js (held_on n mid.lines) → Under plan n past later
  aside_under js later lines sent a reads u =
      subst (λ (o : Option Line). LineUnder plan n (Total later) later.reading later.jobs (option_map exchange_at o)) (sym lines)
      (under_alike plan n (Total mid) (Total later) None later.reading js later.jobs (held_on n mid.lines) (total_same n past mid.hub later.hub sent) a (λ x e. reads x) u)

  none_reads : (later : Room) → later.reading ≡ None → (x : Exchange) → BackReads n later.reading x
  none_reads later is x = subst (λ (r : Option ReadBatch). BackReads n r x) (sym is) tt

  alike_none : (js : List Job) (later : Room) → later.reading ≡ None → later.jobs ≡ mid.jobs → Alike n None js None mid.jobs → Alike n None js later.reading later.jobs
  alike_none js later reading ks a = subst (λ (r : Option ReadBatch). Alike n None js r later.jobs) (sym reading) (subst (λ (l : List Job). Alike n None js None l) (sym ks) a)

  -- the line of a number is there no more
  pub dropped_under : (m : ℕ) (js : List Job) (later : Room) → later.lines ≡ without_place mid.lines (place_in m mid.lines) → later.reading ≡ None → later.jobs ≡ mid.jobs → ((m == n) ≡ false → client_traffic n later.hub.sent ≡ client_traffic n mid.hub.sent)
      → ((m == n) ≡ false → Alike n None js None mid.jobs) → ((m == n) ≡ true → Closed plan (Total later)) → LineUnder plan n (Total mid) None js (held_on n mid.lines) → Under plan n past later
  dropped_under m js later lines reading ks sent a closed u = by_test (m == n) refl
    where
      by_test : (b : Bool) → (m == n) ≡ b → Under plan n past later
      by_test false other = aside_under js later (ap (look n) lines ∙ drop_other n m mid.lines other) (sent other) (alike_none js later reading ks (a other)) (none_reads later reading) u
      by_test true here =
          subst (λ (o : Option Line). LineUnder plan n (Total later) later.reading later.jobs (option_map exchange_at o)) (sym (ap (look n) lines ∙ drop_same n m mid.lines once here)) (closed here)

  -- it waits, where there is no exchange
  waits_at : (m : ℕ) (js : List Job) (l : Line) → (m == n) ≡ true → look m mid.lines ≡ Some l → l.exchange ≡ None → LineUnder plan n (Total mid) None js (held_on n mid.lines) → Waiting plan n (Total mid) js
  waits_at m js l here at none u =
      let there : look n mid.lines ≡ Some l = subst (λ (j : ℕ). look j mid.lines ≡ Some l) (equal_by m n here) at in
      subst (λ (o : Option Exchange). LineUnder plan n (Total mid) None js (Some o)) none (subst (λ (o : Option Line). LineUnder plan n (Total mid) None js (option_map exchange_at o)) there u)

  pub waits_drop : (m : ℕ) (js : List Job) (l : Line) → look m mid.lines ≡ Some l → l.exchange ≡ None → ((m == n) ≡ false → Alike n None js None mid.jobs) → LineUnder plan n (Total mid) None js (held_on n mid.lines) → Under plan n past (drop_line m mid)
  waits_drop m js l at none a u =
      dropped_under m js (drop_line m mid) refl quiet refl (λ e. refl) a
      (λ here. waiting_closed plan n (Total mid) (Total mid) js false (sym (append-nil (Total mid))) (waits_at m js l here at none u)) u

  pub waits_close : (m : ℕ) (js : List Job) (l : Line) → look m mid.lines ≡ Some l → l.exchange ≡ None → ((m == n) ≡ false → Alike n None js None mid.jobs) → LineUnder plan n (Total mid) None js (held_on n mid.lines) → Under plan n past (close_line m mid)
  waits_close m js l at none a u =
      dropped_under m js (close_line m mid) refl quiet refl (λ other. grows_none n mid.hub.sent (to.Close m Down ∷ []) (close_aside n m other)) a
      (λ here. waiting_closed plan n (Total mid) (Total (close_line m mid)) js true (total_more n past mid.hub (close_line m mid).hub (closing ∷ []) (grows_by n mid.hub.sent (to.Close m Down ∷ []) (closing ∷ []) (close_here n m here)))
      (waits_at m js l here at none u)) u

  -- ---- what came is no request

  abbrev refusal_part : ℕ → ℕ → Part
  refusal_part status now = record { from = None; interims = []; wire = fixed_answer status now; stays = false }

  refused_closed : (m status : ℕ) (later : List Job) → (m == n) ≡ true → Waiting plan n (Total mid) (jobs.Refuse m status ∷ later) → Closed plan (Total (close_line m (refusal_sent m status mid)))
  refused_closed m status later here w = by_ends w.ends
    where
      by_final : (b : Bool) → is_final status ≡ b → w.last ≡ None → Closed plan (Total (close_line m (if b then room_with_sent (sending_to m Down (fixed_answer status mid.hub.moment)) mid else mid)))
      by_final false final none =
          waiting_closed plan n (Total mid) (Total (close_line m mid)) (jobs.Refuse m status ∷ later) true
          (total_more n past mid.hub (close_line m mid).hub (closing ∷ []) (grows_by n mid.hub.sent (to.Close m Down ∷ []) (closing ∷ []) (close_here n m here))) w
      by_final true final none =
          let wire : List ℕ = fixed_answer status mid.hub.moment in
          let told : Room = room_with_sent (sending_to m Down wire) mid in
          let grows : Total (close_line m told) ≡ Total mid ++ (map byte wire ++ closing ∷ [])
          = total_more n past told.hub (close_line m told).hub (closing ∷ []) (grows_by n told.hub.sent (to.Close m Down ∷ []) (closing ∷ []) (close_here n m here))
          ∙ (ap (λ t. t ++ closing ∷ []) (total_more n past mid.hub told.hub (map byte wire) (grows_by n mid.hub.sent (sending_to m Down wire) (map byte wire) (bytes_here n m wire here))) ∙ append_assoc (Total mid) (map byte wire) (closing ∷ [])) in
          let all : map byte (flat_map wire_of w.staying ++ last_wire w.last) ++ map byte wire ≡ map byte (flat_map wire_of w.staying ++ wire)
          = ap (λ (o : Option Part). map byte (flat_map wire_of w.staying ++ last_wire o) ++ map byte wire) none
          ∙ (ap (λ s. map byte s ++ map byte wire) (append-nil (flat_map wire_of w.staying)) ∙ sym (map-append byte (flat_map wire_of w.staying) wire)) in
          closed_more plan w.before (Total (close_line m told)) w.staying (Some (refusal_part status mid.hub.moment)) true w.closed w.stay
          (record { interims = refl; stays = refl; reply = record { status = status; fields = []; body = []; now = mid.hub.moment; final = final; is = refl } })
          (grows
          ∙ (ap (λ t. t ++ (map byte wire ++ closing ∷ [])) w.is
          ∙ (append_assoc w.before (map byte (flat_map wire_of w.staying ++ last_wire w.last)) (map byte wire ++ closing ∷ [])
          ∙ ap (λ t. w.before ++ t) (sym (append_assoc (map byte (flat_map wire_of w.staying ++ last_wire w.last)) (map byte wire) (closing ∷ [])) ∙ ap (λ t. t ++ closing ∷ []) all))))

      by_ends : (w.last ≡ None) ⊎ Closing n (jobs.Refuse m status ∷ later) → Closed plan (Total (close_line m (refusal_sent m status mid)))
      by_ends (inl none) = by_final (is_final status) refl none
      by_ends (inr c) = absurd c.0

  refusal_rest : (m status : ℕ) → ((refusal_sent m status mid).lines ≡ mid.lines) × ((refusal_sent m status mid).jobs ≡ mid.jobs) × ((refusal_sent m status mid).reading ≡ mid.reading) × ((m == n) ≡ false → client_traffic n (refusal_sent m status mid).hub.sent ≡ client_traffic n mid.hub.sent)
  refusal_rest m status =
      by_bool (λ (r : Room). (r.lines ≡ mid.lines) × (r.jobs ≡ mid.jobs) × (r.reading ≡ mid.reading) × ((m == n) ≡ false → client_traffic n r.hub.sent ≡ client_traffic n mid.hub.sent)) (is_final status) (room_with_sent (sending_to m Down (fixed_answer status mid.hub.moment)) mid) mid
      (λ e. (refl, refl, refl, (λ other. grows_none n mid.hub.sent (sending_to m Down (fixed_answer status mid.hub.moment)) (bytes_aside n m (fixed_answer status mid.hub.moment) other)))) (λ e. (refl, refl, refl, (λ other. refl)))

  pub refuse_under : (m status : ℕ) → LineOk plan n past None (jobs.Refuse m status ∷ mid.jobs) mid.lines (look n mid.lines) mid.hub
      → LineUnder plan n (Total mid) None (jobs.Refuse m status ∷ mid.jobs) (held_on n mid.lines) → Under plan n past (refuse_line (line_in m mid.lines) m status mid)
  refuse_under m status ok u = by_line (look m mid.lines) refl
    where
      js : List Job
      js = jobs.Refuse m status ∷ mid.jobs

      a : Alike n None (jobs.Refuse m status ∷ mid.jobs) None mid.jobs
      a = record { waits = refl; ends = λ c. absurd c.0 }

      by_line : (o : Option Line) → look m mid.lines ≡ o → Under plan n past (refuse_line (line_in m mid.lines) m status mid)
      by_line None at = subst (λ (o : Option Line). Under plan n past (refuse_line o m status mid)) (sym (line_in_is m mid.lines ∙ at)) (aside_under js mid refl refl (alike_none js mid quiet refl a) (none_reads mid quiet) u)
      by_line (Some l) at = subst (λ (o : Option Line). Under plan n past (refuse_line o m status mid)) (sym (line_in_is m mid.lines ∙ at)) (by_exchange l.exchange refl)
        where
          by_exchange : (o : Option Exchange) → l.exchange ≡ o → Under plan n past (refuse_in m status o mid)
          by_exchange (Some x) some = refused_under plan n past mid once quiet m status ok u
          by_exchange None none =
              let r = refusal_rest m status in
              dropped_under m js (close_line m (refusal_sent m status mid)) (ap (λ (ls : List Line). without_place ls (place_in m ls)) r.0) (r.2 ∙ quiet) r.1
              (λ other. grows_none n (refusal_sent m status mid).hub.sent (to.Close m Down ∷ []) (close_aside n m other) ∙ r.3 other) (λ e. a) (λ here. refused_closed m status mid.jobs here (waits_at m js l here at none u)) u

  -- ---- after an exchange

  no_exchange : (m : ℕ) (stays : Bool) (l : Line) → (m == n) ≡ true → look n mid.lines ≡ Some l → LineOk plan n past None (jobs.Close m stays ∷ mid.jobs) mid.lines (look n mid.lines) mid.hub → l.exchange ≡ None
  no_exchange m stays l here at ok = by_exchange l.exchange refl (subst (λ (o : Option Line). LineOk plan n past None (jobs.Close m stays ∷ mid.jobs) mid.lines o mid.hub) at ok).1
    where
      by_exchange : (o : Option Exchange) → l.exchange ≡ o → ExOk plan n past None (jobs.Close m stays ∷ mid.jobs) mid.lines l.requests.due l.exchange mid.hub → l.exchange ≡ None
      by_exchange None none ok = none
      by_exchange (Some x) some ok =
          let busy : ExOk plan n past None (jobs.Close m stays ∷ mid.jobs) mid.lines l.requests.due (Some x) mid.hub = subst (λ (o : Option Exchange). ExOk plan n past None (jobs.Close m stays ∷ mid.jobs) mid.lines l.requests.due o mid.hub) some ok in
          let open_so : NoClose n (jobs.Close m stays ∷ mid.jobs) = busy.unclosed in
          let never : ◌≡◌ {A = Bool} true false = sym here ∙ open_so.0 in absurd (cc)

  pub close_under : (m : ℕ) (stays : Bool) → LineOk plan n past None (jobs.Close m stays ∷ mid.jobs) mid.lines (look n mid.lines) mid.hub
      → LineUnder plan n (Total mid) None (jobs.Close m stays ∷ mid.jobs) (held_on n mid.lines) → Under plan n past (end_line (line_in m mid.lines) m stays mid)
  close_under m stays ok u = by_line (look m mid.lines) refl
    where
      js : List Job
      js = jobs.Close m stays ∷ mid.jobs

      other_alike : (m == n) ≡ false → Alike n None (jobs.Close m stays ∷ mid.jobs) None mid.jobs
      other_alike other = record { waits = refl; ends = λ c. let never : ◌≡◌ {A = Bool} true false = sym c.0 ∙ other in absurd (cc) }

      here_line : (l : Line) → (m == n) ≡ true → look m mid.lines ≡ Some l → look n mid.lines ≡ Some l
      here_line l here at = subst (λ (j : ℕ). look j mid.lines ≡ Some l) (equal_by m n here) at

      side : ReadBatch
      side = record { line = m; up = false; batch = [] }

      side_none : back_batch n (Some side) ≡ []
      side_none = by_bool (λ (l : List _). l ≡ []) ((m == n) && false) [] [] (λ e. refl) (λ e. refl)

      side_reads : (x : Exchange) → BackReads n (Some side) x
      side_reads x here up = absurd (cc)

      by_line : (o : Option Line) → look m mid.lines ≡ o → Under plan n past (end_line (line_in m mid.lines) m stays mid)
      by_line None at = subst (λ (o : Option Line). Under plan n past (end_line o m stays mid)) (sym (line_in_is m mid.lines ∙ at)) (by_test (m == n) refl)
        where
          by_test : (b : Bool) → (m == n) ≡ b → Under plan n past mid
          by_test false other = aside_under js mid refl refl (alike_none js mid quiet refl (other_alike other)) (none_reads mid quiet) u
          by_test true here =
              let gone : look n mid.lines ≡ None = subst (λ (j : ℕ). look j mid.lines ≡ None) (equal_by m n here) at in
              subst (λ (o : Option Line). LineUnder plan n (Total mid) mid.reading mid.jobs (option_map exchange_at o)) (sym gone) (subst (λ (o : Option Line). LineUnder plan n (Total mid) None js (option_map exchange_at o)) gone u)
      by_line (Some l) at =
          subst (λ (o : Option Line). Under plan n past (end_line o m stays mid)) (sym (line_in_is m mid.lines ∙ at))
          (by_bool (Under plan n past) l.is_gone (drop_line m mid) (if stays then read_side m false mid else close_line m mid) (λ e. drops_so (m == n) refl)
          (λ e. by_stays stays refl))
        where
          drops_so : (b : Bool) → (m == n) ≡ b → Under plan n past (drop_line m mid)
          drops_so false other = aside_under js (drop_line m mid) (drop_other n m mid.lines other) refl (alike_none js (drop_line m mid) quiet refl (other_alike other)) (none_reads (drop_line m mid) quiet) u
          drops_so true here = waits_drop m js l at (no_exchange m stays l here (here_line l here at) ok) other_alike u

          by_stays : (s : Bool) → stays ≡ s → Under plan n past (if s then read_side m false mid else close_line m mid)
          by_stays true is = by_test (m == n) refl
            where
              by_test : (b : Bool) → (m == n) ≡ b → Under plan n past (read_side m false mid)
              by_test false other =
                  aside_under js (read_side m false mid) refl refl (record { waits = ap (λ l. backs_of n mid.jobs ++ l) side_none; ends = (other_alike other).ends }) side_reads u
              by_test true here =
                  let w : Waiting plan n (Total mid) js = waits_at m js l here at (no_exchange m stays l here (here_line l here at) ok) u in
                  subst (λ (o : Option Line). LineUnder plan n (Total mid) (Some side) mid.jobs (option_map exchange_at o)) (sym (here_line l here at))
                  (subst (λ (o : Option Exchange). LineUnder plan n (Total mid) (Some side) mid.jobs (Some o)) (sym (no_exchange m stays l here (here_line l here at) ok))
                  (record { before = w.before; closed = w.closed; staying = w.staying; stay = w.stay; last = w.last; lasts = w.lasts; is = w.is; ends = by_ends w.ends }))
                where
                  by_ends : {o : Option Part} → (o ≡ None) ⊎ Closing n (jobs.Close m stays ∷ mid.jobs) → (o ≡ None) ⊎ Closing n mid.jobs
                  by_ends (inl none) = inl none
                  by_ends (inr c) = let never : ◌≡◌ {A = Bool} true false = sym is ∙ c.1 in absurd (cc)
          by_stays false is = by_test (m == n) refl
            where
              by_test : (b : Bool) → (m == n) ≡ b → Under plan n past (close_line m mid)
              by_test false other =
                  aside_under js (close_line m mid) (drop_other n m mid.lines other) (grows_none n mid.hub.sent (to.Close m Down ∷ []) (close_aside n m other)) (alike_none js (close_line m mid) quiet refl (other_alike other)) (none_reads (close_line m mid) quiet) u
              by_test true here = waits_close m js l at (no_exchange m stays l here (here_line l here at) ok) other_alike u
