-- Steps in which the next job in hand is worked, but for an event, seen from the two sides of the line of a number.
use Rattle.std.proofs.Common.{◌≡◌, ℕ, ◌==◌, Bool, true, false, ◌||◌, List, [], ◌∷◌, ◌++◌, refl, ap, ◌∙◌, sym, subst}
use Rattle.std.proofs.lemmas.List.{append-nil, append_assoc}
use Rattle.std.specs.Prelude.{Option, None, Some, option_map, if◌then◌else◌}
use Rattle.exchange.specs.declared.types.Exchange.{Exchange}
use Rattle.exchange.specs.declared.types.Hub.{Hub}
use Rattle.exchange.specs.Heads.{is_final}
use Rattle.exchange.specs.Leaving.{bytes_sent_to as sending_to}
use Rattle.exchange.specs.Passing.{put_read_items}
use Rattle.law_exchange.specs.Ends.{IsOwn, StaysEnded}
use Rattle.law_exchange.specs.Lives.{Deed, comes, responds, refuses, done_by}
use Rattle.law_exchange.specs.Own.{SendsOn}
use Rattle.law_exchange.proofs.Ends.{nothing_follows_end}
use Rattle.law_exchange.proofs.Own.{own_line}
use Rattle.gate_io.specs.declared.event.Sent.{Sent}
use Rattle.gate_io.specs.declared.event.Sent.TheVariants as to
use Rattle.gate_io.specs.declared.event.Side.TheVariants.{Down}
use Rattle.worker_model.specs.Room.{Room}
use Rattle.worker_model.specs.declared.types.Job.{Job}
use Rattle.worker_model.specs.declared.types.Job.TheVariants as jobs
use Rattle.worker_model.specs.declared.types.Line.{Line}
use Rattle.worker_model.specs.Plan.{Plan}
use Rattle.worker_model.specs.Rooms.{Changes, at_place, on_number, place_in, room_with_sent}
use Rattle.worker_model.specs.Steps.{enter_stages, line_in, without_place, drop_line, close_line, read_side, end_line, refusal_sent, fixed_answer, refuse_in, refuse_line}
use Rattle.law_lines.proofs.Closing.{drop_other, drop_same}
use Rattle.law_lines.proofs.Finding.{IsOnce}
use Rattle.law_lines.proofs.Kept.{by_bool}
use Rattle.law_lines.proofs.Looks.{is_n, look, line_in_is, equal_by, Beside, beside_itself, Looks}
use Rattle.law_lines.proofs.Rooms.{same_sent}
use Rattle.law_lines.proofs.Story.{NoClose, ExOk, LineOk}
use Rattle.law_lines.proofs.Turned.{Exact, same as as_it_was, changed, exact, on_another}
use Rattle.law_down.specs.InOrder.{State, shut, stands, passes, closes, and_then, state_after, has_up, lost_or_shut, state_in}
use Rattle.law_down.proofs.Under.{Closing}
use Rattle.law_down.proofs.Ordering.{runs_then}
use Rattle.law_down.proofs.Quietly.{Adds, adds_none, own_quiet}
use Rattle.law_down.proofs.Goings.{gone_of, happens_in, Goes, IsQuietly, number_goes}
use Rattle.law_down.proofs.Gone.{GoneEx, GoneOk, still, sends_so, Plain, looks_beside, looks_gone, due_in}

-- ---- what is the same

-- what is sent on the line is nothing, and what becomes of it
pub aside_step : (n : ℕ) (js : List Job) (mid later : Room) → look n later.lines ≡ look n mid.lines → Adds mid.hub later.hub → Beside n mid.hub later.hub → GoneOk n later.jobs (look n mid.lines) → due_in js mid ≡ due_in later.jobs later → Plain n js mid later
aside_step n js mid later lines adds beside ok due = record {
  change = still (λ s. refl) (ap (option_map gone_of) lines) adds (λ away. beside);
  gone = subst (GoneOk n later.jobs) (sym lines) ok;
  due = due;
}

-- where the jobs before close nothing of the line, an exchange has ended
pub gone_ended : (n : ℕ) (js ks : List Job) (o : Option Line) → (Closing n js → ⊥) → GoneOk n js o → GoneOk n ks o
gone_ended n js ks None none ok = tt
gone_ended n js ks (Some l) none ok = λ gone. by_exchange l.exchange (ok gone)
  where
    by_exchange : (o : Option Exchange) → GoneEx n js o → GoneEx n ks o
    by_exchange None closing = absurd (none closing)
    by_exchange (Some x) is = is

-- ---- what is done to the exchange of a line

-- one that has ended stays so, and nothing is sent
abbrev pub StaysSo : ℕ → Changes → Type 0
StaysSo n change = (x : Exchange) (hub : Hub) → x.has_ended ≡ true → ((change n x hub).0.has_ended ≡ true) × ((change n x hub).0.stays ≡ x.stays) × ((change n x hub).1.sent ≡ hub.sent)

deed_stays : (n : ℕ) (deed : Deed) → IsOwn deed → StaysSo n (λ m x hub. done_by m deed x hub)
deed_stays n deed own x hub ended =
    let s : StaysEnded x hub (done_by n deed x hub).0 (done_by n deed x hub).1 = nothing_follows_end n deed x hub own ended in
    (ap (λ (a : Exchange). a.has_ended) s.same ∙ ended, ap (λ (a : Exchange). a.stays) s.same, s.sends)

module _ (n : ℕ) (mid : Room) (once : IsOnce (is_n n) mid.lines) where
  pub number_step : (js : List Job) (m : ℕ) (change : Changes) → IsQuietly change → ((x : Exchange) (k : Hub) → SendsOn m k (change m x k).1) → StaysSo n change → (Closing n js → ⊥) → happens_in js ≡ happens_in mid.jobs
      → GoneOk n js (look n mid.lines) → Plain n js mid (on_number change m mid)
  number_step js m change quiet own stays none same ok = by_test (m == n) refl
    where
      later : Room
      later = on_number change m mid

      g : Goes mid (on_number change m mid)
      g = number_goes change m mid quiet

      due : due_in js mid ≡ due_in (on_number change m mid).jobs (on_number change m mid)
      due = ap (λ l. l ++ happens_in mid.agenda) same

      with_looks : Looks n (look n mid.lines) mid.hub (look n (on_number change m mid).lines) (on_number change m mid).hub → Plain n js mid (on_number change m mid)
      with_looks looks = record {
        change = still (λ s. refl) (g.lines n) g.sends (λ away. looks_beside n js (look n mid.lines) (look n later.lines) mid.hub later.hub looks ok away);
        gone = looks_gone n js mid.jobs (look n mid.lines) (look n later.lines) mid.hub later.hub looks (λ c. absurd (none c)) ok;
        due = due;
      }

      by_exact : Exact n change mid.lines mid.hub (at_place change mid.lines (place_in m mid.lines) mid.hub) → Plain n js mid (on_number change m mid)
      by_exact (as_it_was lines hub empty) = record {
        change = still (λ s. refl) (g.lines n) g.sends (λ away. same_sent n mid.hub later.hub (ap (λ (k : Hub). k.sent) hub));
        gone = subst (λ (ls : List Line). GoneOk n mid.jobs (look n ls)) (sym lines) (gone_ended n js mid.jobs (look n mid.lines) none ok);
        due = due;
      }
      by_exact (changed l x at some later_once then_at hub) =
          let ended : l.is_gone ≡ true → (x.has_ended ≡ true) × (x.stays ≡ false) = λ gone. subst (GoneEx n js) some (subst (GoneOk n js) at ok gone) in
          record {
            change = still (λ s. refl) (g.lines n) g.sends
                (λ away. by_gone l.is_gone refl ended (λ e. away (ap (option_map gone_of) at ∙ ap Some e)));
            gone = subst (GoneOk n mid.jobs) (sym then_at) (λ gone. let e = ended gone in let s = stays x mid.hub e.0 in (s.0, s.1 ∙ e.1));
            due = due;
          }
        where
          by_gone : (b : Bool) → l.is_gone ≡ b → (l.is_gone ≡ true → (x.has_ended ≡ true) × (x.stays ≡ false)) → (l.is_gone ≡ false → ⊥) → Beside n mid.hub (on_number change m mid).hub
          by_gone true is ended here = same_sent n mid.hub later.hub (ap (λ (k : Hub). k.sent) hub ∙ (stays x mid.hub (ended is).0).2)
          by_gone false is ended here = absurd (here is)

      by_test : (b : Bool) → (m == n) ≡ b → Plain n js mid (on_number change m mid)
      by_test false other = with_looks (on_another n m change mid.lines mid.hub once other own).looks
      by_test true here = by_exact (exact n m change mid.lines mid.hub once here)

  -- by a deed of its own
  pub deed_step : (js : List Job) (m : ℕ) (deed : Deed) → IsOwn deed → (Closing n js → ⊥) → happens_in js ≡ happens_in mid.jobs → GoneOk n js (look n mid.lines) → Plain n js mid (on_number (λ k x hub. done_by k deed x hub) m mid)
  deed_step js m deed own none same ok =
      number_step js m (λ k x hub. done_by k deed x hub) (λ k x hub. own_quiet k deed x hub own) (λ x k. own_line m deed x k own) (deed_stays n deed own) none same ok

  pub enter_step : (m : ℕ) → GoneOk n (jobs.Enter m ∷ mid.jobs) (look n mid.lines) → Plain n (jobs.Enter m ∷ mid.jobs) mid (on_number (enter_stages mid.dead) m mid)
  enter_step m ok =
      number_step (jobs.Enter m ∷ mid.jobs) m (enter_stages mid.dead) (λ k x hub. adds_none hub) (λ x k. record { more = []; adds = sym (append-nil k.sent); own = tt })
      (λ x hub ended. (
        by_bool (λ (y : Exchange). y.has_ended ≡ true) (x.has_ended || x.is_answered) x _ (λ e. ended) (λ e. ended),
        by_bool (λ (y : Exchange). y.stays ≡ x.stays) (x.has_ended || x.is_answered) x _ (λ e. refl) (λ e. refl),
        refl,
      )) (λ c. absurd c.0) refl ok

  pub put_step : (m : ℕ) (response : Bool) (a : _) → GoneOk n (jobs.Put m response a ∷ mid.jobs) (look n mid.lines) → Plain n (jobs.Put m response a ∷ mid.jobs) mid (on_number (put_read_items response a) m mid)
  put_step m false a ok = deed_step (jobs.Put m false a ∷ mid.jobs) m (comes a) tt (λ c. absurd c.0) refl ok
  put_step m true a ok = deed_step (jobs.Put m true a ∷ mid.jobs) m (responds a) tt (λ c. absurd c.0) refl ok

  -- ---- lines that are closed

  -- the line is dropped
  dropped_step : (js : List Job) (m : ℕ) (a : Room) (more : List Sent) → a.lines ≡ mid.lines → a.jobs ≡ mid.jobs → a.agenda ≡ mid.agenda → a.hub.sent ≡ mid.hub.sent ++ more → (later : Room) (last : List Sent) → later.lines ≡ without_place a.lines (place_in m a.lines)
      → later.jobs ≡ a.jobs → later.agenda ≡ a.agenda → later.hub.sent ≡ a.hub.sent ++ last → ((m == n) ≡ false → (s : State) → state_after n (more ++ last) s ≡ Some s) → ((m == n) ≡ true → state_after n (more ++ last) (state_in (look n mid.lines)) ≡ Some shut)
      → ((m == n) ≡ false → GoneOk n mid.jobs (look n mid.lines)) → happens_in js ≡ happens_in mid.jobs → Plain n js mid later
  dropped_step js m a more lines js_are agenda sent later last lines_later jobs_later agenda_later sent_later aside here ok same =
      record {
        change = sends_so (more ++ last) (sent_later ∙ (ap (λ (l : List Sent). l ++ last) sent ∙ append_assoc mid.hub.sent more last)) (by_test (m == n) refl);
        gone = subst (λ (ks : List Job). GoneOk n ks (look n later.lines)) (sym (jobs_later ∙ js_are)) (gone_test (m == n) refl);
        due = (λ i. (same ∙ ap happens_in (sym (jobs_later ∙ js_are))) i ++ happens_in (sym (agenda_later ∙ agenda) i));
      }
    where
      lines_are : later.lines ≡ without_place mid.lines (place_in m mid.lines)
      lines_are = lines_later ∙ ap (λ (ls : List Line). without_place ls (place_in m ls)) lines

      by_test : (b : Bool) → (m == n) ≡ b → state_after n (more ++ last) (state_in (look n mid.lines)) ≡ Some (state_in (look n later.lines))
      by_test false other = aside other (state_in (look n mid.lines)) ∙ ap (λ (o : Option Line). Some (state_in o)) (sym (ap (look n) lines_are ∙ drop_other n m mid.lines other))
      by_test true is = here is ∙ ap (λ (o : Option Line). Some (state_in o)) (sym (ap (look n) lines_are ∙ drop_same n m mid.lines once is))

      gone_test : (b : Bool) → (m == n) ≡ b → GoneOk n mid.jobs (look n later.lines)
      gone_test false other = subst (GoneOk n mid.jobs) (sym (ap (look n) lines_are ∙ drop_other n m mid.lines other)) (ok other)
      gone_test true is = subst (GoneOk n mid.jobs) (sym (ap (look n) lines_are ∙ drop_same n m mid.lines once is)) tt

  -- one of another line leaves the state
  pub close_other : (m : ℕ) → (m == n) ≡ false → (s : State) → state_after n (to.Close m Down ∷ []) s ≡ Some s
  close_other m other s = ap (λ (b : Bool). and_then (state_after n []) (if b then closes Down s else Some s)) other

  pub close_here : (m : ℕ) → (m == n) ≡ true → state_after n (to.Close m Down ∷ []) (stands false) ≡ Some shut
  close_here m here = ap (λ (b : Bool). and_then (state_after n []) (if b then Some shut else Some (stands false))) here

  bytes_other : (m : ℕ) (bytes : List ℕ) → (m == n) ≡ false → (s : State) → state_after n (sending_to m Down bytes) s ≡ Some s
  bytes_other m [] other s = refl
  bytes_other m (b ∷ bytes) other s = ap (λ (c : Bool). and_then (state_after n []) (if c then passes Down (b ∷ bytes) s else Some s)) other

  bytes_same : (m : ℕ) (bytes : List ℕ) (u : Bool) → state_after n (sending_to m Down bytes) (stands u) ≡ Some (stands u)
  bytes_same m [] u = refl
  bytes_same m (b ∷ bytes) u = by_bool (λ (o : Option State). and_then (state_after n []) o ≡ Some (stands u)) (m == n) (Some (stands u)) (Some (stands u)) (λ e. refl) (λ e. refl)

  -- a line without an exchange whose client is connected
  standing_so : (l : Line) → look n mid.lines ≡ Some l → l.is_gone ≡ false → l.exchange ≡ None → state_in (look n mid.lines) ≡ stands false
  standing_so l at here none = ap state_in at ∙ ((λ i. if here i then lost_or_shut (has_up (none i)) else stands (has_up (none i))))

  -- and one whose client is gone
  shut_so : (l : Line) → look n mid.lines ≡ Some l → l.is_gone ≡ true → l.exchange ≡ None → state_in (look n mid.lines) ≡ shut
  shut_so l at gone none = ap state_in at ∙ ((λ i. if gone i then lost_or_shut (has_up (none i)) else stands (has_up (none i))))

  there_n : (m : ℕ) (o : Option Line) → (m == n) ≡ true → look m mid.lines ≡ o → look n mid.lines ≡ o
  there_n m o here at = subst (λ (j : ℕ). look j mid.lines ≡ o) (equal_by m n here) at

  -- ---- WHAT WAS READ IS REFUSED

  pub refuse_step : (m status : ℕ) → GoneOk n (jobs.Refuse m status ∷ mid.jobs) (look n mid.lines) → Plain n (jobs.Refuse m status ∷ mid.jobs) mid (refuse_line (line_in m mid.lines) m status mid)
  refuse_step m status ok = by_line (look m mid.lines) refl
    where
      ended : GoneOk n mid.jobs (look n mid.lines)
      ended = gone_ended n (jobs.Refuse m status ∷ mid.jobs) mid.jobs (look n mid.lines) (λ c. absurd c.0) ok

      not_gone : (l : Line) → look n mid.lines ≡ Some l → l.exchange ≡ None → l.is_gone ≡ false
      not_gone l at none = by_gone l.is_gone refl
        where
          by_gone : (b : Bool) → l.is_gone ≡ b → l.is_gone ≡ false
          by_gone false is = is
          by_gone true is =
              let c : Closing n (jobs.Refuse m status ∷ mid.jobs) = subst (GoneEx n (jobs.Refuse m status ∷ mid.jobs)) none (subst (GoneOk n (jobs.Refuse m status ∷ mid.jobs)) at ok is) in
              absurd c.0

      closed_so : (l : Line) → look m mid.lines ≡ Some l → l.exchange ≡ None → Plain n (jobs.Refuse m status ∷ mid.jobs) mid (close_line m (refusal_sent m status mid))
      closed_so l at none = by_final (is_final status)
        where
          wire : List ℕ
          wire = fixed_answer status mid.hub.moment

          by_final : (b : Bool) → Plain n (jobs.Refuse m status ∷ mid.jobs) mid (close_line m (if b then room_with_sent (sending_to m Down (fixed_answer status mid.hub.moment)) mid else mid))
          by_final true =
              dropped_step (jobs.Refuse m status ∷ mid.jobs) m (room_with_sent (sending_to m Down (fixed_answer status mid.hub.moment)) mid) (sending_to m Down wire) refl refl refl refl
              (close_line m (room_with_sent (sending_to m Down (fixed_answer status mid.hub.moment)) mid)) (to.Close m Down ∷ []) refl refl refl refl
              (λ other s. runs_then n (sending_to m Down wire) (to.Close m Down ∷ []) s s s (bytes_other m wire other s) (close_other m other s))
              (λ here. let there = there_n m (Some l) here at in
              ap (state_after n (sending_to m Down wire ++ to.Close m Down ∷ [])) (standing_so l there (not_gone l there none) none)
              ∙ runs_then n (sending_to m Down wire) (to.Close m Down ∷ []) (stands false) (stands false) shut (bytes_same m wire false) (close_here m here)) (λ other. ended) refl
          by_final false =
              dropped_step (jobs.Refuse m status ∷ mid.jobs) m mid [] refl refl refl (sym (append-nil mid.hub.sent)) (close_line m mid) (to.Close m Down ∷ []) refl refl refl refl (λ other s. close_other m other s)
              (λ here. let there = there_n m (Some l) here at in ap (state_after n (to.Close m Down ∷ [])) (standing_so l there (not_gone l there none) none) ∙ close_here m here) (λ other. ended) refl

      by_line : (o : Option Line) → look m mid.lines ≡ o → Plain n (jobs.Refuse m status ∷ mid.jobs) mid (refuse_line (line_in m mid.lines) m status mid)
      by_line None at =
          subst (λ (o : Option Line). Plain n (jobs.Refuse m status ∷ mid.jobs) mid (refuse_line o m status mid)) (sym (line_in_is m mid.lines ∙ at))
          (aside_step n (jobs.Refuse m status ∷ mid.jobs) mid mid refl (adds_none mid.hub) (beside_itself n mid.hub) ended refl)
      by_line (Some l) at = subst (λ (o : Option Line). Plain n (jobs.Refuse m status ∷ mid.jobs) mid (refuse_line o m status mid)) (sym (line_in_is m mid.lines ∙ at)) (by_exchange l.exchange refl)
        where
          by_exchange : (o : Option Exchange) → l.exchange ≡ o → Plain n (jobs.Refuse m status ∷ mid.jobs) mid (refuse_in m status o mid)
          by_exchange (Some x) some = deed_step (jobs.Refuse m status ∷ mid.jobs) m (refuses status) tt (λ c. absurd c.0) refl ok
          by_exchange None none = closed_so l at none

  -- ---- BEHIND AN EXCHANGE

  pub close_step : (plan : Plan) (past : List Sent) (m : ℕ) (stays : Bool) → LineOk plan n past None (jobs.Close m stays ∷ mid.jobs) mid.lines (look n mid.lines) mid.hub → GoneOk n (jobs.Close m stays ∷ mid.jobs) (look n mid.lines)
      → Plain n (jobs.Close m stays ∷ mid.jobs) mid (end_line (line_in m mid.lines) m stays mid)
  close_step plan past m stays known ok = by_line (look m mid.lines) refl
    where
      other_ok : (m == n) ≡ false → GoneOk n mid.jobs (look n mid.lines)
      other_ok other = gone_ended n (jobs.Close m stays ∷ mid.jobs) mid.jobs (look n mid.lines) (λ c. let never : ◌≡◌ {A = Bool} true false = sym c.0 ∙ other in absurd (cc)) ok

      no_exchange : (l : Line) → (m == n) ≡ true → look n mid.lines ≡ Some l → l.exchange ≡ None
      no_exchange l here at = by_exchange l.exchange refl (subst (λ (o : Option Line). LineOk plan n past None (jobs.Close m stays ∷ mid.jobs) mid.lines o mid.hub) at known).1
        where
          by_exchange : (o : Option Exchange) → l.exchange ≡ o → ExOk plan n past None (jobs.Close m stays ∷ mid.jobs) mid.lines l.requests.due l.exchange mid.hub → l.exchange ≡ None
          by_exchange None none k = none
          by_exchange (Some x) some k =
              let busy : ExOk plan n past None (jobs.Close m stays ∷ mid.jobs) mid.lines l.requests.due (Some x) mid.hub = subst (λ (o : Option Exchange). ExOk plan n past None (jobs.Close m stays ∷ mid.jobs) mid.lines l.requests.due o mid.hub) some k in
              let open_so : NoClose n (jobs.Close m stays ∷ mid.jobs) = busy.unclosed in
              let never : ◌≡◌ {A = Bool} true false = sym here ∙ open_so.0 in absurd (cc)

      -- where its client is connected
      here_ok : (l : Line) → look m mid.lines ≡ Some l → l.is_gone ≡ false → (b : Bool) → (m == n) ≡ b → GoneOk n mid.jobs (look n mid.lines)
      here_ok l at here false other = other_ok other
      here_ok l at here true is = subst (GoneOk n mid.jobs) (sym (there_n m (Some l) is at)) (λ gone. let never : ◌≡◌ {A = Bool} true false = sym gone ∙ here in absurd (cc))

      by_line : (o : Option Line) → look m mid.lines ≡ o → Plain n (jobs.Close m stays ∷ mid.jobs) mid (end_line (line_in m mid.lines) m stays mid)
      by_line None at =
          subst (λ (o : Option Line). Plain n (jobs.Close m stays ∷ mid.jobs) mid (end_line o m stays mid)) (sym (line_in_is m mid.lines ∙ at))
          (aside_step n (jobs.Close m stays ∷ mid.jobs) mid mid refl (adds_none mid.hub) (beside_itself n mid.hub) (none_ok (m == n) refl) refl)
        where
          none_ok : (b : Bool) → (m == n) ≡ b → GoneOk n mid.jobs (look n mid.lines)
          none_ok false other = other_ok other
          none_ok true is = subst (GoneOk n mid.jobs) (sym (there_n m None is at)) tt
      by_line (Some l) at =
          subst (λ (o : Option Line). Plain n (jobs.Close m stays ∷ mid.jobs) mid (end_line o m stays mid)) (sym (line_in_is m mid.lines ∙ at))
          (by_bool (Plain n (jobs.Close m stays ∷ mid.jobs) mid) l.is_gone (drop_line m mid) (if stays then read_side m false mid else close_line m mid) gone_so
          (λ here. by_bool (Plain n (jobs.Close m stays ∷ mid.jobs) mid) stays (read_side m false mid) (close_line m mid) (λ e. reads_so here) (λ e. closed_so here)))
        where
          gone_so : l.is_gone ≡ true → Plain n (jobs.Close m stays ∷ mid.jobs) mid (drop_line m mid)
          gone_so gone =
              dropped_step (jobs.Close m stays ∷ mid.jobs) m mid [] refl refl refl (sym (append-nil mid.hub.sent)) (drop_line m mid) [] refl refl refl (sym (append-nil mid.hub.sent)) (λ other s. refl)
              (λ is. let there = there_n m (Some l) is at in ap (λ (s : State). Some s) (shut_so l there gone (no_exchange l is there))) other_ok refl

          reads_so : l.is_gone ≡ false → Plain n (jobs.Close m stays ∷ mid.jobs) mid (read_side m false mid)
          reads_so here = aside_step n (jobs.Close m stays ∷ mid.jobs) mid (read_side m false mid) refl (adds_none mid.hub) (beside_itself n mid.hub) (here_ok l at here (m == n) refl) refl

          closed_so : l.is_gone ≡ false → Plain n (jobs.Close m stays ∷ mid.jobs) mid (close_line m mid)
          closed_so here =
              dropped_step (jobs.Close m stays ∷ mid.jobs) m mid [] refl refl refl (sym (append-nil mid.hub.sent)) (close_line m mid) (to.Close m Down ∷ []) refl refl refl refl (λ other s. close_other m other s)
              (λ is. let there = there_n m (Some l) is at in ap (state_after n (to.Close m Down ∷ [])) (standing_so l there here (no_exchange l is there)) ∙ close_here m is) other_ok refl
