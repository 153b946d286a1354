-- Lines that go, and what is read after an exchange.
use Rattle.std.proofs.Common.{◌≡◌, ◌⊎◌, inl, inr, ℕ, ◌==◌, Bool, true, false, not, ◌&&◌, List, [], ◌∷◌, ◌++◌, refl, ap, ◌∙◌, sym, subst}
use Rattle.std.specs.Prelude.{Option, None, Some, slice_get, remove, if◌then◌else◌}
use Rattle.exchange.specs.declared.types.Exchange.{Exchange}
use Rattle.exchange.specs.declared.types.Hub.{Hub}
use Rattle.exchange.specs.Heads.{is_final}
use Rattle.exchange.specs.Leaving.{bytes_sent_to as sending_to}
use Rattle.law_exchange.specs.Traffic.{up_traffic}
use Rattle.law_exchange.proofs.Traffic.{adds_none}
use Rattle.gate_io.specs.declared.event.Sent.{Sent}
use Rattle.gate_io.specs.declared.event.Sent.TheVariants as to
use Rattle.gate_io.specs.declared.event.Side.TheVariants.{Down}
use Rattle.h1_model.specs.Messages.{Due, head}
use Rattle.worker_model.specs.Room.{Room}
use Rattle.worker_model.specs.declared.types.Job.{Job}
use Rattle.worker_model.specs.declared.types.Job.TheVariants as jobs
use Rattle.worker_model.specs.declared.types.Line.{Line}
use Rattle.worker_model.specs.declared.types.ReadBatch.{ReadBatch}
use Rattle.worker_model.specs.Plan.{Plan}
use Rattle.worker_model.specs.Rooms.{place_in, room_with_sent}
use Rattle.worker_model.specs.Steps.{exchange_of_line, line_in, without_place, drop_line, close_line, read_side, end_line, refusal_sent, fixed_answer, refuse_in, refuse_line}
use Rattle.law_lines.proofs.Finding.{Seeks, missing, first, seeks, IsOnce, remove_other, remove_found, remove_once}
use Rattle.law_lines.proofs.Hearing.{no_feed}
use Rattle.law_lines.proofs.Kept.{by_bool}
use Rattle.law_lines.proofs.Looks.{is_n, look, line_in_is, equal_by}
use Rattle.law_lines.proofs.Rooms.{AllParts}
use Rattle.law_lines.proofs.Story.{puts_of, HasClose, Tail, IsRefusing, batch_of, pending, Idle, ExOk, LineOk, Known}
use Rattle.law_lines.proofs.Sides.{notes_itself, ExNotes, idle_same, ended_known, goes_known}
use Rattle.law_lines.proofs.Turned.{LineTurns, Turn, line_turn}
use Rattle.law_lines.proofs.Working.{Popped, no_exchange, refused_works}

-- ---- a line that is there no more

dropped : (m : ℕ) (lines : List Line) → Seeks (is_n m) lines → (P : List Line → Type 0) → (look m lines ≡ None → P lines)
    → ((k : ℕ) (l : Line) → slice_get lines k ≡ Some l → is_n m l ≡ true → P (remove lines k)) → P (without_place lines (place_in m lines))
dropped m lines (missing at none) P here there = subst (λ (o : Option ℕ). P (without_place lines o)) (sym at) (here none)
dropped m lines (first k l at is passes found) P here there = subst (λ (o : Option ℕ). P (without_place lines o)) (sym at) (there k l is passes)

pub drop_once : (n m : ℕ) (lines : List Line) → IsOnce (is_n n) lines → IsOnce (is_n n) (without_place lines (place_in m lines))
drop_once n m lines once = dropped m lines (seeks (is_n m) lines) (IsOnce (is_n n)) (λ e. once) (λ k l there passes. remove_once (is_n n) lines k l once there)

pub drop_other : (n m : ℕ) (lines : List Line) → (m == n) ≡ false → look n (without_place lines (place_in m lines)) ≡ look n lines
drop_other n m lines other =
    dropped m lines (seeks (is_n m) lines) (λ ls. look n ls ≡ look n lines) (λ e. refl)
    (λ k l there passes. remove_other (is_n n) lines k l there (ap (λ (j : ℕ). j == n) (equal_by l.number m passes) ∙ other))

pub drop_same : (n m : ℕ) (lines : List Line) → IsOnce (is_n n) lines → (m == n) ≡ true → look n (without_place lines (place_in m lines)) ≡ None
drop_same n m lines once here =
    dropped m lines (seeks (is_n m) lines) (λ ls. look n ls ≡ None) (λ none. subst (λ (j : ℕ). look j lines ≡ None) (equal_by m n here) none)
    (λ k l there passes. remove_found (is_n n) lines k l once there (subst (λ (j : ℕ). is_n j l ≡ true) (equal_by m n here) passes))

-- ---- the line as it is

exchange_as_is : (n : ℕ) (o : Option Exchange) (hub after : Hub) → up_traffic n after.sent ≡ up_traffic n hub.sent → ExNotes n o hub o after
exchange_as_is n None hub after same = same
exchange_as_is n (Some x) hub after same = notes_itself n x hub after same

pub line_as_is : (n : ℕ) (o : Option Line) (hub after : Hub) → up_traffic n after.sent ≡ up_traffic n hub.sent → LineTurns n o hub o after
line_as_is n None hub after same = same
line_as_is n (Some l) hub after same = (refl, refl, exchange_as_is n l.exchange hub after same, no_feed l.requests)

module _ (plan : Plan) (n : ℕ) (past : List Sent) where
  idle_line : (js : List Job) (lines : List Line) (hub : Hub) (o : Option Line) → exchange_of_line o ≡ None → LineOk plan n past None js lines o hub → Idle plan n past hub
  idle_line js lines hub None none ok = ok.1
  idle_line js lines hub (Some l) none ok = by_exchange l.exchange none ok.1
    where
      by_exchange : (o : Option Exchange) → o ≡ None → ExOk plan n past None js lines l.requests.due o hub → Idle plan n past hub
      by_exchange None is ok = ok.idle
      by_exchange (Some x) is ok = absurd (cc)

  pub drop_ok : (m : ℕ) (js ks : List Job) (lines : List Line) (hub after : Hub) → IsOnce (is_n n) lines → ((m == n) ≡ true → exchange_of_line (look n lines) ≡ None) → ((m == n) ≡ false → Turn n js None ks) → pending n None ks ≡ pending n None js
      → up_traffic n after.sent ≡ up_traffic n hub.sent → LineOk plan n past None js lines (look n lines) hub
      → LineOk plan n past None ks (without_place lines (place_in m lines)) (look n (without_place lines (place_in m lines))) after
  drop_ok m js ks lines hub after once none turn pend same ok = by_test (m == n) refl
    where
      by_test : (b : Bool) → (m == n) ≡ b → LineOk plan n past None ks (without_place lines (place_in m lines)) (look n (without_place lines (place_in m lines))) after
      by_test false other =
          subst (λ (o : Option Line). LineOk plan n past None ks (without_place lines (place_in m lines)) o after) (sym (drop_other n m lines other))
          (line_turn plan n past js None ks (turn other) lines (without_place lines (place_in m lines)) (look n lines) (look n lines) hub after refl (drop_other n m lines other) (line_as_is n (look n lines) hub after same) (λ y e. tt) ok)
      by_test true here =
          subst (λ (o : Option Line). LineOk plan n past None ks (without_place lines (place_in m lines)) o after) (sym (drop_same n m lines once here))
          (pend ∙ no_exchange plan n past js lines hub (look n lines) (none here) ok, idle_same plan n past hub after same (idle_line js lines hub (look n lines) (none here) ok))

  down_ups : (m : ℕ) (bytes : List ℕ) → up_traffic n (sending_to m Down bytes) ≡ []
  down_ups m [] = refl
  down_ups m (b ∷ bytes) = refl

  refusal_ups : (m status : ℕ) (room : Room) → up_traffic n (refusal_sent m status room).hub.sent ≡ up_traffic n room.hub.sent
  refusal_ups m status room =
      by_bool (λ (r : Room). up_traffic n r.hub.sent ≡ up_traffic n room.hub.sent) (is_final status) (room_with_sent (sending_to m Down (fixed_answer status room.hub.moment)) room) room
      (λ e. adds_none n room.hub.sent _ (down_ups m (fixed_answer status room.hub.moment))) (λ e. refl)

  refusal_rest : (m status : ℕ) (room : Room) → ((refusal_sent m status room).lines ≡ room.lines) × ((refusal_sent m status room).jobs ≡ room.jobs) × ((refusal_sent m status room).agenda ≡ room.agenda) × ((refusal_sent m status room).reading ≡ room.reading)
  refusal_rest m status room =
      by_bool (λ (r : Room). (r.lines ≡ room.lines) × (r.jobs ≡ room.jobs) × (r.agenda ≡ room.agenda) × (r.reading ≡ room.reading)) (is_final status) (room_with_sent (sending_to m Down (fixed_answer status room.hub.moment)) room) room
      (λ e. (refl, refl, refl, refl)) (λ e. (refl, refl, refl, refl))

  -- the line of a number is dropped, and nothing went up
  pub gone_known : (m : ℕ) (job : Job) (mid a later : Room) → Popped plan n past job mid → (a.lines ≡ mid.lines) × (a.jobs ≡ mid.jobs) × (a.agenda ≡ mid.agenda) × (a.reading ≡ mid.reading)
      → later.lines ≡ without_place a.lines (place_in m a.lines) → later.jobs ≡ a.jobs → later.agenda ≡ a.agenda → later.reading ≡ a.reading → up_traffic n later.hub.sent ≡ up_traffic n mid.hub.sent
      → ((m == n) ≡ true → exchange_of_line (look n mid.lines) ≡ None) → ((m == n) ≡ false → Turn n (job ∷ mid.jobs) None mid.jobs) → pending n None mid.jobs ≡ pending n None (job ∷ mid.jobs) → Known plan n past later
  gone_known m job mid a later pop alike lines js agenda reading same none turn pend =
      let lines_are : later.lines ≡ without_place mid.lines (place_in m mid.lines) = lines ∙ ap (λ (ls : List Line). without_place ls (place_in m ls)) alike.0 in
      let jobs_are : later.jobs ≡ mid.jobs = js ∙ alike.1 in
      ended_known plan n past later (subst (IsOnce (is_n n)) (sym lines_are) (drop_once n m mid.lines pop.once)) (subst AllParts (sym (agenda ∙ alike.2)) pop.parts) (subst Tail (sym jobs_are) pop.tail) (reading ∙ (alike.3 ∙ pop.quiet))
      (subst (λ l. LineOk plan n past None l later.lines (look n later.lines) later.hub) (sym jobs_are)
      (subst (λ (ls : List Line). LineOk plan n past None mid.jobs ls (look n ls) later.hub) (sym lines_are)
      (drop_ok m (job ∷ mid.jobs) mid.jobs mid.lines mid.hub later.hub pop.once none turn pend same pop.line)))

  -- nothing becomes of it
  same_known : (m : ℕ) (job : Job) (mid : Room) → Popped plan n past job mid → ((m == n) ≡ true → exchange_of_line (look n mid.lines) ≡ None) → ((m == n) ≡ true → HasClose n (job ∷ mid.jobs) → look n mid.lines ≡ None)
      → ((m == n) ≡ false → Turn n (job ∷ mid.jobs) None mid.jobs) → pending n None mid.jobs ≡ pending n None (job ∷ mid.jobs) → Known plan n past mid
  same_known m job mid pop none absent turn pend =
      ended_known plan n past mid pop.once pop.parts pop.tail pop.quiet (by_test (m == n) refl)
    where
      by_test : (b : Bool) → (m == n) ≡ b → LineOk plan n past None mid.jobs mid.lines (look n mid.lines) mid.hub
      by_test false other = line_turn plan n past (job ∷ mid.jobs) None mid.jobs (turn other) mid.lines mid.lines (look n mid.lines) (look n mid.lines) mid.hub mid.hub refl refl (line_as_is n (look n mid.lines) mid.hub mid.hub refl) (λ y e. tt) pop.line
      by_test true here = by_line (look n mid.lines) refl pop.line
        where
          by_line : (o : Option Line) → look n mid.lines ≡ o → LineOk plan n past None (job ∷ mid.jobs) mid.lines o mid.hub → LineOk plan n past None mid.jobs mid.lines o mid.hub
          by_line None at ok = (pend ∙ ok.0, ok.1)
          by_line (Some l) at ok = (ok.0, by_exchange l.exchange refl ok.1)
            where
              due_or : (due : Due) → (due ≡ head) ⊎ HasClose n (job ∷ mid.jobs) → (due ≡ head) ⊎ HasClose n mid.jobs
              due_or due (inl e) = inl e
              due_or due (inr h) = let e : ◌≡◌ {A = Option Line} (Some l) None = sym at ∙ absent here h in absurd (cc)

              by_exchange : (o : Option Exchange) → l.exchange ≡ o → ExOk plan n past None (job ∷ mid.jobs) mid.lines l.requests.due o mid.hub → ExOk plan n past None mid.jobs mid.lines l.requests.due o mid.hub
              by_exchange None some ok = record { none = pend ∙ ok.none; due_or = due_or l.requests.due ok.due_or; idle = ok.idle }
              by_exchange (Some x) some ok = let e : ◌≡◌ {A = Option Exchange} (Some x) None = sym some ∙ (ap exchange_of_line (sym at) ∙ none here) in absurd (cc)

  -- ---- what came is no request, or an exchange is refused

  refuse_turn : (m status : ℕ) (later : List Job) → (m == n) ≡ false → Turn n (jobs.Refuse m status ∷ later) None later
  refuse_turn m status later other = record { pend = refl; has = λ h. h; no = λ h. h; refusing = not_this; none = λ h. h; once = λ h. h; unread = refl; unfresh = λ f. f }
    where
      not_this : ((m == n) ≡ true) ⊎ IsRefusing n later → IsRefusing n later
      not_this (inl e) = let never : ◌≡◌ {A = Bool} true false = sym e ∙ other in absurd (cc)
      not_this (inr h) = h

  pub refuse_works : (m status : ℕ) (mid : Room) → Popped plan n past (jobs.Refuse m status) mid → Known plan n past (refuse_line (line_in m mid.lines) m status mid)
  refuse_works m status mid pop = by_line (look m mid.lines) refl
    where
      here_none : (o : Option Line) → look m mid.lines ≡ o → exchange_of_line o ≡ None → (m == n) ≡ true → exchange_of_line (look n mid.lines) ≡ None
      here_none o at none here = ap exchange_of_line (subst (λ (j : ℕ). look j mid.lines ≡ o) (equal_by m n here) at) ∙ none

      by_line : (o : Option Line) → look m mid.lines ≡ o → Known plan n past (refuse_line (line_in m mid.lines) m status mid)
      by_line None at =
          subst (λ (o : Option Line). Known plan n past (refuse_line o m status mid)) (sym (line_in_is m mid.lines ∙ at))
          (same_known m (jobs.Refuse m status) mid pop (here_none None at refl) (λ here h. subst (λ (j : ℕ). look j mid.lines ≡ None) (equal_by m n here) at) (refuse_turn m status mid.jobs) refl)
      by_line (Some l) at =
          subst (λ (o : Option Line). Known plan n past (refuse_line o m status mid)) (sym (line_in_is m mid.lines ∙ at)) (by_exchange l.exchange refl)
        where
          by_exchange : (o : Option Exchange) → l.exchange ≡ o → Known plan n past (refuse_in m status o mid)
          by_exchange None none =
              gone_known m (jobs.Refuse m status) mid (refusal_sent m status mid) (close_line m (refusal_sent m status mid)) pop (refusal_rest m status mid) refl refl refl refl
              (adds_none n (refusal_sent m status mid).hub.sent (to.Close m Down ∷ []) refl ∙ refusal_ups m status mid) (here_none (Some l) at none) (refuse_turn m status mid.jobs) refl
          by_exchange (Some x) some = refused_works plan n past m status mid pop

  -- ---- after an exchange

  close_turn : (m : ℕ) (stays : Bool) (later : List Job) (now : Option ReadBatch) → (m == n) ≡ false → batch_of n now ≡ [] → Turn n (jobs.Close m stays ∷ later) now later
  close_turn m true later now other none = record { pend = ap (λ l. puts_of n later ++ l) none; has = λ h. h; no = λ h. h.1; refusing = λ h. h; none = λ h. h; once = λ h. h; unread = none; unfresh = λ f. f }
  close_turn m false later now other none = record { pend = ap (λ l. puts_of n later ++ l) none; has = by_has; no = λ h. h.1; refusing = λ h. h; none = λ h. h; once = λ h. h; unread = none; unfresh = λ f. f }
    where
      by_has : ((m == n) ≡ true) ⊎ HasClose n later → HasClose n later
      by_has (inl e) = let never : ◌≡◌ {A = Bool} true false = sym e ∙ other in absurd (cc)
      by_has (inr h) = h

  -- no exchange is there any more
  closed_none : (m : ℕ) (stays : Bool) (later : List Job) (lines : List Line) (hub : Hub) (o : Option Line) → (m == n) ≡ true → LineOk plan n past None (jobs.Close m stays ∷ later) lines o hub → exchange_of_line o ≡ None
  closed_none m stays later lines hub None here ok = refl
  closed_none m stays later lines hub (Some l) here ok = by_exchange l.exchange ok.1
    where
      by_exchange : (o : Option Exchange) → ExOk plan n past None (jobs.Close m stays ∷ later) lines l.requests.due o hub → o ≡ None
      by_exchange None ok = refl
      by_exchange (Some x) ok = let never : ◌≡◌ {A = Bool} true false = sym here ∙ ok.unclosed.0 in absurd (cc)

  no_side : (m : ℕ) → (m == n) ≡ false → batch_of n (Some (record { line = m; up = false; batch = [] })) ≡ []
  no_side m other = λ i. if (other i) && not false then [] else []

  pub close_works : (m : ℕ) (stays : Bool) (mid : Room) → Popped plan n past (jobs.Close m stays) mid → mid.jobs ≡ [] → Known plan n past (end_line (line_in m mid.lines) m stays mid)
  close_works m stays mid pop last = by_line (look m mid.lines) refl
    where
      none_here : (m == n) ≡ true → exchange_of_line (look n mid.lines) ≡ None
      none_here here = closed_none m stays mid.jobs mid.lines mid.hub (look n mid.lines) here pop.line

      by_line : (o : Option Line) → look m mid.lines ≡ o → Known plan n past (end_line (line_in m mid.lines) m stays mid)
      by_line None at =
          subst (λ (o : Option Line). Known plan n past (end_line o m stays mid)) (sym (line_in_is m mid.lines ∙ at))
          (same_known m (jobs.Close m stays) mid pop none_here (λ here h. subst (λ (j : ℕ). look j mid.lines ≡ None) (equal_by m n here) at) (λ other. close_turn m stays mid.jobs None other refl) refl)
      by_line (Some l) at =
          subst (λ (o : Option Line). Known plan n past (end_line o m stays mid)) (sym (line_in_is m mid.lines ∙ at))
          (by_bool (Known plan n past) l.is_gone (drop_line m mid) (if stays then read_side m false mid else close_line m mid)
          (λ e. gone_known m (jobs.Close m stays) mid mid (drop_line m mid) pop (refl, refl, refl, refl) refl refl refl refl refl none_here (λ other. close_turn m stays mid.jobs None other refl) refl)
          (λ e. by_stays stays pop none_here))
        where
          by_stays : (b : Bool) → Popped plan n past (jobs.Close m b) mid → ((m == n) ≡ true → exchange_of_line (look n mid.lines) ≡ None) → Known plan n past (if b then read_side m false mid else close_line m mid)
          by_stays false popped none =
              gone_known m (jobs.Close m false) mid mid (close_line m mid) popped (refl, refl, refl, refl) refl refl refl refl (adds_none n mid.hub.sent (to.Close m Down ∷ []) refl) none (λ other. close_turn m false mid.jobs None other refl) refl
          by_stays true popped none = goes_known plan n past side mid popped.once popped.parts popped.rests last (by_test (m == n) refl)
            where
              side : ReadBatch
              side = record { line = m; up = false; batch = [] }

              by_test : (b : Bool) → (m == n) ≡ b → LineOk plan n past (Some (record { line = m; up = false; batch = [] })) [] mid.lines (look n mid.lines) mid.hub
              by_test false other =
                  subst (λ l. LineOk plan n past (Some (record { line = m; up = false; batch = [] })) l mid.lines (look n mid.lines) mid.hub) last
                  (line_turn plan n past (jobs.Close m true ∷ mid.jobs) (Some (record { line = m; up = false; batch = [] })) mid.jobs (close_turn m true mid.jobs (Some (record { line = m; up = false; batch = [] })) other (no_side m other)) mid.lines mid.lines
                  (look n mid.lines) (look n mid.lines) mid.hub mid.hub refl refl (line_as_is n (look n mid.lines) mid.hub mid.hub refl) (λ y e is. let never : ◌≡◌ {A = Bool} true false = sym is ∙ other in absurd (cc)) popped.line)
              by_test true here = by_look (look n mid.lines) (none here) popped.line
                where
                  no_batch : batch_of n (Some (record { line = m; up = false; batch = [] })) ≡ []
                  no_batch = ap (λ c. if c && not false then [] else []) here

                  by_look : (o : Option Line) → exchange_of_line o ≡ None → LineOk plan n past None (jobs.Close m true ∷ mid.jobs) mid.lines o mid.hub → LineOk plan n past (Some (record { line = m; up = false; batch = [] })) [] mid.lines o mid.hub
                  by_look None gone ok = (no_batch, ok.1)
                  by_look (Some k) gone ok = (ok.0, by_exchange k.exchange gone ok.1)
                    where
                      due_or : (due : Due) → (due ≡ head) ⊎ HasClose n mid.jobs → (due ≡ head) ⊎ HasClose n []
                      due_or due (inl e) = inl e
                      due_or due (inr h) = inr (subst (HasClose n) last h)

                      by_exchange : (o : Option Exchange) → o ≡ None → ExOk plan n past None (jobs.Close m true ∷ mid.jobs) mid.lines k.requests.due o mid.hub
                          → ExOk plan n past (Some (record { line = m; up = false; batch = [] })) [] mid.lines k.requests.due o mid.hub
                      by_exchange None is ok = record { none = no_batch; due_or = due_or k.requests.due ok.due_or; idle = ok.idle }
                      by_exchange (Some x) is ok = absurd (cc)
