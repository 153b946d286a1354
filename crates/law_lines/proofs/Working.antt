-- A step in which the next job in hand is worked.
use Rattle.std.proofs.Common.{◌≡◌, ◌⊎◌, inl, inr, ℕ, ◌==◌, Bool, true, false, not, ◌||◌, ◌&&◌, List, [], ◌∷◌, ◌++◌, refl, ap, ◌∙◌, sym, subst}
use Rattle.callouts.specs.Callouts.{is_call_line}
use Rattle.filter_host.specs.Called.{Calling}
use Rattle.std.proofs.lemmas.List.{append-nil, append_assoc}
use Rattle.std.specs.Prelude.{Option, None, Some, slice_get, nat_lt, if◌then◌else◌}
use Rattle.contexts.specs.declared.parts.Contexts.{Contexts}
use Rattle.filter_host.specs.Course.{Course, ends, asks, measures, hears}
use Rattle.filter_host.proofs.Holds.{AllEnds}
use Rattle.exchange.specs.declared.types.Exchange.{Exchange}
use Rattle.exchange.specs.declared.types.Hub.{Hub}
use Rattle.exchange.specs.Maps.{request_map}
use Rattle.exchange.specs.Passing.{put_read_items, refuse_exchange}
use Rattle.exchange.specs.Leaving.{request_framing}
use Rattle.law_exchange.specs.Lives.{comes, responds, refuses, is_over}
use Rattle.law_exchange.specs.Traffic.{up_traffic}
use Rattle.law_exchange.specs.Own.{SendsOn}
use Rattle.law_exchange.proofs.Own.{own_line}
use Rattle.filter_chain.specs.Chains.{ready}
use Rattle.filter_chain.specs.declared.item.ChainItem.{ChainItem}
use Rattle.gate_io.specs.declared.event.Sent.{Sent}
use Rattle.header_maps.specs.Headers.{Headers}
use Rattle.worker_model.specs.Room.{Room}
use Rattle.worker_model.specs.declared.types.Job.{Job}
use Rattle.worker_model.specs.declared.types.Job.TheVariants as jobs
use Rattle.worker_model.specs.declared.types.Line.{Line}
use Rattle.worker_model.specs.Plan.{Plan}
use Rattle.worker_model.specs.Rooms.{Changes, has_move, exchange_moves, at_place, at_some, in_line, in_exchange, put_back, with_lines, place_in, on_number}
use Rattle.worker_model.specs.Steps.{Both, exchange_of_line, exchange_with_stages, enter_stages, works, begins_with_head}
use Rattle.law_lines.specs.Logs.{WriteLogs}
use Rattle.law_lines.specs.Living.{requests_in}
use Rattle.law_lines.proofs.Finding.{Seeks, missing, first, seeks, IsOnce, set_other, only_found}
use Rattle.law_lines.proofs.Hearing.{Listens, same_listens}
use Rattle.law_lines.proofs.Kept.{Kept, by_bool, put_in_kept, refused_kept}
use Rattle.law_lines.proofs.Looks.{is_n, look, beside_itself, aside, IsPlain, LivesOn, equal_by, Still, still_aside}
use Rattle.law_lines.proofs.Maps.{mark_map}
use Rattle.law_lines.proofs.OnLines.{none_passes}
use Rattle.law_lines.proofs.Rooms.{AllParts, Calm, calm_of, same_sent}
use Rattle.law_lines.proofs.Calls.{IsCalm, works_calm, enters_plain}
use Rattle.law_lines.proofs.Story.{asked_on, puts_of, Tail, Rests, IsFreshJobs, IsRefusing, NoEnter, Flow, flows, ceases, Passage, Becomes, grows_past, passage_on, lives_up, pending, Proper, Matches, Stream, fresh, going, doomed, Tale, plainly, filtered, Busy, ExOk, LineOk, Known, LivesUp, story_on}
use Rattle.law_lines.proofs.Calmed.{Shift, shift_alike, FreshOn, known_calm, other_on, stream_calm}
use Rattle.law_lines.proofs.Beyond.{lives_then}
use Rattle.law_lines.proofs.Phases.{run, fresh as fresh_phase}
use Rattle.law_lines.proofs.Upward.{Onward, made_goes}
use Rattle.law_lines.proofs.Sides.{ended_known}
use Rattle.law_lines.proofs.Exact.{puts_story, puts_passage, refused_over}
use Rattle.law_lines.proofs.Turned.{Exact, same, changed, exact, on_another, own_up, own_becomes}

-- ---- jobs that bring the line no item

-- those among them that make no stages
abbrev pub IsSimple : Job → Type 0
IsSimple (jobs.Enter number) = ⊥
IsSimple job = IsCalm job

simple_calm : (job : Job) → IsSimple job → IsCalm job
simple_calm (jobs.Enter number) is = absurd is
simple_calm job is = is

pub shift_pop : (n : ℕ) (job : Job) (later : List Job) → IsCalm job → Shift n (job ∷ later) later
shift_pop n (jobs.Happen w) later is = absurd is
shift_pop n (jobs.Put m response items) later is = absurd is
shift_pop n (jobs.Refuse m status) later is = absurd is
shift_pop n (jobs.Close m stays) later is = absurd is
shift_pop n (jobs.Enter m) later is = absurd is
shift_pop n job later is = record { puts = refl; has = λ h. h; no = λ h. h; refusing = λ h. h; none = λ h. h; once = λ h. h }

not_fresh : (n : ℕ) (job : Job) (later : List Job) → IsSimple job → IsFreshJobs n (job ∷ later) → ⊥
not_fresh n (jobs.Enter m) later is f = is
not_fresh n (jobs.Put m response items) later is f = is
not_fresh n job later is f = f

-- where a job was in hand, this one comes next
pub record Popped (plan : Plan) (n : ℕ) (past : List Sent) (job : Job) (mid : Room) : Type 0 where
  pub once : IsOnce (is_n n) mid.lines
  pub parts : AllParts mid.agenda
  pub tail : Tail mid.jobs
  pub quiet : mid.reading ≡ None
  pub rests : Rests mid.lines
  pub line : LineOk plan n past None (job ∷ mid.jobs) mid.lines (look n mid.lines) mid.hub

module _ {H : Type 0} (calling : Calling H) (logs : WriteLogs calling) (plan : Plan) (n : ℕ) (past : List Sent) where
  abbrev pub Leaves : Course (Both H) → Type 0
  Leaves course = AllEnds (λ (b : Both H). Known plan n past b.room) course

  known_all : (job : Job) (mid : Room) → Popped plan n past job mid → (p : Course (Both H)) → IsCalm job → ((later : Room) → Calm n mid later → FreshOn n (job ∷ mid.jobs) mid.lines mid.hub later.jobs later.lines later.hub)
      → AllEnds (λ (b : Both H). Calm n mid b.room) p → Leaves p
  known_all job mid pop (ends b) is on calm = known_calm plan n past (job ∷ mid.jobs) mid b.room pop.parts pop.tail pop.quiet pop.line (shift_pop n job mid.jobs is) calm (on b.room calm)
  known_all job mid pop (asks vm call k) is on calm = λ r. known_all job mid pop (k r) is on (calm r)
  known_all job mid pop (measures vm call k) is on calm = λ r. known_all job mid pop (k r) is on (calm r)
  known_all job mid pop (hears t k) is on calm = λ h says. known_all job mid pop (k h) is on (calm h says)

  pub simple_works : is_call_line n ≡ false → (job : Job) (host : H) (mid : Room) → Popped plan n past job mid → IsSimple job → Leaves (works calling plan job host mid)
  simple_works low job host mid pop is =
      known_all job mid pop (works calling plan job host mid) (simple_calm job is) (λ later calm l m x y fields at some behind there p place asked f rests map proper. absurd (not_fresh n job mid.jobs is f))
      (works_calm calling logs n low plan job host mid (simple_calm job is) pop.once)

-- ---- stages are made

fresh_next : (n m : ℕ) (later : List Job) → IsFreshJobs n (jobs.Enter m ∷ later) → IsFreshJobs n later
fresh_next n m (jobs.Put k false items ∷ later) f = (f.1, f.2)
fresh_next n m later f = absurd f

none_both : {A : Type 0} (b c : List A) → b ++ c ≡ [] → (b ≡ []) × (c ≡ [])
none_both [] c is = (refl, is)
none_both (i ∷ b) c is = absurd (cc)

fresh_puts : (n : ℕ) (later : List Job) → IsFreshJobs n later → puts_of n later ≡ [] → ⊥
fresh_puts n (jobs.Put k false items ∷ later) f none =
    let gone : items ≡ [] = (λ i. if sym f.0 i then items else []) ∙ (none_both (if k == n then items else []) (puts_of n later) none).0 in
    let never : ◌≡◌ {A = Bool} false true = ap begins_with_head (sym gone) ∙ f.1 in absurd (cc)
fresh_puts n (jobs.Enter k ∷ jobs.Put j false items ∷ later) f none =
    let gone : items ≡ [] = (λ i. if sym f.1 i then items else []) ∙ (none_both (if j == n then items else []) (puts_of n later) none).0 in
    let never : ◌≡◌ {A = Bool} false true = ap begins_with_head (sym gone) ∙ f.2 in absurd (cc)
fresh_puts n later f none = absurd f

fresh_line : (n m : ℕ) (later : List Job) → IsFreshJobs n (jobs.Enter m ∷ later) → (m == n) ≡ true
fresh_line n m (jobs.Put k false items ∷ later) f = f.0
fresh_line n m later f = absurd f

and_none : (b : Bool) → (b && false) ≡ false
and_none true = refl
and_none false = refl

plain_rests : (l : Line) (y : Exchange) → l.exchange ≡ Some y → IsPlain y → has_move l ≡ false
plain_rests l y is p = ap exchange_moves is ∙ ((λ i. not y.has_ended && (nat_lt 0 (ready (p.1 i)) || nat_lt 0 (ready (p.2 i)))) ∙ and_none (not y.has_ended))

enter_maps : (dead : List ℕ) (m p : ℕ) (lines : List Line) (hub : Hub) → request_map p (at_place (enter_stages dead) lines (place_in m lines) hub).1.contexts ≡ request_map p hub.contexts
enter_maps dead m p lines hub = by_place (place_in m lines)
  where
    by_line : (k : ℕ) (o : Option Line) → request_map p (at_some (enter_stages dead) lines k o hub).1.contexts ≡ request_map p hub.contexts
    by_line k None = refl
    by_line k (Some l) = by_exchange l.exchange
      where
        by_exchange : (o : Option Exchange) → request_map p (put_back lines k (in_exchange (enter_stages dead) l o hub)).1.contexts ≡ request_map p hub.contexts
        by_exchange None = refl
        by_exchange (Some x) = mark_map (exchange_with_stages dead x).is_answered (exchange_with_stages dead x).has_ended (exchange_with_stages dead x).is_head_out (exchange_with_stages dead x).place p hub.contexts

    by_place : (o : Option ℕ) → request_map p (at_place (enter_stages dead) lines o hub).1.contexts ≡ request_map p hub.contexts
    by_place None = refl
    by_place (Some k) = by_line k (slice_get lines k)

enter_rests : (n m : ℕ) (dead : List ℕ) (lines : List Line) (hub : Hub) (l : Line) (x : Exchange) → IsOnce (is_n n) lines → (m == n) ≡ true → look n lines ≡ Some l → l.exchange ≡ Some x → IsPlain x → Rests lines
    → Rests (at_place (enter_stages dead) lines (place_in m lines) hub).0
enter_rests n m dead lines hub l x once here at some p rests = by_seek (seeks (is_n m) lines)
  where
    by_seek : Seeks (is_n m) lines → Rests (at_place (enter_stages dead) lines (place_in m lines) hub).0
    by_seek (missing absent none) = subst (λ (o : Option ℕ). Rests (at_place (enter_stages dead) lines o hub).0) (sym absent) rests
    by_seek (first k q place there passes found) =
        subst (λ (o : Option ℕ). Rests (at_place (enter_stages dead) lines o hub).0) (sym place)
        (subst (λ (o : Option Line). Rests (at_some (enter_stages dead) lines k o hub).0) (sym there)
        (set_other has_move lines k q (in_line (enter_stages dead) q hub).0 there (none_passes has_move lines k q rests there) still ∙ rests))
      where
        mine : is_n n q ≡ true
        mine = subst (λ (j : ℕ). is_n j q ≡ true) (equal_by m n here) passes

        there_n : look n lines ≡ Some q
        there_n = only_found (is_n n) lines k q once there mine

        is_it : q ≡ l
        is_it = let e : Some q ≡ Some l = sym there_n ∙ at in cc

        some_q : q.exchange ≡ Some x
        some_q = ap (λ (j : Line). j.exchange) is_it ∙ some

        on : LivesOn n x hub (exchange_with_stages dead x) hub
        on = enters_plain n dead x hub p

        still : has_move (in_line (enter_stages dead) q hub).0 ≡ false
        still = ap (λ (o : Option Exchange). has_move (in_exchange (enter_stages dead) q o hub).0) some_q ∙ plain_rests (in_exchange (enter_stages dead) q (Some x) hub).0 (exchange_with_stages dead x) refl on.plain

-- ---- what was read comes to a chain; or is refused

-- a line without an exchange
pub no_exchange : (plan : Plan) (n : ℕ) (past : List Sent) (js : List Job) (lines : List Line) (hub : Hub) (o : Option Line) → exchange_of_line o ≡ None → LineOk plan n past None js lines o hub → pending n None js ≡ []
no_exchange plan n past js lines hub None none ok = ok.0
no_exchange plan n past js lines hub (Some l) none ok = by_exchange l.exchange none ok.1
  where
    by_exchange : (o : Option Exchange) → o ≡ None → ExOk plan n past None js lines l.requests.due o hub → pending n None js ≡ []
    by_exchange None is ok = ok.none
    by_exchange (Some x) is ok = absurd (cc)

module _ (plan : Plan) (n : ℕ) (past : List Sent) where
  -- an exchange of the line became another
  became : (job : Job) (mid : Room) (p : List Line × Hub) (l : Line) (x y : Exchange) → Popped plan n past job mid → look n mid.lines ≡ Some l → l.exchange ≡ Some x → IsOnce (is_n n) p.0 → look n p.0 ≡ Some (record l { exchange = Some y })
      → (Busy plan n past None (job ∷ mid.jobs) mid.lines l.requests.due x mid.hub → Busy plan n past None mid.jobs p.0 l.requests.due y p.1) → Known plan n past (with_lines mid p)
  became job mid p l x y pop at some once then_at step =
      ended_known plan n past (with_lines mid p) once pop.parts pop.tail pop.quiet
      (subst (λ (o : Option Line). LineOk plan n past None mid.jobs p.0 o p.1) (sym then_at) (there.0, step (subst (λ (o : Option Exchange). ExOk plan n past None (job ∷ mid.jobs) mid.lines l.requests.due o mid.hub) some there.1)))
    where
      there : LineOk plan n past None (job ∷ mid.jobs) mid.lines (Some l) mid.hub
      there = subst (λ (o : Option Line). LineOk plan n past None (job ∷ mid.jobs) mid.lines o mid.hub) at pop.line

  -- no exchange is there
  unchanged : (job : Job) (mid : Room) (p : List Line × Hub) → Popped plan n past job mid → Shift n (job ∷ mid.jobs) mid.jobs → (IsFreshJobs n (job ∷ mid.jobs) → exchange_of_line (look n mid.lines) ≡ None → ⊥) → exchange_of_line (look n mid.lines) ≡ None
      → p.0 ≡ mid.lines → p.1 ≡ mid.hub → Known plan n past (with_lines mid p)
  unchanged job mid p pop s unfresh none lines hub =
      let later : Room = with_lines mid p in
      let still : Still n mid.lines mid.hub p.0 p.1
      = subst (λ (ls : List Line). Still n mid.lines mid.hub ls p.1) (sym lines) (subst (λ (k : Hub). Still n mid.lines mid.hub mid.lines k) (sym hub) (still_aside n mid.lines mid.hub mid.hub pop.once (beside_itself n mid.hub))) in
      known_calm plan n past (job ∷ mid.jobs) mid later pop.parts pop.tail pop.quiet pop.line s (calm_of n mid later still refl refl refl)
      (λ l k x y fields at some behind there q place asked f rests map proper. absurd (clash l x at some))
    where
      clash : (l : Line) (x : Exchange) → look n mid.lines ≡ Some l → l.exchange ≡ Some x → ⊥
      clash l x at some = let e : ◌≡◌ {A = Option Exchange} (Some x) None = sym some ∙ (ap exchange_of_line (sym at) ∙ none) in absurd (cc)

  -- another line's
  elsewhere : (job : Job) (m : ℕ) (change : Changes) (mid : Room) → Popped plan n past job mid → Shift n (job ∷ mid.jobs) mid.jobs → (IsFreshJobs n (job ∷ mid.jobs) → ⊥) → (m == n) ≡ false → ((x : Exchange) (k : Hub) → SendsOn m k (change m x k).1)
      → Known plan n past (on_number change m mid)
  elsewhere job m change mid pop s unfresh other own =
      let later : Room = on_number change m mid in
      known_calm plan n past (job ∷ mid.jobs) mid later pop.parts pop.tail pop.quiet pop.line s (calm_of n mid later (on_another n m change mid.lines mid.hub pop.once other own) refl refl refl)
      (λ l k x y fields at some behind there q place asked f rests map proper. absurd (unfresh f))

  -- STAGES ARE MADE
  pub enter_works : (m : ℕ) (mid : Room) → Popped plan n past (jobs.Enter m) mid → Known plan n past (on_number (enter_stages mid.dead) m mid)
  enter_works m mid pop = by_test (m == n) refl
    where
      p : List Line × Hub
      p = at_place (enter_stages mid.dead) mid.lines (place_in m mid.lines) mid.hub

      by_test : (b : Bool) → (m == n) ≡ b → Known plan n past (on_number (enter_stages mid.dead) m mid)
      by_test false other =
          elsewhere (jobs.Enter m) m (enter_stages mid.dead) mid pop (record { puts = refl; has = λ h. h; no = λ h. h; refusing = λ h. h; none = λ h. h.1; once = λ h. h.1 })
          (λ f. let never : ◌≡◌ {A = Bool} true false = sym (fresh_line n m mid.jobs f) ∙ other in absurd (cc)) other (λ x k. record { more = []; adds = sym (append-nil k.sent); own = tt })
      by_test true here = by_exact (exact n m (enter_stages mid.dead) mid.lines mid.hub pop.once here)
        where
          by_exact : Exact n (enter_stages mid.dead) mid.lines mid.hub (at_place (enter_stages mid.dead) mid.lines (place_in m mid.lines) mid.hub) → Known plan n past (on_number (enter_stages mid.dead) m mid)
          by_exact (same lines hub none) =
              unchanged (jobs.Enter m) mid (at_place (enter_stages mid.dead) mid.lines (place_in m mid.lines) mid.hub) pop (record { puts = refl; has = λ h. h; no = λ h. h; refusing = λ h. h; none = λ h. h.1; once = λ h. h.1 })
              (λ f e. no_fresh f e) none lines hub
            where
              no_fresh : IsFreshJobs n (jobs.Enter m ∷ mid.jobs) → exchange_of_line (look n mid.lines) ≡ None → ⊥
              no_fresh f e =
                  let gone : pending n None (jobs.Enter m ∷ mid.jobs) ≡ [] = no_exchange plan n past (jobs.Enter m ∷ mid.jobs) mid.lines mid.hub (look n mid.lines) e pop.line in
                  fresh_puts n mid.jobs (fresh_next n m mid.jobs f) (sym (append-nil (puts_of n mid.jobs)) ∙ gone)
          by_exact (changed l x at some once then_at hub) =
              became (jobs.Enter m) mid (at_place (enter_stages mid.dead) mid.lines (place_in m mid.lines) mid.hub) l x (exchange_with_stages mid.dead x) pop at some once then_at
              (λ b. record {
                staid = λ e. subst (λ (q : _). q ≡ true) (ap (λ (q : _). q.whole) (sym asked)) (b.staid (stays_same e));
                matches = subst (λ w. Matches w l.requests.due) (ap (λ (q : _). q.whole) (sym asked)) b.matches;
                unclosed = b.unclosed;
                reads = tt;
                tale = by_tale b.tale;
              })
            where
              y : Exchange
              y = exchange_with_stages mid.dead x

              later : List Line
              later = (at_place (enter_stages mid.dead) mid.lines (place_in m mid.lines) mid.hub).0

              after : Hub
              after = (at_place (enter_stages mid.dead) mid.lines (place_in m mid.lines) mid.hub).1

              asked : (exchange_with_stages mid.dead x).asked ≡ x.asked
              asked = by_bool (λ (z : Exchange). z.asked ≡ x.asked) (x.has_ended || x.is_answered) x _ (λ e. refl) (λ e. refl)

              stays_same : (exchange_with_stages mid.dead x).stays ≡ true → x.stays ≡ true
              stays_same = by_bool (λ (z : Exchange). z.stays ≡ true → x.stays ≡ true) (x.has_ended || x.is_answered) x _ (λ e d. d) (λ e d. d)

              framed : request_framing (exchange_with_stages mid.dead x) ≡ request_framing x
              framed = by_bool (λ (z : Exchange). request_framing z ≡ request_framing x) (x.has_ended || x.is_answered) x _ (λ e. refl) (λ e. refl)

              filters : (exchange_with_stages mid.dead x).filters ≡ x.filters
              filters = by_bool (λ (z : Exchange). z.filters ≡ x.filters) (x.has_ended || x.is_answered) x _ (λ e. refl) (λ e. refl)

              place : (exchange_with_stages mid.dead x).place ≡ x.place
              place = by_bool (λ (z : Exchange). z.place ≡ x.place) (x.has_ended || x.is_answered) x _ (λ e. refl) (λ e. refl)

              over : is_over (exchange_with_stages mid.dead x) ≡ is_over x
              over = by_bool (λ (z : Exchange). is_over z ≡ is_over x) (x.has_ended || x.is_answered) x _ (λ e. refl) (λ e. refl)

              sent : after.sent ≡ mid.hub.sent
              sent = ap (λ (k : Hub). k.sent) hub

              listens : Listens n mid.lines later
              listens = same_listens n mid.lines later l (record l { exchange = Some (exchange_with_stages mid.dead x) }) at then_at refl

              enters_on : (h : _) (start : Exchange) (base : _) (got : List ChainItem) → Passage n past None (jobs.Enter m ∷ mid.jobs) mid.lines x mid.hub h start base got → Passage n past None mid.jobs later (exchange_with_stages mid.dead x) after h start base got
              enters_on h start base got q =
                  let free : x.is_entered ≡ false = unentered (x.is_entered) refl q.enters.none in
                  let o : Onward n mid.hub (exchange_with_stages mid.dead x, mid.hub) q.went (run fresh_phase got) = made_goes n mid.dead x mid.hub free q.went (run fresh_phase got) q.up in
                  record {
                    went = q.went ++ o.more;
                    adds = grows_past n past mid.hub after base q.went o.more (ap (up_traffic n) sent ∙ o.grows) q.adds;
                    heard = q.heard;
                    was = listens h q.heard q.was;
                    up = o.goes;
                    place = place ∙ q.place;
                    asked = asked_on x (exchange_with_stages mid.dead x) start asked q.asked;
                    minor = ap (λ (a : _). a.minor) asked ∙ q.minor;
                    framed = framed ∙ q.framed;
                    flow = by_flow q.flow;
                    enters = record { once = q.enters.once.1; none = λ e. q.enters.once.0 here; first = λ e. absurd (cc) };
                  }
                where
                  unentered : (b : Bool) → x.is_entered ≡ b → (x.is_entered ≡ true → NoEnter n (jobs.Enter m ∷ mid.jobs)) → x.is_entered ≡ false
                  unentered false is none = is
                  unentered true is none = let never : ◌≡◌ {A = Bool} true false = sym here ∙ (none is).0 in absurd (cc)

                  by_flow : Flow n None (jobs.Enter m ∷ mid.jobs) x got q.heard → Flow n None mid.jobs (exchange_with_stages mid.dead x) got q.heard
                  by_flow (flows proper e) = flows (subst (λ w. Proper (got ++ pending n None mid.jobs) w) (sym (ap (λ (a : _). a.whole) asked)) proper) e
                  by_flow (ceases message none (inl is) front) = ceases message none (inl (over ∙ is)) front
                  by_flow (ceases message none (inr is) front) = ceases message none (inr is) front

              by_stream : (fields : Headers) (got : List ChainItem) → IsPlain x → Stream n None (jobs.Enter m ∷ mid.jobs) mid.lines x mid.hub.contexts fields got → Stream n None mid.jobs later (exchange_with_stages mid.dead x) after.contexts fields got
              by_stream fields got plain (fresh none is rests map proper) =
                  fresh none (fresh_next n m mid.jobs is) (enter_rests n m mid.dead mid.lines mid.hub l x pop.once here at some plain rests)
                  ((λ i. request_map (place i) after.contexts) ∙ (enter_maps mid.dead m x.place mid.lines mid.hub ∙ map)) (subst (λ w. Proper (pending n None mid.jobs) w) (sym (ap (λ (a : _). a.whole) asked)) proper)
              by_stream fields got plain (going begins proper) = going begins (subst (λ w. Proper (got ++ pending n None mid.jobs) w) (sym (ap (λ (a : _). a.whole) asked)) proper)
              by_stream fields got plain (doomed message none (inl is)) = doomed message none (inl (over ∙ is))
              by_stream fields got plain (doomed message none (inr is)) = doomed message none (inr is)

              by_tale : Tale plan n past None (jobs.Enter m ∷ mid.jobs) mid.lines x mid.hub → Tale plan n past None mid.jobs later (exchange_with_stages mid.dead x) after
              by_tale (plainly s) =
                  let on : LivesOn n x mid.hub (exchange_with_stages mid.dead x) mid.hub = enters_plain n mid.dead x mid.hub s.plain in
                  let last : LivesOn n (exchange_with_stages mid.dead x) mid.hub (exchange_with_stages mid.dead x) after = (aside n (exchange_with_stages mid.dead x) mid.hub after (same_sent n mid.hub after sent)).plain on.plain in
                  let l : LivesUp n x mid.hub (exchange_with_stages mid.dead x) after = lives_then n x (exchange_with_stages mid.dead x) (exchange_with_stages mid.dead x) mid.hub mid.hub after (lives_up n x (exchange_with_stages mid.dead x) mid.hub mid.hub on) (lives_up n (exchange_with_stages mid.dead x) (exchange_with_stages mid.dead x) mid.hub after last) in
                  plainly (story_on plan n past None None (jobs.Enter m ∷ mid.jobs) mid.jobs mid.lines later x (exchange_with_stages mid.dead x) mid.hub after s l (ap (λ (a : _). a.minor) asked)
                  (enters_on s.head s.start (up_traffic n s.start_hub.sent) _ s.passage) (by_stream s.head.fields (requests_in s.deeds) s.plain s.stream))
              by_tale (filtered o) = filtered (record {
                filters = λ e. o.filters (sym filters ∙ e);
                head = o.head;
                start = o.start;
                begun = o.begun;
                some = o.some;
                base = o.base;
                before = o.before;
                got = o.got;
                passage = enters_on o.head o.start o.base o.got o.passage;
              })

  -- WHAT WAS READ OF A REQUEST
  pub request_works : (m : ℕ) (a : List ChainItem) (mid : Room) → Popped plan n past (jobs.Put m false a) mid → Known plan n past (on_number (put_read_items false a) m mid)
  request_works m a mid pop = by_test (m == n) refl
    where
      js : List Job
      js = jobs.Put m false a ∷ mid.jobs

      by_test : (b : Bool) → (m == n) ≡ b → Known plan n past (on_number (put_read_items false a) m mid)
      by_test false other =
          elsewhere (jobs.Put m false a) m (put_read_items false a) mid pop
          (record { puts = (λ i. (if sym other i then a else []) ++ puts_of n mid.jobs); has = λ h. h; no = λ h. h; refusing = λ h. h; none = λ h. h; once = λ h. h })
          (λ f. let never : ◌≡◌ {A = Bool} true false = sym f.0 ∙ other in absurd (cc)) other (λ x k. own_line m (comes a) x k tt)
      by_test true here = by_exact (exact n m (put_read_items false a) mid.lines mid.hub pop.once here)
        where
          by_exact : Exact n (put_read_items false a) mid.lines mid.hub (at_place (put_read_items false a) mid.lines (place_in m mid.lines) mid.hub) → Known plan n past (on_number (put_read_items false a) m mid)
          by_exact (same lines hub none) =
              let gone : pending n None (jobs.Put m false a ∷ mid.jobs) ≡ [] = no_exchange plan n past (jobs.Put m false a ∷ mid.jobs) mid.lines mid.hub (look n mid.lines) none pop.line in
              let empty : puts_of n (jobs.Put m false a ∷ mid.jobs) ≡ [] = sym (append-nil (puts_of n (jobs.Put m false a ∷ mid.jobs))) ∙ gone in
              let rest_empty : puts_of n mid.jobs ≡ [] = (none_both (if m == n then a else []) (puts_of n mid.jobs) empty).1 in
              unchanged (jobs.Put m false a) mid (at_place (put_read_items false a) mid.lines (place_in m mid.lines) mid.hub) pop (record { puts = rest_empty ∙ sym empty; has = λ h. h; no = λ h. h; refusing = λ h. h; none = λ h. h; once = λ h. h })
              (λ f e. let gone_b : begins_with_head a ≡ false = ap begins_with_head ((λ i. if sym here i then a else []) ∙ (none_both (if m == n then a else []) (puts_of n mid.jobs) empty).0) in absurd (cc)) none lines hub
          by_exact (changed l x at some once then_at hub) =
              became (jobs.Put m false a) mid (at_place (put_read_items false a) mid.lines (place_in m mid.lines) mid.hub) l x (put_read_items false a n x mid.hub).0 pop at some once then_at
              (λ b. record {
                staid = (put_in_kept false a n x mid.hub).staid b.staid;
                matches = subst (λ w. Matches w l.requests.due) (sym (ap (λ q. q.whole) (put_in_kept false a n x mid.hub).asked)) b.matches;
                unclosed = b.unclosed;
                reads = tt;
                tale = by_tale b.tale;
              })
            where
              p : List Line × Hub
              p = at_place (put_read_items false a) mid.lines (place_in m mid.lines) mid.hub

              sent : (at_place (put_read_items false a) mid.lines (place_in m mid.lines) mid.hub).1.sent ≡ (put_read_items false a n x mid.hub).1.sent
              sent = ap (λ (k : Hub). k.sent) hub

              listens : Listens n mid.lines (at_place (put_read_items false a) mid.lines (place_in m mid.lines) mid.hub).0
              listens = same_listens n mid.lines _ l (record l { exchange = Some (put_read_items false a n x mid.hub).0 }) at then_at refl

              pend : pending n None (jobs.Put m false a ∷ mid.jobs) ≡ a ++ pending n None mid.jobs
              pend = (λ i. ((if here i then a else []) ++ puts_of n mid.jobs) ++ []) ∙ append_assoc a (puts_of n mid.jobs) []

              by_tale : Tale plan n past None (jobs.Put m false a ∷ mid.jobs) mid.lines x mid.hub
                  → Tale plan n past None mid.jobs (at_place (put_read_items false a) mid.lines (place_in m mid.lines) mid.hub).0 (put_read_items false a n x mid.hub).0 (at_place (put_read_items false a) mid.lines (place_in m mid.lines) mid.hub).1
              by_tale (plainly s) =
                  plainly (puts_story plan n past None (jobs.Put m false a ∷ mid.jobs) mid.jobs mid.lines (at_place (put_read_items false a) mid.lines (place_in m mid.lines) mid.hub).0 x mid.hub a
                  (at_place (put_read_items false a) mid.lines (place_in m mid.lines) mid.hub).1 sent pend (λ f. f.1) (λ h. h) (λ h. h) (λ h. h) listens refl s)
              by_tale (filtered o) = filtered (record {
                filters = λ e. o.filters (sym (put_in_kept false a n x mid.hub).filters ∙ e);
                head = o.head;
                start = o.start;
                begun = o.begun;
                some = o.some;
                base = o.base;
                before = o.before;
                got = o.got ++ a;
                passage = puts_passage n past None (jobs.Put m false a ∷ mid.jobs) mid.jobs mid.lines (at_place (put_read_items false a) mid.lines (place_in m mid.lines) mid.hub).0 x mid.hub a (at_place (put_read_items false a) mid.lines (place_in m mid.lines) mid.hub).1 o.head
                    o.start o.base o.got sent pend (λ h. h) (λ h. h) (λ h. h) listens o.passage (λ e. absurd (cc));
              })

  -- what was read of a response
  pub response_works : (m : ℕ) (a : List ChainItem) (mid : Room) → Popped plan n past (jobs.Put m true a) mid → Known plan n past (on_number (put_read_items true a) m mid)
  response_works m a mid pop = by_test (m == n) refl
    where
      shift : Shift n (jobs.Put m true a ∷ mid.jobs) mid.jobs
      shift = record { puts = refl; has = λ h. h; no = λ h. h; refusing = λ h. h; none = λ h. h; once = λ h. h }

      by_test : (b : Bool) → (m == n) ≡ b → Known plan n past (on_number (put_read_items true a) m mid)
      by_test false other = elsewhere (jobs.Put m true a) m (put_read_items true a) mid pop shift (λ f. f) other (λ x k. own_line m (responds a) x k tt)
      by_test true here = by_exact (exact n m (put_read_items true a) mid.lines mid.hub pop.once here)
        where
          by_exact : Exact n (put_read_items true a) mid.lines mid.hub (at_place (put_read_items true a) mid.lines (place_in m mid.lines) mid.hub) → Known plan n past (on_number (put_read_items true a) m mid)
          by_exact (same lines hub none) = unchanged (jobs.Put m true a) mid (at_place (put_read_items true a) mid.lines (place_in m mid.lines) mid.hub) pop shift (λ f e. f) none lines hub
          by_exact (changed l x at some once then_at hub) =
              became (jobs.Put m true a) mid (at_place (put_read_items true a) mid.lines (place_in m mid.lines) mid.hub) l x (put_read_items true a n x mid.hub).0 pop at some once then_at
              (λ b. record {
                staid = kept.staid b.staid;
                matches = subst (λ w. Matches w l.requests.due) (sym (ap (λ q. q.whole) kept.asked)) b.matches;
                unclosed = b.unclosed;
                reads = tt;
                tale = by_tale b.tale;
              })
            where
              kept : Kept x (put_read_items true a n x mid.hub).0
              kept = put_in_kept true a n x mid.hub

              listens : Listens n mid.lines (at_place (put_read_items true a) mid.lines (place_in m mid.lines) mid.hub).0
              listens = same_listens n mid.lines _ l (record l { exchange = Some (put_read_items true a n x mid.hub).0 }) at then_at refl

              sent : (at_place (put_read_items true a) mid.lines (place_in m mid.lines) mid.hub).1.sent ≡ (put_read_items true a n x mid.hub).1.sent
              sent = ap (λ (k : Hub). k.sent) hub

              by_tale : Tale plan n past None (jobs.Put m true a ∷ mid.jobs) mid.lines x mid.hub
                  → Tale plan n past None mid.jobs (at_place (put_read_items true a) mid.lines (place_in m mid.lines) mid.hub).0 (put_read_items true a n x mid.hub).0 (at_place (put_read_items true a) mid.lines (place_in m mid.lines) mid.hub).1
              by_tale (plainly s) =
                  let later : List Line = (at_place (put_read_items true a) mid.lines (place_in m mid.lines) mid.hub).0 in
                  let after : Hub = (at_place (put_read_items true a) mid.lines (place_in m mid.lines) mid.hub).1 in
                  let l : LivesUp n x mid.hub (put_read_items true a n x mid.hub).0 after = own_up n (responds a) x mid.hub after tt tt refl sent s.plain in
                  plainly (story_on plan n past None None (jobs.Put m true a ∷ mid.jobs) mid.jobs mid.lines later x (put_read_items true a n x mid.hub).0 mid.hub after s l (ap (λ q. q.minor) kept.asked)
                  (passage_on n past None None (jobs.Put m true a ∷ mid.jobs) mid.jobs mid.lines later x (put_read_items true a n x mid.hub).0 mid.hub after s.head s.start (up_traffic n s.start_hub.sent) _ (shift_alike n (jobs.Put m true a ∷ mid.jobs) mid.jobs shift) listens
                  (own_becomes n (responds a) x mid.hub after tt refl sent) s.passage)
                  (stream_calm n (jobs.Put m true a ∷ mid.jobs) mid.jobs mid.lines later x (put_read_items true a n x mid.hub).0 mid.hub after s.head.fields (requests_in s.deeds) shift kept.asked l.over (λ f rests map proper. absurd f) s.stream))
              by_tale (filtered o) =
                  filtered (other_on plan n past None None (jobs.Put m true a ∷ mid.jobs) mid.jobs mid.lines (at_place (put_read_items true a) mid.lines (place_in m mid.lines) mid.hub).0 x (put_read_items true a n x mid.hub).0 mid.hub
                  (at_place (put_read_items true a) mid.lines (place_in m mid.lines) mid.hub).1 (λ e. sym kept.filters ∙ e) (shift_alike n (jobs.Put m true a ∷ mid.jobs) mid.jobs shift) listens (own_becomes n (responds a) x mid.hub (at_place (put_read_items true a) mid.lines (place_in m mid.lines) mid.hub).1 tt refl sent) o)

  -- the exchange on it is refused
  pub refused_works : (m status : ℕ) (mid : Room) → Popped plan n past (jobs.Refuse m status) mid → Known plan n past (on_number (refuse_exchange status) m mid)
  refused_works m status mid pop = by_test (m == n) refl
    where
      by_test : (b : Bool) → (m == n) ≡ b → Known plan n past (on_number (refuse_exchange status) m mid)
      by_test false other =
          elsewhere (jobs.Refuse m status) m (refuse_exchange status) mid pop (record { puts = refl; has = λ h. h; no = λ h. h; refusing = not_this; none = λ h. h; once = λ h. h }) (λ f. f) other (λ x k. own_line m (refuses status) x k tt)
        where
          not_this : ((m == n) ≡ true) ⊎ IsRefusing n mid.jobs → IsRefusing n mid.jobs
          not_this (inl e) = let never : ◌≡◌ {A = Bool} true false = sym e ∙ other in absurd (cc)
          not_this (inr h) = h
      by_test true here = by_exact (exact n m (refuse_exchange status) mid.lines mid.hub pop.once here)
        where
          by_exact : Exact n (refuse_exchange status) mid.lines mid.hub (at_place (refuse_exchange status) mid.lines (place_in m mid.lines) mid.hub) → Known plan n past (on_number (refuse_exchange status) m mid)
          by_exact (same lines hub none) = still_known
            where
              later : Room
              later = on_number (refuse_exchange status) m mid

              clash : (l : Line) (x : Exchange) → look n mid.lines ≡ Some l → l.exchange ≡ Some x → ⊥
              clash l x at some = let e : ◌≡◌ {A = Option Exchange} (Some x) None = sym some ∙ (ap exchange_of_line (sym at) ∙ none) in absurd (cc)

              by_line : (o : Option Line) → look n mid.lines ≡ o → LineOk plan n past None (jobs.Refuse m status ∷ mid.jobs) mid.lines o mid.hub → LineOk plan n past None mid.jobs mid.lines o mid.hub
              by_line None at ok = ok
              by_line (Some l) at ok = (ok.0, by_exchange l.exchange refl ok.1)
                where
                  by_exchange : (o : Option Exchange) → l.exchange ≡ o → ExOk plan n past None (jobs.Refuse m status ∷ mid.jobs) mid.lines l.requests.due o mid.hub → ExOk plan n past None mid.jobs mid.lines l.requests.due o mid.hub
                  by_exchange None some ok = record { none = ok.none; due_or = ok.due_or; idle = ok.idle }
                  by_exchange (Some x) some ok = absurd (clash l x at some)

              still_known : Known plan n past (on_number (refuse_exchange status) m mid)
              still_known =
                  subst (λ (p : List Line × Hub). Known plan n past (with_lines mid p)) (λ i. (sym lines i, sym hub i))
                  (ended_known plan n past (with_lines mid (mid.lines, mid.hub)) pop.once pop.parts pop.tail pop.quiet (by_line (look n mid.lines) refl pop.line))
          by_exact (changed l x at some once then_at hub) =
              became (jobs.Refuse m status) mid (at_place (refuse_exchange status) mid.lines (place_in m mid.lines) mid.hub) l x (refuse_exchange status n x mid.hub).0 pop at some once then_at
              (λ b. record {
                staid = kept.staid b.staid;
                matches = subst (λ w. Matches w l.requests.due) (sym (ap (λ q. q.whole) kept.asked)) b.matches;
                unclosed = b.unclosed;
                reads = tt;
                tale = by_tale b.tale;
              })
            where
              kept : Kept x (refuse_exchange status n x mid.hub).0
              kept = refused_kept status n x mid.hub

              sent : (at_place (refuse_exchange status) mid.lines (place_in m mid.lines) mid.hub).1.sent ≡ (refuse_exchange status n x mid.hub).1.sent
              sent = ap (λ (k : Hub). k.sent) hub

              -- what refuses it is in hand no more, and it is over
              refuses_on : (h : _) (start : Exchange) (base : _) (got : List ChainItem) → Passage n past None (jobs.Refuse m status ∷ mid.jobs) mid.lines x mid.hub h start base got
                  → Passage n past None mid.jobs (at_place (refuse_exchange status) mid.lines (place_in m mid.lines) mid.hub).0 (refuse_exchange status n x mid.hub).0 (at_place (refuse_exchange status) mid.lines (place_in m mid.lines) mid.hub).1 h start base got
              refuses_on h start base got q =
                  let b : Becomes n x mid.hub (refuse_exchange status n x mid.hub).0 (at_place (refuse_exchange status) mid.lines (place_in m mid.lines) mid.hub).1 = own_becomes n (refuses status) x mid.hub _ tt refl sent in
                  let o : Onward n mid.hub ((refuse_exchange status n x mid.hub).0, (at_place (refuse_exchange status) mid.lines (place_in m mid.lines) mid.hub).1) q.went (run fresh_phase got) = b.keeps q.went (run fresh_phase got) q.up in
                  record {
                    went = q.went ++ o.more;
                    adds = grows_past n past mid.hub (at_place (refuse_exchange status) mid.lines (place_in m mid.lines) mid.hub).1 base q.went o.more o.grows q.adds;
                    heard = q.heard;
                    was = same_listens n mid.lines _ l (record l { exchange = Some (refuse_exchange status n x mid.hub).0 }) at then_at refl h q.heard q.was;
                    up = o.goes;
                    place = b.place ∙ q.place;
                    asked = asked_on x (refuse_exchange status n x mid.hub).0 start b.asked q.asked;
                    minor = ap (λ (a : _). a.minor) b.asked ∙ q.minor;
                    framed = b.framed ∙ q.framed;
                    flow = by_flow q.flow;
                    enters = record { once = q.enters.once; none = λ e. q.enters.none (sym b.entered ∙ e); first = λ e. absurd (cc) };
                  }
                where
                  by_flow : Flow n None (jobs.Refuse m status ∷ mid.jobs) x got q.heard → Flow n None mid.jobs (refuse_exchange status n x mid.hub).0 got q.heard
                  by_flow (flows proper e) = flows (subst (λ w. Proper (got ++ pending n None mid.jobs) w) (sym (ap (λ (a : _). a.whole) kept.asked)) proper) e
                  by_flow (ceases message none is front) = ceases message none (inl (refused_over status n x mid.hub)) front

              by_stream : (later : List Line) (d : Contexts) (fields : Headers) (got : List ChainItem) → Stream n None (jobs.Refuse m status ∷ mid.jobs) mid.lines x mid.hub.contexts fields got → Stream n None mid.jobs later (refuse_exchange status n x mid.hub).0 d fields got
              by_stream later d fields got (fresh none is rests map proper) = absurd is
              by_stream later d fields got (going begins proper) = going begins (subst (λ w. Proper (got ++ pending n None mid.jobs) w) (sym (ap (λ q. q.whole) kept.asked)) proper)
              by_stream later d fields got (doomed message none is) = doomed message none (inl (refused_over status n x mid.hub))

              by_tale : Tale plan n past None (jobs.Refuse m status ∷ mid.jobs) mid.lines x mid.hub
                  → Tale plan n past None mid.jobs (at_place (refuse_exchange status) mid.lines (place_in m mid.lines) mid.hub).0 (refuse_exchange status n x mid.hub).0 (at_place (refuse_exchange status) mid.lines (place_in m mid.lines) mid.hub).1
              by_tale (plainly s) =
                  let later : List Line = (at_place (refuse_exchange status) mid.lines (place_in m mid.lines) mid.hub).0 in
                  let after : Hub = (at_place (refuse_exchange status) mid.lines (place_in m mid.lines) mid.hub).1 in
                  plainly (story_on plan n past None None (jobs.Refuse m status ∷ mid.jobs) mid.jobs mid.lines later x (refuse_exchange status n x mid.hub).0 mid.hub after s
                  (own_up n (refuses status) x mid.hub after tt tt refl sent s.plain) (ap (λ q. q.minor) kept.asked) (refuses_on s.head s.start (up_traffic n s.start_hub.sent) _ s.passage) (by_stream later after.contexts s.head.fields (requests_in s.deeds) s.stream))
              by_tale (filtered o) = filtered (record {
                filters = λ e. o.filters (sym kept.filters ∙ e);
                head = o.head;
                start = o.start;
                begun = o.begun;
                some = o.some;
                base = o.base;
                before = o.before;
                got = o.got;
                passage = refuses_on o.head o.start o.base o.got o.passage;
              })
