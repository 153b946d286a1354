-- What is put into the chain of the request of the line, or of its response, and what is refused.
use Rattle.std.proofs.Common.{◌≡◌, ◌⊎◌, inl, inr, ℕ, Bool, true, false, not, ◌||◌, List, [], ◌∷◌, ◌++◌, map, refl, ap, ◌∙◌, sym, subst}
use Rattle.std.proofs.lemmas.Grind.{flat_map-append}
use Rattle.std.proofs.lemmas.List.{append-nil, append_assoc}
use Rattle.std.specs.Prelude.{Option, None, is_some, if◌then◌else◌}
use Rattle.exchange.specs.declared.types.Exchange.{Exchange}
use Rattle.exchange.specs.declared.types.Hub.{Hub}
use Rattle.exchange.specs.Answering.{answer, answer_open, answer_directly, answer_through_stages, with_closes, is_direct, cut_off, exchange_with_answer}
use Rattle.exchange.specs.Heads.{connection_fields, is_final, passes_filters, closes_line, sent_head, up_tail}
use Rattle.exchange.specs.Leaving.{send_request_item}
use Rattle.exchange.specs.Maps.{request_map}
use Rattle.exchange.specs.Passing.{put_read_items, put_all_to_chain, refuse_exchange}
use Rattle.law_exchange.specs.Lives.{Deed, comes, turns, is_over, items_out}
use Rattle.law_exchange.specs.Responses.{IsMessage}
use Rattle.law_exchange.specs.Traffic.{Traffic, up_traffic, IsFront}
use Rattle.law_exchange.proofs.Ups.{comes_over, comes_open, puts_is, no_stage}
use Rattle.filter_chain.specs.declared.item.ChainItem.{ChainItem}
use Rattle.filter_chain.specs.declared.item.ChainItem.TheVariants as items
use Rattle.gate_io.specs.declared.event.Sent.{Sent}
use Rattle.h1_model.specs.Head.{Head}
use Rattle.worker_model.specs.declared.types.Job.{Job}
use Rattle.worker_model.specs.declared.types.Line.{Line}
use Rattle.worker_model.specs.declared.types.ReadBatch.{ReadBatch}
use Rattle.worker_model.specs.Plan.{Plan}
use Rattle.worker_model.specs.Steps.{begins_with_head}
use Rattle.law_lines.specs.Living.{request_in, requests_in, LivesBy}
use Rattle.law_lines.specs.Requests.{AreOf}
use Rattle.law_lines.proofs.Earlier.{behind}
use Rattle.law_lines.proofs.Hearing.{Listens}
use Rattle.law_lines.proofs.Items.{message_rest, message_sound, begins_join}
use Rattle.law_lines.proofs.Kept.{Kept, by_bool, over_told, puts_all_kept, put_in_kept, through_rest}
use Rattle.law_lines.proofs.Lives.{behind_deed, lives_behind, came_of, came_join, of_join, NoHead, body_of}
use Rattle.law_lines.proofs.Looks.{IsPlain, lives_join, plain_kept}
use Rattle.law_lines.proofs.Phases.{Phase, fresh as fresh_phase, run, IsSound, run_join, sound_run}
use Rattle.law_lines.proofs.Upward.{Up, Onward, put_in_goes}
use Rattle.law_lines.proofs.Story.{asked_on, IsFreshJobs, IsRefusing, NoEnter, OneEnter, batch_of, pending, Proper, Flow, flows, ceases, Passage, grows_past, Stream, fresh, going, doomed, Story}

-- ---- items as they go out

front_none : (a b : List ChainItem) → NoHead (a ++ b) → NoHead a
front_none [] b none = tt
front_none (items.Head end ∷ a) b none = absurd none
front_none (items.Piece bytes end ∷ a) b none = front_none a b none
front_none (items.Trailers ∷ a) b none = front_none a b none

head_of : (h : Head) (x : Exchange) (hub : Hub) (a b : List ChainItem) → begins_with_head a ≡ true → IsMessage (a ++ b) → request_map x.place hub.contexts ≡ h.fields → x.asked.minor ≡ h.minor
    → AreOf h a (items_out x hub a)
head_of h x hub [] b begins message map minor = tt
head_of h x hub (items.Head end ∷ a) b begins message map minor =
    ((λ i. sent_head (map i) (up_tail (minor i))), body_of h x.place x.asked.minor hub.contexts (connection_fields (request_map x.place hub.contexts)) a (front_none a b (message_rest (items.Head end ∷ []) (a ++ b) refl message)))
head_of h x hub (items.Piece bytes end ∷ a) b begins message map minor = absurd (cc)
head_of h x hub (items.Trailers ∷ a) b begins message map minor = absurd (cc)

-- ---- a connection is opened with the head

parts : (a b : Bool) → (a || b) ≡ false → (a ≡ false) × (b ≡ false)
parts true b is = absurd (cc)
parts false b is = (refl, is)

opens_with : (n : ℕ) (a : List ChainItem) (x : Exchange) (hub : Hub) → begins_with_head a ≡ true → x.request ≡ [] → is_over x ≡ false → is_some (put_read_items false a n x hub).0.reader ≡ true
opens_with n [] x hub begins none live = absurd (cc)
opens_with n (items.Head end ∷ a) x hub begins none live =
    let o = parts x.has_ended x.is_answered live in
    let p : Exchange × Hub = send_request_item n (items.Head end) (no_stage x) hub in
    subst (λ (q : Exchange × Hub). is_some q.0.reader ≡ true) (sym (comes_open n (items.Head end ∷ a) x hub o.1))
    (subst (λ (q : Exchange × Hub). is_some (put_all_to_chain false n a q).0.reader ≡ true) (sym (puts_is n (items.Head end) x hub none o.0 o.1)) ((puts_all_kept false n a p).opened refl))
opens_with n (items.Piece bytes end ∷ a) x hub begins none live = absurd (cc)
opens_with n (items.Trailers ∷ a) x hub begins none live = absurd (cc)

none_comes : (n : ℕ) (x : Exchange) (hub : Hub) → put_read_items false [] n x hub ≡ (x, hub)
none_comes n x hub = by_bool (λ (p : Exchange × Hub). p ≡ (x, hub)) x.is_answered (x, hub) (x, hub) (λ e. refl) (λ e. refl)

-- ---- what goes up with items that come to the chain

none_left : {A : Type 0} (b c : List A) → b ++ c ≡ [] → (b ≡ []) × (c ≡ [])
none_left [] c is = (refl, is)
none_left (i ∷ b) c is = absurd (cc)

pub puts_passage : (n : ℕ) (past : List Sent) (now : Option ReadBatch) (js ks : List Job) (lines later : List Line) (x : Exchange) (hub : Hub) (a : List ChainItem) (after : Hub) (h : Head) (first : Exchange) (base : List Traffic) (got : List ChainItem)
    → after.sent ≡ (put_read_items false a n x hub).1.sent → pending n None js ≡ a ++ pending n now ks → (IsRefusing n js → IsRefusing n ks) → (NoEnter n js → NoEnter n ks) → (OneEnter n js → OneEnter n ks) → Listens n lines later
    → Passage n past None js lines x hub h first base got → (begins_with_head (batch_of n now) ≡ true → x.is_entered ≡ false) → Passage n past now ks later (put_read_items false a n x hub).0 after h first base (got ++ a)
puts_passage n past now js ks lines later x hub a after h first base got sent pend refusing none once listens p batch =
    record {
      went = p.went ++ o.more;
      adds = grows_past n past hub after base p.went o.more (ap (up_traffic n) sent ∙ o.grows) p.adds;
      heard = p.heard;
      was = listens h p.heard p.was;
      up = subst (λ (i : Phase). Up (put_read_items false a n x hub).0 [] (p.went ++ o.more) i) (sym (run_join fresh_phase got a)) o.goes;
      place = kept.place ∙ p.place;
      asked = asked_on x (put_read_items false a n x hub).0 first kept.asked p.asked;
      minor = ap (λ q. q.minor) kept.asked ∙ p.minor;
      framed = kept.framed ∙ p.framed;
      flow = by_flow p.flow;
      enters = record { once = once p.enters.once; none = λ e. none (p.enters.none (sym kept.entered ∙ e)); first = λ e. kept.entered ∙ batch e };
    }
  where
    kept : Kept x (put_read_items false a n x hub).0
    kept = put_in_kept false a n x hub

    joined : got ++ pending n None js ≡ (got ++ a) ++ pending n now ks
    joined = ap (λ l. got ++ l) pend ∙ sym (append_assoc got a (pending n now ks))

    sound_of : Flow n None js x got p.heard → IsSound (run (run fresh_phase got) a)
    sound_of (flows proper same) =
        subst IsSound (run_join fresh_phase got a)
        (sound_run (run fresh_phase (got ++ a)) (pending n now ks) (subst IsSound (run_join fresh_phase (got ++ a) (pending n now ks))
        (subst (λ (l : List ChainItem). IsSound (run fresh_phase l)) joined (message_sound (got ++ pending n None js) proper.1))))
    sound_of (ceases message gone is front) =
        let both = none_left a (pending n now ks) (sym pend ∙ gone) in subst (λ (l : List ChainItem). IsSound (run (run fresh_phase got) l)) (sym both.0) p.up.sound

    o : Onward n hub (put_read_items false a n x hub) p.went (run (run fresh_phase got) a)
    o = put_in_goes n a x hub p.went (run fresh_phase got) p.up (sound_of p.flow)

    by_flow : Flow n None js x got p.heard → Flow n now ks (put_read_items false a n x hub).0 (got ++ a) p.heard
    by_flow (flows proper same) =
        flows (subst (λ l. Proper l (put_read_items false a n x hub).0.asked.whole) joined (subst (λ w. Proper (got ++ pending n None js) w) (sym (ap (λ q. q.whole) kept.asked)) proper)) (sym joined ∙ same)
    by_flow (ceases message gone is front) =
        let both = none_left a (pending n now ks) (sym pend ∙ gone) in
        let all : got ++ a ≡ got = ap (λ l. got ++ l) both.0 ∙ append-nil got in
        ceases (subst IsMessage (sym all) message) both.1 (by_end is) (subst (λ (l : List ChainItem). IsFront l p.heard) (sym all) front)
      where
        by_end : (is_over x ≡ true) ⊎ IsRefusing n js → (is_over (put_read_items false a n x hub).0 ≡ true) ⊎ IsRefusing n ks
        by_end (inl over) = inl (over_told x (put_read_items false a n x hub).0 kept.told over)
        by_end (inr is) = inr (refusing is)

-- ---- the story with items that come to the chain

module _ (plan : Plan) (n : ℕ) (past : List Sent) (now : Option ReadBatch) (js ks : List Job) (lines later : List Line) (x : Exchange) (hub : Hub) (a : List ChainItem) (after : Hub) where
  abbrev goes : Exchange × Hub
  goes = put_read_items false a n x hub

  story_put : (sent : after.sent ≡ goes.1.sent) → (s : Story plan n past None js lines x hub) → AreOf s.head a (items_out x hub a)
      → (is_some goes.0.reader ≡ true) ⊎ ((up_traffic n (past ++ after.sent) ≡ up_traffic n s.start_hub.sent) × ((requests_in s.deeds ++ a ≡ []) ⊎ (is_over goes.0 ≡ true)))
      → Passage n past now ks later goes.0 after s.head s.start (up_traffic n s.start_hub.sent) (requests_in s.deeds ++ a)
      → Stream n now ks later goes.0 after.contexts s.head.fields (requests_in s.deeds ++ a) → Story plan n past now ks later goes.0 after
  story_put sent s are opened passage stream =
      let kept : Kept x goes.0 = put_in_kept false a n x hub in
      let plain : IsPlain goes.0 = plain_kept x goes.0 kept s.plain in
      let two : List Deed = comes a ∷ turns goes.0 after ∷ [] in
      let lives_two : LivesBy false n x hub two goes.0 after
      = ((tt, (λ e. absurd (cc))), (((record { unfiltered = plain.1; framed = refl; stays_over = λ o. o }, ap (up_traffic n) sent), (λ e. absurd (cc))), (refl, refl))) in
      let more : List Deed = map (behind_deed past) two in
      let lives_more : LivesBy false n x (behind past hub) more goes.0 (behind past after) = lives_behind past n two x goes.0 hub after lives_two in
      let all_got : requests_in (s.deeds ++ more) ≡ requests_in s.deeds ++ a = flat_map-append request_in s.deeds more ∙ ap (λ l. requests_in s.deeds ++ l) (append-nil a) in
      let all_came : came_of n s.start s.start_hub (s.deeds ++ more) ≡ came_of n s.start s.start_hub s.deeds ++ items_out x hub a
      = came_join n s.deeds more s.start x s.start_hub (behind past hub) s.lives ∙ ap (λ l. came_of n s.start s.start_hub s.deeds ++ l) (append-nil (items_out x hub a)) in
      record {
        plain = plain;
        head = s.head;
        start = s.start;
        start_hub = s.start_hub;
        began = s.began;
        before = s.before;
        deeds = s.deeds ++ more;
        lives = lives_join false n s.deeds more s.start x goes.0 s.start_hub (behind past hub) (behind past after) s.lives lives_more;
        came =
            subst (λ l. AreOf s.head l (came_of n s.start s.start_hub (s.deeds ++ more))) (sym all_got)
            (subst (λ l. AreOf s.head (requests_in s.deeds ++ a) l) (sym all_came) (of_join s.head (requests_in s.deeds) a (came_of n s.start s.start_hub s.deeds) (items_out x hub a) s.came are));
        minor = ap (λ q. q.minor) kept.asked ∙ s.minor;
        passage = subst (Passage n past now ks later goes.0 after s.head s.start (up_traffic n s.start_hub.sent)) (sym all_got) passage;
        opened = subst (λ l. (is_some goes.0.reader ≡ true) ⊎ ((up_traffic n (past ++ after.sent) ≡ up_traffic n s.start_hub.sent) × ((l ≡ []) ⊎ (is_over goes.0 ≡ true)))) (sym all_got) opened;
        stream = subst (Stream n now ks later goes.0 after.contexts s.head.fields) (sym all_got) stream;
      }

  -- what is put in is what was pending first
  pub puts_story : after.sent ≡ goes.1.sent → pending n None js ≡ a ++ pending n now ks → (IsFreshJobs n js → begins_with_head a ≡ true) → (IsRefusing n js → IsRefusing n ks) → (NoEnter n js → NoEnter n ks) → (OneEnter n js → OneEnter n ks) → Listens n lines later → now ≡ None
      → Story plan n past None js lines x hub → Story plan n past now ks later goes.0 after
  puts_story sent first begins_so refusing none once listens quiet s = by_stream s.stream
    where
      no_batch : begins_with_head (batch_of n now) ≡ true → x.is_entered ≡ false
      no_batch e = let never : ◌≡◌ {A = Bool} false true = ap (λ r. begins_with_head (batch_of n r)) (sym quiet) ∙ e in absurd (cc)

      passage : Passage n past now ks later goes.0 after s.head s.start (up_traffic n s.start_hub.sent) (requests_in s.deeds ++ a)
      passage = puts_passage n past now js ks lines later x hub a after s.head s.start (up_traffic n s.start_hub.sent) (requests_in s.deeds) sent first refusing none once listens s.passage no_batch

      kept : Kept x goes.0
      kept = put_in_kept false a n x hub

      same_whole : goes.0.asked.whole ≡ x.asked.whole
      same_whole = ap (λ q. q.whole) kept.asked

      ended : is_over x ≡ true → up_traffic n (past ++ after.sent) ≡ up_traffic n (past ++ hub.sent)
      ended over = ap (λ l. up_traffic n (past ++ l)) sent ∙ ap (λ (p : Exchange × Hub). up_traffic n (past ++ p.1.sent)) (comes_over n a x hub over)

      by_over : (c : Bool) → is_over x ≡ c → begins_with_head a ≡ true → (is_some x.reader ≡ true) ⊎ ((up_traffic n (past ++ hub.sent) ≡ up_traffic n s.start_hub.sent) × ((requests_in s.deeds ≡ []) ⊎ (is_over x ≡ true)))
          → (is_some goes.0.reader ≡ true) ⊎ ((up_traffic n (past ++ after.sent) ≡ up_traffic n s.start_hub.sent) × ((requests_in s.deeds ++ a ≡ []) ⊎ (is_over goes.0 ≡ true)))
      by_over false live begins o = inl (opens_with n a x hub begins s.plain.1 live)
      by_over true over begins (inl o) = inl (kept.opened o)
      by_over true over begins (inr o) = inr (ended over ∙ o.0, inr (over_told x goes.0 kept.told over))

      by_opened : begins_with_head (requests_in s.deeds) ≡ true → (is_some x.reader ≡ true) ⊎ ((up_traffic n (past ++ hub.sent) ≡ up_traffic n s.start_hub.sent) × ((requests_in s.deeds ≡ []) ⊎ (is_over x ≡ true)))
          → (is_some goes.0.reader ≡ true) ⊎ ((up_traffic n (past ++ after.sent) ≡ up_traffic n s.start_hub.sent) × ((requests_in s.deeds ++ a ≡ []) ⊎ (is_over goes.0 ≡ true)))
      by_opened begins (inl o) = inl (kept.opened o)
      by_opened begins (inr (same, inl none)) = let never : ◌≡◌ {A = Bool} false true = ap begins_with_head (sym none) ∙ begins in absurd (cc)
      by_opened begins (inr (same, inr over)) = inr (ended over ∙ same, inr (over_told x goes.0 kept.told over))

      none_both : {A : Type 0} (b c : List A) → b ++ c ≡ [] → (b ≡ []) × (c ≡ [])
      none_both [] c is = (refl, is)
      none_both (i ∷ b) c is = absurd (cc)

      by_stream : Stream n None js lines x hub.contexts s.head.fields (requests_in s.deeds) → Story plan n past now ks later goes.0 after
      by_stream (fresh none is rests map proper) =
          let all : Proper (a ++ pending n now ks) x.asked.whole = subst (λ l. Proper l x.asked.whole) first proper in
          let begins : begins_with_head a ≡ true = begins_so is in
          let got : requests_in s.deeds ++ a ≡ a = ap (λ l. l ++ a) none in
          story_put sent s (head_of s.head x hub a (pending n now ks) begins all.1 map s.minor) (by_over (is_over x) refl begins s.opened) passage
          (going (ap begins_with_head got ∙ begins)
          (subst (λ l. Proper (l ++ pending n now ks) goes.0.asked.whole) (sym got) (subst (λ w. Proper (a ++ pending n now ks) w) (sym same_whole) all)))
      by_stream (going begins proper) =
          let g : List ChainItem = requests_in s.deeds in
          let all : Proper (g ++ (a ++ pending n now ks)) x.asked.whole = subst (λ l. Proper (g ++ l) x.asked.whole) first proper in
          story_put sent s (body_of s.head x.place x.asked.minor hub.contexts x.connection_up a (front_none a (pending n now ks) (message_rest g (a ++ pending n now ks) begins all.1))) (by_opened begins s.opened) passage
          (going (begins_join g a begins)
          (subst (λ l. Proper l goes.0.asked.whole) (sym (append_assoc g a (pending n now ks))) (subst (λ w. Proper (g ++ (a ++ pending n now ks)) w) (sym same_whole) all)))
      by_stream (doomed message none is) =
          let both = none_both a (pending n now ks) (sym first ∙ none) in
          let g : List ChainItem = requests_in s.deeds in
          let got : g ++ a ≡ g = ap (λ l. g ++ l) both.0 ∙ append-nil g in
          let same : goes ≡ (x, hub) = ap (λ l. put_read_items false l n x hub) both.0 ∙ none_comes n x hub in
          let ups_same : up_traffic n (past ++ after.sent) ≡ up_traffic n (past ++ hub.sent) = ap (λ l. up_traffic n (past ++ l)) sent ∙ ap (λ (p : Exchange × Hub). up_traffic n (past ++ p.1.sent)) same in
          story_put sent s (subst (λ l. AreOf s.head l (items_out x hub l)) (sym both.0) tt) (by_doomed ups_same got s.opened) passage
          (doomed (subst IsMessage (sym got) message) both.1 (by_end is))
        where
          by_end : (is_over x ≡ true) ⊎ IsRefusing n js → (is_over goes.0 ≡ true) ⊎ IsRefusing n ks
          by_end (inl over) = inl (over_told x goes.0 kept.told over)
          by_end (inr r) = inr (refusing r)

          by_doomed : up_traffic n (past ++ after.sent) ≡ up_traffic n (past ++ hub.sent) → requests_in s.deeds ++ a ≡ requests_in s.deeds
              → (is_some x.reader ≡ true) ⊎ ((up_traffic n (past ++ hub.sent) ≡ up_traffic n s.start_hub.sent) × ((requests_in s.deeds ≡ []) ⊎ (is_over x ≡ true)))
              → (is_some goes.0.reader ≡ true) ⊎ ((up_traffic n (past ++ after.sent) ≡ up_traffic n s.start_hub.sent) × ((requests_in s.deeds ++ a ≡ []) ⊎ (is_over goes.0 ≡ true)))
          by_doomed same got (inl o) = inl (kept.opened o)
          by_doomed same got (inr (o, inl e)) = inr (same ∙ o, inl (got ∙ e))
          by_doomed same got (inr (o, inr over)) = inr (same ∙ o, inr (over_told x goes.0 kept.told over))

-- ---- what is refused is over

ended_over : (x : Exchange) → x.has_ended ≡ true → is_over x ≡ true
ended_over x is = ap (λ b. b || x.is_answered) is

or_true : (b : Bool) → (b || true) ≡ true
or_true true = refl
or_true false = refl

answered_over : (x : Exchange) → x.is_answered ≡ true → is_over x ≡ true
answered_over x is = ap (λ b. x.has_ended || b) is ∙ or_true x.has_ended

directly_over : (n status : ℕ) (x : Exchange) (hub : Hub) → is_over (answer_directly n status [] [] x hub).0 ≡ true
directly_over n status x hub = by_bool (λ (p : Exchange × Hub). is_over p.0 ≡ true) (x.is_head_out || not (is_final status)) (cut_off x hub) _ (λ e. refl) (λ e. refl)

answer_over : (n : ℕ) (shut : Bool) (status : ℕ) (x : Exchange) (hub : Hub) → is_over (answer n shut status [] [] x hub).0 ≡ true
answer_over n shut status x hub =
    by_bool (λ (p : Exchange × Hub). is_over p.0 ≡ true) (x.has_ended || x.is_answered) (x, hub) (answer_open n status [] [] (with_closes shut x) hub) (λ e. e)
    (λ e. by_bool (λ (p : Exchange × Hub). is_over p.0 ≡ true) (is_direct status (with_closes shut x)) (answer_directly n status [] [] (with_closes shut x) hub) (answer_through_stages n status [] [] (with_closes shut x) hub)
    (λ d. directly_over n status (with_closes shut x) hub) (λ d. through_over (with_closes shut x)))
  where
    through_over : (z : Exchange) → is_over (answer_through_stages n status [] [] z hub).0 ≡ true
    through_over z = over_told (exchange_with_answer status [] z) (answer_through_stages n status [] [] z hub).0 (through_rest n status [] [] z hub).told (answered_over (exchange_with_answer status [] z) refl)

pub refused_over : (status n : ℕ) (x : Exchange) (hub : Hub) → is_over (refuse_exchange status n x hub).0 ≡ true
refused_over status n x hub =
    by_bool (λ (p : Exchange × Hub). is_over p.0 ≡ true) (x.has_ended || x.is_answered) (x, hub)
    (if passes_filters status then answer n (closes_line status) status [] [] x hub else answer_directly n status [] [] (with_closes (closes_line status) x) hub) (λ e. e)
    (λ e. by_bool (λ (p : Exchange × Hub). is_over p.0 ≡ true) (passes_filters status) (answer n (closes_line status) status [] [] x hub) (answer_directly n status [] [] (with_closes (closes_line status) x) hub)
    (λ d. answer_over n (closes_line status) status x hub) (λ d. directly_over n status (with_closes (closes_line status) x) hub))
