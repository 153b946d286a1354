-- What a worker does are deeds on the exchange of a line.
use Rattle.std.proofs.Common.{◌≡◌, ℕ, suc, Bool, List, [], ◌∷◌, ◌++◌, map, ap, ◌∙◌, sym, refl, subst, arith}
use Rattle.std.specs.Prelude.{Option, None, Some, slice_get, drop, if◌then◌else◌}
use Rattle.std.proofs.lemmas.List.{append_assoc, append-nil}
use Rattle.contexts.specs.declared.parts.Contexts.{Contexts}
use Rattle.contexts.specs.declared.parts.Effect.{Effect}
use Rattle.filter_host.specs.Called.{Called}
use Rattle.exchange.specs.declared.types.Exchange.{Exchange}
use Rattle.exchange.specs.declared.types.Hub.{Hub}
use Rattle.exchange.specs.Passing.{chain_of, put_read_items, put_to_chain, put_all_to_chain, apply_action}
use Rattle.exchange.specs.Passing as passing
use Rattle.filter_chain.specs.declared.stage.Stage.{Stage}
use Rattle.filter_chain.specs.declared.item.Ask.{Ask}
use Rattle.filter_chain.specs.declared.item.Asking.{Asking}
use Rattle.filter_chain.specs.declared.item.Asking.TheVariants.{Nothing, Over, Asks}
use Rattle.filter_chain.specs.declared.item.ChainItem.{ChainItem}
use Rattle.filter_chain.specs.Chains.{asked}
use Rattle.filter_chain.specs.Flow.{flow}
use Rattle.filter_chain.specs.Items.{item_bytes}
use Rattle.worker_model.specs.Room.{Room}
use Rattle.worker_model.specs.declared.types.Owner.{Owner}
use Rattle.worker_model.specs.Rooms.{Changes, with_marks, on_number, apply_effect, effects_of}
use Rattle.worker_model.specs.Steps.{action_of}
use Rattle.law_chain.specs.Acts.{bytes_pending, behind, AreThere, IsCall, is_body, where_one, buffer_in, buffer_at, buffer_called}
use Rattle.law_chain.specs.Acts as at_chain
use Rattle.law_body.specs.Deeds.{Deed, comes, calls, answers, resumes, lets, turns, Running, standing_of, running_after, called, resumed, done_by, done_all, acts_of, left_by, items_put, buffers_by, AreDeeds}
use Rattle.law_chain.specs.PassThrough.{bare_all, bare_in, Thinner, IsInOrder, PassesThrough}
use Rattle.law_body.specs.Exchanges.{GoesOn}
use Rattle.law_flow.specs.Rooms.{IsOn, running_of, Leaves, Wakes, Other, wakes, leaves, Meanwhile, nothing, other, Others, quiet_room, IsAsked, asked_exchange, question, stage_own, IsMove, affected, moved_exchange, moved_room, IsPut, Part, moves, puts as puts_part, others, Run, rests, goes, other_deeds, effect_deeds, part_deeds, run_deeds, part_items, run_items, part_buffers, run_buffers}
use Rattle.law_flow.specs.Workers.{AreIdle, IsIdleRun, MeanwhileRuns, WorkersPassBodies, LastStagesPass, UnchangedPass, RunGoesOn, RunsGoOn, OwnPartsSend}
use Rattle.law_body.proofs.Deeds.{deed_does, are_written, passed_as, exchanges_pass}
use Rattle.law_chain.proofs.Holding.{hold_then, hold_by_vms, there_by_vms}
use Rattle.law_flow.proofs.Lines.{with_exchange, on_set, on_number_is, on_context_is, marking_vms}
use Rattle.law_chain.specs.Sound.{IsSound}
use Rattle.law_chain.proofs.Order.{last_in}
use Rattle.law_chain.proofs.Through.{Went, went, new_keeps, idle_ends}

-- ---- deeds, one list after the other

-- what these deeds come to: the items that came, and what the body callbacks of each stage left
record Told (response : Bool) (n count : ℕ) (deeds : List Deed) (w v : Running) (items : List ChainItem) (buffers : ℕ → List ℕ) : Type 0 where
  are : AreDeeds response n count deeds w
  last : done_all response n deeds w ≡ v
  cames : items_put deeds ≡ items
  lefts : (k : ℕ) → buffers_by response n k deeds w ≡ buffers k

pub deeds_more : (response : Bool) (n count : ℕ) (a b : List Deed) (w : Running) → AreDeeds response n count a w → AreDeeds response n count b (done_all response n a w)
    → AreDeeds response n count (a ++ b) w
deeds_more response n count [] b w first later = later
deeds_more response n count (deed ∷ a) b w first later = (first.0, deeds_more response n count a b (done_by response n deed w) first.1 later)

pub done_more : (response : Bool) (n : ℕ) (a b : List Deed) (w : Running) → done_all response n (a ++ b) w ≡ done_all response n b (done_all response n a w)
done_more response n [] b w = refl
done_more response n (deed ∷ a) b w = done_more response n a b (done_by response n deed w)

pub came_more : (a b : List Deed) → items_put (a ++ b) ≡ items_put a ++ items_put b
came_more [] b = refl
came_more (comes item ∷ a) b = ap (λ (l : List ChainItem). item ∷ l) (came_more a b)
came_more (calls after ∷ a) b = came_more a b
came_more (answers value ∷ a) b = came_more a b
came_more (resumes vm context ∷ a) b = came_more a b
came_more (lets k ∷ a) b = came_more a b
came_more (turns y after ∷ a) b = came_more a b

buffers_more : (response : Bool) (n k : ℕ) (a b : List Deed) (w : Running)
    → buffers_by response n k (a ++ b) w ≡ buffers_by response n k a w ++ buffers_by response n k b (done_all response n a w)
buffers_more response n k [] b w = refl
buffers_more response n k (deed ∷ a) b w =
    ap (λ (l : List ℕ). at_chain.buffers_by k (acts_of response deed w) (standing_of response w) ++ l) (buffers_more response n k a b (done_by response n deed w))
    ∙ sym (append_assoc (at_chain.buffers_by k (acts_of response deed w) (standing_of response w)) (buffers_by response n k a (done_by response n deed w))
    (buffers_by response n k b (done_all response n (deed ∷ a) w)))

told_more : (response : Bool) (n count : ℕ) (a b : List Deed) (w u v : Running) (i j : List ChainItem) (f g : ℕ → List ℕ) → Told response n count a w u i f → Told response n count b u v j g
    → Told response n count (a ++ b) w v (i ++ j) (λ k. f k ++ g k)
told_more response n count a b w u v i j f g first later = record {
  are = deeds_more response n count a b w first.are (subst (AreDeeds response n count b) (sym first.last) later.are);
  last = done_more response n a b w ∙ (ap (done_all response n b) first.last ∙ later.last);
  cames = came_more a b ∙ (λ t. first.cames t ++ later.cames t);
  lefts = λ k. buffers_more response n k a b w ∙ (ap (λ (u : Running). buffers_by response n k a w ++ buffers_by response n k b u) first.last ∙ (λ t. first.lefts k t ++ later.lefts k t));
}

told_none : (response : Bool) (n count : ℕ) (w : Running) → Told response n count [] w w [] (λ k. [])
told_none response n count w = record { are = tt; last = refl; cames = refl; lefts = λ k. refl }

-- what holds between acts holds behind deeds
pub deeds_keep : (response : Bool) (n count : ℕ) (deeds : List Deed) (w : Running) → AreDeeds response n count deeds w → IsSound count (standing_of response w)
    → IsSound count (standing_of response (done_all response n deeds w))
deeds_keep response n count [] w are keeps = keeps
deeds_keep response n count (deed ∷ deeds) w are keeps =
    let all : Went count (acts_of response deed w) (standing_of response w) = went count (acts_of response deed w) (standing_of response w) keeps are.0.acts in
    deeds_keep response n count deeds (done_by response n deed w) are.1 (subst (IsSound count) (sym (deed_does response n count deed w are.0)) all.keeps)

told_keeps : (response : Bool) (n count : ℕ) (deeds : List Deed) (w v : Running) (i : List ChainItem) (f : ℕ → List ℕ) → Told response n count deeds w v i f → IsSound count (standing_of response w)
    → IsSound count (standing_of response v)
told_keeps response n count deeds w v i f told keeps = subst (λ (u : Running). IsSound count (standing_of response u)) told.last (deeds_keep response n count deeds w told.are keeps)

-- ---- what host calls are told of the exchange

marked_told : (response : Bool) (n count : ℕ) (due : Option Ask) (x : Exchange) (hub after : Hub) → after.contexts.vms ≡ hub.contexts.vms → AreThere hub.contexts (chain_of response x)
    → Told response n count (turns x after ∷ []) (record { due = due; exchange = x; hub = hub }) (record { due = due; exchange = x; hub = after }) [] (λ k. [])
marked_told response n count due x hub after same there = record {
  are = (
    record {
      runs = tt;
      acts = ((hold_by_vms hub.contexts after.contexts (chain_of response x) same, there_by_vms hub.contexts after.contexts (chain_of response x) same there), tt);
      chain = refl;
    },
    tt,
  );
  last = refl;
  cames = refl;
  lefts = λ k. refl;
}

-- ---- what else a worker does

wakes_told : (response : Bool) (n count : ℕ) (due : Option Ask) (x : Exchange) (room : Room) (y : Exchange) (after : Room) → IsSound count (standing_of response (running_of due x room))
    → (w : Wakes response n count due x room y after)
    → Told response n count (resumes w.vm w.context ∷ turns y after.hub ∷ []) (running_of due x room) (running_of due y after) [] (λ k. [])
wakes_told response n count due x room y after keeps w =
    let r : Exchange × Hub = passing.resume_context w.vm w.context response n x room.hub in
    let first : Told response n count (resumes w.vm w.context ∷ []) (running_of due x room) (running_after due r) [] (λ k. [])
    = record { are = (w.deed, tt); last = refl; cames = refl; lefts = λ k. no_buffer k (passing.stage_of w.vm w.context (chain_of response x)) } in
    let there : AreThere r.1.contexts (chain_of response r.0) = (told_keeps response n count (resumes w.vm w.context ∷ []) (running_of due x room) (running_after due r) [] (λ k. []) first keeps).there in
    let is : after ≡ with_exchange w.on.place w.on.line (with_marks r) room
    = w.room_is ∙ on_context_is (passing.resume_context w.vm w.context response) w.vm w.context n room x w.on w.line in
    let vms : after.hub.contexts.vms ≡ r.1.contexts.vms = ap (λ (q : Room). q.hub.contexts.vms) is ∙ marking_vms r in
    let second : Told response n count (turns r.0 after.hub ∷ []) (running_after due r) (record { due = due; exchange = r.0; hub = after.hub }) [] (λ k. [])
    = marked_told response n count due r.0 r.1 after.hub vms there in
    subst (λ (z : Exchange). Told response n count (resumes w.vm w.context ∷ turns z after.hub ∷ []) (running_of due x room) (running_of due z after) [] (λ k. [])) (sym w.exchange)
    (told_more response n count (resumes w.vm w.context ∷ []) (turns r.0 after.hub ∷ []) (running_of due x room) (running_after due r) (running_of due r.0 after) [] [] (λ k. []) (λ k. []) first second)
  where
    no_buffer : (k : ℕ) (o : Option ℕ) → at_chain.buffers_by k (resumed o) (standing_of response (running_of due x room)) ++ [] ≡ []
    no_buffer k None = refl
    no_buffer k (Some j) = refl

wakes_on : (response : Bool) (n count : ℕ) (due : Option Ask) (x : Exchange) (room : Room) (y : Exchange) (after : Room) → Wakes response n count due x room y after → IsOn n after y
wakes_on response n count due x room y after w =
    let r : Exchange × Hub = passing.resume_context w.vm w.context response n x room.hub in
    let is : after ≡ with_exchange w.on.place w.on.line (with_marks r) room
    = w.room_is ∙ on_context_is (passing.resume_context w.vm w.context response) w.vm w.context n room x w.on w.line in
    subst (λ (q : Room). IsOn n q y) (sym is) (subst (IsOn n (with_exchange w.on.place w.on.line (with_marks r) room)) (sym w.exchange) (on_set n room x w.on (with_marks r)))

leaves_told : (response : Bool) (n count : ℕ) (due : Option Ask) (x : Exchange) (room : Room) (y : Exchange) (after : Room) → Leaves response n x room y after
    → Told response n count (turns y after.hub ∷ []) (running_of due x room) (running_of due y after) [] (λ k. [])
leaves_told response n count due x room y after l = record {
  are = (record { runs = tt; acts = ((l.holds, l.there), tt); chain = l.chain }, tt);
  last = refl;
  cames = refl;
  lefts = λ k. refl;
}

other_told : (response : Bool) (n count : ℕ) (due : Option Ask) (x : Exchange) (room : Room) (y : Exchange) (after : Room) → IsSound count (standing_of response (running_of due x room))
    → (o : Other response n count due x room y after) → Told response n count (other_deeds o) (running_of due x room) (running_of due y after) [] (λ k. [])
other_told response n count due x room y after keeps (wakes w) = wakes_told response n count due x room y after keeps w
other_told response n count due x room y after keeps (leaves l) = leaves_told response n count due x room y after l

pub other_on : (response : Bool) (n count : ℕ) (due : Option Ask) (x : Exchange) (room : Room) (y : Exchange) (after : Room) → Other response n count due x room y after → IsOn n after y
other_on response n count due x room y after (wakes w) = wakes_on response n count due x room y after w
other_on response n count due x room y after (leaves l) = l.on

-- the effects of a callback
others_told : (response : Bool) (n count : ℕ) (due : Option Ask) (vm : ℕ) (own : Owner) (es : List Effect) (x : Exchange) (room : Room) (z : Exchange)
    → IsSound count (standing_of response (running_of due x room)) → (are : Others response n count due vm own es x room z)
    → Told response n count (effect_deeds response n count due vm own es x room z are) (running_of due x room) (running_of due z (effects_of vm own es room)) [] (λ k. [])
others_told response n count due vm own [] x room z keeps are =
    subst (λ (y : Exchange). Told response n count [] (running_of due x room) (running_of due y room) [] (λ k. [])) (sym are.0) (told_none response n count (running_of due x room))
others_told response n count due vm own (e ∷ es) x room z keeps are =
    let mid : Room = apply_effect vm own e.context e.what room in
    let first : Told response n count (other_deeds are.1) (running_of due x room) (running_of due are.0 mid) [] (λ k. []) = other_told response n count due x room are.0 mid keeps are.1 in
    let later_keeps : IsSound count (standing_of response (running_of due are.0 mid))
    = told_keeps response n count (other_deeds are.1) (running_of due x room) (running_of due are.0 mid) [] (λ k. []) first keeps in
    told_more response n count (other_deeds are.1) (effect_deeds response n count due vm own es are.0 mid z are.2) (running_of due x room) (running_of due are.0 mid)
    (running_of due z (effects_of vm own es mid)) [] [] (λ k. []) (λ k. []) first (others_told response n count due vm own es are.0 mid z later_keeps are.2)

pub others_on : (response : Bool) (n count : ℕ) (due : Option Ask) (vm : ℕ) (own : Owner) (es : List Effect) (x : Exchange) (room : Room) (z : Exchange)
    → Others response n count due vm own es x room z → IsOn n (effects_of vm own es room) z
others_on response n count due vm own [] x room z are = subst (IsOn n room) (sym are.0) are.1
others_on response n count due vm own (e ∷ es) x room z are = others_on response n count due vm own es are.0 (apply_effect vm own e.context e.what room) z are.2

-- ---- a move

call_by_vms : (count : ℕ) (b c : Contexts) (r : Asking × List Stage × Contexts) → c.vms ≡ b.vms → IsCall count b r → IsCall count c r
call_by_vms count b c (Nothing, stages, h) same call = absurd call
call_by_vms count b c (Over k, stages, h) same call = absurd call
call_by_vms count b c (Asks ask, stages, h) same call =
    (hold_then h b c (drop count stages) call.0 (hold_by_vms b c (drop count stages) same), there_by_vms b c stages same call.1)

buffer_by_vms : (b c : Contexts) (stages : List Stage) (k : ℕ) → c.vms ≡ b.vms → buffer_at c stages k ≡ buffer_at b stages k
buffer_by_vms b c stages k same = by_stage (slice_get stages k)
  where
    by_stage : (o : Option Stage) → buffer_in c o ≡ buffer_in b o
    by_stage None = refl
    by_stage (Some s) = (hold_by_vms b c (s ∷ []) same).0

called_by_vms : (k : ℕ) (b c : Contexts) (r : Asking × List Stage × Contexts) → c.vms ≡ b.vms → buffer_called k c r ≡ buffer_called k b r
called_by_vms k b c (Nothing, stages, h) same = refl
called_by_vms k b c (Over j, stages, h) same = refl
called_by_vms k b c (Asks ask, stages, h) same = ap (λ (l : List ℕ). if is_body ask.kind then where_one k ask.stage l else []) (buffer_by_vms b c stages k same)

module _ {H : Type 0} (response : Bool) (n count : ℕ) (c : Called H) (x : Exchange) (room : Room) (q : IsAsked response n x room) (m : IsMove count c q) where
  abbrev first_exchange : Exchange
  first_exchange = asked_exchange q

  abbrev first_room : Room
  first_room = quiet_room c (question q)

  call_told : Told response n count (calls first_room.hub ∷ []) (running_of None x room) (running_of (Some q.ask) first_exchange first_room) []
      (λ k. buffer_called k c.contexts (asked room.hub.contexts (chain_of response x)))
  call_told = record {
    are = (
      record {
        runs = m.runs;
        acts = ((refl, call_by_vms count c.contexts first_room.hub.contexts (asked room.hub.contexts (chain_of response x)) refl m.call), tt);
        chain = tt;
      },
      tt,
    );
    last = ap (called response first_room.hub (running_of None x room)) q.asks;
    cames = refl;
    lefts = λ k.
        append-nil (buffer_called k first_room.hub.contexts (asked room.hub.contexts (chain_of response x)) ++ [])
        ∙ (append-nil (buffer_called k first_room.hub.contexts (asked room.hub.contexts (chain_of response x)))
        ∙ called_by_vms k c.contexts first_room.hub.contexts (asked room.hub.contexts (chain_of response x)) refl);
  }

  answer_told : Told response n count (answers (action_of m.value) ∷ []) (running_of (Some q.ask) m.behind (affected c q))
      (running_after None (apply_action response q.ask.stage (action_of m.value) n m.behind (affected c q).hub)) [] (λ k. [])
  answer_told = record { are = (m.answer, tt); last = refl; cames = refl; lefts = λ k. refl }

  pub moved_on : IsOn n (moved_room m) (moved_exchange m)
  moved_on =
      let on : IsOn n (affected c q) m.behind
      = others_on response n count (Some q.ask) q.stage.vm (stage_own q) c.contexts.effects first_exchange first_room m.behind m.effects in
      let change : Changes = apply_action response q.ask.stage (action_of m.value) in
      subst (λ (t : Room). IsOn n t (moved_exchange m)) (sym (on_number_is change n (affected c q) m.behind on))
      (on_set n (affected c q) m.behind on (with_marks (change n m.behind (affected c q).hub)))

  move_told : IsSound count (standing_of response (running_of None x room))
      → Told response n count (part_deeds (moves c q m)) (running_of None x room) (running_of None (moved_exchange m) (moved_room m)) []
      (λ k. buffer_called k c.contexts (asked room.hub.contexts (chain_of response x)))
  move_told keeps =
      let es : List Effect = c.contexts.effects in
      let own : Owner = stage_own q in
      let f : ℕ → List ℕ = λ k. buffer_called k c.contexts (asked room.hub.contexts (chain_of response x)) in
      let none : ℕ → List ℕ = λ k. [] in
      let w1 : Running = running_of (Some q.ask) first_exchange first_room in
      let w2 : Running = running_of (Some q.ask) m.behind (affected c q) in
      let change : Changes = apply_action response q.ask.stage (action_of m.value) in
      let r : Exchange × Hub = change n m.behind (affected c q).hub in
      let keeps1 : IsSound count (standing_of response w1) = told_keeps response n count (calls first_room.hub ∷ []) (running_of None x room) w1 [] f call_told keeps in
      let effects : List Deed = effect_deeds response n count (Some q.ask) q.stage.vm own es first_exchange first_room m.behind m.effects in
      let second : Told response n count effects w1 w2 [] none = others_told response n count (Some q.ask) q.stage.vm own es first_exchange first_room m.behind keeps1 m.effects in
      let keeps2 : IsSound count (standing_of response w2) = told_keeps response n count effects w1 w2 [] none second keeps1 in
      let keeps3 : IsSound count (standing_of response (running_after None r)) = told_keeps response n count (answers (action_of m.value) ∷ []) w2 (running_after None r) [] none answer_told keeps2 in
      let on : IsOn n (affected c q) m.behind = others_on response n count (Some q.ask) q.stage.vm own es first_exchange first_room m.behind m.effects in
      let vms : (moved_room m).hub.contexts.vms ≡ r.1.contexts.vms
      = ap (λ (t : Room). t.hub.contexts.vms) (on_number_is change n (affected c q) m.behind on) ∙ marking_vms r in
      let last : Told response n count (turns r.0 (moved_room m).hub ∷ []) (running_after None r) (running_of None r.0 (moved_room m)) [] none
      = marked_told response n count None r.0 r.1 (moved_room m).hub vms keeps3.there in
      let two : Told response n count (answers (action_of m.value) ∷ turns r.0 (moved_room m).hub ∷ []) w2 (running_of None r.0 (moved_room m)) [] none
      = told_more response n count (answers (action_of m.value) ∷ []) (turns r.0 (moved_room m).hub ∷ []) w2 (running_after None r) (running_of None r.0 (moved_room m)) [] [] none none answer_told last in
      let three : Told response n count (effects ++ answers (action_of m.value) ∷ turns r.0 (moved_room m).hub ∷ []) w1 (running_of None r.0 (moved_room m)) [] none
      = told_more response n count effects (answers (action_of m.value) ∷ turns r.0 (moved_room m).hub ∷ []) w1 w2 (running_of None r.0 (moved_room m)) [] [] none none second two in
      let all : Told response n count (calls first_room.hub ∷ (effects ++ answers (action_of m.value) ∷ turns r.0 (moved_room m).hub ∷ [])) (running_of None x room) (running_of None r.0 (moved_room m)) []
      (λ k. f k ++ [])
      = told_more response n count (calls first_room.hub ∷ []) (effects ++ answers (action_of m.value) ∷ turns r.0 (moved_room m).hub ∷ []) (running_of None x room) w1
      (running_of None r.0 (moved_room m)) [] [] f none call_told three in
      record { are = all.are; last = all.last; cames = all.cames; lefts = λ k. all.lefts k ∙ append-nil (f k) }

-- ---- a put

puts_done : (response : Bool) (n : ℕ) (due : Option Ask) (items : List ChainItem) (xh : Exchange × Hub)
    → done_all response n (map comes items) (running_after due xh) ≡ running_after due (put_all_to_chain response n items xh)
puts_done response n due [] xh = refl
puts_done response n due (item ∷ items) xh = puts_done response n due items (put_to_chain response n item xh)

puts_came : (items : List ChainItem) → items_put (map comes items) ≡ items
puts_came [] = refl
puts_came (item ∷ items) = ap (λ (l : List ChainItem). item ∷ l) (puts_came items)

puts_buffers : (response : Bool) (n k : ℕ) (items : List ChainItem) (w : Running) → buffers_by response n k (map comes items) w ≡ []
puts_buffers response n k [] w = refl
puts_buffers response n k (item ∷ items) w = puts_buffers response n k items (done_by response n (comes item) w)

put_told : (H : Type 0) (response : Bool) (n count : ℕ) (items : List ChainItem) (x : Exchange) (room : Room) (is : IsPut response n count items x room)
    → IsSound count (standing_of response (running_of None x room))
    → Told response n count (map comes items ++ turns (put_read_items response items n x room.hub).0 (on_number (put_read_items response items) n room).hub ∷ []) (running_of None x room)
    (running_of None (put_read_items response items n x room.hub).0 (on_number (put_read_items response items) n room)) items (λ k. [])
put_told H response n count items x room is keeps =
    let w : Running = running_of None x room in
    let r : Exchange × Hub = put_read_items response items n x room.hub in
    let none : ℕ → List ℕ = λ k. [] in
    let all : put_read_items response items n x room.hub ≡ put_all_to_chain response n items (x, room.hub)
    = ap (λ (b : Bool). if b then (x, room.hub) else put_all_to_chain response n items (x, room.hub)) is.unanswered in
    let first : Told response n count (map comes items) w (running_after None r) items none
    = record {
      are = is.deeds;
      last = puts_done response n None items (x, room.hub) ∙ ap (running_after None) (sym all);
      cames = puts_came items;
      lefts = λ k. puts_buffers response n k items w;
    } in
    let keeps1 : IsSound count (standing_of response (running_after None r)) = told_keeps response n count (map comes items) w (running_after None r) items none first keeps in
    let after : Room = on_number (put_read_items response items) n room in
    let vms : after.hub.contexts.vms ≡ r.1.contexts.vms
    = ap (λ (q : Room). q.hub.contexts.vms) (on_number_is (put_read_items response items) n room x is.on) ∙ marking_vms r in
    let last : Told response n count (turns r.0 after.hub ∷ []) (running_after None r) (running_of None r.0 after) [] none = marked_told response n count None r.0 r.1 after.hub vms keeps1.there in
    let two : Told response n count (map comes items ++ turns r.0 after.hub ∷ []) w (running_of None r.0 after) (items ++ []) (λ k. [])
    = told_more response n count (map comes items) (turns r.0 after.hub ∷ []) w (running_after None r) (running_of None r.0 after) items [] none none first last in
    record { are = two.are; last = two.last; cames = two.cames ∙ append-nil items; lefts = two.lefts }

-- ---- one after the other

part_told : {H : Type 0} {response : Bool} {n count : ℕ} {x : Exchange} {room : Room} {y : Exchange} {after : Room} → (part : Part H response n count x room y after)
    → IsSound count (standing_of response (running_of None x room))
    → Told response n count (part_deeds part) (running_of None x room) (running_of None y after) (part_items part) (λ k. part_buffers k part)
part_told {H} {response} {n} {count} {x} {room} (moves c q m) keeps = move_told response n count c x room q m keeps
part_told {H} {response} {n} {count} {x} {room} (puts_part items is) keeps = put_told H response n count items x room is keeps
part_told {H} {response} {n} {count} {x} {room} (others y after is) keeps = other_told response n count None x room y after keeps is

run_told : {H : Type 0} {response : Bool} {n count : ℕ} {x y : Exchange} {room after : Room} → (run : Run H response n count x room y after)
    → IsSound count (standing_of response (running_of None x room))
    → Told response n count (run_deeds run) (running_of None x room) (running_of None y after) (run_items run) (λ k. run_buffers k run)
run_told {H} {response} {n} {count} (rests x room) keeps = told_none response n count (running_of None x room)
run_told {H} {response} {n} {count} (goes {x} {y} {z} {room} {mid} {after} part run) keeps =
    let first : Told response n count (part_deeds part) (running_of None x room) (running_of None y mid) (part_items part) (λ k. part_buffers k part) = part_told part keeps in
    let keeps1 : IsSound count (standing_of response (running_of None y mid))
    = told_keeps response n count (part_deeds part) (running_of None x room) (running_of None y mid) (part_items part) (λ k. part_buffers k part) first keeps in
    told_more response n count (part_deeds part) (run_deeds run) (running_of None x room) (running_of None y mid) (running_of None z after) (part_items part) (run_items run)
    (λ k. part_buffers k part) (λ k. run_buffers k run) first (run_told run keeps1)

-- ---- THE LAWS

pub run_buffers_are : {H : Type 0} (response : Bool) (n count : ℕ) (x y : Exchange) (room after : Room) (run : Run H response n count x room y after) → IsSound count (standing_of response (running_of None x room))
    → (k : ℕ) → buffers_by response n k (run_deeds run) (running_of None x room) ≡ run_buffers k run
run_buffers_are response n count x y room after run sound k = (run_told run sound).lefts k

pub workers_pass : (H : Type 0) → WorkersPassBodies H
workers_pass H = λ response n count x y room after run new within.
    let told : Told response n count (run_deeds run) (running_of None x room) (running_of None y after) (run_items run) (λ k. run_buffers k run)
    = run_told run (new_keeps count (standing_of response (running_of None x room)) new within) in
    let w : Running = running_of None x room in
    let sound : IsSound count (standing_of response w) = new_keeps count (standing_of response w) new within in
    record {
      are = told.are;
      last = told.last;
      written = λ order.
          are_written response n count w (run_deeds run) sound told.are
          (subst IsInOrder (sym ((λ i. idle_ends room.hub.contexts (chain_of response x) new.idle i ++ bare_all (told.cames i)))) (last_in (run_items run) order));
    }

-- how the direction stands at the end, when nothing is due
rests_as : {came_a came_b left : List ChainItem} {whole_a whole_b : List ℕ} (response : Bool) (n : ℕ) (v : Running) (y : Exchange) (after : Room) → v ≡ running_of None y after → came_a ≡ came_b
    → whole_a ≡ whole_b → bytes_pending n (standing_of response (running_of None y after)) ≡ [] → PassesThrough came_a whole_a left (behind n (standing_of response v)) (chain_of response v.exchange)
    → PassesThrough came_b whole_b left (flow after.hub.contexts (drop n (chain_of response y))) (chain_of response y)
rests_as {came_a} {came_b} {left} response n v y after is came_is whole_is none law =
    let inside : behind n (standing_of response v) ≡ flow after.hub.contexts (drop n (chain_of response y))
    = ap (λ (u : Running). behind n (standing_of response u)) is
    ∙ (ap (λ (l : List ℕ). flow after.hub.contexts (drop n (chain_of response y)) ++ l) none ∙ append-nil (flow after.hub.contexts (drop n (chain_of response y)))) in
    passed_as came_is whole_is refl inside (ap (λ (u : Running). chain_of response u.exchange) is) law

pub last_stages : (H : Type 0) → LastStagesPass H
last_stages H = λ response n k x y room after run new within order.
    let w : Running = running_of None x room in
    let told : Told response n (suc k) (run_deeds run) w (running_of None y after) (run_items run) (λ j. run_buffers j run)
    = run_told run (new_keeps (suc k) (standing_of response w) new (omega arith)) in
    rests_as response (suc k) (done_all response n (run_deeds run) w) y after told.last told.cames (told.lefts k) refl
    (exchanges_pass.last_stage response n k w (run_deeds run) new within told.are (subst IsInOrder (sym told.cames) order))

pub unchanged_bodies : (H : Type 0) → UnchangedPass H
unchanged_bodies H = λ response n x y room after run new order.
    let w : Running = running_of None x room in
    let told : Told response n 0 (run_deeds run) w (running_of None y after) (run_items run) (λ k. run_buffers k run)
    = run_told run (new_keeps 0 (standing_of response w) new (omega arith)) in
    rests_as response 0 (done_all response n (run_deeds run) w) y after told.last told.cames (ap item_bytes told.cames) refl
    (exchanges_pass.unchanged response n w (run_deeds run) new told.are (subst IsInOrder (sym told.cames) order))

-- from a sound state
run_goes : (H : Type 0) (response : Bool) (n count : ℕ) (x y : Exchange) (room after : Room) (run : Run H response n count x room y after) (whole_a whole_b : List ℕ)
    → (sound : IsSound count (standing_of response (running_of None x room))) → bytes_pending count (standing_of response (running_of None x room)) ≡ []
    → bytes_pending count (standing_of response (running_of None y after)) ≡ [] → whole_a ≡ whole_b → GoesOn response n count (run_deeds run) (running_of None x room) whole_a → RunGoesOn run whole_b
run_goes H response n count x y room after run whole_a whole_b sound none_before none_after same law =
    let w : Running = running_of None x room in
    let told : Told response n count (run_deeds run) w (running_of None y after) (run_items run) (λ k. run_buffers k run) = run_told run sound in
    let before : behind count (standing_of response w) ≡ flow room.hub.contexts (drop count (chain_of response x))
    = ap (λ (l : List ℕ). flow room.hub.contexts (drop count (chain_of response x)) ++ l) none_before ∙ append-nil (flow room.hub.contexts (drop count (chain_of response x))) in
    let behind_it : behind count (standing_of response (done_all response n (run_deeds run) w)) ≡ flow after.hub.contexts (drop count (chain_of response y))
    = ap (λ (u : Running). behind count (standing_of response u)) told.last
    ∙ (ap (λ (l : List ℕ). flow after.hub.contexts (drop count (chain_of response y)) ++ l) none_after ∙ append-nil (flow after.hub.contexts (drop count (chain_of response y)))) in
    record {
      bytes = sym (ap (λ (l : List ℕ). item_bytes (left_by response n (run_deeds run) w) ++ l) behind_it) ∙ (law.bytes ∙ (λ i. before i ++ same i));
      order = subst (λ (t : List ChainItem × Running). Thinner (bare_in (chain_of response x) ++ bare_all t.0) (bare_all (left_by response n (run_deeds run) w) ++ bare_in (chain_of response t.1.exchange)))
          (λ i. (told.cames i, told.last i)) law.order;
      written = λ order.
          are_written response n count w (run_deeds run) sound told.are (subst (λ (l : List ChainItem). IsInOrder (bare_in (chain_of response x) ++ bare_all l)) (sym told.cames) order);
      sound = subst (λ (u : Running). IsSound count (standing_of response u)) told.last law.sound;
    }

pub runs_go_on : (H : Type 0) → RunsGoOn H
runs_go_on H = record {
  last_stage = λ response n k x y room after run sound.
      let w : Running = running_of None x room in
      let told : Told response n (suc k) (run_deeds run) w (running_of None y after) (run_items run) (λ j. run_buffers j run) = run_told run sound in
      run_goes H response n (suc k) x y room after run (buffers_by response n k (run_deeds run) w) (run_buffers k run) sound refl refl (told.lefts k)
      (exchanges_pass.last_goes_on response n k w (run_deeds run) sound told.are);
  unchanged = λ response n x y room after run sound.
      let w : Running = running_of None x room in
      let told : Told response n 0 (run_deeds run) w (running_of None y after) (run_items run) (λ j. run_buffers j run) = run_told run sound in
      run_goes H response n 0 x y room after run (item_bytes (items_put (run_deeds run))) (item_bytes (run_items run)) sound refl refl (ap item_bytes told.cames)
      (exchanges_pass.unchanged_goes_on response n w (run_deeds run) sound told.are);
}

idle_more : {response : Bool} {n count : ℕ} {due : Option Ask} {x : Exchange} {room : Room} {y : Exchange} {after : Room} (o : Other response n count due x room y after) (deeds : List Deed) → AreIdle deeds
    → AreIdle (other_deeds o ++ deeds)
idle_more (wakes w) deeds idle = (tt, (tt, idle))
idle_more (leaves l) deeds idle = (tt, idle)

pub meanwhile_runs : (H : Type 0) → MeanwhileRuns H
meanwhile_runs H response n count x y room after m = run_of m
  where
    run_of : {x y : Exchange} {room after : Room} → Meanwhile response n count x room y after → (run : Run H response n count x room y after) × IsIdleRun run
    run_of (nothing x room) = (rests x room, record { items = refl; buffers = λ k. refl; deeds = tt })
    run_of (other {x} {y} {z} {room} {mid} {after} o later) =
        let r : (run : Run H response n count y mid z after) × IsIdleRun run = run_of later in
        (goes (others y mid o) r.0, record { items = r.1.items; buffers = λ k. r.1.buffers k; deeds = idle_more o (run_deeds r.0) r.1.deeds })

-- ---- what is sent

number_sends : (change : Changes) (n : ℕ) (x : Exchange) (room : Room) → IsOn n room x → (on_number change n room).hub.sent ≡ (change n x room.hub).1.sent
number_sends change n x room on = ap (λ (r : Room). r.hub.sent) (on_number_is change n room x on)

pub own_parts_send : (H : Type 0) → OwnPartsSend H
own_parts_send H = record {
  moves = λ response n count x room c q m.
      number_sends (apply_action response q.ask.stage (action_of m.value)) n m.behind (affected c q)
      (others_on response n count (Some q.ask) q.stage.vm (stage_own q) c.contexts.effects (asked_exchange q) (quiet_room c (question q)) m.behind m.effects);
  puts = λ response n items x room on. number_sends (put_read_items response items) n x room on;
  wakes = λ response n count due x room y after w.
      ap (λ (r : Room). r.hub.sent) (w.room_is ∙ on_context_is (passing.resume_context w.vm w.context response) w.vm w.context n room x w.on w.line);
}
