-- Why bodies pass through turns.
use Rattle.std.proofs.Common.{◌≡◌, ◌≤◌, ℕ, zero, suc, Bool, List, [], ◌∷◌, ◌++◌, length, ap, ◌∙◌, sym, refl, subst, arith}
use Rattle.std.specs.Prelude.{None, drop}
use Rattle.std.proofs.lemmas.List.{append_assoc, append-nil}
use Rattle.filter_host.specs.Called.{Called, Calling}
use Rattle.filter_host.proofs.Once.{once}
use Rattle.filter_host.specs.Course.{Course, ends, runs_then, Met, Reaches}
use Rattle.exchange.specs.declared.types.Exchange.{Exchange}
use Rattle.exchange.specs.Passing.{chain_of, put_read_items}
use Rattle.filter_chain.specs.declared.item.ChainItem.{ChainItem}
use Rattle.filter_chain.specs.Chains.{asked}
use Rattle.filter_chain.specs.Flow.{flow}
use Rattle.filter_chain.specs.Items.{item_bytes}
use Rattle.worker_model.specs.Room.{Room}
use Rattle.worker_model.specs.declared.types.Job.{Job}
use Rattle.worker_model.specs.declared.types.Next.{Next}
use Rattle.worker_model.specs.Plan.{Plan}
use Rattle.worker_model.specs.Rooms.{next_of, with_marks, on_number}
use Rattle.worker_model.specs.Steps.{Both, both, step}
use Rattle.worker_model.specs.Turn.{without_sent, room_for_event}
use Rattle.law_flow.specs.Besides.{IsWhole}
use Rattle.law_body.specs.Deeds.{Deed, turns, left_by}
use Rattle.law_chain.specs.Acts.{buffer_called}
use Rattle.law_chain.specs.PassThrough.{IsInOrder, PassesThrough}
use Rattle.law_chain.proofs.Through.{new_keeps}
use Rattle.law_flow.specs.Rooms.{IsOn, running_of, Leaves, leaves, Meanwhile, nothing, other, IsMove, IsPut, moved_exchange, moved_room, moves, puts, others, Run, rests, goes, part_deeds, run_deeds, part_items, run_items, part_buffers, run_buffers}
use Rattle.law_flow.specs.Stepping.{in_hand}
use Rattle.law_flow.specs.Steps.{MoveEnds, callback_program}
use Rattle.law_flow.specs.Turns.{MayStep, moves_own, puts_own, is_beside, IsOf, AreOf, LeavesBuffer, BuffersAreOne, LeaveBuffers, Steps, no_step, one_step, next_turn, HavePassed, TurnsPassBodies, HaveGoneOn, TurnsGoOn}
use Rattle.law_chain.specs.Sound.{IsSound}
use Rattle.law_body.specs.Deeds.{standing_of}
use Rattle.law_flow.specs.Workers.{IsIdleRun, RunGoesOn}
use Rattle.law_flow.proofs.Jobs.{jobs_leave}
use Rattle.law_flow.proofs.Lines.{on_set, on_number_is}
use Rattle.law_flow.proofs.Moving.{moves_are, puts_are}
use Rattle.law_flow.proofs.Rooms.{other_on, moved_on, run_buffers_are, meanwhile_runs, workers_pass, last_stages, unchanged_bodies, runs_go_on}
use Rattle.law_flow.proofs.Stepping.{steps_beside}

-- ---- the run of a step

record Went (H : Type 0) (response : Bool) (n count : ℕ) (x : Exchange) (room after : Room) (items : List ChainItem) (Of : List Deed → Type 0) (Left : ℕ → List ℕ → Type 0) : Type 0 where
  last : Exchange
  on : IsOn n after last
  run : Run H response n count x room last after
  put : run_items run ≡ items
  of : Of (run_deeds run)
  left : (k : ℕ) → Left k (run_buffers k run)

meanwhile_on : {response : Bool} {n count : ℕ} {x y : Exchange} {room after : Room} → Meanwhile response n count x room y after → IsOn n room x → IsOn n after y
meanwhile_on (nothing x room) on = on
meanwhile_on {response} {n} {count} (other {x} {y} {z} {room} {mid} {after} o later) on = meanwhile_on later (other_on response n count None x room y mid o)

went_as : (H : Type 0) (response : Bool) (n count : ℕ) (x : Exchange) (room after end : Room) (items : List ChainItem) (Of : List Deed → Type 0) (Left : ℕ → List ℕ → Type 0) → after ≡ end
    → Went H response n count x room end items Of Left → Went H response n count x room after items Of Left
went_as H response n count x room after end items Of Left is w = subst (λ (r : Room). Went H response n count x room r items Of Left) (sym is) w

-- no buffer is left
abbrev NoneLeft : ℕ → List ℕ → Type 0
NoneLeft k bytes = bytes ≡ []

-- it puts what was read, with its job in hand
put_went : (H : Type 0) (response : Bool) (n count : ℕ) (x : Exchange) (room : Room) (items : List ChainItem) (later : List Job) → IsOn n room x → IsWhole response x room
    → (is : IsPut response n count items x (in_hand later room))
    → Went H response n count x room (on_number (put_read_items response items) n (in_hand later room)) items (λ deeds. deeds ≡ turns x (in_hand later room).hub ∷ part_deeds {H = H} (puts items is)) NoneLeft
put_went H response n count x room items later on whole is =
    let mid : Room = in_hand later room in
    let after : Room = on_number (put_read_items response items) n mid in
    let y : Exchange = (put_read_items response items n x mid.hub).0 in
    let l : Leaves response n x room x mid = jobs_leave.in_hand later response n x room on whole in
    record {
      last = y;
      on = subst (λ (r : Room). IsOn n r y) (sym (on_number_is (put_read_items response items) n mid x is.on)) (on_set n mid x is.on (with_marks (put_read_items response items n x mid.hub)));
      run = goes (others x mid (leaves l)) (goes (puts items is) (rests y after));
      put = append-nil items;
      of = ap (λ (l : List Deed). turns x mid.hub ∷ l) (append-nil (part_deeds {H = H} (puts items is)));
      left = λ k. refl;
    }

step_went : {H : Type 0} (calling : Calling H) (plan : Plan) (response : Bool) (n count : ℕ) (x : Exchange) (b m : Both H) (ms : List Met) (nx : Next) (items : List ChainItem) → IsOn n b.room x
    → IsWhole response x b.room → (may : MayStep calling response n count x b ms nx items) → Reaches (step calling plan nx b.host b.room) ms (ends m)
    → Went H response n count x b.room m.room items (IsOf may) (λ k. LeavesBuffer k may)
step_went {H} calling plan response n count x b m ms _ _ on whole (moves_own q may) reaches =
    let end : MoveEnds calling b.host q ms m = moves_are H calling plan response n x b.room q b.host ms m reaches in
    let c : Called H = end.end in
    let move : IsMove count c q = may c end.reached in
    let is : m.room ≡ moved_room move = ap (λ (d : Both H). d.room) (end.moves count move) in
    went_as H response n count x b.room m.room (moved_room move) [] (IsOf {calling = calling} {b = b} {ms = ms} (moves_own q may))
    (λ k. LeavesBuffer {calling = calling} {b = b} {ms = ms} k (moves_own q may)) is
    (record {
      last = moved_exchange move;
      on = moved_on response n count c x b.room q move;
      run = goes (moves c q move) (rests (moved_exchange move) (moved_room move));
      put = refl;
      of = (c, end.reached, append-nil (part_deeds (moves c q move)));
      left = λ k. (c, end.reached, append-nil (part_buffers k (moves c q move)));
    })
step_went {H} calling plan response n count x b m ms _ _ on whole (puts_own items later is put) reaches = by_met ms (subst (λ (k : Course (Both H)). Reaches k ms (ends m)) (puts_are H calling plan response n items later b.host b.room is) reaches)
  where
    by_met : (ns : List Met) → Reaches (ends (both b.host (on_number (put_read_items response items) n (in_hand later b.room)))) ns (ends m) → Went H response n count x b.room m.room items (λ deeds. deeds ≡ turns x (in_hand later b.room).hub ∷ part_deeds {H = H} (puts items put)) NoneLeft
    by_met [] same =
        let is_m : m ≡ both b.host (on_number (put_read_items response items) n (in_hand later b.room)) = sym (cc) in
        went_as H response n count x b.room m.room (on_number (put_read_items response items) n (in_hand later b.room)) items (λ deeds. deeds ≡ turns x (in_hand later b.room).hub ∷ part_deeds {H = H} (puts items put)) NoneLeft (ap (λ (d : Both H). d.room) is_m)
        (put_went H response n count x b.room items later on whole put)
    by_met (c ∷ ns) same = absurd same
step_went {H} calling plan response n count x b m ms _ _ on whole (is_beside nx may) reaches =
    let w : (y : Exchange) × Meanwhile response n count x b.room y m.room = steps_beside H calling plan response n count x b m ms nx on whole may reaches in
    let r : (run : Run H response n count x b.room w.0 m.room) × IsIdleRun run = meanwhile_runs H response n count x w.0 b.room m.room w.1 in
    record { last = w.0; on = meanwhile_on w.1 on; run = r.0; put = r.1.items; of = r.1.deeds; left = r.1.buffers }

-- ---- runs, one after the other

run_join : {H : Type 0} {response : Bool} {n count : ℕ} {x y z : Exchange} {room mid after : Room} (one : Run H response n count x room y mid) (two : Run H response n count y mid z after)
    → (run : Run H response n count x room z after) × (run_items run ≡ run_items one ++ run_items two) × (run_deeds run ≡ run_deeds one ++ run_deeds two)
    × ((k : ℕ) → run_buffers k run ≡ run_buffers k one ++ run_buffers k two)
run_join (rests x room) two = (two, refl, refl, λ k. refl)
run_join (goes part one) two =
    let later = run_join one two in (
      goes part later.0,
      ap (λ (l : List ChainItem). part_items part ++ l) later.1 ∙ sym (append_assoc (part_items part) (run_items one) (run_items two)),
      ap (λ (l : List Deed). part_deeds part ++ l) later.2 ∙ sym (append_assoc (part_deeds part) (run_deeds one) (run_deeds two)),
      λ k. ap (λ (l : List ℕ). part_buffers k part ++ l) (later.3 k) ∙ sym (append_assoc (part_buffers k part) (run_buffers k one) (run_buffers k two)),
    )

steps_went : {H : Type 0} (calling : Calling H) (plan : Plan) (response : Bool) (n count : ℕ) (x : Exchange) (b e : Both H) (items : List ChainItem)
    (steps : Steps calling plan response n count x b items e) → IsOn n b.room x → Went H response n count x b.room e.room items (AreOf steps) (λ k. LeaveBuffers k steps)
steps_went {H} calling plan response n count _ _ _ _ (no_step x b) on = record { last = x; on = on; run = rests x b.room; put = refl; of = refl; left = λ k. refl }
steps_went {H} calling plan response n count _ _ _ _ (one_step x b m e items more ms there whole may reaches later) on =
    let first : Went H response n count x b.room m.room items (IsOf may) (λ k. LeavesBuffer k may) = step_went calling plan response n count x b m ms (next_of b.room) items there whole may reaches in
    let rest : Went H response n count first.last m.room e.room more (AreOf (later first.last first.on)) (λ k. LeaveBuffers k (later first.last first.on)) = steps_went calling plan response n count first.last m e more (later first.last first.on) first.on in
    let r = run_join first.run rest.run in
    record {
      last = rest.last;
      on = rest.on;
      run = r.0;
      put = r.1 ∙ (λ i. first.put i ++ rest.put i);
      of = (run_deeds first.run, run_deeds rest.run, r.2, first.of, (first.last, first.on, rest.of));
      left = λ k. (run_buffers k first.run, run_buffers k rest.run, r.3 k, first.left k, (first.last, first.on, rest.left k));
    }
steps_went {H} calling plan response n count _ _ _ _ (next_turn x b e items event there whole later) on =
    let mid : Room = room_for_event plan event (without_sent b.room) in
    let l : Leaves response n x b.room x mid = jobs_leave.facing_next plan event response n x b.room there whole in
    let rest : Went H response n count x mid e.room items (AreOf later) (λ k. LeaveBuffers k later) = steps_went calling plan response n count x (both b.host mid) e items later l.on in
    record { last = rest.last; on = rest.on; run = goes (others x mid (leaves l)) rest.run; put = rest.put; of = (run_deeds rest.run, refl, rest.of); left = rest.left }

-- ---- THE LAW

pub turns_pass : (H : Type 0) → TurnsPassBodies H
turns_pass H calling plan response n count x b e items steps on new within order = by_count count steps within
  where
    by_count : (c : ℕ) (steps_ : Steps calling plan response n c x b items e) → c ≤ length (chain_of response x) → HavePassed steps_
    by_count zero steps_ within_ =
        let w : Went H response n 0 x b.room e.room items (AreOf steps_) (λ k. LeaveBuffers k steps_) = steps_went calling plan response n 0 x b e items steps_ on in
        let left : List ChainItem = left_by response n (run_deeds w.run) (running_of None x b.room) in
        let inside : List ℕ = flow e.room.hub.contexts (chain_of response w.last) in
        record {
          last = w.last;
          on = w.on;
          run = w.run;
          put = w.put;
          of = w.of;
          left = w.left;
          buffers = run_buffers_are response n 0 x w.last b.room e.room w.run (new_keeps 0 (standing_of response (running_of None x b.room)) new within_);
          deeds = workers_pass H response n 0 x w.last b.room e.room w.run new within_;
          last_stage = λ k is. absurd (cc is);
          unchanged = λ is.
              subst (λ (l : List ChainItem). PassesThrough l (item_bytes l) left inside (chain_of response w.last)) w.put
              (unchanged_bodies H response n x w.last b.room e.room w.run new (subst IsInOrder (sym w.put) order));
        }
    by_count (suc j) steps_ within_ =
        let w : Went H response n (suc j) x b.room e.room items (AreOf steps_) (λ k. LeaveBuffers k steps_) = steps_went calling plan response n (suc j) x b e items steps_ on in
        let left : List ChainItem = left_by response n (run_deeds w.run) (running_of None x b.room) in
        let inside : List ℕ = flow e.room.hub.contexts (drop (suc j) (chain_of response w.last)) in
        let law : PassesThrough items (run_buffers j w.run) left inside (chain_of response w.last)
        = subst (λ (l : List ChainItem). PassesThrough l (run_buffers j w.run) left inside (chain_of response w.last)) w.put
        (last_stages H response n j x w.last b.room e.room w.run new (omega arith) (subst IsInOrder (sym w.put) order)) in
        record {
          last = w.last;
          on = w.on;
          run = w.run;
          put = w.put;
          of = w.of;
          left = w.left;
          buffers = run_buffers_are response n (suc j) x w.last b.room e.room w.run (new_keeps (suc j) (standing_of response (running_of None x b.room)) new within_);
          deeds = workers_pass H response n (suc j) x w.last b.room e.room w.run new within_;
          last_stage = λ k is.
              let same : j ≡ k = (cc is) in
              subst (λ (i : ℕ). PassesThrough items (run_buffers i w.run) left inside (chain_of response w.last)) same law;
          unchanged = λ is. absurd (cc is);
        }

pub turns_go_on : (H : Type 0) → TurnsGoOn H
turns_go_on H calling plan response n count x b e items steps on sound = by_count count steps sound
  where
    by_count : (c : ℕ) (steps_ : Steps calling plan response n c x b items e) → IsSound c (standing_of response (running_of None x b.room)) → HaveGoneOn steps_
    by_count zero steps_ sound_ =
        let w : Went H response n 0 x b.room e.room items (AreOf steps_) (λ k. LeaveBuffers k steps_) = steps_went calling plan response n 0 x b e items steps_ on in
        record {
          last = w.last;
          on = w.on;
          run = w.run;
          put = w.put;
          of = w.of;
          left = w.left;
          buffers = run_buffers_are response n 0 x w.last b.room e.room w.run sound_;
          last_stage = λ k is. absurd (cc is);
          unchanged = λ is.
              subst (λ (l : List ChainItem). RunGoesOn w.run (item_bytes l)) w.put ((runs_go_on H).unchanged response n x w.last b.room e.room w.run sound_);
        }
    by_count (suc j) steps_ sound_ =
        let w : Went H response n (suc j) x b.room e.room items (AreOf steps_) (λ k. LeaveBuffers k steps_) = steps_went calling plan response n (suc j) x b e items steps_ on in
        record {
          last = w.last;
          on = w.on;
          run = w.run;
          put = w.put;
          of = w.of;
          left = w.left;
          buffers = run_buffers_are response n (suc j) x w.last b.room e.room w.run sound_;
          last_stage = λ k is.
              let same : j ≡ k = (cc is) in
              subst (λ (i : ℕ). RunGoesOn w.run (run_buffers i w.run)) same ((runs_go_on H).last_stage response n j x w.last b.room e.room w.run sound_);
          unchanged = λ is. absurd (cc is);
        }

-- ---- what the body callback of a step left is one

pub buffers_are_one : (H : Type 0) → BuffersAreOne H
buffers_are_one H calling response n count x b ms _ _ (moves_own q may) k first second left right =
    let same : left.0 ≡ right.0 = (once ms ms (runs_then (callback_program calling b.host q) ends) left.0 right.0 left.1 right.1 refl).1 in
    left.2 ∙ (ap (λ (c : Called H). buffer_called k c.contexts (asked b.room.hub.contexts (chain_of response x))) same ∙ sym right.2)
buffers_are_one H calling response n count x b ms _ _ (puts_own more later is put) k first second left right = left ∙ sym right
buffers_are_one H calling response n count x b ms _ _ (is_beside also may) k first second left right = left ∙ sym right
