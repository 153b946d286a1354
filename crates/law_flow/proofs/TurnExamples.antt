-- The worked steps, by computation; and what the law says of them.
use Rattle.std.proofs.Common.{◌≡◌, ℕ, zero, suc, false, List, [], ◌∷◌, ◌++◌, ap, ◌∙◌, sym, refl, subst, arith}
use Rattle.std.proofs.Math.Path.{path_j, subst_refl}
use Rattle.std.proofs.lemmas.List.{append-nil}
use Rattle.std.specs.Prelude.{Option, None, Some, drop, slice_get, codes}
use Rattle.filter_host.specs.Called.{Called}
use Rattle.filter_host.specs.Course.{ends, Met, Reaches}
use Rattle.filter_host.specs.declared.host.Callback.TheVariants as callbacks
use Rattle.exchange.specs.declared.types.Exchange.{Exchange}
use Rattle.exchange.specs.Passing.{chain_of}
use Rattle.filter_chain.specs.declared.item.ChainItem.{ChainItem}
use Rattle.filter_chain.specs.declared.stage.Stage.{Stage}
use Rattle.filter_chain.specs.Flow.{flow}
use Rattle.worker_model.specs.Room.{Room}
use Rattle.worker_model.specs.declared.types.Line.{Line}
use Rattle.worker_model.specs.declared.types.Next.TheVariants as next
use Rattle.worker_model.specs.Rooms.{next_of}
use Rattle.worker_model.specs.Steps.{Both, step}
use Rattle.law_body.specs.Deeds.{standing_of}
use Rattle.law_chain.specs.PassThrough.{IsNew, IsInOrder}
use Rattle.law_flow.specs.Besides.{OthersAreAlien, IsWhole}
use Rattle.law_flow.specs.Rooms.{IsOn, running_of, run_buffers, IsAsked, IsMove, asked_exchange}
use Rattle.law_flow.specs.TurnExamples.{TurnExample, asked_of, holding, one_vm, starts, begins, head_and_two, one_is_due, first_put, head_held, bytes_left, holds_head, what_is_held}
use Rattle.law_flow.specs.Turns.{MayStep, moves_own, puts_own, LeavesBuffer, LeaveBuffers, Steps, no_step, one_step, HavePassed}
use Rattle.law_flow.proofs.Turns.{turns_pass}

-- ---- the exchange on a line is one

same_place : (p q : ℕ) (o : Option ℕ) → o ≡ Some p → o ≡ Some q → p ≡ q
same_place p q o one two = cc

same_line : (l m : Line) (o : Option Line) → o ≡ Some l → o ≡ Some m → l ≡ m
same_line l m o one two = cc

same_exchange : (x y : Exchange) (o : Option Exchange) → o ≡ Some x → o ≡ Some y → x ≡ y
same_exchange x y o one two = cc

only : (room : Room) (x y : Exchange) → IsOn 1 room x → IsOn 1 room y → x ≡ y
only room x y one two =
    let place : one.place ≡ two.place = same_place one.place two.place _ one.stands two.stands in
    let line : one.line ≡ two.line = same_line one.line two.line (slice_get room.lines one.place) one.at (ap (λ (p : ℕ). slice_get room.lines p) place ∙ two.at) in
    same_exchange x y one.line.exchange one.exchange (ap (λ (l : Line). l.exchange) line ∙ two.exchange)

-- no line but this one is there
alone : (ss : List Stage) (room : Room) (l : Line) → room.lines ≡ l ∷ [] → OthersAreAlien ss 0 room
alone ss room l is zero line y there has apart = absurd (apart refl)
alone ss room l is (suc p) line y there has apart = absurd (none (subst (λ (ls : List Line). slice_get ls (suc p) ≡ Some line) is there))
  where
    none : None ≡ Some line → ⊥
    none e = cc

-- ---- steps of this worker, one after the other

abbrev Its : Exchange → Both ℕ → List ChainItem → Both ℕ → Type 0
Its x b items e = Steps holding one_vm false 1 1 x b items e

abbrev chained : (x y : Exchange) (b m e : Both ℕ) (items more : List ChainItem) (ms : List Met) → IsOn 1 b.room x → IsWhole false x b.room
    → MayStep holding false 1 1 x b ms (next_of b.room) items → Reaches (step holding one_vm (next_of b.room) b.host b.room) ms (ends m) → IsOn 1 m.room y → Its y m more e
    → Its x b (items ++ more) e
chained x y b m e items more ms on whole may reaches there later =
    one_step x b m e items more ms on whole may reaches (λ z so. subst (λ (w : Exchange). Its w m more e) (only m.room y z there so) later)

-- what the callbacks of such steps left
peeled : (m e : Both ℕ) (more : List ChainItem) (k : ℕ) (rest : List ℕ) (y z : Exchange) (p : y ≡ z) (s : Its y m more e)
    → LeaveBuffers k (subst (λ (w : Exchange). Its w m more e) p s) rest → LeaveBuffers k s rest
peeled m e more k rest y z p s = path_j (λ (w : Exchange) (q : y ≡ w). LeaveBuffers k (subst (λ (w : Exchange). Its w m more e) q s) rest → LeaveBuffers k s rest)
    (λ l. subst (λ (t : Its y m more e). LeaveBuffers k t rest) (subst_refl (λ (w : Exchange). Its w m more e) s) l) p

record Behind (x y : Exchange) (b m e : Both ℕ) (items more : List ChainItem) (ms : List Met) (k : ℕ) (may : MayStep holding false 1 1 x b ms (next_of b.room) items) (later : Its y m more e)
    (bytes : List ℕ) : Type 0 where
  first : List ℕ
  rest : List ℕ
  is : bytes ≡ first ++ rest
  here : LeavesBuffer k may first
  there : LeaveBuffers k later rest

behind : (x y : Exchange) (b m e : Both ℕ) (items more : List ChainItem) (ms : List Met) (on : IsOn 1 b.room x) (whole : IsWhole false x b.room)
    (may : MayStep holding false 1 1 x b ms (next_of b.room) items) (reaches : Reaches (step holding one_vm (next_of b.room) b.host b.room) ms (ends m)) (there : IsOn 1 m.room y)
    (later : Its y m more e) (k : ℕ) (bytes : List ℕ) → LeaveBuffers k (chained x y b m e items more ms on whole may reaches there later) bytes
    → Behind x y b m e items more ms k may later bytes
behind x y b m e items more ms on whole may reaches there later k bytes l = record {
  first = l.0;
  rest = l.1;
  is = l.2;
  here = l.3;
  there = peeled m e more k l.1 y l.4.0 (only m.room y l.4.0 there l.4.1) later l.4.2;
}

-- ---- where the exchange is, and what of it is there

abbrev or_starts : Option Exchange → Exchange
or_starts None = starts
or_starts (Some x) = x

abbrev exchange_of : List Line → Exchange
exchange_of [] = starts
exchange_of (l ∷ ls) = or_starts l.exchange

abbrev x_in : Both ℕ → Exchange
x_in b = exchange_of b.room.lines

abbrev line_of : List Line → Line
line_of [] = record { number = 1; requests = one_is_due; is_gone = false; exchange = Some starts }
line_of (l ∷ ls) = l

-- its line
abbrev l_in : Both ℕ → Line
l_in b = line_of b.room.lines

same_end : (c d : Called ℕ) → ends c ≡ ends d → c ≡ d
same_end c d is = cc

-- ---- what was read is put

put_first : MayStep holding false 1 1 starts begins [] next.Work head_and_two
put_first = puts_own head_and_two [] refl (record {
  on = record { place = 0; line = _; stands = refl; at = refl; number = refl; exchange = refl };
  unanswered = refl;
  deeds = (record { runs = (refl, refl); acts = (tt, tt); chain = tt }, (record { runs = (refl, refl); acts = (tt, tt); chain = tt }, tt));
})

on_begins : IsOn 1 begins.room starts
on_begins = record { place = 0; line = _; stands = refl; at = refl; number = refl; exchange = refl }

whole_begins : IsWhole false starts begins.room
whole_begins = ((omega arith, _, refl), tt)

on_first : IsOn 1 first_put.room (x_in first_put)
on_first = record { place = 0; line = _; stands = refl; at = refl; number = refl; exchange = refl }

whole_first : IsWhole false (x_in first_put) first_put.room
whole_first = ((omega arith, _, refl), tt)

-- ---- the head is held

abbrev asked_head : IsAsked false 1 (x_in first_put) first_put.room
asked_head = record {
  on = record { place = 0; line = _; stands = refl; at = refl; number = refl; exchange = refl };
  direction = refl;
  ask = _;
  stages = _;
  contexts = _;
  asks = refl;
  stage = _;
  at = refl;
}

abbrev head_called : Called ℕ
head_called = asked_of first_put.host 0 2 asked_head.contexts callbacks.RequestHeaders

head_move : IsMove 1 head_called asked_head
head_move = record {
  runs = (refl, refl);
  value = Some 1;
  returned = refl;
  call = (tt, ((omega arith, _, refl), tt));
  behind = asked_exchange asked_head;
  effects = (refl, record { place = 0; line = _; stands = refl; at = refl; number = refl; exchange = refl });
  answer = record { runs = (refl, refl); acts = ((tt, λ is. tt), tt); chain = tt };
}

move_head : MayStep holding false 1 1 (x_in first_put) first_put [] (next.Move 0) []
move_head = moves_own asked_head (λ c reached. subst (λ (d : Called ℕ). IsMove 1 d asked_head) (same_end head_called c reached) head_move)

on_held : IsOn 1 head_held.room (x_in head_held)
on_held = record { place = 0; line = _; stands = refl; at = refl; number = refl; exchange = refl }

-- ---- the head, which is held
abbrev held_from_first : Its (x_in first_put) first_put [] head_held
held_from_first = chained (x_in first_put) (x_in head_held) first_put head_held head_held [] [] [] on_first whole_first move_head refl on_held (no_step (x_in head_held) head_held)

abbrev held_from_begins : Its starts begins head_and_two head_held
held_from_begins = chained starts (x_in first_put) begins first_put head_held head_and_two [] [] on_begins whole_begins put_first refl on_first held_from_first

-- ---- what their callbacks left

after_silent : (bytes first rest end : List ℕ) → bytes ≡ first ++ rest → first ≡ [] → rest ≡ end → bytes ≡ end
after_silent bytes first rest end is none later = is ∙ (ap (λ (l : List ℕ). l ++ rest) none ∙ later)

after_call : (bytes first rest own end : List ℕ) → bytes ≡ first ++ rest → first ≡ own → rest ≡ end → bytes ≡ own ++ end
after_call bytes first rest own end is here later = is ∙ (λ i. here i ++ later i)

-- its callback for the head leaves no buffer
head_leaves_none : (first : List ℕ) → LeavesBuffer 0 move_head first → first ≡ []
unfolding move_head
head_leaves_none first (c, reached, is) = is

held_leaves : (bytes : List ℕ) → LeaveBuffers 0 held_from_begins bytes → bytes ≡ []
unfolding put_first
held_leaves bytes l =
    let w : Behind starts (x_in first_put) begins first_put head_held head_and_two [] [] 0 put_first held_from_first bytes =
    behind starts (x_in first_put) begins first_put head_held head_and_two [] [] on_begins whole_begins put_first refl on_first held_from_first 0 bytes l in
    let v : Behind (x_in first_put) (x_in head_held) first_put head_held head_held [] [] [] 0 move_head (no_step (x_in head_held) head_held) w.rest =
    behind (x_in first_put) (x_in head_held) first_put head_held head_held [] [] [] on_first whole_first move_head refl on_held (no_step (x_in head_held) head_held) 0 w.rest w.there in
    after_silent bytes w.first w.rest [] w.is w.here (after_silent w.rest v.first v.rest [] v.is (head_leaves_none v.first v.here) v.there)

-- ---- what the law says of them

-- nothing is after the filter, the last that has a body callback
all_left : (left inside whole end : List ℕ) → left ++ inside ≡ whole → inside ≡ [] → whole ≡ end → left ≡ end
all_left left inside whole end bytes none is = sym (append-nil left) ∙ (ap (λ (l : List ℕ). left ++ l) (sym none) ∙ (bytes ∙ is))

held_left : (passed : HavePassed held_from_begins) → bytes_left passed ≡ []
held_left passed =
    let last : x_in head_held ≡ passed.last = only head_held.room (x_in head_held) passed.last on_held passed.on in
    all_left (bytes_left passed) (flow head_held.room.hub.contexts (drop 1 (chain_of false passed.last))) (run_buffers 0 passed.run) []
    ((passed.last_stage 0 refl).bytes) (subst (λ (w : Exchange). flow head_held.room.hub.contexts (drop 1 (chain_of false w)) ≡ []) last refl)
    (held_leaves (run_buffers 0 passed.run) (passed.left 0))

new_at_head : IsNew (standing_of false (running_of None starts begins.room))
new_at_head = record {
  due = refl;
  idle = (record { waiting = refl; holding = refl; asking = refl; empty = refl }, tt);
  there = ((omega arith, _, refl), tt);
  apart = (tt, tt);
}

head_in_order : IsInOrder head_and_two
head_in_order = (λ e. absurd (cc e), (λ e. absurd (cc e), tt))

held_inside : (passed : HavePassed held_from_begins) → flow head_held.room.hub.contexts passed.last.request ≡ codes "ab"
held_inside passed =
    subst (λ (w : Exchange). flow head_held.room.hub.contexts w.request ≡ codes "ab") (only head_held.room (x_in head_held) passed.last on_held passed.on) refl

held_head : (passed : HavePassed held_from_begins) → what_is_held passed.last.request ≡ holds_head
held_head passed =
    subst (λ (w : Exchange). what_is_held w.request ≡ holds_head) (only head_held.room (x_in head_held) passed.last on_held passed.on) refl

held_passed : HavePassed held_from_begins
held_passed = turns_pass ℕ holding one_vm false 1 1 starts begins head_held head_and_two held_from_begins on_begins new_at_head (omega arith) head_in_order

pub turn_example : TurnExample
turn_example = record {
  none_called = refl;
  one_called = refl;
  held = held_from_begins;
  held_new = new_at_head;
  held_passed = held_passed;
  held_left = held_left;
  held_head = held_head;
  held_sent = refl;
  held_inside = held_inside;
}
