-- What else a worker does leaves a direction as it was.
use Rattle.std.proofs.Common.{◌≡◌, ℕ, zero, suc, ◌==◌, Bool, true, false, not, List, [], ◌∷◌, map, ap, ◌∙◌, sym, refl, subst}
use Rattle.std.specs.Prelude.{Option, None, Some, slice_get, slice_set, if◌then◌else◌}
use Rattle.contexts.specs.declared.parts.Contexts.{Contexts}
use Rattle.contexts.specs.Stages.{with_bytes}
use Rattle.exchange.specs.declared.types.Exchange.{Exchange}
use Rattle.exchange.specs.declared.types.Hub.{Hub}
use Rattle.exchange.specs.Answering.{with_held}
use Rattle.exchange.specs.Leaving.{send_item, send_items, send_request_item, send_response_item}
use Rattle.exchange.specs.Passing.{chain_of, with_chain, finish_put, take_move, take_put, put_to_chain, put_all_to_chain, put_read_items, resume_held, apply_action, resume_context, resume_place, stage_of, pause_held}
use Rattle.filter_chain.specs.declared.stage.Stage.{Stage}
use Rattle.filter_chain.specs.declared.item.AskKind.{AskKind}
use Rattle.filter_chain.specs.declared.item.ChainItem.{ChainItem}
use Rattle.filter_chain.specs.declared.item.ChainItem.TheVariants.{Head, Piece, Trailers}
use Rattle.filter_chain.specs.declared.item.PassOutcome.{PassOutcome}
use Rattle.filter_chain.specs.Chains.{put, continued}
use Rattle.filter_chain.specs.Flow.{left_in, NoneIs}
use Rattle.worker_model.specs.Room.{Room}
use Rattle.worker_model.specs.declared.types.ContextAt.{ContextAt}
use Rattle.worker_model.specs.declared.types.Job.{Job}
use Rattle.worker_model.specs.declared.types.Line.{Line}
use Rattle.worker_model.specs.Rooms.{with_marks, in_exchange, put_back, at_some, at_place, with_lines, place_in, place_of, on_number, on_context}
use Rattle.worker_model.specs.Steps.{begin_first_job, release_at}
use Rattle.law_chain.specs.Acts.{IsLeft}
use Rattle.law_body.specs.Apart.{AreAliens, PassesBy, Does, PassesAliens}
use Rattle.law_flow.specs.Besides.{OthersAreAlien, IsWhole, OtherLinesLeave, OtherDirectionLeaves, QuietStepsLeave}
use Rattle.law_body.specs.Deeds.{comes, AreDeeds}
use Rattle.law_flow.specs.Rooms.{IsOn, Leaves, IsAsked, asked_exchange, question}
use Rattle.law_body.proofs.Apart.{Holds, Chained, same, next, by_vms, alien_at, continues, pauses_by}
use Rattle.law_chain.proofs.Asks.{Took, TookFor, Taken, took_head, took_piece, took_trailers, took}
use Rattle.law_body.proofs.Deeds.{passed_is, puts_is, goes_is}
use Rattle.law_chain.proofs.Holding.{hold_all, hold_then, hold_by_vms, there_by_vms, hold_other, there_other}
use Rattle.law_flow.proofs.Lines.{with_exchange, on_set, on_number_is, on_context_is, marking_vms, place_set}

-- ---- a room with the same lines

pub stays : (response : Bool) (n : ℕ) (x : Exchange) (room : Room) → IsOn n room x → IsWhole response x room → Leaves response n x room x room
stays response n x room on whole = record { on = on; chain = refl; holds = hold_all room.hub.contexts (chain_of response x); there = whole }

-- the lines are the same, and what the VMs have among the contexts
pub alike : (response : Bool) (n : ℕ) (x : Exchange) (room after : Room) → IsOn n room x → IsWhole response x room → after.lines ≡ room.lines → after.hub.contexts.vms ≡ room.hub.contexts.vms
    → Leaves response n x room x after
alike response n x room after on whole is vms = record {
  on = record {
    place = on.place;
    line = on.line;
    stands = ap (place_in n) is ∙ on.stands;
    at = ap (λ (lines : List Line). slice_get lines on.place) is ∙ on.at;
    number = on.number;
    exchange = on.exchange;
  };
  chain = refl;
  holds = hold_by_vms room.hub.contexts after.hub.contexts (chain_of response x) vms;
  there = there_by_vms room.hub.contexts after.hub.contexts (chain_of response x) vms whole;
}

leaves_as : (response : Bool) (n : ℕ) (x y : Exchange) (room after other : Room) → after ≡ other → Leaves response n x room y other → Leaves response n x room y after
leaves_as response n x y room after other is l = subst (λ (q : Room). Leaves response n x room y q) (sym is) l

-- ---- other lines

pub get_other : {A : Type 0} (xs : List A) (i j : ℕ) (x y : A) → slice_get xs j ≡ Some x → (i ≡ j → ⊥) → slice_get (slice_set xs i y) j ≡ Some x
get_other [] i j x y at apart = absurd (cc)
get_other (z ∷ xs) zero zero x y at apart = absurd (apart refl)
get_other (z ∷ xs) zero (suc j) x y at apart = at
get_other (z ∷ xs) (suc i) zero x y at apart = at
get_other (z ∷ xs) (suc i) (suc j) x y at apart = get_other xs i j x y at (λ e. apart (ap suc e))

-- another line is set
abbrev pub on_other : (n : ℕ) (room : Room) (x : Exchange) (on : IsOn n room x) (place : ℕ) (line new : Line) (hub : Hub) → slice_get room.lines place ≡ Some line → new.number ≡ line.number
    → (place ≡ on.place → ⊥) → IsOn n (record room { lines = slice_set room.lines place new; hub = hub }) x
on_other n room x on place line new hub at number apart = record {
  place = on.place;
  line = on.line;
  stands = place_set n room.lines place line new at number ∙ on.stands;
  at = get_other room.lines place on.place on.line new on.at apart;
  number = on.number;
  exchange = on.exchange;
}

other_at : (does : Does) → PassesAliens does → (response : Bool) (n : ℕ) (x : Exchange) (room : Room) (on : IsOn n room x) → OthersAreAlien (chain_of response x) on.place room
    → IsWhole response x room → (o : Option ℕ) → (o ≡ Some on.place → ⊥) → Leaves response n x room x (with_lines room (at_place does room.lines o room.hub))
other_at does passes response n x room on alien whole None apart = stays response n x room on whole
other_at does passes response n x room on alien whole (Some place) apart = by_line (slice_get room.lines place) refl
  where
    elsewhere : place ≡ on.place → ⊥
    elsewhere e = apart (ap (λ (p : ℕ). Some p) e)

    by_exchange : (line : Line) → slice_get room.lines place ≡ Some line → (e : Option Exchange) → line.exchange ≡ e
        → Leaves response n x room x (with_lines room (put_back room.lines place (in_exchange does line e room.hub)))
    by_exchange line at None is = record {
      on = on_other n room x on place line line room.hub at refl elsewhere;
      chain = refl;
      holds = hold_all room.hub.contexts (chain_of response x);
      there = whole;
    }
    by_exchange line at (Some y) is =
        let r : Exchange × Hub = does line.number y room.hub in
        let by : PassesBy (chain_of response x) room.hub r.0 r.1 = passes (chain_of response x) line.number y room.hub (alien place line y at is elsewhere) in
        let last : Exchange × Hub = with_marks r in
        let vms : Holds (chain_of response x) r.1.contexts last.1.contexts = by_vms (chain_of response x) r.1.contexts last.1.contexts (marking_vms r) in
        record {
          on = on_other n room x on place line (record line { exchange = Some last.0 }) last.1 at refl elsewhere;
          chain = refl;
          holds = hold_then room.hub.contexts r.1.contexts last.1.contexts (chain_of response x) by.holds vms.holds;
          there = vms.there (by.there whole);
        }

    by_line : (o : Option Line) → slice_get room.lines place ≡ o → Leaves response n x room x (with_lines room (at_some does room.lines place o room.hub))
    by_line None at = stays response n x room on whole
    by_line (Some line) at = by_exchange line at line.exchange refl

pub other_lines : OtherLinesLeave
other_lines = record {
  by_number = λ does passes response n m x room on alien whole apart. other_at does passes response n x room on alien whole (place_in m room.lines) apart;
  by_context = λ does passes response n vm context x room on alien whole apart. other_at does passes response n x room on alien whole (place_of vm context room.lines) apart;
}

-- ---- the other direction

-- what leaves changes no chain and no context
record IsOnly (xh after : Exchange × Hub) : Type 0 where
  request : after.0.request ≡ xh.0.request
  response : after.0.response ≡ xh.0.response
  contexts : after.1.contexts ≡ xh.1.contexts

leaves_only : (response : Bool) (n : ℕ) (item : ChainItem) (x : Exchange) (hub : Hub) → IsOnly (x, hub) (send_item response n item (x, hub))
leaves_only false n item x hub = by_end x.has_ended item
  where
    by_end : (b : Bool) (i : ChainItem) → IsOnly (x, hub) (if b then (x, hub) else send_request_item n i x hub)
    by_end true i = record { request = refl; response = refl; contexts = refl }
    by_end false (Head end) = record { request = refl; response = refl; contexts = refl }
    by_end false (Piece bytes end) = record { request = refl; response = refl; contexts = refl }
    by_end false Trailers = record { request = refl; response = refl; contexts = refl }
leaves_only true n item x hub = by_end x.has_ended item
  where
    by_end : (b : Bool) (i : ChainItem) → IsOnly (x, hub) (if b then (x, hub) else send_response_item n i x hub)
    by_end true i = record { request = refl; response = refl; contexts = refl }
    by_end false (Head end) = record { request = refl; response = refl; contexts = refl }
    by_end false (Piece bytes end) = record { request = refl; response = refl; contexts = refl }
    by_end false Trailers = record { request = refl; response = refl; contexts = refl }

left_only : (response : Bool) (n : ℕ) (items : List ChainItem) (xh : Exchange × Hub) → IsOnly xh (send_items response n items xh)
left_only response n [] xh = record { request = refl; response = refl; contexts = refl }
left_only response n (item ∷ items) xh =
    let mid : Exchange × Hub = send_item response n item xh in
    let first : IsOnly xh mid = leaves_only response n item xh.0 xh.1 in
    let last : IsOnly mid (send_items response n items mid) = left_only response n items mid in
    record { request = last.request ∙ first.request; response = last.response ∙ first.response; contexts = last.contexts ∙ first.contexts }

only_chain : (response : Bool) (xh after : Exchange × Hub) → IsOnly xh after → chain_of response after.0 ≡ chain_of response xh.0
only_chain false xh after only = only.request
only_chain true xh after only = only.response

chain_beside : (response : Bool) (stages : List Stage) (x : Exchange) → chain_of response (with_chain (not response) stages x) ≡ chain_of response x
chain_beside false stages x = refl
chain_beside true stages x = refl

-- what the direction is then
record IsBeside (response : Bool) (x : Exchange) (hub : Hub) (after : Exchange × Hub) : Type 0 where
  chain : chain_of response after.0 ≡ chain_of response x
  holds : Holds (chain_of response x) hub.contexts after.1.contexts

beside_is : (response : Bool) (x : Exchange) (hub : Hub) (a b : Exchange × Hub) → a ≡ b → IsBeside response x hub b → IsBeside response x hub a
beside_is response x hub a b is l = subst (IsBeside response x hub) (sym is) l

passed_beside : (response : Bool) (n : ℕ) (p : PassOutcome) (stages : List Stage) (x : Exchange) (hub after : Hub) → Holds (chain_of response x) hub.contexts after.contexts → IsLeft p
    → IsBeside response x hub (finish_put (not response) n p (with_chain (not response) stages x) after)
passed_beside response n p stages x hub after holds left_ =
    let y : Exchange = with_chain (not response) stages x in
    let only : IsOnly (y, after) (send_items (not response) n (left_in p) (y, after)) = left_only (not response) n (left_in p) (y, after) in
    beside_is response x hub (finish_put (not response) n p y after) (send_items (not response) n (left_in p) (y, after)) (passed_is (not response) n p y after left_)
    (record {
      chain = only_chain response (y, after) (send_items (not response) n (left_in p) (y, after)) only ∙ chain_beside response stages x;
      holds = subst (Holds (chain_of response x) hub.contexts) (sym only.contexts) holds;
    })

goes_beside : (response : Bool) (n k : ℕ) (x : Exchange) (hub before : Hub) → AreAliens (chain_of response x) (chain_of (not response) x) → x.has_ended ≡ false
    → Holds (chain_of response x) before.contexts hub.contexts → IsLeft (continued hub.contexts k (chain_of (not response) x)).0
    → IsBeside response x before (resume_held (not response) n k x hub)
goes_beside response n k x hub before alien runs holds left_ =
    let r : PassOutcome × List Stage × Contexts = continued hub.contexts k (chain_of (not response) x) in
    let chained : Chained (chain_of response x) hub.contexts r = continues (chain_of response x) hub.contexts k (chain_of (not response) x) alien in
    beside_is response x before (resume_held (not response) n k x hub) (take_move (not response) n x hub r) (goes_is (not response) n k x hub runs)
    (passed_beside response n r.0 r.1 x before (with_held r.2 hub) (next (chain_of response x) before.contexts hub.contexts r.2 holds chained.holds) left_)

-- the room after it
room_beside : (response : Bool) (n : ℕ) (x : Exchange) (room : Room) (on : IsOn n room x) (r : Exchange × Hub) → IsWhole response x room → IsBeside response x room.hub r
    → Leaves response n x room r.0 (with_exchange on.place on.line (with_marks r) room)
room_beside response n x room on r whole beside =
    let last : Exchange × Hub = with_marks r in
    let vms : Holds (chain_of response x) r.1.contexts last.1.contexts = by_vms (chain_of response x) r.1.contexts last.1.contexts (marking_vms r) in
    record {
      on = on_set n room x on last;
      chain = beside.chain;
      holds = hold_then room.hub.contexts r.1.contexts last.1.contexts (chain_of response x) beside.holds.holds vms.holds;
      there = vms.there (beside.holds.there whole);
    }

taken_holds : {h : Contexts} {s t : Stage} {k : Contexts} {kind : AskKind} → Taken h s t k kind → (ss : List Stage) → NoneIs s ss → Holds ss h k
taken_holds {h} (took_head end w waits) ss none = same ss h
taken_holds {h} {s} (took_piece bytes end w waits) ss none = record { holds = hold_other (with_bytes bytes end) h s ss none; there = there_other (with_bytes bytes end) h s ss }
taken_holds {h} (took_trailers w waits) ss none = same ss h

asking_leaves : (response : Bool) (n : ℕ) (x : Exchange) (room : Room) (q : IsAsked (not response) n x room) → AreAliens (chain_of response x) (chain_of (not response) x)
    → IsWhole response x room → Leaves response n x room (asked_exchange q) (question q)
asking_leaves response n x room q alien whole =
    let ss : List Stage = chain_of response x in
    let ts : List Stage = chain_of (not response) x in
    let it : Took room.hub.contexts ts q.ask q.stages q.contexts = subst (TookFor room.hub.contexts ts) q.asks (took room.hub.contexts ts) in
    let holds : Holds ss room.hub.contexts q.contexts = taken_holds it.taken ss (alien_at ss ts q.ask.stage it.old it.at alien) in
    record {
      on = on_set n room x q.on (asked_exchange q, with_held q.contexts room.hub);
      chain = chain_beside response q.stages x;
      holds = holds.holds;
      there = holds.there whole;
    }

by_bool : {A : Type 0} (P : A → Type 0) (b : Bool) (a c : A) → (b ≡ true → P a) → (b ≡ false → P c) → P (if b then a else c)
by_bool P true a c here there = here refl
by_bool P false a c here there = there refl

acts_beside : (response : Bool) (n k value : ℕ) (x : Exchange) (hub : Hub) → AreAliens (chain_of response x) (chain_of (not response) x) → x.has_ended ≡ false
    → ((value == 0) ≡ true → IsLeft (continued (pause_held (not response) k x hub).contexts k (chain_of (not response) x)).0) → IsBeside response x hub (apply_action (not response) k value n x hub)
acts_beside response n k value x hub alien runs left_ =
    let h : Hub = pause_held (not response) k x hub in
    let holds : Holds (chain_of response x) hub.contexts h.contexts = pauses_by (chain_of response x) hub.contexts k (chain_of (not response) x) alien in
    by_bool (IsBeside response x hub) (value == 0) (resume_held (not response) n k x h) (x, h) (λ e. goes_beside response n k x h hub alien runs holds (left_ e))
    (λ e. record { chain = refl; holds = holds })

resumes_beside : (response : Bool) (n : ℕ) (o : Option ℕ) (x : Exchange) (hub : Hub) → AreAliens (chain_of response x) (chain_of (not response) x) → x.has_ended ≡ false
    → ((k : ℕ) → o ≡ Some k → IsLeft (continued hub.contexts k (chain_of (not response) x)).0) → IsBeside response x hub (resume_place (not response) n o x hub)
resumes_beside response n None x hub alien runs left_ = record { chain = refl; holds = same (chain_of response x) hub.contexts }
resumes_beside response n (Some k) x hub alien runs left_ = goes_beside response n k x hub hub alien runs (same (chain_of response x) hub.contexts) (left_ k refl)

beside_then : (response : Bool) (x : Exchange) (hub : Hub) (mid last : Exchange × Hub) → IsBeside response x hub mid → IsBeside response mid.0 mid.1 last → IsBeside response x hub last
beside_then response x hub mid last one two = record {
  chain = two.chain ∙ one.chain;
  holds = next (chain_of response x) hub.contexts mid.1.contexts last.1.contexts one.holds (subst (λ (ss : List Stage). Holds ss mid.1.contexts last.1.contexts) one.chain two.holds);
}

puts_beside : (response : Bool) (n : ℕ) (items : List ChainItem) (x : Exchange) (hub : Hub)
    → AreDeeds (not response) n 0 (map comes items) (record { due = None; exchange = x; hub = hub }) → IsBeside response x hub (put_all_to_chain (not response) n items (x, hub))
puts_beside response n [] x hub are = record { chain = refl; holds = same (chain_of response x) hub.contexts }
puts_beside response n (item ∷ items) x hub are =
    let r : PassOutcome × List Stage = put hub.contexts item (chain_of (not response) x) in
    let mid : Exchange × Hub = put_to_chain (not response) n item (x, hub) in
    let first : IsBeside response x hub mid
    = beside_is response x hub mid (take_put (not response) n x hub r) (puts_is (not response) n item x hub are.0.runs.0 are.0.runs.1)
    (passed_beside response n r.0 r.1 x hub hub (same (chain_of response x) hub.contexts) are.0.acts.0) in
    beside_then response x hub mid (put_all_to_chain (not response) n items mid) first (puts_beside response n items mid.0 mid.1 are.1)

pub other_direction : OtherDirectionLeaves
other_direction = record {
  asking = asking_leaves;
  acting = λ response n k value x room on alien whole runs left_.
      let r : Exchange × Hub = apply_action (not response) k value n x room.hub in
      leaves_as response n x r.0 room (on_number (apply_action (not response) k value) n room) (with_exchange on.place on.line (with_marks r) room)
      (on_number_is (apply_action (not response) k value) n room x on) (room_beside response n x room on r whole (acts_beside response n k value x room.hub alien runs left_));
  resuming = λ response n vm context x room on alien whole runs left_ same_line.
      let r : Exchange × Hub = resume_context vm context (not response) n x room.hub in
      leaves_as response n x r.0 room (on_context (resume_context vm context (not response)) vm context room) (with_exchange on.place on.line (with_marks r) room)
      (on_context_is (resume_context vm context (not response)) vm context n room x on same_line)
      (room_beside response n x room on r whole (resumes_beside response n (stage_of vm context (chain_of (not response) x)) x room.hub alien runs left_));
  putting = λ response n items x room on whole unanswered are.
      let r : Exchange × Hub = put_read_items (not response) items n x room.hub in
      let all : r ≡ put_all_to_chain (not response) n items (x, room.hub) = ap (λ (b : Bool). if b then (x, room.hub) else put_all_to_chain (not response) n items (x, room.hub)) unanswered in
      leaves_as response n x r.0 room (on_number (put_read_items (not response) items) n room) (with_exchange on.place on.line (with_marks r) room)
      (on_number_is (put_read_items (not response) items) n room x on)
      (room_beside response n x room on r whole
      (beside_is response x room.hub r (put_all_to_chain (not response) n items (x, room.hub)) all (puts_beside response n items x room.hub are)));
}

-- ---- steps that touch no line

pub quiet_steps : QuietStepsLeave
quiet_steps = record {
  begins = λ response n x room on whole. begun response n x room on whole room.agenda;
  frees_one = λ response n at x room on whole. freed response n at x room on whole (slice_get room.waits at);
}
  where
    on_as : (n : ℕ) (x : Exchange) (room after : Room) → IsOn n room x → after.lines ≡ room.lines → IsOn n after x
    on_as n x room after on is = record {
      place = on.place;
      line = on.line;
      stands = ap (place_in n) is ∙ on.stands;
      at = ap (λ (lines : List Line). slice_get lines on.place) is ∙ on.at;
      number = on.number;
      exchange = on.exchange;
    }

    begun : (response : Bool) (n : ℕ) (x : Exchange) (room : Room) → IsOn n room x → IsWhole response x room → (jobs : List Job) → Leaves response n x room x (begin_first_job jobs room)
    begun response n x room on whole [] = record { on = on; chain = refl; holds = hold_all room.hub.contexts (chain_of response x); there = whole }
    begun response n x room on whole (job ∷ later) = record {
      on = on_as n x room (begin_first_job (job ∷ later) room) on refl;
      chain = refl;
      holds = hold_all room.hub.contexts (chain_of response x);
      there = whole;
    }

    freed : (response : Bool) (n at : ℕ) (x : Exchange) (room : Room) → IsOn n room x → IsWhole response x room → (o : Option ContextAt) → Leaves response n x room x (release_at at o room)
    freed response n at x room on whole None = record { on = on; chain = refl; holds = hold_all room.hub.contexts (chain_of response x); there = whole }
    freed response n at x room on whole (Some c) = record {
      on = on_as n x room (release_at at (Some c) room) on refl;
      chain = refl;
      holds = hold_all room.hub.contexts (chain_of response x);
      there = whole;
    }
