-- What callbacks of others come to, as a direction sees them.
use Rattle.std.proofs.Common.{◌≡◌, ℕ, zero, suc, ◌+◌, Bool, true, false, List, [], ◌∷◌, length, ap, ◌∙◌, sym, refl, subst, inl, inr, ⊎_elim}
use Rattle.std.specs.Prelude.{Option, None, Some, slice_get, nat_le, if◌then◌else◌, ◌⊎◌}
use Rattle.std.proofs.lemmas.Bool.{cases_eq}
use Rattle.contexts.specs.declared.parts.Contexts.{Contexts}
use Rattle.contexts.specs.declared.parts.Effect.{Effect}
use Rattle.contexts.specs.declared.parts.EffectKind.{EffectKind}
use Rattle.contexts.specs.declared.parts.EffectKind.TheVariants as what
use Rattle.contexts.specs.Stages.{with_bytes}
use Rattle.filter_host.specs.Called.{Called}
use Rattle.exchange.specs.declared.types.Exchange.{Exchange}
use Rattle.exchange.specs.declared.types.Hub.{Hub}
use Rattle.exchange.specs.Answering.{with_held}
use Rattle.exchange.specs.Passing.{chain_of, with_chain, finish_put, close_exchange}
use Rattle.exchange.specs.Passing as passing
use Rattle.filter_chain.specs.declared.stage.Stage.{Stage}
use Rattle.filter_chain.specs.declared.item.Ask.{Ask}
use Rattle.filter_chain.specs.declared.item.Asking.{Asking}
use Rattle.filter_chain.specs.declared.item.Asking.TheVariants.{Nothing, Over, Asks}
use Rattle.filter_chain.specs.declared.item.ChainItem.{ChainItem}
use Rattle.filter_chain.specs.declared.item.ChainItem.TheVariants.{Head, Piece, Trailers}
use Rattle.filter_chain.specs.declared.item.PassOutcome.TheVariants as passed
use Rattle.filter_chain.specs.Chains.{limit, bytes_at, ready, asked, asked_at, ask_stage, ask_item, with_stage}
use Rattle.filter_chain.specs.Flow.{NoneIs}
use Rattle.worker_model.specs.Room.{Room}
use Rattle.worker_model.specs.declared.types.Asked.{Asked}
use Rattle.worker_model.specs.declared.types.Change.TheVariants as changes
use Rattle.worker_model.specs.declared.types.Line.{Line}
use Rattle.worker_model.specs.declared.types.Owner.{Owner}
use Rattle.worker_model.specs.Changes.{apply_change}
use Rattle.worker_model.specs.Moves.{asks_chain, asks_response, asks_exchange, asks_in, asks_back, asks_at}
use Rattle.worker_model.specs.Rooms.{place_of, with_lines, on_context, begin_call, apply_effect, effects_of, is_own, with_marks}
use Rattle.law_chain.specs.Acts.{HoldSame, AreThere}
use Rattle.law_body.specs.Apart.{AreAliens, IsAlien, PassesBy}
use Rattle.law_flow.specs.Effects.{MayResume, IsMild, MildEffectsAreOthers, CallbacksAreRuns, AskingElsewhereLeaves}
use Rattle.law_flow.specs.Rooms.{IsOn, Leaves, Other, wakes, leaves, Others, quiet_room, Meanwhile, nothing, other}
use Rattle.law_body.proofs.Apart.{Holds, same, by_vms, alien_at, alien_set, alien_with, alien_chain, passed_on_by, and_then, held_by, exchanges_pass_by}
use Rattle.law_flow.proofs.Besides.{stays, on_other, other_lines, other_direction}
use Rattle.law_flow.proofs.Callouts.{begins_call}
use Rattle.law_chain.proofs.Holding.{hold_all, hold_then, hold_by_vms, there_by_vms, hold_other, there_other}
use Rattle.law_flow.proofs.Lines.{marking_vms}
use Rattle.law_flow.proofs.Rooms.{other_on}

by_bool : {A : Type 0} (P : A → Type 0) (b : Bool) (a c : A) → (b ≡ true → P a) → (b ≡ false → P c) → P (if b then a else c)
by_bool P true a c here there = here refl
by_bool P false a c here there = there refl

-- ---- one effect

-- it is on the exchange's line, or not
record Seen (response : Bool) (n count : ℕ) (due : Option Ask) (x : Exchange) (room after : Room) : Type 0 where
  then_is : Exchange
  seen : Other response n count due x room then_is after

here_or_not : (o : Option ℕ) (place : ℕ) → (o ≡ Some place) ⊎ (o ≡ Some place → ⊥)
here_or_not None place = inr (λ e. cc e)
here_or_not (Some p) place = ⊎_elim (λ (e : p ≡ place). inl (ap (λ (q : ℕ). Some q) e)) (λ (no_ : p ≡ place → ⊥). inr (λ e. no_ (cc e))) (cases_eq p place)

aside : (response : Bool) (n count : ℕ) (due : Option Ask) (x : Exchange) (room after : Room) → Leaves response n x room x after → Seen response n count due x room after
aside response n count due x room after l = record { then_is = x; seen = leaves l }

resumed : (response of_response : Bool) (n count : ℕ) (due : Option Ask) (vm context : ℕ) (x : Exchange) (room : Room) → (m : IsMild response n count due vm context (what.Continue of_response) x room)
    → (same_line : place_of vm context room.lines ≡ Some m.on.place) → MayResume response of_response count due vm context x room
    → Seen response n count due x room (on_context (passing.resume_context vm context of_response) vm context room)
resumed false false n count due vm context x room m same_line may = record {
  then_is = (passing.resume_context vm context false n x room.hub).0;
  seen = wakes (record { on = m.on; vm = vm; context = context; line = same_line ∙ sym m.on.stands; deed = may; exchange = refl; room_is = refl });
}
resumed true true n count due vm context x room m same_line may = record {
  then_is = (passing.resume_context vm context true n x room.hub).0;
  seen = wakes (record { on = m.on; vm = vm; context = context; line = same_line ∙ sym m.on.stands; deed = may; exchange = refl; room_is = refl });
}
resumed false true n count due vm context x room m same_line may = record {
  then_is = (passing.resume_context vm context true n x room.hub).0;
  seen = leaves (other_direction.resuming false n vm context x room m.on may.1 m.whole may.0 may.2 (same_line ∙ sym m.on.stands));
}
resumed true false n count due vm context x room m same_line may = record {
  then_is = (passing.resume_context vm context false n x room.hub).0;
  seen = leaves (other_direction.resuming true n vm context x room m.on may.1 m.whole may.0 may.2 (same_line ∙ sym m.on.stands));
}

effect_seen : (response : Bool) (n count : ℕ) (due : Option Ask) (vm : ℕ) (own : Owner) (context : ℕ) (w : EffectKind) (x : Exchange) (room : Room) → IsMild response n count due vm context w x room
    → Seen response n count due x room (apply_effect vm own context w room)
effect_seen response n count due vm own context (what.Continue of_response) x room m =
    by_bool (Seen response n count due x room) (is_own own context of_response) room (on_context (passing.resume_context vm context of_response) vm context room)
    (λ e. aside response n count due x room room (stays response n x room m.on m.whole))
    (λ e. ⊎_elim
    (λ (here : place_of vm context room.lines ≡ Some m.on.place). resumed response of_response n count due vm context x room m here (m.may here))
    (λ (away : place_of vm context room.lines ≡ Some m.on.place → ⊥).
    aside response n count due x room (on_context (passing.resume_context vm context of_response) vm context room)
    (other_lines.by_context (passing.resume_context vm context of_response) (exchanges_pass_by.resuming vm context of_response) response n vm context x room m.on m.alien m.whole away))
    (here_or_not (place_of vm context room.lines) m.on.place))
effect_seen response n count due vm own context what.Close x room m =
    ⊎_elim
    (λ (here : place_of vm context room.lines ≡ Some m.on.place). absurd (m.may here))
    (λ (away : place_of vm context room.lines ≡ Some m.on.place → ⊥).
    aside response n count due x room (on_context close_exchange vm context room) (other_lines.by_context close_exchange exchanges_pass_by.closing response n vm context x room m.on m.alien m.whole away))
    (here_or_not (place_of vm context room.lines) m.on.place)
effect_seen response n count due vm own context (what.Call request) x room m = aside response n count due x room (begin_call request room) (begins_call request response n x room m.on m.whole)
effect_seen response n count due vm own context (what.Answer status fields body) x room m =
    ⊎_elim
    (λ (here : place_of vm context room.lines ≡ Some m.on.place). absurd (m.may here))
    (λ (away : place_of vm context room.lines ≡ Some m.on.place → ⊥).
    aside response n count due x room (on_context (apply_change (changes.Answer status fields body)) vm context room)
    (other_lines.by_context (apply_change (changes.Answer status fields body)) (exchanges_pass_by.answering false status fields.pairs body) response n vm context x room m.on m.alien m.whole away))
    (here_or_not (place_of vm context room.lines) m.on.place)

pub effects_seen : MildEffectsAreOthers
effects_seen response n count due vm own [] x room mild = (x, (refl, mild))
effects_seen response n count due vm own (e ∷ es) x room mild =
    let after : Room = apply_effect vm own e.context e.what room in
    let one : Seen response n count due x room after = effect_seen response n count due vm own e.context e.what x room mild.0 in
    let on : IsOn n after one.then_is = other_on response n count due x room one.then_is after one.seen in
    let later : (z : Exchange) × Others response n count due vm own es one.then_is after z = effects_seen response n count due vm own es one.then_is after (mild.1 one.then_is on) in
    (later.0, (one.then_is, one.seen, later.1))

-- ---- callbacks

pub others_run : (H : Type 0) (response : Bool) (n count vm : ℕ) (own : Owner) (es : List Effect) (x : Exchange) (room : Room) (z : Exchange) → Others response n count None vm own es x room z
    → Meanwhile response n count x room z (effects_of vm own es room)
others_run H response n count vm own [] x room z are = subst (λ (y : Exchange). Meanwhile response n count x room y room) (sym are.0) (nothing x room)
others_run H response n count vm own (e ∷ es) x room z are =
    other are.1 (others_run H response n count vm own es are.0 (apply_effect vm own e.context e.what room) z are.2)

-- the callback has returned, and its effects are still to be done
pub quietly : {H : Type 0} (response : Bool) (n : ℕ) (c : Called H) (x : Exchange) (room : Room) → IsOn n room x → HoldSame room.hub.contexts c.contexts (chain_of response x)
    → AreThere c.contexts (chain_of response x) → Leaves response n x room x (quiet_room c room)
quietly response n c x room on holds there = record {
  on = record { place = on.place; line = on.line; stands = on.stands; at = on.at; number = on.number; exchange = on.exchange };
  chain = refl;
  holds = hold_then room.hub.contexts c.contexts (quiet_room c room).hub.contexts (chain_of response x) holds
      (hold_by_vms c.contexts (quiet_room c room).hub.contexts (chain_of response x) refl);
  there = there_by_vms c.contexts (quiet_room c room).hub.contexts (chain_of response x) refl there;
}

pub callbacks_are : (H : Type 0) → CallbacksAreRuns H
callbacks_are H = λ response n count vm own c value x room on holds there mild.
    let mid : Room = quiet_room c room in
    let seen : (z : Exchange) × Others response n count None vm own c.contexts.effects x mid z = effects_seen response n count None vm own c.contexts.effects x mid mild in
    (seen.0, other (leaves (quietly response n c x room on holds there)) (others_run H response n count vm own c.contexts.effects x mid seen.0 seen.1))

-- ---- asking on another line

record Put (ss : List Stage) (h : Contexts) (r : Asking × List Stage × Contexts) : Type 0 where
  alien : AreAliens ss r.1
  holds : Holds ss h r.2

item_put : (ss : List Stage) (h : Contexts) (k : ℕ) (ts : List Stage) (s : Stage) (w : List ChainItem) → NoneIs s ss → AreAliens ss ts → Put ss h (with_stage k ts (ask_item h k s w))
item_put ss h k ts s [] none alien = record { alien = alien_set ss ts k s none alien; holds = same ss h }
item_put ss h k ts s (Head end ∷ w) none alien = record { alien = alien_set ss ts k _ none alien; holds = same ss h }
item_put ss h k ts s (Piece bytes end ∷ w) none alien = by_room (nat_le (length (bytes_at h s) + length bytes) limit) refl
  where
    by_room : (r : Bool) → nat_le (length (bytes_at h s) + length bytes) limit ≡ r → Put ss h (with_stage k ts (ask_item h k s (Piece bytes end ∷ w)))
    by_room true is =
        rw is
        (record { alien = alien_set ss ts k _ none alien; holds = record { holds = hold_other (with_bytes bytes end) h s ss none; there = there_other (with_bytes bytes end) h s ss } })
    by_room false is = rw is (record { alien = alien_set ss ts k s none alien; holds = same ss h })
item_put ss h k ts s (Trailers ∷ w) none alien = record { alien = alien_set ss ts k _ none alien; holds = same ss h }

asked_put : (ss : List Stage) (h : Contexts) (ts : List Stage) → AreAliens ss ts → Put ss h (asked h ts)
asked_put ss h ts alien = by_ready (ready ts)
  where
    by_stage : (k : ℕ) (o : Option Stage) → slice_get ts k ≡ o → Put ss h (ask_stage h k ts o)
    by_stage k None at = record { alien = alien; holds = same ss h }
    by_stage k (Some s) at = item_put ss h k ts s s.waiting (alien_at ss ts k s at alien) alien

    by_ready : (m : ℕ) → Put ss h (asked_at h ts m)
    by_ready zero = record { alien = alien; holds = same ss h }
    by_ready (suc k) = by_stage k (slice_get ts k) refl

asks_pass : (ss : List Stage) (of_response : Bool) (m : ℕ) (y : Exchange) (hub : Hub) (r : Asking × List Stage × Contexts) → IsAlien ss y → Put ss hub.contexts r
    → PassesBy ss hub (asks_chain of_response m y hub r).1 (asks_chain of_response m y hub r).2
asks_pass ss of_response m y hub (Nothing, stages, h) alien p =
    held_by ss (with_chain of_response stages y) hub (with_held h hub) p.holds (alien_with ss of_response stages y p.alien alien) refl refl
asks_pass ss of_response m y hub (Asks ask, stages, h) alien p =
    held_by ss (with_chain of_response stages y) hub (with_held h hub) p.holds (alien_with ss of_response stages y p.alien alien) refl refl
asks_pass ss of_response m y hub (Over k, stages, h) alien p =
    let z : Exchange = with_chain of_response stages y in
    let mid : Hub = with_held h hub in
    let new : IsAlien ss z = alien_with ss of_response stages y p.alien alien in
    let first : PassesBy ss hub z mid = held_by ss z hub mid p.holds new refl refl in
    let r : Exchange × Hub = finish_put of_response m passed.Over z mid in
    let second : PassesBy ss mid r.0 r.1 = passed_on_by ss of_response m passed.Over z mid new in
    let last : Exchange × Hub = with_marks r in
    let third : PassesBy ss r.1 last.0 last.1 = held_by ss last.0 r.1 last.1 (by_vms ss r.1.contexts last.1.contexts (marking_vms r)) second.alien refl refl in
    and_then ss z hub mid last.1 last.0 first (and_then ss r.0 mid r.1 last.1 last.0 second third)

pub asking_elsewhere : AskingElsewhereLeaves
asking_elsewhere response n place x room on alien whole apart = by_line (slice_get room.lines place) refl
  where
    by_exchange : (line : Line) → slice_get room.lines place ≡ Some line → (e : Option Exchange) → line.exchange ≡ e
        → Leaves response n x room x (with_lines room ((asks_back place room.lines (asks_in line e room.hub)).1, (asks_back place room.lines (asks_in line e room.hub)).2))
    by_exchange line at None is = record {
      on = on_other n room x on place line line room.hub at refl apart;
      chain = refl;
      holds = hold_all room.hub.contexts (chain_of response x);
      there = whole;
    }
    by_exchange line at (Some y) is =
        let of_response : Bool = asks_response y in
        let other : IsAlien (chain_of response x) y = alien place line y at is apart in
        let r : Option Asked × Exchange × Hub = asks_exchange line.number y room.hub in
        let by : PassesBy (chain_of response x) room.hub r.1 r.2
        = asks_pass (chain_of response x) of_response line.number y room.hub (asked room.hub.contexts (chain_of of_response y)) other
        (asked_put (chain_of response x) room.hub.contexts (chain_of of_response y) (alien_chain (chain_of response x) of_response y other)) in
        record {
          on = on_other n room x on place line (record line { exchange = Some r.1 }) r.2 at refl apart;
          chain = refl;
          holds = by.holds;
          there = by.there whole;
        }

    by_line : (o : Option Line) → slice_get room.lines place ≡ o → Leaves response n x room x (with_lines room ((asks_at place o room.lines room.hub).1, (asks_at place o room.lines room.hub).2))
    by_line None at = stays response n x room on whole
    by_line (Some line) at = by_exchange line at line.exchange refl
