-- What a room of a worker keeps, while no step about the callout of an id is done: callouts stay sound, the one of the id stays as it is, and so does
-- what is in hand and to come of it.
use Rattle.std.proofs.Common.{◌≡◌, ◌<◌, ◌≤◌, ◌+◌, ◌==◌, ℕ, Bool, true, false, cond, List, [], ◌∷◌, ◌++◌, length, refl, sym, ap, ◌∙◌, subst, eqb-true, ne_eqb, eq-eqb, arith}
use Rattle.std.specs.Prelude.{Option, None, Some, nat_lt}
use Rattle.std.proofs.lemmas.Bool.{ltb-true, ltb-false}
use Rattle.callouts.specs.Callouts.{begun, callout_in, without}
use Rattle.callouts.specs.Steps.{put_callout}
use Rattle.callouts.specs.declared.types.Callout.{Callout}
use Rattle.contexts.specs.declared.parts.Calls.{Calls}
use Rattle.contexts.specs.declared.parts.Contexts.{Contexts}
use Rattle.contexts.specs.declared.parts.Effect.{Effect}
use Rattle.contexts.specs.declared.parts.EffectKind.{EffectKind}
use Rattle.contexts.specs.declared.parts.EffectKind.TheVariants as what
use Rattle.contexts.specs.declared.parts.Request.{Request}
use Rattle.filter_host.specs.declared.host.CallbackEnd.{CallbackEnd}
use Rattle.filter_host.specs.declared.host.CallbackEnd.TheVariants as call_ends
use Rattle.exchange.specs.Passing as passing
use Rattle.gate_io.specs.declared.event.Sent.{Sent}
use Rattle.worker_model.specs.Calls.{close_call}
use Rattle.worker_model.specs.Changes.{apply_change}
use Rattle.worker_model.specs.declared.types.Change.TheVariants as changes
use Rattle.worker_model.specs.declared.types.Owner.{Owner}
use Rattle.worker_model.specs.Room.{Room}
use Rattle.worker_model.specs.Rooms.{next_call, begin_call, on_context, is_own, apply_effect, effects_of, without_effects, room_with_sent, with_contexts, after_callback, take_callback_end}
use Rattle.law_callouts.specs.Sound.{AreRising, AreUpTo, AreSound}
use Rattle.law_callouts.proofs.About.{pend}
use Rattle.law_callouts.proofs.Changing.{pick, resumes_keeps, closed_keeps, answer_keeps}
use Rattle.law_callouts.proofs.Rooms.{Stands, HasCalls, has_calls, to_context, to_died}
use Rattle.law_callouts.proofs.Sound.{stays_sound}

-- ---- lookups

pub add_other : (id : ℕ) (c : Callout) (calls : List Callout) → (c.id ≡ id → ⊥) → callout_in id (calls ++ c ∷ []) ≡ callout_in id calls
add_other id c [] other = ap (λ (b : Bool). cond b (Some c) None) (ne_eqb c.id id other)
add_other id c (d ∷ calls) other = ap (λ (o : Option Callout). cond (d.id == id) (Some d) o) (add_other id c calls other)

pub put_other : (id n : ℕ) (c : Callout) (calls : List Callout) → c.id ≡ n → (n ≡ id → ⊥) → callout_in id (put_callout n c calls) ≡ callout_in id calls
put_other id n c [] same other = refl
put_other id n c (d ∷ calls) same other = by (put_other id n c calls same other) (d.id == n) refl
  where
    by : callout_in id (put_callout n c calls) ≡ callout_in id calls → (b : Bool) → (d.id == n) ≡ b
        → callout_in id (cond b (c ∷ calls) (d ∷ put_callout n c calls)) ≡ cond (d.id == id) (Some d) (callout_in id calls)
    by later true is =
        ap (λ (b : Bool). cond b (Some c) (callout_in id calls)) (ne_eqb c.id id (λ e. other (sym same ∙ e)))
        ∙ sym (ap (λ (b : Bool). cond b (Some d) (callout_in id calls)) (ne_eqb d.id id (λ e. other (sym (eqb-true d.id n is) ∙ e))))
    by later false is = ap (λ (o : Option Callout). cond (d.id == id) (Some d) o) later

pub put_same : (id : ℕ) (c d : Callout) (calls : List Callout) → c.id ≡ id → callout_in id calls ≡ Some d → callout_in id (put_callout id c calls) ≡ Some c
put_same id c d [] same there = absurd (cc)
put_same id c d (x ∷ calls) same there = by (put_same id c d calls same) (x.id == id) refl there
  where
    by : (callout_in id calls ≡ Some d → callout_in id (put_callout id c calls) ≡ Some c) → (b : Bool) → (x.id == id) ≡ b → cond b (Some x) (callout_in id calls) ≡ Some d
        → callout_in id (cond b (c ∷ calls) (x ∷ put_callout id c calls)) ≡ Some c
    by later true is there = ap (λ (b : Bool). cond b (Some c) (callout_in id calls)) (eq-eqb c.id id same)
    by later false is there = ap (λ (b : Bool). cond b (Some x) (callout_in id (put_callout id c calls))) is ∙ later there

pub without_other : (id n : ℕ) (calls : List Callout) → (n ≡ id → ⊥) → callout_in id (without n calls) ≡ callout_in id calls
without_other id n [] other = refl
without_other id n (d ∷ calls) other = by (without_other id n calls other) (d.id == n) refl
  where
    by : callout_in id (without n calls) ≡ callout_in id calls → (b : Bool) → (d.id == n) ≡ b
        → callout_in id (cond b calls (d ∷ without n calls)) ≡ cond (d.id == id) (Some d) (callout_in id calls)
    by later true is = sym (ap (λ (b : Bool). cond b (Some d) (callout_in id calls)) (ne_eqb d.id id (λ e. other (sym (eqb-true d.id n is) ∙ e))))
    by later false is = ap (λ (o : Option Callout). cond (d.id == id) (Some d) o) later

-- ---- what stays

abbrev pub last : Room → ℕ
last room = room.hub.contexts.calls.last

-- the callout of an id has just begun
abbrev pub Begins : ℕ → Room → Type 0
Begins id room = (q : Request) × (callout_in id room.calls ≡ Some (begun id room.hub.moment q))

pub record Stays (id : ℕ) (old new : Room) : Type 0 where
  pub sound : AreSound new
  pub drawn : last old ≤ last new
  pub same : id ≤ last old → callout_in id new.calls ≡ callout_in id old.calls
  pub begins : last old < id → id ≤ last new → Begins id new
  pub pending : pend id new ≡ pend id old
  pub moment : new.hub.moment ≡ old.hub.moment

pub here : (id : ℕ) (room : Room) → AreSound room → Stays id room room
here id room sound = record { sound = sound; drawn = omega arith; same = λ low. refl; begins = λ high low. absurd (omega (arith, high, low)); pending = refl; moment = refl }

-- of rooms with the same callouts
pub still : (id : ℕ) (old new : Room) → AreSound old → Stands id old.hub.moment old.calls old.hub.contexts.calls (pend id old) new → Stays id old new
still id old new sound s =
    let counts : last new ≡ last old = ap (λ (n : Calls). n.last) s.0.0 in
    record {
      sound = record {
        rising = subst (λ (cs : List Callout). AreRising 0 cs) (sym s.1) sound.rising;
        drawn = subst (λ (cs : List Callout). AreUpTo (last new) cs) (sym s.1) (subst (λ (n : ℕ). AreUpTo n old.calls) (sym counts) sound.drawn);
        counted = ap (λ (n : Calls). n.under_way) s.0.0 ∙ (sound.counted ∙ ap (λ (cs : List Callout). length cs) (sym s.1));
      };
      drawn = omega (arith, counts);
      same = λ low. ap (λ (cs : List Callout). callout_in id cs) s.1;
      begins = λ high low. absurd (omega (arith, high, low, counts));
      pending = s.2;
      moment = s.0.1;
    }

pub then_stays : (id : ℕ) (a b c : Room) → Stays id a b → Stays id b c → Stays id a c
then_stays id a b c one two = record {
  sound = two.sound;
  drawn = omega (arith, one.drawn, two.drawn);
  same = λ low. two.same (omega (arith, low, one.drawn)) ∙ one.same low;
  begins = λ high low. by high low (nat_lt (last b) id) refl;
  pending = two.pending ∙ one.pending;
  moment = two.moment ∙ one.moment;
}
  where
    by : last a < id → id ≤ last c → (t : Bool) → nat_lt (last b) id ≡ t → Begins id c
    by high low true is = two.begins (ltb-true (last b) id is) low
    by high low false is =
        let drawn : id ≤ last b = ltb-false (last b) id is in
        let new : Begins id b = one.begins high drawn in
        (new.0, two.same drawn ∙ (new.1 ∙ ap (λ (n : ℕ). Some (begun id n new.0)) (sym two.moment)))

-- ---- the effects of a callback

begin_stays : (id : ℕ) (q : Request) (room : Room) → AreSound room → Stays id room (begin_call q room)
begin_stays id q room sound = record {
  sound = stays_sound.begins q room sound;
  drawn = omega arith;
  same = λ low. add_other id (begun (next_call room) room.hub.moment q) room.calls (λ e. let is : room.hub.contexts.calls.last + 1 ≡ id = e in absurd (omega (arith, is, low)));
  begins = λ high low.
      let up : id ≤ room.hub.contexts.calls.last + 1 = low in
      let is : room.hub.contexts.calls.last + 1 ≡ id = omega (arith, high, up) in
      (q, subst (λ (n : ℕ). callout_in n (begin_call q room).calls ≡ Some (begun n room.hub.moment q)) is (stays_sound.is_there q room sound));
  pending = refl;
  moment = refl;
}

does_stays : (id vm : ℕ) (own : Owner) (context : ℕ) (w : EffectKind) (room : Room) → AreSound room → Stays id room (apply_effect vm own context w room)
does_stays id vm own context (what.Continue response) room sound =
    let N = room.hub.contexts.calls in
    still id room _ sound (pick (Stands id room.hub.moment room.calls N (pend id room)) (is_own own context response) room (on_context (passing.resume_context vm context response) vm context room) ((refl, refl), refl, refl)
    (to_context id room.hub.moment room.calls N (pend id room) (passing.resume_context vm context response) (resumes_keeps (HasCalls N) (has_calls N) vm context response) vm context room ((refl, refl), refl, refl)))
does_stays id vm own context what.Close room sound =
    let N = room.hub.contexts.calls in
    still id room _ sound (to_context id room.hub.moment room.calls N (pend id room) passing.close_exchange (closed_keeps (HasCalls N) (has_calls N)) vm context room ((refl, refl), refl, refl))
does_stays id vm own context (what.Call request) room sound = begin_stays id request room sound
does_stays id vm own context (what.Answer status fields body) room sound =
    let N = room.hub.contexts.calls in
    still id room _ sound (to_context id room.hub.moment room.calls N (pend id room) (apply_change (changes.Answer status fields body)) (answer_keeps (HasCalls N) (has_calls N) status fields.pairs body) vm context room ((refl, refl), refl, refl))

effects_stays : (id vm : ℕ) (own : Owner) (es : List Effect) (room : Room) → AreSound room → Stays id room (effects_of vm own es room)
effects_stays id vm own [] room sound = here id room sound
effects_stays id vm own (e ∷ es) room sound =
    let one : Stays id room (apply_effect vm own e.context e.what room) = does_stays id vm own e.context e.what room sound in
    then_stays id room _ _ one (effects_stays id vm own es (apply_effect vm own e.context e.what room) one.sound)

-- after a callback that left the counts
behind_stays : (id vm : ℕ) (own : Owner) (end : CallbackEnd) (es : List Effect) (room : Room) → AreSound room → Stays id room (after_callback vm own end es room)
behind_stays id vm own (call_ends.Returned value) es room sound = effects_stays id vm own es room sound
behind_stays id vm own (call_ends.Died death) es room sound =
    still id room _ sound (to_died id room.hub.moment room.calls room.hub.contexts.calls (pend id room) vm death room ((refl, refl), refl, refl))

pub ended_stays : (id vm : ℕ) (own : Owner) (end : CallbackEnd) (lines : List Sent) (h : Contexts) (room : Room) → h.calls ≡ room.hub.contexts.calls → AreSound room
    → Stays id room (take_callback_end vm own end lines h room)
ended_stays id vm own end lines h room left sound =
    let mid : Room = without_effects (room_with_sent lines (with_contexts h room)) in
    let one : Stays id room mid = still id room mid sound ((left, refl), refl, refl) in
    then_stays id room mid _ one (behind_stays id vm own end h.effects mid one.sound)

-- ---- the end of another callout

pub close_other : (id n : ℕ) (room : Room) → (n ≡ id → ⊥) → AreSound room → Stays id room (close_call n room)
close_other id n room other sound = record {
  sound = stays_sound.ends n room sound;
  drawn = omega arith;
  same = λ low. without_other id n room.calls other;
  begins = λ high low. absurd (omega (arith, high, low));
  pending = refl;
  moment = refl;
}
