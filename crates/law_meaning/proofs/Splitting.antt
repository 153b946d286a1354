-- A meaning is turns, one after the other.
use Rattle.std.proofs.Common.{◌≡◌, List, [], ◌∷◌, ◌++◌, refl, ap, sym, ◌∙◌, subst}
use Rattle.std.proofs.lemmas.List.{append-nil}
use Rattle.filter_host.specs.Called.{Calling}
use Rattle.filter_host.specs.Course.{Course, ends, asks, measures, hears, then_do, Met, called, measured, heard, Reaches}
use Rattle.gate_io.specs.declared.event.Event.{Event}
use Rattle.send_queue.specs.Turns.{OneTurn}
use Rattle.worker_model.specs.Plan.{Plan}
use Rattle.worker_model.specs.Steps.{Both}
use Rattle.worker_model.specs.Turn.{Outcome}
use Rattle.streams_model.specs.Turn.{turn}
use Rattle.worker_model.specs.Turned.{one_turn}
use Rattle.worker_meaning.specs.Meaning.{Run, first_turn, means, run}
use Rattle.law_meaning.specs.Turns.{MeaningsAreTurns, Turns, TurnsOf}

-- a course of two parts that came to its end: the first came to its end, and then the second
pub record Split {A B : Type 0} (p : Course A) (f : A → Course B) (ms : List Met) (b : B) : Type 0 where
  pub middle : A
  pub first : List Met
  pub later : List Met
  pub is : ms ≡ first ++ later
  pub one : Reaches p first (ends middle)
  pub more : Reaches (f middle) later (ends b)

pub split : {A B : Type 0} (ms : List Met) (p : Course A) (f : A → Course B) (b : B) → Reaches (then_do p f) ms (ends b) → Split p f ms b
split ms (ends a) f b h = record { middle = a; first = []; later = ms; is = refl; one = refl; more = h }
split [] (asks vm call k) f b h = absurd (cc h)
split (called c ∷ ms) (asks vm call k) f b h =
    let r = split ms (k c.reply) f b h.2 in
    record { middle = r.middle; first = called c ∷ r.first; later = r.later; is = ap (λ (x : List Met). called c ∷ x) r.is; one = (h.0, h.1, r.one); more = r.more }
split (measured c ∷ ms) (asks vm call k) f b h = elim h [ ]
split (heard c ∷ ms) (asks vm call k) f b h = elim h [ ]
split [] (measures vm call k) f b h = absurd (cc h)
split (called c ∷ ms) (measures vm call k) f b h = elim h [ ]
split (measured c ∷ ms) (measures vm call k) f b h =
    let r = split ms (k c.reply) f b h.2 in
    record { middle = r.middle; first = measured c ∷ r.first; later = r.later; is = ap (λ (x : List Met). measured c ∷ x) r.is; one = (h.0, h.1, r.one); more = r.more }
split (heard c ∷ ms) (measures vm call k) f b h = elim h [ ]
split [] (hears t k) f b h = absurd (cc h)
split (called c ∷ ms) (hears t k) f b h = elim h [ ]
split (measured c ∷ ms) (hears t k) f b h = elim h [ ]
split (heard c ∷ ms) (hears t k) f b h =
    let r = split ms (k c) f b h.1 in
    record { middle = r.middle; first = heard c ∷ r.first; later = r.later; is = ap (λ (x : List Met). heard c ∷ x) r.is; one = (h.0, r.one); more = r.more }

-- a course that has ended meets nothing
pub none_more : {A : Type 0} (ms : List Met) (a b : A) → Reaches (ends a) ms (ends b) → (ms ≡ []) × (a ≡ b)
none_more [] a b h = (refl, cc h)
none_more (m ∷ ms) a b h = absurd h

module _ {H : Type 0} (calling : Calling H) (plan : Plan) where
  pub are_turns : (from : Both H) (events : List Event) (met : List Met) (r : Run H) → Reaches (means calling plan from events) met (ends r) → TurnsOf calling plan from events met r
  unfolding means
  are_turns from [] met r h =
      let none = none_more met (run from []) r h in
      record { turns = []; chain = ap (λ (x : Run H). x.state) (sym none.1); events_are = refl; met_is = sym none.0; sends = ap (λ (x : Run H). x.turns) none.1 }
  are_turns from (event ∷ events) met r h =
      let a = split met (turn calling plan from event) (λ (end : Outcome H). then_do (means calling plan end.state events) (λ (later : Run H). ends (first_turn event end later))) r h in
      let b = split a.later (means calling plan a.middle.state events) (λ (later : Run H). ends (first_turn event a.middle later)) r a.more in
      let none = none_more b.later (first_turn event a.middle b.middle) r b.more in
      let far = are_turns a.middle.state events b.first b.middle b.one in
      record {
        turns = record { event = event; met = a.first; end = a.middle } ∷ far.turns;
        chain = (a.one, subst (λ (x : Both H). Turns calling plan a.middle.state far.turns x) (ap (λ (x : Run H). x.state) none.1) far.chain);
        events_are = ap (λ (es : List Event). event ∷ es) far.events_are;
        met_is = ap (λ (ms : List Met). a.first ++ ms) (far.met_is ∙ sym (append-nil b.first) ∙ ap (λ (ms : List Met). b.first ++ ms) (sym none.0) ∙ sym b.is) ∙ sym a.is;
        sends = ap (λ (ts : List OneTurn). one_turn event a.middle.sent ∷ ts) far.sends ∙ ap (λ (x : Run H). x.turns) none.1;
      }

pub meanings_are_turns : (H : Type 0) → MeaningsAreTurns H
meanings_are_turns H calling plan from events met r h = are_turns calling plan from events met r h
