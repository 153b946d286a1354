-- TURNS COME TO REST, and so does each room; above what is left to do the bound changes nothing.
use Rattle.std.proofs.Common.{◌≡◌, ℕ, zero, suc, ◌+◌, ◌<◌, ◌≤◌, ◌++◌, ap, Bool, true, false, List, [], ◌∷◌, length, ◌∙◌, sym, refl, subst, arith}
use Rattle.filter_host.specs.Called.{Calling}
use Rattle.std.proofs.lemmas.List.Elements.{All-head, All-tail}
use Rattle.std.specs.Prelude.{Option, None, Some, All}
use Rattle.filter_host.specs.Course.{Course, ends, asks, measures, hears, then_do, Met, called, measured, heard, Reaches}
use Rattle.filter_host.specs.Runs.{reaches_join, reaches_part}
use Rattle.filter_host.proofs.Holds.{AllEnds, all_then, all_reached}
use Rattle.exchange.specs.declared.types.Exchange.{Exchange}
use Rattle.gate_config.specs.declared.entries.RouteEntry.{RouteEntry}
use Rattle.gate_config.specs.Kept.{IsRoute}
use Rattle.gate_io.specs.Events.{is_stop}
use Rattle.gate_io.specs.declared.event.Event.{Event}
use Rattle.worker_model.specs.declared.types.Line.{Line}
use Rattle.worker_model.specs.Plan.{Plan}
use Rattle.worker_model.specs.Rooms.{next_of}
use Rattle.worker_model.specs.Settling.{settling, settling_step, settling_rest, settling_none, is_rest}
use Rattle.worker_model.specs.State.{Setting, rules_of}
use Rattle.worker_model.specs.Steps.{Both, both, step}
use Rattle.worker_model.specs.Turn.{Outcome, turn, turn_by, turned, outcome_of, room_for_event, most_steps}
use Rattle.worker_model.proofs.More.{more_steps}
use Rattle.law_rest.specs.Laws.{BoundsChangeNothing, StepsArePaid, TurnsComeToRest, IsClear, AllClear, RoomsComeToRest}
use Rattle.law_rest.specs.Left.{work_left, OpenFits, AllFit, RoutesFit}
use Rattle.law_rest.proofs.Rooms.{IsLess}
use Rattle.law_rest.proofs.Settling.{Settled, settles, settles_fitting, steps_come_to_rest}
use Rattle.law_rest.proofs.Steps.{step_less}

-- ---- more steps, and fewer

-- what comes behind may be another that comes to the same, where a fact holds at each end of the first
swaps : {A B : Type 0} (P : A → Type 0) (ms : List Met) (p : Course A) (f g : A → Course B) (c : B) → AllEnds P p → ((a : A) (ns : List Met) → P a → Reaches (f a) ns (ends c) → Reaches (g a) ns (ends c))
    → Reaches (then_do p f) ms (ends c) → Reaches (then_do p g) ms (ends c)
swaps P ms (ends a) f g c all same reaches = same a ms all reaches
swaps P [] (asks vm call k) f g c all same reaches = absurd (cc)
swaps P (called m ∷ ms) (asks vm call k) f g c all same reaches = (reaches.0, reaches.1, swaps P ms (k m.reply) f g c (all m.reply) same reaches.2)
swaps P (measured m ∷ ms) (asks vm call k) f g c all same reaches = elim reaches [ ]
swaps P (heard h ∷ ms) (asks vm call k) f g c all same reaches = elim reaches [ ]
swaps P [] (measures vm call k) f g c all same reaches = absurd (cc)
swaps P (called m ∷ ms) (measures vm call k) f g c all same reaches = elim reaches [ ]
swaps P (measured m ∷ ms) (measures vm call k) f g c all same reaches = (reaches.0, reaches.1, swaps P ms (k m.reply) f g c (all m.reply) same reaches.2)
swaps P (heard h ∷ ms) (measures vm call k) f g c all same reaches = elim reaches [ ]
swaps P [] (hears r k) f g c all same reaches = absurd (cc)
swaps P (called m ∷ ms) (hears r k) f g c all same reaches = elim reaches [ ]
swaps P (measured m ∷ ms) (hears r k) f g c all same reaches = elim reaches [ ]
swaps P (heard h ∷ ms) (hears r k) f g c all same reaches = (reaches.0, swaps P ms (k h) f g c (all h reaches.0) same reaches.1)

module _ {H : Type 0} (calling : Calling H) (plan : Plan) (s : ℕ) (routes : RoutesFit s plan.routes) where
  pub fewer_steps : (n k : ℕ) (b c : Both H) (ms : List Met) → AllFit s b.room.lines → work_left s b.room < n → Reaches (settling calling plan (n + k) b.host b.room) ms (ends c)
      → Reaches (settling calling plan n b.host b.room) ms (ends c)
  fewer_steps zero k b c ms fit less reaches = absurd (omega arith)
  fewer_steps (suc n) k b c ms fit less reaches =
      let e : suc n + k ≡ suc (n + k) = omega arith in
      by_rest (λ d ns l now. fewer_steps n k d c ns l.fit (omega (arith, l.less)) now) (is_rest (next_of b.room)) refl
      (subst (λ (m : ℕ). Reaches (settling calling plan m b.host b.room) ms (ends c)) e reaches)
    where
      by_rest : ((d : Both H) (ns : List Met) → IsLess s b.room d.room → Reaches (settling calling plan (n + k) d.host d.room) ns (ends c) → Reaches (settling calling plan n d.host d.room) ns (ends c))
          → (r : Bool) → is_rest (next_of b.room) ≡ r → Reaches (settling calling plan (suc (n + k)) b.host b.room) ms (ends c) → Reaches (settling calling plan (suc n) b.host b.room) ms (ends c)
      by_rest later true is now =
          subst (λ (x : Course (Both H)). Reaches x ms (ends c))
          (settling_rest calling plan (n + k) (next_of b.room) b.host b.room refl is ∙ sym (settling_rest calling plan n (next_of b.room) b.host b.room refl is)) now
      by_rest later false is now =
          subst (λ (x : Course (Both H)). Reaches x ms (ends c)) (sym (settling_step calling plan n (next_of b.room) b.host b.room refl is))
          (swaps (λ (d : Both H). IsLess s b.room d.room) ms (step calling plan (next_of b.room) b.host b.room) (λ d. settling calling plan (n + k) d.host d.room) (λ d. settling calling plan n d.host d.room) c
          (step_less calling plan s b.host b.room routes fit is) later
          (subst (λ (x : Course (Both H)). Reaches x ms (ends c)) (settling_step calling plan (n + k) (next_of b.room) b.host b.room refl is) now))

pub bounds_change_nothing : (H : Type 0) → BoundsChangeNothing H
bounds_change_nothing H calling plan s n k b c ms routes fit less = (
  λ reaches. more_steps calling plan n k b c ms reaches (steps_come_to_rest H calling plan s n b c ms routes fit less reaches).1,
  λ reaches. fewer_steps calling plan s routes n k b c ms fit less reaches,
)

-- ---- the steps are paid

-- a course that met these met some of them in its first part, and the others after it
pub splits : {A B : Type 0} (ms : List Met) (p : Course A) (f : A → Course B) (c : B) → Reaches (then_do p f) ms (ends c)
    → (a : A) × (ns os : List Met) × (ms ≡ ns ++ os) × Reaches p ns (ends a) × Reaches (f a) os (ends c)
splits ms (ends a) f c reaches = (a, [], ms, refl, refl, reaches)
splits [] (asks vm call k) f c reaches = absurd (cc)
splits (called m ∷ ms) (asks vm call k) f c reaches =
    let r = splits ms (k m.reply) f c reaches.2 in
    (r.0, called m ∷ r.1, r.2, ap (λ (l : List Met). called m ∷ l) r.3, (reaches.0, reaches.1, r.4), r.5)
splits (measured m ∷ ms) (asks vm call k) f c reaches = elim reaches [ ]
splits (heard h ∷ ms) (asks vm call k) f c reaches = elim reaches [ ]
splits [] (measures vm call k) f c reaches = absurd (cc)
splits (called m ∷ ms) (measures vm call k) f c reaches = elim reaches [ ]
splits (measured m ∷ ms) (measures vm call k) f c reaches =
    let r = splits ms (k m.reply) f c reaches.2 in
    (r.0, measured m ∷ r.1, r.2, ap (λ (l : List Met). measured m ∷ l) r.3, (reaches.0, reaches.1, r.4), r.5)
splits (heard h ∷ ms) (measures vm call k) f c reaches = elim reaches [ ]
splits [] (hears t k) f c reaches = absurd (cc)
splits (called m ∷ ms) (hears t k) f c reaches = elim reaches [ ]
splits (measured m ∷ ms) (hears t k) f c reaches = elim reaches [ ]
splits (heard h ∷ ms) (hears t k) f c reaches =
    let r = splits ms (k h) f c reaches.1 in
    (r.0, heard h ∷ r.1, r.2, ap (λ (l : List Met). heard h ∷ l) r.3, (reaches.0, r.4), r.5)

-- and the other way round
joins : {A B : Type 0} (ms ns os : List Met) (p : Course A) (f : A → Course B) (a : A) (c : B) → ms ≡ ns ++ os → Reaches p ns (ends a) → Reaches (f a) os (ends c) → Reaches (then_do p f) ms (ends c)
joins ms ns os p f a c is first later =
    subst (λ (l : List Met). Reaches (then_do p f) l (ends c)) (sym is) (reaches_join ns os (then_do p f) (f a) (ends c) (reaches_part ns p (ends a) f first) later)

no_more_left : {H : Type 0} (s : ℕ) (b c : Both H) (ms : List Met) → Reaches (ends b) ms (ends c) → work_left s c.room ≤ work_left s b.room
no_more_left s b c [] same = let one : b ≡ c = (cc) in let e : work_left s b.room ≡ work_left s c.room = ap (λ (x : Both _). work_left s x.room) one in omega arith
no_more_left s b c (m ∷ ms) same = elim same [ ]

module _ {H : Type 0} (calling : Calling H) (plan : Plan) (s : ℕ) (routes : RoutesFit s plan.routes) where
  at_once : (b c : Both H) (ms : List Met) → Reaches (ends b) ms (ends c) → (k : ℕ) × (k + work_left s c.room ≤ work_left s b.room) × Reaches (settling calling plan k b.host b.room) ms (ends c)
  at_once b c ms now =
      (0, omega (arith, no_more_left s b c ms now), subst (λ (x : Course (Both H)). Reaches x ms (ends c)) (sym (settling_none calling plan b.host b.room)) now)

  as_step : (n : ℕ) (b c : Both H) (ms : List Met) → is_rest (next_of b.room) ≡ false
      → Reaches (then_do (step calling plan (next_of b.room) b.host b.room) (λ (d : Both H). settling calling plan n d.host d.room)) ms (ends c)
      → Reaches (settling calling plan (suc n) b.host b.room) ms (ends c)
  as_step n b c ms is now =
      subst (λ (x : Course (Both H)). Reaches x ms (ends c)) (sym (settling_step calling plan n (next_of b.room) b.host b.room refl is)) now

  pub pays : (n : ℕ) (b c : Both H) (ms : List Met) → AllFit s b.room.lines → Reaches (settling calling plan n b.host b.room) ms (ends c)
      → (k : ℕ) × (k + work_left s c.room ≤ work_left s b.room) × Reaches (settling calling plan k b.host b.room) ms (ends c)
  pays zero b c ms fit reaches = at_once b c ms (subst (λ (x : Course (Both H)). Reaches x ms (ends c)) (settling_none calling plan b.host b.room) reaches)
  pays (suc n) b c ms fit reaches = by_rest (λ d os fits now. pays n d c os fits now) (is_rest (next_of b.room)) refl
    where
      by_rest : ((d : Both H) (os : List Met) → AllFit s d.room.lines → Reaches (settling calling plan n d.host d.room) os (ends c)
          → (k : ℕ) × (k + work_left s c.room ≤ work_left s d.room) × Reaches (settling calling plan k d.host d.room) os (ends c)) → (r : Bool) → is_rest (next_of b.room) ≡ r
          → (k : ℕ) × (k + work_left s c.room ≤ work_left s b.room) × Reaches (settling calling plan k b.host b.room) ms (ends c)
      by_rest later true is =
          at_once b c ms (subst (λ (x : Course (Both H)). Reaches x ms (ends c)) (settling_rest calling plan n (next_of b.room) b.host b.room refl is) reaches)
      by_rest later false is =
          let parts = splits ms (step calling plan (next_of b.room) b.host b.room) (λ d. settling calling plan n d.host d.room) c
          (subst (λ (x : Course (Both H)). Reaches x ms (ends c)) (settling_step calling plan n (next_of b.room) b.host b.room refl is) reaches) in
          let less = all_reached (λ (d : Both H). IsLess s b.room d.room) parts.1 (step calling plan (next_of b.room) b.host b.room) parts.0 (step_less calling plan s b.host b.room routes fit is) parts.4 in
          let more = later parts.0 parts.2 less.fit parts.5 in (
            suc more.0,
            omega (arith, less.less, more.1),
            as_step more.0 b c ms is
                (joins ms parts.1 parts.2 (step calling plan (next_of b.room) b.host b.room) (λ (d : Both H). settling calling plan more.0 d.host d.room) parts.0 c parts.3 parts.4 more.2),
          )

pub steps_are_paid : (H : Type 0) → StepsArePaid H
steps_are_paid H calling plan s n b c ms routes fit reaches = pays calling plan s routes n b c ms fit reaches

-- ---- turns

module _ {H : Type 0} (calling : Calling H) (plan : Plan) (s : ℕ) (routes : RoutesFit s plan.routes) where
  turned_rests : (state : Both H) (event : Event) → AllFit s state.room.lines → work_left s (room_for_event plan event state.room) < most_steps
      → AllEnds (λ (o : Outcome H). Settled s o.state.room) (turned calling plan state event)
  turned_rests state event fit less =
      all_then (λ (b : Both H). Settled s b.room) (λ (o : Outcome H). Settled s o.state.room) (settling calling plan most_steps state.host (room_for_event plan event state.room)) (λ b. ends (outcome_of b))
      (settles calling plan s routes most_steps state.host (room_for_event plan event state.room) fit less) (λ b here. record { fit = here.fit; rested = here.rested })

  turned_fits : (state : Both H) (event : Event) → AllFit s state.room.lines → AllEnds (λ (o : Outcome H). AllFit s o.state.room.lines) (turned calling plan state event)
  turned_fits state event fit =
      all_then (λ (b : Both H). AllFit s b.room.lines) (λ (o : Outcome H). AllFit s o.state.room.lines) (settling calling plan most_steps state.host (room_for_event plan event state.room)) (λ b. ends (outcome_of b))
      (settles_fitting calling plan s routes most_steps state.host (room_for_event plan event state.room) fit) (λ b here. here)

  pub turn_rests : (state : Both H) (event : Event) → AllFit s state.room.lines → is_stop event.what ≡ false → work_left s (room_for_event plan event state.room) < most_steps
      → AllEnds (λ (o : Outcome H). Settled s o.state.room) (turn calling plan state event)
  turn_rests state event fit goes less =
      subst (λ (b : Bool). AllEnds (λ (o : Outcome H). Settled s o.state.room) (turn_by calling plan b state event)) (sym goes) (turned_rests state event fit less)

  pub turn_fits : (state : Both H) (event : Event) → AllFit s state.room.lines → AllEnds (λ (o : Outcome H). AllFit s o.state.room.lines) (turn calling plan state event)
  turn_fits state event fit = by_stop (is_stop event.what)
    where
      by_stop : (b : Bool) → AllEnds (λ (o : Outcome H). AllFit s o.state.room.lines) (turn_by calling plan b state event)
      by_stop true = fit
      by_stop false = turned_fits state event fit

routes_kept : (n : ℕ) (routes : List RouteEntry) → All (IsRoute n) routes → RoutesFit 16 routes
routes_kept n [] all = tt
routes_kept n (route ∷ routes) all = ((All-head (IsRoute n) route routes all).count, routes_kept n routes (All-tail (IsRoute n) route routes all))

pub setting_fits : (setting : Setting) → RoutesFit 16 (rules_of setting).routes
setting_fits setting = routes_kept (length setting.config.plugins) setting.config.routes setting.config.kept.all_routes

pub turns_come_to_rest : (H : Type 0) → TurnsComeToRest H
turns_come_to_rest H = record {
  at_rest = λ calling plan s state event ms end routes fit goes less reaches.
      (all_reached (λ (o : Outcome H). Settled s o.state.room) ms (turn calling plan state event) end (turn_rests calling plan s routes state event fit goes less) reaches).rested;
  fits = λ calling plan s state event ms end routes fit reaches.
      all_reached (λ (o : Outcome H). AllFit s o.state.room.lines) ms (turn calling plan state event) end (turn_fits calling plan s routes state event fit) reaches;
  first = λ s config seed. tt;
  routes = setting_fits;
}

-- ---- any room

routes_sum : List RouteEntry → ℕ
routes_sum [] = 0
routes_sum (route ∷ routes) = length route.filters + routes_sum routes

open_sum : Option Exchange → ℕ
open_sum None = 0
open_sum (Some x) = length x.filters + (length x.request + length x.response)

lines_sum : List Line → ℕ
lines_sum [] = 0
lines_sum (line ∷ lines) = open_sum line.exchange + lines_sum lines

routes_within : (s : ℕ) (routes : List RouteEntry) → routes_sum routes ≤ s → RoutesFit s routes
unfolding routes_sum
routes_within s [] less = tt
routes_within s (route ∷ routes) less = (omega arith, routes_within s routes (omega arith))

open_within : (s : ℕ) (o : Option Exchange) → open_sum o ≤ s → IsClear o → OpenFits s o
unfolding open_sum
open_within s None less clear = tt
open_within s (Some x) less clear = record { filters = omega arith; request = omega arith; response = omega arith; clear = clear }

lines_within : (s : ℕ) (lines : List Line) → lines_sum lines ≤ s → AllClear lines → AllFit s lines
unfolding lines_sum
lines_within s [] less clear = tt
lines_within s (line ∷ lines) less clear = (open_within s line.exchange (omega arith) clear.0, lines_within s lines (omega arith) clear.1)

pub rooms_come_to_rest : (H : Type 0) → RoomsComeToRest H
rooms_come_to_rest H plan room clear =
    let s : ℕ = routes_sum plan.routes + lines_sum room.lines in (
      suc (work_left (routes_sum plan.routes + lines_sum room.lines) room),
      λ calling host k ms c reaches.
          (steps_come_to_rest H calling plan (routes_sum plan.routes + lines_sum room.lines) (suc (work_left (routes_sum plan.routes + lines_sum room.lines) room) + k) (both host room) c ms
          (routes_within (routes_sum plan.routes + lines_sum room.lines) plan.routes (omega arith))
          (lines_within (routes_sum plan.routes + lines_sum room.lines) room.lines (omega arith) clear) (omega arith) reaches).1,
    )
