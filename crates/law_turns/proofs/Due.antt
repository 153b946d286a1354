-- What falls due: the worked rooms by computation, and any room.
use Rattle.std.proofs.Common.{◌≡◌, ℕ, zero, suc, ◌+◌, ◌<◌, ◌≤◌, Bool, true, false, not, ◌&&◌, ◌||◌, List, [], ◌∷◌, refl, sym, ap, ◌∙◌, subst, arith, ⊎_elim, nat_le, slice_get, if◌then◌else◌}
use Rattle.std.proofs.lemmas.Bool.{cases_eq, false≢true, leb-false, leb-true, or_left, or_right}
use Rattle.std.specs.Prelude.{Contains, Option, None, Some}
use Rattle.callouts.specs.declared.types.Callout.{Callout}
use Rattle.contexts.specs.declared.parts.Context.{Context}
use Rattle.contexts.specs.declared.parts.Tick.{Tick}
use Rattle.contexts.specs.Reached.{vm_in}
use Rattle.exchange.specs.declared.types.Exchange.{Exchange}
use Rattle.worker_model.specs.Plan.{Plan}
use Rattle.worker_model.specs.Rooms.{is_dead}
use Rattle.worker_model.specs.Steps.{at_most_last}
use Rattle.worker_model.specs.Turn.{registers_at, vms_in}
use Rattle.worker_model.specs.Wants.{due_in, due_of, due_on, looks, looks_one, ticks_up_to, with_call_dues, with_lines, with_notices, with_ticks}
use Rattle.worker_model.specs.Wants.{earlier}
use Rattle.worker_model.specs.Room.{Room}
use Rattle.worker_model.specs.declared.types.Line.{Line}
use Rattle.law_turns.specs.Due.{DueExamples, DeadlineExamples, TickExamples, NoticeExamples, IsBy, NothingIsDueBefore}

pub due_examples : DueExamples
due_examples = record {
  nothing = refl;
  notices = refl;
  first_notices = refl;
  both_notices = refl;
  no_notices = refl;
  other_died = refl;
  last_moment = refl;
  nearly_last = refl;
  roots = refl;
  second_root = refl;
  other_root = refl;
  other_second = refl;
  other_first = refl;
  beside_idle = refl;
  idle = refl;
  dead_root = refl;
  other_dead = refl;
  lines = refl;
  first_line = refl;
  beside_none = refl;
  headed = refl;
  answered = refl;
  beside_headed = refl;
  tick_first = refl;
  other_tick = refl;
  line_first = refl;
  notice_first = refl;
  none_to_be_told = refl;
  not_begun = refl;
  asked = refl;
  asked_for_line = refl;
}

pub deadline_examples : DeadlineExamples
deadline_examples = record {
  counted = refl;
  endless = refl;
  capped = refl;
  before = refl;
  there = refl;
  behind = refl;
  never = refl;
  headed = refl;
  answered = refl;
  ended = refl;
}

pub tick_examples : TickExamples
tick_examples = record {
  before = refl;
  there = refl;
  late = refl;
  next = refl;
  next_late = refl;
  capped = refl;
  roots = refl;
  not_yet = refl;
  other_only = refl;
}

pub notice_examples : NoticeExamples
notice_examples = record {
  second = refl;
  first = refl;
  both = refl;
  neither = refl;
}

-- ---- whatever the room

earlier_first : (a b : Option ℕ) (n : ℕ) → IsBy a n → IsBy (earlier a b) n
earlier_first None b n by = absurd by
earlier_first (Some m) None n by = by
earlier_first (Some m) (Some k) n by = which (nat_le m k) refl
  where
    which : (b : Bool) → nat_le m k ≡ b → IsBy (if b then Some m else Some k) n
    which true e = by
    which false e = omega (arith, leb-false m k e, by)

earlier_second : (a b : Option ℕ) (n : ℕ) → IsBy b n → IsBy (earlier a b) n
earlier_second a None n by = absurd by
earlier_second None (Some k) n by = by
earlier_second (Some m) (Some k) n by = which (nat_le m k) refl
  where
    which : (b : Bool) → nat_le m k ≡ b → IsBy (if b then Some m else Some k) n
    which true e = omega (arith, leb-true m k e, by)
    which false e = by

ticks_keep : (due : Option ℕ) (cs : List Context) (n : ℕ) → IsBy due n → IsBy (with_ticks due cs) n
ticks_keep due [] n by = by
ticks_keep due (c ∷ cs) n by = ticks_keep (earlier due (due_of c.tick)) cs n (earlier_first due (due_of c.tick) n by)

ticks_have : (due : Option ℕ) (cs : List Context) (c : Context) (t : Tick) → Contains cs c → c.tick ≡ Some t → IsBy (with_ticks due cs) t.due
ticks_have due [] c t (k, below, is) ticks = let never : ⊥ = omega (arith, below) in absurd never
ticks_have due (d ∷ cs) c t (zero, below, is) ticks =
    let own : d.tick ≡ Some t = ap (λ (e : Context). e.tick) is ∙ ticks in
    let here : t.due ≤ t.due = omega arith in
    ticks_keep (earlier due (due_of d.tick)) cs t.due
    (earlier_second due (due_of d.tick) t.due (subst (λ (o : Option Tick). IsBy (due_of o) t.due) (sym own) here))
ticks_have due (d ∷ cs) c t (suc k, below, is) ticks = ticks_have (earlier due (due_of d.tick)) cs c t (k, omega (arith, below), is) ticks

choice : {A : Type 0} (P : A → Type 0) (b : Bool) (x y : A) → P x → P y → P (if b then x else y)
choice P true x y here there = here
choice P false x y here there = there

if_false : {A : Type 0} (P : A → Type 0) (b : Bool) (x y : A) → b ≡ false → P y → P (if b then x else y)
if_false P true x y is there = absurd (false≢true (sym is))
if_false P false x y is there = there

if_true : {A : Type 0} (P : A → Type 0) (b : Bool) (x y : A) → b ≡ true → P x → P (if b then x else y)
if_true P true x y is here = here
if_true P false x y is here = absurd (false≢true is)

ticks_to : (r : Room) (n vm : ℕ) (c : Context) (t : Tick) → vm < n → is_dead vm r ≡ false → Contains (vm_in r.hub.contexts vm).contexts c → c.tick ≡ Some t → IsBy (ticks_up_to r n) t.due
ticks_to r zero vm c t less lives there ticks = let never : ⊥ = omega (arith, less) in absurd never
ticks_to r (suc n) vm c t less lives there ticks =
    ⊎_elim
    (λ (same : vm ≡ n).
    if_false (λ (o : Option ℕ). IsBy o t.due) (is_dead n r) (ticks_up_to r n) (with_ticks (ticks_up_to r n) (vm_in r.hub.contexts n).contexts)
    (subst (λ (m : ℕ). is_dead m r ≡ false) same lives)
    (ticks_have (ticks_up_to r n) (vm_in r.hub.contexts n).contexts c t (subst (λ (m : ℕ). Contains (vm_in r.hub.contexts m).contexts c) same there) ticks))
    (λ (other : vm ≡ n → ⊥).
    let before = ticks_to r n vm c t (omega (arith, less, other)) lives there ticks in
    choice (λ (o : Option ℕ). IsBy o t.due) (is_dead n r) (ticks_up_to r n) (with_ticks (ticks_up_to r n) (vm_in r.hub.contexts n).contexts)
    before (ticks_keep (ticks_up_to r n) (vm_in r.hub.contexts n).contexts t.due before))
    (cases_eq vm n)

lines_keep : (due : Option ℕ) (lines : List Line) (n : ℕ) → IsBy due n → IsBy (with_lines due lines) n
lines_keep due [] n by = by
lines_keep due (l ∷ lines) n by = lines_keep (earlier due (due_on l.exchange)) lines n (earlier_first due (due_on l.exchange) n by)

open_due : (x : Exchange) (due : ℕ) → x.due ≡ Some due → x.is_headed ≡ false → x.is_answered ≡ false → due_on (Some x) ≡ Some due
open_due x due is headed answered = λ i. if headed i || answered i then None else is i

lines_have : (due : Option ℕ) (lines : List Line) (l : Line) (n : ℕ) → Contains lines l → due_on l.exchange ≡ Some n → IsBy (with_lines due lines) n
lines_have due [] l n (k, below, is) falls = let never : ⊥ = omega (arith, below) in absurd never
lines_have due (m ∷ lines) l n (zero, below, is) falls =
    let own : due_on m.exchange ≡ Some n = ap (λ (o : Line). due_on o.exchange) is ∙ falls in
    let here : n ≤ n = omega arith in
    lines_keep (earlier due (due_on m.exchange)) lines n (earlier_second due (due_on m.exchange) n (subst (λ (o : Option ℕ). IsBy o n) (sym own) here))
lines_have due (m ∷ lines) l n (suc k, below, is) falls = lines_have (earlier due (due_on m.exchange)) lines l n (k, omega (arith, below), is) falls

calls_keep : (due : Option ℕ) (calls : List Callout) (n : ℕ) → IsBy due n → IsBy (with_call_dues due calls) n
calls_keep due [] n by = by
calls_keep due (c ∷ calls) n by = calls_keep (earlier due (Some c.due)) calls n (earlier_first due (Some c.due) n by)

calls_have : (due : Option ℕ) (calls : List Callout) (c : Callout) → Contains calls c → IsBy (with_call_dues due calls) c.due
calls_have due [] c (k, below, is) = let never : ⊥ = omega (arith, below) in absurd never
calls_have due (d ∷ calls) c (zero, below, is) =
    let own : d.due ≡ c.due = ap (λ (e : Callout). e.due) is in
    let here : d.due ≤ c.due = omega (arith, own) in
    calls_keep (earlier due (Some d.due)) calls c.due (earlier_second due (Some d.due) c.due here)
calls_have due (d ∷ calls) c (suc k, below, is) = calls_have (earlier due (Some d.due)) calls c (k, omega (arith, below), is)

looks_have : (plan : Plan) (r : Room) (n vm : ℕ) → vm < n → looks_one plan r vm ≡ true → looks plan r n ≡ true
looks_have plan r zero vm less is = let never : ⊥ = omega (arith, less) in absurd never
looks_have plan r (suc n) vm less is =
    ⊎_elim
    (λ (same : vm ≡ n). or_right (looks plan r n) (looks_one plan r n) (subst (λ (m : ℕ). looks_one plan r m ≡ true) same is))
    (λ (other : vm ≡ n → ⊥). or_left (looks plan r n) (looks_one plan r n) (looks_have plan r n vm (omega (arith, less, other)) is))
    (cases_eq vm n)

capped : (n : ℕ) → at_most_last n ≤ n
capped n = which (nat_le n 18446744073709551615) refl
  where
    which : (b : Bool) → nat_le n 18446744073709551615 ≡ b → (if b then n else 18446744073709551615) ≤ n
    which true e = omega arith
    which false e = omega (arith, leb-false n 18446744073709551615 e)

-- where it has begun
begun_by : (plan : Plan) (r : Room) (n : ℕ) → r.is_begun ≡ true → IsBy (with_notices plan r (with_call_dues (with_lines (ticks_up_to r (vms_in r)) r.lines) r.calls)) n → IsBy (due_in plan r) n
begun_by plan r n begun by = if_true (λ (o : Option ℕ). IsBy o n) r.is_begun (with_notices plan r (with_call_dues (with_lines (ticks_up_to r (vms_in r)) r.lines) r.calls)) None begun by

notices_keep : (plan : Plan) (r : Room) (due : Option ℕ) (n : ℕ) → IsBy due n → IsBy (with_notices plan r due) n
notices_keep plan r due n by =
    choice (λ (o : Option ℕ). IsBy o n) (looks plan r (vms_in r)) (earlier due (Some (at_most_last (r.hub.moment + 50000000)))) due
    (earlier_first due (Some (at_most_last (r.hub.moment + 50000000))) n by) by

notices_have : (plan : Plan) (r : Room) (due : Option ℕ) → looks plan r (vms_in r) ≡ true → IsBy (with_notices plan r due) (r.hub.moment + 50000000)
notices_have plan r due look =
    if_true (λ (o : Option ℕ). IsBy o (r.hub.moment + 50000000)) (looks plan r (vms_in r)) (earlier due (Some (at_most_last (r.hub.moment + 50000000)))) due look
    (earlier_second due (Some (at_most_last (r.hub.moment + 50000000))) (r.hub.moment + 50000000) (capped (r.hub.moment + 50000000)))

looks_where : (plan : Plan) (r : Room) (vm : ℕ) → is_dead vm r ≡ false → slice_get plan.registers vm ≡ Some true → looks_one plan r vm ≡ true
looks_where plan r vm lives registers = λ i. registers_at (registers i) && not (lives i)

pub nothing_is_due_before : NothingIsDueBefore
nothing_is_due_before = record {
  ticks = λ plan r vm c t begun less lives there ticks.
      begun_by plan r t.due begun
      (notices_keep plan r (with_call_dues (with_lines (ticks_up_to r (vms_in r)) r.lines) r.calls) t.due
      (calls_keep (with_lines (ticks_up_to r (vms_in r)) r.lines) r.calls t.due (lines_keep (ticks_up_to r (vms_in r)) r.lines t.due (ticks_to r (vms_in r) vm c t less lives there ticks))));
  responses = λ plan r l x due begun there stands is headed answered.
      begun_by plan r due begun
      (notices_keep plan r (with_call_dues (with_lines (ticks_up_to r (vms_in r)) r.lines) r.calls) due
      (calls_keep (with_lines (ticks_up_to r (vms_in r)) r.lines) r.calls due (lines_have (ticks_up_to r (vms_in r)) r.lines l due there (ap due_on stands ∙ open_due x due is headed answered))));
  callouts = λ plan r c begun there.
      begun_by plan r c.due begun
      (notices_keep plan r (with_call_dues (with_lines (ticks_up_to r (vms_in r)) r.lines) r.calls) c.due (calls_have (with_lines (ticks_up_to r (vms_in r)) r.lines) r.calls c there));
  notices = λ plan r vm begun less lives registers.
      begun_by plan r (r.hub.moment + 50000000) begun
      (notices_have plan r (with_call_dues (with_lines (ticks_up_to r (vms_in r)) r.lines) r.calls) (looks_have plan r (vms_in r) vm less (looks_where plan r vm lives registers)));
}
