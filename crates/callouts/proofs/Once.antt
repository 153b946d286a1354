-- What one step makes of a callout.
use Rattle.std.proofs.Common.{◌≡◌, ◌<◌, ◌≤◌, ◌↔◌, ℕ, Bool, true, false, List, ◌++◌, length, Option, None, Some, Result, Ok, Err, IfOk, OnOk, OnErr, IsSome, IfNone, refl, sym, ap, ◌∙◌, subst, nat_lt, if◌then◌else◌, arith}
use Rattle.std.proofs.lemmas.Bool.{false≢true, lt-ltb, ltb-true}
use Rattle.body_buffers.specs.Bodies.{body_limit}
use Rattle.filter_host.specs.Heard.{Heard, hands, halts, Hears}
use Rattle.h1_model.specs.Messages.{Stop, rest, over, refusal}
use Rattle.h1_model.specs.Unread.{Reading, Part, piece, Halts}
use Rattle.h1_stream.specs.Seen.{seen_part}
use Rattle.h1_stream.specs.Steps.{Answers}
use Rattle.h1_stream.specs.declared.reader.Step.{Step}
use Rattle.h1_stream.specs.declared.reader.Step.TheVariants as read
use Rattle.h1_head.specs.declared.item.Item.{Item}
use Rattle.callouts.specs.declared.types.Callout.{Callout}
use Rattle.callouts.specs.declared.types.CallStep.{CallStep}
use Rattle.callouts.specs.declared.types.CallStep.TheVariants as steps
use Rattle.callouts.specs.Callouts.{Coming, reads, nothing, with_part, with_reading, has, too_long, after_taken, after_stop}
use Rattle.callouts.specs.Steps.{callout_by, next_by, callout_after, next_after, step_by, after_own_part, HearsTo}

-- ---- results

pub if_ok : {A E : Type 0} {P Q : A → Type 0} (r : Result A E) → ((a : A) → P a → Q a) → IfOk r P → IfOk r Q
if_ok (Ok a) f p = f a p
if_ok (Err e) f p = p

pub ok_then : {A E : Type 0} {P : A → Type 0} {Q : Type 0} (r : Result A E) → ((a : A) → P a → Q) → IfOk r P → OnOk r Q
ok_then (Ok a) f p = f a p
ok_then (Err e) f p = p

pub on_err : {A E : Type 0} {P Q : Type 0} (r : Result A E) → (P → Q) → OnErr r P → OnErr r Q
on_err (Ok a) f p = p
on_err (Err e) f p = f p

pub is_there : {A : Type 0} (P : Type 0) (o : Option A) → IsSome o → IfNone o P
is_there P (Some x) there = tt
is_there P None there = absurd (false≢true there)

-- ---- what comes

-- of a text that has ended nothing comes
pub ended_callout : (r : Reading) (c : Callout) (b : Bool) → b ≡ true → c ≡ callout_by (if b then nothing else reads r) c
ended_callout r c b is = subst (λ (b : Bool). c ≡ callout_by (if b then nothing else reads r) c) (sym is) refl

pub ended_next : (r : Reading) (id : ℕ) (b : Bool) → b ≡ true → None ≡ next_by id (if b then nothing else reads r)
ended_next r id b is = subst (λ (b : Bool). None ≡ next_by id (if b then nothing else reads r)) (sym is) refl

pub open_callout : (r : Reading) (c : Callout) (b : Bool) → b ≡ false → with_reading r c ≡ callout_by (if b then nothing else reads r) c
open_callout r c b is = subst (λ (b : Bool). with_reading r c ≡ callout_by (if b then nothing else reads r) c) (sym is) refl

pub open_next : (r : Reading) (id : ℕ) (b : Bool) → b ≡ false → Some (steps.Read id) ≡ next_by id (if b then nothing else reads r)
open_next r id b is = subst (λ (b : Bool). Some (steps.Read id) ≡ next_by id (if b then nothing else reads r)) (sym is) refl

-- ---- what is heard

-- behind a part with which the response is whole or not
pub part_callout : (is_whole : Bool) (c : Callout) → callout_after (with_part is_whole c) ≡ c
part_callout true c = refl
part_callout false c = refl

pub part_next : (is_whole : Bool) (id : ℕ) (c : Callout) → next_after id (with_part is_whole c) ≡ Some (step_by is_whole id)
part_next true id c = refl
part_next false id c = refl

not_true : (b : Bool) → (b ≡ true → ⊥) → b ≡ false
not_true true never = absurd (never refl)
not_true false never = refl

pub fits : (n : ℕ) → (body_limit < n → ⊥) → nat_lt body_limit n ≡ false
fits n room = not_true (nat_lt body_limit n) (λ e. room (ltb-true body_limit n e))

pub bursts : (n : ℕ) → body_limit < n → nat_lt body_limit n ≡ true
bursts n more = lt-ltb body_limit n more

-- a callout with these bytes of the body
abbrev pub with_body : List ℕ → Callout → Callout
with_body body c = record c { answer = record c.answer { body = body } }

-- a piece for which there is room, and one for which there is none
pub piece_callout : (bytes : List ℕ) (last : Bool) (c : Callout) → nat_lt body_limit (length (c.answer.body ++ bytes)) ≡ false
    → with_body (c.answer.body ++ bytes) c ≡ callout_after (after_own_part (piece bytes last) c)
piece_callout bytes last c room =
    subst (λ (b : Bool). with_body (c.answer.body ++ bytes) c ≡ callout_after (after_taken last c (if b then too_long else has (record c.answer { body = c.answer.body ++ bytes })))) (sym room)
    (sym (part_callout last (with_body (c.answer.body ++ bytes) c)))

pub piece_next : (bytes : List ℕ) (last : Bool) (c : Callout) → nat_lt body_limit (length (c.answer.body ++ bytes)) ≡ false
    → Some (step_by last c.id) ≡ next_after c.id (after_own_part (piece bytes last) c)
piece_next bytes last c room =
    subst (λ (b : Bool). Some (step_by last c.id) ≡ next_after c.id (after_taken last c (if b then too_long else has (record c.answer { body = c.answer.body ++ bytes })))) (sym room)
    (sym (part_next last c.id (with_body (c.answer.body ++ bytes) c)))

pub burst_callout : (bytes : List ℕ) (last : Bool) (c : Callout) → nat_lt body_limit (length (c.answer.body ++ bytes)) ≡ true → c ≡ callout_after (after_own_part (piece bytes last) c)
burst_callout bytes last c past =
    subst (λ (b : Bool). c ≡ callout_after (after_taken last c (if b then too_long else has (record c.answer { body = c.answer.body ++ bytes })))) (sym past) refl

pub burst_next : (bytes : List ℕ) (last : Bool) (c : Callout) → nat_lt body_limit (length (c.answer.body ++ bytes)) ≡ true
    → Some (steps.Fail c.id) ≡ next_after c.id (after_own_part (piece bytes last) c)
burst_next bytes last c past =
    subst (λ (b : Bool). Some (steps.Fail c.id) ≡ next_after c.id (after_taken last c (if b then too_long else has (record c.answer { body = c.answer.body ++ bytes })))) (sym past) refl

clash : {A E : Type 0} {a : A} {e : E} → Ok a ≡ Err e → ⊥
clash same = cc

-- what was put has room, and what was refused has none
pub had_room : {A E : Type 0} (a : A) (e : E) (n : ℕ) → ((Ok a ≡ Err e) ↔ (body_limit < n)) → nat_lt body_limit n ≡ false
had_room a e n past = fits n (λ h. clash (past.1 h))

-- ---- what its reader says

hears_stop : (old : Callout) (r : Reading) (why : Stop) → Halts old.reader why r → HearsTo (next_after old.id (after_stop why r old)) old (callout_after (after_stop why r old))
hears_stop old r why says = (halts why r, says, (refl, refl))

pub hears_part : (old new : Callout) (r : Reading) (s : Step) (i : Item) (next : CallStep) → s ≡ read.Item i → Answers old.reader s r
    → new ≡ callout_after (after_own_part (seen_part i) (with_reading r old)) → Some next ≡ next_after old.id (after_own_part (seen_part i) (with_reading r old))
    → HearsTo (Some next) old new
hears_part old new r s i next what says is next_is =
    let says_part : Answers old.reader (read.Item i) r = subst (λ (t : Step). Answers old.reader t r) what says in
    (hands (seen_part i) r, says_part.0, (is, next_is))

pub hears_none : (old : Callout) (r : Reading) (s : Step) → s ≡ read.NotYet → Answers old.reader s r → HearsTo None old (with_reading r old)
hears_none old r s what says = hears_stop old r rest (subst (λ (t : Step). Answers old.reader t r) what says)

pub hears_end : (old : Callout) (r : Reading) (s : Step) → s ≡ read.Over → Answers old.reader s r → HearsTo (Some (steps.Answer old.id)) old (with_reading r old)
hears_end old r s what says = hears_stop old r over (subst (λ (t : Step). Answers old.reader t r) what says)

pub hears_refusal : {n : ℕ} (old : Callout) (r : Reading) (s : Step) → s ≡ read.Refused n → Answers old.reader s r → HearsTo (Some (steps.Fail old.id)) old (with_reading r old)
hears_refusal {n} old r s what says = hears_stop old r (refusal n) (subst (λ (t : Step). Answers old.reader t r) what says)
