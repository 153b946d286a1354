-- The effects of a callback are done on its own VM's lines.
use Rattle.std.proofs.Common.{◌≡◌, ◌⊎◌, inl, inr, ℕ, zero, suc, ◌==◌, Bool, true, false, not, ◌&&◌, ◌||◌, List, [], ◌∷◌, All, Option, None, Some, refl, ap, sym, subst, ◌∙◌, if◌then◌else◌, get_or, append-nil}
use Rattle.std.proofs.lemmas.Bool.{false≢true}
use Rattle.std.proofs.lemmas.List.Elements.{All-nil, All-cons}
use Rattle.std.proofs.lemmas.List.Quantifiers.{position-Some}
use Rattle.std.proofs.lemmas.Option.{none-some, get_or_from_slice_get}
use Rattle.std.specs.List.{list_any}
use Rattle.std.specs.Prelude.{option_map, slice_get, slice_set}
use Rattle.contexts.proofs.Places.{from_some}
use Rattle.contexts.specs.declared.parts.EffectKind.{EffectKind}
use Rattle.contexts.specs.declared.parts.EffectKind.TheVariants as what
use Rattle.exchange.specs.declared.types.Exchange.{Exchange}
use Rattle.exchange.specs.declared.types.Filter.{Filter}
use Rattle.exchange.specs.declared.types.Hub.{Hub}
use Rattle.exchange.specs.Passing.{resume_context, close_exchange}
use Rattle.law_exchange.proofs.Own.{own_line}
use Rattle.law_exchange.specs.Lives as deeds
use Rattle.law_exchange.specs.Own.{IsOn, AreOn, SendsOn}
use Rattle.callouts.specs.Callouts.{line_of}
use Rattle.callouts.specs.Requests.{request_wire}
use Rattle.gate_io.specs.declared.event.Sent.{Sent}
use Rattle.gate_io.specs.declared.event.Sent.TheVariants as sends
use Rattle.gate_io.specs.declared.event.Side.TheVariants.{Up}
use Rattle.law_vms.proofs.OwnChanges.{both_left}
use Rattle.law_vms.proofs.OwnEffects.{grown, all_as}
use Rattle.law_vms.specs.OwnLines.{takes_part, IsOnItsLine, IsSentFor, ActsOnItsOwn, EffectsActOnOwnLines}
use Rattle.worker_model.specs.Changes.{apply_change}
use Rattle.worker_model.specs.Room.{Room}
use Rattle.worker_model.specs.declared.types.Change.TheVariants as changes
use Rattle.worker_model.specs.declared.types.Line.{Line}
use Rattle.worker_model.specs.declared.types.Owner.{Owner}
use Rattle.worker_model.specs.Rooms.{Changes, in_exchange, put_back, at_some, at_place, with_lines, has_open, place_of, on_context, is_own, next_call, apply_effect, effects_of}

-- ---- lists of lines

get_set_other : {A : Type 0} (xs : List A) (m n : ℕ) (a : A) → (n ≡ m → ⊥) → slice_get (slice_set xs m a) n ≡ slice_get xs n
get_set_other [] m n a apart = refl
get_set_other (x ∷ xs) zero zero a apart = absurd (apart refl)
get_set_other (x ∷ xs) zero (suc n) a apart = refl
get_set_other (x ∷ xs) (suc m) zero a apart = refl
get_set_other (x ∷ xs) (suc m) (suc n) a apart = get_set_other xs m n a (λ same. apart (ap suc same))

number_set : (l b : Line) → b.number ≡ l.number → (xs : List Line) (m n : ℕ) → slice_get xs m ≡ Some l
    → option_map (λ (x : Line). x.number) (slice_get (slice_set xs m b) n) ≡ option_map (λ (x : Line). x.number) (slice_get xs n)
number_set l b same [] m n at = refl
number_set l b same (x ∷ xs) zero zero at = ap Some (same ∙ sym (ap (λ (y : Line). y.number) (from_some at)))
number_set l b same (x ∷ xs) zero (suc n) at = refl
number_set l b same (x ∷ xs) (suc m) zero at = refl
number_set l b same (x ∷ xs) (suc m) (suc n) at = number_set l b same xs m n at

-- ---- who takes part

or_wider : (a b c d : Bool) → (a ≡ true → c ≡ true) → (b ≡ true → d ≡ true) → (a || b) ≡ true → (c || d) ≡ true
or_wider true b c d left right is = ap (λ x. x || d) (left refl)
or_wider false b true d left right is = refl
or_wider false b false d left right is = right is

any_wider : (p q : Filter → Bool) → ((f : Filter) → p f ≡ true → q f ≡ true) → (fs : List Filter) → list_any p fs ≡ true → list_any q fs ≡ true
any_wider p q so [] is = is
any_wider p q so (f ∷ fs) is = or_wider (p f) (list_any p fs) (q f) (list_any q fs) (so f) (any_wider p q so fs) is

and_wider : (a b c : Bool) → (b ≡ true → c ≡ true) → (a && b) ≡ true → (a && c) ≡ true
and_wider true b c so is = so is
and_wider false b c so is = is

open_takes_part : (vm context : ℕ) (o : Option Exchange) → has_open vm context o ≡ true → takes_part vm o ≡ true
open_takes_part vm context None is = is
open_takes_part vm context (Some x) is =
    let narrow = λ (f : Filter). (f.created && f.vm == vm) && f.context == context in
    let wide = λ (f : Filter). f.created && f.vm == vm in
    and_wider (not x.has_ended) (list_any narrow x.filters) (list_any wide x.filters)
    (any_wider narrow wide (λ f. both_left (wide f) (f.context == context)) x.filters) is

-- ---- one effect

-- nothing was done
nothing_done : (vm : ℕ) (room : Room) → ActsOnItsOwn vm room room
nothing_done vm room = record {
  lines = λ place line at out. at;
  numbers = λ place. refl;
  sent = ([], sym (append-nil room.hub.sent), All-nil (IsSentFor room vm));
  dead = refl;
}

-- what a change of an exchange sends is on its line
abbrev SendsOnItsLine : Changes → Type 0
SendsOnItsLine change = (n : ℕ) (x : Exchange) (hub : Hub) → SendsOn n hub (change n x hub).1

all_on : (n : ℕ) (sent : List Sent) → AreOn n sent → All (IsOn n) sent
all_on n [] are = All-nil (IsOn n)
all_on n (s ∷ sent) are = All-cons (IsOn n) s sent are.0 (all_on n sent are.1)

not_there : (vm : ℕ) (xs : List Line) (m n : ℕ) (l line : Line) → slice_get xs m ≡ Some l → takes_part vm l.exchange ≡ true → slice_get xs n ≡ Some line → takes_part vm line.exchange ≡ false → n ≡ m → ⊥
not_there vm xs m n l line there part at out same =
    let one : Some line ≡ Some l = sym at ∙ ap (slice_get xs) same ∙ there in
    false≢true (sym out ∙ ap (λ (y : Line). takes_part vm y.exchange) (from_some one) ∙ part)

in_line_done : (change : Changes) → SendsOnItsLine change → (vm : ℕ) (room : Room) (m : ℕ) (l : Line) (o : Option Exchange) → l.exchange ≡ o → slice_get room.lines m ≡ Some l
    → takes_part vm l.exchange ≡ true → ActsOnItsOwn vm room (with_lines room (put_back room.lines m (in_exchange change l o room.hub)))
in_line_done change on vm room m l None is there part = absurd (false≢true (ap (takes_part vm) (sym is) ∙ part))
in_line_done change on vm room m l (Some x) is there part =
    let sends : SendsOn l.number room.hub (change l.number x room.hub).1 = on l.number x room.hub in
    let now : Line = record l { exchange = Some (change l.number x room.hub).0 } in
    record {
      lines = λ n line at out. get_set_other room.lines m n now (not_there vm room.lines m n l line there part at out) ∙ at;
      numbers = λ n. number_set l now refl room.lines m n there;
      sent = (sends.more, sends.adds, all_as (IsOn l.number) (IsSentFor room vm) sends.more (λ s is_on. inl (m, l, there, part, is_on)) (all_on l.number sends.more sends.own));
      dead = refl;
    }

at_some_done : (change : Changes) → SendsOnItsLine change → (vm : ℕ) (room : Room) (m : ℕ) (o : Option Line) → slice_get room.lines m ≡ o
    → ((l : Line) → o ≡ Some l → takes_part vm l.exchange ≡ true) → ActsOnItsOwn vm room (with_lines room (at_some change room.lines m o room.hub))
at_some_done change on vm room m None is part = nothing_done vm room
at_some_done change on vm room m (Some l) is part = in_line_done change on vm room m l l.exchange refl is (part l refl)

at_place_done : (change : Changes) → SendsOnItsLine change → (vm context : ℕ) (room : Room) (o : Option ℕ) → place_of vm context room.lines ≡ o
    → ActsOnItsOwn vm room (with_lines room (at_place change room.lines o room.hub))
at_place_done change on vm context room None is = nothing_done vm room
at_place_done change on vm context room (Some m) is =
    at_some_done change on vm room m (slice_get room.lines m) refl
    (λ l at.
    let open_on = λ (line : Line). has_open vm context line.exchange in
    let found : open_on (get_or room.lines m l) ≡ true = (position-Some open_on room.lines m l is).1 in
    open_takes_part vm context l.exchange (ap open_on (sym (get_or_from_slice_get room.lines m l l at)) ∙ found))

on_context_done : (change : Changes) → SendsOnItsLine change → (vm context : ℕ) (room : Room) → ActsOnItsOwn vm room (on_context change vm context room)
on_context_done change on vm context room = at_place_done change on vm context room (place_of vm context room.lines) refl

done_if : (b : Bool) (vm : ℕ) (room after : Room) → ActsOnItsOwn vm room after → ActsOnItsOwn vm room (if b then room else after)
done_if true vm room after acts = nothing_done vm room
done_if false vm room after acts = acts

does_own : (vm : ℕ) (own : Owner) (context : ℕ) (w : EffectKind) (room : Room) → ActsOnItsOwn vm room (apply_effect vm own context w room)
does_own vm own context (what.Continue response) room =
    done_if (is_own own context response) vm room (on_context (resume_context vm context response) vm context room)
    (on_context_done (resume_context vm context response) (λ n x hub. own_line n (deeds.resumes vm context response) x hub tt) vm context room)
does_own vm own context what.Close room = on_context_done close_exchange (λ n x hub. own_line n deeds.closes x hub tt) vm context room
does_own vm own context (what.Call request) room = record {
  lines = λ place line at out. at;
  numbers = λ place. refl;
  sent =
      let id : ℕ = next_call room in
      let new : Sent → Type 0 = λ s. IsSentFor room vm s in
      let connect : Sent = sends.Connect (line_of id) in
      let bytes : Sent = sends.Bytes (line_of id) Up (request_wire request) in
      (connect ∷ bytes ∷ [], refl, All-cons new connect (bytes ∷ []) (inr (id, refl)) (All-cons new bytes [] (inr (id, refl)) (All-nil new)));
  dead = refl;
}
does_own vm own context (what.Answer status fields body) room =
    on_context_done (apply_change (changes.Answer status fields body)) (λ n x hub. own_line n (deeds.answers false status fields.pairs body) x hub tt) vm context room

-- ---- one after the other

-- a line in which the VM takes part after, it did before
earlier_by : (b : Bool) (vm n : ℕ) (later : Room) (l line : Line) → takes_part vm l.exchange ≡ b → (takes_part vm l.exchange ≡ false → slice_get later.lines n ≡ Some l)
    → slice_get later.lines n ≡ Some line → takes_part vm line.exchange ≡ true → takes_part vm l.exchange ≡ true
earlier_by true vm n later l line is stays at part = is
earlier_by false vm n later l line is stays at part =
    let one : Some l ≡ Some line = sym (stays is) ∙ at in
    ap (λ (y : Line). takes_part vm y.exchange) (from_some one) ∙ part

earlier_at : (vm : ℕ) (a b : Room) → ActsOnItsOwn vm a b → (s : Sent) (n : ℕ) (line : Line) → slice_get b.lines n ≡ Some line → takes_part vm line.exchange ≡ true → IsOn line.number s
    → (o : Option Line) → slice_get a.lines n ≡ o → option_map (λ (x : Line). x.number) o ≡ Some line.number → IsOnItsLine a vm s
earlier_at vm a b acts s n line at part on None is same = absurd (none-some line.number same)
earlier_at vm a b acts s n line at part on (Some l) is same =
    (n, l, is, earlier_by (takes_part vm l.exchange) vm n b l line refl (acts.lines n l is) at part, subst (λ m. IsOn m s) (sym (from_some same)) on)

earlier : (vm : ℕ) (a b : Room) → ActsOnItsOwn vm a b → (s : Sent) → IsSentFor b vm s → IsSentFor a vm s
earlier vm a b acts s (inl is) =
    inl (earlier_at vm a b acts s is.0 is.1 is.2 is.3 is.4 (slice_get a.lines is.0) refl (sym (acts.numbers is.0) ∙ ap (option_map (λ (x : Line). x.number)) is.2))
earlier vm a b acts s (inr call) = inr call

acts_then : (vm : ℕ) (a b c : Room) → ActsOnItsOwn vm a b → ActsOnItsOwn vm b c → ActsOnItsOwn vm a c
acts_then vm a b c first next = record {
  lines = λ n line at out. next.lines n line (first.lines n line at out) out;
  numbers = λ n. next.numbers n ∙ first.numbers n;
  sent =
      let more = next.sent.0 in
      let both = grown (IsSentFor a vm) a.hub.sent b.hub.sent more first.sent (all_as (IsSentFor b vm) (IsSentFor a vm) more (earlier vm a b first) next.sent.2) in
      (both.0, next.sent.1 ∙ both.1, both.2);
  dead = next.dead ∙ first.dead;
}

pub on_own_lines : EffectsActOnOwnLines
on_own_lines vm own [] room = nothing_done vm room
on_own_lines vm own (e ∷ es) room =
    let next : Room = apply_effect vm own e.context e.what room in
    acts_then vm room next (effects_of vm own es next) (does_own vm own e.context e.what room) (on_own_lines vm own es next)
