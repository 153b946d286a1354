-- What is done beside a line that has no filters leaves that as it was: of lines and of rooms.
use Rattle.std.proofs.Common.{◌≡◌, ℕ, zero, suc, ◌==◌, Bool, true, false, not, ◌||◌, ◌&&◌, cond, List, [], ◌∷◌, ◌++◌, length, refl, ap, ◌∙◌, sym, subst}
use Rattle.std.proofs.lemmas.Bool.{and_left}
use Rattle.std.proofs.lemmas.List.{append-nil}
use Rattle.std.proofs.lemmas.List.Elements.{filter-append}
use Rattle.std.specs.List.{list_any}
use Rattle.std.specs.Prelude.{Option, None, Some, slice_get, slice_set, remove, insert, filter, position}
use Rattle.callouts.specs.Callouts.{is_call_line}
use Rattle.exchange.specs.declared.types.Exchange.{Exchange}
use Rattle.exchange.specs.declared.types.Filter.{Filter}
use Rattle.exchange.specs.declared.types.Hub.{Hub}
use Rattle.exchange.specs.Leaving.{is_due}
use Rattle.exchange.specs.Passing as passing
use Rattle.exchange.specs.Passing.{fails_closed, is_there, bypass_vm_stages, bypass_vm_response, bypass_vm}
use Rattle.law_exchange.specs.Ends.{IsOwn}
use Rattle.law_exchange.specs.Lives.{Deed, done_by}
use Rattle.law_exchange.specs.Own.{IsOn, AreOn, SendsOn}
use Rattle.law_exchange.proofs.Own.{own_line}
use Rattle.filter_chain.specs.declared.stage.Stage.{Stage}
use Rattle.gate_io.specs.declared.event.Sent.{Sent}
use Rattle.gate_io.specs.declared.event.Sent.TheVariants as to
use Rattle.gate_io.specs.declared.event.Side.TheVariants.{Down, Up}
use Rattle.worker_model.specs.declared.types.Line.{Line}
use Rattle.worker_model.specs.Rooms.{Changes, in_exchange, in_line, at_some, at_place, all_lines, place_in, place_of, has_open}
use Rattle.worker_model.specs.Steps.{is_late, on_line, line_at, line_at_place, without_place}
use Rattle.law_lines.specs.Isolation.{IsUnfiltered, lines_on, IsFree}
use Rattle.law_lines.specs.Logs.{AreLogs}
use Rattle.law_lines.proofs.Callouts.{is_seen_on, seen_on}
use Rattle.law_lines.proofs.Finding.{Seeks, missing, first, seeks}
use Rattle.law_lines.proofs.Kept.{by_bool}
use Rattle.law_lines.proofs.Looks.{is_n, equal_by, equal_is, other_by}
use Rattle.law_lines.proofs.Moments.{deed_at}
use Rattle.law_lines.proofs.OnLines.{Numbered}

pub not_both : {A : Type 0} (b : Bool) → b ≡ true → b ≡ false → A
not_both b is other = let never : ◌≡◌ {A = Bool} true false = sym is ∙ other in absurd (cc)

-- ---- what is sent

pub none_on : (n m : ℕ) (more : List Sent) → (m == n) ≡ false → AreOn m more → seen_on n more ≡ []
none_on n m [] other on = refl
none_on n m (s ∷ more) other on = ap (λ (b : Bool). cond b (s ∷ seen_on n more) (seen_on n more)) (one s on.0) ∙ none_on n m more other on.1
  where
    away : (k : ℕ) → k ≡ m → (k == n) ≡ false
    away k is = ap (λ (a : ℕ). a == n) is ∙ other

    one : (s : Sent) → IsOn m s → is_seen_on n s ≡ false
    one (to.Connect k) is = and_left (k == n) (not (is_call_line n)) (away k is)
    one (to.Bytes k Down bytes) is = away k is
    one (to.Bytes k Up bytes) is = and_left (k == n) (not (is_call_line n)) (away k is)
    one (to.Close k side) is = absurd is
    one (to.Log level text) is = absurd is

pub logs_on : (n : ℕ) (more : List Sent) → AreLogs more → seen_on n more ≡ []
logs_on n [] are = refl
logs_on n (to.Connect m ∷ more) are = absurd are.0
logs_on n (to.Bytes m side bytes ∷ more) are = absurd are.0
logs_on n (to.Close m side ∷ more) are = absurd are.0
logs_on n (to.Log level text ∷ more) are = logs_on n more are.1

pub adds_nothing : (n : ℕ) (old more new : List Sent) → new ≡ old ++ more → seen_on n more ≡ [] → seen_on n new ≡ seen_on n old
adds_nothing n old more new is none =
    ap (seen_on n) is ∙ (filter-append (is_seen_on n) old more ∙ (ap (λ (t : List Sent). seen_on n old ++ t) none ∙ append-nil (seen_on n old)))

-- ---- free lines

pub free_at : (n : ℕ) (lines : List Line) (k : ℕ) (l : Line) → slice_get lines k ≡ Some l → IsFree n lines → l.number ≡ n → IsUnfiltered l.exchange
free_at n [] k l at free = absurd (cc)
free_at n (x ∷ xs) zero l at free = let here : x ≡ l = (cc) in subst (λ (y : Line). y.number ≡ n → IsUnfiltered y.exchange) here free.0
free_at n (x ∷ xs) (suc k) l at free = free_at n xs k l at free.1

pub free_set : (n : ℕ) (lines : List Line) (k : ℕ) (m : Line) → IsFree n lines → (m.number ≡ n → IsUnfiltered m.exchange) → IsFree n (slice_set lines k m)
free_set n [] k m free is = tt
free_set n (x ∷ xs) zero m free is = (is, free.1)
free_set n (x ∷ xs) (suc k) m free is = (free.0, free_set n xs k m free.1 is)

pub free_remove : (n : ℕ) (lines : List Line) (k : ℕ) → IsFree n lines → IsFree n (remove lines k)
free_remove n [] zero free = tt
free_remove n [] (suc k) free = tt
free_remove n (x ∷ xs) zero free = free.1
free_remove n (x ∷ xs) (suc k) free = (free.0, free_remove n xs k free.1)

pub free_insert : (n : ℕ) (lines : List Line) (k : ℕ) (m : Line) → IsFree n lines → (m.number ≡ n → IsUnfiltered m.exchange) → IsFree n (insert lines k m)
free_insert n [] zero m free is = (is, free)
free_insert n [] (suc k) m free is = (is, free)
free_insert n (x ∷ xs) zero m free is = (is, free)
free_insert n (x ∷ xs) (suc k) m free is = (free.0, free_insert n xs k m free.1 is)

set_same : {X : Type 0} (xs : List X) (k : ℕ) (x : X) → slice_get xs k ≡ Some x → slice_set xs k x ≡ xs
set_same [] k x at = refl
set_same (z ∷ xs) zero x at = let here : z ≡ x = (cc) in ap (λ y. y ∷ xs) (sym here)
set_same (z ∷ xs) (suc k) x at = ap (λ ys. z ∷ ys) (set_same xs k x at)

-- ---- those that pass, where one that does not changes, comes or goes

set_beside : {X : Type 0} (p : X → Bool) (xs : List X) (k : ℕ) (x y : X) → slice_get xs k ≡ Some x → p x ≡ false → p y ≡ false → filter p (slice_set xs k y) ≡ filter p xs
set_beside p [] k x y at old new = refl
set_beside p (z ∷ xs) zero x y at old new =
    let here : z ≡ x = (cc) in
    ap (λ b. cond b (y ∷ filter p xs) (filter p xs)) new ∙ sym (ap (λ b. cond b (z ∷ filter p xs) (filter p xs)) (ap p here ∙ old))
set_beside p (z ∷ xs) (suc k) x y at old new = ap (λ ys. cond (p z) (z ∷ ys) ys) (set_beside p xs k x y at old new)

remove_beside : {X : Type 0} (p : X → Bool) (xs : List X) (k : ℕ) (x : X) → slice_get xs k ≡ Some x → p x ≡ false → filter p (remove xs k) ≡ filter p xs
remove_beside p [] k x at is = absurd (cc)
remove_beside p (z ∷ xs) zero x at is = let here : z ≡ x = (cc) in sym (ap (λ b. cond b (z ∷ filter p xs) (filter p xs)) (ap p here ∙ is))
remove_beside p (z ∷ xs) (suc k) x at is = ap (λ ys. cond (p z) (z ∷ ys) ys) (remove_beside p xs k x at is)

insert_beside : {X : Type 0} (p : X → Bool) (xs : List X) (k : ℕ) (x : X) → p x ≡ false → filter p (insert xs k x) ≡ filter p xs
insert_beside p xs zero x is = ap (λ b. cond b (x ∷ filter p xs) (filter p xs)) is
insert_beside p [] (suc k) x is = ap (λ b. cond b (x ∷ []) []) is
insert_beside p (z ∷ xs) (suc k) x is = ap (λ ys. cond (p z) (z ∷ ys) ys) (insert_beside p xs k x is)

-- ---- lines

-- the line of the number is as it was, and nothing was sent on it
pub record Aside (n : ℕ) (lines : List Line) (hub : Hub) (later : List Line) (after : Hub) : Type 0 where
  pub found : lines_on n later ≡ lines_on n lines
  pub free : IsFree n later
  pub sent : seen_on n after.sent ≡ seen_on n hub.sent
  pub moment : after.moment ≡ hub.moment

pub aside_then : (n : ℕ) (a b c : List Line) (hub mid after : Hub) → Aside n a hub b mid → Aside n b mid c after → Aside n a hub c after
aside_then n a b c hub mid after p q = record { found = q.found ∙ p.found; free = q.free; sent = q.sent ∙ p.sent; moment = q.moment ∙ p.moment }

pub aside_itself : (n : ℕ) (lines : List Line) (hub : Hub) → IsFree n lines → Aside n lines hub lines hub
aside_itself n lines hub free = record { found = refl; free = free; sent = refl; moment = refl }

-- the same of one line, whichever
pub record LineAside (n : ℕ) (l : Line) (hub : Hub) (m : Line) (after : Hub) : Type 0 where
  pub number : m.number ≡ l.number
  pub same : (l.number == n) ≡ true → m ≡ l
  pub sent : seen_on n after.sent ≡ seen_on n hub.sent
  pub moment : after.moment ≡ hub.moment

pub set_aside : (n : ℕ) (lines : List Line) (k : ℕ) (l m : Line) (hub after : Hub) → slice_get lines k ≡ Some l → IsFree n lines → LineAside n l hub m after
    → Aside n lines hub (slice_set lines k m) after
set_aside n lines k l m hub after at free goes = by_test (l.number == n) refl
  where
    by_test : (b : Bool) → (l.number == n) ≡ b → Aside n lines hub (slice_set lines k m) after
    by_test true is =
        let as_is : slice_set lines k m ≡ lines = ap (slice_set lines k) (goes.same is) ∙ set_same lines k l at in
        record { found = ap (lines_on n) as_is; free = subst (IsFree n) (sym as_is) free; sent = goes.sent; moment = goes.moment }
    by_test false is = record {
      found = set_beside (is_n n) lines k l m at is (ap (λ (a : ℕ). a == n) goes.number ∙ is);
      free = free_set n lines k m free (λ e. absurd (other_by l.number n is (sym goes.number ∙ e)));
      sent = goes.sent;
      moment = goes.moment;
    }

cons_aside : (n : ℕ) (l m : Line) (lines later : List Line) (hub mid after : Hub) → IsFree n (l ∷ lines) → LineAside n l hub m mid → Aside n lines mid later after
    → Aside n (l ∷ lines) hub (m ∷ later) after
cons_aside n l m lines later hub mid after free goes others = record {
  found = by_test (l.number == n) refl;
  free = ((λ e. here (equal_is l.number n (sym goes.number ∙ e))), others.free);
  sent = others.sent ∙ goes.sent;
  moment = others.moment ∙ goes.moment;
}
  where
    here : (l.number == n) ≡ true → IsUnfiltered m.exchange
    here is = subst (λ (y : Line). IsUnfiltered y.exchange) (sym (goes.same is)) (free.0 (equal_by l.number n is))

    first_is : (k : Line) (ls : List Line) (b : Bool) → is_n n k ≡ b → lines_on n (k ∷ ls) ≡ cond b (k ∷ lines_on n ls) (lines_on n ls)
    first_is k ls b is = ap (λ c. cond c (k ∷ lines_on n ls) (lines_on n ls)) is

    by_test : (b : Bool) → (l.number == n) ≡ b → lines_on n (m ∷ later) ≡ lines_on n (l ∷ lines)
    by_test true is = first_is m later true (ap (λ (a : ℕ). a == n) goes.number ∙ is) ∙ ((λ i. goes.same is i ∷ others.found i) ∙ sym (first_is l lines true is))
    by_test false is = first_is m later false (ap (λ (a : ℕ). a == n) goes.number ∙ is) ∙ (others.found ∙ sym (first_is l lines false is))

-- ---- what is done to exchanges

-- it sends on its line alone, at the same moment
pub record OnItsLine (change : Changes) : Type 0 where
  pub sends : (m : ℕ) (x : Exchange) (hub : Hub) → SendsOn m hub (change m x hub).1
  pub moment : (m : ℕ) (x : Exchange) (hub : Hub) → (change m x hub).1.moment ≡ hub.moment

pub by_deed : (deed : Deed) → IsOwn deed → OnItsLine (λ (n : ℕ) (x : Exchange) (hub : Hub). done_by n deed x hub)
by_deed deed own = record { sends = λ m x hub. own_line m deed x hub own; moment = λ m x hub. deed_at m deed x hub own }

-- to that of the line of the number nothing is done
abbrev pub LeavesIt : ℕ → Changes → Line → Hub → Type 0
LeavesIt n change l hub = (x : Exchange) → (l.number == n) ≡ true → l.exchange ≡ Some x → change l.number x hub ≡ (x, hub)

line_aside : (n : ℕ) (change : Changes) (l : Line) (hub : Hub) → OnItsLine change → LeavesIt n change l hub → LineAside n l hub (in_line change l hub).0 (in_line change l hub).1
line_aside n change l hub on leaves = by_exchange l.exchange refl
  where
    by_exchange : (o : Option Exchange) → l.exchange ≡ o → LineAside n l hub (in_exchange change l o hub).0 (in_exchange change l o hub).1
    by_exchange None there = record { number = refl; same = λ e. refl; sent = refl; moment = refl }
    by_exchange (Some x) there = record {
      number = refl;
      same = λ e. ap (λ (o : Option Exchange). record l { exchange = o }) (ap (λ (q : Exchange × Hub). Some q.0) (leaves x e there) ∙ sym there);
      sent = by_test (l.number == n) refl;
      moment = on.moment l.number x hub;
    }
      where
        by_test : (b : Bool) → (l.number == n) ≡ b → seen_on n (change l.number x hub).1.sent ≡ seen_on n hub.sent
        by_test true is = ap (λ (q : Exchange × Hub). seen_on n q.1.sent) (leaves x is there)
        by_test false is =
            let s : SendsOn l.number hub (change l.number x hub).1 = on.sends l.number x hub in
            adds_nothing n hub.sent s.more (change l.number x hub).1.sent s.adds (none_on n l.number s.more is s.own)

-- at the first place that a test finds
found_aside : (n : ℕ) (change : Changes) (p : Line → Bool) (lines : List Line) (hub : Hub) → IsFree n lines → OnItsLine change
    → ((k : ℕ) (l : Line) → slice_get lines k ≡ Some l → p l ≡ true → LeavesIt n change l hub)
    → Aside n lines hub (at_place change lines (position p lines) hub).0 (at_place change lines (position p lines) hub).1
found_aside n change p lines hub free on leaves = by_seek (seeks p lines)
  where
    by_seek : Seeks p lines → Aside n lines hub (at_place change lines (position p lines) hub).0 (at_place change lines (position p lines) hub).1
    by_seek (missing at none) =
        subst (λ (o : Option ℕ). Aside n lines hub (at_place change lines o hub).0 (at_place change lines o hub).1) (sym at) (aside_itself n lines hub free)
    by_seek (first k l at there passes found) =
        subst (λ (o : Option ℕ). Aside n lines hub (at_place change lines o hub).0 (at_place change lines o hub).1) (sym at)
        (subst (λ (o : Option Line). Aside n lines hub (at_some change lines k o hub).0 (at_some change lines k o hub).1) (sym there)
        (set_aside n lines k l (in_line change l hub).0 hub (in_line change l hub).1 there free (line_aside n change l hub on (leaves k l there passes))))

-- on the line of another number
pub number_aside : (n m : ℕ) (change : Changes) (lines : List Line) (hub : Hub) → (m == n) ≡ false → IsFree n lines → OnItsLine change
    → Aside n lines hub (at_place change lines (place_in m lines) hub).0 (at_place change lines (place_in m lines) hub).1
number_aside n m change lines hub other free on =
    found_aside n change (is_n m) lines hub free on
    (λ k l at passes x is there. not_both (l.number == n) is (ap (λ (a : ℕ). a == n) (equal_by l.number m passes) ∙ other))

no_filter : (vm context : ℕ) (o : Option Exchange) → IsUnfiltered o → has_open vm context o ≡ false
no_filter vm context None free = refl
no_filter vm context (Some x) free =
    ap (λ (fs : List Filter). not x.has_ended && list_any (λ (f : Filter). (f.created && f.vm == vm) && f.context == context) fs) free.0 ∙ never (not x.has_ended)
  where
    never : (b : Bool) → (b && false) ≡ false
    never true = refl
    never false = refl

-- on the line whose exchange has a context
pub context_aside : (n vm context : ℕ) (change : Changes) (lines : List Line) (hub : Hub) → IsFree n lines → OnItsLine change
    → Aside n lines hub (at_place change lines (place_of vm context lines) hub).0 (at_place change lines (place_of vm context lines) hub).1
context_aside n vm context change lines hub free on =
    found_aside n change (λ (l : Line). has_open vm context l.exchange) lines hub free on
    (λ k l at passes x is there.
    not_both (has_open vm context l.exchange) passes (no_filter vm context l.exchange (free_at n lines k l at free (equal_by l.number n is))))

-- on all lines, where at that moment nothing is done to the line of the number
abbrev pub AllLeaveIt : ℕ → Changes → ℕ → List Line → Type 0
AllLeaveIt n change now [] = Unit {0}
AllLeaveIt n change now (l ∷ lines) = ((hub : Hub) → hub.moment ≡ now → LeavesIt n change l hub) × AllLeaveIt n change now lines

pub all_aside : (n : ℕ) (change : Changes) (now : ℕ) (lines : List Line) (hub : Hub) → hub.moment ≡ now → IsFree n lines → OnItsLine change → AllLeaveIt n change now lines
    → Aside n lines hub (all_lines change lines hub).0 (all_lines change lines hub).1
all_aside n change now [] hub is free on leave = aside_itself n [] hub tt
all_aside n change now (l ∷ lines) hub is free on leave =
    let p : Line × Hub = in_line change l hub in
    let one : LineAside n l hub p.0 p.1 = line_aside n change l hub on (leave.0 hub is) in
    let q : List Line × Hub = all_lines change lines p.1 in
    cons_aside n l p.0 lines q.0 hub p.1 q.1 free one (all_aside n change now lines p.1 (one.moment ∙ is) free.1 on leave.1)

-- ---- deaths

-- an exchange without filters and stages outlives every VM
outlives : (vm n : ℕ) (x : Exchange) (hub : Hub) → IsUnfiltered (Some x) → passing.lose_vm vm n x hub ≡ (x, hub)
outlives vm n x hub free =
    by_bool (λ (q : Exchange × Hub). q ≡ (x, hub)) x.has_ended (x, hub) _ (λ e. refl)
    (λ e. by_bool (λ (q : Exchange × Hub). q ≡ (x, hub)) (fails_closed vm x) _ (bypass_vm vm n x hub)
    (λ d. not_both (fails_closed vm x) d (ap (λ (fs : List Filter). list_any (λ (f : Filter). (f.vm == vm && not f.fails_open) && is_there x f) fs) free.0))
    (λ d.
    ap (λ (ss : List Stage). bypass_vm_response vm n (bypass_vm_stages false vm n (length ss) (x, hub))) free.1
    ∙ ap (λ (ss : List Stage). bypass_vm_stages true vm n (length ss) (x, hub)) free.2))

pub all_outlive : (n vm now : ℕ) (lines : List Line) → IsFree n lines → AllLeaveIt n (passing.lose_vm vm) now lines
all_outlive n vm now [] free = tt
all_outlive n vm now (l ∷ lines) free =
    ((λ hub at x is there. outlives vm l.number x hub (subst IsUnfiltered there (free.0 (equal_by l.number n is)))), all_outlive n vm now lines free.1)

-- ---- responses that are due

pub all_in_time : (n now : ℕ) (lines : List Line) → list_any (is_late now) (lines_on n lines) ≡ false → AllLeaveIt n passing.expire_exchange now lines
all_in_time n now [] none = tt
all_in_time n now (l ∷ lines) none = by_test (l.number == n) refl none (all_in_time n now lines)
  where
    neither : (a b : Bool) → (a || b) ≡ false → (a ≡ false) × (b ≡ false)
    neither true b e = absurd (cc)
    neither false b e = (refl, e)

    by_due : (hub : Hub) → hub.moment ≡ now → (x : Exchange) → is_late now l ≡ false → l.exchange ≡ Some x → passing.expire_exchange l.number x hub ≡ (x, hub)
    by_due hub at x late there =
        let due : is_due now x ≡ false = subst (λ (o : Option Exchange). is_late now (record l { exchange = o }) ≡ false) there late in
        by_bool (λ (q : Exchange × Hub). q ≡ (x, hub)) (is_due hub.moment x) _ (x, hub)
        (λ d. not_both (is_due hub.moment x) d (ap (λ (m : ℕ). is_due m x) at ∙ due)) (λ d. refl)

    by_test : (b : Bool) → (l.number == n) ≡ b → list_any (is_late now) (cond (l.number == n) (l ∷ lines_on n lines) (lines_on n lines)) ≡ false
        → (list_any (is_late now) (lines_on n lines) ≡ false → AllLeaveIt n passing.expire_exchange now lines) → AllLeaveIt n passing.expire_exchange now (l ∷ lines)
    by_test true is none_ others =
        let p = neither (is_late now l) (list_any (is_late now) (lines_on n lines)) (sym (ap (λ (c : Bool). list_any (is_late now) (cond c (l ∷ lines_on n lines) (lines_on n lines))) is) ∙ none_) in
        ((λ hub at x e there. by_due hub at x p.0 there), others p.1)
    by_test false is none_ others = (
      (λ hub at x e there. not_both (l.number == n) e is),
      others (sym (ap (λ (c : Bool). list_any (is_late now) (cond c (l ∷ lines_on n lines) (lines_on n lines))) is) ∙ none_),
    )

-- ---- lines that change by themselves, come and go

pub on_line_aside : (n m : ℕ) (f : Line → Line) (lines : List Line) (hub after : Hub) → Numbered f → (m == n) ≡ false → IsFree n lines
    → seen_on n after.sent ≡ seen_on n hub.sent → after.moment ≡ hub.moment → Aside n lines hub (on_line f m lines) after
on_line_aside n m f lines hub after numbered other free sends moment = by_seek (seeks (is_n m) lines)
  where
    by_seek : Seeks (is_n m) lines → Aside n lines hub (on_line f m lines) after
    by_seek (missing at none) =
        subst (λ (ls : List Line). Aside n lines hub ls after) (sym (ap (line_at_place f lines) at)) (record { found = refl; free = free; sent = sends; moment = moment })
    by_seek (first k l at there passes found) =
        let away : (l.number == n) ≡ false = ap (λ (a : ℕ). a == n) (equal_by l.number m passes) ∙ other in
        subst (λ (ls : List Line). Aside n lines hub ls after) (sym (ap (line_at_place f lines) at ∙ ap (line_at f lines k) there))
        (set_aside n lines k l (f l) hub after there free (record { number = numbered l; same = λ e. not_both (l.number == n) e away; sent = sends; moment = moment }))

pub drops_aside : (n m : ℕ) (lines : List Line) (hub after : Hub) → (m == n) ≡ false → IsFree n lines
    → seen_on n after.sent ≡ seen_on n hub.sent → after.moment ≡ hub.moment → Aside n lines hub (without_place lines (place_in m lines)) after
drops_aside n m lines hub after other free sends moment = by_seek (seeks (is_n m) lines)
  where
    by_seek : Seeks (is_n m) lines → Aside n lines hub (without_place lines (place_in m lines)) after
    by_seek (missing at none) =
        subst (λ (o : Option ℕ). Aside n lines hub (without_place lines o) after) (sym at) (record { found = refl; free = free; sent = sends; moment = moment })
    by_seek (first k l at there passes found) =
        subst (λ (o : Option ℕ). Aside n lines hub (without_place lines o) after) (sym at)
        (record {
          found = remove_beside (is_n n) lines k l there (ap (λ (a : ℕ). a == n) (equal_by l.number m passes) ∙ other);
          free = free_remove n lines k free;
          sent = sends;
          moment = moment;
        })

pub inserts_aside : (n k : ℕ) (m : Line) (lines : List Line) (hub : Hub) → (m.number == n) ≡ false → IsFree n lines → Aside n lines hub (insert lines k m) hub
inserts_aside n k m lines hub other free = record {
  found = insert_beside (is_n n) lines k m other;
  free = free_insert n lines k m free (λ e. absurd (other_by m.number n other e));
  sent = refl;
  moment = refl;
}
