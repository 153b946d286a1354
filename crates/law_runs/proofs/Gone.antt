-- The end of an exchange whose client is gone comes next.
use Rattle.std.proofs.Common.{◌≡◌, ℕ, zero, suc, ◌+◌, Bool, not, ◌&&◌, ◌||◌, arith, true, false, cond, List, [], ◌∷◌, length, refl, ap, ◌∙◌, sym, one-add}
use Rattle.std.proofs.lemmas.Bool.{false≢true, true≢false, lt-ltb}
use Rattle.std.proofs.lemmas.Option.{none-some}
use Rattle.std.specs.List.{position_or_len}
use Rattle.std.specs.Prelude.{Option, None, Some, is_some, option_map, slice_get, slice_set, position, nat_lt, if◌then◌else◌}
use Prim.Native.Nat.compare
use Rattle.contexts.proofs.Places.{from_some}
use Rattle.filter_host.specs.Course.{ends}
use Rattle.exchange.specs.declared.types.Exchange.{Exchange}
use Rattle.filter_chain.specs.Chains.{ready}
use Rattle.gate_io.specs.declared.event.Side.TheVariants.{Down}
use Rattle.gate_io.specs.declared.event.What.TheVariants as whats
use Rattle.worker_model.specs.Rooms.{exchange_moves, exchange_ends, has_move, is_over, moves_or, frees_or, ends_or, begins_or_rests, is_any, is_released, next_of, place_in}
use Rattle.worker_model.specs.Steps.{both, change_exchange, in_place, line_at, line_at_place, line_without_client, exchange_without_client, drop_line, on_lines, lose_client, take_event, begin_first_job, step}
use Rattle.worker_model.specs.Room.{Room}
use Rattle.worker_model.specs.declared.types.Job.{Job}
use Rattle.worker_model.specs.declared.types.Job.TheVariants as jobs
use Rattle.worker_model.specs.declared.types.Line.{Line}
use Rattle.worker_model.specs.declared.types.Next.{Next}
use Rattle.worker_model.specs.declared.types.Next.TheVariants as next
use Rattle.law_runs.specs.Gone.{told_gone, behind_gone, GoneEndNext, one_line, with_one, GoneExamples}
use Rattle.law_runs.proofs.Runs.{then_true}

-- ---- what is next

abbrev chosen : Bool → Option ℕ → Bool → Option ℕ → Option ℕ → List Job → Next
chosen b p j f e a = if b then next.Read else moves_or p (if j then next.Work else frees_or f (ends_or e (begins_or_rests a)))

parts : (b : Bool) (p : Option ℕ) (j : Bool) (f e : Option ℕ) (a : List Job) → chosen b p j f e a ≡ next.Begin → (b ≡ false) × (p ≡ None) × (f ≡ None) × (e ≡ None)
parts true p j f e a is = absurd (cc)
parts false (Some k) j f e a is = absurd (cc)
parts false None true f e a is = absurd (cc)
parts false None false (Some k) e a is = absurd (cc)
parts false None false None (Some k) a is = absurd (cc)
parts false None false None None a is = (refl, refl, refl, refl)

works_next : (b : Bool) (p f e : Option ℕ) (a : List Job) → b ≡ false → p ≡ None → chosen b p true f e a ≡ next.Work
works_next true p f e a is none = absurd (true≢false is)
works_next false (Some k) f e a is none = absurd (none-some k (sym none))
works_next false None f e a is none = refl

ends_next : (b : Bool) (p f e : Option ℕ) (a : List Job) (k : ℕ) → b ≡ false → p ≡ None → f ≡ None → e ≡ Some k → chosen b p false f e a ≡ next.End k
ends_next true p f e a k is none free end = absurd (true≢false is)
ends_next false (Some n) f e a k is none free end = absurd (none-some n (sym none))
ends_next false None (Some n) e a k is none free end = absurd (none-some n (sym free))
ends_next false None None None a k is none free end = absurd (none-some k end)
ends_next false None None (Some n) a k is none free end = ap next.End (from_some end)

-- ---- the first place

pos_if : (b : Bool) (k m : ℕ) → cond (nat_lt (cond (not b) (1 + k) 0) (suc m)) (Some (cond (not b) (1 + k) 0)) None ≡ cond b (Some 0) (option_map (λ (n : ℕ). suc n) (cond (nat_lt k m) (Some k) None))
pos_if true k m = ap (λ b. cond b (Some 0) None) (lt-ltb 0 (suc m) (omega arith))
pos_if false k m = rw (one-add, compare.suc-suc) (by_lt (nat_lt k m))
  where
    by_lt : (c : Bool) → cond c (Some (suc k)) None ≡ option_map (λ (n : ℕ). suc n) (cond c (Some k) None)
    by_lt true = refl
    by_lt false = refl

position_cons : (p : Line → Bool) (x : Line) (xs : List Line) → position p (x ∷ xs) ≡ cond (p x) (Some 0) (option_map (λ (n : ℕ). suc n) (position p xs))
position_cons p x xs = pos_if (p x) (position_or_len p xs) (length xs)

none_parts : (b : Bool) (o : Option ℕ) → cond b (Some 0) (option_map (λ (n : ℕ). suc n) o) ≡ None → (b ≡ false) × (o ≡ None)
none_parts true o is = absurd (none-some 0 (sym is))
none_parts false None is = (refl, refl)
none_parts false (Some n) is = absurd (none-some (suc n) (sym is))

here_none : (b : Bool) (o : Option ℕ) → b ≡ false → o ≡ None → cond b (Some 0) (option_map (λ (n : ℕ). suc n) o) ≡ None
here_none true o is none = absurd (true≢false is)
here_none false o is none = ap (option_map (λ (n : ℕ). suc n)) none

here_first : (b : Bool) (o : Option ℕ) → b ≡ true → cond b (Some 0) o ≡ Some 0
here_first true o is = refl
here_first false o is = absurd (false≢true is)

here_later : (b : Bool) (o : Option ℕ) (k : ℕ) → b ≡ false → o ≡ Some k → cond b (Some 0) (option_map (λ (n : ℕ). suc n) o) ≡ Some (suc k)
here_later true o k is later = absurd (true≢false is)
here_later false o k is later = ap (option_map (λ (n : ℕ). suc n)) later

set_none : (p : Line → Bool) (xs : List Line) (k : ℕ) (l m : Line) → slice_get xs k ≡ Some m → position p xs ≡ None → p l ≡ false → position p (slice_set xs k l) ≡ None
set_none p [] k l m at none is = absurd (none-some m at)
set_none p (x ∷ xs) zero l m at none is =
    (let two = none_parts (p x) (position p xs) (sym (position_cons p x xs) ∙ none) in position_cons p l xs ∙ here_none (p l) (position p xs) is two.1)
set_none p (x ∷ xs) (suc k) l m at none is =
    (let two = none_parts (p x) (position p xs) (sym (position_cons p x xs) ∙ none) in
    position_cons p x (slice_set xs k l) ∙ here_none (p x) (position p (slice_set xs k l)) two.0 (set_none p xs k l m at two.1 is))

set_first : (p : Line → Bool) (xs : List Line) (k : ℕ) (l m : Line) → slice_get xs k ≡ Some m → position p xs ≡ None → p l ≡ true → position p (slice_set xs k l) ≡ Some k
set_first p [] k l m at none is = absurd (none-some m at)
set_first p (x ∷ xs) zero l m at none is = position_cons p l xs ∙ here_first (p l) (option_map (λ (n : ℕ). suc n) (position p xs)) is
set_first p (x ∷ xs) (suc k) l m at none is =
    (let two = none_parts (p x) (position p xs) (sym (position_cons p x xs) ∙ none) in
    position_cons p x (slice_set xs k l) ∙ here_later (p x) (position p (slice_set xs k l)) k two.0 (set_first p xs k l m at two.1 is))

-- ---- the line

rests_lost : (line : Line) (x : Exchange) → line.exchange ≡ Some x → has_move (line_without_client line) ≡ false
rests_lost line x is = ap (λ (o : Option Exchange). exchange_moves (change_exchange exchange_without_client line o).exchange) is

over_lost : (line : Line) (x : Exchange) → line.exchange ≡ Some x → is_over (line_without_client line) ≡ true
over_lost line x is = ap (λ (o : Option Exchange). exchange_ends (change_exchange exchange_without_client line o).exchange) is

abbrev with_lost : Room → ℕ → Line → Room
with_lost room k line = record room { lines = slice_set room.lines k (line_without_client line) }

gone_is : (room : Room) (number k : ℕ) (line : Line) (x : Exchange) → place_in number room.lines ≡ Some k → slice_get room.lines k ≡ Some line → line.exchange ≡ Some x
    → take_event (whats.Gone number Down) room ≡ with_lost room k line
gone_is room number k line x found at is =
    ap (λ (o : Option Line). lose_client number o room) (ap (in_place room.lines) found ∙ at)
    ∙ (then_true (is_some line.exchange) (on_lines line_without_client number room) (drop_line number room) (ap (λ (o : Option Exchange). is_some o) is)
    ∙ ap (λ (ls : List Line). record room { lines = ls }) (ap (line_at_place line_without_client room.lines) found ∙ ap (line_at line_without_client room.lines k) at))

-- ---- the law

abbrev told : Room → Job → List Job → Room
told room job later = record room { jobs = job ∷ []; agenda = later }

abbrev behind : Room → List Job → Room
behind room later = record room { jobs = []; agenda = later }

pub gone_end_next : {H : Type 0} → GoneEndNext H
gone_end_next {H} calling plan host room number k later line x next_is agenda found at is =
    let job : Job = jobs.Happen (whats.Gone number Down) in
    let has = parts (is_some room.reading) (position has_move room.lines) (is_any room.jobs) (position (is_released room) room.waits) (position is_over room.lines) room.agenda next_is in
    let told_is : told_gone room ≡ told room job later = ap (λ (a : List Job). begin_first_job a room) agenda in
    let gone : behind_gone number room ≡ with_lost (behind room later) k line
    = ap (λ (r : Room). take_event (whats.Gone number Down) (record r { jobs = [] })) told_is ∙ gone_is (behind room later) number k line x found at is in
    record {
      works = ap next_of told_is ∙ works_next (is_some room.reading) (position has_move room.lines) None None later has.0 has.1;
      calls_nothing = ap (λ (r : Room). step calling plan next.Work host r) told_is
          ∙ ap (λ (r : Room). ends (both host (take_event (whats.Gone number Down) (record r { jobs = [] })))) (sym told_is);
      end = ap next_of gone
          ∙ ends_next (is_some room.reading) (position has_move (slice_set room.lines k (line_without_client line))) (position (is_released room) room.waits) (position is_over (slice_set room.lines k (line_without_client line))) later k
          has.0 (set_none has_move room.lines k (line_without_client line) line at has.1 (rests_lost line x is)) has.2 (set_first is_over room.lines k (line_without_client line) line at has.3 (over_lost line x is));
    }

-- ---- worked

at_rest : (x : Exchange) → x.has_ended ≡ false → x.request ≡ [] → x.response ≡ [] → exchange_moves (Some x) ≡ false
at_rest x ended up down = λ i. not (ended i) && (nat_lt 0 (ready (up i)) || nat_lt 0 (ready (down i)))

one_none : (p : Line → Bool) (l : Line) → p l ≡ false → position p (l ∷ []) ≡ None
one_none p l is = position_cons p l [] ∙ here_none (p l) (position p []) is refl

pub gone_examples : GoneExamples
gone_examples x ended up down =
    let l : Line = one_line x in
    ap (λ (o : Option ℕ). chosen false o false None (position is_over (l ∷ [])) (with_one x).agenda) (one_none has_move l (at_rest x ended up down))
    ∙ ap (λ (o : Option ℕ). chosen false None false None o (with_one x).agenda) (one_none is_over l ended)
