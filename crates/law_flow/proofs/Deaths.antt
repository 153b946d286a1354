-- What is done on all lines at once.
use Rattle.std.proofs.Common.{◌≡◌, ℕ, zero, suc, ◌+◌, ◌==◌, Bool, true, false, not, List, [], ◌∷◌, ◌++◌, length, cond, ap, ◌∙◌, sym, refl, subst}
use Rattle.std.specs.List.{position_or_len}
use Rattle.std.proofs.lemmas.List.{append_assoc, append-nil}
use Rattle.std.specs.Prelude.{Option, None, Some, slice_get, nat_lt, if◌then◌else◌}
use Rattle.exchange.specs.declared.types.Exchange.{Exchange}
use Rattle.exchange.specs.declared.types.Hub.{Hub}
use Rattle.exchange.specs.Answering.{answer_directly}
use Rattle.exchange.specs.Passing.{chain_of, lose_vm, fails_closed, bypass, bypass_vm_at, bypass_vm_stages, bypass_vm}
use Rattle.filter_chain.specs.declared.stage.Stage.{Stage}
use Rattle.gate_base.specs.declared.level.Level.TheVariants.{Critical}
use Rattle.gate_io.specs.declared.event.Sent.{Sent}
use Rattle.gate_io.specs.declared.event.Sent.TheVariants.{Log}
use Rattle.worker_model.specs.Room.{Room}
use Rattle.worker_model.specs.declared.types.Line.{Line}
use Rattle.worker_model.specs.Rooms.{with_marks, with_result, in_exchange, in_line, all_lines, with_lines, room_with_sent, death_text}
use Rattle.contexts.specs.Reached.{vm_in}
use Rattle.law_body.specs.Apart.{AreAliens, IsAlien, PassesBy, Does, PassesAliens}
use Rattle.law_flow.specs.Besides.{OthersAreAlien, IsWhole}
use Rattle.law_flow.specs.Deaths.{NoneOf, AllLinesLeave, IsReached, DeathsReach, at_rest, MayDie, death_deeds, DeathsGoOn}
use Rattle.law_flow.specs.Rooms.{IsOn, running_of, Leaves}
use Rattle.law_chain.specs.Acts.{AreThere}
use Rattle.law_chain.specs.Sound.{IsSound}
use Rattle.law_chain.proofs.Alike.{there_same}
use Rattle.law_body.specs.Deaths.{IsDeath}
use Rattle.law_body.specs.Deeds.{Deed, turns, Running, standing_of, AreDeeds, done_all}
use Rattle.law_body.proofs.Deaths.{deaths_are_deeds, same_back, hold_same, Left, left_of_request, left_of_response}
use Rattle.law_flow.proofs.Rooms.{deeds_more, done_more, came_more, deeds_keep}
use Rattle.law_body.proofs.Apart.{Holds, same, next, by_vms, exchanges_pass_by}
use Rattle.law_flow.proofs.Lines.{marking_vms}

-- ---- one line

one_number : (does : Does) (line : Line) (hub : Hub) → (in_line does line hub).0.number ≡ line.number
one_number does line hub = by_exchange line.exchange
  where
    by_exchange : (o : Option Exchange) → (in_exchange does line o hub).0.number ≡ line.number
    by_exchange None = refl
    by_exchange (Some y) = refl

one_holds : (does : Does) → PassesAliens does → (ss : List Stage) (line : Line) (hub : Hub) → ((y : Exchange) → line.exchange ≡ Some y → IsAlien ss y)
    → Holds ss hub.contexts (in_line does line hub).1.contexts
one_holds does passes ss line hub alien = by_exchange line.exchange refl
  where
    by_exchange : (o : Option Exchange) → line.exchange ≡ o → Holds ss hub.contexts (in_exchange does line o hub).1.contexts
    by_exchange None is = same ss hub.contexts
    by_exchange (Some y) is =
        let r : Exchange × Hub = does line.number y hub in
        let by : PassesBy ss hub r.0 r.1 = passes ss line.number y hub (alien y is) in
        next ss hub.contexts r.1.contexts (with_marks r).1.contexts (record { holds = by.holds; there = by.there }) (by_vms ss r.1.contexts (with_marks r).1.contexts (marking_vms r))

-- no stage is one of none
none_alien : (ts : List Stage) → AreAliens [] ts
none_alien [] = tt
none_alien (t ∷ ts) = (tt, none_alien ts)

-- the moment is the same, and what was sent stays in front
record Later (b c : Hub) : Type 0 where
  moment : c.moment ≡ b.moment
  sent : (more : List Sent) × (c.sent ≡ b.sent ++ more)

now : (b : Hub) → Later b b
now b = record { moment = refl; sent = ([], sym (append-nil b.sent)) }

and_later : (b c d : Hub) → Later b c → Later c d → Later b d
and_later b c d one two = record {
  moment = two.moment ∙ one.moment;
  sent = (one.sent.0 ++ two.sent.0, two.sent.1 ∙ (ap (λ (l : List Sent). l ++ two.sent.0) one.sent.1 ∙ append_assoc b.sent one.sent.0 two.sent.0));
}

one_later : (does : Does) → PassesAliens does → (line : Line) (hub : Hub) → Later hub (in_line does line hub).1
one_later does passes line hub = by_exchange line.exchange
  where
    by_exchange : (o : Option Exchange) → Later hub (in_exchange does line o hub).1
    by_exchange None = now hub
    by_exchange (Some y) =
        let by : PassesBy [] hub (does line.number y hub).0 (does line.number y hub).1
        = passes [] line.number y hub (record { request = none_alien y.request; response = none_alien y.response }) in
        record { moment = by.moment; sent = by.sent }

all_later : (does : Does) → PassesAliens does → (lines : List Line) (hub : Hub) → Later hub (all_lines does lines hub).1
all_later does passes [] hub = now hub
all_later does passes (line ∷ lines) hub =
    let mid : Hub = (in_line does line hub).1 in
    and_later hub mid (all_lines does lines mid).1 (one_later does passes line hub) (all_later does passes lines mid)

-- the line of an exchange to which nothing is done
own_is : (does : Does) (n : ℕ) (x : Exchange) (line : Line) (hub : Hub) → line.exchange ≡ Some x → line.number ≡ n → does n x hub ≡ (x, hub)
    → in_line does line hub ≡ with_result line (with_marks (x, hub))
own_is does n x line hub is number nothing =
    ap (λ (o : Option Exchange). in_exchange does line o hub) is
    ∙ (ap (λ (m : ℕ). with_result line (with_marks (does m x hub))) number ∙ ap (λ (r : Exchange × Hub). with_result line (with_marks r)) nothing)

own_same : (x : Exchange) (line : Line) (hub : Hub) → line.exchange ≡ Some x → (with_result line (with_marks (x, hub))).0 ≡ line
own_same x line hub is = λ i. record line { exchange = sym is i }

-- ---- all of them

same_places : (does : Does) (n : ℕ) (lines : List Line) (hub : Hub)
    → position_or_len (λ (l : Line). l.number == n) (all_lines does lines hub).0 ≡ position_or_len (λ (l : Line). l.number == n) lines
same_places does n [] hub = refl
same_places does n (line ∷ lines) hub =
    let one : (in_line does line hub).0.number ≡ line.number = one_number does line hub in
    ap (λ (m : ℕ). cond (not (m == n)) (1 + position_or_len (λ (l : Line). l.number == n) (all_lines does lines (in_line does line hub).1).0) 0) one
    ∙ ap (λ (m : ℕ). cond (not (line.number == n)) (1 + m) 0) (same_places does n lines (in_line does line hub).1)

same_many : (does : Does) (lines : List Line) (hub : Hub) → length (all_lines does lines hub).0 ≡ length lines
same_many does [] hub = refl
same_many does (line ∷ lines) hub = ap suc (same_many does lines (in_line does line hub).1)

others_hold : (does : Does) → PassesAliens does → (ss : List Stage) (lines : List Line) (hub : Hub)
    → ((p : ℕ) (line : Line) (y : Exchange) → slice_get lines p ≡ Some line → line.exchange ≡ Some y → IsAlien ss y) → Holds ss hub.contexts (all_lines does lines hub).1.contexts
others_hold does passes ss [] hub alien = same ss hub.contexts
others_hold does passes ss (line ∷ lines) hub alien =
    let mid : Hub = (in_line does line hub).1 in
    next ss hub.contexts mid.contexts (all_lines does lines mid).1.contexts (one_holds does passes ss line hub (λ y is. alien 0 line y refl is))
    (others_hold does passes ss lines mid (λ p l y at is. alien (suc p) l y at is))

own_there : (does : Does) → PassesAliens does → (n : ℕ) (x : Exchange) (lines : List Line) (hub : Hub) (place : ℕ) (line : Line) → slice_get lines place ≡ Some line → line.exchange ≡ Some x
    → line.number ≡ n → (at_moment : ℕ) → hub.moment ≡ at_moment → ((h : Hub) → h.moment ≡ at_moment → does n x h ≡ (x, h)) → slice_get (all_lines does lines hub).0 place ≡ Some line
own_there does passes n x [] hub place line at is number at_moment same_moment nothing = absurd (cc)
own_there does passes n x (l ∷ lines) hub zero line at is number at_moment same_moment nothing =
    let here : l ≡ line = (cc) in
    let has : l.exchange ≡ Some x = ap (λ (k : Line). k.exchange) here ∙ is in
    let no : l.number ≡ n = ap (λ (k : Line). k.number) here ∙ number in
    ap (λ (k : Line). Some k) (ap (λ (r : Line × Hub). r.0) (own_is does n x l hub has no (nothing hub same_moment)) ∙ (own_same x l hub has ∙ here))
own_there does passes n x (l ∷ lines) hub (suc place) line at is number at_moment same_moment nothing =
    own_there does passes n x lines (in_line does l hub).1 place line at is number at_moment ((one_later does passes l hub).moment ∙ same_moment) nothing

own_holds : (does : Does) → PassesAliens does → (ss : List Stage) (n : ℕ) (x : Exchange) (lines : List Line) (hub : Hub) (place : ℕ) (line : Line) → slice_get lines place ≡ Some line
    → line.exchange ≡ Some x → line.number ≡ n → (at_moment : ℕ) → hub.moment ≡ at_moment → ((h : Hub) → h.moment ≡ at_moment → does n x h ≡ (x, h))
    → ((p : ℕ) (l : Line) (y : Exchange) → slice_get lines p ≡ Some l → l.exchange ≡ Some y → (p ≡ place → ⊥) → IsAlien ss y) → Holds ss hub.contexts (all_lines does lines hub).1.contexts
own_holds does passes ss n x [] hub place line at is number at_moment same_moment nothing alien = absurd (cc)
own_holds does passes ss n x (l ∷ lines) hub zero line at is number at_moment same_moment nothing alien =
    let here : l ≡ line = (cc) in
    let has : l.exchange ≡ Some x = ap (λ (k : Line). k.exchange) here ∙ is in
    let no : l.number ≡ n = ap (λ (k : Line). k.number) here ∙ number in
    let mid : Hub = (in_line does l hub).1 in
    let vms : mid.contexts.vms ≡ hub.contexts.vms = ap (λ (r : Line × Hub). r.1.contexts.vms) (own_is does n x l hub has no (nothing hub same_moment)) ∙ marking_vms (x, hub) in
    next ss hub.contexts mid.contexts (all_lines does lines mid).1.contexts (by_vms ss hub.contexts mid.contexts vms)
    (others_hold does passes ss lines mid (λ p k y at_ is_. alien (suc p) k y at_ is_ (λ e. cc e)))
own_holds does passes ss n x (l ∷ lines) hub (suc place) line at is number at_moment same_moment nothing alien =
    let mid : Hub = (in_line does l hub).1 in
    next ss hub.contexts mid.contexts (all_lines does lines mid).1.contexts (one_holds does passes ss l hub (λ y is_. alien 0 l y refl is_ (λ e. cc e)))
    (own_holds does passes ss n x lines mid place line at is number at_moment ((one_later does passes l hub).moment ∙ same_moment) nothing (λ p k y at_ is_ apart. alien (suc p) k y at_ is_ (λ e. apart (cc e))))

all_leave : (does : Does) → PassesAliens does → (response : Bool) (n : ℕ) (x : Exchange) (room : Room) (on : IsOn n room x) → OthersAreAlien (chain_of response x) on.place room
    → IsWhole response x room → ((hub : Hub) → hub.moment ≡ room.hub.moment → does n x hub ≡ (x, hub)) → Leaves response n x room x (with_lines room (all_lines does room.lines room.hub))
all_leave does passes response n x room on alien whole nothing =
    let r : List Line × Hub = all_lines does room.lines room.hub in
    let holds : Holds (chain_of response x) room.hub.contexts r.1.contexts
    = own_holds does passes (chain_of response x) n x room.lines room.hub on.place on.line on.at on.exchange on.number room.hub.moment refl nothing alien in
    let one : position_or_len (λ (l : Line). l.number == n) r.0 ≡ position_or_len (λ (l : Line). l.number == n) room.lines = same_places does n room.lines room.hub in
    let two : length r.0 ≡ length room.lines = same_many does room.lines room.hub in
    record {
      on = record {
        place = on.place;
        line = on.line;
        stands = (λ i. cond (nat_lt (one i) (two i)) (Some (one i)) None) ∙ on.stands;
        at = own_there does passes n x room.lines room.hub on.place on.line on.at on.exchange on.number room.hub.moment refl nothing;
        number = on.number;
        exchange = on.exchange;
      };
      chain = refl;
      holds = holds.holds;
      there = holds.there whole;
    }

-- ---- deaths

by_bool : {A : Type 0} (P : A → Type 0) (b : Bool) (a c : A) → (b ≡ true → P a) → (b ≡ false → P c) → P (if b then a else c)
by_bool P true a c here there = here refl
by_bool P false a c here there = there refl

none_at : (vm : ℕ) (ss : List Stage) (k : ℕ) (s : Stage) → slice_get ss k ≡ Some s → NoneOf vm ss → (s.vm == vm) ≡ false
none_at vm [] k s at none = absurd (cc)
none_at vm (x ∷ xs) zero s at none =
    let here : x ≡ s = (cc) in
    subst (λ (y : Stage). (y.vm == vm) ≡ false) here none.0
none_at vm (x ∷ xs) (suc k) s at none = none_at vm xs k s at none.1

opens_none_at : (response : Bool) (vm n k : ℕ) (x : Exchange) (hub : Hub) → NoneOf vm (chain_of response x) → (o : Option Stage) → slice_get (chain_of response x) k ≡ o
    → bypass_vm_at response vm n k o x hub ≡ (x, hub)
opens_none_at response vm n k x hub none None at = refl
opens_none_at response vm n k x hub none (Some s) at = ap (λ (b : Bool). if b then bypass response n k x hub else (x, hub)) (none_at vm (chain_of response x) k s at none)

opens_none : (response : Bool) (vm n m : ℕ) (x : Exchange) (hub : Hub) → NoneOf vm (chain_of response x) → bypass_vm_stages response vm n m (x, hub) ≡ (x, hub)
opens_none response vm n zero x hub none = refl
opens_none response vm n (suc k) x hub none =
    ap (bypass_vm_stages response vm n k) (opens_none_at response vm n k x hub none (slice_get (chain_of response x) k) refl) ∙ opens_none response vm n k x hub none

dies_none : (vm n : ℕ) (x : Exchange) (hub : Hub) → fails_closed vm x ≡ false → NoneOf vm x.request → NoneOf vm x.response → lose_vm vm n x hub ≡ (x, hub)
dies_none vm n x hub closed request response =
    let all : bypass_vm vm n x hub ≡ (x, hub)
    = ap (λ (r : Exchange × Hub). bypass_vm_stages true vm n (length r.0.response) r) (opens_none false vm n (length x.request) x hub request)
    ∙ opens_none true vm n (length x.response) x hub response in
    by_bool (λ (r : Exchange × Hub). r ≡ (x, hub)) x.has_ended (x, hub) (if fails_closed vm x then answer_directly n 503 [] [] x hub else bypass_vm vm n x hub) (λ e. refl)
    (λ e. ap (λ (b : Bool). if b then answer_directly n 503 [] [] x hub else bypass_vm vm n x hub) closed ∙ all)

pub all_lines_leave : AllLinesLeave
all_lines_leave = record {
  on_all = all_leave;
  dying = λ vm death response n x room on alien whole closed request responses.
      let told : Room = room_with_sent (Log Critical (death_text (vm_in room.hub.contexts vm).name death) ∷ []) room in
      let told_on : IsOn n told x = record { place = on.place; line = on.line; stands = on.stands; at = on.at; number = on.number; exchange = on.exchange } in
      let l : Leaves response n x told x (with_lines told (all_lines (lose_vm vm) told.lines told.hub))
      = all_leave (lose_vm vm) (exchanges_pass_by.dying vm) response n x told told_on alien whole (λ hub same_moment. dies_none vm n x hub closed request responses) in
      record {
        on = record { place = l.on.place; line = l.on.line; stands = l.on.stands; at = l.on.at; number = l.on.number; exchange = l.on.exchange };
        chain = refl;
        holds = l.holds;
        there = l.there;
      };
}

-- ---- what is done reaches each line

-- what all lines have in common when the turn of the line at a place comes
abbrev found_at : Does → ℕ → List Line → Hub → Hub
found_at does zero lines hub = hub
found_at does (suc p) [] hub = hub
found_at does (suc p) (l ∷ lines) hub = found_at does p lines (in_line does l hub).1

reach_there : (does : Does) (lines : List Line) (hub : Hub) (place : ℕ) (line : Line) → slice_get lines place ≡ Some line
    → slice_get (all_lines does lines hub).0 place ≡ Some (in_line does line (found_at does place lines hub)).0
reach_there does [] hub place line at = absurd (cc)
reach_there does (l ∷ lines) hub zero line at =
    let here : l ≡ line = (cc) in
    ap (λ (k : Line). Some (in_line does k hub).0) here
reach_there does (l ∷ lines) hub (suc place) line at = reach_there does lines (in_line does l hub).1 place line at

reach_front : (does : Does) → PassesAliens does → (ss : List Stage) (lines : List Line) (hub : Hub) (place : ℕ)
    → ((p : ℕ) (l : Line) (y : Exchange) → slice_get lines p ≡ Some l → l.exchange ≡ Some y → (p ≡ place → ⊥) → IsAlien ss y) → Holds ss hub.contexts (found_at does place lines hub).contexts
reach_front does passes ss lines hub zero alien = same ss hub.contexts
reach_front does passes ss [] hub (suc place) alien = same ss hub.contexts
reach_front does passes ss (l ∷ lines) hub (suc place) alien =
    let mid : Hub = (in_line does l hub).1 in
    next ss hub.contexts mid.contexts (found_at does place lines mid).contexts (one_holds does passes ss l hub (λ y is. alien 0 l y refl is (λ e. cc e)))
    (reach_front does passes ss lines mid place (λ p k y at is apart. alien (suc p) k y at is (λ e. apart (cc e))))

reach_behind : (does : Does) → PassesAliens does → (ss : List Stage) (lines : List Line) (hub : Hub) (place : ℕ) (line : Line) → slice_get lines place ≡ Some line
    → ((p : ℕ) (l : Line) (y : Exchange) → slice_get lines p ≡ Some l → l.exchange ≡ Some y → (p ≡ place → ⊥) → IsAlien ss y)
    → Holds ss (in_line does line (found_at does place lines hub)).1.contexts (all_lines does lines hub).1.contexts
reach_behind does passes ss [] hub place line at alien = absurd (cc)
reach_behind does passes ss (l ∷ lines) hub zero line at alien =
    let here : l ≡ line = (cc) in
    subst (λ (k : Line). Holds ss (in_line does k hub).1.contexts (all_lines does lines (in_line does l hub).1).1.contexts) here
    (others_hold does passes ss lines (in_line does l hub).1 (λ p k y at_ is. alien (suc p) k y at_ is (λ e. cc e)))
reach_behind does passes ss (l ∷ lines) hub (suc place) line at alien =
    reach_behind does passes ss lines (in_line does l hub).1 place line at (λ p k y at_ is apart. alien (suc p) k y at_ is (λ e. apart (cc e)))

front_later : (does : Does) → PassesAliens does → (lines : List Line) (hub : Hub) (place : ℕ) → Later hub (found_at does place lines hub)
front_later does passes lines hub zero = now hub
front_later does passes [] hub (suc place) = now hub
front_later does passes (l ∷ lines) hub (suc place) =
    let mid : Hub = (in_line does l hub).1 in
    and_later hub mid (found_at does place lines mid) (one_later does passes l hub) (front_later does passes lines mid place)

behind_later : (does : Does) → PassesAliens does → (lines : List Line) (hub : Hub) (place : ℕ) (line : Line) → slice_get lines place ≡ Some line
    → Later (in_line does line (found_at does place lines hub)).1 (all_lines does lines hub).1
behind_later does passes [] hub place line at = absurd (cc)
behind_later does passes (l ∷ lines) hub zero line at =
    let here : l ≡ line = (cc) in
    subst (λ (k : Line). Later (in_line does k hub).1 (all_lines does lines (in_line does l hub).1).1) here (all_later does passes lines (in_line does l hub).1)
behind_later does passes (l ∷ lines) hub (suc place) line at = behind_later does passes lines (in_line does l hub).1 place line at

-- the line of the exchange itself
own_line : (does : Does) (n : ℕ) (x : Exchange) (line : Line) (hub : Hub) → line.exchange ≡ Some x → line.number ≡ n → in_line does line hub ≡ with_result line (with_marks (does n x hub))
own_line does n x line hub is number = ap (λ (o : Option Exchange). in_exchange does line o hub) is ∙ ap (λ (m : ℕ). with_result line (with_marks (does m x hub))) number

all_reach : (does : Does) → PassesAliens does → (response : Bool) (n : ℕ) (x : Exchange) (room : Room) (on : IsOn n room x) → OthersAreAlien (chain_of response x) on.place room
    → IsWhole response x room → IsReached does response n x room (with_lines room (all_lines does room.lines room.hub))
all_reach does passes response n x room on alien whole =
    let ss : List Stage = chain_of response x in
    let all : List Line × Hub = all_lines does room.lines room.hub in
    let found : Hub = found_at does on.place room.lines room.hub in
    let r : Exchange × Hub = does n x found in
    let front : Holds ss room.hub.contexts found.contexts = reach_front does passes ss room.lines room.hub on.place alien in
    let own : in_line does on.line found ≡ with_result on.line (with_marks r) = own_line does n x on.line found on.exchange on.number in
    let later : Holds ss (with_result on.line (with_marks r)).1.contexts all.1.contexts
    = subst (λ (k : Line × Hub). Holds ss k.1.contexts all.1.contexts) own (reach_behind does passes ss room.lines room.hub on.place on.line on.at alien) in
    let marked : Holds ss r.1.contexts (with_marks r).1.contexts = by_vms ss r.1.contexts (with_marks r).1.contexts (marking_vms r) in
    let one : position_or_len (λ (l : Line). l.number == n) all.0 ≡ position_or_len (λ (l : Line). l.number == n) room.lines = same_places does n room.lines room.hub in
    let two : length all.0 ≡ length room.lines = same_many does room.lines room.hub in
    let soon : Later room.hub found = front_later does passes room.lines room.hub on.place in
    let more : Later (with_result on.line (with_marks r)).1 all.1
    = subst (λ (k : Line × Hub). Later k.1 all.1) own (behind_later does passes room.lines room.hub on.place on.line on.at) in
    record {
      found = found;
      holds = front.holds;
      there = front.there whole;
      moment = soon.moment;
      before = soon.sent;
      sent = more.sent;
      on = record {
        place = on.place;
        line = (with_result on.line (with_marks r)).0;
        stands = (λ i. cond (nat_lt (one i) (two i)) (Some (one i)) None) ∙ on.stands;
        at = reach_there does room.lines room.hub on.place on.line on.at ∙ ap (λ (k : Line × Hub). Some k.0) own;
        number = on.number;
        exchange = refl;
      };
      behind = (next ss r.1.contexts (with_marks r).1.contexts all.1.contexts marked later).holds;
      stays = (next ss r.1.contexts (with_marks r).1.contexts all.1.contexts marked later).there;
    }

pub deaths_reach : DeathsReach
deaths_reach = record {
  on_all = all_reach;
  dying = λ vm death response n x room on alien whole.
      let said : List Sent = Log Critical (death_text (vm_in room.hub.contexts vm).name death) ∷ [] in
      let told : Room = room_with_sent said room in
      let told_on : IsOn n told x = record { place = on.place; line = on.line; stands = on.stands; at = on.at; number = on.number; exchange = on.exchange } in
      let l : IsReached (lose_vm vm) response n x told (with_lines told (all_lines (lose_vm vm) told.lines told.hub))
      = all_reach (lose_vm vm) (exchanges_pass_by.dying vm) response n x told told_on alien whole in
      record {
        found = l.found;
        holds = l.holds;
        there = l.there;
        moment = l.moment;
        before = (said ++ l.before.0, l.before.1 ∙ append_assoc room.hub.sent said l.before.0);
        sent = l.sent;
        on = record { place = l.on.place; line = l.on.line; stands = l.on.stands; at = l.on.at; number = l.on.number; exchange = l.on.exchange };
        behind = l.behind;
        stays = l.stays;
      };
}

-- ---- as deeds of a worker

death_law : (response : Bool) (n count vm : ℕ) (x : Exchange) (hub : Hub) → x.has_ended ≡ false → fails_closed vm x ≡ false → MayDie response n count vm x hub
    → IsDeath response n count vm (death_deeds response n vm x hub) (at_rest x hub)
death_law false n count vm x hub runs fair may = deaths_are_deeds.request n count vm (at_rest x hub) runs fair may.0 may.1 may.2 may.3 may.4
death_law true n count vm x hub runs fair may = deaths_are_deeds.response n count vm (at_rest x hub) runs fair may.0 may.1 may.2 may.3 may.4

death_left : (response : Bool) (n count vm : ℕ) (x : Exchange) (hub : Hub) → x.has_ended ≡ false → fails_closed vm x ≡ false → MayDie response n count vm x hub
    → Left response n vm (death_deeds response n vm x hub) (at_rest x hub)
death_left false n count vm x hub runs fair may = left_of_request n vm (at_rest x hub) refl runs fair may.1 may.2 may.3
death_left true n count vm x hub runs fair may = left_of_response n vm (at_rest x hub) refl runs fair may.1 may.2 may.3

pub deaths_go_on : DeathsGoOn
deaths_go_on response n count vm x room after r sound runs fair may =
    let w : Running = running_of None x room in
    let deeds : List Deed = death_deeds response n vm x r.found in
    let law : IsDeath response n count vm deeds (at_rest x r.found) = death_law response n count vm x r.found runs fair may in
    let side : Left response n vm deeds (at_rest x r.found) = death_left response n count vm x r.found runs fair may in
    let end : Exchange × Hub = lose_vm vm n x r.found in
    let mid : Running = done_all response n deeds (at_rest x r.found) in
    let is : mid ≡ at_rest end.0 end.1 = λ i. record { due = side.due i; exchange = (law.comes i).0; hub = (law.comes i).1 } in
    let first : AreDeeds response n count (turns x r.found ∷ deeds) w = (record { runs = tt; acts = ((r.holds, r.there), tt); chain = refl }, law.are) in
    let sound_mid : IsSound count (standing_of response (at_rest end.0 end.1))
    = subst (λ (u : Running). IsSound count (standing_of response u)) is (deeds_keep response n count (turns x r.found ∷ deeds) w first sound) in
    let ss : List Stage = chain_of response x in
    let ts : List Stage = chain_of response end.0 in
    let there : AreThere after.hub.contexts ts
    = there_same after.hub.contexts ss ts side.same (r.stays (there_same end.1.contexts ts ss (same_back ss ts side.same) sound_mid.there)) in
    let last : AreDeeds response n count (turns end.0 after.hub ∷ []) mid
    = subst (AreDeeds response n count (turns end.0 after.hub ∷ [])) (sym is)
    (record { runs = tt; acts = ((hold_same end.1.contexts after.hub.contexts ss ts side.same r.behind, there), tt); chain = refl }, tt) in
    let are : AreDeeds response n count (turns x r.found ∷ deeds ++ turns end.0 after.hub ∷ []) w
    = deeds_more response n count (turns x r.found ∷ deeds) (turns end.0 after.hub ∷ []) w first last in
    let ends_so : done_all response n (turns x r.found ∷ deeds ++ turns end.0 after.hub ∷ []) w ≡ running_of None end.0 after
    = done_more response n (turns x r.found ∷ deeds) (turns end.0 after.hub ∷ []) w ∙ ap (done_all response n (turns end.0 after.hub ∷ [])) is in
    record {
      are = are;
      none_came = came_more deeds (turns end.0 after.hub ∷ []) ∙ (λ i. law.none_came i ++ []);
      last = ends_so;
      sound =
          subst (λ (u : Running). IsSound count (standing_of response u)) ends_so
          (deeds_keep response n count (turns x r.found ∷ deeds ++ turns end.0 after.hub ∷ []) w are sound);
    }
