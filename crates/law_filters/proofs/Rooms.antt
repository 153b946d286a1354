-- What stays true of a room, whatever callbacks do to it.
use Rattle.std.proofs.Common.{◌≡◌, refl, ℕ, zero, suc, Bool, true, false, List, [], ◌∷◌, ◌++◌, length, ◌∙◌, sym, subst, ap}
use Rattle.std.specs.Prelude.{map, Option, None, Some, slice_get, slice_set}
use Rattle.callouts.specs.Callouts.{line_of, begun}
use Rattle.callouts.specs.Requests.{request_wire}
use Rattle.callouts.specs.declared.types.Callout.{Callout}
use Rattle.contexts.specs.Reached.{vm_in}
use Rattle.contexts.specs.declared.parts.Contexts.{Contexts}
use Rattle.contexts.specs.declared.parts.Effect.{Effect}
use Rattle.contexts.specs.declared.parts.EffectKind.{EffectKind}
use Rattle.contexts.specs.declared.parts.EffectKind.TheVariants as what
use Rattle.contexts.specs.declared.parts.Request.{Request}
use Rattle.filter_host.specs.declared.host.CallbackEnd.{CallbackEnd}
use Rattle.filter_host.specs.declared.host.CallbackEnd.TheVariants as call_ends
use Rattle.filter_host.specs.declared.host.Death.{Death}
use Rattle.exchange.specs.declared.types.Exchange.{Exchange}
use Rattle.exchange.specs.declared.types.Hub.{Hub}
use Rattle.exchange.specs.Answering.{answer}
use Rattle.exchange.specs.Leaving.{hub_with_sent}
use Rattle.exchange.specs.Passing as passing
use Rattle.filter_chain.specs.declared.item.ChainItem.{ChainItem}
use Rattle.gate_base.specs.declared.level.Level.TheVariants.{Critical}
use Rattle.gate_io.specs.declared.event.Sent.{Sent}
use Rattle.gate_io.specs.declared.event.Sent.TheVariants as to
use Rattle.gate_io.specs.declared.event.Side.TheVariants.{Up}
use Rattle.h1_model.specs.Fields.{Pair}
use Rattle.law_lines.specs.Logs.{AreLogs}
use Rattle.law_vms.specs.OwnChanges.{ChangesItsOwn}
use Rattle.worker_model.specs.Changes.{apply_change}
use Rattle.worker_model.specs.Moves.{asks_at}
use Rattle.worker_model.specs.Room.{Room}
use Rattle.worker_model.specs.Rooms.{Changes, with_marks, in_exchange, in_line, at_some, at_place, all_lines, with_lines, place_in, place_of, on_number, on_context, with_contexts, room_with_sent, count_calls, next_call, begin_call, is_own, apply_effect, effects_of, without_effects, lose_vm_in, death_text, after_callback, take_callback_end}
use Rattle.worker_model.specs.declared.types.Asked.{Asked}
use Rattle.worker_model.specs.declared.types.Change.TheVariants as changes
use Rattle.worker_model.specs.declared.types.Job.{Job}
use Rattle.worker_model.specs.declared.types.Line.{Line}
use Rattle.worker_model.specs.declared.types.Owner.{Owner}
use Rattle.law_filters.proofs.Doing.{NoConnects, IsAside, IsShut, IsClosed, IsMoved, Keeping, InBoth, marked_keeps, responses_keep, resumes_keep, closes_keep, acts_keep, dies_keep, refuses_keep, expires_keep, answer_keeps}
use Rattle.law_filters.proofs.Same.{pick, SameIds, same_own, same_calls}

-- what callbacks, and the jobs that follow from them, do to an exchange
pub data Op : Changes → Type 0 where
  op_resumes : (vm context : ℕ) (response : Bool) → Op (passing.resume_context vm context response)
  op_closes : Op passing.close_exchange
  op_answers : (status : ℕ) (fields : List Pair) (body : List ℕ) → Op (λ n. answer n false status fields body)
  op_acts : (response : Bool) (k value : ℕ) → Op (passing.apply_action response k value)
  op_refuses : (status : ℕ) → Op (passing.refuse_exchange status)
  op_expires : Op passing.expire_exchange
  op_responds : (items : List ChainItem) → Op (passing.put_read_items true items)

-- WHAT STAYS SO of a room by what a callback does
pub record IsCalm (P : Room → Type 0) : Type 0 where
  pub number : (change : Changes) (n : ℕ) (room : Room) → Op change → P room → P (on_number change n room)
  pub context : (change : Changes) (vm context : ℕ) (room : Room) → Op change → P room → P (on_context change vm context room)
  pub all : (change : Changes) (room : Room) → Op change → P room → P (with_lines room (all_lines change room.lines room.hub))
  pub dies : (vm : ℕ) (death : Death) (room : Room) → P room → P (lose_vm_in vm death room)
  pub hub : (room : Room) (h : Contexts) → SameIds room.hub.contexts h → P room → P (with_contexts h room)
  pub sent : (room : Room) (more : List Sent) → NoConnects more → P room → P (room_with_sent more room)
  -- a callout begins, and these are under way
  pub begins : (q : Request) (room : Room) → P room → P (begin_call q room)
  pub under_way : (calls : List Callout) (room : Room) → P room → P (record room { calls = calls })

pub logs_connect_none : (sent : List Sent) → AreLogs sent → NoConnects sent
logs_connect_none [] are = tt
logs_connect_none (to.Connect line ∷ sent) are = absurd are.0
logs_connect_none (to.Bytes line side bytes ∷ sent) are = absurd are.0
logs_connect_none (to.Close line side ∷ sent) are = absurd are.0
logs_connect_none (to.Log level text ∷ sent) are = logs_connect_none sent are.1

module _ (P : Room → Type 0) (calm : IsCalm P) where
  to_effect : (vm : ℕ) (own : Owner) (context : ℕ) (w : EffectKind) (room : Room) → P room → P (apply_effect vm own context w room)
  to_effect vm own context (what.Continue response) room s =
      pick P (is_own own context response) room (on_context (passing.resume_context vm context response) vm context room) s
      (calm.context (passing.resume_context vm context response) vm context room (op_resumes vm context response) s)
  to_effect vm own context (what.Call request) room s = calm.begins request room s
  to_effect vm own context what.Close room s = calm.context passing.close_exchange vm context room op_closes s
  to_effect vm own context (what.Answer status fields body) room s =
      calm.context (apply_change (changes.Answer status fields body)) vm context room (op_answers status fields.pairs body) s

  to_effects : (vm : ℕ) (own : Owner) (es : List Effect) (room : Room) → P room → P (effects_of vm own es room)
  to_effects vm own [] room s = s
  to_effects vm own (e ∷ es) room s = to_effects vm own es (apply_effect vm own e.context e.what room) (to_effect vm own e.context e.what room s)

  to_after : (vm : ℕ) (own : Owner) (end : CallbackEnd) (es : List Effect) (room : Room) → P room → P (after_callback vm own end es room)
  to_after vm own (call_ends.Returned value) es room s = to_effects vm own es room s
  to_after vm own (call_ends.Died death) es room s = calm.dies vm death room s

  pub to_called : (vm : ℕ) (own : Owner) (end : CallbackEnd) (lines : List Sent) (h : Contexts) (room : Room) → AreLogs lines → ChangesItsOwn vm room.hub.contexts h → P room → P (take_callback_end vm own end lines h room)
  to_called vm own end lines h room logs changes s =
      let one : Room = with_contexts h room in
      let two : Room = room_with_sent lines one in
      to_after vm own end h.effects (without_effects two)
      (calm.hub two (record h { effects = [] }) (record { outlined = λ w. refl; last = λ w. refl; count = refl; plugins = refl })
      (calm.sent one lines (logs_connect_none lines logs) (calm.hub room h (same_own vm room.hub.contexts h changes) s)))

-- ---- with a job in hand

abbrev pub holding : Job → Room → Room
holding job room = record room { jobs = job ∷ room.jobs }

held_lines : (job : Job) (room : Room) (r : List Line × Hub) → with_lines (holding job room) r ≡ holding job (with_lines room r)
held_lines job room (lines, hub) = refl

pub held_calm : (P : Room → Type 0) → IsCalm P → (job : Job) → IsCalm (λ room. P (holding job room))
held_calm P calm job = record {
  number = λ change n room op s. subst P (held_lines job room (at_place change room.lines (place_in n room.lines) room.hub)) (calm.number change n (holding job room) op s);
  context = λ change vm context room op s. subst P (held_lines job room (at_place change room.lines (place_of vm context room.lines) room.hub)) (calm.context change vm context (holding job room) op s);
  all = λ change room op s. subst P (held_lines job room (all_lines change room.lines room.hub)) (calm.all change (holding job room) op s);
  dies = λ vm death room s.
      (let told : Room = room_with_sent (to.Log Critical (death_text (vm_in room.hub.contexts vm).name death) ∷ []) room in
      subst P (held_lines job (record told { dead = room.dead ++ vm ∷ [] }) (all_lines (passing.lose_vm vm) room.lines told.hub)) (calm.dies vm death (holding job room) s));
  hub = λ room h same s. calm.hub (holding job room) h same s;
  sent = λ room more none s. calm.sent (holding job room) more none s;
  begins = λ q room s. calm.begins q (holding job room) s;
  under_way = λ calls room s. calm.under_way calls (holding job room) s;
}

-- ---- of each exchange, of what all lines have in common, and of the rest

abbrev pub OfExchange : (ℕ → Exchange → Type 0) → ℕ → Option Exchange → Type 0
OfExchange X n None = Unit {0}
OfExchange X n (Some x) = X n x

abbrev pub OfLine : (ℕ → Exchange → Type 0) → Line → Type 0
OfLine X line = OfExchange X line.number line.exchange

abbrev pub OfEach : (ℕ → Exchange → Type 0) → List Line → Type 0
OfEach X [] = Unit {0}
OfEach X (line ∷ lines) = OfLine X line × OfEach X lines

abbrev pub Joint : (ℕ → Exchange → Type 0) → (Hub → Type 0) → ℕ → Exchange → Hub → Type 0
Joint X K n x hub = X n x × K hub

pub each_at : (X : ℕ → Exchange → Type 0) (lines : List Line) (place : ℕ) (line : Line) → slice_get lines place ≡ Some line → OfEach X lines → OfLine X line
each_at X [] zero line at each = absurd (cc at)
each_at X [] (suc place) line at each = absurd (cc at)
each_at X (l ∷ lines) zero line at each = let same : l ≡ line = cc at in subst (OfLine X) same each.0
each_at X (l ∷ lines) (suc place) line at each = each_at X lines place line at each.1

pub each_set : (X : ℕ → Exchange → Type 0) (lines : List Line) (place : ℕ) (line : Line) → OfLine X line → OfEach X lines → OfEach X (slice_set lines place line)
each_set X [] place line one each = tt
each_set X (l ∷ lines) zero line one each = (one, each.1)
each_set X (l ∷ lines) (suc place) line one each = (each.0, each_set X lines place line one each.1)

-- the lines and what they have in common, once a stage was asked
abbrev pub asked_lines : ℕ → Room → Option Asked × List Line × Hub
asked_lines place room = asks_at place (slice_get room.lines place) room.lines room.hub

abbrev pub with_asked : Room → Option Asked × List Line × Hub → Room
with_asked room (a, lines, hub) = with_lines room (lines, hub)

-- the numbers of lines
abbrev pub numbers : List Line → List ℕ
numbers lines = map (λ (line : Line). line.number) lines

pub numbers_set : (lines : List Line) (place : ℕ) (line y : Line) → slice_get lines place ≡ Some line → y.number ≡ line.number → numbers (slice_set lines place y) ≡ numbers lines
numbers_set [] zero line y at same = absurd (cc at)
numbers_set [] (suc place) line y at same = absurd (cc at)
numbers_set (l ∷ lines) zero line y at same = let is : l ≡ line = cc at in ap (λ (n : ℕ). n ∷ numbers lines) (same ∙ ap (λ (z : Line). z.number) (sym is))
numbers_set (l ∷ lines) (suc place) line y at same = ap (λ (ns : List ℕ). l.number ∷ ns) (numbers_set lines place line y at same)

module _ (X : ℕ → Exchange → Type 0) (K : Hub → Type 0) where
  -- these lines are so, with the numbers of those
  abbrev pub LinesBoth : List Line → List Line × Hub → Type 0
  LinesBoth before r = OfEach X r.0 × K r.1 × (numbers r.0 ≡ numbers before)

  abbrev pub Keeps : Changes → Type 0
  Keeps change = (n : ℕ) (x : Exchange) (hub : Hub) → Joint X K n x hub → InBoth (Joint X K) n (with_marks (change n x hub))

  abbrev OneLine : Line → Line × Hub → Type 0
  OneLine line r = OfLine X r.0 × K r.1 × (r.0.number ≡ line.number)

  on_line : (change : Changes) → Keeps change → (line : Line) (o : Option Exchange) (hub : Hub) → line.exchange ≡ o → OfExchange X line.number o → K hub → OneLine line (in_exchange change line o hub)
  on_line change keep line None hub at of k = (subst (OfExchange X line.number) (sym at) tt, k, refl)
  on_line change keep line (Some x) hub at of k = let is = keep line.number x hub (of, k) in (is.0, is.1, refl)

  on_all : (change : Changes) → Keeps change → (lines : List Line) (hub : Hub) → OfEach X lines → K hub → LinesBoth lines (all_lines change lines hub)
  on_all change keep [] hub each k = (tt, k, refl)
  on_all change keep (line ∷ lines) hub each k =
      let first = on_line change keep line line.exchange hub refl each.0 k in
      let others = on_all change keep lines (in_line change line hub).1 each.1 first.1 in
      ((first.0, others.0), others.1, λ i. first.2 i ∷ others.2 i)

  on_some : (change : Changes) → Keeps change → (lines : List Line) (place : ℕ) (o : Option Line) (hub : Hub) → slice_get lines place ≡ o → OfEach X lines → K hub → LinesBoth lines (at_some change lines place o hub)
  on_some change keep lines place None hub at each k = (each, k, refl)
  on_some change keep lines place (Some line) hub at each k =
      let first = on_line change keep line line.exchange hub refl (each_at X lines place line at each) k in
      (each_set X lines place (in_line change line hub).0 first.0 each, first.1, numbers_set lines place line (in_line change line hub).0 at first.2)

  pub on_place : (change : Changes) → Keeps change → (lines : List Line) (o : Option ℕ) (hub : Hub) → OfEach X lines → K hub → LinesBoth lines (at_place change lines o hub)
  on_place change keep lines None hub each k = (each, k, refl)
  on_place change keep lines (Some place) hub each k = on_some change keep lines place (slice_get lines place) hub refl each k

  -- the rest of a room, which is not of its lines and of what these have in common, and stays so where a VM dies
  pub record IsRest (D : ℕ → Type 0) (R : Room → Type 0) : Type 0 where
    pub beside : (room : Room) (lines : List Line) (hub : Hub) → numbers lines ≡ numbers room.lines → R room → R (record room { lines = lines; hub = hub })
    pub died : (vm : ℕ) (room : Room) → D vm → R room → R (record room { dead = room.dead ++ vm ∷ [] })
    pub under_way : (calls : List Callout) (room : Room) → R room → R (record room { calls = calls })

  abbrev pub Holds : (Room → Type 0) → Room → Type 0
  Holds R room = OfEach X room.lines × K room.hub × R room

  module _ (D : ℕ → Type 0) (R : Room → Type 0) (rest : IsRest D R) where
    pub holds_lines : (room : Room) (r : List Line × Hub) → LinesBoth room.lines r → R room → Holds R (with_lines room r)
    holds_lines room (lines, hub) is r = (is.0, is.1, rest.beside room lines hub is.2 r)

    module _ (Goes : Option Asked → Type 0) (closed : IsClosed (Joint X K)) (moved : IsMoved D Goes (Joint X K)) where
      op_keeps : (change : Changes) → Op change → Keeping (Joint X K) change
      op_keeps _ (op_resumes vm context response) = resumes_keep D Goes (Joint X K) closed moved vm context response
      op_keeps _ op_closes = closes_keep D Goes (Joint X K) closed moved
      op_keeps _ (op_answers status fields body) = answer_keeps D Goes (Joint X K) closed moved status fields body
      op_keeps _ (op_acts response k value) = acts_keep D Goes (Joint X K) closed moved response k value
      op_keeps _ (op_refuses status) = refuses_keep D Goes (Joint X K) closed moved status
      op_keeps _ op_expires = expires_keep D Goes (Joint X K) closed moved
      op_keeps _ (op_responds items) = responses_keep D Goes (Joint X K) closed moved items

      marked_op : (change : Changes) → Op change → Keeps change
      marked_op change op = marked_keeps D Goes (Joint X K) closed moved change (op_keeps change op)

      pub holds_number : (change : Changes) (n : ℕ) (room : Room) → Op change → Holds R room → Holds R (on_number change n room)
      holds_number change n room op s = holds_lines room (at_place change room.lines (place_in n room.lines) room.hub) (on_place change (marked_op change op) room.lines (place_in n room.lines) room.hub s.0 s.1) s.2

      pub holds_context : (change : Changes) (vm context : ℕ) (room : Room) → Op change → Holds R room → Holds R (on_context change vm context room)
      holds_context change vm context room op s = holds_lines room (at_place change room.lines (place_of vm context room.lines) room.hub) (on_place change (marked_op change op) room.lines (place_of vm context room.lines) room.hub s.0 s.1) s.2

      pub holds_all : (change : Changes) (room : Room) → Op change → Holds R room → Holds R (with_lines room (all_lines change room.lines room.hub))
      holds_all change room op s = holds_lines room (all_lines change room.lines room.hub) (on_all change (marked_op change op) room.lines room.hub s.0 s.1) s.2

      pub holds_dies : (vm : ℕ) (death : Death) (room : Room) → D vm → ((hub : Hub) (more : List Sent) → NoConnects more → K hub → K (hub_with_sent more hub)) → Holds R room → Holds R (lose_vm_in vm death room)
      holds_dies vm death room dead sent s =
          let more : List Sent = to.Log Critical (death_text (vm_in room.hub.contexts vm).name death) ∷ [] in
          let told : Room = room_with_sent more room in
          holds_lines (record told { dead = room.dead ++ vm ∷ [] }) (all_lines (passing.lose_vm vm) room.lines told.hub)
          (on_all (passing.lose_vm vm) (marked_keeps D Goes (Joint X K) closed moved (passing.lose_vm vm) (dies_keep D Goes (Joint X K) closed moved vm dead)) room.lines told.hub s.0 (sent room.hub more tt s.1))
          (rest.died vm told dead (rest.beside room room.lines told.hub refl s.2))

-- WHAT IS OF EACH EXCHANGE BY ITSELF, and of what all lines have in common by itself
pub record IsApart (X : ℕ → Exchange → Type 0) (K : Hub → Type 0) : Type 0 where
  pub hub : (hub : Hub) (h : Contexts) → SameIds hub.contexts h → K hub → K (record hub { contexts = h })
  pub sent : (hub : Hub) (more : List Sent) → NoConnects more → K hub → K (hub_with_sent more hub)
  pub called : (hub : Hub) (id : ℕ) (wire : List ℕ) → K hub → K (hub_with_sent (to.Connect (line_of id) ∷ to.Bytes (line_of id) Up wire ∷ []) hub)
  pub aside : (n : ℕ) (x y : Exchange) → IsAside x y → X n x → X n y
  pub shut : (n : ℕ) (x y : Exchange) → IsShut x y → X n x → X n y

pub apart_closed : (X : ℕ → Exchange → Type 0) (K : Hub → Type 0) → IsApart X K → IsClosed (Joint X K)
apart_closed X K apart = record {
  hub = λ n x hub h same s. (s.0, apart.hub hub h same s.1);
  sent = λ n x hub more none s. (s.0, apart.sent hub more none s.1);
  aside = λ n x y hub is s. (apart.aside n x y is s.0, s.1);
  shut = λ n x y hub is s. (apart.shut n x y is s.0, s.1);
}

-- a callout begins
pub holds_begins : (X : ℕ → Exchange → Type 0) (K : Hub → Type 0) (D : ℕ → Type 0) (R : Room → Type 0) → IsApart X K → IsRest X K D R → (q : Request) (room : Room) → Holds X K R room → Holds X K R (begin_call q room)
holds_begins X K D R apart rest q room s =
    let id : ℕ = next_call room in
    let calls : List Callout = room.calls ++ begun id room.hub.moment q ∷ [] in
    let h : Contexts = count_calls (length calls) id room.hub.contexts in
    let counted : Hub = record room.hub { contexts = h } in
    let sent : Hub = hub_with_sent (to.Connect (line_of id) ∷ to.Bytes (line_of id) Up (request_wire q) ∷ []) counted in
    (s.0, apart.called counted id (request_wire q) (apart.hub room.hub h (same_calls (length calls) id room.hub.contexts) s.1), rest.under_way calls (record room { hub = sent }) (rest.beside room room.lines sent refl s.2))

-- where nothing hangs on which VM dies, what holds of a room so stays by what callbacks do
pub holds_calm : (X : ℕ → Exchange → Type 0) (K : Hub → Type 0) (R : Room → Type 0) (Goes : Option Asked → Type 0) → IsApart X K → IsRest X K (λ vm. Unit {0}) R → IsMoved (λ vm. Unit {0}) Goes (Joint X K)
    → IsCalm (Holds X K R)
holds_calm X K R Goes apart rest moved = record {
  number = λ change n room op s. holds_number X K (λ vm. Unit {0}) R rest Goes (apart_closed X K apart) moved change n room op s;
  context = λ change vm context room op s. holds_context X K (λ vm. Unit {0}) R rest Goes (apart_closed X K apart) moved change vm context room op s;
  all = λ change room op s. holds_all X K (λ vm. Unit {0}) R rest Goes (apart_closed X K apart) moved change room op s;
  dies = λ vm death room s. holds_dies X K (λ vm. Unit {0}) R rest Goes (apart_closed X K apart) moved vm death room tt apart.sent s;
  hub = λ room h same s. (s.0, apart.hub room.hub h same s.1, rest.beside room room.lines (record room.hub { contexts = h }) refl s.2);
  sent = λ room more none s. (s.0, apart.sent room.hub more none s.1, rest.beside room room.lines (hub_with_sent more room.hub) refl s.2);
  begins = λ q room s. holds_begins X K (λ vm. Unit {0}) R apart rest q room s;
  under_way = λ calls room s. (s.0, s.1, rest.under_way calls room s.2);
}
