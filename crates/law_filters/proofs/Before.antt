-- What is known of the exchange on a line until its stages are made, step by step; and of one of which nothing goes up any more.
use Rattle.std.proofs.Common.{◌≡◌, ◌⊎◌, inl, inr, refl, ℕ, zero, suc, ◌==◌, Bool, true, false, not, ◌||◌, List, [], ◌∷◌, ◌++◌, cond, ap, ◌∙◌, sym, subst, ⊎_elim, eq-eqb, ne_eqb}
use Rattle.std.proofs.lemmas.Bool.{cases_Bool, cases_eq}
use Rattle.std.proofs.lemmas.List.Folds.{list_any-append}
use Rattle.std.specs.List.{find, list_any}
use Rattle.std.specs.Prelude.{slice_get, if◌then◌else◌, Option, None, Some}
use Rattle.callouts.specs.Callouts.{is_call_line}
use Rattle.contexts.specs.Creating.{next_id, plugin_in}
use Rattle.contexts.specs.Reached.{vm_in}
use Rattle.contexts.specs.declared.parts.Contexts.{Contexts}
use Rattle.exchange.specs.declared.types.Exchange.{Exchange}
use Rattle.exchange.specs.declared.types.Filter.{Filter}
use Rattle.exchange.specs.declared.types.Hub.{Hub}
use Rattle.exchange.specs.Answering.{answer, answer_directly, cut_off, none_held, stays_open, with_held}
use Rattle.exchange.specs.Heads.{is_final}
use Rattle.exchange.specs.Leaving.{bytes_sent_to, hub_with_sent}
use Rattle.exchange.specs.Passing as passing
use Rattle.exchange.specs.Passing.{bypass_vm, fails_closed, take_move}
use Rattle.filter_chain.specs.Chains.{asked, continued}
use Rattle.filter_chain.specs.declared.item.Asking.{Asking}
use Rattle.filter_chain.specs.declared.item.Asking.TheVariants.{Nothing, Over, Asks}
use Rattle.filter_chain.specs.declared.stage.Stage.{Stage}
use Rattle.filter_host.specs.declared.host.Death.{Death}
use Rattle.filter_host.specs.declared.host.Death.TheVariants as deaths
use Rattle.gate_base.specs.declared.level.Level.TheVariants.{Critical}
use Rattle.gate_io.specs.declared.event.Sent.{Sent}
use Rattle.gate_io.specs.declared.event.Sent.TheVariants as to
use Rattle.gate_io.specs.declared.event.Side.TheVariants.{Down}
use Rattle.h1_model.specs.LocalReply.{local_reply_of}
use Rattle.law_lines.proofs.Finding.{IsOnce}
use Rattle.law_lines.proofs.Looks.{is_n, look, line_in_is, equal_by}
use Rattle.worker_model.specs.Moves.{asks_as, asks_chain, with_none}
use Rattle.worker_model.specs.Room.{Room}
use Rattle.worker_model.specs.Rooms.{all_lines, begin_call, death_text, in_exchange, in_line, is_dead, lose_vm_in, on_context, on_number, place_in, room_with_sent, with_contexts, with_lines, with_marks}
use Rattle.worker_model.specs.Steps.{change_exchange, change_line, create_context, create_filter, create_stream, exchange_of_line, exchange_on, filter_at, is_drawn_out, line_at, line_at_place, line_in, may_stream, with_filter, with_stream}
use Rattle.worker_model.specs.declared.types.Job.{Job}
use Rattle.worker_model.specs.declared.types.Line.{Line}
use Rattle.worker_model.specs.declared.types.NewContext.{NewContext}
use Rattle.law_filters.proofs.Doing.{NoConnects, IsAside, IsShut, IsClosed, InBoth, InThird, in_answer, lets_response, lets_vm, by_ended, never}
use Rattle.law_filters.proofs.Lasting as lasting
use Rattle.law_filters.proofs.Lasting.{NoneSince, none_any, since_more}
use Rattle.law_filters.proofs.Rooms.{OfExchange, OfLine, OfEach, IsCalm, Holds, asked_lines, each_at, each_set, holds_calm, with_asked}
use Rattle.law_filters.proofs.Same.{pick}
use Rattle.law_filters.proofs.Sound.{Any, now_dead, still_dead}

-- ---- the exchange on a line, among the lines

-- of the exchange on the line
abbrev pub OnLine : ℕ → (Exchange → Type 0) → ℕ → Exchange → Type 0
OnLine n X m x = m ≡ n → X x

module _ (n : ℕ) (X : Exchange → Type 0) where
  each_none : (lines : List Line) → find (is_n n) lines ≡ None → OfEach (OnLine n X) lines
  each_none [] none = tt
  each_none (l ∷ lines) none = by_number (l.number == n) refl none (λ later. each_none lines later)
    where
      by_number : (b : Bool) → (l.number == n) ≡ b → cond (l.number == n) (Some l) (find (is_n n) lines) ≡ None → (find (is_n n) lines ≡ None → OfEach (OnLine n X) lines) → OfEach (OnLine n X) (l ∷ lines)
      by_number true is gone later = absurd (wrong (ap (λ (c : Bool). cond c (Some l) (find (is_n n) lines)) (sym is) ∙ gone))
        where
          wrong : ◌≡◌ {A = Option Line} (Some l) None → ⊥
          wrong e = cc e
      by_number false is gone later = (other l.exchange, later (ap (λ (c : Bool). cond c (Some l) (find (is_n n) lines)) (sym is) ∙ gone))
        where
          other : (o : Option Exchange) → OfExchange (OnLine n X) l.number o
          other None = tt
          other (Some x) = λ same. absurd (never (l.number == n) is (eq-eqb l.number n same))

  pub each_by : (x : Exchange) (lines : List Line) (line : Line) → IsOnce (is_n n) lines → find (is_n n) lines ≡ Some line → line.exchange ≡ Some x → X x → OfEach (OnLine n X) lines
  each_by x [] line once at its is = absurd (cc at)
  each_by x (l ∷ lines) line once at its is = by_number (l.number == n) refl at (λ later. each_by x lines line once.1 later its is)
    where
      by_number : (b : Bool) → (l.number == n) ≡ b → cond (l.number == n) (Some l) (find (is_n n) lines) ≡ Some line → (find (is_n n) lines ≡ Some line → OfEach (OnLine n X) lines) → OfEach (OnLine n X) (l ∷ lines)
      by_number true is_it here later =
          let same : l ≡ line = same_line l line (ap (λ (c : Bool). cond c (Some l) (find (is_n n) lines)) (sym is_it) ∙ here) in
          (mine l.exchange (ap (λ (y : Line). y.exchange) same ∙ its), each_none lines (once.0 is_it))
        where
          same_line : (a b : Line) → Some a ≡ Some b → a ≡ b
          same_line a b e = cc e

          same_exchange : (a b : Exchange) → Some a ≡ Some b → a ≡ b
          same_exchange a b e = cc e

          mine : (o : Option Exchange) → o ≡ Some x → OfExchange (OnLine n X) l.number o
          mine None e = tt
          mine (Some y) e = λ number. subst X (sym (same_exchange y x e)) is
      by_number false is_not here later = (other l.exchange, later (ap (λ (c : Bool). cond c (Some l) (find (is_n n) lines)) (sym is_not) ∙ here))
        where
          other : (o : Option Exchange) → OfExchange (OnLine n X) l.number o
          other None = tt
          other (Some y) = λ same. absurd (never (l.number == n) is_not (eq-eqb l.number n same))

  each_found : (x : Exchange) (lines : List Line) (line : Line) → OfEach (OnLine n X) lines → find (is_n n) lines ≡ Some line → line.exchange ≡ Some x → X x
  each_found x [] line of at its = absurd (cc at)
  each_found x (l ∷ lines) line of at its = by_number (l.number == n) refl at (λ later. each_found x lines line of.1 later its)
    where
      by_number : (b : Bool) → (l.number == n) ≡ b → cond (l.number == n) (Some l) (find (is_n n) lines) ≡ Some line → (find (is_n n) lines ≡ Some line → X x) → X x
      by_number true is_it here later =
          let same : l ≡ line = same_line l line (ap (λ (c : Bool). cond c (Some l) (find (is_n n) lines)) (sym is_it) ∙ here) in
          subst (OfExchange (OnLine n X) l.number) (ap (λ (y : Line). y.exchange) same ∙ its) of.0 (equal_by l.number n is_it)
        where
          same_line : (a b : Line) → Some a ≡ Some b → a ≡ b
          same_line a b e = cc e
      by_number false is_not here later = later (ap (λ (c : Bool). cond c (Some l) (find (is_n n) lines)) (sym is_not) ∙ here)

-- where it stands
pub record IsFound (n : ℕ) (room : Room) (x : Exchange) : Type 0 where
  pub line : Line
  pub there : look n room.lines ≡ Some line
  pub its : line.exchange ≡ Some x

pub find_it : (n : ℕ) (room : Room) (x : Exchange) → exchange_on n room ≡ Some x → IsFound n room x
find_it n room x on = by_line (look n room.lines) refl (sym (line_in_is n room.lines))
  where
    by_line : (o : Option Line) → look n room.lines ≡ o → look n room.lines ≡ line_in n room.lines → IsFound n room x
    by_line None at same = absurd (wrong (ap exchange_of_line (sym at ∙ same) ∙ on))
      where
        wrong : ◌≡◌ {A = Option Exchange} None (Some x) → ⊥
        wrong e = cc e
    by_line (Some l) at same = record { line = l; there = at; its = ap exchange_of_line (sym at ∙ same) ∙ on }

-- of the exchange on the line: so of each; and of each: so of it
pub to_each : (n : ℕ) (X : Exchange → Type 0) (room : Room) (x : Exchange) → IsOnce (is_n n) room.lines → exchange_on n room ≡ Some x → X x → OfEach (OnLine n X) room.lines
to_each n X room x once on is = let f : IsFound n room x = find_it n room x on in each_by n X x room.lines f.line once f.there f.its is

pub from_each : (n : ℕ) (X : Exchange → Type 0) (room : Room) (x : Exchange) → OfEach (OnLine n X) room.lines → exchange_on n room ≡ Some x → X x
from_each n X room x of on = let f : IsFound n room x = find_it n room x on in each_found n X x room.lines f.line of f.there f.its

-- ---- before the stages are made: nothing is in the chain of the request

-- it has ended, or was answered, or is so
abbrev pub IsPre : (Exchange → Type 0) → Exchange → Type 0
IsPre Raw x = (x.request ≡ []) × ((x.has_ended ≡ true) ⊎ ((x.is_answered ≡ true) ⊎ Raw x))

abbrev pub Never : Exchange → Type 0
Never x = ⊥

-- no matter of its response
abbrev pub IsRaw : (Exchange → Type 0) → Type 0
IsRaw Raw = (x y : Exchange) → IsAside x y → Raw x → Raw y

pub never_raw : IsRaw Never
never_raw x y a is = is

no_stage : (k : ℕ) (s : Stage) (ss : List Stage) → ss ≡ [] → slice_get ss k ≡ Some s → ⊥
no_stage zero s ss none at = wrong (ap (λ (l : List Stage). slice_get l 0) (sym none) ∙ at)
  where
    wrong : ◌≡◌ {A = Option Stage} None (Some s) → ⊥
    wrong e = cc e
no_stage (suc k) s ss none at = wrong (ap (λ (l : List Stage). slice_get l (suc k)) (sym none) ∙ at)
  where
    wrong : ◌≡◌ {A = Option Stage} None (Some s) → ⊥
    wrong e = cc e

module _ (Raw : Exchange → Type 0) (raw : IsRaw Raw) (K : Hub → Type 0) (k_hub : (hub : Hub) (h : Contexts) → K hub → K (record hub { contexts = h })) (k_sent : (hub : Hub) (more : List Sent) → NoConnects more → K hub → K (hub_with_sent more hub)) where
  abbrev Both : ℕ → Exchange → Hub → Type 0
  Both m x hub = IsPre Raw x × K hub

  pub pre_aside : (x y : Exchange) → IsAside x y → IsPre Raw x → IsPre Raw y
  pre_aside x y a is = (a.request ∙ is.0, by_over is.1)
    where
      by_over : (x.has_ended ≡ true) ⊎ ((x.is_answered ≡ true) ⊎ Raw x) → (y.has_ended ≡ true) ⊎ ((y.is_answered ≡ true) ⊎ Raw y)
      by_over (inl ended) = inl (a.ended ended)
      by_over (inr (inl answered)) = inr (inl (a.answered ∙ answered))
      by_over (inr (inr is)) = inr (inr (raw x y a is))

  pub pre_shut : (x y : Exchange) → IsShut x y → IsPre Raw y
  pre_shut x y s = (s.request, by_over s.over)
    where
      by_over : (y.has_ended ≡ true) ⊎ (y.is_answered ≡ true) → (y.has_ended ≡ true) ⊎ ((y.is_answered ≡ true) ⊎ Raw y)
      by_over (inl ended) = inl ended
      by_over (inr answered) = inr (inl answered)

  -- its chain stays empty
  emptied : (x : Exchange) (stages : List Stage) → stages ≡ [] → IsPre Raw x → IsPre Raw (record x { request = stages })
  emptied x stages none is = pre_aside x (record x { request = stages }) (record { filters = refl; request = none ∙ sym is.0; entered = refl; answered = refl; refusal = refl; ended = λ e. e }) is

  pub both_closed : IsClosed Both
  both_closed = record {
    hub = λ m x hub h same is. (is.0, k_hub hub h is.1);
    sent = λ m x hub more none is. (is.0, k_sent hub more none is.1);
    aside = λ m x y hub a is. (pre_aside x y a is.0, is.1);
    shut = λ m x y hub s is. (pre_shut x y s, is.1);
  }

  continued_none : (m k : ℕ) (x : Exchange) (hub : Hub) → IsPre Raw x → K hub → InBoth Both m (take_move false m x hub (continued hub.contexts k []))
  continued_none m zero x hub is k_is = (emptied x [] refl is, k_hub hub hub.contexts k_is)
  continued_none m (suc k) x hub is k_is = (emptied x [] refl is, k_hub hub hub.contexts k_is)

  pub both_continues : (m k : ℕ) (x : Exchange) (hub : Hub) → Both m x hub → InBoth Both m (take_move false m x hub (continued hub.contexts k x.request))
  both_continues m k x hub is = subst (λ (ss : List Stage). InBoth Both m (take_move false m x hub (continued hub.contexts k ss))) (sym is.0.0) (continued_none m k x hub is.0 is.1)

  pub both_dies : (vm m : ℕ) (x : Exchange) (hub : Hub) → Both m x hub → InBoth Both m (bypass_vm vm m x hub)
  both_dies vm m x hub is = lets_vm Both vm (λ j k s y after at of goes here. absurd (no_stage k s y.request here.0.0 at)) (lets_response Both both_closed vm) m x hub is

  marks_third : (m : ℕ) (xh : Exchange × Hub) → InBoth Both m xh → InThird Both m (with_none (with_marks xh))
  marks_third m (x, hub) is = (is.0, k_hub hub (with_marks (x, hub)).1.contexts is.1)

  by_asking : (m : ℕ) (a : Asking) (x : Exchange) (hub : Hub) → Both m x hub → InThird Both m (asks_as false m a x hub)
  by_asking m Nothing x hub is = is
  by_asking m (Over k) x hub is = marks_third m (answer m true 413 [] [] x hub) (in_answer Both both_closed m true 413 [] [] x hub is)
  by_asking m (Asks ask) x hub is = is

  by_asked : (m : ℕ) (x : Exchange) (hub : Hub) (r : Asking × List Stage × Contexts) → r.1 ≡ [] → Both m x hub → InThird Both m (asks_chain false m x hub r)
  by_asked m x hub (a, stages, h) none is = by_asking m a (record x { request = stages }) (with_held h hub) (emptied x stages none is.0, k_hub hub h is.1)

  pub both_asks : (m : ℕ) (x : Exchange) (hub : Hub) → Both m x hub → InThird Both m (asks_chain false m x hub (asked hub.contexts x.request))
  both_asks m x hub is = by_asked m x hub (asked hub.contexts x.request) (ap (λ (l : List Stage). (asked hub.contexts l).1) is.0.0) is

-- an answer that passes no stage ends the exchange
pub directly_ended : (m status : ℕ) (x : Exchange) (hub : Hub) → ((answer_directly m status [] [] x hub).0.request ≡ []) × ((answer_directly m status [] [] x hub).0.has_ended ≡ true)
directly_ended m status x hub = by_cut (x.is_head_out || not (is_final status))
  where
    by_cut : (b : Bool)
        → ((if b then cut_off x hub
        else (
          record x { request = []; response = []; is_head_out = true; has_ended = true; stays = stays_open x },
          hub_with_sent (bytes_sent_to m Down (local_reply_of status [] [] x.asked.is_head (not (stays_open x)) hub.moment)) (none_held x hub),
        )).0.request ≡ [])
        × ((if b then cut_off x hub
        else (
          record x { request = []; response = []; is_head_out = true; has_ended = true; stays = stays_open x },
          hub_with_sent (bytes_sent_to m Down (local_reply_of status [] [] x.asked.is_head (not (stays_open x)) hub.moment)) (none_held x hub),
        )).0.has_ended ≡ true)
    by_cut true = (refl, refl)
    by_cut false = (refl, refl)

-- another VM died
pub lives_on : (vm gone : ℕ) (dead : List ℕ) → (gone ≡ vm → ⊥) → list_any (λ (d : ℕ). d == vm) dead ≡ false → list_any (λ (d : ℕ). d == vm) (dead ++ gone ∷ []) ≡ false
lives_on vm gone dead other lives =
    list_any-append (λ (d : ℕ). d == vm) dead (gone ∷ []) ∙ (λ i. lives i || (ne_eqb gone vm other i || false))

-- ---- rooms

abbrev One : Type 0
One = Unit {0}

module _ (n : ℕ) (base : List Sent) (low : is_call_line n ≡ false) where
  -- since then no connection was opened for the line
  abbrev pub Quiet : Hub → Type 0
  Quiet hub = true ≡ true → NoneSince n base hub

  quiet_sent : (hub : Hub) (more : List Sent) → NoConnects more → Quiet hub → Quiet (hub_with_sent more hub)
  quiet_sent hub more none k = λ e. since_more n base hub more (none_any n more none) (k e)

  module _ (Raw : Exchange → Type 0) (raw : IsRaw Raw) where
    abbrev Lasts : Type 0
    Lasts = lasting.IsLasting n base low One (λ i. true) (λ i dead. Unit {0}) (λ i. IsPre Raw) (λ i gone. Unit {0}) Any tt

    pub lasts : Lasts
    lasts = record {
      aside = λ x y a is. pre_aside Raw raw Quiet (λ hub h k. k) quiet_sent x y a is;
      shut = λ x y s is. pre_shut Raw raw Quiet (λ hub h k. k) quiet_sent x y s;
      continues = λ k x hub runs is q. both_continues Raw raw Quiet (λ hub h k. k) quiet_sent n k x hub (is, q);
      dies = λ gone x hub d runs opens is q. both_dies Raw raw Quiet (λ hub h k. k) quiet_sent gone n x hub (is, q);
      asks = λ x hub goes is q. both_asks Raw raw Quiet (λ hub h k. k) quiet_sent n x hub (is, q);
      died = λ dead gone d is. tt;
    }

  -- nothing is read, and these jobs are in hand
  abbrev pub Jobs : List Job → Room → Type 0
  Jobs js room = (room.reading ≡ None) × (room.jobs ≡ js)

  abbrev pub Pre : (Exchange → Type 0) → List Job → Room → Type 0
  Pre Raw js room = Holds (OnLine n (IsPre Raw)) Quiet (Jobs js) room

  pub pre_calm : (Raw : Exchange → Type 0) → IsRaw Raw → (js : List Job) → IsCalm (Pre Raw js)
  pre_calm Raw raw js =
      holds_calm (OnLine n (IsPre Raw)) Quiet (Jobs js) Any (lasting.own_apart n base low One (λ i. true) (λ i dead. Unit {0}) (λ i. IsPre Raw) (λ i gone. Unit {0}) Any tt (lasts Raw raw))
      (record { beside = λ room lines hub same r. r; died = λ vm room dead r. r; under_way = λ calls room r. r })
      (lasting.moved n base low One (λ i. true) (λ i dead. Unit {0}) (λ i. IsPre Raw) (λ i gone. Unit {0}) Any tt (lasts Raw raw))

  -- a chain moves on some line
  pub pre_asked : (Raw : Exchange → Type 0) → IsRaw Raw → (js : List Job) (place : ℕ) (room : Room) → Pre Raw js room → Pre Raw js (with_asked room (asked_lines place room))
  pre_asked Raw raw js place room s =
      lasting.place_asked n base low One (λ i. true) (λ i dead. Unit {0}) (λ i. IsPre Raw) (λ i gone. Unit {0}) Any tt (lasts Raw raw) (Jobs js) (λ r lines hub is. is) room place (slice_get room.lines place) refl tt s

  -- ---- with the VM of a filter, which fails open or not

  module _ (vm : ℕ) (opens : Bool) where
    -- the VM lives, and the exchange is so; or the VM is dead, and lets pass; or nothing of the exchange goes up any more
    abbrev pub Stays : (Exchange → Type 0) → List Job → Room → Type 0
    Stays Raw js room = ((is_dead vm room ≡ false) × Pre Raw js room) ⊎ (((is_dead vm room ≡ true) × (opens ≡ true)) ⊎ Pre Never js room)

    -- its exchange is answered where the VM dies and does not let pass
    abbrev pub IsGuarded : (Exchange → Type 0) → Type 0
    IsGuarded Raw = opens ≡ false → (x : Exchange) → Raw x → x.is_answered ≡ false → fails_closed vm x ≡ true

    module _ (Raw : Exchange → Type 0) (raw : IsRaw Raw) (guarded : IsGuarded Raw) (js : List Job) where
      over_one : opens ≡ false → (m : ℕ) (x : Exchange) (hub : Hub) → IsPre Raw x → IsPre Never (passing.lose_vm vm m x hub).0
      over_one shut m x hub is =
          by_ended (λ (r : Exchange × Hub). IsPre Never r.0) x.has_ended (x, hub) (if fails_closed vm x then answer_directly m 503 [] [] x hub else bypass_vm vm m x hub) (λ e. (is.0, inl e))
          (λ runs.
          by_ended (λ (r : Exchange × Hub). IsPre Never r.0) (fails_closed vm x) (answer_directly m 503 [] [] x hub) (bypass_vm vm m x hub)
          (λ f. let d = directly_ended m 503 x hub in (d.0, inl d.1)) (λ f. passed runs f is.1))
        where
          answered : x.is_answered ≡ true → IsPre Never (bypass_vm vm m x hub).0
          answered is_answered = (both_dies Never never_raw (λ h. One) (λ h c k. tt) (λ h more none k. tt) vm m x hub ((is.0, inr (inl is_answered)), tt)).0

          passed : x.has_ended ≡ false → fails_closed vm x ≡ false → (x.has_ended ≡ true) ⊎ ((x.is_answered ≡ true) ⊎ Raw x) → IsPre Never (bypass_vm vm m x hub).0
          passed runs f (inl ended) = absurd (never x.has_ended runs ended)
          passed runs f (inr (inl is_answered)) = answered is_answered
          passed runs f (inr (inr r)) =
              ⊎_elim (λ (is_answered : x.is_answered ≡ true). answered is_answered) (λ (free : x.is_answered ≡ false). absurd (never (fails_closed vm x) f (guarded shut x r free))) (cases_Bool x.is_answered)

      over_each : opens ≡ false → (lines : List Line) (hub : Hub) → OfEach (OnLine n (IsPre Raw)) lines → OfEach (OnLine n (IsPre Never)) (all_lines (passing.lose_vm vm) lines hub).0
      over_each shut [] hub of = tt
      over_each shut (line ∷ lines) hub of = (one line.exchange refl of.0, over_each shut lines (in_line (passing.lose_vm vm) line hub).1 of.1)
        where
          one : (o : Option Exchange) → line.exchange ≡ o → OfExchange (OnLine n (IsPre Raw)) line.number o → OfLine (OnLine n (IsPre Never)) (in_exchange (passing.lose_vm vm) line o hub).0
          one None at is = subst (OfExchange (OnLine n (IsPre Never)) line.number) (sym at) tt
          one (Some x) at is = λ same. over_one shut line.number x hub (is same)

      over_all : opens ≡ false → (death : Death) (room : Room) → Pre Raw js room → Pre Never js (lose_vm_in vm death room)
      over_all shut death room s =
          let told : Room = room_with_sent (to.Log Critical (death_text (vm_in room.hub.contexts vm).name death) ∷ []) room in
          let on : Pre Raw js (lose_vm_in vm death room) = (pre_calm Raw raw js).dies vm death room s in
          (over_each shut room.lines told.hub s.0, on.1, on.2)

      its_death : (death : Death) (room : Room) → Pre Raw js room → Stays Raw js (lose_vm_in vm death room)
      its_death death room s =
          ⊎_elim (λ (open_so : opens ≡ true). inr (inl (now_dead vm room.dead, open_so))) (λ (shut : opens ≡ false). inr (inr (over_all shut death room s))) (cases_Bool opens)

      pub stays_calm : IsCalm (Stays Raw js)
      stays_calm =
          let one : IsCalm (Pre Raw js) = pre_calm Raw raw js in
          let none : IsCalm (Pre Never js) = pre_calm Never never_raw js in
          record {
            number = λ change m room op s. by_three room (on_number change m room) (λ e. e) (λ e. e) (λ r. one.number change m room op r) (λ r. none.number change m room op r) s;
            context = λ change gone c room op s. by_three room (on_context change gone c room) (λ e. e) (λ e. e) (λ r. one.context change gone c room op r) (λ r. none.context change gone c room op r) s;
            all = λ change room op s.
                by_three room (with_lines room (all_lines change room.lines room.hub)) (λ e. e) (λ e. e) (λ r. one.all change room op r) (λ r. none.all change room op r) s;
            dies = λ gone death room s. dies gone death room s;
            hub = λ room h same s. by_three room (with_contexts h room) (λ e. e) (λ e. e) (λ r. one.hub room h same r) (λ r. none.hub room h same r) s;
            sent = λ room more no s. by_three room (room_with_sent more room) (λ e. e) (λ e. e) (λ r. one.sent room more no r) (λ r. none.sent room more no r) s;
            begins = λ q room s. by_three room (begin_call q room) (λ e. e) (λ e. e) (λ r. one.begins q room r) (λ r. none.begins q room r) s;
            under_way = λ calls room s. by_three room (record room { calls = calls }) (λ e. e) (λ e. e) (λ r. one.under_way calls room r) (λ r. none.under_way calls room r) s;
          }
        where
          by_three : (room new : Room) → (is_dead vm room ≡ false → is_dead vm new ≡ false) → (is_dead vm room ≡ true → is_dead vm new ≡ true) → (Pre Raw js room → Pre Raw js new) → (Pre Never js room → Pre Never js new) → Stays Raw js room
              → Stays Raw js new
          by_three room new lives dead goes none (inl is) = inl (lives is.0, goes is.1)
          by_three room new lives dead goes none (inr (inl is)) = inr (inl (dead is.0, is.1))
          by_three room new lives dead goes none (inr (inr is)) = inr (inr (none is))

          dies : (gone : ℕ) (death : Death) (room : Room) → Stays Raw js room → Stays Raw js (lose_vm_in gone death room)
          dies gone death room (inl is) =
              ⊎_elim (λ (same : gone ≡ vm). subst (λ (v : ℕ). Stays Raw js (lose_vm_in v death room)) (sym same) (its_death death room is.1))
              (λ (other : gone ≡ vm → ⊥). inl (lives_on vm gone room.dead other is.0, (pre_calm Raw raw js).dies gone death room is.1)) (cases_eq gone vm)
          dies gone death room (inr (inl is)) = inr (inl (still_dead gone vm room.dead is.0, is.1))
          dies gone death room (inr (inr is)) = inr (inr ((pre_calm Never never_raw js).dies gone death room is))

      -- ---- the context of a filter is made

      stream_pre : (Kind : Exchange → Type 0) (j : ℕ) → ((g : Filter) (x : Exchange) → Kind x → Kind (with_filter j g x)) → (g : Filter) (root : ℕ) (room : Room) → Pre Kind js room → Pre Kind js (with_stream n j g root room).1
      stream_pre Kind j other g root room s = (at_place (place_in n room.lines), s.1, s.2)
        where
          change : Exchange → Exchange
          change = with_filter j (record g { created = true; context = next_id room.hub.contexts g.vm })

          over : (x : Exchange) → (x.has_ended ≡ true) ⊎ ((x.is_answered ≡ true) ⊎ Kind x) → ((change x).has_ended ≡ true) ⊎ (((change x).is_answered ≡ true) ⊎ Kind (change x))
          over x (inl ended) = inl ended
          over x (inr (inl answered)) = inr (inl answered)
          over x (inr (inr is)) = inr (inr (other (record g { created = true; context = next_id room.hub.contexts g.vm }) x is))

          one : (line : Line) (o : Option Exchange) → line.exchange ≡ o → OfLine (OnLine n (IsPre Kind)) line → OfLine (OnLine n (IsPre Kind)) (change_exchange change line o)
          one line None at is = is
          one line (Some x) at is = λ same. (let was : IsPre Kind x = subst (OfExchange (OnLine n (IsPre Kind)) line.number) at is same in (was.0, over x was.1))

          at_line : (place : ℕ) (o : Option Line) → slice_get room.lines place ≡ o → OfEach (OnLine n (IsPre Kind)) (line_at (change_line change) room.lines place o)
          at_line place None at = s.0
          at_line place (Some line) at = each_set (OnLine n (IsPre Kind)) room.lines place (change_line change line) (one line line.exchange refl (each_at (OnLine n (IsPre Kind)) room.lines place line at s.0)) s.0

          at_place : (o : Option ℕ) → OfEach (OnLine n (IsPre Kind)) (line_at_place (change_line change) room.lines o)
          at_place None = s.0
          at_place (Some place) = at_line place (slice_get room.lines place) refl

      abbrev There : Option NewContext × Room → Type 0
      There r = Stays Raw js r.1

      pub create_stays : (j : ℕ) → ((g : Filter) (x : Exchange) → Raw x → Raw (with_filter j g x)) → (room : Room) → Stays Raw js room → Stays Raw js (create_context n j room).1
      create_stays j other room s = by_filter (filter_at n j room.lines)
        where
          streamed : (g : Filter) (root : ℕ) → There (with_stream n j g root room)
          streamed g root = by_case s
            where
              by_case : Stays Raw js room → There (with_stream n j g root room)
              by_case (inl is) = inl (is.0, stream_pre Raw j other g root room is.1)
              by_case (inr (inl is)) = inr (inl is)
              by_case (inr (inr is)) = inr (inr (stream_pre Never j (λ h x e. e) g root room is))

          by_root : (g : Filter) (o : Option ℕ) → There (create_stream n j g o room)
          by_root g None = s
          by_root g (Some root) =
              pick There (is_dead g.vm room || not (may_stream g.vm root room.hub.contexts)) (None, room) _ s
              (pick There (is_drawn_out g.vm room.hub.contexts) (None, lose_vm_in g.vm deaths.Ids room) (with_stream n j g root room) (stays_calm.dies g.vm deaths.Ids room s) (streamed g root))

          by_filter : (o : Option Filter) → There (create_filter n j o room)
          by_filter None = s
          by_filter (Some g) = by_root g (plugin_in room.hub.contexts g.plugin).root
