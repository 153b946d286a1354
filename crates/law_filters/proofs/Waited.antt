-- The head waits for the stage of a filter until that is asked it, step by step, whether its VM lives or not: where it dies and the filter fails closed, nothing more goes up.
use Rattle.std.proofs.Common.{◌≡◌, ◌⊎◌, inl, inr, refl, ℕ, zero, suc, ◌==◌, Bool, true, false, not, ◌||◌, ◌&&◌, List, [], ◌∷◌, ◌++◌, length, ap, ◌∙◌, sym, subst, ⊎_elim, append_assoc, eq-eqb}
use Rattle.std.proofs.lemmas.Bool.{cases_Bool, cases_eq}
use Rattle.std.specs.List.{list_any}
use Rattle.std.specs.Prelude.{slice_get, Option, None, Some}
use Rattle.callouts.specs.Callouts.{is_call_line}
use Rattle.contexts.specs.declared.parts.Contexts.{Contexts}
use Rattle.exchange.specs.declared.types.Exchange.{Exchange}
use Rattle.exchange.specs.declared.types.Filter.{Filter}
use Rattle.exchange.specs.declared.types.Hub.{Hub}
use Rattle.exchange.specs.Answering.{with_held}
use Rattle.exchange.specs.Passing.{bypass_vm, bypass_vm_stages, fails_closed, has_stage_of, is_there, put_read_items, take_move, with_chain}
use Rattle.filter_chain.specs.Chains.{asked, continued}
use Rattle.filter_chain.specs.declared.item.Asking.{Asking}
use Rattle.filter_chain.specs.declared.item.Asking.TheVariants.{Nothing, Over, Asks}
use Rattle.filter_chain.specs.declared.item.PassOutcome.{PassOutcome}
use Rattle.filter_chain.specs.declared.item.PassOutcome.TheVariants as passed
use Rattle.filter_chain.specs.declared.stage.Stage.{Stage}
use Rattle.filter_host.specs.declared.host.Death.{Death}
use Rattle.gate_io.specs.declared.event.Sent.{Sent}
use Rattle.law_lines.proofs.Kept.{opens_kept, passed_on_kept, put_in_kept}
use Rattle.worker_model.specs.Moves.{asks_as, asks_chain}
use Rattle.worker_model.specs.Plan.{Plan}
use Rattle.worker_model.specs.Room.{Room}
use Rattle.worker_model.specs.Rooms.{is_dead, lose_vm_in}
use Rattle.worker_model.specs.declared.types.Asked.{Asked}
use Rattle.worker_model.specs.declared.types.Line.{Line}
use Rattle.law_filters.proofs.Beginning.{any_there}
use Rattle.law_filters.proofs.Doing.{IsAside, never}
use Rattle.law_filters.proofs.Lasting as lasting
use Rattle.law_filters.proofs.Lasting.{NoneSince, Unheard, none_any, since_more}
use Rattle.law_filters.proofs.Onward as onward
use Rattle.law_filters.proofs.Rooms.{OfExchange, OfEach, IsCalm}
use Rattle.law_filters.proofs.Silent as silent
use Rattle.law_filters.proofs.Sound.{now_dead, still_dead}
use Rattle.law_filters.proofs.Steps.{IsStepped}
use Rattle.law_filters.proofs.Waiting as waiting
use Rattle.law_filters.specs.Heads.{Awaits, Comes, IsAskedOn, Waits}

-- ---- a stage of a context is there

abbrev pub HasStage : (vm context : ℕ) → List Stage → Type 0
HasStage vm context [] = ⊥
HasStage vm context (s ∷ ss) = ((s.vm ≡ vm) × (s.context ≡ context)) ⊎ HasStage vm context ss

module _ (vm context : ℕ) where
  awaits_has : (t : ℕ) (ss : List Stage) → Awaits vm context t ss → HasStage vm context ss
  awaits_has zero [] is = absurd is
  awaits_has (suc t) [] is = absurd is
  awaits_has zero (s ∷ ss) is = inl (is.0.vm_is, is.0.context_is)
  awaits_has (suc t) (s ∷ ss) is = inr (awaits_has t ss is.1)

  pub comes_has : (t : ℕ) (ss : List Stage) → Comes vm context t ss → HasStage vm context ss
  comes_has zero [] is = absurd is
  comes_has (suc t) [] is = absurd is
  comes_has zero (s ∷ ss) is = inl (is.0.vm_is, is.0.context_is)
  comes_has (suc t) (s ∷ ss) (inl is) = inr (awaits_has t ss is.2)
  comes_has (suc t) (s ∷ ss) (inr is) = inr (comes_has t ss is)

  pub has_it : (ss : List Stage) → HasStage vm context ss → has_stage_of vm context ss ≡ true
  has_it [] has = absurd has
  has_it (s ∷ ss) (inl is) = first (s.vm == vm) (s.context == context) (eq-eqb s.vm vm is.0) (eq-eqb s.context context is.1)
    where
      first : (a b : Bool) → a ≡ true → b ≡ true → ((a && b) || has_stage_of vm context ss) ≡ true
      first a b x y = (λ i. (x i && b) || has_stage_of vm context ss) ∙ (λ i. y i || has_stage_of vm context ss)
  has_it (s ∷ ss) (inr has) = later (s.vm == vm && s.context == context) (has_it ss has)
    where
      later : (a : Bool) → has_stage_of vm context ss ≡ true → (a || has_stage_of vm context ss) ≡ true
      later true is = refl
      later false is = is

-- a filter of the VM that fails closed, whose stage is there
pub closes_by : (vm k : ℕ) (f : Filter) (x : Exchange) → slice_get x.filters k ≡ Some f → f.vm ≡ vm → f.fails_open ≡ false → is_there x f ≡ true → fails_closed vm x ≡ true
closes_by vm k f x at of shut there =
    any_there (λ (g : Filter). (g.vm == vm && not g.fails_open) && is_there x g) x.filters k f at
    ((λ i. (eq-eqb f.vm vm of i && not f.fails_open) && is_there x f) ∙ ((λ i. not (shut i) && is_there x f) ∙ there))

pub there_by : (f : Filter) (x : Exchange) → has_stage_of f.vm f.context x.request ≡ true → is_there x f ≡ true
there_by f x has = λ i. (has i || has_stage_of f.vm f.context x.response) || (not x.is_entered && not x.is_answered)

-- ---- what an exchange keeps

pub moved_filters : (n : ℕ) (x : Exchange) (hub : Hub) (t : PassOutcome × List Stage × Contexts) → (take_move false n x hub t).0.filters ≡ x.filters
moved_filters n x hub t = (passed_on_kept false n t.0 (with_chain false t.1 x) (with_held t.2 hub)).filters

pub bypassed_filters : (vm n : ℕ) (x : Exchange) (hub : Hub) → (bypass_vm vm n x hub).0.filters ≡ x.filters
bypassed_filters vm n x hub =
    let p : Exchange × Hub = bypass_vm_stages false vm n (length x.request) (x, hub) in
    (opens_kept true vm n (length p.0.response) p).filters ∙ (opens_kept false vm n (length x.request) (x, hub)).filters

pub asked_filters : (n : ℕ) (x : Exchange) (hub : Hub) (t : Asking × List Stage × Contexts) → (asks_chain false n x hub t).1.filters ≡ x.filters
asked_filters n x hub (a, stages, h) = by_asking a
  where
    by_asking : (a : Asking) → (asks_as false n a (record x { request = stages }) (with_held h hub)).1.filters ≡ x.filters
    by_asking Nothing = refl
    by_asking (Over k) = (passed_on_kept false n passed.Over (record x { request = stages }) (with_held h hub)).filters
    by_asking (Asks ask) = refl

-- ---- it waits, or it is passed over

module _ (n vm context k : ℕ) (f : Filter) (opens : Bool) (of : f.vm ≡ vm) (its : f.context ≡ context) (so : f.fails_open ≡ opens) (base : List Sent) (low : is_call_line n ≡ false) where
  abbrev pub L : Bool → List ℕ → Type 0
  L true dead = Unit {0}
  L false dead = (list_any (λ (d : ℕ). d == vm) dead ≡ true) × (opens ≡ true)

  abbrev pub X : Bool → Exchange → Type 0
  X true x = Waits vm context x × (slice_get x.filters k ≡ Some f)
  X false x = Unit {0}

  abbrev pub D : Bool → ℕ → Type 0
  D true gone = gone ≡ vm → opens ≡ false
  D false gone = Unit {0}

  abbrev pub NotAsked : Option Asked → Type 0
  NotAsked a = IsAskedOn n vm context a → ⊥

  abbrev Lasts : Bool → Type 0
  Lasts i = lasting.IsLasting n base low Bool (λ j. j) L X D NotAsked i

  abbrev Quiet : Hub → Type 0
  Quiet hub = true ≡ true → NoneSince n base hub

  then_since : (hub after : Hub) → Quiet hub → waiting.Since vm context hub.sent after → Quiet after
  then_since hub after q s = λ e.
      (let k = q e in (k.0 ++ s.0, s.1 ∙ (ap (λ (l : List Sent). l ++ s.0) k.1 ∙ append_assoc base k.0 s.0), lasting.none_join n k.0 s.0 k.2 (none_any n s.0 s.2)))

  waits_aside : (x y : Exchange) → IsAside x y → Waits vm context x → Waits vm context y
  waits_aside x y a (inl is) = inl (silent.silenced_aside x y a is)
  waits_aside x y a (inr is) = inr (is.0, subst (Comes vm context is.0) (sym a.request) is.1)

  kept : (x y : Exchange) → y.filters ≡ x.filters → slice_get x.filters k ≡ Some f → slice_get y.filters k ≡ Some f
  kept x y same at = ap (λ (fs : List Filter). slice_get fs k) same ∙ at

  -- where its VM dies and it fails closed, the exchange is answered
  its_death : (x : Exchange) (hub : Hub) → opens ≡ false → x.has_ended ≡ false → fails_closed vm x ≡ false → X true x → Quiet hub → (Waits vm context (bypass_vm vm n x hub).0) × Quiet (bypass_vm vm n x hub).1
  its_death x hub shut runs passes (inl is, at) q =
      let r = silent.both_dies (λ h. true ≡ true → NoneSince n base h) (λ h c e. e) (λ h more none e. λ t. since_more n base h more (none_any n more none) (e t)) vm n x hub (is, q) in (inl r.0, r.1)
  its_death x hub shut runs passes (inr is, at) q =
      absurd (never (fails_closed vm x) passes
      (closes_by vm k f x at of (so ∙ shut) (there_by f x (subst (λ (v : ℕ). has_stage_of v f.context x.request ≡ true) (sym of) (subst (λ (c : ℕ). has_stage_of vm c x.request ≡ true) (sym its) (has_it vm context x.request (comes_has vm context is.0 x.request is.1)))))))

  waits_lasts : Lasts true
  waits_lasts = record {
    aside = λ x y a is. (waits_aside x y a is.0, kept x y a.filters is.1);
    shut = λ x y s is. (inl (silent.silenced_shut x y s), kept x y s.filters is.1);
    continues = λ j x hub runs is q.
        (let r = waiting.moves_on vm context hub.sent n j x hub runs is.0 (waiting.nothing_sent vm context hub) in
        let t = take_move false n x hub (continued hub.contexts j x.request) in ((r.0, kept x t.0 (moved_filters n x hub (continued hub.contexts j x.request)) is.1), then_since hub t.1 q r.1));
    dies = λ gone x hub d runs passes is q. dies_so gone x hub d runs passes is q;
    asks = λ x hub none is q. asks_so x hub none is q;
    died = λ dead gone d is. tt;
  }
    where
      dies_so : (gone : ℕ) (x : Exchange) (hub : Hub) → D true gone → x.has_ended ≡ false → fails_closed gone x ≡ false → X true x → Quiet hub → X true (bypass_vm gone n x hub).0 × Quiet (bypass_vm gone n x hub).1
      dies_so gone x hub d runs passes is q =
          ⊎_elim
          (λ (same : gone ≡ vm).
          let r = its_death x hub (d same) runs (subst (λ (v : ℕ). fails_closed v x ≡ false) same passes) is q in
          subst (λ (v : ℕ). X true (bypass_vm v n x hub).0 × Quiet (bypass_vm v n x hub).1) (sym same) ((r.0, kept x (bypass_vm vm n x hub).0 (bypassed_filters vm n x hub) is.1), r.1))
          (λ (other : gone ≡ vm → ⊥).
          let r = (waiting.moved vm context hub.sent).dies gone n x hub other runs passes (is.0, waiting.nothing_sent vm context hub) in
          ((r.0, kept x (bypass_vm gone n x hub).0 (bypassed_filters gone n x hub) is.1), then_since hub (bypass_vm gone n x hub).1 q r.1)) (cases_eq gone vm)

      asks_so : (x : Exchange) (hub : Hub) → NotAsked (asks_chain false n x hub (asked hub.contexts x.request)).0 → X true x → Quiet hub
          → X true (asks_chain false n x hub (asked hub.contexts x.request)).1 × Quiet (asks_chain false n x hub (asked hub.contexts x.request)).2
      asks_so x hub none is q = by_asked (waiting.request_asks vm context hub.sent n x hub is.0 (waiting.nothing_sent vm context hub))
        where
          t : Asking × List Stage × Contexts
          t = asked hub.contexts x.request

          by_asked : waiting.IsAskedOr vm context hub.sent (asks_chain false n x hub t) → X true (asks_chain false n x hub t).1 × Quiet (asks_chain false n x hub t).2
          by_asked (inl is_asked) = absurd (none (onward.asked_line n vm context base low n t.0 (record x { request = t.1 }) (with_held t.2 hub) refl is_asked))
          by_asked (inr r) = ((r.0, kept x (asks_chain false n x hub t).1 (asked_filters n x hub t) is.1), then_since hub (asks_chain false n x hub t).2 q r.1)

  passed_lasts : Lasts false
  passed_lasts = record {
    aside = λ x y a is. tt;
    shut = λ x y s is. tt;
    continues = λ j x hub runs is q. (tt, λ e. absurd (cc e));
    dies = λ gone x hub d runs passes is q. (tt, λ e. absurd (cc e));
    asks = λ x hub none is q. (tt, λ e. absurd (cc e));
    died = λ dead gone d is. (still_dead gone vm dead is.0, is.1);
  }

  pub lasts : (i : Bool) → Lasts i
  lasts true = waits_lasts
  lasts false = passed_lasts

  puts : (i : Bool) → lasting.Puts n base low Bool (λ j. j) L X D NotAsked i
  puts true list x hub is q =
      let r = waiting.puts_keep vm context hub.sent list n x hub (is.0, waiting.nothing_sent vm context hub) in
      let t = put_read_items false list n x hub in ((r.0, kept x t.0 (put_in_kept false list n x hub).filters is.1), then_since hub t.1 q r.1)
  puts false list x hub is q = (tt, λ e. absurd (cc e))

  abbrev pub Fair : Bool → Room → Type 0
  Fair i room = lasting.Fair n base low Bool (λ j. j) L X D NotAsked i room

  abbrev pub P : Room → Type 0
  P room = lasting.P n base low Bool (λ j. j) L X D NotAsked room

  each_any : (lines : List Line) → OfEach (lasting.XOf n base low Bool (λ j. j) L X D NotAsked false) lines
  each_any [] = tt
  each_any (line ∷ lines) = (one line.exchange, each_any lines)
    where
      one : (o : Option Exchange) → OfExchange (lasting.XOf n base low Bool (λ j. j) L X D NotAsked false) line.number o
      one None = tt
      one (Some x) = λ same. tt

  dies : (i : Bool) (gone : ℕ) (death : Death) (room : Room) → Fair i room → P (lose_vm_in gone death room)
  dies true gone death room s =
      ⊎_elim
      (λ (same : gone ≡ vm).
      ⊎_elim
      (λ (open_so : opens ≡ true).
      (false, (each_any (lose_vm_in gone death room).lines, (λ e. absurd (cc e)), ((subst (λ (v : ℕ). is_dead v (lose_vm_in gone death room) ≡ true) same (now_dead gone room.dead), open_so), s.2.1, s.2.2, s.2.3))))
      (λ (shut : opens ≡ false). (true, lasting.fair_dies n base low Bool (λ j. j) L X D NotAsked true waits_lasts gone death room (λ e. shut) s)) (cases_Bool opens))
      (λ (other : gone ≡ vm → ⊥). (true, lasting.fair_dies n base low Bool (λ j. j) L X D NotAsked true waits_lasts gone death room (λ same. absurd (other same)) s)) (cases_eq gone vm)
  dies false gone death room s = (false, lasting.fair_dies n base low Bool (λ j. j) L X D NotAsked false passed_lasts gone death room tt s)

  pub calm : IsCalm P
  calm = lasting.calm n base low Bool (λ j. j) L X D NotAsked lasts puts dies

  pub stepped : (plan : Plan) → IsStepped plan (Unheard n) NotAsked P P
  stepped plan = lasting.stepped n base low Bool (λ j. j) L X D NotAsked lasts puts dies plan
