-- Where nothing of the exchange's request goes up any more, it stays so, step by step, and no connection is opened for the line.
use Rattle.std.proofs.Common.{◌≡◌, ◌⊎◌, inl, inr, refl, ℕ, zero, suc, Bool, true, false, not, ◌||◌, ◌&&◌, List, [], ◌∷◌, ◌++◌, ap, ◌∙◌, sym, subst, ⊎_elim}
use Rattle.std.specs.Prelude.{slice_get, if◌then◌else◌, Option, None, Some}
use Rattle.callouts.specs.Callouts.{is_call_line}
use Rattle.contexts.specs.declared.parts.Contexts.{Contexts}
use Rattle.exchange.specs.declared.types.Exchange.{Exchange}
use Rattle.exchange.specs.declared.types.Hub.{Hub}
use Rattle.exchange.specs.Answering.{answer, with_held}
use Rattle.exchange.specs.Leaving.{hub_with_sent}
use Rattle.exchange.specs.Passing.{bypass_vm, put_all_to_chain, put_read_items, put_to_chain, take_move, take_put, takes_nothing}
use Rattle.filter_chain.specs.Chains.{asked, continued, let_through, put as put_item}
use Rattle.filter_chain.specs.declared.item.Asking.{Asking}
use Rattle.filter_chain.specs.declared.item.Asking.TheVariants.{Nothing, Over, Asks}
use Rattle.filter_chain.specs.declared.item.ChainItem.{ChainItem}
use Rattle.filter_chain.specs.declared.stage.Stage.{Stage}
use Rattle.filter_host.specs.declared.host.Death.{Death}
use Rattle.gate_io.specs.declared.event.Sent.{Sent}
use Rattle.worker_model.specs.Moves.{asks_as, asks_chain, with_none}
use Rattle.worker_model.specs.Plan.{Plan}
use Rattle.worker_model.specs.Room.{Room}
use Rattle.worker_model.specs.Rooms.{lose_vm_in, with_marks}
use Rattle.law_filters.proofs.Before.{IsPre, Never}
use Rattle.law_filters.proofs.Doing.{NoConnects, IsAside, IsShut, IsClosed, InBoth, InThird, in_answer, lets_response, lets_vm, by_ended, never}
use Rattle.law_filters.proofs.Lasting as lasting
use Rattle.law_filters.proofs.Lasting.{NoneSince, Unheard, none_any, since_more}
use Rattle.law_filters.proofs.Rooms.{IsCalm}
use Rattle.law_filters.proofs.Same.{pick}
use Rattle.law_filters.proofs.Sound.{Any}
use Rattle.law_filters.proofs.Steps.{IsStepped}
use Rattle.law_filters.specs.Heads.{IsSilenced}

no_stage : (k : ℕ) (s : Stage) (ss : List Stage) → ss ≡ [] → slice_get ss k ≡ Some s → ⊥
no_stage zero s ss none at = wrong (ap (λ (l : List Stage). slice_get l 0) (sym none) ∙ at)
  where
    wrong : ◌≡◌ {A = Option Stage} None (Some s) → ⊥
    wrong e = cc e
no_stage (suc k) s ss none at = wrong (ap (λ (l : List Stage). slice_get l (suc k)) (sym none) ∙ at)
  where
    wrong : ◌≡◌ {A = Option Stage} None (Some s) → ⊥
    wrong e = cc e

pub silenced_aside : (x y : Exchange) → IsAside x y → IsSilenced x → IsSilenced y
silenced_aside x y a (inl ended) = inl (a.ended ended)
silenced_aside x y a (inr is) = inr (a.answered ∙ is.0, a.request ∙ is.1)

pub silenced_shut : (x y : Exchange) → IsShut x y → IsSilenced y
silenced_shut x y s = by_over s.over
  where
    by_over : (y.has_ended ≡ true) ⊎ (y.is_answered ≡ true) → IsSilenced y
    by_over (inl ended) = inl ended
    by_over (inr answered) = inr (answered, s.request)

-- one that has ended, or was answered, before its stages were made
pub pre_silenced : (x : Exchange) → IsPre Never x → IsSilenced x
pre_silenced x (request, inl ended) = inl ended
pre_silenced x (request, inr (inl answered)) = inr (answered, request)
pre_silenced x (request, inr (inr none)) = absurd none

or_true : (a : Bool) → (a || true) ≡ true
or_true true = refl
or_true false = refl

pub silent_takes : (x : Exchange) → IsSilenced x → takes_nothing false x ≡ true
silent_takes x (inl ended) = λ i. ended i || (not false && x.is_answered)
silent_takes x (inr is) = (λ i. x.has_ended || (not false && is.0 i)) ∙ or_true x.has_ended

module _ (K : Hub → Type 0) (k_hub : (hub : Hub) (h : Contexts) → K hub → K (record hub { contexts = h })) (k_sent : (hub : Hub) (more : List Sent) → NoConnects more → K hub → K (hub_with_sent more hub)) where
  abbrev Both : ℕ → Exchange → Hub → Type 0
  Both m x hub = IsSilenced x × K hub

  both_closed : IsClosed Both
  both_closed = record {
    hub = λ m x hub h same is. (is.0, k_hub hub h is.1);
    sent = λ m x hub more none is. (is.0, k_sent hub more none is.1);
    aside = λ m x y hub a is. (silenced_aside x y a is.0, is.1);
    shut = λ m x y hub s is. (silenced_shut x y s, is.1);
  }

  continued_none : (m k : ℕ) (x : Exchange) (hub : Hub) → x.is_answered ≡ true → K hub → InBoth Both m (take_move false m x hub (continued hub.contexts k []))
  continued_none m zero x hub answered k_is = (inr (answered, refl), k_hub hub hub.contexts k_is)
  continued_none m (suc k) x hub answered k_is = (inr (answered, refl), k_hub hub hub.contexts k_is)

  pub both_continues : (m k : ℕ) (x : Exchange) (hub : Hub) → x.has_ended ≡ false → IsSilenced x → K hub → InBoth Both m (take_move false m x hub (continued hub.contexts k x.request))
  both_continues m k x hub runs (inl ended) k_is = absurd (never x.has_ended runs ended)
  both_continues m k x hub runs (inr is) k_is = subst (λ (ss : List Stage). InBoth Both m (take_move false m x hub (continued hub.contexts k ss))) (sym is.1) (continued_none m k x hub is.0 k_is)

  pub both_dies : (vm m : ℕ) (x : Exchange) (hub : Hub) → Both m x hub → InBoth Both m (bypass_vm vm m x hub)
  both_dies vm m x hub is = lets_vm Both vm (λ j k s y after at of goes here. up j k s y after at goes here.0) (lets_response Both both_closed vm) m x hub is
    where
      up : (j k : ℕ) (s : Stage) (y : Exchange) (after : Hub) → slice_get y.request k ≡ Some s → y.has_ended ≡ false → IsSilenced y → InBoth Both j (take_move false j y after (let_through after.contexts k y.request))
      up j k s y after at goes (inl ended) = absurd (never y.has_ended goes ended)
      up j k s y after at goes (inr none) = absurd (no_stage k s y.request none.1 at)

  marks_third : (m : ℕ) (xh : Exchange × Hub) → InBoth Both m xh → InThird Both m (with_none (with_marks xh))
  marks_third m (x, hub) is = (is.0, k_hub hub (with_marks (x, hub)).1.contexts is.1)

  by_asking : (m : ℕ) (a : Asking) (x : Exchange) (hub : Hub) → Both m x hub → InThird Both m (asks_as false m a x hub)
  by_asking m Nothing x hub is = is
  by_asking m (Over k) x hub is = marks_third m (answer m true 413 [] [] x hub) (in_answer Both both_closed m true 413 [] [] x hub is)
  by_asking m (Asks ask) x hub is = is

  still : (x : Exchange) (stages : List Stage) → (x.request ≡ [] → stages ≡ []) → IsSilenced x → IsSilenced (record x { request = stages })
  still x stages none (inl ended) = inl ended
  still x stages none (inr is) = inr (is.0, none is.1)

  by_asked : (m : ℕ) (x : Exchange) (hub : Hub) (r : Asking × List Stage × Contexts) → (x.request ≡ [] → r.1 ≡ []) → Both m x hub → InThird Both m (asks_chain false m x hub r)
  by_asked m x hub (a, stages, h) none is = by_asking m a (record x { request = stages }) (with_held h hub) (still x stages none is.0, k_hub hub h is.1)

  pub both_asks : (m : ℕ) (x : Exchange) (hub : Hub) → Both m x hub → InThird Both m (asks_chain false m x hub (asked hub.contexts x.request))
  both_asks m x hub is = by_asked m x hub (asked hub.contexts x.request) (λ none. ap (λ (l : List Stage). (asked hub.contexts l).1) none) is

  put_one : (m : ℕ) (item : ChainItem) (xh : Exchange × Hub) → InBoth Both m xh → InBoth Both m (put_to_chain false m item xh)
  put_one m item (x, hub) is =
      by_ended (InBoth Both m) (takes_nothing false x) (x, hub) (take_put false m x hub (put_item hub.contexts item x.request)) (λ e. is) (λ takes. absurd (never (takes_nothing false x) takes (silent_takes x is.0)))

  put_all : (m : ℕ) (list : List ChainItem) (xh : Exchange × Hub) → InBoth Both m xh → InBoth Both m (put_all_to_chain false m list xh)
  put_all m [] xh is = is
  put_all m (item ∷ list) xh is = put_all m list (put_to_chain false m item xh) (put_one m item xh is)

  pub both_puts : (m : ℕ) (list : List ChainItem) (x : Exchange) (hub : Hub) → Both m x hub → InBoth Both m (put_read_items false list m x hub)
  both_puts m list x hub is = pick (InBoth Both m) x.is_answered (x, hub) (put_all_to_chain false m list (x, hub)) is (put_all m list (x, hub) is)

-- ---- rooms

abbrev One : Type 0
One = Unit {0}

module _ (n : ℕ) (base : List Sent) (low : is_call_line n ≡ false) where
  abbrev Quiet : Hub → Type 0
  Quiet hub = true ≡ true → NoneSince n base hub

  quiet_sent : (hub : Hub) (more : List Sent) → NoConnects more → Quiet hub → Quiet (hub_with_sent more hub)
  quiet_sent hub more none k = λ e. since_more n base hub more (none_any n more none) (k e)

  abbrev Lasts : One → Type 0
  Lasts i = lasting.IsLasting n base low One (λ i. true) (λ i dead. Unit {0}) (λ i. IsSilenced) (λ i gone. Unit {0}) Any i

  lasts : (i : One) → Lasts i
  lasts i = record {
    aside = λ x y a is. silenced_aside x y a is;
    shut = λ x y s is. silenced_shut x y s;
    continues = λ k x hub runs is q. both_continues Quiet (λ hub h k. k) quiet_sent n k x hub runs is q;
    dies = λ gone x hub d runs opens is q. both_dies Quiet (λ hub h k. k) quiet_sent gone n x hub (is, q);
    asks = λ x hub goes is q. both_asks Quiet (λ hub h k. k) quiet_sent n x hub (is, q);
    died = λ dead gone d is. tt;
  }

  puts : (i : One) → lasting.Puts n base low One (λ i. true) (λ i dead. Unit {0}) (λ i. IsSilenced) (λ i gone. Unit {0}) Any i
  puts i list x hub is q = both_puts Quiet (λ hub h k. k) quiet_sent n list x hub (is, q)

  -- no connection was opened, and nothing more goes up
  abbrev pub Fair : Room → Type 0
  Fair room = lasting.Fair n base low One (λ i. true) (λ i dead. Unit {0}) (λ i. IsSilenced) (λ i gone. Unit {0}) Any tt room

  abbrev pub P : Room → Type 0
  P room = lasting.P n base low One (λ i. true) (λ i dead. Unit {0}) (λ i. IsSilenced) (λ i gone. Unit {0}) Any room

  dies : (i : One) (gone : ℕ) (death : Death) (room : Room) → lasting.Fair n base low One (λ i. true) (λ i dead. Unit {0}) (λ i. IsSilenced) (λ i gone. Unit {0}) Any i room → P (lose_vm_in gone death room)
  dies i gone death room s = (i, lasting.fair_dies n base low One (λ i. true) (λ i dead. Unit {0}) (λ i. IsSilenced) (λ i gone. Unit {0}) Any i (lasts i) gone death room tt s)

  pub calm : IsCalm P
  calm = lasting.calm n base low One (λ i. true) (λ i dead. Unit {0}) (λ i. IsSilenced) (λ i gone. Unit {0}) Any lasts puts dies

  pub stepped : (plan : Plan) → IsStepped plan (Unheard n) Any P P
  stepped plan = lasting.stepped n base low One (λ i. true) (λ i dead. Unit {0}) (λ i. IsSilenced) (λ i gone. Unit {0}) Any lasts puts dies plan
