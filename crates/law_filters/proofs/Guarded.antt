-- Where the VM of a filter that fails closed lives, its stage is there; where it dies, nothing more of the exchange's request goes up.
use Rattle.std.proofs.Common.{◌≡◌, ◌⊎◌, inl, inr, refl, ℕ, zero, suc, ◌+◌, ◌==◌, Bool, true, false, ◌||◌, List, [], ◌∷◌, ◌++◌, length, ap, ◌∙◌, sym, subst, ⊎_elim}
use Rattle.std.proofs.lemmas.Bool.{cases_eq}
use Rattle.std.specs.List.{list_any}
use Rattle.std.specs.Prelude.{slice_get, slice_set, nat_le, if◌then◌else◌, Option, None, Some}
use Rattle.callouts.specs.Callouts.{is_call_line}
use Rattle.contexts.specs.Reached.{vm_in}
use Rattle.contexts.specs.Stages.{with_buffered}
use Rattle.contexts.specs.declared.parts.Contexts.{Contexts}
use Rattle.exchange.specs.declared.types.Exchange.{Exchange}
use Rattle.exchange.specs.declared.types.Filter.{Filter}
use Rattle.exchange.specs.declared.types.Hub.{Hub}
use Rattle.exchange.specs.Answering.{answer, answer_directly, with_held}
use Rattle.exchange.specs.Leaving.{send_item, send_items, send_request_item}
use Rattle.exchange.specs.Passing as passing
use Rattle.exchange.specs.Passing.{bypass_vm, fails_closed, finish_put, has_stage_of, put_all_to_chain, put_to_chain, take_move, take_put, takes_nothing}
use Rattle.filter_chain.specs.Chains.{accepts, append_to, ask_item, ask_of, ask_stage, asked, asked_at, bypassed_stage, bytes_at, bytes_held, continued, continued_at, let_through, let_through_at, limit, put as put_item, ready, target, unless_over, with_more, without_held, without_hold}
use Rattle.filter_chain.specs.Items.{held_items, holds_bytes, size}
use Rattle.filter_chain.specs.declared.item.AskKind.TheVariants as kinds
use Rattle.filter_chain.specs.declared.item.Asking.{Asking}
use Rattle.filter_chain.specs.declared.item.Asking.TheVariants.{Nothing, Over, Asks}
use Rattle.filter_chain.specs.declared.item.ChainItem.{ChainItem}
use Rattle.filter_chain.specs.declared.item.ChainItem.TheVariants.{Head, Piece, Trailers}
use Rattle.filter_chain.specs.declared.item.Held.TheVariants as held
use Rattle.filter_chain.specs.declared.item.PassOutcome.{PassOutcome}
use Rattle.filter_chain.specs.declared.item.PassOutcome.TheVariants as passed
use Rattle.filter_chain.specs.declared.stage.Stage.{Stage}
use Rattle.filter_host.specs.declared.host.Death.{Death}
use Rattle.gate_base.specs.declared.level.Level.TheVariants.{Critical}
use Rattle.gate_io.specs.declared.event.Sent.{Sent}
use Rattle.gate_io.specs.declared.event.Sent.TheVariants as to
use Rattle.law_chain.proofs.Targets.{ahead, by_bool, comes_in, comes_is, goes_in, goes_is}
use Rattle.worker_model.specs.Moves.{asks_as, asks_chain, with_none}
use Rattle.worker_model.specs.Plan.{Plan}
use Rattle.worker_model.specs.Room.{Room}
use Rattle.worker_model.specs.Rooms.{all_lines, death_text, in_exchange, in_line, lose_vm_in, room_with_sent, with_marks}
use Rattle.worker_model.specs.declared.types.Line.{Line}
use Rattle.law_filters.proofs.Before.{directly_ended, lives_on}
use Rattle.law_filters.proofs.Doing.{IsAside, IsClosed, InBoth, InThird, by_ended, in_answer, lets_response, lets_vm, never}
use Rattle.law_filters.proofs.Lasting as lasting
use Rattle.law_filters.proofs.Lasting.{Unheard}
use Rattle.law_filters.proofs.Rooms.{OfExchange, OfLine, OfEach, IsCalm}
use Rattle.law_filters.proofs.Same.{pick}
use Rattle.law_filters.proofs.Silent as silent
use Rattle.law_filters.proofs.Sound.{Any}
use Rattle.law_filters.proofs.Steps.{IsStepped}
use Rattle.law_filters.proofs.Waited.{HasStage, closes_by, has_it, there_by}
use Rattle.law_filters.specs.Heads.{IsSilenced}

-- ---- stages stay what they are

stage_same : (a b : Stage) → Some a ≡ Some b → a ≡ b
stage_same a b is = cc is

module _ (vm context : ℕ) where
  abbrev Has : List Stage → Type 0
  Has ss = HasStage vm context ss

  has_set : (ss : List Stage) (k : ℕ) (s t : Stage) → slice_get ss k ≡ Some s → t.vm ≡ s.vm → t.context ≡ s.context → Has ss → Has (slice_set ss k t)
  has_set [] k s t at same_vm same_context has = absurd has
  has_set (x ∷ ss) zero s t at same_vm same_context (inl is) =
      let same : x ≡ s = stage_same x s at in
      inl (same_vm ∙ (ap (λ (y : Stage). y.vm) (sym same) ∙ is.0), same_context ∙ (ap (λ (y : Stage). y.context) (sym same) ∙ is.1))
  has_set (x ∷ ss) zero s t at same_vm same_context (inr has) = inr has
  has_set (x ∷ ss) (suc k) s t at same_vm same_context (inl is) = inl is
  has_set (x ∷ ss) (suc k) s t at same_vm same_context (inr has) = inr (has_set ss k s t at same_vm same_context has)

  has_comes : (items : List ChainItem) (ss : List Stage) → Has ss → Has (comes_in items ss).1
  has_comes items [] has = absurd has
  has_comes items (s ∷ ss) has =
      by_bool (λ (r : PassOutcome × List Stage). Has r.1) s.passes (ahead s (comes_in items ss)) (passed.Left [], with_more items s ∷ ss) (λ e. behind has (λ h. has_comes items ss h)) (λ e. first has)
    where
      behind : Has (s ∷ ss) → (Has ss → Has (comes_in items ss).1) → Has (ahead s (comes_in items ss)).1
      behind (inl is) later = inl is
      behind (inr h) later = inr (later h)

      first : Has (s ∷ ss) → Has (with_more items s ∷ ss)
      first (inl is) = inl is
      first (inr h) = inr h

  has_goes : (k : ℕ) (t : Stage) (items : List ChainItem) (ss : List Stage) (s : Stage) → slice_get ss k ≡ Some s → t.vm ≡ s.vm → t.context ≡ s.context → Has ss → Has (goes_in k t items ss).1
  has_goes k t items [] s at same_vm same_context has = absurd has
  has_goes zero t items (x ∷ ss) s at same_vm same_context (inl is) =
      let same : x ≡ s = stage_same x s at in
      inl (same_vm ∙ (ap (λ (y : Stage). y.vm) (sym same) ∙ is.0), same_context ∙ (ap (λ (y : Stage). y.context) (sym same) ∙ is.1))
  has_goes zero t items (x ∷ ss) s at same_vm same_context (inr has) = inr (has_comes items ss has)
  has_goes (suc k) t items (x ∷ ss) s at same_vm same_context (inl is) = inl is
  has_goes (suc k) t items (x ∷ ss) s at same_vm same_context (inr has) = inr (has_goes k t items ss s at same_vm same_context has)

  goes_unless : (h c : Contexts) (bytes k : ℕ) (items : List ChainItem) (ss : List Stage) (s t : Stage) → slice_get ss k ≡ Some s → t.vm ≡ s.vm → t.context ≡ s.context → Has ss
      → Has (unless_over h c (if accepts h bytes (slice_get ss (target (k + 1) ss)) then append_to (target (k + 1) ss) items (slice_set ss k t) (slice_get ss (target (k + 1) ss)) else (passed.Over, ss))).1
  goes_unless h c bytes k items ss s t at same_vm same_context has =
      pick (λ (r : PassOutcome × List Stage). Has (unless_over h c r).1) (accepts h bytes (slice_get ss (target (k + 1) ss))) (append_to (target (k + 1) ss) items (slice_set ss k t) (slice_get ss (target (k + 1) ss))) (passed.Over, ss)
      (subst (λ (r : PassOutcome × List Stage). Has (unless_over h c r).1) (sym (goes_is items ss k s t at)) (either (goes_in k t items ss) (has_goes k t items ss s at same_vm same_context has))) has
    where
      either : (r : PassOutcome × List Stage) → Has r.1 → Has (unless_over h c r).1
      either (passed.Over, stages) there = there
      either (passed.Left left, stages) there = there

  has_continued : (h : Contexts) (k : ℕ) (ss : List Stage) (o : Option Stage) → slice_get ss k ≡ o → Has ss → Has (continued_at h k ss o).1
  has_continued h k ss None at has = has
  has_continued h k ss (Some s) at has =
      goes_unless h (without_held h s) (length (bytes_held h s)) k (held_items s.held (bytes_held h s)) ss s (without_hold s) at refl refl has

  has_let : (h : Contexts) (k : ℕ) (ss : List Stage) (o : Option Stage) → slice_get ss k ≡ o → Has ss → Has (let_through_at h k ss o).1
  has_let h k ss None at has = has
  has_let h k ss (Some s) at has =
      goes_unless h (without_held h s) (length (bytes_held h s) + size s.waiting) k (held_items s.held (bytes_held h s) ++ s.waiting) ss s (bypassed_stage s) at refl refl has

  has_put : (h : Contexts) (item : ChainItem) (ss : List Stage) → Has ss → Has (put_item h item ss).1
  has_put h item ss has =
      pick (λ (r : PassOutcome × List Stage). Has r.1) (accepts h (size (item ∷ [])) (slice_get ss (target 0 ss))) (append_to (target 0 ss) (item ∷ []) ss (slice_get ss (target 0 ss))) (passed.Over, ss)
      (subst (λ (r : PassOutcome × List Stage). Has r.1) (sym (comes_is (item ∷ []) ss)) (has_comes (item ∷ []) ss has)) has

  has_item : (h : Contexts) (k : ℕ) (ss : List Stage) (s : Stage) (ws : List ChainItem) → slice_get ss k ≡ Some s → Has ss → Has (slice_set ss k (ask_item h k s ws).1)
  has_item h k ss s [] at has = has_set ss k s s at refl refl has
  has_item h k ss s (Head end ∷ items) at has = has_set ss k s (record s { waiting = items; held = held.Head end }) at refl refl has
  has_item h k ss s (Piece bytes end ∷ items) at has =
      pick (λ (r : Asking × Stage × Contexts). Has (slice_set ss k r.1)) (nat_le (length (bytes_at h s) + length bytes) limit)
      (ask_of k kinds.Piece (length (bytes_at h s) + length bytes) end, record s { waiting = items; held = held.Body end }, with_buffered h s.vm s.context s.response bytes end) (Over k, s, h)
      (has_set ss k s (record s { waiting = items; held = held.Body end }) at refl refl has) (has_set ss k s s at refl refl has)
  has_item h k ss s (Trailers ∷ items) at has = has_set ss k s (record s { waiting = items; held = held.Trailers (holds_bytes s.held) }) at refl refl has

  has_asked : (h : Contexts) (ss : List Stage) (count : ℕ) → Has ss → Has (asked_at h ss count).1
  has_asked h ss zero has = has
  has_asked h ss (suc k) has = by_stage (slice_get ss k) refl
    where
      by_stage : (o : Option Stage) → slice_get ss k ≡ o → Has (ask_stage h k ss o).1
      by_stage None at = has
      by_stage (Some s) at = has_item h k ss s s.waiting at has

-- ---- an exchange with the filter

module _ (vm context k : ℕ) (f : Filter) where
  -- nothing more goes up; or the stage is there
  abbrev pub IsGuarded : Exchange → Type 0
  IsGuarded x = IsSilenced x ⊎ (HasStage vm context x.request × (slice_get x.filters k ≡ Some f))

  abbrev Both : ℕ → Exchange → Hub → Type 0
  Both m x hub = IsGuarded x

  guarded_aside : (x y : Exchange) → IsAside x y → IsGuarded x → IsGuarded y
  guarded_aside x y a (inl is) = inl (silent.silenced_aside x y a is)
  guarded_aside x y a (inr is) = inr (subst (HasStage vm context) (sym a.request) is.0, ap (λ (fs : List Filter). slice_get fs k) a.filters ∙ is.1)

  both_closed : IsClosed Both
  both_closed = record { hub = λ m x hub h same is. is; sent = λ m x hub more none is. is; aside = λ m x y hub a is. guarded_aside x y a is; shut = λ m x y hub s is. inl (silent.silenced_shut x y s) }

  one_up : (m : ℕ) (item : ChainItem) (x : Exchange) (hub : Hub) → IsGuarded x → InBoth Both m (send_request_item m item x hub)
  one_up m (Head end) x hub is = guarded_aside x (send_request_item m (Head end) x hub).0 (record { filters = refl; request = refl; entered = refl; answered = refl; refusal = refl; ended = λ e. e }) is
  one_up m (Piece bytes end) x hub is = is
  one_up m Trailers x hub is = is

  leaves_up : (m : ℕ) (item : ChainItem) (xh : Exchange × Hub) → InBoth Both m xh → InBoth Both m (send_item false m item xh)
  leaves_up m item (x, hub) is = pick (InBoth Both m) x.has_ended (x, hub) (send_request_item m item x hub) is (one_up m item x hub is)

  left_up : (m : ℕ) (list : List ChainItem) (xh : Exchange × Hub) → InBoth Both m xh → InBoth Both m (send_items false m list xh)
  left_up m [] xh is = is
  left_up m (item ∷ list) xh is = left_up m list (send_item false m item xh) (leaves_up m item xh is)

  passed_up : (m : ℕ) (p : PassOutcome) (x : Exchange) (hub : Hub) → IsGuarded x → InBoth Both m (finish_put false m p x hub)
  passed_up m passed.Over x hub is = in_answer Both both_closed m true 413 [] [] x hub is
  passed_up m (passed.Left list) x hub is = left_up m list (x, hub) is

  -- its chain is another one
  chained : (x : Exchange) (stages : List Stage) → (HasStage vm context x.request → HasStage vm context stages) → (x.request ≡ [] → stages ≡ []) → IsGuarded x → IsGuarded (record x { request = stages })
  chained x stages keep none (inl (inl ended)) = inl (inl ended)
  chained x stages keep none (inl (inr is)) = inl (inr (is.0, none is.1))
  chained x stages keep none (inr is) = inr (keep is.0, is.1)

  moved_up : (m : ℕ) (x : Exchange) (hub : Hub) (t : PassOutcome × List Stage × Contexts) → (HasStage vm context x.request → HasStage vm context t.1) → (x.request ≡ [] → t.1 ≡ []) → IsGuarded x → InBoth Both m (take_move false m x hub t)
  moved_up m x hub t keep none is = passed_up m t.0 (record x { request = t.1 }) (with_held t.2 hub) (chained x t.1 keep none is)

  continues_up : (m j : ℕ) (x : Exchange) (hub : Hub) → IsGuarded x → InBoth Both m (take_move false m x hub (continued hub.contexts j x.request))
  continues_up m j x hub is =
      moved_up m x hub (continued hub.contexts j x.request) (λ has. has_continued vm context hub.contexts j x.request (slice_get x.request j) refl has) (λ none. ap (λ (l : List Stage). (continued hub.contexts j l).1) none) is

  lets_up : (m j : ℕ) (x : Exchange) (hub : Hub) → IsGuarded x → InBoth Both m (take_move false m x hub (let_through hub.contexts j x.request))
  lets_up m j x hub is =
      moved_up m x hub (let_through hub.contexts j x.request) (λ has. has_let vm context hub.contexts j x.request (slice_get x.request j) refl has) (λ none. ap (λ (l : List Stage). (let_through hub.contexts j l).1) none) is

  bypass_up : (gone m : ℕ) (x : Exchange) (hub : Hub) → IsGuarded x → InBoth Both m (bypass_vm gone m x hub)
  bypass_up gone m x hub is = lets_vm Both gone (λ i j s y after at of goes here. lets_up i j y after here) (lets_response Both both_closed gone) m x hub is

  marks_third : (m : ℕ) (xh : Exchange × Hub) → InBoth Both m xh → InThird Both m (with_none (with_marks xh))
  marks_third m (x, hub) is = is

  by_asking : (m : ℕ) (a : Asking) (x : Exchange) (hub : Hub) → IsGuarded x → InThird Both m (asks_as false m a x hub)
  by_asking m Nothing x hub is = is
  by_asking m (Over j) x hub is = marks_third m (answer m true 413 [] [] x hub) (in_answer Both both_closed m true 413 [] [] x hub is)
  by_asking m (Asks ask) x hub is = is

  asks_up : (m : ℕ) (x : Exchange) (hub : Hub) → IsGuarded x → InThird Both m (asks_chain false m x hub (asked hub.contexts x.request))
  asks_up m x hub is =
      let t : Asking × List Stage × Contexts = asked hub.contexts x.request in
      by_asking m t.0 (record x { request = t.1 }) (with_held t.2 hub) (chained x t.1 (λ has. has_asked vm context hub.contexts x.request (ready x.request) has) (λ none. ap (λ (l : List Stage). (asked hub.contexts l).1) none) is)

  put_up : (m : ℕ) (item : ChainItem) (xh : Exchange × Hub) → InBoth Both m xh → InBoth Both m (put_to_chain false m item xh)
  put_up m item (x, hub) is =
      let t : PassOutcome × List Stage = put_item hub.contexts item x.request in
      by_ended (InBoth Both m) (takes_nothing false x) (x, hub) (take_put false m x hub t) (λ e. is)
      (λ takes. passed_up m t.0 (record x { request = t.1 }) hub (taken takes t is))
    where
      taken : takes_nothing false x ≡ false → (t : PassOutcome × List Stage) → IsGuarded x → IsGuarded (record x { request = (put_item hub.contexts item x.request).1 })
      taken takes t (inl s) = absurd (never (takes_nothing false x) takes (silent.silent_takes x s))
      taken takes t (inr g) = inr (has_put vm context hub.contexts item x.request g.0, g.1)

  puts_up : (m : ℕ) (list : List ChainItem) (xh : Exchange × Hub) → InBoth Both m xh → InBoth Both m (put_all_to_chain false m list xh)
  puts_up m [] xh is = is
  puts_up m (item ∷ list) xh is = puts_up m list (put_to_chain false m item xh) (put_up m item xh is)

  -- ---- the VM dies

  dies_over : f.vm ≡ vm → f.context ≡ context → f.fails_open ≡ false → (m : ℕ) (x : Exchange) (hub : Hub) → IsGuarded x → IsSilenced (passing.lose_vm vm m x hub).0
  dies_over of its shut m x hub is =
      by_ended (λ (r : Exchange × Hub). IsSilenced r.0) x.has_ended (x, hub) (if fails_closed vm x then answer_directly m 503 [] [] x hub else bypass_vm vm m x hub) (λ e. inl e)
      (λ runs.
      by_ended (λ (r : Exchange × Hub). IsSilenced r.0) (fails_closed vm x) (answer_directly m 503 [] [] x hub) (bypass_vm vm m x hub)
      (λ c. inl (directly_ended m 503 x hub).1) (λ c. passes c is))
    where
      passes : fails_closed vm x ≡ false → IsGuarded x → IsSilenced (bypass_vm vm m x hub).0
      passes c (inl s) = (silent.both_dies (λ h. Unit {0}) (λ h d e. tt) (λ h more none e. tt) vm m x hub (s, tt)).0
      passes c (inr g) =
          absurd (never (fails_closed vm x) c
          (closes_by vm k f x g.1 of shut (there_by f x (subst (λ (v : ℕ). has_stage_of v f.context x.request ≡ true) (sym of) (subst (λ (d : ℕ). has_stage_of vm d x.request ≡ true) (sym its) (has_it vm context x.request g.0))))))

-- ---- rooms

module _ (n vm context k : ℕ) (f : Filter) (of : f.vm ≡ vm) (its : f.context ≡ context) (shut : f.fails_open ≡ false) (base : List Sent) (low : is_call_line n ≡ false) where
  abbrev pub L : Bool → List ℕ → Type 0
  L true dead = list_any (λ (d : ℕ). d == vm) dead ≡ false
  L false dead = Unit {0}

  abbrev pub X : Bool → Exchange → Type 0
  X true x = IsGuarded vm context k f x
  X false x = IsSilenced x

  abbrev pub D : Bool → ℕ → Type 0
  D true gone = gone ≡ vm → ⊥
  D false gone = Unit {0}

  abbrev Lasts : Bool → Type 0
  Lasts i = lasting.IsLasting n base low Bool (λ j. false) L X D Any i

  pub lasts : (i : Bool) → Lasts i
  lasts true = record {
    aside = λ x y a is. guarded_aside vm context k f x y a is;
    shut = λ x y s is. inl (silent.silenced_shut x y s);
    continues = λ j x hub runs is q. (continues_up vm context k f n j x hub is, λ e. absurd (cc e));
    dies = λ gone x hub d runs passes is q. (bypass_up vm context k f gone n x hub is, λ e. absurd (cc e));
    asks = λ x hub goes is q. (asks_up vm context k f n x hub is, λ e. absurd (cc e));
    died = λ dead gone d is. lives_on vm gone dead d is;
  }
  lasts false = record {
    aside = λ x y a is. silent.silenced_aside x y a is;
    shut = λ x y s is. silent.silenced_shut x y s;
    continues = λ j x hub runs is q. ((silent.both_continues (λ h. Unit {0}) (λ h d e. tt) (λ h more none e. tt) n j x hub runs is tt).0, λ e. absurd (cc e));
    dies = λ gone x hub d runs passes is q. ((silent.both_dies (λ h. Unit {0}) (λ h d e. tt) (λ h more none e. tt) gone n x hub (is, tt)).0, λ e. absurd (cc e));
    asks = λ x hub goes is q. ((silent.both_asks (λ h. Unit {0}) (λ h d e. tt) (λ h more none e. tt) n x hub (is, tt)).0, λ e. absurd (cc e));
    died = λ dead gone d is. tt;
  }

  puts : (i : Bool) → lasting.Puts n base low Bool (λ j. false) L X D Any i
  puts true list x hub is q = (pick (λ (r : Exchange × Hub). IsGuarded vm context k f r.0) x.is_answered (x, hub) (put_all_to_chain false n list (x, hub)) is (puts_up vm context k f n list (x, hub) is), λ e. absurd (cc e))
  puts false list x hub is q = ((silent.both_puts (λ h. Unit {0}) (λ h d e. tt) (λ h more none e. tt) n list x hub (is, tt)).0, λ e. absurd (cc e))

  abbrev pub Fair : Bool → Room → Type 0
  Fair i room = lasting.Fair n base low Bool (λ j. false) L X D Any i room

  abbrev pub P : Room → Type 0
  P room = lasting.P n base low Bool (λ j. false) L X D Any room

  over_each : (lines : List Line) (hub : Hub) → OfEach (lasting.XOf n base low Bool (λ j. false) L X D Any true) lines → OfEach (lasting.XOf n base low Bool (λ j. false) L X D Any false) (all_lines (passing.lose_vm vm) lines hub).0
  over_each [] hub of_each = tt
  over_each (line ∷ lines) hub of_each = (one line.exchange refl of_each.0, over_each lines (in_line (passing.lose_vm vm) line hub).1 of_each.1)
    where
      one : (o : Option Exchange) → line.exchange ≡ o → OfExchange (lasting.XOf n base low Bool (λ j. false) L X D Any true) line.number o
          → OfLine (lasting.XOf n base low Bool (λ j. false) L X D Any false) (in_exchange (passing.lose_vm vm) line o hub).0
      one None at is = subst (OfExchange (lasting.XOf n base low Bool (λ j. false) L X D Any false) line.number) (sym at) tt
      one (Some x) at is = λ same. dies_over vm context k f of its shut line.number x hub (is same)

  dies : (i : Bool) (gone : ℕ) (death : Death) (room : Room) → Fair i room → P (lose_vm_in gone death room)
  dies true gone death room s =
      ⊎_elim
      (λ (same : gone ≡ vm).
      subst (λ (v : ℕ). P (lose_vm_in v death room)) (sym same)
      (false, (over_each room.lines (room_with_sent (to.Log Critical (death_text (vm_in room.hub.contexts vm).name death) ∷ []) room).hub s.0, (λ e. absurd (cc e)), (tt, s.2.1, s.2.2, s.2.3))))
      (λ (other : gone ≡ vm → ⊥). (true, lasting.fair_dies n base low Bool (λ j. false) L X D Any true (lasts true) gone death room other s)) (cases_eq gone vm)
  dies false gone death room s = (false, lasting.fair_dies n base low Bool (λ j. false) L X D Any false (lasts false) gone death room tt s)

  pub calm : IsCalm P
  calm = lasting.calm n base low Bool (λ j. false) L X D Any lasts puts dies

  pub stepped : (plan : Plan) → IsStepped plan (Unheard n) Any P P
  stepped plan = lasting.stepped n base low Bool (λ j. false) L X D Any lasts puts dies plan
