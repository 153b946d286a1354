-- The lives of a worker are meant.
use Rattle.std.proofs.Common.{◌≡◌, ◌⊎◌, ◌∙◌, ℕ, zero, suc, Bool, List, [], ◌∷◌, ◌++◌, Option, refl, ap, sym, subst, inl, inr, append_assoc}
use Rattle.std.specs.Prelude.{All}
use Rattle.std.proofs.lemmas.List.{append-nil}
use Rattle.std.proofs.lemmas.List.Elements.{All-cons, All-nil, All-append}
use Rattle.filter_host.specs.Called.{Calling}
use Rattle.filter_host.specs.Course.{Course, Goes, Met, Reaches, called, calls_in, ends, heard, measured}
use Rattle.fleet.specs.Laws.{LivesAreMeant}
use Rattle.worker_meaning.specs.Meaning.{Means}
use Rattle.fleet.specs.Closing.{AreCloses}
use Rattle.fleet.specs.Lives.{Cut, Early, Last, Lives, OneLife}
use Rattle.fleet.specs.Lives as fleet
use Rattle.fleet.specs.Made.{made_in, made_in_turns, made_in_early, made_in_last, made_in_life, made_in_one, made_in_turn}
use Rattle.gate_io.specs.Told.{Gains, gains_more, gains_nothing}
use Rattle.gate_io.specs.declared.event.Event.{Event}
use Rattle.gate_io.specs.declared.event.Sent.{Sent}
use Rattle.gate_io.specs.declared.passed.Passed.{Passed}
use Rattle.gate_io.specs.declared.passed.Passed.TheVariants.{Asked, Gave}
use Rattle.gate_io.specs.declared.passed.Wants.{Wants}
use Rattle.send_queue.specs.Delivery.{Delivered}
use Rattle.send_queue.specs.Turns as out
use Rattle.send_queue.specs.Turns.{to_go}
use Rattle.shared_seats.specs.Moving.{SeatsGoOn}
use Rattle.shared_seats.specs.Seats.{SeatsOf}
use Rattle.store_model.specs.Made as store
use Rattle.store_model.specs.Made.{Made}
use Rattle.worker_model.specs.State.{Setting, Standing, rules_of}
use Rattle.worker_model.specs.Turn.{Outcome}
use Rattle.streams_model.specs.Turn.{turn}
use Rattle.worker_model.specs.Turned.{NoEvent, one_turn}
use Rattle.streams_model.specs.Turned.{Turned, worker_wants}
use Rattle.worker_model.specs.declared.types.Turn.{Turn}
use Rattle.worker_model.specs.declared.types.Turn.TheVariants.{Went, Stopped, WorldFault, OutOfMemory}
use Rattle.promises.specs.Headline.{AreTurns, IsCut, IsMeant, IsWhole, Life, calls_of, passed_in}

calls_join : (ms ns : List Met) → calls_in (ms ++ ns) ≡ calls_in ms ++ calls_in ns
calls_join [] ns = refl
calls_join (called c ∷ ms) ns = ap (λ (x : List Made). store.called c ∷ x) (calls_join ms ns)
calls_join (measured c ∷ ms) ns = ap (λ (x : List Made). store.measured c ∷ x) (calls_join ms ns)
calls_join (heard h ∷ ms) ns = calls_join ms ns

calls_push : (lives : List Life) (l : Life) → calls_of (lives ++ l ∷ []) ≡ calls_of lives ++ calls_in l.met
calls_push [] l = append-nil (calls_in l.met)
calls_push (x ∷ lives) l = ap (λ (ms : List Made). calls_in x.met ++ ms) (calls_push lives l) ∙ sym (append_assoc (calls_in x.met) (calls_of lives) (calls_in l.met))

passed_push : (lives : List Life) (l : Life) → passed_in (lives ++ l ∷ []) ≡ passed_in lives ++ (l.passed ++ l.closes)
passed_push [] l = append-nil (l.passed ++ l.closes)
passed_push (x ∷ lives) l = ap (λ (ms : List Passed). (x.passed ++ x.closes) ++ ms) (passed_push lives l) ∙ sym (append_assoc (x.passed ++ x.closes) (passed_in lives) (l.passed ++ l.closes))

module _ {H : Type 0} (calling : Calling H) (first : Standing H) (law : LivesAreMeant calling) where
  -- turns that are meant, with their calls
  record Meant (s : SeatsOf) (old : Option (List Passed)) (to : Standing H) (t : SeatsOf) (new : Option (List Passed)) (calls : List Made) : Type 0 where
    pub all : Means calling SeatsGoOn s old first to t new
    pub calls_are : calls_in all.goes.met ≡ calls

  -- one life, after which these closes pass
  record One (closes : List Passed) (old new : Option (List Passed)) (calls : List Made) : Type 0 where
    pub life : Life
    pub is : IsWhole calling first life ⊎ IsCut calling first life
    pub closes_are : life.closes ≡ closes
    pub calls_are : calls ≡ calls_in life.met
    pub told : Gains old life.passed new

  abbrev turns_of : (s : SeatsOf) (old : Option (List Passed)) (to : Standing H) (t : SeatsOf) (new : Option (List Passed)) (calls : List Made) (m : Meant s old to t new calls)
      → AreTurns calling first (out.events_of m.all.turns) m.all.goes.met m.all.steps
  turns_of s old to t new calls m = record { state = to.state; turns = m.all.turns; means = m.all.goes.reaches; waits = to.waiting; delivers = m.all.delivers }

  none_more : (closes : List Passed) (s u t : SeatsOf) (old mid new : Option (List Passed)) (at to : Standing H) (calls : List Made) (vain : List Passed) → Meant s old at u mid calls
      → (vain ≡ []) ⊎ ((wants : Wants) × (vain ≡ Asked wants ∷ [])) → NoEvent u mid at vain to t new → One closes old new (calls ++ [])
  none_more closes s u t old mid new at to calls vain m is h =
      let life : Life = record { events = out.events_of m.all.turns; met = m.all.goes.met; passed = m.all.steps ++ vain; closes = closes } in
      let whole : IsWhole calling first life = record { steps = m.all.steps; vain = vain; passed_is = refl; in_vain = is; turns = turns_of s old at u mid calls m } in
      record { life = life; is = inl whole; closes_are = refl; calls_are = append-nil calls ∙ sym m.calls_are; told = gains_more old m.all.steps mid vain new m.all.told h.told }

  one_more : (closes : List Passed) (s t : SeatsOf) (old new : Option (List Passed)) (to : Standing H) (calls : List Made) → Meant s old to t new calls → One closes old new calls
  one_more closes s t old new to calls m =
      let life : Life = record { events = out.events_of m.all.turns; met = m.all.goes.met; passed = m.all.steps; closes = closes } in
      let whole : IsWhole calling first life = record { steps = m.all.steps; vain = []; passed_is = sym (append-nil m.all.steps); in_vain = inl refl; turns = turns_of s old to t new calls m } in
      record { life = life; is = inl whole; closes_are = refl; calls_are = sym m.calls_are; told = m.all.told }

  cut_more : (closes : List Passed) (s u t : SeatsOf) (old mid new : Option (List Passed)) (at : Standing H) (calls : List Made) (event : Event) (left : Course (Outcome H)) (taken : List Passed)
      (m : Meant s old at u mid calls) → (w : Goes SeatsGoOn u (turn calling (rules_of at.setting) at.state event) left t) → Gains mid (Asked (worker_wants at) ∷ Gave event ∷ taken) new
      → (taken ≡ []) ⊎ ((end : Outcome H) × (rest : List Sent) × (left ≡ ends end) × Delivered (to_go at.waiting (one_turn event end.sent)) taken rest) → One closes old new (calls ++ calls_in w.met)
  cut_more closes s u t old mid new at calls event left taken m w told front =
      let life : Life = record { events = out.events_of m.all.turns ++ event ∷ []; met = m.all.goes.met ++ w.met; passed = m.all.steps ++ Asked (worker_wants at) ∷ Gave event ∷ taken; closes = closes } in
      let goes : Reaches (turn calling (rules_of first.setting) at.state event) w.met left = subst (λ (x : Setting). Reaches (turn calling (rules_of x) at.state event) w.met left) m.all.setting_is w.reaches in
      let cut : IsCut calling first life = record {
        before = out.events_of m.all.turns;
        event = event;
        events_is = refl;
        earlier = m.all.goes.met;
        later = w.met;
        met_is = refl;
        steps = m.all.steps;
        wants = worker_wants at;
        taken = taken;
        passed_is = refl;
        turns = turns_of s old at u mid calls m;
        left = left;
        goes = goes;
        front = front;
      } in
      record {
        life = life;
        is = inr cut;
        closes_are = refl;
        calls_are = ap (λ (cs : List Made). cs ++ calls_in w.met) (sym m.calls_are) ∙ sym (calls_join m.all.goes.met w.met);
        told = gains_more old m.all.steps mid (Asked (worker_wants at) ∷ Gave event ∷ taken) new m.all.told told;
      }

  -- a life behind whose whole turns memory ran out
  out_of_memory : (closes : List Passed) (s u t : SeatsOf) (old mid new : Option (List Passed)) (at to : Standing H) (calls : List Made) → Meant s old at u mid calls
      → (h : Turned calling SeatsGoOn u mid at OutOfMemory to t new) → One closes old new (calls ++ made_in_turn calling SeatsGoOn OutOfMemory u mid at to t new h)
  out_of_memory closes s u t old mid new at to calls m (inl h) = none_more closes s u t old mid new at to calls _ m (inl refl) h
  out_of_memory closes s u t old mid new at to calls m (inr (inl h)) = cut_more closes s u t old mid new at calls h.event h.left [] m h.goes h.told (inl refl)
  out_of_memory closes s u t old mid new at to calls m (inr (inr h)) =
      cut_more closes s u t old mid new at calls h.event (ends h.end) h.taken m h.goes h.told (inr (h.end, h.rest, refl, h.delivered))

  one_of : (closes : List Passed) (s : SeatsOf) (old : Option (List Passed)) (end : Turn) (to : Standing H) (t : SeatsOf) (new : Option (List Passed)) (life : fleet.Life calling SeatsGoOn s old first end to t new)
      → One closes old new (made_in_life calling SeatsGoOn s old first end to t new life)
  one_of closes s old Went to t new life = absurd (life.ended refl)
  one_of closes s old Stopped to t new life =
      let m = law s old first Stopped to t new life in
      let calls : List Made = made_in_life calling SeatsGoOn s old first Stopped to t new life in
      let is : Meant s old to t new calls = record { all = m.to_stop refl; calls_are = m.calls_to_stop refl } in
      one_more closes s t old new to calls is
  one_of closes s old WorldFault to t new life =
      let m = law s old first WorldFault to t new life in
      let calls : List Made = made_in_turns calling SeatsGoOn life.count s old first life.before life.at life.mid life.went in
      let is : Meant s old life.before life.at life.mid calls = record { all = m.before_last; calls_are = m.calls } in
      none_more closes s life.at t old life.mid new life.before to calls (Asked (worker_wants life.before) ∷ []) is (inr (worker_wants life.before, refl)) life.last
  one_of closes s old OutOfMemory to t new life =
      let m = law s old first OutOfMemory to t new life in
      let calls : List Made = made_in_turns calling SeatsGoOn life.count s old first life.before life.at life.mid life.went in
      let is : Meant s old life.before life.at life.mid calls = record { all = m.before_last; calls_are = m.calls } in
      out_of_memory closes s life.at t old life.mid new life.before to calls is life.last

  -- ---- lives, one after the other
  pub record Several (old new : Option (List Passed)) (calls : List Made) : Type 0 where
    pub lives : List Life
    pub meant : All (IsMeant calling first) lives
    pub calls_are : calls ≡ calls_of lives
    pub told : Gains old (passed_in lives) new

  push : (closes : List Passed) (old mid left new : Option (List Passed)) (calls more : List Made) → Several old mid calls → One closes mid left more → AreCloses closes → Gains left closes new → Several old new (calls ++ more)
  push closes old mid left new calls more many one are told =
      let closes_of : AreCloses one.life.closes = subst AreCloses (sym one.closes_are) are in
      let meant : IsMeant calling first one.life = (one.is, closes_of) in
      let told_of : Gains left one.life.closes new = subst (λ (c : List Passed). Gains left c new) (sym one.closes_are) told in
      record {
        lives = many.lives ++ one.life ∷ [];
        meant = All-append (IsMeant calling first) many.lives (one.life ∷ []) many.meant (All-cons (IsMeant calling first) one.life [] meant (All-nil (IsMeant calling first)));
        calls_are = (λ i. many.calls_are i ++ one.calls_are i) ∙ sym (calls_push many.lives one.life);
        told = subst (λ (p : List Passed). Gains old p new) (sym (passed_push many.lives one.life))
            (gains_more old (passed_in many.lives) mid (one.life.passed ++ one.life.closes) new many.told (gains_more mid one.life.passed left one.life.closes new one.told told_of));
      }

  nobody : (old new : Option (List Passed)) → new ≡ old → Several old new []
  nobody old new same = record { lives = []; meant = All-nil (IsMeant calling first); calls_are = refl; told = subst (λ (x : Option (List Passed)). Gains old [] x) (sym same) (gains_nothing old) }

  early : (n : ℕ) (s : SeatsOf) (old : Option (List Passed)) (t : SeatsOf) (new : Option (List Passed)) (h : Early calling SeatsGoOn first n s old t new)
      → Several old new (made_in_early calling SeatsGoOn first n s old t new h)
  early zero s old t new h = nobody old new h.1
  early (suc n) s old t new h =
      push h.3.closes.steps old h.1 h.3.left new _ _ (early n s old h.0 h.1 h.2) (one_of h.3.closes.steps h.0 h.1 OutOfMemory h.3.lived.after t h.3.left h.3.lived.life) h.3.closes.closes h.3.closes.told

  at_last : (s : SeatsOf) (old mid : Option (List Passed)) (end : Turn) (t : SeatsOf) (new : Option (List Passed)) (calls : List Made) → Several old mid calls
      → (h : Last calling SeatsGoOn first s mid end t new ⊎ Cut calling SeatsGoOn first s mid end t new) → Several old new (calls ++ made_in_last calling SeatsGoOn first s mid end t new h)
  at_last s old mid end t new calls many (inl l) = once l.once
    where
      once : (o : OneLife calling SeatsGoOn first s mid end l.took t new) → Several old new (calls ++ made_in_one calling SeatsGoOn first s mid end l.took t new o)
      once (inl x) = push [] old mid new new calls _ many (one_of [] s mid end x.after t new x.life) tt (gains_nothing new)
      once (inr x) = record {
        lives = many.lives;
        meant = many.meant;
        calls_are = append-nil calls ∙ many.calls_are;
        told = subst (λ (y : Option (List Passed)). Gains old (passed_in many.lives) y) (sym x.told) many.told;
      }
  at_last s old mid end t new calls many (inr k) = push k.closes.steps old mid k.left new calls _ many (one_of k.closes.steps s mid OutOfMemory k.lived.after t k.left k.lived.life) k.closes.closes k.closes.told

  -- ALL LIVES OF A WORKER are meant
  pub all_lives : (s : SeatsOf) (old : Option (List Passed)) (end : Turn) (again : Bool) (t : SeatsOf) (new : Option (List Passed)) (h : Lives calling SeatsGoOn first s old end again t new)
      → Several old new (made_in calling SeatsGoOn first s old end again t new h)
  all_lives s old end again t new h = at_last h.at old h.mid end t new _ (early h.count s old h.at h.mid h.early) h.last
