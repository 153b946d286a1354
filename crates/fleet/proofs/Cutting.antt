-- The events of a worker are those of its lives, and its calls those that the meanings of these call first.
use Rattle.std.proofs.Common.{◌≡◌, ◌∙◌, ℕ, zero, suc, Bool, List, [], ◌∷◌, ◌++◌, append_assoc, length, Option, ap, arith, inl, inr, ◌⊎◌, length-append, refl, sym, subst}
use Rattle.std.proofs.lemmas.List.{append-nil}
use Rattle.filter_host.specs.Called.{Calling}
use Rattle.filter_host.specs.Course.{Course, Goes, calls_in}
use Rattle.fleet.specs.Closing.{AreCloses}
use Rattle.fleet.specs.Laws.{AllLivesAreMeant, CallsOfLives, events_of_lives}
use Rattle.fleet.specs.Lives.{Cut, Early, Last, Life, OneLife}
use Rattle.fleet.specs.Made.{events_in_last, events_in_life, events_in_one, events_of_early, made_in_early, made_in_last, made_in_life, made_in_one}
use Rattle.gate_io.specs.Passing.{happened}
use Rattle.gate_io.specs.Reads.{happened-append}
use Rattle.gate_io.specs.Told.{Gains, gains_more, gains_nothing}
use Rattle.gate_io.specs.declared.event.Event.{Event}
use Rattle.gate_io.specs.declared.passed.Passed.{Passed}
use Rattle.gate_io.specs.declared.passed.Passed.TheVariants.{Asked, Gave, Took, Short}
use Rattle.worker_meaning.specs.Meaning.{Run, meaning}
use Rattle.shared_seats.specs.Moving.{SeatsGoOn, seats_nothing}
use Rattle.shared_seats.specs.Seats.{SeatsOf}
use Rattle.store_model.specs.Made.{Made}
use Rattle.worker_model.specs.State.{Standing}
use Rattle.worker_model.specs.declared.types.Turn.{Turn}
use Rattle.worker_model.specs.declared.types.Turn.TheVariants.{OutOfMemory}
use Rattle.fleet.proofs.Meant.{lives_are_meant}

no_event : (steps : List Passed) → AreCloses steps → happened steps ≡ []
no_event [] h = refl
no_event (Asked wants ∷ steps) h = absurd h
no_event (Gave event ∷ steps) h = absurd h
no_event (Took sent ∷ steps) h = no_event steps h.1
no_event (Short line side ∷ steps) h = absurd h

events_push : (lives : List (List Event)) (events : List Event) → events_of_lives (lives ++ events ∷ []) ≡ events_of_lives lives ++ events
events_push [] events = append-nil events
events_push (x ∷ lives) events = ap (λ (es : List Event). x ++ es) (events_push lives events) ∙ sym (append_assoc x (events_of_lives lives) events)

module _ {H : Type 0} (calling : Calling H) (first : Standing H) where
  -- a life after others
  calls_push : (lives : List (List Event)) (s t u : SeatsOf) (calls : List Made) (events : List Event) (left : Course (Run H)) → CallsOfLives calling first lives s calls t
      → (goes : Goes SeatsGoOn t (meaning calling first events) left u) → CallsOfLives calling first (lives ++ events ∷ []) s (calls ++ calls_in goes.met) u
  calls_push [] s t u calls events left h goes =
      subst (λ (x : SeatsOf × List Made). CallsOfLives calling first (events ∷ []) x.0 (x.1 ++ calls_in goes.met) u) (λ i. (h.1 i, sym h.0 i))
      (u, left, goes, [], sym (append-nil (calls_in goes.met)), (refl, refl))
  calls_push (x ∷ lives) s t u calls events left h goes = (
    h.0,
    h.1,
    h.2,
    h.3 ++ calls_in goes.met,
    ap (λ (cs : List Made). cs ++ calls_in goes.met) h.4 ∙ append_assoc (calls_in h.2.met) h.3 (calls_in goes.met),
    calls_push lives h.0 t u h.3 events left h.5 goes,
  )

  -- one life, with its events and its calls
  record OneBy (s : SeatsOf) (old : Option (List Passed)) (t : SeatsOf) (new : Option (List Passed)) (events : List Event) (calls : List Made) : Type 0 where
    pub steps : List Passed
    pub told : Gains old steps new
    pub given : happened steps ≡ events
    pub left : Course (Run H)
    pub goes : Goes SeatsGoOn s (meaning calling first events) left t
    pub calls_are : calls_in goes.met ≡ calls

  by_life : (s : SeatsOf) (old : Option (List Passed)) (end : Turn) (to : Standing H) (t : SeatsOf) (new : Option (List Passed)) → (life : Life calling SeatsGoOn s old first end to t new)
      → OneBy s old t new (events_in_life calling SeatsGoOn s old first end to t new life) (made_in_life calling SeatsGoOn s old first end to t new life)
  by_life s old end to t new life =
      let far = (lives_are_meant calling s old first end to t new life).as_far in
      record { steps = far.steps; told = far.told; given = far.given; left = far.left; goes = far.goes; calls_are = far.calls }

  -- (none where it was not begun)
  by_none : (s : SeatsOf) (old : Option (List Passed)) → OneBy s old s old [] []
  by_none s old = record { steps = []; told = gains_nothing old; given = refl; left = meaning calling first []; goes = record { met = []; reaches = refl; performed = seats_nothing s }; calls_are = refl }

  by_one : (s : SeatsOf) (old : Option (List Passed)) (end : Turn) (took : Bool) (t : SeatsOf) (new : Option (List Passed)) → (h : OneLife calling SeatsGoOn first s old end took t new)
      → OneBy s old t new (events_in_one calling SeatsGoOn first s old end took t new h) (made_in_one calling SeatsGoOn first s old end took t new h)
  by_one s old end took t new (inl l) = by_life s old end l.after t new l.life
  by_one s old end took t new (inr e) = subst (λ (x : SeatsOf × Option (List Passed)). OneBy s old x.0 x.1 [] []) (λ i. (sym e.shared i, sym e.told i)) (by_none s old)

  -- so many lives
  record ManyBy (n : ℕ) (s : SeatsOf) (old : Option (List Passed)) (t : SeatsOf) (new : Option (List Passed)) (lives : List (List Event)) (calls : List Made) : Type 0 where
    pub steps : List Passed
    pub told : Gains old steps new
    pub many : length lives ≡ n
    pub cut : happened steps ≡ events_of_lives lives
    pub goes : CallsOfLives calling first lives s calls t

  many_more : (n : ℕ) (s t u : SeatsOf) (old mid left new : Option (List Passed)) (lives : List (List Event)) (events : List Event) (calls more : List Made) (closes : List Passed) → ManyBy n s old t mid lives calls → OneBy t mid u left events more → Gains left closes new
      → happened closes ≡ [] → ManyBy (suc n) s old u new (lives ++ events ∷ []) (calls ++ more)
  many_more n s t u old mid left new lives events calls more closes m one told none =
      let long = length-append lives (events ∷ []) in
      let many = m.many in
      let given : happened ((m.steps ++ one.steps) ++ closes) ≡ happened m.steps ++ events =
      happened-append (m.steps ++ one.steps) closes ∙ (λ i. (happened-append m.steps one.steps ∙ ap (λ (es : List Event). happened m.steps ++ es) one.given) i ++ none i) ∙ append-nil (happened m.steps ++ events) in
      record {
        steps = (m.steps ++ one.steps) ++ closes;
        told = gains_more old (m.steps ++ one.steps) left closes new (gains_more old m.steps mid one.steps left m.told one.told) told;
        many = (omega (arith, long, many));
        cut = given ∙ ap (λ (es : List Event). es ++ events) m.cut ∙ sym (events_push lives events);
        goes = subst (λ (cs : List Made). CallsOfLives calling first (lives ++ events ∷ []) s (calls ++ cs) u) one.calls_are (calls_push lives s t u calls events one.left m.goes one.goes);
      }

  many_early : (n : ℕ) (s : SeatsOf) (old : Option (List Passed)) (t : SeatsOf) (new : Option (List Passed)) → (h : Early calling SeatsGoOn first n s old t new)
      → ManyBy n s old t new (events_of_early calling SeatsGoOn first n s old t new h) (made_in_early calling SeatsGoOn first n s old t new h)
  many_early zero s old t new h =
      subst (λ (x : SeatsOf × Option (List Passed)). ManyBy zero s old x.0 x.1 [] []) (λ i. (sym h.0 i, sym h.1 i))
      (record { steps = []; told = gains_nothing old; many = refl; cut = refl; goes = (refl, refl) })
  many_early (suc n) s old t new h =
      many_more n s h.0 t old h.1 h.3.left new _ _ _ _ h.3.closes.steps (many_early n s old h.0 h.1 h.2) (by_life h.0 h.1 OutOfMemory h.3.lived.after t h.3.left h.3.lived.life) h.3.closes.told
      (no_event h.3.closes.steps h.3.closes.closes)

  many_last : (n : ℕ) (s u : SeatsOf) (old mid : Option (List Passed)) (end : Turn) (t : SeatsOf) (new : Option (List Passed)) (lives : List (List Event)) (calls : List Made) → ManyBy n s old u mid lives calls
      → (h : Last calling SeatsGoOn first u mid end t new ⊎ Cut calling SeatsGoOn first u mid end t new) → ManyBy (suc n) s old t new (lives ++ events_in_last calling SeatsGoOn first u mid end t new h ∷ []) (calls ++ made_in_last calling SeatsGoOn first u mid end t new h)
  many_last n s u old mid end t new lives calls m (inl l) = many_more n s u t old mid new new lives _ calls _ [] m (by_one u mid end l.took t new l.once) (gains_nothing new) refl
  many_last n s u old mid end t new lives calls m (inr k) =
      many_more n s u t old mid k.left new lives _ calls _ k.closes.steps m (by_life u mid OutOfMemory k.lived.after t k.left k.lived.life) k.closes.told (no_event k.closes.steps k.closes.closes)

pub all_lives_are_meant : {H : Type 0} (calling : Calling H) → AllLivesAreMeant calling
all_lives_are_meant calling first s old end again t new lives =
    let all = many_last calling first lives.count s lives.at old lives.mid end t new _ _ (many_early calling first lives.count s old lives.at lives.mid lives.early) lives.last in
    record {
      steps = all.steps;
      told = all.told;
      cut = all.cut;
      goes = all.goes;
      one = λ e. all.many ∙ ap suc (lives.once e);
    }
