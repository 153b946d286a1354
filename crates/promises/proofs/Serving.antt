-- A fleet has its headline.
use Rattle.std.proofs.Common.{◌≡◌, ◌∙◌, ℕ, zero, suc, ◌+◌, ◌≤◌, Bool, if◌then◌else◌, List, [], ◌∷◌, ◌++◌, length, map, reverse, Option, refl, ap, sym, subst, arith, inl, inr, ⊎_elim, eq-eqb, ne_eqb}
use Rattle.std.proofs.lemmas.Bool.{cases_eq}
use Rattle.std.proofs.lemmas.Grind.{reverse_onto}
use Rattle.filter_host.specs.Called.{Calling}
use Rattle.fleet.specs.Fleet.{Each, HasWorked}
use Rattle.fleet.specs.Made.{made_in}
use Rattle.fleet.specs.Moves.{AreFrom, seats_in}
use Rattle.fleet.specs.Run.{Ended}
use Rattle.fleet.specs.declared.post.Post.{Post}
use Rattle.law_fleet.specs.Calls.{EachCallStandsOnce, made_by}
use Rattle.gate_config.specs.declared.config.Config.{Config}
use Rattle.gate_io.specs.Nature.{Nature}
use Rattle.gate_io.specs.declared.passed.Passed.{Passed}
use Rattle.shared_seats.specs.Closed.{ClosedOf}
use Rattle.shared_seats.specs.Moving.{SeatsGoOn}
use Rattle.shared_seats.specs.Seats.{SeatsOf}
use Rattle.store_model.specs.Made.{Made}
use Rattle.worker_model.specs.State.{Standing}
use Rattle.promises.specs.Headline.{Did, Headline, Life}
use Rattle.commands.specs.Doing.{Obeys, serve_status}
use Rattle.gate_io.specs.Told.{Gains}
use Rattle.command_serve_filters.specs.Filtered.{ServesFiltered}
use Rattle.command_serve.specs.Serving.{Eyes, Seen, Serves, settings_of}
use Rattle.command_serve.specs.declared.running.ServeEnd.{ServeEnd}
use Rattle.command_serve.specs.declared.running.ServeEnd.TheVariants as serving
use Rattle.command_statuses.specs.declared.status.Status.{Status}
use Rattle.vm_host.specs.Slots as slots
use Rattle.promises.specs.Replays.{first_of}
use Rattle.promises.specs.Serves.{AtPost, Began, FleetsHaveTheirHeadline, PromisedOf, ServeHasItsHeadline}
use Rattle.promises.proofs.Living.{all_lives}
use Rattle.fleet.specs.Laws.{LivesAreMeant}

module _ {W H : Type 0} (trace_of : W → Option (List Passed)) (nature_of : W → Nature) (faults_of : W → ℕ) (calling : Calling H) (meant : LivesAreMeant calling) (first : ℕ → List ℕ → Standing H) where
  abbrev DidIt : Post W → Post W → Type 0
  DidIt = HasWorked trace_of nature_of faults_of calling first

  abbrev by : (who : ℕ) (before after : List (Post W)) → Each DidIt before after → List Made
  by who before after each = made_by trace_of nature_of faults_of calling first who before after each

  abbrev At : (before after : List (Post W)) → ℕ → List ℕ → List Life → Type 0
  At before after = AtPost trace_of nature_of before after

  here : (p q : Post W) (ps qs : List (Post W)) (each : Each DidIt (p ∷ ps) (q ∷ qs))
      → Did calling (first p.who) (At (p ∷ ps) (q ∷ qs) p.who) (made_in calling SeatsGoOn _ p.seats _ q.end q.again q.seats _ each.0.lives)
  here p q ps qs each =
      let seed = (nature_of p.watched).seed in
      let far = all_lives calling (first p.who seed) meant p.seats (trace_of p.watched) q.end q.again q.seats (trace_of q.watched) each.0.lives in
      record {
        seed = seed;
        lives = far.lives;
        meant = far.meant;
        calls_are = far.calls_are;
        world = record { place = 0; old = p; new = q; old_is = refl; new_is = refl; number = refl; seed_is = refl; told = far.told };
      }

  behind : (who : ℕ) (p q : Post W) (ps qs : List (Post W)) (calls : List Made) → Did calling (first who) (At ps qs who) calls → Did calling (first who) (At (p ∷ ps) (q ∷ qs) who) calls
  behind who p q ps qs calls d =
      let w = d.world in
      record {
        seed = d.seed;
        lives = d.lives;
        meant = d.meant;
        calls_are = d.calls_are;
        world = record { place = suc w.place; old = w.old; new = w.new; old_is = w.old_is; new_is = w.new_is; number = w.number; seed_is = w.seed_is; told = w.told };
      }

  did_at : (before after : List (Post W)) (each : Each DidIt before after) → AreFrom 0 before → (who : ℕ) → 1 ≤ who → who ≤ length before → Did calling (first who) (At before after who) (by who before after each)
  did_at [] after each from who low high = absurd (omega (arith, low, high))
  did_at (p ∷ ps) [] each from who low high = absurd each
  did_at (p ∷ ps) (q ∷ qs) each from who low high =
      ⊎_elim
      (λ (same : p.who ≡ who).
      subst (λ (ms : List Made). Did calling (first who) (At (p ∷ ps) (q ∷ qs) who) ms)
      (sym (ap (λ (b : Bool). if b then made_in calling SeatsGoOn _ p.seats _ q.end q.again q.seats _ each.0.lives else by who ps qs each.1) (eq-eqb p.who who same)))
      (subst (λ (w : ℕ). Did calling (first w) (At (p ∷ ps) (q ∷ qs) w) (made_in calling SeatsGoOn _ p.seats _ q.end q.again q.seats _ each.0.lives)) same (here p q ps qs each)))
      (λ (apart : p.who ≡ who → ⊥).
      let number = from.0 in
      subst (λ (ms : List Made). Did calling (first who) (At (p ∷ ps) (q ∷ qs) who) ms)
      (sym (ap (λ (b : Bool). if b then made_in calling SeatsGoOn _ p.seats _ q.end q.again q.seats _ each.0.lives else by who ps qs each.1) (ne_eqb p.who who apart)))
      (behind who p q ps qs (by who ps qs each.1) (did_at ps qs each.1 from.1 who low (lower (length ps) p.who who number high apart))))
      (cases_eq p.who who)
    where
      lower : (n p who : ℕ) → p ≡ n + 1 + 0 → who ≤ suc n → (p ≡ who → ⊥) → who ≤ n
      lower n p who number high apart = omega (arith, number, high, apart)

  long : (ps : List (Post W)) → length (reverse (map seats_in ps)) ≡ length ps
  long [] = refl
  long (p ∷ ps) = ap (λ (x : List SeatsOf). length x) (reverse_onto (map seats_in ps) (seats_in p) []) ∙ more (reverse (map seats_in ps)) (seats_in p) (length ps) (long ps)
    where
      more : (xs : List SeatsOf) (x : SeatsOf) (n : ℕ) → length xs ≡ n → length (xs ++ x ∷ []) ≡ suc n
      more [] x n e = ap suc e
      more (y ∷ xs) x zero e = absurd (omega (arith, e))
      more (y ∷ xs) x (suc n) e = ap suc (more xs x n (less xs n e))
        where
          less : (xs : List SeatsOf) (n : ℕ) → suc (length xs) ≡ suc n → length xs ≡ n
          less xs n e = omega (arith, e)

  pub fleet_headline : EachCallStandsOnce trace_of nature_of faults_of calling → (config : Config) (old new : List W) (closed : ClosedOf) (ended : Ended trace_of nature_of faults_of calling first config old new closed)
      → Headline calling first config (At ended.worked.before ended.worked.after)
  fleet_headline law config old new closed ended =
      let w = ended.worked in
      let count : length w.before ≡ config.workers = sym (long w.before) ∙ w.seats.as_many in
      record {
        calls = λ who. by who w.before w.after w.worked;
        each = λ who low high. did_at w.before w.after w.worked w.numbers who low (omega (arith, high, count));
        histories = λ vm low.
            let all = law first config old new closed ended vm low in
            record { history = all.one.calls.history; legal = all.one.calls.legal; of_each = all.calls; no_others = all.no_other_calls };
      }

pub fleets_have_their_headline : {W H : Type 0} (trace_of : W → Option (List Passed)) (nature_of : W → Nature) (faults_of : W → ℕ) (calling : Calling H) → EachCallStandsOnce trace_of nature_of faults_of calling → LivesAreMeant calling
    → FleetsHaveTheirHeadline trace_of nature_of faults_of calling
fleets_have_their_headline trace_of nature_of faults_of calling law meant first config old new closed ended = fleet_headline trace_of nature_of faults_of calling meant first law config old new closed ended

-- ---- serving

-- a site that was not started ends as a fault, or as want of memory
abbrev IsRefusal : ServeEnd → Type 0
IsRefusal serving.Done = ⊥
IsRefusal serving.SiteFault = Unit {0}
IsRefusal serving.OutFault = ⊥
IsRefusal serving.OutOfMemory = Unit {0}

module _ {W : Type 0} (eyes : Eyes W) (law : EachCallStandsOnce eyes.trace eyes.nature eyes.faults slots.calling) (meant : LivesAreMeant slots.calling) (config : Config) (stop_after : Option ℕ) (site after : Seen W) where
  began : (started : Gains site.started (settings_of config stop_after ∷ []) after.started) (worlds : List W) → length worlds ≡ config.workers
      → Gains site.seeds (map (λ w. (eyes.nature w).seed) worlds) after.seeds → (closed : ClosedOf) (ended : Ended eyes.trace eyes.nature eyes.faults slots.calling (first_of config) config worlds after.returned closed)
      → Began eyes config stop_after site after closed
  unfolding fleet_headline
  began started worlds count seeds closed ended = record {
    started = started;
    worlds = worlds;
    count = count;
    seeds = seeds;
    before = ended.worked.before;
    behind = ended.worked.after;
    handed_out = ended.worked.old_is;
    given_back = ended.worked.new_is;
    headline = fleet_headline eyes.trace eyes.nature eyes.faults slots.calling meant (first_of config) law config worlds after.returned closed ended;
    counts = λ vm low.
        let all = law (first_of config) config worlds after.returned closed ended vm low in
        record { store = all.one.store; there = all.one.store_there; calls_is = all.one.calls.calls_is; store_is = all.one.calls.store_is };
  }

  by_end : (end : ServeEnd) (old new : Option (List ℕ)) → Serves eyes slots.calling (first_of config) config (settings_of config stop_after) end site after old new → PromisedOf eyes config stop_after (serve_status end) site after old new
  unfolding began
  by_end serving.Done old new (inl r) = absurd (⊎_elim (λ a. subst IsRefusal (sym a.0) tt) (λ b. subst IsRefusal (sym b.0) tt) r.how)
  by_end serving.Done old new (inr r) = (r.ends.0, began r.started r.worlds r.count r.seeds r.ends.0 r.ends.1.ended, r.ends.1.clean, r.ends.2)
  by_end serving.OutFault old new (inl r) = absurd (⊎_elim (λ a. subst IsRefusal (sym a.0) tt) (λ b. subst IsRefusal (sym b.0) tt) r.how)
  by_end serving.OutFault old new (inr r) = (r.ends.0, began r.started r.worlds r.count r.seeds r.ends.0 r.ends.1.ended, r.ends.1.clean, r.ends.2)
  by_end serving.SiteFault old new (inl r) = (inl r.returned, r.nothing)
  by_end serving.SiteFault old new (inr r) = (inr (r.ends.0.closed, began r.started r.worlds r.count r.seeds r.ends.0.closed r.ends.0.ended), r.ends.2)
  by_end serving.OutOfMemory old new (inl r) = r.nothing
  by_end serving.OutOfMemory old new (inr r) = r.ends.1

pub serve_has_its_headline : {W : Type 0} (eyes : Eyes W) → EachCallStandsOnce eyes.trace eyes.nature eyes.faults slots.calling → LivesAreMeant slots.calling → ServeHasItsHeadline eyes
unfolding Obeys ServesFiltered
serve_has_its_headline eyes law meant files path stop_after status site after old new (inl none) = inl none
serve_has_its_headline eyes law meant files path stop_after status site after old new (inr (config, loads, s)) =
    inr (config, loads, subst (λ (x : Status). PromisedOf eyes config stop_after x site after old new) (sym s.status_is) (by_end eyes law meant config stop_after site after s.end old new s.serves))
