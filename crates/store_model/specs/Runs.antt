-- How runs of programs begin, go on and join.
use Rattle.std.specs.Prelude.{◌≡◌, ℕ, List, [], ◌∷◌, ◌++◌, refl, Result, Ok, Err, IsErr, IfOk, Option, None, Some}
use Rattle.std.proofs.Common.{subst, sym, ap}
use Rattle.store_model.specs.Made.{Made, made, made_ask, called, measured}
use Rattle.store_model.specs.Program.{Program, done, ask, measure, bind, Reaches, Runs, Ends, Comes}
use Rattle.store_model.specs.declared.call.Call.{Call}
use Rattle.store_model.specs.declared.call.Reply.{Reply}
use Rattle.store_model.specs.declared.metric.MetricAsk.{MetricAsk}
use Rattle.store_model.specs.declared.metric.MetricReply.{MetricReply}

-- first these calls, and then those
pub reaches_join : {A : Type 0} (ms ns : List Made) (p q r : Program A) → Reaches p ms q → Reaches q ns r → Reaches p (ms ++ ns) r
reaches_join [] ns p q r same rest = subst (λ (x : Program _). Reaches x ns r) (sym same) rest
reaches_join (m ∷ ms) ns (done a) q r first rest = first
reaches_join (called m ∷ ms) ns (ask vm call k) q r first rest = (first.0, first.1, reaches_join ms ns (k m.reply) q r first.2 rest)
reaches_join (measured m ∷ ms) ns (ask vm call k) q r first rest = elim first [ ]
reaches_join (called m ∷ ms) ns (measure vm call k) q r first rest = elim first [ ]
reaches_join (measured m ∷ ms) ns (measure vm call k) q r first rest = (first.0, first.1, reaches_join ms ns (k m.reply) q r first.2 rest)

-- the calls of a part are calls of the whole
pub reaches_bind : {A B : Type 0} (ms : List Made) (p q : Program A) (f : A → Program B) → Reaches p ms q → Reaches (bind p f) ms (bind q f)
reaches_bind [] p q f same = ap (λ (x : Program _). bind x f) same
reaches_bind (m ∷ ms) (done a) q f first = elim first [ ]
reaches_bind (called m ∷ ms) (ask vm call k) q f first = (first.0, first.1, reaches_bind ms (k m.reply) q f first.2)
reaches_bind (measured m ∷ ms) (ask vm call k) q f first = elim first [ ]
reaches_bind (called m ∷ ms) (measure vm call k) q f first = elim first [ ]
reaches_bind (measured m ∷ ms) (measure vm call k) q f first = (first.0, first.1, reaches_bind ms (k m.reply) q f first.2)

-- ---- programs in three parts, and parts that agree
pub bind_assoc : {A B C : Type 0} (p : Program A) (f : A → Program B) (g : B → Program C) → bind (bind p f) g ≡ bind p (λ a. bind (f a) g)
bind_assoc (done a) f g = refl
bind_assoc (ask vm call k) f g = λ i. ask vm call (λ r. bind_assoc (k r) f g i)
bind_assoc (measure vm call k) f g = λ i. measure vm call (λ r. bind_assoc (k r) f g i)

pub bind_same : {A B : Type 0} (p : Program A) (f g : A → Program B) → ((a : A) → f a ≡ g a) → bind p f ≡ bind p g
bind_same p f g same = λ i. bind p (λ a. same a i)

pub bind_done : {A : Type 0} (p : Program A) → bind p done ≡ p
bind_done (done a) = refl
bind_done (ask vm call k) = λ i. ask vm call (λ r. bind_done (k r) i)
bind_done (measure vm call k) = λ i. measure vm call (λ r. bind_done (k r) i)

-- ---- what begins a run
module _ {S : Type 0} (performs : S → List Made → S → Type 0) where
  -- nothing was called
  pub runs_none : {A : Type 0} → ((s : S) → performs s [] s) → (s : S) (p : Program A) → Runs performs s p p s
  runs_none nothing s p = record { calls = []; reaches = refl; performed = nothing s }

  -- nothing was called, though the object may have gone on
  pub runs_still : {A : Type 0} (s t : S) (p : Program A) → performs s [] t → Runs performs s p p t
  runs_still s t p here = record { calls = []; reaches = refl; performed = here }

  -- one call
  pub runs_call : {A : Type 0} (s t : S) (vm : ℕ) (call : Call) (reply : Reply) (k : Reply → Program A) →
      performs s (made vm call reply ∷ []) t → Runs performs s (ask vm call k) (k reply) t
  runs_call s t vm call reply k here = record { calls = made vm call reply ∷ []; reaches = (refl, refl, refl); performed = here }

  -- one metric ask
  pub runs_measure : {A : Type 0} (s t : S) (vm : ℕ) (asked : MetricAsk) (reply : MetricReply) (k : MetricReply → Program A) →
      performs s (made_ask vm asked reply ∷ []) t → Runs performs s (measure vm asked k) (k reply) t
  runs_measure s t vm asked reply k here = record { calls = made_ask vm asked reply ∷ []; reaches = (refl, refl, refl); performed = here }

  -- the run of a part is one of the whole
  pub runs_bind : {A B : Type 0} {s t : S} {p q : Program A} (f : A → Program B) → Runs performs s p q t → Runs performs s (bind p f) (bind q f) t
  runs_bind {p} {q} f run = record { calls = run.calls; reaches = reaches_bind run.calls p q f run.reaches; performed = run.performed }

-- ---- the same run, with a program spelled otherwise
pub runs_as : {S A : Type 0} {performs : S → List Made → S → Type 0} {s t : S} {p q r : Program A} → Runs performs s p q t → q ≡ r → Runs performs s p r t
runs_as {performs} {s} {t} {p} run same = subst (λ x. Runs performs s p x t) same run

pub runs_from : {S A : Type 0} {performs : S → List Made → S → Type 0} {s t : S} {o p q : Program A} → o ≡ p → Runs performs s p q t → Runs performs s o q t
runs_from {performs} {s} {t} {q} same run = subst (λ x. Runs performs s x q t) (sym same) run

-- ---- the end of a function
-- it goes on to its caller by want of memory
pub cut_short : {S A B E : Type 0} {performs : S → List Made → S → Type 0} {s t : S} {p q : Program A} (view : B → A) (r : Result B E) →
    IsErr r → Runs performs s p q t → Ends performs s p view r t
cut_short view (Ok x) err run = absurd (cc)
cut_short {q} view (Err e) err run = (q, run)

-- all calls were made, and a last step without one may be refused
pub ends_if : {S A B E : Type 0} {performs : S → List Made → S → Type 0} {s t : S} {p : Program A} (view : B → A) (a : A) (r : Result B E) →
    IfOk r (λ x. view x ≡ a) → Runs performs s p (done a) t → Ends performs s p view r t
ends_if view a (Ok x) same run = runs_as run (ap done (sym same))
ends_if view a (Err e) same run = (done a, run)

-- ---- one after the other
module _ {S : Type 0} {performs : S → List Made → S → Type 0} (joined : (s t u : S) (a b : List Made) → performs s a t → performs t b u → performs s (a ++ b) u) where
  pub runs_then : {A : Type 0} {s t u : S} {p q r : Program A} → Runs performs s p q t → Runs performs t q r u → Runs performs s p r u
  runs_then {s} {t} {u} {p} {q} {r} first next = record {
    calls = first.calls ++ next.calls;
    reaches = reaches_join first.calls next.calls p q r first.reaches next.reaches;
    performed = joined s t u first.calls next.calls first.performed next.performed;
  }

  -- a further call was answered
  pub then_call : {A : Type 0} {s t u : S} {p : Program A} {vm : ℕ} {call : Call} {k : Reply → Program A} (reply : Reply) →
      Runs performs s p (ask vm call k) t → performs t (made vm call reply ∷ []) u → Runs performs s p (k reply) u
  then_call {t} {u} {vm} {call} {k} reply first here = runs_then first (runs_call performs t u vm call reply k here)

  -- a further metric ask was answered
  pub then_measure : {A : Type 0} {s t u : S} {p : Program A} {vm : ℕ} {asked : MetricAsk} {k : MetricReply → Program A} (reply : MetricReply) →
      Runs performs s p (measure vm asked k) t → performs t (made_ask vm asked reply ∷ []) u → Runs performs s p (k reply) u
  then_measure {t} {u} {vm} {asked} {k} reply first here = runs_then first (runs_measure performs t u vm asked reply k here)

  -- a further call or ask was refused memory
  pub then_still : {A : Type 0} {s t u : S} {p q : Program A} → Runs performs s p q t → performs t [] u → Runs performs s p q u
  then_still {t} {u} {q} first here = runs_then first (runs_still performs t u q here)

  -- a part has ended
  pub then_part : {A B : Type 0} {s t u : S} {p : Program B} {q : Program A} {a : A} (f : A → Program B) → Runs performs s p (bind q f) t → Runs performs t q (done a) u → Runs performs s p (f a) u
  then_part f first next = runs_then first (runs_bind performs f next)

  -- a part was cut short
  pub cut_part : {A B C E : Type 0} {s t u : S} {p : Program B} {q : Program A} (f : A → Program B) (view : C → B) (r : Result C E) → IsErr r → Runs performs s p (bind q f) t →
      ((x : Program A) × Runs performs t q x u) → Ends performs s p view r u
  cut_part f view r err first next = cut_short view r err (runs_then first (runs_bind performs f next.1))

  -- the last part gives the answer
  pub last_part : {A B E : Type 0} {s t : S} {p q : Program A} (u : S) (view : B → A) (r : Result B E) → Runs performs s p q t → Ends performs t q view r u → Ends performs s p view r u
  last_part u view (Ok x) first next = runs_then first next
  last_part u view (Err e) first next = (next.0, runs_then first next.1)

  -- the same by an optional end
  pub last_comes : {A : Type 0} {s t : S} {p q : Program A} (u : S) (end : Option A) → Runs performs s p q t → Comes performs t q end u → Comes performs s p end u
  last_comes u (Some a) first next = runs_then first next
  last_comes u None first next = (next.0, runs_then first next.1)
