-- How courses begin, go on and join.
use Rattle.std.specs.Prelude.{◌≡◌, ℕ, List, [], ◌∷◌, ◌++◌, refl, Result, Ok, Err, IsErr}
use Rattle.std.proofs.Common.{subst, sym, ap}
use Rattle.store_model.specs.Made as store
use Rattle.store_model.specs.Made.{Made, made}
use Rattle.store_model.specs.Program as program
use Rattle.store_model.specs.declared.call.Call.{Call}
use Rattle.store_model.specs.declared.call.Reply.{Reply}
use Rattle.h1_model.specs.Unread.{Reading}
use Rattle.filter_host.specs.Heard.{Heard, Hears}
use Rattle.filter_host.specs.Course.{Course, ends, asks, measures, hears, then_do, runs_then, Met, called, measured, heard, Reaches, calls_in, Goes, Ends}

-- first these, and then those
pub reaches_join : {A : Type 0} (ms ns : List Met) (p q r : Course A) → Reaches p ms q → Reaches q ns r → Reaches p (ms ++ ns) r
reaches_join [] ns p q r same rest = subst (λ (x : Course _). Reaches x ns r) (sym same) rest
reaches_join (m ∷ ms) ns (ends a) q r first rest = elim first [ ]
reaches_join (called c ∷ ms) ns (asks vm call k) q r first rest = (first.0, first.1, reaches_join ms ns (k c.reply) q r first.2 rest)
reaches_join (measured c ∷ ms) ns (asks vm call k) q r first rest = elim first [ ]
reaches_join (heard h ∷ ms) ns (asks vm call k) q r first rest = elim first [ ]
reaches_join (called c ∷ ms) ns (measures vm call k) q r first rest = elim first [ ]
reaches_join (measured c ∷ ms) ns (measures vm call k) q r first rest = (first.0, first.1, reaches_join ms ns (k c.reply) q r first.2 rest)
reaches_join (heard h ∷ ms) ns (measures vm call k) q r first rest = elim first [ ]
reaches_join (called c ∷ ms) ns (hears t k) q r first rest = elim first [ ]
reaches_join (measured c ∷ ms) ns (hears t k) q r first rest = elim first [ ]
reaches_join (heard h ∷ ms) ns (hears t k) q r first rest = (first.0, reaches_join ms ns (k h) q r first.1 rest)

-- what a part meets, the whole meets
pub reaches_part : {A B : Type 0} (ms : List Met) (p q : Course A) (f : A → Course B) → Reaches p ms q → Reaches (then_do p f) ms (then_do q f)
reaches_part [] p q f same = ap (λ (x : Course _). then_do x f) same
reaches_part (m ∷ ms) (ends a) q f first = elim first [ ]
reaches_part (called c ∷ ms) (asks vm call k) q f first = (first.0, first.1, reaches_part ms (k c.reply) q f first.2)
reaches_part (measured c ∷ ms) (asks vm call k) q f first = elim first [ ]
reaches_part (heard h ∷ ms) (asks vm call k) q f first = elim first [ ]
reaches_part (called c ∷ ms) (measures vm call k) q f first = elim first [ ]
reaches_part (measured c ∷ ms) (measures vm call k) q f first = (first.0, first.1, reaches_part ms (k c.reply) q f first.2)
reaches_part (heard h ∷ ms) (measures vm call k) q f first = elim first [ ]
reaches_part (called c ∷ ms) (hears t k) q f first = elim first [ ]
reaches_part (measured c ∷ ms) (hears t k) q f first = elim first [ ]
reaches_part (heard h ∷ ms) (hears t k) q f first = (first.0, reaches_part ms (k h) q f first.1)

all_called : List Made → List Met
all_called [] = []
all_called (store.called c ∷ cs) = called c ∷ all_called cs
all_called (store.measured c ∷ cs) = measured c ∷ all_called cs

calls-called : (cs : List Made) → calls_in (all_called cs) ≡ cs
unfolding all_called
calls-called [] = refl
calls-called (store.called c ∷ cs) = ap (λ (x : List Made). store.called c ∷ x) (calls-called cs)
calls-called (store.measured c ∷ cs) = ap (λ (x : List Made). store.measured c ∷ x) (calls-called cs)

calls-join : (ms ns : List Met) → calls_in (ms ++ ns) ≡ calls_in ms ++ calls_in ns
calls-join [] ns = refl
calls-join (called c ∷ ms) ns = ap (λ (x : List Made). store.called c ∷ x) (calls-join ms ns)
calls-join (measured c ∷ ms) ns = ap (λ (x : List Made). store.measured c ∷ x) (calls-join ms ns)
calls-join (heard h ∷ ms) ns = calls-join ms ns

-- what a callback's program asks, the course asks
reaches_callback : {A B : Type 0} (cs : List Made) (p q : program.Program A) (f : A → Course B) → program.Reaches p cs q
    → Reaches (runs_then p f) (all_called cs) (runs_then q f)
unfolding all_called
reaches_callback [] p q f same = ap (λ (x : program.Program _). runs_then x f) same
reaches_callback (store.called c ∷ cs) (program.done a) q f first = elim first [ ]
reaches_callback (store.measured c ∷ cs) (program.done a) q f first = elim first [ ]
reaches_callback (store.called c ∷ cs) (program.ask vm call k) q f first = (first.0, first.1, reaches_callback cs (k c.reply) q f first.2)
reaches_callback (store.measured c ∷ cs) (program.ask vm call k) q f first = elim first [ ]
reaches_callback (store.called c ∷ cs) (program.measure vm call k) q f first = elim first [ ]
reaches_callback (store.measured c ∷ cs) (program.measure vm call k) q f first = (first.0, first.1, reaches_callback cs (k c.reply) q f first.2)

-- ---- what begins a course
module _ {S : Type 0} (performs : S → List Made → S → Type 0) where
  -- nothing was met
  pub goes_still : {A : Type 0} (s t : S) (p : Course A) → performs s [] t → Goes performs s p p t
  goes_still s t p here = record { met = []; reaches = refl; performed = here }

  -- a reader said something
  pub goes_heard : {A : Type 0} (s : S) (r : Reading) (k : Heard → Course A) (h : Heard) → performs s [] s → Hears r h → Goes performs s (hears r k) (k h) s
  goes_heard s r k h here is = record { met = heard h ∷ []; reaches = (is, refl); performed = here }

  -- a call was answered
  pub goes_called : {A : Type 0} (s t : S) (vm : ℕ) (call : Call) (reply : Reply) (k : Reply → Course A) → performs s (made vm call reply ∷ []) t
      → Goes performs s (asks vm call k) (k reply) t
  goes_called s t vm call reply k here = record { met = called (record { vm = vm; call = call; reply = reply }) ∷ []; reaches = (refl, refl, refl); performed = here }

-- ---- the same, with a course spelled otherwise
pub goes_as : {S A : Type 0} {performs : S → List Made → S → Type 0} {s t : S} {p q r : Course A} → Goes performs s p q t → q ≡ r → Goes performs s p r t
goes_as {performs} {s} {t} {p} goes same = subst (λ x. Goes performs s p x t) same goes

pub goes_from : {S A : Type 0} {performs : S → List Made → S → Type 0} {s t : S} {o p q : Course A} → o ≡ p → Goes performs s p q t → Goes performs s o q t
goes_from {performs} {s} {t} {q} same goes = subst (λ x. Goes performs s x q t) (sym same) goes

-- ---- a part of a course went on, or a callback's program
pub goes_part : {S A B : Type 0} {performs : S → List Made → S → Type 0} {s t : S} {p q : Course A} (f : A → Course B) → Goes performs s p q t
    → Goes performs s (then_do p f) (then_do q f) t
goes_part {p} {q} f goes = record { met = goes.met; reaches = reaches_part goes.met p q f goes.reaches; performed = goes.performed }

pub goes_callback : {S A B : Type 0} {performs : S → List Made → S → Type 0} {s t : S} {p q : program.Program A} (f : A → Course B) → program.Runs performs s p q t
    → Goes performs s (runs_then p f) (runs_then q f) t
goes_callback {performs} {s} {t} {p} {q} f runs = record {
  met = all_called runs.calls;
  reaches = reaches_callback runs.calls p q f runs.reaches;
  performed = subst (λ cs. performs s cs t) (sym (calls-called runs.calls)) runs.performed;
}

-- ---- one after the other
module _ {S : Type 0} {performs : S → List Made → S → Type 0} (joined : (s t u : S) (a b : List Made) → performs s a t → performs t b u → performs s (a ++ b) u) where
  pub goes_then : {A : Type 0} {s t u : S} {p q r : Course A} → Goes performs s p q t → Goes performs t q r u → Goes performs s p r u
  goes_then {s} {t} {u} {p} {q} {r} first next = record {
    met = first.met ++ next.met;
    reaches = reaches_join first.met next.met p q r first.reaches next.reaches;
    performed = subst (λ cs. performs s cs u) (sym (calls-join first.met next.met)) (joined s t u (calls_in first.met) (calls_in next.met) first.performed next.performed);
  }

  -- a part has ended
  pub then_part : {A B : Type 0} {s t u : S} {p : Course B} {q : Course A} {a : A} (f : A → Course B) → Goes performs s p (then_do q f) t → Goes performs t q (ends a) u
      → Goes performs s p (f a) u
  then_part f first next = goes_then first (goes_part f next)

-- ---- the end of a function, by want of memory
pub cut_short : {S A B E : Type 0} {performs : S → List Made → S → Type 0} {s t : S} {p q : Course A} (view : B → A) (r : Result B E) →
    IsErr r → Goes performs s p q t → Ends performs s p view r t
cut_short view (Ok x) err goes = absurd (cc)
cut_short {q} view (Err e) err goes = (q, goes)

pub cut_part : {S A B C E : Type 0} {performs : S → List Made → S → Type 0} {s t : S} {p : Course A} (f : A → Course B) (view : C → B) (r : Result C E) → IsErr r →
    ((x : Course A) × Goes performs s p x t) → Ends performs s (then_do p f) view r t
cut_part f view r err part = cut_short view r err (goes_part f part.1)

pub cut_callback : {S A B C E : Type 0} {performs : S → List Made → S → Type 0} {s t : S} {p : program.Program A} (f : A → Course B) (view : C → B) (r : Result C E) → IsErr r →
    ((x : program.Program A) × program.Runs performs s p x t) → Ends performs s (runs_then p f) view r t
cut_callback f view r err part = cut_short view r err (goes_callback f part.1)
