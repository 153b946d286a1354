-- A COURSE: what a worker does at an event. It calls the shared stores, asks their metrics and reads texts on the way, and goes on by what
-- it is answered and by what it reads.
use Rattle.std.specs.Prelude.{◌≡◌, ℕ, List, [], ◌∷◌, Result, MatchResult}
use Rattle.store_model.specs.Made as store
use Rattle.store_model.specs.Made.{Made, MadeCall, MadeAsk}
use Rattle.store_model.specs.Program.{Program, done, ask, measure}
use Rattle.store_model.specs.declared.call.Call.{Call}
use Rattle.store_model.specs.declared.call.Reply.{Reply}
use Rattle.store_model.specs.declared.metric.MetricAsk.{MetricAsk}
use Rattle.store_model.specs.declared.metric.MetricReply.{MetricReply}
use Rattle.h1_model.specs.Unread.{Reading}
use Rattle.filter_host.specs.Heard.{Heard, Hears}

-- it has ended; it calls the store of a number, or asks the metrics of one, and goes on by the reply; or it hears what a reader says, and
-- goes on by that
pub data Course (A : Type 0) : Type 0 where
  ends : A → Course A
  asks : ℕ → Call → (Reply → Course A) → Course A
  measures : ℕ → MetricAsk → (MetricReply → Course A) → Course A
  hears : Reading → (Heard → Course A) → Course A

-- first the one, and then what comes of its end
abbrev pub then_do : {A B : Type 0} → Course A → (A → Course B) → Course B
then_do (ends a) f = f a
then_do (asks vm call k) f = asks vm call (λ r. then_do (k r) f)
then_do (measures vm call k) f = measures vm call (λ r. then_do (k r) f)
then_do (hears r k) f = hears r (λ h. then_do (k h) f)

-- a callback's program, and then what comes of its end
abbrev pub runs_then : {A B : Type 0} → Program A → (A → Course B) → Course B
runs_then (done a) f = f a
runs_then (ask vm call k) f = asks vm call (λ r. runs_then (k r) f)
runs_then (measure vm call k) f = measures vm call (λ r. runs_then (k r) f)

-- what was met on the way: a call or an ask was answered, or something was heard
pub data Met : Type 0 where
  called : MadeCall → Met
  measured : MadeAsk → Met
  heard : Heard → Met

-- The course meets these first, and what is left of it is q.
abbrev pub Reaches : {A : Type 0} → Course A → List Met → Course A → Type 0
Reaches p [] q = p ≡ q
Reaches (ends a) (m ∷ ms) q = ⊥
Reaches (asks vm call k) (called c ∷ ms) q = (c.vm ≡ vm) × (c.call ≡ call) × Reaches (k c.reply) ms q
Reaches (asks vm call k) (measured c ∷ ms) q = ⊥
Reaches (asks vm call k) (heard h ∷ ms) q = ⊥
Reaches (measures vm call k) (called c ∷ ms) q = ⊥
Reaches (measures vm call k) (measured c ∷ ms) q = (c.vm ≡ vm) × (c.ask ≡ call) × Reaches (k c.reply) ms q
Reaches (measures vm call k) (heard h ∷ ms) q = ⊥
Reaches (hears r k) (called c ∷ ms) q = ⊥
Reaches (hears r k) (measured c ∷ ms) q = ⊥
Reaches (hears r k) (heard h ∷ ms) q = Hears r h × Reaches (k h) ms q

-- the calls and asks among them
abbrev pub calls_in : List Met → List Made
calls_in [] = []
calls_in (called c ∷ ms) = store.called c ∷ calls_in ms
calls_in (measured c ∷ ms) = store.measured c ∷ calls_in ms
calls_in (heard h ∷ ms) = calls_in ms

-- From s the course went on to q, and the shared stores to t.
pub record Goes {S A : Type 0} (performs : S → List Made → S → Type 0) (s : S) (p q : Course A) (t : S) : Type 0 where
  pub met : List Met
  pub reaches : Reaches p met q
  pub performed : performs s (calls_in met) t

-- It ended with the result, or it was cut short where memory ran out.
abbrev pub Ends : {S A B E : Type 0} → (S → List Made → S → Type 0) → S → Course A → (B → A) → Result B E → S → Type 0
Ends performs s p view result t = MatchResult result (λ x. Goes performs s p (ends (view x)) t) (λ _. (q : Course _) × Goes performs s p q t)
