-- A program that calls the shared stores and asks their metrics, and goes on by the replies.
use Rattle.std.specs.Prelude.{◌≡◌, ℕ, List, [], ◌∷◌, Result, MatchResult, Option, None, Some}
use Rattle.store_model.specs.Made.{Made, called, measured}
use Rattle.store_model.specs.declared.call.Call.{Call}
use Rattle.store_model.specs.declared.call.Reply.{Reply}
use Rattle.store_model.specs.declared.metric.MetricAsk.{MetricAsk}
use Rattle.store_model.specs.declared.metric.MetricReply.{MetricReply}

-- it is done, or it calls the store of a number, or asks the metrics of a number, and goes on with the reply
pub data Program (A : Type 0) : Type 0 where
  done : A → Program A
  ask : ℕ → Call → (Reply → Program A) → Program A
  measure : ℕ → MetricAsk → (MetricReply → Program A) → Program A

-- first the one, and then what its result says
abbrev pub bind : {A B : Type 0} → Program A → (A → Program B) → Program B
bind (done a) f = f a
bind (ask vm call k) f = ask vm call (λ r. bind (k r) f)
bind (measure vm call k) f = measure vm call (λ r. bind (k r) f)

-- The program makes these calls and asks first. With their replies what is left of it is q.
abbrev pub Reaches : {A : Type 0} → Program A → List Made → Program A → Type 0
Reaches p [] q = p ≡ q
Reaches (done a) (m ∷ ms) q = ⊥
Reaches (ask vm call k) (called m ∷ ms) q = (m.vm ≡ vm) × (m.call ≡ call) × Reaches (k m.reply) ms q
Reaches (ask vm call k) (measured m ∷ ms) q = ⊥
Reaches (measure vm call k) (called m ∷ ms) q = ⊥
Reaches (measure vm call k) (measured m ∷ ms) q = (m.vm ≡ vm) × (m.ask ≡ call) × Reaches (k m.reply) ms q

-- From s the program went on to q, and the shared object to t.
pub record Runs {S A : Type 0} (performs : S → List Made → S → Type 0) (s : S) (p q : Program A) (t : S) : Type 0 where
  pub calls : List Made
  pub reaches : Reaches p calls q
  pub performed : performs s calls t

-- The program ended with the result, or it was cut short where memory ran out.
abbrev pub Ends : {S A B E : Type 0} → (S → List Made → S → Type 0) → S → Program A → (B → A) → Result B E → S → Type 0
Ends performs s p view result t = MatchResult result (λ x. Runs performs s p (done (view x)) t) (λ _. (q : Program _) × Runs performs s p q t)

-- The same by an optional end, where the answer is an enum with a variant for want of memory.
abbrev pub Comes : {S A : Type 0} → (S → List Made → S → Type 0) → S → Program A → Option A → S → Type 0
Comes performs s p (Some a) t = Runs performs s p (done a) t
Comes performs s p None t = (q : Program _) × Runs performs s p q t
