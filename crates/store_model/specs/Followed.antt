-- A program as a function of the replies that it is given.
use Rattle.std.specs.Prelude.{◌≡◌, ℕ, List, [], ◌∷◌, map, Option, None, Some, refl}
use Rattle.std.proofs.Common.{ap, ◌∙◌, sym}
use Rattle.store_model.specs.Made.{Made, called, measured, calls_among, asks_among}
use Rattle.store_model.specs.Program.{Program, done, ask, measure, Reaches}
use Rattle.store_model.specs.declared.call.Call.{Call}
use Rattle.store_model.specs.declared.call.Reply.{Reply}
use Rattle.store_model.specs.declared.metric.MetricAsk.{MetricAsk}
use Rattle.store_model.specs.declared.metric.MetricReply.{MetricReply}

-- a call, and the number of the store that it goes to
pub record Asked : Type 0 where
  pub vm : ℕ
  pub call : Call

-- a metric ask, and the number of the VM name whose metrics it goes to
pub record AskedMetric : Type 0 where
  pub vm : ℕ
  pub ask : MetricAsk

-- the calls and the metric asks that a program made, and its end, if it came to one
pub record Followed (A : Type 0) : Type 0 where
  pub calls : List Asked
  pub asks : List AskedMetric
  pub end : Option A

abbrev pub asked_first : {A : Type 0} → ℕ → Call → Followed A → Followed A
asked_first vm call f = record { calls = record { vm = vm; call = call } ∷ f.calls; asks = f.asks; end = f.end }

abbrev pub measured_first : {A : Type 0} → ℕ → MetricAsk → Followed A → Followed A
measured_first vm asked f = record { calls = f.calls; asks = record { vm = vm; ask = asked } ∷ f.asks; end = f.end }

abbrev pub stopped : {A : Type 0} → Followed A
stopped = record { calls = []; asks = []; end = None }

-- The k-th call is answered by the k-th reply, and the k-th metric ask by the k-th of the sums. Where either finds none left, the program stops there.
abbrev pub followed : {A : Type 0} → Program A → List Reply → List MetricReply → Followed A
followed (done a) replies sums = record { calls = []; asks = []; end = Some a }
followed (ask vm call k) [] sums = stopped
followed (ask vm call k) (r ∷ rs) sums = asked_first vm call (followed (k r) rs sums)
followed (measure vm call k) replies [] = stopped
followed (measure vm call k) replies (s ∷ ss) = measured_first vm call (followed (k s) replies ss)

abbrev pub replies_in : List Made → List Reply
replies_in ms = map (λ m. m.reply) (calls_among ms)

abbrev pub sums_in : List Made → List MetricReply
sums_in ms = map (λ m. m.reply) (asks_among ms)

abbrev pub calls_in : List Made → List Asked
calls_in ms = map (λ m. record { vm = m.vm; call = m.call }) (calls_among ms)

abbrev pub asks_in : List Made → List AskedMetric
asks_in ms = map (λ m. record { vm = m.vm; ask = m.ask }) (asks_among ms)

-- what is left says whether the program has ended
abbrev pub end_of : {A : Type 0} → Program A → Option A
end_of (done a) = Some a
end_of (ask vm call k) = None
end_of (measure vm call k) = None

followed-none : {A : Type 0} (q : Program A) → followed q [] [] ≡ record { calls = []; asks = []; end = end_of q }
followed-none (done a) = refl
followed-none (ask vm call k) = refl
followed-none (measure vm call k) = refl

-- Where a program comes to q by some calls and asks, the function of their replies makes just these, and ends as q does.
pub reaches_followed : {A : Type 0} (p q : Program A) (ms : List Made) → Reaches p ms q → followed p (replies_in ms) (sums_in ms) ≡ record { calls = calls_in ms; asks = asks_in ms; end = end_of q }
reaches_followed p q [] is = ap (λ (x : Program _). followed x [] []) is ∙ followed-none q
reaches_followed (done a) q (m ∷ ms) reaches = elim reaches [ ]
reaches_followed (ask vm call k) q (called m ∷ ms) reaches =
    (λ i. asked_first (sym reaches.0 i) (sym reaches.1 i) (followed (k m.reply) (replies_in ms) (sums_in ms))) ∙ ap (asked_first m.vm m.call) (reaches_followed (k m.reply) q ms reaches.2)
reaches_followed (ask vm call k) q (measured m ∷ ms) reaches = elim reaches [ ]
reaches_followed (measure vm call k) q (called m ∷ ms) reaches = elim reaches [ ]
reaches_followed (measure vm call k) q (measured m ∷ ms) reaches =
    (λ i. measured_first (sym reaches.0 i) (sym reaches.1 i) (followed (k m.reply) (replies_in ms) (sums_in ms))) ∙ ap (measured_first m.vm m.ask) (reaches_followed (k m.reply) q ms reaches.2)
