-- Over the stores of one thread a course has one end.
use Rattle.std.proofs.Common.{◌≡◌, ℕ, List, [], ◌∷◌, sym, ◌∙◌, subst}
use Rattle.filter_host.proofs.Once.{hears_one}
use Rattle.filter_host.specs.Course.{Course, ends, asks, measures, hears, Met, called, measured, heard, Reaches, calls_in, Goes}
use Rattle.filter_host.specs.Heard.{Heard}
use Rattle.store_model.specs.Sequential.{Stores, Performs, reply_at, sum_at, stores_after, measured_after}
use Rattle.store_model.specs.declared.call.Call.{Call}
use Rattle.store_model.specs.declared.call.Reply.{Reply}
use Rattle.store_model.specs.declared.metric.MetricAsk.{MetricAsk}
use Rattle.store_model.specs.declared.metric.MetricReply.{MetricReply}

alone : {A : Type 0} (ms ns : List Met) (p : Course A) (a b : A) (s t u : Stores) → Reaches p ms (ends a) → Reaches p ns (ends b)
    → Performs s (calls_in ms) t → Performs s (calls_in ns) u → (a ≡ b) × (t ≡ u)
alone [] [] (ends c) a b s t u one two first second = ((cc), first ∙ sym second)
alone [] (n ∷ ns) (ends c) a b s t u one two first second = elim two [ ]
alone (m ∷ ms) ns (ends c) a b s t u one two first second = elim one [ ]
alone [] ns (asks vm call k) a b s t u one two first second = absurd (cc)
alone (called c ∷ ms) [] (asks vm call k) a b s t u one two first second = absurd (cc)
alone (called c ∷ ms) (called d ∷ ns) (asks vm call k) a b s t u one two first second =
    let v : d.vm ≡ c.vm = two.0 ∙ sym one.0 in
    let w : d.call ≡ c.call = two.1 ∙ sym one.1 in
    let r : d.reply ≡ c.reply = second.0 ∙ (λ i. reply_at s (v i) (w i)) ∙ sym first.0 in
    alone ms ns (k c.reply) a b (stores_after s c.vm c.call) t u one.2 (subst (λ (x : Reply). Reaches (k x) ns (ends b)) r two.2)
    first.1 (subst (λ (x : ℕ × Call). Performs (stores_after s x.0 x.1) (calls_in ns) u) (λ i. (v i, w i)) second.1)
alone (called c ∷ ms) (measured d ∷ ns) (asks vm call k) a b s t u one two first second = elim two [ ]
alone (called c ∷ ms) (heard h ∷ ns) (asks vm call k) a b s t u one two first second = elim two [ ]
alone (measured c ∷ ms) ns (asks vm call k) a b s t u one two first second = elim one [ ]
alone (heard h ∷ ms) ns (asks vm call k) a b s t u one two first second = elim one [ ]
alone [] ns (measures vm call k) a b s t u one two first second = absurd (cc)
alone (measured c ∷ ms) [] (measures vm call k) a b s t u one two first second = absurd (cc)
alone (measured c ∷ ms) (measured d ∷ ns) (measures vm call k) a b s t u one two first second =
    let v : d.vm ≡ c.vm = two.0 ∙ sym one.0 in
    let w : d.ask ≡ c.ask = two.1 ∙ sym one.1 in
    let r : d.reply ≡ c.reply = second.0 ∙ (λ i. sum_at s (v i) (w i)) ∙ sym first.0 in
    alone ms ns (k c.reply) a b (measured_after s c.vm c.ask) t u one.2 (subst (λ (x : MetricReply). Reaches (k x) ns (ends b)) r two.2)
    first.1 (subst (λ (x : ℕ × MetricAsk). Performs (measured_after s x.0 x.1) (calls_in ns) u) (λ i. (v i, w i)) second.1)
alone (measured c ∷ ms) (called d ∷ ns) (measures vm call k) a b s t u one two first second = elim two [ ]
alone (measured c ∷ ms) (heard h ∷ ns) (measures vm call k) a b s t u one two first second = elim two [ ]
alone (called c ∷ ms) ns (measures vm call k) a b s t u one two first second = elim one [ ]
alone (heard h ∷ ms) ns (measures vm call k) a b s t u one two first second = elim one [ ]
alone [] ns (hears r k) a b s t u one two first second = absurd (cc)
alone (called c ∷ ms) ns (hears r k) a b s t u one two first second = elim one [ ]
alone (measured c ∷ ms) ns (hears r k) a b s t u one two first second = elim one [ ]
alone (heard h ∷ ms) [] (hears r k) a b s t u one two first second = absurd (cc)
alone (heard h ∷ ms) (called d ∷ ns) (hears r k) a b s t u one two first second = elim two [ ]
alone (heard h ∷ ms) (measured d ∷ ns) (hears r k) a b s t u one two first second = elim two [ ]
alone (heard h ∷ ms) (heard i ∷ ns) (hears r k) a b s t u one two first second =
    let e = hears_one r h i one.0 two.0 in
    alone ms ns (k h) a b s t u one.1 (subst (λ (x : Heard). Reaches (k x) ns (ends b)) (sym e) two.1) first second

pub goes_once : {A : Type 0} (p : Course A) (a b : A) (s t u : Stores) → Goes Performs s p (ends a) t → Goes Performs s p (ends b) u → (a ≡ b) × (t ≡ u)
goes_once p a b s t u x y = alone x.met y.met p a b s t u x.reaches y.reaches x.performed y.performed
