-- WHAT HOLDS AT EVERY END of a course, whatever is replied and read.
use Rattle.std.specs.Prelude.{List, [], ◌∷◌}
use Rattle.std.proofs.Common.{subst}
use Rattle.store_model.specs.Program.{Program, done, ask, measure}
use Rattle.store_model.specs.declared.call.Reply.{Reply}
use Rattle.store_model.specs.declared.metric.MetricReply.{MetricReply}
use Rattle.filter_host.specs.Heard.{Heard, Hears}
use Rattle.filter_host.specs.Course.{Course, ends, asks, measures, hears, then_do, runs_then, Met, called, measured, heard, Reaches}

abbrev pub AllEnds : {A : Type 0} → (A → Type 0) → Course A → Type 0
AllEnds P (ends a) = P a
AllEnds P (asks vm call k) = (r : Reply) → AllEnds P (k r)
AllEnds P (measures vm call k) = (r : MetricReply) → AllEnds P (k r)
AllEnds P (hears t k) = (h : Heard) → Hears t h → AllEnds P (k h)

-- so it holds of the end that was reached
pub all_reached : {A : Type 0} (P : A → Type 0) (ms : List Met) (p : Course A) (a : A) → AllEnds P p → Reaches p ms (ends a) → P a
all_reached P [] p a all same = subst (AllEnds P) same all
all_reached P (m ∷ ms) (ends b) a all reaches = elim reaches [ ]
all_reached P (called c ∷ ms) (asks vm call k) a all reaches = all_reached P ms (k c.reply) a (all c.reply) reaches.2
all_reached P (measured c ∷ ms) (asks vm call k) a all reaches = elim reaches [ ]
all_reached P (heard h ∷ ms) (asks vm call k) a all reaches = elim reaches [ ]
all_reached P (called c ∷ ms) (measures vm call k) a all reaches = elim reaches [ ]
all_reached P (measured c ∷ ms) (measures vm call k) a all reaches = all_reached P ms (k c.reply) a (all c.reply) reaches.2
all_reached P (heard h ∷ ms) (measures vm call k) a all reaches = elim reaches [ ]
all_reached P (called c ∷ ms) (hears t k) a all reaches = elim reaches [ ]
all_reached P (measured c ∷ ms) (hears t k) a all reaches = elim reaches [ ]
all_reached P (heard h ∷ ms) (hears t k) a all reaches = all_reached P ms (k h) a (all h reaches.0) reaches.1

-- first the one, and then the other
pub all_then : {A B : Type 0} (P : A → Type 0) (Q : B → Type 0) (p : Course A) (f : A → Course B) → AllEnds P p → ((a : A) → P a → AllEnds Q (f a)) → AllEnds Q (then_do p f)
all_then P Q (ends a) f all next = next a all
all_then P Q (asks vm call k) f all next = λ r. all_then P Q (k r) f (all r) next
all_then P Q (measures vm call k) f all next = λ r. all_then P Q (k r) f (all r) next
all_then P Q (hears t k) f all next = λ h is. all_then P Q (k h) f (all h is) next

-- after a callback, whatever it does
pub all_behind : {A B : Type 0} (Q : B → Type 0) (p : Program A) (f : A → Course B) → ((a : A) → AllEnds Q (f a)) → AllEnds Q (runs_then p f)
all_behind Q (done a) f next = next a
all_behind Q (ask vm call k) f next = λ r. all_behind Q (k r) f next
all_behind Q (measure vm call k) f next = λ r. all_behind Q (k r) f next
