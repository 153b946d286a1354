-- Ends of programs that are made of two, and what they ask on the way.
use Rattle.store_model.specs.Program.{Program, done, ask, measure, bind}
use Rattle.store_model.specs.declared.call.Call.{Call}
use Rattle.store_model.specs.declared.call.Reply.{Reply}
use Rattle.store_model.specs.declared.metric.MetricAsk.{MetricAsk}
use Rattle.store_model.specs.declared.metric.MetricReply.{MetricReply}
use Rattle.std.proofs.Common.{ℕ, Bool, true, false, if◌then◌else◌}
use Rattle.law_vms.specs.Apart.{AllEnds}
use Rattle.law_vms.specs.OwnStores.{AsksOnly}

pub all_then : {A B : Type 0} (P : A → Type 0) (Q : B → Type 0) (p : Program A) (f : A → Program B)
    → AllEnds P p → ((a : A) → P a → AllEnds Q (f a)) → AllEnds Q (bind p f)
all_then P Q (done a) f is next = next a is
all_then P Q (ask vm call k) f is next = λ r. all_then P Q (k r) f (is r) next
all_then P Q (measure vm asked k) f is next = λ r. all_then P Q (k r) f (is r) next

pub all_done : {A B : Type 0} (Q : B → Type 0) (p : Program A) (g : A → B) → ((a : A) → Q (g a)) → AllEnds Q (bind p (λ a. done (g a)))
all_done Q (done a) g next = next a
all_done Q (ask vm call k) g next = λ r. all_done Q (k r) g next
all_done Q (measure vm asked k) g next = λ r. all_done Q (k r) g next

pub all_weaker : {A : Type 0} (P Q : A → Type 0) (p : Program A) → AllEnds P p → ((a : A) → P a → Q a) → AllEnds Q p
all_weaker P Q (done a) is so = so a is
all_weaker P Q (ask vm call k) is so = λ r. all_weaker P Q (k r) (is r) so
all_weaker P Q (measure vm asked k) is so = λ r. all_weaker P Q (k r) (is r) so

-- ---- what is asked, and the ends

abbrev pub AllAlong : {A : Type 0} → (ℕ → Call → Type 0) → (ℕ → MetricAsk → Type 0) → (A → Type 0) → Program A → Type 0
AllAlong C M P (done a) = P a
AllAlong C M P (ask n call k) = C n call × ((r : Reply) → AllAlong C M P (k r))
AllAlong C M P (measure n asked k) = M n asked × ((r : MetricReply) → AllAlong C M P (k r))

abbrev pub AnyCall : ℕ → Call → Type 0
AnyCall n call = Unit {0}

abbrev pub AnyMeasure : ℕ → MetricAsk → Type 0
AnyMeasure n asked = Unit {0}

pub along_then : {A B : Type 0} (C : ℕ → Call → Type 0) (M : ℕ → MetricAsk → Type 0) (P : A → Type 0) (Q : B → Type 0) (p : Program A) (f : A → Program B)
    → AllAlong C M P p → ((a : A) → P a → AllAlong C M Q (f a)) → AllAlong C M Q (bind p f)
along_then C M P Q (done a) f is next = next a is
along_then C M P Q (ask n call k) f is next = (is.0, λ r. along_then C M P Q (k r) f (is.1 r) next)
along_then C M P Q (measure n asked k) f is next = (is.0, λ r. along_then C M P Q (k r) f (is.1 r) next)

pub along_ends : {A : Type 0} (C : ℕ → Call → Type 0) (M : ℕ → MetricAsk → Type 0) (P : A → Type 0) (p : Program A) → AllAlong C M P p → AllEnds P p
along_ends C M P (done a) is = is
along_ends C M P (ask n call k) is = λ r. along_ends C M P (k r) (is.1 r)
along_ends C M P (measure n asked k) is = λ r. along_ends C M P (k r) (is.1 r)

pub along_asks : {A : Type 0} (C : ℕ → Call → Type 0) (M : ℕ → MetricAsk → Type 0) (P : A → Type 0) (p : Program A) → AllAlong C M P p → AsksOnly C M p
along_asks C M P (done a) is = tt
along_asks C M P (ask n call k) is = (is.0, λ r. along_asks C M P (k r) (is.1 r))
along_asks C M P (measure n asked k) is = (is.0, λ r. along_asks C M P (k r) (is.1 r))

pub ends_along : {A : Type 0} (P : A → Type 0) (p : Program A) → AllEnds P p → AllAlong AnyCall AnyMeasure P p
ends_along P (done a) is = is
ends_along P (ask n call k) is = (tt, λ r. ends_along P (k r) (is r))
ends_along P (measure n asked k) is = (tt, λ r. ends_along P (k r) (is r))

pub asks_then : {A B : Type 0} (C : ℕ → Call → Type 0) (M : ℕ → MetricAsk → Type 0) (p : Program A) (g : A → B) → AsksOnly C M p → AsksOnly C M (bind p (λ a. done (g a)))
asks_then C M (done a) g is = tt
asks_then C M (ask n call k) g is = (is.0, λ r. asks_then C M (k r) g (is.1 r))
asks_then C M (measure n asked k) g is = (is.0, λ r. asks_then C M (k r) g (is.1 r))

-- where nothing is wanted of the ends
pub asks_along : {A : Type 0} (C : ℕ → Call → Type 0) (M : ℕ → MetricAsk → Type 0) (p : Program A) → AsksOnly C M p → AllAlong C M (λ (a : A). Unit {0}) p
asks_along C M (done a) is = tt
asks_along C M (ask n call k) is = (is.0, λ r. asks_along C M (k r) (is.1 r))
asks_along C M (measure n asked k) is = (is.0, λ r. asks_along C M (k r) (is.1 r))

pub asks_if : {A : Type 0} (C : ℕ → Call → Type 0) (M : ℕ → MetricAsk → Type 0) (b : Bool) (p q : Program A) → AsksOnly C M p → AsksOnly C M q → AsksOnly C M (if b then p else q)
asks_if C M true p q here there = here
asks_if C M false p q here there = there
