-- Each list of events has one fate at most: a text is read in one way.
use Rattle.std.proofs.Common.{◌≡◌, ◌+◌, ◌==◌, ℕ, Bool, true, false, List, [], ◌∷◌, ◌++◌, refl, sym, ◌∙◌, subst}
use Rattle.std.specs.Prelude.{Option, Some, drop, nat_le}
use Rattle.callouts.specs.Fates.{Known, with_text, Fate, pending, answered, failed, Verdict, unfinished, whole, broken, verdict_of, Says, DecidedBy, ByText, When, ByEvent, IsFate}
use Rattle.gate_io.specs.Events.{is_stop}
use Rattle.gate_io.specs.declared.event.Event.{Event}
use Rattle.gate_io.specs.declared.event.Side.TheVariants.{Down, Up}
use Rattle.gate_io.specs.declared.event.What.{What}
use Rattle.gate_io.specs.declared.event.What.TheVariants as whats
use Rattle.h1_model.proofs.Parts.{one_part}
use Rattle.h1_model.specs.Messages.{Due, Stop, head}
use Rattle.h1_model.specs.Unread.{Part, Next, part, none, Unread}
use Rattle.law_callouts.specs.OneFate.{OneFateAtMost}

-- ---- a text says one thing

same_stop : (a b : Stop) → none a ≡ none b → a ≡ b
same_stop a b is = (cc)

never_part : (a : Stop) (p : Part) (used : ℕ) (due : Due) → none a ≡ part p used due → ⊥
never_part a p used due is = absurd (cc)

same_part : (p q : Part) (m n : ℕ) (d e : Due) → part p m d ≡ part q n e → (p ≡ q) × (m ≡ n) × (d ≡ e)
same_part p q m n d e is = ((cc), (cc), (cc))

parts_once : (text : List ℕ) (ended : Bool) (asked : Option (List ℕ)) (due : Due) (at : ℕ) (ps qs : List Part) (why reason : Stop)
    → Unread text ended asked due at ps why → Unread text ended asked due at qs reason → (ps ≡ qs) × (why ≡ reason)
parts_once text ended asked due at [] [] why reason one other = (refl, same_stop why reason (one_part ended asked due (drop at text) (none why) (none reason) one other))
parts_once text ended asked due at [] (q ∷ qs) why reason one other =
    absurd (never_part why q other.0 other.1 (one_part ended asked due (drop at text) (none why) (part q other.0 other.1) one other.2))
parts_once text ended asked due at (p ∷ ps) [] why reason one other =
    absurd (never_part reason p one.0 one.1 (one_part ended asked due (drop at text) (none reason) (part p one.0 one.1) other one.2))
parts_once text ended asked due at (p ∷ ps) (q ∷ qs) why reason one other =
    let same = same_part p q one.0 other.0 one.1 other.1 (one_part ended asked due (drop at text) (part p one.0 one.1) (part q other.0 other.1) one.2 other.2) in
    let later = parts_once text ended asked one.1 (at + one.0) ps qs why reason one.3
    (subst (λ (d : Due). Unread text ended asked d (at + one.0) qs reason) (sym same.2) (subst (λ (n : ℕ). Unread text ended asked other.1 (at + n) qs reason) (sym same.1) other.3)) in (
      (λ i. same.0 i ∷ later.0 i),
      later.1,
    )

says_once : (method : List ℕ) (ended : Bool) (text : List ℕ) (v w : Verdict) → Says method ended text v → Says method ended text w → v ≡ w
says_once method ended text v w one other =
    let same = parts_once text ended (Some method) head 0 one.0 other.0 one.1 other.1 one.2 other.2 in
    one.3 ∙ ((λ i. verdict_of (same.0 i) (same.1 i)) ∙ sym other.3)

-- ---- and so it is of a fate

either : (b : Bool) (A B C D R : Type 0) → When b A B → When b C D → (A → C → R) → (B → D → R) → R
either true A B C D R one other first later = first one other
either false A B C D R one other first later = later one other

both_are : (f g h : Fate) → f ≡ h → g ≡ h → f ≡ g
both_are f g h one other = one ∙ sym other

decided_once : (v : Verdict) (f g : Fate) (P Q : Type 0) → DecidedBy v f P → DecidedBy v g Q → (P → Q → f ≡ g) → f ≡ g
decided_once unfinished f g P Q one other later = later one other
decided_once (whole a) f g P Q one other later = both_are f g (answered a) one other
decided_once broken f g P Q one other later = both_are f g failed one other

text_once : (k : Known) (ended : Bool) (bytes : List ℕ) (f g : Fate) (P Q : Type 0) → ByText k ended bytes f P → ByText k ended bytes g Q → (P → Q → f ≡ g) → f ≡ g
text_once k ended bytes f g P Q one other later =
    decided_once one.0 f g P Q one.2 (subst (λ (v : Verdict). DecidedBy v g Q) (says_once k.method ended (k.text ++ bytes) other.0 one.0 other.1 one.1) other.2) later

event_once : (what : What) (k : Known) (f g : Fate) (P Q : Known → Type 0) → ByEvent what k f P → ByEvent what k g Q → ((l : Known) → P l → Q l → f ≡ g) → f ≡ g
event_once (whats.Bytes line Up bytes) k f g P Q one other later =
    either (line == k.line) (ByText k false bytes f (P (with_text bytes k))) (P k) (ByText k false bytes g (Q (with_text bytes k))) (Q k) (f ≡ g) one other
    (λ a b. text_once k false bytes f g (P (with_text bytes k)) (Q (with_text bytes k)) a b (later (with_text bytes k))) (later k)
event_once (whats.End line Up) k f g P Q one other later =
    either (line == k.line) (ByText k true [] f (P k)) (P k) (ByText k true [] g (Q k)) (Q k) (f ≡ g) one other (λ a b. text_once k true [] f g (P k) (Q k) a b (later k)) (later k)
event_once (whats.Gone line Up) k f g P Q one other later = either (line == k.line) (f ≡ failed) (P k) (g ≡ failed) (Q k) (f ≡ g) one other (both_are f g failed) (later k)
event_once (whats.Refused line) k f g P Q one other later = either (line == k.line) (f ≡ failed) (P k) (g ≡ failed) (Q k) (f ≡ g) one other (both_are f g failed) (later k)
event_once (whats.Opened line) k f g P Q one other later = later k one other
event_once (whats.Bytes line Down bytes) k f g P Q one other later = later k one other
event_once (whats.End line Down) k f g P Q one other later = later k one other
event_once (whats.Gone line Down) k f g P Q one other later = later k one other
event_once (whats.Joined line) k f g P Q one other later = later k one other
event_once (whats.Room line side) k f g P Q one other later = later k one other
event_once whats.Clock k f g P Q one other later = later k one other
event_once whats.Stop k f g P Q one other later = later k one other

pub fate_once : OneFateAtMost
fate_once k [] one other a b = both_are one other pending a b
fate_once k (e ∷ es) one other a b =
    either (is_stop e.what) (one ≡ pending) (When (nat_le k.due e.now) (one ≡ failed) (ByEvent e.what k one (λ l. IsFate l es one))) (other ≡ pending)
    (When (nat_le k.due e.now) (other ≡ failed) (ByEvent e.what k other (λ l. IsFate l es other))) (one ≡ other) a b (both_are one other pending)
    (λ c d. either (nat_le k.due e.now) (one ≡ failed) (ByEvent e.what k one (λ l. IsFate l es one)) (other ≡ failed) (ByEvent e.what k other (λ l. IsFate l es other)) (one ≡ other) c d (both_are one other failed)
    (λ x y. event_once e.what k one other (λ l. IsFate l es one) (λ l. IsFate l es other) x y (λ l p q. fate_once l es one other p q)))
