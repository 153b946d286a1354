-- Where the replies are the same, so are the calls and the end.
use Rattle.std.specs.Prelude.{◌≡◌, ℕ, List, [], ◌∷◌, refl}
use Rattle.std.proofs.Common.{subst, sym, ◌∙◌}
use Rattle.store_model.specs.declared.call.Reply.{Reply}
use Rattle.store_model.specs.declared.metric.MetricReply.{MetricReply}
use Rattle.h1_model.proofs.Parts.{same_next, one_part}
use Rattle.h1_model.specs.Messages.{Due, Stop}
use Rattle.h1_model.specs.Unread.{Part, part, none, Reading, moved_on, Hands, Halts}
use Rattle.filter_host.specs.Heard.{Heard, hands, halts, Hears}
use Rattle.filter_host.specs.Course.{Course, ends, asks, measures, hears, Met, called, measured, heard, Reaches, calls_in}
use Rattle.filter_host.specs.Once.{asked, counted, asked_in, replies_in}

-- ---- a reader says one thing

hands_one : (old : Reading) (p q : Part) (a b : Reading) → Hands old p a → Hands old q b → hands p a ≡ hands q b
hands_one old p q a b x y =
    let same = same_next p q x.used y.used x.due y.due
    (one_part old.ended old.asked old.due old.unread (part p x.used x.due) (part q y.used y.due) x.next y.next) in
    let reading : a ≡ b = x.is ∙ (λ i. moved_on (same.1 i) (same.2 i) old) ∙ sym y.is in
    λ i. hands (same.0 i) (reading i)

part_or_none : (p : Part) (used : ℕ) (due : Due) (why : Stop) → part p used due ≡ none why → ⊥
part_or_none p used due why e = cc

not_both : (old : Reading) (p : Part) (why : Stop) (a b : Reading) → Hands old p a → Halts old why b → ⊥
not_both old p why a b x y =
    part_or_none p x.used x.due why (one_part old.ended old.asked old.due old.unread (part p x.used x.due) (none why) x.next y.next)

same_stop : (why reason : Stop) → none why ≡ none reason → why ≡ reason
same_stop why reason e = cc

halts_one : (old : Reading) (why reason : Stop) (a b : Reading) → Halts old why a → Halts old reason b → halts why a ≡ halts reason b
halts_one old why reason a b x y =
    let same = same_stop why reason (one_part old.ended old.asked old.due old.unread (none why) (none reason) x.next y.next) in
    let reading : a ≡ b = x.is ∙ sym y.is in
    λ i. halts (same i) (reading i)

pub hears_one : (old : Reading) (a b : Heard) → Hears old a → Hears old b → a ≡ b
hears_one old (hands p a) (hands q b) x y = hands_one old p q a b x y
hears_one old (hands p a) (halts why b) x y = absurd (not_both old p why a b x y)
hears_one old (halts why a) (hands q b) x y = absurd (not_both old q why b a y x)
hears_one old (halts why a) (halts reason b) x y = halts_one old why reason a b x y

-- ---- and so a course has one end

pub once : {A : Type 0} (ms ns : List Met) (p : Course A) (a b : A) → Reaches p ms (ends a) → Reaches p ns (ends b)
    → replies_in (calls_in ms) ≡ replies_in (calls_in ns) → (asked_in (calls_in ms) ≡ asked_in (calls_in ns)) × (a ≡ b)
once [] [] (ends c) a b one two same = (refl, (cc))
once [] (n ∷ ns) (ends c) a b one two same = elim two [ ]
once (m ∷ ms) ns (ends c) a b one two same = elim one [ ]
once [] ns (asks vm call k) a b one two same = absurd (cc)
once (called c ∷ ms) [] (asks vm call k) a b one two same = absurd (cc)
once (called c ∷ ms) (called d ∷ ns) (asks vm call k) a b one two same =
    let r : c.reply ≡ d.reply = (cc) in
    let rest : replies_in (calls_in ms) ≡ replies_in (calls_in ns) = (cc) in
    let later = once ms ns (k c.reply) a b one.2 (subst (λ (x : Reply). Reaches (k x) ns (ends b)) (sym r) two.2) rest in
    ((λ i. asked ((one.0 ∙ sym two.0) i) ((one.1 ∙ sym two.1) i) ∷ later.0 i), later.1)
once (called c ∷ ms) (measured d ∷ ns) (asks vm call k) a b one two same = elim two [ ]
once (called c ∷ ms) (heard h ∷ ns) (asks vm call k) a b one two same = elim two [ ]
once (measured c ∷ ms) ns (asks vm call k) a b one two same = elim one [ ]
once (heard h ∷ ms) ns (asks vm call k) a b one two same = elim one [ ]
once [] ns (measures vm call k) a b one two same = absurd (cc)
once (measured c ∷ ms) [] (measures vm call k) a b one two same = absurd (cc)
once (measured c ∷ ms) (measured d ∷ ns) (measures vm call k) a b one two same =
    let r : c.reply ≡ d.reply = (cc) in
    let rest : replies_in (calls_in ms) ≡ replies_in (calls_in ns) = (cc) in
    let later = once ms ns (k c.reply) a b one.2 (subst (λ (x : MetricReply). Reaches (k x) ns (ends b)) (sym r) two.2) rest in
    ((λ i. counted ((one.0 ∙ sym two.0) i) ((one.1 ∙ sym two.1) i) ∷ later.0 i), later.1)
once (measured c ∷ ms) (called d ∷ ns) (measures vm call k) a b one two same = elim two [ ]
once (measured c ∷ ms) (heard h ∷ ns) (measures vm call k) a b one two same = elim two [ ]
once (called c ∷ ms) ns (measures vm call k) a b one two same = elim one [ ]
once (heard h ∷ ms) ns (measures vm call k) a b one two same = elim one [ ]
once [] ns (hears r k) a b one two same = absurd (cc)
once (called c ∷ ms) ns (hears r k) a b one two same = elim one [ ]
once (measured c ∷ ms) ns (hears r k) a b one two same = elim one [ ]
once (heard h ∷ ms) [] (hears r k) a b one two same = absurd (cc)
once (heard h ∷ ms) (called d ∷ ns) (hears r k) a b one two same = elim two [ ]
once (heard h ∷ ms) (measured d ∷ ns) (hears r k) a b one two same = elim two [ ]
once (heard h ∷ ms) (heard i ∷ ns) (hears r k) a b one two same =
    let e = hears_one r h i one.0 two.0 in
    once ms ns (k h) a b one.1 (subst (λ (x : Heard). Reaches (k x) ns (ends b)) (sym e) two.1) same
