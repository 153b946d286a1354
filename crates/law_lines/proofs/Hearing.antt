-- What was heard of a request, while its line's text goes on.
use Rattle.std.proofs.Common.{◌≡◌, ℕ, Bool, List, [], ◌∷◌, ◌++◌, refl, ap, ◌∙◌, sym, subst}
use Rattle.std.proofs.lemmas.List.{append-nil, append_assoc}
use Rattle.std.specs.Prelude.{Option, Some, option_map, if◌then◌else◌}
use Rattle.filter_chain.specs.declared.item.ChainItem.{ChainItem}
use Rattle.h1_model.specs.Head.{Head}
use Rattle.h1_model.specs.Messages.{Stop}
use Rattle.h1_model.specs.Unread.{Part, Reading, Hands, Halts, Act, feeds, ends, hands, halts, DoesAll, reading_with_bytes, reading_with_end}
use Rattle.worker_model.specs.declared.types.Line.{Line}
use Rattle.worker_model.specs.Steps.{reading_with_more, head_item}
use Rattle.law_lines.specs.Heard.{items_of, items_heard, WasHeard}
use Rattle.law_lines.proofs.Kept.{by_bool}
use Rattle.law_lines.proofs.Looks.{look}

-- the text of the line of a number
abbrev pub text_in : ℕ → List Line → Option Reading
text_in n lines = option_map (λ (l : Line). l.requests) (look n lines)

pub record HeardIn (n : ℕ) (lines : List Line) (h : Head) (items : List ChainItem) : Type 0 where
  pub now : Reading
  pub at : text_in n lines ≡ Some now
  pub was : WasHeard h items now

-- what was heard of the one was heard of the other
abbrev pub Listens : ℕ → List Line → List Line → Type 0
Listens n lines later = (h : Head) (items : List ChainItem) → HeardIn n lines h items → HeardIn n later h items

-- the text became the other, and no item was handed on
abbrev pub Feeds : Reading → Reading → Type 0
Feeds old new = (acts : List Act) × DoesAll old acts new × (items_heard acts ≡ [])

does_join : (a b : List Act) (old mid new : Reading) → DoesAll old a mid → DoesAll mid b new → DoesAll old (a ++ b) new
does_join [] b old mid new first later = subst (λ (r : Reading). DoesAll r b new) first later
does_join (act ∷ a) b old mid new first later = (first.0, first.1, does_join a b first.0 mid new first.2 later)

heard_join : (a b : List Act) → items_heard (a ++ b) ≡ items_heard a ++ items_heard b
heard_join [] b = refl
heard_join (feeds bytes ∷ a) b = heard_join a b
heard_join (ends ∷ a) b = heard_join a b
heard_join (hands p ∷ a) b = ap (λ l. items_of p ++ l) (heard_join a b) ∙ sym (append_assoc (items_of p) (items_heard a) (items_heard b))
heard_join (halts why ∷ a) b = heard_join a b

-- more is heard
pub hears_more : (h : Head) (items : List ChainItem) (old new : Reading) (acts : List Act) → DoesAll old acts new → WasHeard h items old → WasHeard h (items ++ items_heard acts) new
hears_more h items old new acts does w = record {
  first = w.first;
  asked = w.asked;
  due = w.due;
  acts = w.acts ++ acts;
  does = does_join (hands _ ∷ w.acts) acts w.first old new w.does does;
  are = ap (λ l. l ++ items_heard acts) w.are ∙ ap (λ l. head_item h ∷ l) (sym (heard_join w.acts acts));
}

pub text_at : (n : ℕ) (lines : List Line) (l : Line) (now : Reading) → look n lines ≡ Some l → text_in n lines ≡ Some now → l.requests ≡ now
text_at n lines l now at is = let e : Some l.requests ≡ Some now = sym (ap (option_map (λ (k : Line). k.requests)) at) ∙ is in cc

pub feeds_listen : (n : ℕ) (lines later : List Line) (l m : Line) → look n lines ≡ Some l → look n later ≡ Some m → Feeds l.requests m.requests → Listens n lines later
feeds_listen n lines later l m at to f h items w =
    let same : l.requests ≡ w.now = text_at n lines l w.now at w.at in
    let more : WasHeard h (items ++ items_heard f.0) m.requests = hears_more h items l.requests m.requests f.0 f.1 (subst (WasHeard h items) (sym same) w.was) in
    record {
      now = m.requests;
      at = ap (option_map (λ (k : Line). k.requests)) to;
      was = subst (λ (is : List ChainItem). WasHeard h is m.requests) (ap (λ l. items ++ l) f.2 ∙ append-nil items) more;
    }

pub no_feed : (r : Reading) → Feeds r r
no_feed r = ([], refl, refl)

pub same_listens : (n : ℕ) (lines later : List Line) (l m : Line) → look n lines ≡ Some l → look n later ≡ Some m → m.requests ≡ l.requests → Listens n lines later
same_listens n lines later l m at to same = feeds_listen n lines later l m at to (subst (Feeds l.requests) (sym same) (no_feed l.requests))

pub look_listens : (n : ℕ) (lines later : List Line) → look n later ≡ look n lines → Listens n lines later
look_listens n lines later same h items w = record { now = w.now; at = ap (option_map (λ (k : Line). k.requests)) same ∙ w.at; was = w.was }

-- a part is handed on
pub hands_listen : (n : ℕ) (lines later : List Line) (l m : Line) (p : Part) (items : List ChainItem) → look n lines ≡ Some l → look n later ≡ Some m → Hands l.requests p m.requests → items_of p ≡ items
    → (h : Head) (got : List ChainItem) → HeardIn n lines h got → HeardIn n later h (got ++ items)
hands_listen n lines later l m p items at to handed is h got w =
    let same : l.requests ≡ w.now = text_at n lines l w.now at w.at in
    record {
      now = m.requests;
      at = ap (option_map (λ (k : Line). k.requests)) to;
      was = subst (λ (more : List ChainItem). WasHeard h (got ++ more) m.requests) (append-nil (items_of p) ∙ is)
          (hears_more h got l.requests m.requests (hands p ∷ []) (m.requests, handed, refl) (subst (WasHeard h got) (sym same) w.was));
    }

pub halts_listen : (n : ℕ) (lines later : List Line) (l m : Line) (why : Stop) → look n lines ≡ Some l → look n later ≡ Some m → Halts l.requests why m.requests → Listens n lines later
halts_listen n lines later l m why at to halted = feeds_listen n lines later l m at to (halts why ∷ [], (m.requests, halted, refl), refl)

-- more text
pub further_feeds : (stops : Bool) (bytes : List ℕ) (r : Reading) → Feeds r (reading_with_more stops bytes r)
further_feeds stops bytes r =
    by_bool (Feeds r) r.ended r (if stops then reading_with_end r else reading_with_bytes bytes r) (λ e. no_feed r)
    (λ e. by_bool (Feeds r) stops (reading_with_end r) (reading_with_bytes bytes r) (λ d. (ends ∷ [], (reading_with_end r, refl, refl), refl)) (λ d. (feeds bytes ∷ [], (reading_with_bytes bytes r, (e, refl), refl), refl)))
