-- A reader of what events spell, while they come.
use Rattle.std.proofs.Common.{◌≡◌, ℕ, ◌==◌, Bool, true, false, ◌&&◌, ◌||◌, List, [], ◌∷◌, ◌++◌, refl, ap, ◌∙◌, sym, subst}
use Rattle.std.proofs.lemmas.List.{append-nil, append_assoc}
use Rattle.std.specs.Prelude.{Option, if◌then◌else◌}
use Rattle.filter_host.specs.Heard as heard
use Rattle.filter_host.specs.Heard.{Heard, Hears}
use Rattle.gate_io.specs.declared.event.Side.{Side}
use Rattle.gate_io.specs.declared.event.Side.TheVariants.{Down, Up}
use Rattle.gate_io.specs.declared.event.What.{What}
use Rattle.gate_io.specs.declared.event.What.TheVariants as whats
use Rattle.h1_model.specs.Unread.{Reading, new_reading, Act, feeds, ends, hands, halts, DoesAll, text_of, reading_with_bytes, reading_with_end}
use Rattle.send_queue.specs.Places.{is_same_side}
use Rattle.worker_model.specs.Steps.{reading_with_more}
use Rattle.worker_model.specs.Wants.{is_up}
use Rattle.law_reading.specs.Spelled.{bytes_in, ends_in, text_of_side, has_ended, IsReadOf}
use Rattle.law_reading.proofs.Readers.{by_bool}
use Rattle.law_reading.proofs.Lines.{equal_is, equal_by}
use Rattle.law_reading.proofs.Every.{reading_in}
use Rattle.law_reading.proofs.Events.{Says}

-- ---- one event more

ends_bring_none : (n : ℕ) (side : Side) (w : What) → ends_in n side w ≡ true → bytes_in n side w ≡ []
ends_bring_none n side (whats.Opened m) is = refl
ends_bring_none n side (whats.Bytes m s bytes) is = absurd (cc)
ends_bring_none n side (whats.End m s) is = refl
ends_bring_none n side (whats.Gone m s) is = refl
ends_bring_none n side (whats.Joined m) is = refl
ends_bring_none n side (whats.Refused m) is = refl
ends_bring_none n side (whats.Room m s) is = refl
ends_bring_none n side whats.Clock is = refl
ends_bring_none n side whats.Stop is = refl

pub spelled_more : (n : ℕ) (side : Side) (ws : List What) (w : What) → text_of_side n side (ws ++ w ∷ []) ≡ (if has_ended n side ws then text_of_side n side ws else text_of_side n side ws ++ bytes_in n side w)
spelled_more n side [] w = by_test (ends_in n side w) refl
  where
    by_test : (b : Bool) → ends_in n side w ≡ b → (if b then [] else bytes_in n side w ++ []) ≡ bytes_in n side w
    by_test true is = sym (ends_bring_none n side w is)
    by_test false is = append-nil (bytes_in n side w)
spelled_more n side (v ∷ ws) w = by_test (spelled_more n side ws w) (ends_in n side v)
  where
    Rest : Bool → Type 0
    Rest b = (if b then [] else bytes_in n side v ++ text_of_side n side (ws ++ w ∷ []))
        ≡ (if b || has_ended n side ws then (if b then [] else bytes_in n side v ++ text_of_side n side ws) else (if b then [] else bytes_in n side v ++ text_of_side n side ws) ++ bytes_in n side w)

    by_ended : (b : Bool) → (bytes_in n side v ++ (if b then text_of_side n side ws else text_of_side n side ws ++ bytes_in n side w)) ≡ (if b then bytes_in n side v ++ text_of_side n side ws else (bytes_in n side v ++ text_of_side n side ws) ++ bytes_in n side w)
    by_ended true = refl
    by_ended false = sym (append_assoc (bytes_in n side v) (text_of_side n side ws) (bytes_in n side w))

    by_test : text_of_side n side (ws ++ w ∷ []) ≡ (if has_ended n side ws then text_of_side n side ws else text_of_side n side ws ++ bytes_in n side w) → (b : Bool) → Rest b
    by_test rest true = refl
    by_test rest false = ap (λ l. bytes_in n side v ++ l) rest ∙ by_ended (has_ended n side ws)

pub ended_more : (n : ℕ) (side : Side) (ws : List What) (w : What) → has_ended n side (ws ++ w ∷ []) ≡ (has_ended n side ws || ends_in n side w)
ended_more n side [] w = by_test (ends_in n side w)
  where
    by_test : (b : Bool) → (b || false) ≡ b
    by_test true = refl
    by_test false = refl
ended_more n side (v ∷ ws) w = by_test (ended_more n side ws w) (ends_in n side v)
  where
    by_test : has_ended n side (ws ++ w ∷ []) ≡ (has_ended n side ws || ends_in n side w) → (b : Bool) → (b || has_ended n side (ws ++ w ∷ [])) ≡ ((b || has_ended n side ws) || ends_in n side w)
    by_test rest true = refl
    by_test rest false = rest

-- ---- what is done with readers

pub does_join : (a b : List Act) (old mid new : Reading) → DoesAll old a mid → DoesAll mid b new → DoesAll old (a ++ b) new
does_join [] b old mid new first later = subst (λ (r : Reading). DoesAll r b new) first later
does_join (act ∷ a) b old mid new first later = (first.0, first.1, does_join a b first.0 mid new first.2 later)

pub text_join : (a b : List Act) → text_of (a ++ b) ≡ text_of a ++ text_of b
text_join [] b = refl
text_join (feeds bytes ∷ a) b = ap (λ l. bytes ++ l) (text_join a b) ∙ sym (append_assoc bytes (text_of a) (text_of b))
text_join (ends ∷ a) b = text_join a b
text_join (hands p ∷ a) b = text_join a b
text_join (halts why ∷ a) b = text_join a b

module _ (asked : Option (List ℕ)) (n : ℕ) (side : Side) where
  -- a new one
  pub read_none : IsReadOf asked n side [] (new_reading asked)
  read_none = record { acts = []; does = refl; text = refl; ended = refl }

  -- a part is handed on, or none is there
  pub read_hears : (ws : List What) (old : Reading) (h : Heard) → IsReadOf asked n side ws old → Hears old h → IsReadOf asked n side ws (reading_in h)
  read_hears ws old (heard.hands p new) read says = record {
    acts = read.acts ++ hands p ∷ [];
    does = does_join read.acts (hands p ∷ []) (new_reading asked) old new read.does (new, says, refl);
    text = text_join read.acts (hands p ∷ []) ∙ (append-nil (text_of read.acts) ∙ read.text);
    ended = ap (λ (r : Reading). r.ended) says.is ∙ read.ended;
  }
  read_hears ws old (heard.halts why new) read says = record {
    acts = read.acts ++ halts why ∷ [];
    does = does_join read.acts (halts why ∷ []) (new_reading asked) old new read.does (new, says, refl);
    text = text_join read.acts (halts why ∷ []) ∙ (append-nil (text_of read.acts) ∙ read.text);
    ended = ap (λ (r : Reading). r.ended) says.is ∙ read.ended;
  }

  -- an event that says nothing of the side
  pub read_aside : (ws : List What) (w : What) (r : Reading) → bytes_in n side w ≡ [] → ends_in n side w ≡ false → IsReadOf asked n side ws r → IsReadOf asked n side (ws ++ w ∷ []) r
  read_aside ws w r none open_still read = record {
    acts = read.acts;
    does = read.does;
    text = read.text ∙ sym (spelled_more n side ws w ∙ by_ended (has_ended n side ws));
    ended = read.ended ∙ sym (ended_more n side ws w ∙ by_end (has_ended n side ws));
  }
    where
      by_ended : (b : Bool) → (if b then text_of_side n side ws else text_of_side n side ws ++ bytes_in n side w) ≡ text_of_side n side ws
      by_ended true = refl
      by_ended false = ap (λ l. text_of_side n side ws ++ l) none ∙ append-nil (text_of_side n side ws)

      by_end : (b : Bool) → (b || ends_in n side w) ≡ b
      by_end true = refl
      by_end false = open_still

  -- one that says what comes of it
  pub read_further : (ws : List What) (w : What) (stops : Bool) (bytes : List ℕ) (r : Reading) → bytes_in n side w ≡ bytes → ends_in n side w ≡ stops → (stops ≡ true → bytes ≡ []) → IsReadOf asked n side ws r
      → IsReadOf asked n side (ws ++ w ∷ []) (reading_with_more stops bytes r)
  read_further ws w stops bytes r brings tells none read =
      by_bool (IsReadOf asked n side (ws ++ w ∷ [])) r.ended r (if stops then reading_with_end r else reading_with_bytes bytes r) (λ e. over e)
      (λ e. by_bool (IsReadOf asked n side (ws ++ w ∷ [])) stops (reading_with_end r) (reading_with_bytes bytes r) (λ d. last e d) (λ d. more e d))
    where
      text_when : (b : Bool) → has_ended n side ws ≡ b → text_of_side n side (ws ++ w ∷ []) ≡ (if b then text_of_side n side ws else text_of_side n side ws ++ bytes_in n side w)
      text_when b is = spelled_more n side ws w ∙ ap (λ (c : Bool). if c then text_of_side n side ws else text_of_side n side ws ++ bytes_in n side w) is

      ended_when : (b : Bool) → has_ended n side ws ≡ b → has_ended n side (ws ++ w ∷ []) ≡ (b || ends_in n side w)
      ended_when b is = ended_more n side ws w ∙ ap (λ (c : Bool). c || ends_in n side w) is

      over : r.ended ≡ true → IsReadOf asked n side (ws ++ w ∷ []) r
      over e =
          let closed : has_ended n side ws ≡ true = sym read.ended ∙ e in
          record { acts = read.acts; does = read.does; text = read.text ∙ sym (text_when true closed); ended = e ∙ sym (ended_when true closed) }

      last : r.ended ≡ false → stops ≡ true → IsReadOf asked n side (ws ++ w ∷ []) (reading_with_end r)
      last e d =
          let live : has_ended n side ws ≡ false = sym read.ended ∙ e in
          record {
            acts = read.acts ++ ends ∷ [];
            does = does_join read.acts (ends ∷ []) (new_reading asked) r (reading_with_end r) read.does (reading_with_end r, refl, refl);
            text = text_join read.acts (ends ∷ []) ∙ (append-nil (text_of read.acts) ∙ (read.text ∙ sym (text_when false live ∙ (ap (λ l. text_of_side n side ws ++ l) (brings ∙ none d) ∙ append-nil (text_of_side n side ws)))));
            ended = sym (ended_when false live ∙ (tells ∙ d));
          }

      more : r.ended ≡ false → stops ≡ false → IsReadOf asked n side (ws ++ w ∷ []) (reading_with_bytes bytes r)
      more e d =
          let live : has_ended n side ws ≡ false = sym read.ended ∙ e in
          record {
            acts = read.acts ++ feeds bytes ∷ [];
            does = does_join read.acts (feeds bytes ∷ []) (new_reading asked) r (reading_with_bytes bytes r) read.does (reading_with_bytes bytes r, (e, refl), refl);
            text = text_join read.acts (feeds bytes ∷ []) ∙ (ap (λ l. l ++ (bytes ++ [])) read.text ∙ (ap (λ l. text_of_side n side ws ++ l) (append-nil bytes ∙ sym brings) ∙ sym (text_when false live)));
            ended = e ∙ sym (ended_when false live ∙ (tells ∙ d));
          }

-- ---- what an event says of a side

and_true : (a b : Bool) → a ≡ true → b ≡ true → (a && b) ≡ true
and_true a b e f = ap (λ c. c && b) e ∙ f

pub both_true : (a b : Bool) → (a && b) ≡ true → (a ≡ true) × (b ≡ true)
both_true true b is = (refl, is)
both_true false b is = absurd (cc)

side_is : (side s : Side) → is_up s ≡ is_up side → is_same_side side s ≡ true
side_is Down Down is = refl
side_is Down Up is = absurd (cc)
side_is Up Down is = absurd (cc)
side_is Up Up is = refl

pub is_side : (side s : Side) → is_same_side side s ≡ true → is_up s ≡ is_up side
is_side Down Down is = refl
is_side Down Up is = absurd (cc)
is_side Up Down is = absurd (cc)
is_side Up Up is = refl

pub said : (n : ℕ) (side : Side) (w : What) (stops : Bool) (bytes : List ℕ) → Says w (is_up side) stops bytes n → (bytes_in n side w ≡ bytes) × (ends_in n side w ≡ stops) × (stops ≡ true → bytes ≡ [])
said n side (whats.Opened m) stops bytes says = absurd says
said n side (whats.Bytes m s text) stops bytes says =
    (ap (λ (b : Bool). if b then text else []) (and_true (m == n) (is_same_side side s) (equal_is m n says.3) (side_is side s says.0)) ∙ sym says.2, sym says.1, λ e. let never : ◌≡◌ {A = Bool} true false = sym e ∙ says.1 in absurd (cc))
said n side (whats.End m s) stops bytes says =
    (sym says.2, and_true (m == n) (is_same_side side s) (equal_is m n says.3) (side_is side s says.0) ∙ sym says.1, λ e. says.2)
said n side (whats.Gone m s) stops bytes says = absurd says
said n side (whats.Joined m) stops bytes says = absurd says
said n side (whats.Refused m) stops bytes says = absurd says
said n side (whats.Room m s) stops bytes says = absurd says
said n side whats.Clock stops bytes says = absurd says
said n side whats.Stop stops bytes says = absurd says

pub unsaid : (n : ℕ) (side : Side) (w : What) → ((stops : Bool) (bytes : List ℕ) → Says w (is_up side) stops bytes n → ⊥) → (bytes_in n side w ≡ []) × (ends_in n side w ≡ false)
unsaid n side (whats.Opened m) never = (refl, refl)
unsaid n side (whats.Bytes m s text) never = (by_test ((m == n) && is_same_side side s) refl, refl)
  where
    by_test : (b : Bool) → ((m == n) && is_same_side side s) ≡ b → (if b then text else []) ≡ []
    by_test true is = let p = both_true (m == n) (is_same_side side s) is in absurd (never false text (is_side side s p.1, refl, refl, equal_by m n p.0))
    by_test false is = refl
unsaid n side (whats.End m s) never = (refl, by_test ((m == n) && is_same_side side s) refl)
  where
    by_test : (b : Bool) → ((m == n) && is_same_side side s) ≡ b → b ≡ false
    by_test true is = let p = both_true (m == n) (is_same_side side s) is in absurd (never true [] (is_side side s p.1, refl, refl, equal_by m n p.0))
    by_test false is = refl
unsaid n side (whats.Gone m s) never = (refl, refl)
unsaid n side (whats.Joined m) never = (refl, refl)
unsaid n side (whats.Refused m) never = (refl, refl)
unsaid n side (whats.Room m s) never = (refl, refl)
unsaid n side whats.Clock never = (refl, refl)
unsaid n side whats.Stop never = (refl, refl)
