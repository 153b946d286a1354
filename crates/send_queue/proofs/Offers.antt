-- What one member's offer comes to, and the offers of a list.
use Rattle.std.proofs.Common.{◌≡◌, ◌≢◌, ◌⊎◌, inl, inr, ℕ, zero, suc, ◌+◌, ◌<◌, ◌≤◌, Bool, true, false, List, [], ◌∷◌, ◌++◌, length, take, drop, get_or, Option, None, Some, Result, Ok, Err, OnOk, IsErr, refl, sym, ◌∙◌, ap, subst, arith, append_assoc, take-append-drop}
use Rattle.std.specs.Prelude.{if◌then◌else◌, nat_lt, IsTrue, IfOk, IfSome}
use Rattle.std.specs.declared.alloc.AllocError.{AllocError}
use Rattle.std.proofs.lemmas.List.{append-nil, take_all, drop_all, take_more, drop_more}
use Rattle.std.proofs.lemmas.Bool.{lt-ltb, le-ltb}
use Rattle.std.proofs.lemmas.Result.{IfOk-from_err}
use Rattle.gate_io.specs.Passing.{piece, front, taking, happened, received, asked}
use Rattle.gate_io.specs.Reads.{happened-append, received-append, asked-append, happened-front, received-front}
use Rattle.gate_io.specs.Told.{Gains, gains_nothing, gains_more}
use Rattle.gate_io.specs.declared.event.Sent.{Sent}
use Rattle.gate_io.specs.declared.event.Sent.TheVariants.{Connect, Bytes, Close, Log}
use Rattle.gate_io.specs.declared.event.Side.{Side}
use Rattle.gate_io.specs.declared.passed.Passed.{Passed}
use Rattle.gate_io.specs.declared.passed.Passed.TheVariants.{Asked, Gave, Took, Short}
use Rattle.send_queue.specs.Delivery.{WasShort, NeverShort, IsLeftAlone, StopsAtShort, WaitsWhereShort, WaitsBehind, solid, IsFilled, AreFilled, Delivered, WaitsOnlyShort, Prompt, Offered}
use Rattle.send_queue.specs.Places.{Mark, place_of, marks_in, marks_of, marks_at}
use Rattle.send_queue.specs.Sorted.{IsBehind}
use Rattle.send_queue.specs.Taking.{rest_of, none_left, WasOffered}
use Rattle.send_queue.specs.declared.place.Destination.{Destination}
use Rattle.send_queue.specs.declared.place.Destination.TheVariants.{Peer}
use Rattle.send_queue.proofs.Marks.{cases_place, marks_here, marks_elsewhere, marks_at-append, marks_at-push, marks_of-two, marks_of-none, append_empty, append_not_empty}
use Rattle.send_queue.proofs.Sorting.{marks_in-filled}

pub was_short-left : (place : Destination) (a b : List Passed) → WasShort place a → WasShort place (a ++ b)
was_short-left place [] b h = elim h [ ]
was_short-left place (Asked wants ∷ a) b h = was_short-left place a b h
was_short-left place (Gave event ∷ a) b h = was_short-left place a b h
was_short-left place (Took member ∷ a) b h = was_short-left place a b h
was_short-left place (Short line side ∷ a) b (inl h) = inl h
was_short-left place (Short line side ∷ a) b (inr h) = inr (was_short-left place a b h)

pub was_short-right : (place : Destination) (a b : List Passed) → WasShort place b → WasShort place (a ++ b)
was_short-right place [] b h = h
was_short-right place (Asked wants ∷ a) b h = was_short-right place a b h
was_short-right place (Gave event ∷ a) b h = was_short-right place a b h
was_short-right place (Took member ∷ a) b h = was_short-right place a b h
was_short-right place (Short line side ∷ a) b h = inr (was_short-right place a b h)

pub was_short-either : (place : Destination) (a b : List Passed) → WasShort place (a ++ b) → WasShort place a ⊎ WasShort place b
was_short-either place [] b h = inr h
was_short-either place (Asked wants ∷ a) b h = was_short-either place a b h
was_short-either place (Gave event ∷ a) b h = was_short-either place a b h
was_short-either place (Took member ∷ a) b h = was_short-either place a b h
was_short-either place (Short line side ∷ a) b (inl h) = inl (inl h)
was_short-either place (Short line side ∷ a) b (inr h) = elim (was_short-either place a b h) [ inl first ↦ inl (inr first) | inr next ↦ inr next ]

pub never_short-append : (a b : List Passed) → NeverShort a → NeverShort b → NeverShort (a ++ b)
never_short-append a b first next = λ place h. elim (was_short-either place a b h) [ inl short ↦ first place short | inr short ↦ next place short ]

-- a place that was left alone, in two shares
left_alone-append : (place : Destination) (a b : List Passed) → IsLeftAlone place a → IsLeftAlone place b → IsLeftAlone place (a ++ b)
left_alone-append place [] b first next = next
left_alone-append place (Asked wants ∷ a) b first next = left_alone-append place a b first next
left_alone-append place (Gave event ∷ a) b first next = left_alone-append place a b first next
left_alone-append place (Took member ∷ a) b first next = (first.0, left_alone-append place a b first.1 next)
left_alone-append place (Short line side ∷ a) b first next = (first.0, left_alone-append place a b first.1 next)

-- The second share leaves alone the places at which the first fell short.
stops-append : (a b : List Passed) → StopsAtShort a → StopsAtShort b → ((place : Destination) → WasShort place a → IsLeftAlone place b) → StopsAtShort (a ++ b)
stops-append [] b first next apart = next
stops-append (Asked wants ∷ a) b first next apart = stops-append a b first next apart
stops-append (Gave event ∷ a) b first next apart = stops-append a b first next apart
stops-append (Took member ∷ a) b first next apart = stops-append a b first next apart
stops-append (Short line side ∷ a) b first next apart =
    (left_alone-append (Peer line side) a b first.0 (apart (Peer line side) (inl refl)), stops-append a b first.1 next (λ place h. apart place (inr h)))

-- nothing is received at a place that was left alone
received-left_alone : (place : Destination) (steps : List Passed) → IsLeftAlone place steps → marks_at place (received steps) ≡ []
received-left_alone place [] alone = refl
received-left_alone place (Asked wants ∷ steps) alone = received-left_alone place steps alone
received-left_alone place (Gave event ∷ steps) alone = received-left_alone place steps alone
received-left_alone place (Took member ∷ steps) alone = λ i. marks_elsewhere place member alone.0 i ++ received-left_alone place steps alone.1 i
received-left_alone place (Short line side ∷ steps) alone = received-left_alone place steps alone.1

pub solid-append : (a b : List Sent) → solid (a ++ b) ≡ solid a ++ solid b
solid-append [] b = refl
solid-append (Connect line ∷ a) b = ap (λ (l : List Sent). Connect line ∷ l) (solid-append a b)
solid-append (Bytes line side [] ∷ a) b = solid-append a b
solid-append (Bytes line side (x ∷ bytes) ∷ a) b = ap (λ (l : List Sent). Bytes line side (x ∷ bytes) ∷ l) (solid-append a b)
solid-append (Close line side ∷ a) b = ap (λ (l : List Sent). Close line side ∷ l) (solid-append a b)
solid-append (Log level text ∷ a) b = ap (λ (l : List Sent). Log level text ∷ l) (solid-append a b)

-- empty pieces put nothing anywhere
pub marks_at-solid : (place : Destination) (sent : List Sent) → marks_at place (solid sent) ≡ marks_at place sent
marks_at-solid place [] = refl
marks_at-solid place (Connect line ∷ sent) = ap (λ (m : List Mark). marks_of place (Connect line) ++ m) (marks_at-solid place sent)
marks_at-solid place (Bytes line side [] ∷ sent) = marks_at-solid place sent ∙ ap (λ (m : List Mark). m ++ marks_at place sent) (sym (marks_of-none place line side))
marks_at-solid place (Bytes line side (x ∷ bytes) ∷ sent) = ap (λ (m : List Mark). marks_of place (Bytes line side (x ∷ bytes)) ++ m) (marks_at-solid place sent)
marks_at-solid place (Close line side ∷ sent) = ap (λ (m : List Mark). marks_of place (Close line side) ++ m) (marks_at-solid place sent)
marks_at-solid place (Log level text ∷ sent) = ap (λ (m : List Mark). marks_of place (Log level text) ++ m) (marks_at-solid place sent)

-- and a list without them stays
pub solid_same : (sent : List Sent) → AreFilled sent → solid sent ≡ sent
solid_same [] filled = refl
solid_same (Connect line ∷ sent) filled = ap (λ (l : List Sent). Connect line ∷ l) (solid_same sent filled.1)
solid_same (Bytes line side [] ∷ sent) filled = absurd filled.0
solid_same (Bytes line side (x ∷ bytes) ∷ sent) filled = ap (λ (l : List Sent). Bytes line side (x ∷ bytes) ∷ l) (solid_same sent filled.1)
solid_same (Close line side ∷ sent) filled = ap (λ (l : List Sent). Close line side ∷ l) (solid_same sent filled.1)
solid_same (Log level text ∷ sent) filled = ap (λ (l : List Sent). Log level text ∷ l) (solid_same sent filled.1)

-- no event is asked for in a `send`
asked-note : (line : ℕ) (side : Side) (b : Bool) → asked (if b then Short line side ∷ [] else []) ≡ []
asked-note line side true = refl
asked-note line side false = refl

asked-piece : (line : ℕ) (side : Side) (bytes : List ℕ) → asked (piece line side bytes) ≡ []
asked-piece line side [] = refl
asked-piece line side (b ∷ bytes) = refl

asked-front : (line : ℕ) (side : Side) (bytes : List ℕ) (n : ℕ) → asked (front line side bytes n) ≡ []
asked-front line side bytes n =
    asked-append (piece line side (take n bytes)) (if nat_lt n (length bytes) then Short line side ∷ [] else [])
    ∙ (λ i. asked-piece line side (take n bytes) i ++ asked-note line side (nat_lt n (length bytes)) i)

marks_at-piece : (place : Destination) (line : ℕ) (side : Side) (bytes : List ℕ) → marks_at place (received (piece line side bytes)) ≡ marks_of place (Bytes line side bytes)
marks_at-piece place line side [] = sym (marks_of-none place line side)
marks_at-piece place line side (b ∷ bytes) = append-nil (marks_of place (Bytes line side (b ∷ bytes)))

-- what a `send` took stands at its place
marks_at-front : (place : Destination) (line : ℕ) (side : Side) (bytes : List ℕ) (n : ℕ) → marks_at place (received (front line side bytes n)) ≡ marks_of place (Bytes line side (take n bytes))
marks_at-front place line side bytes n = ap (marks_at place) (received-front line side bytes n) ∙ marks_at-piece place line side (take n bytes)

-- a `send` that took less than its piece is noted
pub short-front : (line : ℕ) (side : Side) (bytes : List ℕ) (n : ℕ) → n < length bytes → WasShort (Peer line side) (front line side bytes n)
short-front line side bytes n less = was_short-right (Peer line side) (piece line side (take n bytes)) _ (noted (nat_lt n (length bytes)) (lt-ltb n (length bytes) less))
  where
    noted : (b : Bool) → b ≡ true → WasShort (Peer line side) (if b then Short line side ∷ [] else [])
    noted true e = inl refl
    noted false e = absurd (cc)

never_short-piece : (line : ℕ) (side : Side) (bytes : List ℕ) → NeverShort (piece line side bytes)
never_short-piece line side [] = λ place h. h
never_short-piece line side (b ∷ bytes) = λ place h. h

-- and one that took all is not
pub never_short-front : (line : ℕ) (side : Side) (bytes : List ℕ) (n : ℕ) → length bytes ≤ n → NeverShort (front line side bytes n)
never_short-front line side bytes n all = never_short-append (piece line side (take n bytes)) _ (never_short-piece line side (take n bytes)) (unnoted (nat_lt n (length bytes)) (le-ltb n (length bytes) all))
  where
    unnoted : (b : Bool) → b ≡ false → NeverShort (if b then Short line side ∷ [] else [])
    unnoted true e = absurd (cc)
    unnoted false e = λ place h. h

-- a `send` leaves other places alone
alone-piece : (place : Destination) (line : ℕ) (side : Side) (bytes : List ℕ) → (Peer line side ≡ place → ⊥) → IsLeftAlone place (piece line side bytes)
alone-piece place line side [] other = tt
alone-piece place line side (b ∷ bytes) other = (other, tt)

alone-note : (place : Destination) (line : ℕ) (side : Side) (b : Bool) → (Peer line side ≡ place → ⊥) → IsLeftAlone place (if b then Short line side ∷ [] else [])
alone-note place line side true other = (other, tt)
alone-note place line side false other = tt

alone-front : (place : Destination) (line : ℕ) (side : Side) (bytes : List ℕ) (n : ℕ) → (Peer line side ≡ place → ⊥) → IsLeftAlone place (front line side bytes n)
alone-front place line side bytes n other =
    left_alone-append place (piece line side (take n bytes)) _ (alone-piece place line side (take n bytes) other) (alone-note place line side (nat_lt n (length bytes)) other)

-- and a shortfall is the last of it
stops-piece : (line : ℕ) (side : Side) (bytes : List ℕ) → StopsAtShort (piece line side bytes)
stops-piece line side [] = tt
stops-piece line side (b ∷ bytes) = tt

stops-note : (line : ℕ) (side : Side) (b : Bool) → StopsAtShort (if b then Short line side ∷ [] else [])
stops-note line side true = (tt, tt)
stops-note line side false = tt

stops-front : (line : ℕ) (side : Side) (bytes : List ℕ) (n : ℕ) → StopsAtShort (front line side bytes n)
stops-front line side bytes n =
    stops-append (piece line side (take n bytes)) _ (stops-piece line side (take n bytes)) (stops-note line side (nat_lt n (length bytes)))
    (λ place h. absurd (never_short-piece line side (take n bytes) place h))

-- only its place falls short
short_here-front : (place : Destination) (line : ℕ) (side : Side) (bytes : List ℕ) (n : ℕ) → WasShort place (front line side bytes n) → Peer line side ≡ place
short_here-front place line side bytes n h = elim (was_short-either place (piece line side (take n bytes)) _ h) [
  | inl first ↦ absurd (never_short-piece line side (take n bytes) place first)
  | inr next ↦ noted (nat_lt n (length bytes)) next
]
  where
    noted : (b : Bool) → WasShort place (if b then Short line side ∷ [] else []) → Peer line side ≡ place
    noted true (inl is) = is
    noted true (inr h) = absurd h
    noted false h = absurd h

-- Where nothing waited for the member's place, a step that leaves other places alone leaves alone those at which something waits.
waits_behind : (left rest : List Sent) (place_is : Destination) (steps : List Passed) (more : Destination → List Mark) → marks_at place_is left ≡ [] → ((place : Destination) → (place_is ≡ place → ⊥) → IsLeftAlone place steps)
    → ((place : Destination) → marks_at place rest ≡ marks_at place left ++ more place) → WaitsBehind left steps rest
waits_behind left rest place_is steps more none alone waits = λ place some.
    (alone place (λ is. some (ap (λ (p : Destination). marks_at p left) (sym is) ∙ none)), λ empty. append_not_empty (marks_at place left) (more place) some (sym (waits place) ∙ empty))

-- what waits is there still in front of a member that is not offered
still_behind : (left : List Sent) (member : Sent) → WaitsBehind left [] (left ++ member ∷ [])
still_behind left member = λ place some. (tt, λ empty. append_not_empty (marks_at place left) (marks_of place member) some (sym (marks_at-push place left member) ∙ empty))

-- Of a member for whose place nothing waited some was taken, and the rest of it waits after what waited.
front_taken : (left : List Sent) (member : Sent) (steps : List Passed) (rest : List Sent) (more : Destination → List Mark) → marks_at (place_of member) left ≡ []
    → ((place : Destination) → marks_at place rest ≡ marks_at place left ++ more place) → ((place : Destination) → marks_at place (received steps) ++ more place ≡ marks_of place member)
    → StopsAtShort steps → WaitsWhereShort steps rest → happened steps ≡ [] → asked steps ≡ [] → Delivered (left ++ member ∷ []) steps rest
front_taken left member steps rest more none waits taken stops waits_short no_event not_asked = record {
  goes_on = λ place. ap (λ (m : List Mark). marks_at place (received steps) ++ m) (waits place) ∙ go place (cases_place (place_of member) place);
  stops = stops;
  waits_short = waits_short;
  no_event = no_event;
  not_asked = not_asked;
}
  where
    go : (place : Destination) → (place_of member ≡ place) ⊎ (place_of member ≡ place → ⊥) → marks_at place (received steps) ++ (marks_at place left ++ more place) ≡ marks_at place (left ++ member ∷ [])
    go place (inl here) =
        let empty : marks_at place left ≡ [] = ap (λ (p : Destination). marks_at p left) (sym here) ∙ none in
        ap (λ (m : List Mark). marks_at place (received steps) ++ (m ++ more place)) empty ∙ taken place
        ∙ ap (λ (m : List Mark). m ++ marks_of place member) (sym empty) ∙ sym (marks_at-push place left member)
    go place (inr other) =
        let empty = append_empty (marks_at place (received steps)) (more place) (taken place ∙ marks_elsewhere place member other) in
        (λ i. empty.0 i ++ (marks_at place left ++ empty.1 i)) ∙ ap (λ (m : List Mark). marks_at place left ++ m) (sym (marks_elsewhere place member other)) ∙ sym (marks_at-push place left member)

-- nothing was offered
pub none_taken : (before : List Sent) → Delivered before [] before
none_taken before = record { goes_on = λ place. refl; stops = tt; waits_short = λ place h. absurd h; no_event = refl; not_asked = refl }

-- a member that is taken as a whole
whole_taken : (left : List Sent) (member : Sent) → marks_at (place_of member) left ≡ [] → Delivered (left ++ member ∷ []) (Took member ∷ []) left
whole_taken left member none =
    front_taken left member (Took member ∷ []) left (λ place. []) none (λ place. sym (append-nil (marks_at place left))) (λ place. append-nil _ ∙ append-nil (marks_of place member)) tt (λ place h. absurd h) refl refl

-- a front of the bytes
bytes_taken : (left rest : List Sent) (line : ℕ) (side : Side) (bytes : List ℕ) (n : ℕ) → marks_at (Peer line side) left ≡ []
    → ((place : Destination) → marks_at place rest ≡ marks_at place left ++ marks_of place (Bytes line side (drop n bytes))) → WaitsWhereShort (front line side bytes n) rest
    → Delivered (left ++ Bytes line side bytes ∷ []) (front line side bytes n) rest
bytes_taken left rest line side bytes n none waits waits_short =
    front_taken left (Bytes line side bytes) (front line side bytes n) rest (λ place. marks_of place (Bytes line side (drop n bytes))) none waits
    (λ place.
    ap (λ (m : List Mark). m ++ marks_of place (Bytes line side (drop n bytes))) (marks_at-front place line side bytes n)
    ∙ marks_of-two place line side (take n bytes) (drop n bytes)
    ∙ ap (λ (b : List ℕ). marks_of place (Bytes line side b)) (take-append-drop n bytes))
    (stops-front line side bytes n) waits_short (happened-front line side bytes n) (asked-front line side bytes n)

pub all_taken : (left : List Sent) (line : ℕ) (side : Side) (bytes : List ℕ) (n : ℕ) → marks_at (Peer line side) left ≡ [] → length bytes ≤ n
    → Delivered (left ++ Bytes line side bytes ∷ []) (front line side bytes n) left
all_taken left line side bytes n none all =
    bytes_taken left left line side bytes n none
    (λ place. sym (append-nil (marks_at place left)) ∙ ap (λ (m : List Mark). marks_at place left ++ m) (sym (ap (λ (b : List ℕ). marks_of place (Bytes line side b)) (drop_all n bytes all) ∙ marks_of-none place line side)))
    (λ place h. absurd (never_short-front line side bytes n all place h))

-- what is left of a piece of which not all was taken is no empty piece
filled_rest : (line : ℕ) (side : Side) (bytes : List ℕ) (n : ℕ) → n < length bytes → IsFilled (Bytes line side (drop n bytes))
filled_rest line side [] n less = absurd (omega (arith, less))
filled_rest line side (b ∷ bytes) zero less = tt
filled_rest line side (b ∷ bytes) (suc n) less = filled_rest line side bytes n (omega (arith, less))

pub part_taken : (left rest : List Sent) (line : ℕ) (side : Side) (bytes : List ℕ) (n : ℕ) → n < length bytes → marks_at (Peer line side) left ≡ [] → IsBehind left (Bytes line side (drop n bytes)) rest
    → Delivered (left ++ Bytes line side bytes ∷ []) (front line side bytes n) rest
part_taken left rest line side bytes n less none is = bytes_taken left rest line side bytes n none is (λ place h. here place (short_here-front place line side bytes n h))
  where
    more : Sent
    more = Bytes line side (drop n bytes)

    here : (place : Destination) → Peer line side ≡ place → marks_at place rest ≢ []
    here place same = λ empty. marks_in-filled more (filled_rest line side bytes n less) (sym (marks_here place more same) ∙ (append_empty (marks_at place left) (marks_of place more) (sym (is place) ∙ empty)).1)

-- what waits is at the member's place
waits_here : (left rest : List Sent) (steps : List Passed) (member more : Sent) → place_of more ≡ place_of member → IsBehind left more rest
    → (marks_at (place_of member) left ≢ []) ⊎ WasShort (place_of member) steps → WaitsOnlyShort left steps rest
waits_here left rest steps member more same is why = λ place none. go place none (cases_place (place_of member) place) why
  where
    go : (place : Destination) → marks_at place left ≡ [] → (place_of member ≡ place) ⊎ (place_of member ≡ place → ⊥) → (marks_at (place_of member) left ≢ []) ⊎ WasShort (place_of member) steps
        → (marks_at place rest ≡ []) ⊎ WasShort place steps
    go place none (inl here) (inl some) = absurd (some (ap (λ (p : Destination). marks_at p left) here ∙ none))
    go place none (inl here) (inr short) = inr (subst (λ (p : Destination). WasShort p steps) here short)
    go place none (inr other) why =
        inl (is place ∙ (λ i. none i ++ marks_elsewhere place more (λ e. other (sym same ∙ e)) i))

-- nothing was left of the member
prompt_all : (left : List Sent) (member : Sent) (steps : List Passed) → received steps ≡ solid (member ∷ []) → Prompt left (left ++ member ∷ []) steps left
prompt_all left member steps taken = record { only_short = λ place none. inl none; whole = λ none never. (taken ∙ ap (λ (l : List Sent). solid (l ++ member ∷ [])) (sym none), none) }

received-whole_piece : (line : ℕ) (side : Side) (bytes : List ℕ) → received (piece line side bytes) ≡ solid (Bytes line side bytes ∷ [])
received-whole_piece line side [] = refl
received-whole_piece line side (b ∷ bytes) = refl

pub prompt_bytes : (left : List Sent) (line : ℕ) (side : Side) (bytes : List ℕ) (n : ℕ) → length bytes ≤ n → Prompt left (left ++ Bytes line side bytes ∷ []) (front line side bytes n) left
prompt_bytes left line side bytes n all =
    prompt_all left (Bytes line side bytes) (front line side bytes n)
    (received-front line side bytes n ∙ ap (λ (b : List ℕ). received (piece line side b)) (take_all n bytes all) ∙ received-whole_piece line side bytes)

pub prompt_short : (left rest : List Sent) (line : ℕ) (side : Side) (bytes more : List ℕ) (n : ℕ) → n < length bytes → IsBehind left (Bytes line side more) rest
    → Prompt left (left ++ Bytes line side bytes ∷ []) (front line side bytes n) rest
prompt_short left rest line side bytes more n less is = record {
  only_short = waits_here left rest (front line side bytes n) (Bytes line side bytes) (Bytes line side more) refl is (inr (short-front line side bytes n less));
  whole = λ none never. absurd (never (Peer line side) (short-front line side bytes n less));
}

prompt_wait : (left rest : List Sent) (member : Sent) → marks_at (place_of member) left ≢ [] → IsBehind left member rest → Prompt left (left ++ member ∷ []) [] rest
prompt_wait left rest member some is = record {
  only_short = waits_here left rest [] member member refl is (inl some);
  whole = λ none never. absurd (some (ap (marks_at (place_of member)) none));
}

solid_whole : (member : Sent) → ((line : ℕ) (side : Side) (bytes : List ℕ) → member ≡ Bytes line side bytes → ⊥) → received (Took member ∷ []) ≡ solid (member ∷ [])
solid_whole (Connect line) other = refl
solid_whole (Bytes line side bytes) other = absurd (other line side bytes refl)
solid_whole (Close line side) other = refl
solid_whole (Log level text) other = refl

-- two shares of what passed, one after the other
still_only_short : (waited left rest1 rest2 : List Sent) (s1 s2 : List Passed) → rest1 ≡ left → WaitsOnlyShort waited s1 rest1 → WaitsOnlyShort left s2 rest2 → WaitsOnlyShort waited (s1 ++ s2) rest2
still_only_short waited left rest1 rest2 s1 s2 is first next = λ place none. go place (first place none)
  where
    go : (place : Destination) → (marks_at place rest1 ≡ []) ⊎ WasShort place s1 → (marks_at place rest2 ≡ []) ⊎ WasShort place (s1 ++ s2)
    go place (inl empty) = elim (next place (ap (marks_at place) (sym is) ∙ empty)) [ inl gone ↦ inl gone | inr short ↦ inr (was_short-right place s1 s2 short) ]
    go place (inr short) = inr (was_short-left place s1 s2 short)

delivered_more : (before left rest1 rest2 more : List Sent) (s1 s2 : List Passed) → rest1 ≡ left → Delivered before s1 rest1 → Delivered (left ++ more) s2 rest2 → WaitsBehind left s2 rest2
    → Delivered (before ++ more) (s1 ++ s2) rest2
delivered_more before left rest1 rest2 more s1 s2 is first next behind = record {
  goes_on = λ place.
      ap (λ (l : List Sent). marks_at place l ++ marks_at place rest2) (received-append s1 s2)
      ∙ ap (λ (m : List Mark). m ++ marks_at place rest2) (marks_at-append place (received s1) (received s2))
      ∙ append_assoc (marks_at place (received s1)) (marks_at place (received s2)) (marks_at place rest2)
      ∙ ap (λ (m : List Mark). marks_at place (received s1) ++ m) (next.goes_on place ∙ marks_at-append place left more)
      ∙ sym (append_assoc (marks_at place (received s1)) (marks_at place left) (marks_at place more))
      ∙ ap (λ (m : List Mark). m ++ marks_at place more) (ap (λ (l : List Sent). marks_at place (received s1) ++ marks_at place l) (sym is) ∙ first.goes_on place)
      ∙ sym (marks_at-append place before more);
  stops = stops-append s1 s2 first.stops next.stops (λ place h. (behind place (waited place h)).0);
  waits_short = λ place h. elim (was_short-either place s1 s2 h) [ inl short ↦ (behind place (waited place short)).1 | inr short ↦ next.waits_short place short ];
  no_event = happened-append s1 s2 ∙ (λ i. first.no_event i ++ next.no_event i);
  not_asked = asked-append s1 s2 ∙ (λ i. first.not_asked i ++ next.not_asked i);
}
  where
    -- where the first share fell short, something waits
    waited : (place : Destination) → WasShort place s1 → marks_at place left ≢ []
    waited place short = λ empty. first.waits_short place short (ap (marks_at place) is ∙ empty)

behind_more : (waited left rest1 rest2 : List Sent) (s1 s2 : List Passed) → rest1 ≡ left → WaitsBehind waited s1 rest1 → WaitsBehind left s2 rest2 → WaitsBehind waited (s1 ++ s2) rest2
behind_more waited left rest1 rest2 s1 s2 is first next = λ place some.
    let one = first place some in
    let two = next place (λ empty. one.1 (ap (marks_at place) is ∙ empty)) in
    (left_alone-append place s1 s2 one.0 two.0, two.1)

still_prompt : (waited before left rest1 rest2 more : List Sent) (s1 s2 : List Passed) → rest1 ≡ left → Prompt waited before s1 rest1 → Prompt left (left ++ more) s2 rest2
    → Prompt waited (before ++ more) (s1 ++ s2) rest2
still_prompt waited before left rest1 rest2 more s1 s2 is first next = record {
  only_short = still_only_short waited left rest1 rest2 s1 s2 is first.only_short next.only_short;
  whole = λ none never.
      let one = first.whole none (λ place short. never place (was_short-left place s1 s2 short)) in
      let empty : left ≡ [] = sym is ∙ one.1 in
      let two = next.whole empty (λ place short. never place (was_short-right place s1 s2 short)) in
      (received-append s1 s2 ∙ (λ i. one.0 i ++ two.0 i) ∙ ap (λ (l : List Sent). solid before ++ solid (l ++ more)) empty ∙ sym (solid-append before more), two.1);
}

-- more that is not offered waits after the rest
delivered_cut : (before steps : _) (rest more : List Sent) → Delivered before steps rest → Delivered (before ++ more) steps (rest ++ more)
delivered_cut before steps rest more d = record {
  goes_on = λ place.
      ap (λ (m : List Mark). marks_at place (received steps) ++ m) (marks_at-append place rest more)
      ∙ sym (append_assoc (marks_at place (received steps)) (marks_at place rest) (marks_at place more))
      ∙ ap (λ (m : List Mark). m ++ marks_at place more) (d.goes_on place)
      ∙ sym (marks_at-append place before more);
  stops = d.stops;
  waits_short = λ place h. λ empty. append_not_empty (marks_at place rest) (marks_at place more) (d.waits_short place h) (sym (marks_at-append place rest more) ∙ empty);
  no_event = d.no_event;
  not_asked = d.not_asked;
}

pub filled_piece : {E : Type 0} (r : Result (Option ℕ) E) (line : ℕ) (side : Side) (bytes : List ℕ) → IfOk r (λ taken. IfSome taken (λ n. n < length bytes))
    → IfOk r (λ taken. IfSome taken (λ n. IsFilled (rest_of n (Bytes line side bytes))))
filled_piece (Ok None) line side bytes less = tt
filled_piece (Ok (Some n)) line side bytes less = filled_rest line side bytes n less
filled_piece (Err e) line side bytes less = tt

-- the members before these were offered
pub record SoFar (takes_whole : Bool) (old : Option (List Passed)) (waited members more : List Sent) (new : Option (List Passed)) (left : List Sent) : Type 0 where
  pub before : List Sent
  pub members_are : before ++ more ≡ members
  pub offered : Offered {E = AllocError} takes_whole old waited before (Ok tt) new left

module _ {E : Type 0} (takes_whole : Bool) where
  pub offered_wait : (world : Option (List Passed)) (left : List Sent) (member : Sent) (new : List Sent) (r : Result (Unit {0}) E) → OnOk r (IsBehind left member new)
      → marks_at (place_of member) left ≢ [] → Offered takes_whole world left (left ++ member ∷ []) r world new
  offered_wait world left member new (Ok x) is some = record {
    steps = [];
    rest = new;
    told = gains_nothing world;
    delivered = record { goes_on = λ place. is place ∙ sym (marks_at-push place left member); stops = tt; waits_short = λ place h. absurd h; no_event = refl; not_asked = refl };
    behind = λ place waits. (tt, λ empty. append_not_empty (marks_at place left) (marks_of place member) waits (sym (is place) ∙ empty));
    taken_whole = λ t place h. h;
    waits = (refl, prompt_wait left new member some is);
  }
  offered_wait world left member new (Err e) is some = record {
    steps = [];
    rest = left ++ member ∷ [];
    told = gains_nothing world;
    delivered = none_taken _;
    behind = still_behind left member;
    taken_whole = λ t place h. h;
    waits = tt;
  }

  -- a call that takes its member or is refused
  pub offered_whole : (old new : Option (List Passed)) (left : List Sent) (member : Sent) (r : Result (Unit {0}) E) → ((line : ℕ) (side : Side) (bytes : List ℕ) → member ≡ Bytes line side bytes → ⊥)
      → Gains old (taking member r) new → marks_at (place_of member) left ≡ [] → Offered takes_whole old left (left ++ member ∷ []) r new left
  offered_whole old new left member (Ok x) other told none = record {
    steps = Took member ∷ [];
    rest = left;
    told = told;
    delivered = whole_taken left member none;
    behind = waits_behind left left (place_of member) (Took member ∷ []) (λ place. []) none (λ place other. (other, tt)) (λ place. sym (append-nil (marks_at place left)));
    taken_whole = λ t place h. h;
    waits = (refl, prompt_all left member (Took member ∷ []) (solid_whole member other));
  }
  offered_whole old new left member (Err e) other told none = record {
    steps = [];
    rest = left ++ member ∷ [];
    told = told;
    delivered = none_taken _;
    behind = still_behind left member;
    taken_whole = λ t place h. h;
    waits = tt;
  }

  -- memory ran out before anything was offered
  pub offered_early : (world : Option (List Passed)) (before after : List Sent) (r : Result (Unit {0}) E) → IsErr r → Offered takes_whole world [] before r world after
  offered_early world before after r err = record {
    steps = [];
    rest = before;
    told = gains_nothing world;
    delivered = none_taken before;
    behind = λ place some. absurd (some refl);
    taken_whole = λ t place h. h;
    waits = IfOk-from_err r _ err;
  }

  -- before the first
  pub offered_none : (world : Option (List Passed)) (left : List Sent) → Offered {E = E} takes_whole world left left (Ok tt) world left
  offered_none world left = record {
    steps = [];
    rest = left;
    told = gains_nothing world;
    delivered = none_taken left;
    behind = λ place some. (tt, some);
    taken_whole = λ t place h. h;
    waits = (refl, record { only_short = λ place none. inl none; whole = λ none never. (ap solid (sym none), none) });
  }

  -- more members
  pub offered_more : (a b c : Option (List Passed)) (waited before left after more : List Sent) (r : Result (Unit {0}) E) → Offered {E = E} takes_whole a waited before (Ok tt) b left
      → Offered takes_whole b left (left ++ more) r c after → Offered takes_whole a waited (before ++ more) r c after
  offered_more a b c waited before left after more (Ok x) first next = record {
    steps = first.steps ++ next.steps;
    rest = next.rest;
    told = gains_more a first.steps b next.steps c first.told next.told;
    delivered = delivered_more before left first.rest next.rest more first.steps next.steps first.waits.0 first.delivered next.delivered next.behind;
    behind = behind_more waited left first.rest next.rest first.steps next.steps first.waits.0 first.behind next.behind;
    taken_whole = λ t. never_short-append first.steps next.steps (first.taken_whole t) (next.taken_whole t);
    waits = (next.waits.0, still_prompt waited before left first.rest next.rest more first.steps next.steps first.waits.0 first.waits.1 next.waits.1);
  }
  offered_more a b c waited before left after more (Err e) first next = record {
    steps = first.steps ++ next.steps;
    rest = next.rest;
    told = gains_more a first.steps b next.steps c first.told next.told;
    delivered = delivered_more before left first.rest next.rest more first.steps next.steps first.waits.0 first.delivered next.delivered next.behind;
    behind = behind_more waited left first.rest next.rest first.steps next.steps first.waits.0 first.behind next.behind;
    taken_whole = λ t. never_short-append first.steps next.steps (first.taken_whole t) (next.taken_whole t);
    waits = tt;
  }

  -- memory ran out after what was taken, and the rest is lost
  pub offered_lost : (old new : Option (List Passed)) (waited before rest after : List Sent) (q r : Result (Unit {0}) E) → IsErr r → Offered {E = E} takes_whole old waited before q new rest
      → Offered takes_whole old waited before r new after
  offered_lost old new waited before rest after q r err run = record {
    steps = run.steps;
    rest = run.rest;
    told = run.told;
    delivered = run.delivered;
    behind = run.behind;
    taken_whole = run.taken_whole;
    waits = IfOk-from_err r _ err;
  }

  -- what is left of a member waits, or memory ran out
  pub offered_rest : (old new : Option (List Passed)) (left after : List Sent) (member : Sent) (n : ℕ) (r : Result (Unit {0}) E) → WasOffered {E = E} takes_whole old member (Ok (Some n)) new
      → marks_at (place_of member) left ≡ [] → OnOk r (IsBehind left (rest_of n member) after) → Offered takes_whole old left (left ++ member ∷ []) r new after
  offered_rest old new left after member n (Ok x) was none is = was left after none is
  offered_rest old new left after member n (Err e) was none is =
      let run = was left (left ++ rest_of n member ∷ []) none (λ place. marks_at-push place left (rest_of n member)) in
      record { steps = run.steps; rest = run.rest; told = run.told; delivered = run.delivered; behind = run.behind; taken_whole = run.taken_whole; waits = tt }

  -- memory ran out before anything was taken
  pub was_err : (old new : Option (List Passed)) (member : Sent) (r : Result (Option ℕ) E) → IsErr r → Gains old [] new → WasOffered takes_whole old member r new
  was_err old new member (Ok None) err told = absurd (cc)
  was_err old new member (Ok (Some n)) err told = absurd (cc)
  was_err old new member (Err e) err told = λ left after. record {
    steps = [];
    rest = left ++ member ∷ [];
    told = told;
    delivered = none_taken _;
    behind = still_behind left member;
    taken_whole = λ t place h. h;
    waits = tt;
  }

  -- a piece of which some was taken
  pub was_short : (old new : Option (List Passed)) (line : ℕ) (side : Side) (bytes : List ℕ) (n : ℕ) → Gains old (front line side bytes n) new → n < length bytes → (IsTrue takes_whole → n ≡ length bytes)
      → WasOffered {E = E} takes_whole old (Bytes line side bytes) (Ok (Some n)) new
  was_short old new line side bytes n told less whole = λ left after none is. record {
    steps = front line side bytes n;
    rest = after;
    told = told;
    delivered = part_taken left after line side bytes n less none is;
    behind = waits_behind left after (Peer line side) (front line side bytes n) (λ place. marks_of place (Bytes line side (drop n bytes))) none (λ place other. alone-front place line side bytes n other) is;
    taken_whole = λ t. absurd (let all = whole t in omega (arith, all, less));
    waits = (refl, prompt_short left after line side bytes (drop n bytes) n less is);
  }

  -- or all
  pub was_all : (old new : Option (List Passed)) (line : ℕ) (side : Side) (bytes : List ℕ) (n : ℕ) → Gains old (front line side bytes n) new → length bytes ≤ n
      → WasOffered {E = E} takes_whole old (Bytes line side bytes) (Ok None) new
  was_all old new line side bytes n told all = λ left none. record {
    steps = front line side bytes n;
    rest = left;
    told = told;
    delivered = all_taken left line side bytes n none all;
    behind = waits_behind left left (Peer line side) (front line side bytes n) (λ place. []) none (λ place other. alone-front place line side bytes n other) (λ place. sym (append-nil (marks_at place left)));
    taken_whole = λ t. never_short-front line side bytes n all;
    waits = (refl, prompt_bytes left line side bytes n all);
  }

  -- a call that takes its member or is refused
  pub was_whole : (old new : Option (List Passed)) (member : Sent) (r : Result (Unit {0}) E) → ((line : ℕ) (side : Side) (bytes : List ℕ) → member ≡ Bytes line side bytes → ⊥)
      → Gains old (taking member r) new → WasOffered takes_whole old member (none_left r) new
  was_whole old new member (Ok x) other told = λ left none. offered_whole old new left member (Ok x) other told none
  was_whole old new member (Err e) other told = λ left after. record {
    steps = [];
    rest = left ++ member ∷ [];
    told = told;
    delivered = none_taken _;
    behind = still_behind left member;
    taken_whole = λ t place h. h;
    waits = tt;
  }

  -- cut short, and what came behind was not offered
  pub offered_cut : (a b : Option (List Passed)) (waited before more after after' : List Sent) (r r' : Result (Unit {0}) E) → IsErr r' → Offered takes_whole a waited before r b after
      → Offered takes_whole a waited (before ++ more) r' b after'
  offered_cut a b waited before more after after' r (Ok x) err run = absurd (cc)
  offered_cut a b waited before more after after' r (Err e) err run = record {
    steps = run.steps;
    rest = run.rest ++ more;
    told = run.told;
    delivered = delivered_cut before run.steps run.rest more run.delivered;
    behind = λ place some.
        let so = run.behind place some in
        (so.0, λ empty. append_not_empty (marks_at place run.rest) (marks_at place more) so.1 (sym (marks_at-append place run.rest more) ∙ empty));
    taken_whole = run.taken_whole;
    waits = tt;
  }

-- one member more of the members that are offered
pub so_far_next : (takes_whole same : Bool) (a b c : Option (List Passed)) (waited members left after more rest : List Sent) (member : Sent) → same ≡ takes_whole → more ≡ member ∷ rest
    → SoFar takes_whole a waited members more b left → Offered {E = AllocError} same b left (left ++ member ∷ []) (Ok tt) c after → SoFar takes_whole a waited members rest c after
so_far_next takes_whole same a b c waited members left after more rest member is next so_far now = record {
  before = so_far.before ++ member ∷ [];
  members_are = append_assoc so_far.before (member ∷ []) rest ∙ ap (λ (l : List Sent). so_far.before ++ l) (sym next) ∙ so_far.members_are;
  offered = offered_more takes_whole a b c waited so_far.before left after (member ∷ []) (Ok tt) so_far.offered (subst (λ (w : Bool). Offered {E = AllocError} w b left (left ++ member ∷ []) (Ok tt) c after) is now);
}

-- or cut short there
pub so_far_cut : (takes_whole same : Bool) (a b c : Option (List Passed)) (waited members left after more rest gone : List Sent) (member : Sent) (r r' : Result (Unit {0}) AllocError) → same ≡ takes_whole
    → more ≡ member ∷ rest → IsErr r' → SoFar takes_whole a waited members more b left → Offered same b left (left ++ member ∷ []) r c after → Offered takes_whole a waited members r' c gone
so_far_cut takes_whole same a b c waited members left after more rest gone member r r' is next err so_far now =
    subst (λ (l : List Sent). Offered takes_whole a waited l r' c gone)
    (append_assoc so_far.before (member ∷ []) rest ∙ ap (λ (l : List Sent). so_far.before ++ l) (sym next) ∙ so_far.members_are)
    (offered_cut takes_whole a c waited (so_far.before ++ member ∷ []) rest after gone r r' err
    (offered_more takes_whole a b c waited so_far.before left after (member ∷ []) r so_far.offered (subst (λ (w : Bool). Offered w b left (left ++ member ∷ []) r c after) is now)))

-- all of them were offered
pub so_far_all : (takes_whole : Bool) (a b : Option (List Passed)) (waited members more left : List Sent) → more ≡ [] → SoFar takes_whole a waited members more b left
    → Offered {E = AllocError} takes_whole a waited members (Ok tt) b left
so_far_all takes_whole a b waited members more left none so_far =
    subst (λ (l : List Sent). Offered {E = AllocError} takes_whole a waited l (Ok tt) b left)
    (sym (append-nil so_far.before) ∙ ap (λ (l : List Sent). so_far.before ++ l) (sym none) ∙ so_far.members_are) so_far.offered

-- one more of a list of which a front was offered
pub at_next : (takes_whole same : Bool) (a b c : Option (List Passed)) (members old new : List Sent) (at next : ℕ) → same ≡ takes_whole → at < length old → SoFar takes_whole a [] members (drop at old) b (take at old)
    → Offered {E = AllocError} same b (take at old) (take (at + 1) old) (Ok tt) c (take next new) → drop next new ≡ drop (at + 1) old → SoFar takes_whole a [] members (drop next new) c (take next new)
at_next takes_whole same a b c members old new at next is below so_far now rest =
    let member = get_or old at (Connect 0) in
    subst (λ (l : List Sent). SoFar takes_whole a [] members l c (take next new)) (sym rest)
    (so_far_next takes_whole same a b c [] members (take at old) (take next new) (drop at old) (drop (at + 1) old) member is (drop_more old at (Connect 0) below) so_far
    (subst (λ (l : List Sent). Offered {E = AllocError} same b (take at old) l (Ok tt) c (take next new)) (take_more old at (Connect 0) below) now))

-- or cut short there
pub at_cut : (takes_whole same : Bool) (a b c : Option (List Passed)) (members old after gone : List Sent) (at : ℕ) (r r' : Result (Unit {0}) AllocError) → same ≡ takes_whole → at < length old → IsErr r'
    → SoFar takes_whole a [] members (drop at old) b (take at old) → Offered same b (take at old) (take (at + 1) old) r c after → Offered takes_whole a [] members r' c gone
at_cut takes_whole same a b c members old after gone at r r' is below err so_far now =
    so_far_cut takes_whole same a b c [] members (take at old) after (drop at old) (drop (at + 1) old) gone (get_or old at (Connect 0)) r r' is (drop_more old at (Connect 0) below) err so_far
    (subst (λ (l : List Sent). Offered same b (take at old) l r c after) (take_more old at (Connect 0) below) now)
