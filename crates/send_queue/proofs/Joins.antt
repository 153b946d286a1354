-- Joining neighbours.
use Rattle.std.proofs.Common.{◌≡◌, Bool, true, false, List, [], ◌∷◌, ◌++◌, refl, sym, ◌∙◌, ap, subst, append_assoc, inl, inr, Option, Some}
use Rattle.std.specs.Prelude.{if◌then◌else◌, option_to_list}
use Rattle.std.proofs.lemmas.List.{append-nil}
use Rattle.std.proofs.lemmas.Bool.{cases_Bool}
use Rattle.gate_io.specs.declared.event.Sent.{Sent}
use Rattle.gate_io.specs.declared.event.Sent.TheVariants.{Connect, Bytes, Close, Log}
use Rattle.send_queue.specs.Delivery.{IsFilled, AreFilled}
use Rattle.send_queue.specs.Joined.{are_one, as_one, neighbours, behind_all, behind, joined_behind, join_neighbours, FollowApart, IsJoined}
use Rattle.send_queue.specs.Places.{Mark, marks_of, marks_at}
use Rattle.send_queue.specs.declared.place.Destination.{Destination}
use Rattle.send_queue.specs.declared.place.Destination.TheVariants.{Peer}
use Rattle.send_queue.proofs.Marks.{same_place, marks_of-two}

module _ (last member : Sent) where
  pub neighbours_one : are_one last member ≡ true → neighbours last member ≡ as_one last member ∷ []
  neighbours_one equal = ap (λ (b : Bool). if b then as_one last member ∷ [] else last ∷ member ∷ []) equal

  pub neighbours_two : are_one last member ≡ false → neighbours last member ≡ last ∷ member ∷ []
  neighbours_two unlike = ap (λ (b : Bool). if b then as_one last member ∷ [] else last ∷ member ∷ []) unlike

pub marks_of-as_one : (place : Destination) (first next : Sent) → are_one first next ≡ true → marks_of place (as_one first next) ≡ marks_of place first ++ marks_of place next
marks_of-as_one place (Bytes line side bytes) (Bytes l s more) equal = elim (same_place (Peer line side) (Peer l s)) [
  | inl same ↦
      sym (marks_of-two place line side bytes more)
      ∙ (let e : line ≡ l = cc same.0 in let f : side ≡ s = cc same.0 in λ i. marks_of place (Bytes line side bytes) ++ marks_of place (Bytes (e i) (f i) more))
  | inr other ↦ absurd (let e : true ≡ false = sym equal ∙ other.1 in cc)
]
marks_of-as_one place first next equal = absurd (cc)

marks_at-neighbours : (place : Destination) (last member : Sent) → marks_at place (neighbours last member) ≡ marks_of place last ++ marks_of place member
marks_at-neighbours place last member = elim (cases_Bool (are_one last member)) [
  | inl equal ↦ ap (marks_at place) (neighbours_one last member equal) ∙ append-nil _ ∙ marks_of-as_one place last member equal
  | inr unlike ↦ ap (marks_at place) (neighbours_two last member unlike) ∙ ap (λ (m : List Mark). marks_of place last ++ m) (append-nil (marks_of place member))
]

marks_at-behind_all : (place : Destination) (first : Sent) (rest : List Sent) (member : Sent) → marks_at place (behind_all first rest member) ≡ marks_of place first ++ (marks_at place rest ++ marks_of place member)
marks_at-behind_all place first [] member = marks_at-neighbours place first member
marks_at-behind_all place first (next ∷ rest) member =
    ap (λ (m : List Mark). marks_of place first ++ m) (marks_at-behind_all place next rest member ∙ sym (append_assoc (marks_of place next) (marks_at place rest) (marks_of place member)))

pub marks_at-behind : (place : Destination) (done : List Sent) (member : Sent) → marks_at place (behind done member) ≡ marks_at place done ++ marks_of place member
marks_at-behind place [] member = append-nil (marks_of place member)
marks_at-behind place (first ∷ rest) member = marks_at-behind_all place first rest member ∙ sym (append_assoc (marks_of place first) (marks_at place rest) (marks_of place member))

marks_at-joined_behind : (place : Destination) (sent done : List Sent) → marks_at place (joined_behind done sent) ≡ marks_at place done ++ marks_at place sent
marks_at-joined_behind place [] done = sym (append-nil (marks_at place done))
marks_at-joined_behind place (member ∷ sent) done =
    marks_at-joined_behind place sent (behind done member)
    ∙ ap (λ (m : List Mark). m ++ marks_at place sent) (marks_at-behind place done member)
    ∙ append_assoc (marks_at place done) (marks_of place member) (marks_at place sent)

pub marks_at-joined : (place : Destination) (sent : List Sent) → marks_at place (join_neighbours sent) ≡ marks_at place sent
marks_at-joined place sent = marks_at-joined_behind place sent []

-- bytes that are put after a member leave it apart from the one before it
are_one-as_one : (x first next : Sent) → are_one x (as_one first next) ≡ are_one x first
are_one-as_one x (Bytes line side bytes) (Bytes l s more) = same x
  where
    same : (x : Sent) → are_one x (Bytes line side (bytes ++ more)) ≡ are_one x (Bytes line side bytes)
    same (Connect k) = refl
    same (Bytes k t b) = refl
    same (Close k t) = refl
    same (Log level text) = refl
are_one-as_one x (Bytes line side bytes) (Connect l) = refl
are_one-as_one x (Bytes line side bytes) (Close l s) = refl
are_one-as_one x (Bytes line side bytes) (Log level text) = refl
are_one-as_one x (Connect l) next = refl
are_one-as_one x (Close l s) next = refl
are_one-as_one x (Log level text) next = refl

apart_neighbours : (x last member : Sent) → are_one x last ≡ false → FollowApart x (neighbours last member)
apart_neighbours x last member before = elim (cases_Bool (are_one last member)) [
  | inl equal ↦ subst (FollowApart x) (sym (neighbours_one last member equal)) (are_one-as_one x last member ∙ before, tt)
  | inr unlike ↦ subst (FollowApart x) (sym (neighbours_two last member unlike)) (before, (unlike, tt))
]

apart_behind : (x first : Sent) (rest : List Sent) (member : Sent) → are_one x first ≡ false → FollowApart first rest → FollowApart x (behind_all first rest member)
apart_behind x first [] member before apart = apart_neighbours x first member before
apart_behind x first (next ∷ rest) member before apart = (before, apart_behind first next rest member apart.0 apart.1)

joined_neighbours : (last member : Sent) → IsJoined (neighbours last member)
joined_neighbours last member = elim (cases_Bool (are_one last member)) [
  | inl equal ↦ subst IsJoined (sym (neighbours_one last member equal)) tt
  | inr unlike ↦ subst IsJoined (sym (neighbours_two last member unlike)) (unlike, tt)
]

pub IsJoined-behind : (done : List Sent) (member : Sent) → IsJoined done → IsJoined (behind done member)
IsJoined-behind [] member apart = tt
IsJoined-behind (first ∷ []) member apart = joined_neighbours first member
IsJoined-behind (first ∷ next ∷ rest) member apart = apart_behind first next rest member apart.0 apart.1

IsJoined-joined_behind : (sent done : List Sent) → IsJoined done → IsJoined (joined_behind done sent)
IsJoined-joined_behind [] done apart = apart
IsJoined-joined_behind (member ∷ sent) done apart = IsJoined-joined_behind sent (behind done member) (IsJoined-behind done member apart)

pub IsJoined-joined : (sent : List Sent) → IsJoined (join_neighbours sent)
IsJoined-joined sent = IsJoined-joined_behind sent [] tt

behind_all_apart : (first : Sent) (rest : List Sent) (member : Sent) (more : List Sent) → FollowApart first (rest ++ member ∷ more) → behind_all first rest member ≡ first ∷ rest ++ member ∷ []
behind_all_apart first [] member more apart = neighbours_two first member apart.0
behind_all_apart first (next ∷ rest) member more apart = ap (λ (l : List Sent). first ∷ l) (behind_all_apart next rest member more apart.1)

behind_apart : (done : List Sent) (member : Sent) (more : List Sent) → IsJoined (done ++ member ∷ more) → behind done member ≡ done ++ member ∷ []
behind_apart [] member more apart = refl
behind_apart (first ∷ rest) member more apart = behind_all_apart first rest member more apart

joined_behind_apart : (sent done : List Sent) → IsJoined (done ++ sent) → joined_behind done sent ≡ done ++ sent
joined_behind_apart [] done apart = sym (append-nil done)
joined_behind_apart (member ∷ sent) done apart =
    let here : behind done member ≡ done ++ member ∷ [] = behind_apart done member sent apart in
    ap (λ (l : List Sent). joined_behind l sent) here
    ∙ joined_behind_apart sent (done ++ member ∷ []) (subst IsJoined (sym (append_assoc done (member ∷ []) sent)) apart)
    ∙ append_assoc done (member ∷ []) sent

-- what is joined stays
pub joined_same : (sent : List Sent) → IsJoined sent → join_neighbours sent ≡ sent
joined_same sent apart = joined_behind_apart sent [] apart

joined_behind-append : (a b done : List Sent) → joined_behind done (a ++ b) ≡ joined_behind (joined_behind done a) b
joined_behind-append [] b done = refl
joined_behind-append (member ∷ a) b done = joined_behind-append a b (behind done member)

-- one member more
pub joined-push : (sent : List Sent) (member : Sent) → join_neighbours (sent ++ member ∷ []) ≡ behind (join_neighbours sent) member
joined-push sent member = joined_behind-append sent (member ∷ []) []

pub joined_once : (sent : List Sent) → join_neighbours (join_neighbours sent) ≡ join_neighbours sent
joined_once sent = joined_same (join_neighbours sent) (IsJoined-joined sent)

-- first a front of the list
pub joined_in_parts : (first more : List Sent) → join_neighbours (join_neighbours first ++ more) ≡ join_neighbours (first ++ more)
joined_in_parts first more =
    joined_behind-append (join_neighbours first) more [] ∙ ap (λ (l : List Sent). joined_behind l more) (joined_once first) ∙ sym (joined_behind-append first more [])

behind_all-append : (first : Sent) (rest : List Sent) (last member : Sent) → behind_all first (rest ++ last ∷ []) member ≡ first ∷ rest ++ neighbours last member
behind_all-append first [] last member = refl
behind_all-append first (next ∷ rest) last member = ap (λ (l : List Sent). first ∷ l) (behind_all-append next rest last member)

-- only the last member matters
pub behind-append : (front : List Sent) (last member : Sent) → behind (front ++ last ∷ []) member ≡ front ++ neighbours last member
behind-append [] last member = refl
behind-append (first ∷ rest) last member = behind_all-append first rest last member

-- after a list of which the last member was taken off
pub behind-popped : (old front : List Sent) (popped : Option Sent) (last member : Sent) → popped ≡ Some last → old ≡ front ++ option_to_list popped → behind old member ≡ front ++ neighbours last member
behind-popped old front popped last member some is =
    ap (λ (l : List Sent). behind l member) (is ∙ ap (λ (o : Option Sent). front ++ option_to_list o) some) ∙ behind-append front last member

pub IsFilled-as_one : (first next : Sent) → IsFilled first → IsFilled (as_one first next)
IsFilled-as_one (Connect line) next filled = tt
IsFilled-as_one (Bytes line side []) next filled = elim filled [ ]
IsFilled-as_one (Bytes line side (byte ∷ bytes)) (Connect l) filled = tt
IsFilled-as_one (Bytes line side (byte ∷ bytes)) (Bytes l s more) filled = tt
IsFilled-as_one (Bytes line side (byte ∷ bytes)) (Close l s) filled = tt
IsFilled-as_one (Bytes line side (byte ∷ bytes)) (Log level text) filled = tt
IsFilled-as_one (Close line side) next filled = tt
IsFilled-as_one (Log level text) next filled = tt

AreFilled-neighbours : (last member : Sent) → IsFilled last → IsFilled member → AreFilled (neighbours last member)
AreFilled-neighbours last member filled too = elim (cases_Bool (are_one last member)) [
  | inl equal ↦ subst AreFilled (sym (neighbours_one last member equal)) (IsFilled-as_one last member filled, tt)
  | inr unlike ↦ subst AreFilled (sym (neighbours_two last member unlike)) (filled, (too, tt))
]

AreFilled-behind_all : (first : Sent) (rest : List Sent) (member : Sent) → IsFilled first → AreFilled rest → IsFilled member → AreFilled (behind_all first rest member)
AreFilled-behind_all first [] member filled all too = AreFilled-neighbours first member filled too
AreFilled-behind_all first (next ∷ rest) member filled all too = (filled, AreFilled-behind_all next rest member all.0 all.1 too)

AreFilled-behind : (done : List Sent) (member : Sent) → AreFilled done → IsFilled member → AreFilled (behind done member)
AreFilled-behind [] member all too = (too, tt)
AreFilled-behind (first ∷ rest) member all too = AreFilled-behind_all first rest member all.0 all.1 too

AreFilled-joined_behind : (sent done : List Sent) → AreFilled done → AreFilled sent → AreFilled (joined_behind done sent)
AreFilled-joined_behind [] done all more = all
AreFilled-joined_behind (member ∷ sent) done all more = AreFilled-joined_behind sent (behind done member) (AreFilled-behind done member all more.0) more.1

-- joining makes no empty piece
pub AreFilled-joined : (sent : List Sent) → AreFilled sent → AreFilled (join_neighbours sent)
AreFilled-joined sent all = AreFilled-joined_behind sent [] tt all
