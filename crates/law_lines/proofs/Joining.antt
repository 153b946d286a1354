-- What goes up, and what goes down, is the same where neighbours are joined.
use Rattle.std.proofs.Common.{◌≡◌, ℕ, ◌==◌, Bool, true, false, ◌&&◌, List, [], ◌∷◌, ◌++◌, map, refl, ap, ◌∙◌, sym}
use Rattle.std.proofs.lemmas.Grind.{flat_map-append}
use Rattle.std.specs.List.{flat_map}
use Rattle.std.specs.Prelude.{if◌then◌else◌}
use Rattle.law_exchange.specs.Traffic.{Traffic, opens, byte, closes, where_line, up_of, up_traffic}
use Rattle.gate_io.specs.declared.event.Sent.{Sent}
use Rattle.gate_io.specs.declared.event.Sent.TheVariants as to
use Rattle.gate_io.specs.declared.event.Side.TheVariants.{Down, Up}
use Rattle.send_queue.specs.Joined.{join_neighbours}
use Rattle.send_queue.specs.Places.{Mark, opening, octet, closing, logged, marks_of, marks_at}
use Rattle.send_queue.specs.declared.place.Destination.TheVariants.{Peer}
use Rattle.send_queue.proofs.Joins.{marks_at-joined}
use Rattle.law_lines.specs.Clients.{client_of, client_traffic}
use Rattle.law_lines.proofs.Looks.{equal_by, equal_is, other_is, other_by}

one : Mark → List Traffic
one opening = opens ∷ []
one (octet b) = byte b ∷ []
one closing = closes ∷ []
one (logged level text) = []

as_traffic : List Mark → List Traffic
as_traffic marks = flat_map one marks

octets : (bytes : List ℕ) → as_traffic (map octet bytes) ≡ map byte bytes
unfolding as_traffic one
octets [] = refl
octets (b ∷ bytes) = ap (λ l. byte b ∷ l) (octets bytes)

turned : (n m : ℕ) → (n == m) ≡ (m == n)
turned n m = by_test (m == n) refl
  where
    by_test : (b : Bool) → (m == n) ≡ b → (n == m) ≡ (m == n)
    by_test true is = equal_is n m (sym (equal_by m n is)) ∙ sym is
    by_test false is = other_is n m (λ e. other_by m n is (sym e)) ∙ sym is

whether : (n m : ℕ) (marks : List Mark) (t : List Traffic) → as_traffic marks ≡ t → where_line n m t ≡ as_traffic (if (m == n) && true then marks else [])
unfolding as_traffic
whether n m marks t is = ap (λ b. if b then t else []) (turned n m) ∙ by_bool (m == n)
  where
    by_bool : (b : Bool) → (if b then t else []) ≡ flat_map one (if b && true then marks else [])
    by_bool true = sym is
    by_bool false = refl

neither : (n m : ℕ) (marks : List Mark) → [] ≡ as_traffic (if (m == n) && false then marks else [])
unfolding as_traffic
neither n m marks = by_bool (m == n)
  where
    by_bool : (b : Bool) → ◌≡◌ {A = List Traffic} [] (flat_map one (if b && false then marks else []))
    by_bool true = refl
    by_bool false = refl

up_marks : (n : ℕ) (s : Sent) → up_of n s ≡ as_traffic (marks_of (Peer n Up) s)
unfolding as_traffic one
up_marks n (to.Connect m) = whether n m (opening ∷ []) (opens ∷ []) refl
up_marks n (to.Bytes m Down bytes) = neither n m (map octet bytes)
up_marks n (to.Bytes m Up bytes) = whether n m (map octet bytes) (map byte bytes) (octets bytes)
up_marks n (to.Close m Down) = neither n m (closing ∷ [])
up_marks n (to.Close m Up) = whether n m (closing ∷ []) (closes ∷ []) refl
up_marks n (to.Log level text) = refl

ups_marks : (n : ℕ) (sent : List Sent) → up_traffic n sent ≡ as_traffic (marks_at (Peer n Up) sent)
unfolding as_traffic
ups_marks n [] = refl
ups_marks n (s ∷ sent) = (λ i. up_marks n s i ++ ups_marks n sent i) ∙ sym (flat_map-append one (marks_of (Peer n Up) s) (marks_at (Peer n Up) sent))

pub ups_joined : (n : ℕ) (sent : List Sent) → up_traffic n (join_neighbours sent) ≡ up_traffic n sent
ups_joined n sent = ups_marks n (join_neighbours sent) ∙ (ap as_traffic (marks_at-joined (Peer n Up) sent) ∙ sym (ups_marks n sent))

-- ---- and so is what goes down

client_marks : (n : ℕ) (s : Sent) → client_of n s ≡ as_traffic (marks_of (Peer n Down) s)
unfolding as_traffic one
client_marks n (to.Connect m) = neither n m (opening ∷ [])
client_marks n (to.Bytes m Down bytes) = whether n m (map octet bytes) (map byte bytes) (octets bytes)
client_marks n (to.Bytes m Up bytes) = neither n m (map octet bytes)
client_marks n (to.Close m Down) = whether n m (closing ∷ []) (closes ∷ []) refl
client_marks n (to.Close m Up) = neither n m (closing ∷ [])
client_marks n (to.Log level text) = refl

clients_marks : (n : ℕ) (sent : List Sent) → client_traffic n sent ≡ as_traffic (marks_at (Peer n Down) sent)
unfolding as_traffic
clients_marks n [] = refl
clients_marks n (s ∷ sent) = (λ i. client_marks n s i ++ clients_marks n sent i) ∙ sym (flat_map-append one (marks_of (Peer n Down) s) (marks_at (Peer n Down) sent))

pub clients_joined : (n : ℕ) (sent : List Sent) → client_traffic n (join_neighbours sent) ≡ client_traffic n sent
clients_joined n sent = clients_marks n (join_neighbours sent) ∙ (ap as_traffic (marks_at-joined (Peer n Down) sent) ∙ sym (clients_marks n sent))
