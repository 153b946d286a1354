-- The lines of callouts are those from 2^31 on, and what is sent on them is sent on no line of a client.
use Rattle.std.proofs.Common.{◌≡◌, ℕ, ◌+◌, ◌==◌, Bool, true, false, not, ◌&&◌, cond, List, [], ◌∷◌, ◌++◌, map, filter, refl, ap, ◌∙◌, sym, arith, if◌then◌else◌}
use Rattle.std.proofs.lemmas.Bool.{and_left, and_right, le-leb}
use Rattle.std.proofs.lemmas.List.{append-nil}
use Rattle.std.proofs.lemmas.Grind.{flat_map-append}
use Rattle.callouts.specs.Callouts.{is_call_line, line_of}
use Rattle.exchange.specs.declared.types.Hub.{Hub}
use Rattle.gate_io.specs.declared.event.Sent.{Sent}
use Rattle.gate_io.specs.declared.event.Sent.TheVariants as to
use Rattle.gate_io.specs.declared.event.Side.TheVariants.{Down, Up}
use Rattle.law_exchange.specs.Responses.{down_bytes, down_of}
use Rattle.law_exchange.specs.Traffic.{opens, byte, closes, up_traffic}
use Rattle.law_exchange.proofs.Traffic.{ups_join}
use Rattle.law_lines.specs.Clients.{client_traffic, client_of}
use Rattle.law_lines.specs.Isolation.{is_sent_on, sent_on}
use Rattle.law_lines.proofs.Looks.{Beside, equal_by}

-- ---- numbers

pub call_line_is : (id : ℕ) → is_call_line (line_of id) ≡ true
call_line_is id = le-leb 2147483648 (2147483648 + id) (omega arith)

-- one line is of a callout, the other is of a client
pub lines_apart : (m n : ℕ) → is_call_line m ≡ true → is_call_line n ≡ false → (m == n) ≡ false
lines_apart m n high low = by_test (m == n) refl
  where
    by_test : (b : Bool) → (m == n) ≡ b → b ≡ false
    by_test false other = refl
    by_test true here = let never : ◌≡◌ {A = Bool} true false = sym high ∙ (ap is_call_line (equal_by m n here) ∙ low) in absurd (cc)

pub client_apart : (m n : ℕ) → is_call_line m ≡ false → is_call_line n ≡ true → (m == n) ≡ false
client_apart m n low high = by_test (m == n) refl
  where
    by_test : (b : Bool) → (m == n) ≡ b → b ≡ false
    by_test false other = refl
    by_test true here = let never : ◌≡◌ {A = Bool} true false = sym high ∙ (ap is_call_line (sym (equal_by m n here)) ∙ low) in absurd (cc)

pub call_apart : (n id : ℕ) → is_call_line n ≡ false → (line_of id == n) ≡ false
call_apart n id low = lines_apart (line_of id) n (call_line_is id) low

call_behind : (n id : ℕ) → is_call_line n ≡ false → (n == line_of id) ≡ false
call_behind n id low = client_apart n (line_of id) low (call_line_is id)

-- ---- what is sent on a line: on one of a callout, that alone which goes down

abbrev pub is_seen_on : ℕ → Sent → Bool
is_seen_on n (to.Connect m) = (m == n) && not (is_call_line n)
is_seen_on n (to.Bytes m Down bytes) = m == n
is_seen_on n (to.Bytes m Up bytes) = (m == n) && not (is_call_line n)
is_seen_on n (to.Close m Down) = m == n
is_seen_on n (to.Close m Up) = (m == n) && not (is_call_line n)
is_seen_on n (to.Log level text) = false

abbrev pub seen_on : ℕ → List Sent → List Sent
seen_on n sent = filter (is_seen_on n) sent

-- on the line of a client that is all
pub seen_is : (n : ℕ) → is_call_line n ≡ false → (sent : List Sent) → seen_on n sent ≡ sent_on n sent
seen_is n low [] = refl
seen_is n low (s ∷ sent) =
    ap (λ (b : Bool). cond b (s ∷ seen_on n sent) (seen_on n sent)) (one s) ∙ ap (λ (l : List Sent). cond (is_sent_on n s) (s ∷ l) l) (seen_is n low sent)
  where
    and_true : (b : Bool) → (b && true) ≡ b
    and_true true = refl
    and_true false = refl

    here : (m : ℕ) → ((m == n) && not (is_call_line n)) ≡ (m == n)
    here m = ap (λ (b : Bool). (m == n) && not b) low ∙ and_true (m == n)

    one : (s : Sent) → is_seen_on n s ≡ is_sent_on n s
    one (to.Connect m) = here m
    one (to.Bytes m Down bytes) = refl
    one (to.Bytes m Up bytes) = here m
    one (to.Close m Down) = refl
    one (to.Close m Up) = here m
    one (to.Log level text) = refl

-- ---- what is sent of a callout

call_unseen : (n id : ℕ) → ((line_of id == n) && not (is_call_line n)) ≡ false
call_unseen n id = by_test (is_call_line n) refl
  where
    by_test : (b : Bool) → is_call_line n ≡ b → ((line_of id == n) && not b) ≡ false
    by_test true is = and_right (line_of id == n) false refl
    by_test false is = and_left (line_of id == n) true (call_apart n id is)

pub begin_unseen : (n id : ℕ) (bytes : List ℕ) → seen_on n (to.Connect (line_of id) ∷ to.Bytes (line_of id) Up bytes ∷ []) ≡ []
begin_unseen n id bytes =
    let wire : Sent = to.Bytes (line_of id) Up bytes in
    ap (λ (b : Bool). cond b (to.Connect (line_of id) ∷ cond b (wire ∷ []) []) (cond b (wire ∷ []) [])) (call_unseen n id)

pub close_unseen : (n id : ℕ) → seen_on n (to.Close (line_of id) Up ∷ []) ≡ []
close_unseen n id = ap (λ (b : Bool). cond b (to.Close (line_of id) Up ∷ []) []) (call_unseen n id)

-- what is nothing to the line is sent
adds_beside : (n : ℕ) (more : List Sent) (hub after : Hub) → up_traffic n more ≡ [] → down_bytes n more ≡ [] → client_traffic n more ≡ [] → after.sent ≡ hub.sent ++ more → Beside n hub after
adds_beside n more hub after up down client is = record {
  up = ap (up_traffic n) is ∙ (ups_join n hub.sent more ∙ (ap (λ t. up_traffic n hub.sent ++ t) up ∙ append-nil (up_traffic n hub.sent)));
  down = ap (down_bytes n) is ∙ (flat_map-append (down_of n) hub.sent more ∙ (ap (λ t. down_bytes n hub.sent ++ t) down ∙ append-nil (down_bytes n hub.sent)));
  client = ap (client_traffic n) is ∙ (flat_map-append (client_of n) hub.sent more ∙ (ap (λ t. client_traffic n hub.sent ++ t) client ∙ append-nil (client_traffic n hub.sent)));
}

pub begin_up : (n id : ℕ) (bytes : List ℕ) → is_call_line n ≡ false → up_traffic n (to.Connect (line_of id) ∷ to.Bytes (line_of id) Up bytes ∷ []) ≡ []
begin_up n id bytes low =
    ap (λ (b : Bool). (if b then opens ∷ [] else []) ++ ((if b then map byte bytes else []) ++ [])) (call_behind n id low)

pub close_up : (n id : ℕ) → is_call_line n ≡ false → up_traffic n (to.Close (line_of id) Up ∷ []) ≡ []
close_up n id low = ap (λ (b : Bool). (if b then closes ∷ [] else []) ++ []) (call_behind n id low)

pub begin_beside : (n id : ℕ) (bytes : List ℕ) (hub after : Hub) → is_call_line n ≡ false → after.sent ≡ hub.sent ++ (to.Connect (line_of id) ∷ to.Bytes (line_of id) Up bytes ∷ []) → Beside n hub after
begin_beside n id bytes hub after low is = adds_beside n _ hub after (begin_up n id bytes low) refl refl is

pub close_beside : (n id : ℕ) (hub after : Hub) → is_call_line n ≡ false → after.sent ≡ hub.sent ++ (to.Close (line_of id) Up ∷ []) → Beside n hub after
close_beside n id hub after low is = adds_beside n _ hub after (close_up n id low) refl refl is
