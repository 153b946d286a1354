-- Connections end: those to servers by counts over turns, and those of clients turn by turn.
use Rattle.std.proofs.Common.{◌≡◌, ◌⊎◌, inl, inr, ℕ, ◌+◌, ◌==◌, Bool, true, false, not, ◌||◌, List, [], ◌∷◌, ◌++◌, refl, ap, ◌∙◌, sym, subst, arith}
use Rattle.std.proofs.lemmas.List.{append-nil, append_assoc}
use Rattle.std.specs.List.{list_any}
use Rattle.std.specs.Prelude.{Option, None, Some, is_some, if◌then◌else◌}
use Rattle.callouts.specs.Callouts.{is_call_line}
use Rattle.gate_config.specs.declared.config.Config.{Config}
use Rattle.gate_io.specs.declared.event.Sent.{Sent}
use Rattle.gate_io.specs.declared.event.Sent.TheVariants as to
use Rattle.gate_io.specs.declared.event.Side.{Side}
use Rattle.gate_io.specs.declared.event.Side.TheVariants.{Down, Up}
use Rattle.gate_io.specs.declared.event.What.{What}
use Rattle.gate_io.specs.declared.event.What.TheVariants as whats
use Rattle.gate_io.specs.declared.passed.Passed.{Passed}
use Rattle.law_lines.specs.Turns.{Worked, no_turn, a_turn}
use Rattle.law_lines.proofs.Looks.{equal_by, equal_is}
use Rattle.store_model.specs.Made.{Made}
use Rattle.vm_host.specs.Slots as slots
use Rattle.vm_host.specs.declared.slots.Vms.{Vms}
use Rattle.worker_model.specs.Making.{new_worker}
use Rattle.worker_model.specs.Room.{Room}
use Rattle.worker_model.specs.State.{Standing}
use Rattle.worker_model.specs.Steps.{exchange_of_line, line_in}
use Rattle.streams_model.specs.Turned.{Whole}
use Rattle.worker_model.specs.declared.types.Line.{Line}
use Rattle.law_down.specs.Ends.{opens_up, closes_up, closes_down, one_if, count, has_client, has_client_on, reads_server, ClientEnds, ConnectionsEnd, EndExamples}
use Rattle.law_down.specs.InOrder.{State, shut, stands, lost, connects, passes, closes, state_after_one, and_then, state_after, opened, left, state_at_event, has_up, lost_or_shut, state_in, state_of, IsTurn}
use Rattle.law_down.proofs.Turnwise.{connections_of_the_product}

-- ---- a connection up, by the state of the line

abbrev up_in : State → Bool
up_in shut = false
up_in (stands up) = up
up_in lost = true

abbrev units : State → ℕ
units s = one_if (up_in s)

units_same : (s t : State) → s ≡ t → units s ≡ units t
units_same s t is = ap units is

zero_plus : (u : ℕ) → 0 + u ≡ u
zero_plus u = omega arith

connect_one : (b : Bool) (s k : State) → (if b then connects s else Some s) ≡ Some k → one_if b + units s ≡ units k
connect_one true shut k is = absurd (cc)
connect_one true (stands true) k is = absurd (cc)
connect_one true (stands false) k is = let same : stands true ≡ k = cc in units_same (stands true) k same
connect_one true lost k is = absurd (cc)
connect_one false s k is = let same : s ≡ k = cc in zero_plus (units s) ∙ units_same s k same

bytes_one : (b : Bool) (side : Side) (bytes : List ℕ) (s k : State) → (if b then passes side bytes s else Some s) ≡ Some k → units s ≡ units k
bytes_one true Up [] shut k is = absurd (cc)
bytes_one true Up [] (stands up) k is = absurd (cc)
bytes_one true Up [] lost k is = absurd (cc)
bytes_one true Up (o ∷ bytes) shut k is = absurd (cc)
bytes_one true Up (o ∷ bytes) (stands true) k is = let same : stands true ≡ k = cc in units_same (stands true) k same
bytes_one true Up (o ∷ bytes) (stands false) k is = absurd (cc)
bytes_one true Up (o ∷ bytes) lost k is = absurd (cc)
bytes_one true Down [] shut k is = absurd (cc)
bytes_one true Down [] (stands up) k is = absurd (cc)
bytes_one true Down [] lost k is = absurd (cc)
bytes_one true Down (o ∷ bytes) shut k is = absurd (cc)
bytes_one true Down (o ∷ bytes) (stands up) k is = let same : stands up ≡ k = cc in units_same (stands up) k same
bytes_one true Down (o ∷ bytes) lost k is = absurd (cc)
bytes_one false side bytes s k is = let same : s ≡ k = cc in units_same s k same

close_up_one : (b : Bool) (s k : State) → (if b then closes Up s else Some s) ≡ Some k → units s ≡ one_if b + units k
close_up_one true shut k is = absurd (cc)
close_up_one true (stands true) k is = let same : stands false ≡ k = cc in ap (λ (u : ℕ). 1 + u) (units_same (stands false) k same)
close_up_one true (stands false) k is = absurd (cc)
close_up_one true lost k is = let same : shut ≡ k = cc in ap (λ (u : ℕ). 1 + u) (units_same shut k same)
close_up_one false s k is = let same : s ≡ k = cc in units_same s k same ∙ sym (zero_plus (units k))

close_down_one : (b : Bool) (s k : State) → (if b then closes Down s else Some s) ≡ Some k → units s ≡ units k
close_down_one true shut k is = absurd (cc)
close_down_one true (stands true) k is = absurd (cc)
close_down_one true (stands false) k is = let same : shut ≡ k = cc in units_same shut k same
close_down_one true lost k is = absurd (cc)
close_down_one false s k is = let same : s ≡ k = cc in units_same s k same

one_balance : (n : ℕ) (e : Sent) (s k : State) → state_after_one n e s ≡ Some k → one_if (opens_up n e) + units s ≡ one_if (closes_up n e) + units k
one_balance n (to.Connect m) s k is = connect_one (m == n) s k is ∙ sym (zero_plus (units k))
one_balance n (to.Bytes m side bytes) s k is = ap (λ (u : ℕ). 0 + u) (bytes_one (m == n) side bytes s k is)
one_balance n (to.Close m Up) s k is = zero_plus (units s) ∙ close_up_one (m == n) s k is
one_balance n (to.Close m Down) s k is = ap (λ (u : ℕ). 0 + u) (close_down_one (m == n) s k is)
one_balance n (to.Log level text) s k is = let same : s ≡ k = cc in ap (λ (u : ℕ). 0 + u) (units_same s k same)

sum_of : (a b c d s m t : ℕ) → a + s ≡ b + m → c + m ≡ d + t → (a + c) + s ≡ (b + d) + t
sum_of a b c d s m t first later = omega (arith, first, later)

balance : (n : ℕ) (sent : List Sent) (s t : State) → state_after n sent s ≡ Some t → count (opens_up n) sent + units s ≡ count (closes_up n) sent + units t
balance n [] s t is = let same : s ≡ t = cc in ap (λ (u : ℕ). 0 + u) (units_same s t same)
balance n (e ∷ sent) s t is = by_state (λ m later. balance n sent m t later) (state_after_one n e s) refl is
  where
    Later : Type 0
    Later = (m : State) → state_after n sent m ≡ Some t → count (opens_up n) sent + units m ≡ count (closes_up n) sent + units t

    by_state : Later → (o : Option State) → state_after_one n e s ≡ o → and_then (state_after n sent) o ≡ Some t → count (opens_up n) (e ∷ sent) + units s ≡ count (closes_up n) (e ∷ sent) + units t
    by_state go None one is = absurd (cc)
    by_state go (Some m) one is =
        sum_of (one_if (opens_up n e)) (one_if (closes_up n e)) (count (opens_up n) sent) (count (closes_up n) sent) (units s) (units m) (units t) (one_balance n e s m one) (go m is)

count_join : (is : Sent → Bool) (a b : List Sent) → count is (a ++ b) ≡ count is a + count is b
count_join is [] b = sym (zero_plus (count is b))
count_join is (e ∷ a) b = three (one_if (is e)) (count is (a ++ b)) (count is a) (count is b) (count_join is a b)
  where
    three : (k l m o : ℕ) → l ≡ m + o → k + l ≡ (k + m) + o
    three k l m o e = omega (arith, e)

-- ---- what happens opens and closes no connection up

up_opened : (s : State) → up_in (opened s) ≡ up_in s
up_opened shut = refl
up_opened (stands up) = refl
up_opened lost = refl

up_left : (s : State) → up_in (left s) ≡ up_in s
up_left shut = refl
up_left (stands true) = refl
up_left (stands false) = refl
up_left lost = refl

up_if : (b : Bool) (s t : State) → up_in t ≡ up_in s → up_in (if b then t else s) ≡ up_in s
up_if true s t is = is
up_if false s t is = refl

up_at : (n : ℕ) (w : What) (s : State) → up_in (state_at_event n w s) ≡ up_in s
up_at n (whats.Opened m) s = up_if (m == n) s (opened s) (up_opened s)
up_at n (whats.Gone m Down) s = up_if (m == n) s (left s) (up_left s)
up_at n (whats.Gone m Up) s = refl
up_at n (whats.Bytes m side bytes) s = refl
up_at n (whats.End m side) s = refl
up_at n (whats.Joined m) s = refl
up_at n (whats.Refused m) s = refl
up_at n (whats.Room m side) s = refl
up_at n whats.Clock s = refl
up_at n whats.Stop s = refl

turn_balance : (n : ℕ) (w : What) (s t : State) (sent : List Sent) → IsTurn n w s sent t → count (opens_up n) sent + units s ≡ count (closes_up n) sent + units t
turn_balance n w s t sent turn =
    ap (λ (l : List Sent). count (opens_up n) l + units s) turn.is
    ∙ (ap (λ (k : ℕ). k + units s) (count_join (opens_up n) turn.before turn.behind)
    ∙ (sum_of (count (opens_up n) turn.before) (count (closes_up n) turn.before) (count (opens_up n) turn.behind) (count (closes_up n) turn.behind) (units s) (units turn.mid) (units t) first later
    ∙ (ap (λ (k : ℕ). k + units t) (sym (count_join (closes_up n) turn.before turn.behind)) ∙ ap (λ (l : List Sent). count (closes_up n) l + units t) (sym turn.is))))
  where
    first : count (opens_up n) turn.before + units s ≡ count (closes_up n) turn.before + units turn.mid
    first = balance n turn.before s turn.mid turn.first

    later : count (opens_up n) turn.behind + units turn.mid ≡ count (closes_up n) turn.behind + units t
    later = ap (λ (u : Bool). count (opens_up n) turn.behind + one_if u) (sym (up_at n w turn.mid)) ∙ balance n turn.behind (state_at_event n w turn.mid) t turn.later

-- ---- the line of a room

up_gone : (gone up : Bool) → up_in (if gone then lost_or_shut up else stands up) ≡ up
up_gone true true = refl
up_gone true false = refl
up_gone false up = refl

up_line : (o : Option Line) → up_in (state_in o) ≡ has_up (exchange_of_line o)
up_line None = refl
up_line (Some l) = up_gone l.is_gone (has_up l.exchange)

-- ---- the client, by the state of the line

abbrev here : State → Bool
here shut = false
here (stands up) = true
here lost = false

here_gone : (gone up : Bool) → here (if gone then lost_or_shut up else stands up) ≡ not gone
here_gone true true = refl
here_gone true false = refl
here_gone false up = refl

here_line : (o : Option Line) → here (state_in o) ≡ has_client o
here_line None = refl
here_line (Some l) = here_gone l.is_gone (has_up l.exchange)

-- it may leave a state by a close alone
abbrev Out : State → State → Bool → Type 0
Out s k closing = (here s ≡ true → (here k ≡ true) ⊎ (closing ≡ true)) × (here s ≡ false → (here k ≡ false) × (closing ≡ false)) × ((s ≡ lost → ⊥) → k ≡ lost → ⊥)

out_same : (s k : State) (b : Bool) → s ≡ k → b ≡ false → Out s k b
out_same s k b is none = ((λ e. inl (ap here (sym is) ∙ e)), (λ e. (ap here (sym is) ∙ e, none)), (λ some e. some (is ∙ e)))

connect_out : (b : Bool) (s k : State) → (if b then connects s else Some s) ≡ Some k → Out s k false
connect_out true shut k is = absurd (cc)
connect_out true (stands true) k is = absurd (cc)
connect_out true (stands false) k is = let same : stands true ≡ k = cc in ((λ e. inl (ap here (sym same))), (λ e. absurd (cc)), (λ some e. let no : stands true ≡ lost = same ∙ e in absurd (cc)))
connect_out true lost k is = absurd (cc)
connect_out false s k is = let same : s ≡ k = cc in out_same s k false same refl

bytes_out : (b : Bool) (side : Side) (bytes : List ℕ) (s k : State) → (if b then passes side bytes s else Some s) ≡ Some k → Out s k false
bytes_out true Up [] shut k is = absurd (cc)
bytes_out true Up [] (stands up) k is = absurd (cc)
bytes_out true Up [] lost k is = absurd (cc)
bytes_out true Up (o ∷ bytes) shut k is = absurd (cc)
bytes_out true Up (o ∷ bytes) (stands true) k is = let same : stands true ≡ k = cc in out_same (stands true) k false same refl
bytes_out true Up (o ∷ bytes) (stands false) k is = absurd (cc)
bytes_out true Up (o ∷ bytes) lost k is = absurd (cc)
bytes_out true Down [] shut k is = absurd (cc)
bytes_out true Down [] (stands up) k is = absurd (cc)
bytes_out true Down [] lost k is = absurd (cc)
bytes_out true Down (o ∷ bytes) shut k is = absurd (cc)
bytes_out true Down (o ∷ bytes) (stands up) k is = let same : stands up ≡ k = cc in out_same (stands up) k false same refl
bytes_out true Down (o ∷ bytes) lost k is = absurd (cc)
bytes_out false side bytes s k is = let same : s ≡ k = cc in out_same s k false same refl

close_up_out : (b : Bool) (s k : State) → (if b then closes Up s else Some s) ≡ Some k → Out s k false
close_up_out true shut k is = absurd (cc)
close_up_out true (stands true) k is = let same : stands false ≡ k = cc in ((λ e. inl (ap here (sym same))), (λ e. absurd (cc)), (λ some e. let no : stands false ≡ lost = same ∙ e in absurd (cc)))
close_up_out true (stands false) k is = absurd (cc)
close_up_out true lost k is = let same : shut ≡ k = cc in ((λ e. absurd (cc)), (λ e. (ap here (sym same), refl)), (λ some e. some refl))
close_up_out false s k is = let same : s ≡ k = cc in out_same s k false same refl

close_down_out : (b : Bool) (s k : State) → (if b then closes Down s else Some s) ≡ Some k → Out s k b
close_down_out true shut k is = absurd (cc)
close_down_out true (stands true) k is = absurd (cc)
close_down_out true (stands false) k is = let same : shut ≡ k = cc in ((λ e. inr refl), (λ e. absurd (cc)), (λ some e. let no : shut ≡ lost = same ∙ e in absurd (cc)))
close_down_out true lost k is = absurd (cc)
close_down_out false s k is = let same : s ≡ k = cc in out_same s k false same refl

one_out : (n : ℕ) (e : Sent) (s k : State) → state_after_one n e s ≡ Some k → Out s k (closes_down n e)
one_out n (to.Connect m) s k is = connect_out (m == n) s k is
one_out n (to.Bytes m side bytes) s k is = bytes_out (m == n) side bytes s k is
one_out n (to.Close m Up) s k is = close_up_out (m == n) s k is
one_out n (to.Close m Down) s k is = close_down_out (m == n) s k is
one_out n (to.Log level text) s k is = let same : s ≡ k = cc in out_same s k false same refl

or_true : (a b : Bool) → b ≡ true → (a || b) ≡ true
or_true true b is = refl
or_true false b is = is

or_none : (a b : Bool) → a ≡ false → b ≡ false → (a || b) ≡ false
or_none a b p q = λ i. p i || q i

-- one thing that is sent, and then the others
joined_out : (n : ℕ) (e : Sent) (sent : List Sent) (s m t : State) → Out s m (closes_down n e) → Out m t (list_any (closes_down n) sent) → Out s t (list_any (closes_down n) (e ∷ sent))
joined_out n e sent s m t first later =
    (stood, (λ none. let f = first.1 none in let l = later.1 f.0 in (l.0, or_none (closes_down n e) (list_any (closes_down n) sent) f.1 l.1)), (λ some. later.2 (first.2 some)))
  where
    then_so : (here t ≡ true) ⊎ (list_any (closes_down n) sent ≡ true) → (here t ≡ true) ⊎ (list_any (closes_down n) (e ∷ sent) ≡ true)
    then_so (inl on) = inl on
    then_so (inr some) = inr (or_true (closes_down n e) (list_any (closes_down n) sent) some)

    by_first : (here m ≡ true) ⊎ (closes_down n e ≡ true) → (here t ≡ true) ⊎ (list_any (closes_down n) (e ∷ sent) ≡ true)
    by_first (inl still) = then_so (later.0 still)
    by_first (inr one) = inr (ap (λ (b : Bool). b || list_any (closes_down n) sent) one)

    stood : here s ≡ true → (here t ≡ true) ⊎ (list_any (closes_down n) (e ∷ sent) ≡ true)
    stood on = by_first (first.0 on)

all_out : (n : ℕ) (sent : List Sent) (s t : State) → state_after n sent s ≡ Some t → Out s t (list_any (closes_down n) sent)
all_out n [] s t is = let same : s ≡ t = cc in out_same s t false same refl
all_out n (e ∷ sent) s t is = by_state (λ m later. all_out n sent m t later) (state_after_one n e s) refl is
  where
    by_state : ((m : State) → state_after n sent m ≡ Some t → Out m t (list_any (closes_down n) sent)) → (o : Option State) → state_after_one n e s ≡ o → and_then (state_after n sent) o ≡ Some t
        → Out s t (list_any (closes_down n) (e ∷ sent))
    by_state go None one is = absurd (cc)
    by_state go (Some m) one is =
        joined_out n e sent s m t (one_out n e s m one) (go m is)

any_join : (n : ℕ) (a b : List Sent) → list_any (closes_down n) (a ++ b) ≡ (list_any (closes_down n) a || list_any (closes_down n) b)
any_join n [] b = refl
any_join n (e ∷ a) b = or_three (closes_down n e) (list_any (closes_down n) (a ++ b)) (list_any (closes_down n) a) (list_any (closes_down n) b) (any_join n a b)
  where
    or_three : (p q r s : Bool) → q ≡ (r || s) → (p || q) ≡ ((p || r) || s)
    or_three true q r s is = refl
    or_three false q r s is = is

-- ---- what happens

-- where its client is there, it stays unless it leaves; and where it is not, none comes but one that connects
stays_at : (n : ℕ) (w : What) (s : State) → here s ≡ true → (w ≡ whats.Gone n Down) ⊎ (here (state_at_event n w s) ≡ true)
stays_at n (whats.Opened m) s on = inr (by_test (m == n))
  where
    comes_on : (z : State) → here z ≡ true → here (opened z) ≡ true
    comes_on shut on = absurd (cc)
    comes_on (stands up) on = refl
    comes_on lost on = absurd (cc)

    by_test : (b : Bool) → here (if b then opened s else s) ≡ true
    by_test true = comes_on s on
    by_test false = on
stays_at n (whats.Gone m Down) s on = by_test (m == n) refl
  where
    by_test : (b : Bool) → (m == n) ≡ b → (whats.Gone m Down ≡ whats.Gone n Down) ⊎ (here (if b then left s else s) ≡ true)
    by_test true is = inl (ap (λ (k : ℕ). whats.Gone k Down) (equal_by m n is))
    by_test false is = inr on
stays_at n (whats.Gone m Up) s on = inr on
stays_at n (whats.Bytes m side bytes) s on = inr on
stays_at n (whats.End m side) s on = inr on
stays_at n (whats.Joined m) s on = inr on
stays_at n (whats.Refused m) s on = inr on
stays_at n (whats.Room m side) s on = inr on
stays_at n whats.Clock s on = inr on
stays_at n whats.Stop s on = inr on

comes_at : (n : ℕ) (w : What) (s : State) → here s ≡ false → (w ≡ whats.Opened n) ⊎ (here (state_at_event n w s) ≡ false)
comes_at n (whats.Opened m) s off = by_test (m == n) refl
  where
    by_test : (b : Bool) → (m == n) ≡ b → (whats.Opened m ≡ whats.Opened n) ⊎ (here (if b then opened s else s) ≡ false)
    by_test true is = inl (ap (λ (k : ℕ). whats.Opened k) (equal_by m n is))
    by_test false is = inr off
comes_at n (whats.Gone m Down) s off = inr (by_test (m == n))
  where
    goes_off : (z : State) → here z ≡ false → here (left z) ≡ false
    goes_off shut off = refl
    goes_off (stands up) off = absurd (cc)
    goes_off lost off = refl

    by_test : (b : Bool) → here (if b then left s else s) ≡ false
    by_test true = goes_off s off
    by_test false = off
comes_at n (whats.Gone m Up) s off = inr off
comes_at n (whats.Bytes m side bytes) s off = inr off
comes_at n (whats.End m side) s off = inr off
comes_at n (whats.Joined m) s off = inr off
comes_at n (whats.Refused m) s off = inr off
comes_at n (whats.Room m side) s off = inr off
comes_at n whats.Clock s off = inr off
comes_at n whats.Stop s off = inr off

is_itself : (n : ℕ) → (n == n) ≡ true
is_itself n = equal_is n n refl

-- one that connects is there, and one that left is not
opened_here : (n : ℕ) (s : State) → (s ≡ lost → ⊥) → here (state_at_event n (whats.Opened n) s) ≡ true
opened_here n s some = ap (λ (b : Bool). here (if b then opened s else s)) (is_itself n) ∙ by_state s some
  where
    by_state : (z : State) → (z ≡ lost → ⊥) → here (opened z) ≡ true
    by_state shut some = refl
    by_state (stands up) some = refl
    by_state lost some = absurd (some refl)

left_gone : (n : ℕ) (s : State) → here (state_at_event n (whats.Gone n Down) s) ≡ false
left_gone n s = ap (λ (b : Bool). here (if b then left s else s)) (is_itself n) ∙ by_state s
  where
    by_state : (z : State) → here (left z) ≡ false
    by_state shut = refl
    by_state (stands true) = refl
    by_state (stands false) = refl
    by_state lost = refl

-- ---- a turn

module _ (n : ℕ) (w : What) (s t : State) (sent : List Sent) (some : s ≡ lost → ⊥) (turn : IsTurn n w s sent t) where
  abbrev event_state : State
  event_state = state_at_event n w turn.mid

  former : Out s turn.mid (list_any (closes_down n) turn.before)
  former = all_out n turn.before s turn.mid turn.first

  later : Out event_state t (list_any (closes_down n) turn.behind)
  later = all_out n turn.behind event_state t turn.later

  joined : list_any (closes_down n) sent ≡ (list_any (closes_down n) turn.before || list_any (closes_down n) turn.behind)
  joined = ap (λ (l : List Sent). list_any (closes_down n) l) turn.is ∙ any_join n turn.before turn.behind

  abbrev Ended : Type 0
  Ended = (w ≡ whats.Gone n Down) ⊎ (list_any (closes_down n) sent ≡ true)

  later_ends : here event_state ≡ true → here t ≡ false → Ended
  later_ends on off = by_later (later.0 on)
    where
      by_later : (here t ≡ true) ⊎ (list_any (closes_down n) turn.behind ≡ true) → Ended
      by_later (inl still) = let never : ◌≡◌ {A = Bool} true false = sym still ∙ off in absurd (cc)
      by_later (inr one) = inr (joined ∙ or_true (list_any (closes_down n) turn.before) (list_any (closes_down n) turn.behind) one)

  mid_ends : here turn.mid ≡ true → here t ≡ false → Ended
  mid_ends on off = by_event (stays_at n w turn.mid on)
    where
      by_event : (w ≡ whats.Gone n Down) ⊎ (here event_state ≡ true) → Ended
      by_event (inl gone) = inl gone
      by_event (inr on) = later_ends on off

  ends_so : (here s ≡ true) ⊎ (w ≡ whats.Opened n) → here t ≡ false → Ended
  ends_so (inl on) off = by_former (former.0 on)
    where
      by_former : (here turn.mid ≡ true) ⊎ (list_any (closes_down n) turn.before ≡ true) → Ended
      by_former (inl still) = mid_ends still off
      by_former (inr one) = inr (joined ∙ ap (λ (b : Bool). b || list_any (closes_down n) turn.behind) one)
  ends_so (inr opens) off = later_ends (ap (λ (v : What). here (state_at_event n v turn.mid)) opens ∙ opened_here n turn.mid (former.2 some)) off

  -- by what is in question, a client was there or connects
  was_there : {A : Type 0} → (here s ≡ true → A) → (w ≡ whats.Opened n → A) → ((here t ≡ false) × (list_any (closes_down n) sent ≡ false) → A) → A
  was_there {A} on connects_so off = by_here (here s) refl
    where
      by_event : (here turn.mid ≡ false) × (list_any (closes_down n) turn.before ≡ false) → (w ≡ whats.Opened n) ⊎ (here event_state ≡ false) → A
      by_event f (inl opens) = connects_so opens
      by_event f (inr none) = let l = later.1 none in off (l.0, joined ∙ or_none (list_any (closes_down n) turn.before) (list_any (closes_down n) turn.behind) f.1 l.1)

      by_here : (b : Bool) → here s ≡ b → A
      by_here true is = on is
      by_here false is = let f = former.1 is in by_event f (comes_at n w turn.mid f.0)

  client_ends : ClientEnds n w (here s) sent (here t)
  client_ends = record {
    ends = λ was off. ends_so was off;
    closed = λ one. was_there (λ on. inl on) (λ opens. inr opens) (λ none. let never : ◌≡◌ {A = Bool} true false = sym one ∙ none.1 in absurd (cc));
    there = λ on. was_there (λ was. inl was) (λ opens. inr opens) (λ none. let never : ◌≡◌ {A = Bool} true false = sym on ∙ none.0 in absurd (cc));
    left = λ gone. (later.1 (ap (λ (v : What). here (state_at_event n v turn.mid)) gone ∙ left_gone n turn.mid)).0;
  }

-- ---- of the product, over all its turns

next_count : (o c ow cw u v : ℕ) → o ≡ c + u → ow + u ≡ cw + v → o + ow ≡ (c + cw) + v
next_count o c ow cw u v is turn = omega (arith, is, turn)

module _ (S : Type 0) (performs : S → List Made → S → Type 0) (config : Config) (who : ℕ) (seed : List ℕ) (host : Vms) (n : ℕ) (http : config.tcp ≡ []) (low : is_call_line n ≡ false) where
  abbrev made : Standing Vms
  made = new_worker slots.exported_in slots.registering_in config who seed host

  abbrev Runs : Standing Vms → List Sent → Standing Vms → Type 0
  Runs from sent to = Worked slots.calling performs from sent to

  abbrev units_at : Standing Vms → ℕ
  units_at from = one_if (reads_server n from.state.room)

  -- as many were closed as were opened, but for the one that is open; and no client is gone whose connection up is open
  abbrev Has : List Sent → Standing Vms → Type 0
  Has sent to = (count (opens_up n) sent ≡ count (closes_up n) sent + units_at to) × (state_of n to.state.room ≡ lost → ⊥)

  -- a further turn after others
  one_more : (from mid to : Standing Vms) (sent : List Sent) (stop : Bool) (s t : S) (old new : Option (List Passed)) → Runs from sent mid → (w : Whole slots.calling performs stop s old mid to t new) → to.setting ≡ mid.setting → Runs from (sent ++ w.sent) to
  one_more from mid to sent stop s t old new (no_turn f) w same = subst (λ (l : List Sent). Runs from l to) (append-nil w.sent) (a_turn stop s t old new from to to [] w same (no_turn to))
  one_more from mid to sent stop s t old new (a_turn stop_v s_v t_v old_v new_v f next l more v same_v later) w same =
      subst (λ (l : List Sent). Runs from l to) (sym (append_assoc v.sent more w.sent)) (a_turn stop_v s_v t_v old_v new_v from next to (more ++ w.sent) v same_v (one_more next mid to more stop s t old new later w same))

  in_turn : (sent : List Sent) (stop : Bool) (s t : S) (old new : Option (List Passed)) (from after : Standing Vms) → Runs made sent from → (w : Whole slots.calling performs stop s old from after t new) → IsTurn n w.event.what (state_of n from.state.room) w.sent (state_of n after.state.room)
  in_turn sent stop s t old new from after worked w = connections_of_the_product S performs config who seed host sent stop s t old new from after n http low worked w

  has_next : (sent : List Sent) (stop : Bool) (s t : S) (old new : Option (List Passed)) (from after : Standing Vms) → Runs made sent from → (w : Whole slots.calling performs stop s old from after t new) → Has sent from → Has (sent ++ w.sent) after
  has_next sent stop s t old new from after worked w has = (
    count_join (opens_up n) sent w.sent
        ∙ (next_count (count (opens_up n) sent) (count (closes_up n) sent) (count (opens_up n) w.sent) (count (closes_up n) w.sent) (units_at from) (units_at after) has.0 counted
        ∙ ap (λ (k : ℕ). k + units_at after) (sym (count_join (closes_up n) sent w.sent))),
    turn.not_lost,
  )
    where
      turn : IsTurn n w.event.what (state_of n from.state.room) w.sent (state_of n after.state.room)
      turn = in_turn sent stop s t old new from after worked w

      as_units : (room : Room) → units (state_of n room) ≡ one_if (reads_server n room)
      as_units room = ap one_if (up_line (line_in n room.lines))

      counted : count (opens_up n) w.sent + units_at from ≡ count (closes_up n) w.sent + units_at after
      counted =
          ap (λ (k : ℕ). count (opens_up n) w.sent + k) (sym (as_units from.state.room))
          ∙ (turn_balance n w.event.what (state_of n from.state.room) (state_of n after.state.room) w.sent turn ∙ ap (λ (k : ℕ). count (closes_up n) w.sent + k) (as_units after.state.room))

  has_all : (sent : List Sent) (from : Standing Vms) → Runs made sent from → Has sent from → (more : List Sent) (to : Standing Vms) → Runs from more to → Has (sent ++ more) to
  has_all sent from worked has more to (no_turn f) = subst (λ (l : List Sent). Has l to) (sym (append-nil sent)) has
  has_all sent from worked has more to (a_turn stop s t old new f mid l rest w same later) =
      subst (λ (l : List Sent). Has l to) (append_assoc sent w.sent rest)
      (has_all (sent ++ w.sent) mid (one_more made from mid sent stop s t old new worked w same) (has_next sent stop s t old new from mid worked w has) rest to later)

  has_first : Has [] made
  has_first = (refl, (λ e. let never : shut ≡ lost = e in absurd (cc)))

  has_so : (sent : List Sent) (to : Standing Vms) → Runs made sent to → Has sent to
  has_so sent to worked = has_all [] made (no_turn made) has_first sent to worked

  client_turn : (sent : List Sent) (stop : Bool) (s t : S) (old new : Option (List Passed)) (from after : Standing Vms) → Runs made sent from → (w : Whole slots.calling performs stop s old from after t new)
      → ClientEnds n w.event.what (has_client_on n from.state.room) w.sent (has_client_on n after.state.room)
  client_turn sent stop s t old new from after worked w =
      subst (λ (b : Bool). ClientEnds n w.event.what b w.sent (has_client_on n after.state.room)) (here_line (line_in n from.state.room.lines))
      (subst (λ (b : Bool). ClientEnds n w.event.what (here (state_of n from.state.room)) w.sent b) (here_line (line_in n after.state.room.lines))
      (client_ends n w.event.what (state_of n from.state.room) (state_of n after.state.room) w.sent (has_so sent from worked).1 (in_turn sent stop s t old new from after worked w)))

pub connections_end : (S : Type 0) (performs : S → List Made → S → Type 0) → ConnectionsEnd S performs
connections_end S performs = record {
  servers = λ config who seed host sent to n http low worked. (has_so S performs config who seed host n http low sent to worked).0;
  clients = λ config who seed host sent stop s t old new from after n http low worked w. client_turn S performs config who seed host n http low sent stop s t old new from after worked w;
}

-- ---- by hand

pub end_examples : EndExamples
end_examples = record {
  opened = refl;
  closed = refl;
  ends = record { ends = λ was off. inr refl; closed = λ one. inl refl; there = λ on. absurd (cc); left = λ gone. refl };
  leaves = record { ends = λ was off. inl refl; closed = λ one. inl refl; there = λ on. absurd (cc); left = λ gone. refl };
  unclosed = λ c. by_ends (c.ends (inl refl) refl);
  nobody = λ c. by_closed (c.closed refl);
  other = λ c. by_ends (c.ends (inl refl) refl);
}
  where
    by_ends : (whats.Clock ≡ whats.Gone 7 Down) ⊎ (◌≡◌ {A = Bool} false true) → ⊥
    by_ends (inl e) = absurd (cc)
    by_ends (inr e) = absurd (cc)

    by_closed : (◌≡◌ {A = Bool} false true) ⊎ (whats.Clock ≡ whats.Opened 7) → ⊥
    by_closed (inl e) = absurd (cc)
    by_closed (inr e) = absurd (cc)
