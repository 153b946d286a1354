-- What is sent in order: lists joined, what goes up, and what is of other lines.
use Rattle.std.proofs.Common.{◌≡◌, ℕ, ◌==◌, Bool, true, false, List, [], ◌∷◌, ◌++◌, map, refl, ap, ◌∙◌, sym, subst}
use Rattle.std.specs.Prelude.{Option, None, Some, if◌then◌else◌}
use Rattle.callouts.specs.Callouts.{is_call_line}
use Rattle.law_exchange.specs.Traffic.{Traffic, opens, byte, closes as closing, up_of, up_traffic}
use Rattle.gate_io.specs.declared.event.Sent.{Sent}
use Rattle.gate_io.specs.declared.event.Sent.TheVariants as to
use Rattle.gate_io.specs.declared.event.Side.{Side}
use Rattle.gate_io.specs.declared.event.Side.TheVariants.{Down, Up}
use Rattle.law_lines.specs.Clients.{client_traffic, client_of}
use Rattle.law_lines.proofs.Callouts.{lines_apart}
use Rattle.law_lines.proofs.Looks.{equal_by, equal_is, other_is, other_by}
use Rattle.law_down.specs.InOrder.{State, stands, connects, passes, closes, state_after_one, and_then, state_after}

pub runs_join : (n : ℕ) (a b : List Sent) (s : State) → state_after n (a ++ b) s ≡ and_then (state_after n b) (state_after n a s)
runs_join n [] b s = refl
runs_join n (e ∷ a) b s = by_state (λ t. runs_join n a b t) (state_after_one n e s)
  where
    by_state : ((t : State) → state_after n (a ++ b) t ≡ and_then (state_after n b) (state_after n a t)) → (o : Option State) → and_then (state_after n (a ++ b)) o ≡ and_then (state_after n b) (and_then (state_after n a) o)
    by_state go None = refl
    by_state go (Some t) = go t

pub runs_then : (n : ℕ) (a b : List Sent) (s t u : State) → state_after n a s ≡ Some t → state_after n b t ≡ Some u → state_after n (a ++ b) s ≡ Some u
runs_then n a b s t u first later = runs_join n a b s ∙ (ap (and_then (state_after n b)) first ∙ later)

pub turned : (n m : ℕ) → (n == m) ≡ (m == n)
turned n m = by_test (m == n) refl
  where
    by_test : (b : Bool) → (m == n) ≡ b → (n == m) ≡ (m == n)
    by_test true is = equal_is n m (sym (equal_by m n is)) ∙ sym is
    by_test false is = other_is n m (λ e. other_by m n is (sym e)) ∙ sym is

-- ---- what goes up

abbrev pub step_up : Traffic → Bool → Option Bool
step_up opens false = Some true
step_up opens true = None
step_up (byte b) true = Some true
step_up (byte b) false = None
step_up closing true = Some false
step_up closing false = None

abbrev pub then_up : (Bool → Option Bool) → Option Bool → Option Bool
then_up next None = None
then_up next (Some u) = next u

abbrev pub moves_up : List Traffic → Bool → Option Bool
moves_up [] u = Some u
moves_up (t ∷ ts) u = then_up (moves_up ts) (step_up t u)

pub ups_then : (a b : List Traffic) (u : Bool) → moves_up (a ++ b) u ≡ then_up (moves_up b) (moves_up a u)
ups_then [] b u = refl
ups_then (t ∷ a) b u = by_state (λ w. ups_then a b w) (step_up t u)
  where
    by_state : ((w : Bool) → moves_up (a ++ b) w ≡ then_up (moves_up b) (moves_up a w)) → (o : Option Bool) → then_up (moves_up (a ++ b)) o ≡ then_up (moves_up b) (then_up (moves_up a) o)
    by_state go None = refl
    by_state go (Some w) = go w

pub bytes_up : (bytes : List ℕ) → moves_up (map byte bytes) true ≡ Some true
bytes_up [] = refl
bytes_up (b ∷ bytes) = bytes_up bytes

-- ---- where nothing is closed, and no piece is empty, but on lines of callouts

abbrev pub IsQuiet : Sent → Type 0
IsQuiet (to.Connect m) = Unit {0}
IsQuiet (to.Bytes m side []) = is_call_line m ≡ true
IsQuiet (to.Bytes m side (b ∷ bytes)) = Unit {0}
IsQuiet (to.Close m side) = is_call_line m ≡ true
IsQuiet (to.Log level text) = Unit {0}

pub call_bytes_quiet : (m : ℕ) (side : Side) (bytes : List ℕ) → is_call_line m ≡ true → IsQuiet (to.Bytes m side bytes)
call_bytes_quiet m side [] high = high
call_bytes_quiet m side (b ∷ bytes) high = tt

abbrev pub AreQuiet : List Sent → Type 0
AreQuiet [] = Unit {0}
AreQuiet (s ∷ sent) = IsQuiet s × AreQuiet sent

record OneUp (n : ℕ) (e : Sent) (rest : List Traffic) (u v : Bool) : Type 0 where
  then_so : Bool
  one : state_after_one n e (stands u) ≡ Some (stands then_so)
  others : moves_up rest then_so ≡ Some v

if_same : (b : Bool) (s : State) → (if b then Some s else Some s) ≡ Some s
if_same true s = refl
if_same false s = refl

one_up : (n : ℕ) → is_call_line n ≡ false → (e : Sent) (rest : List Traffic) (u v : Bool) → IsQuiet e → moves_up (up_of n e ++ rest) u ≡ Some v → OneUp n e rest u v
one_up n low (to.Connect m) rest u v quiet is = by_test (m == n) refl
  where
    connected : (w : Bool) → (m == n) ≡ true → moves_up (opens ∷ rest) w ≡ Some v → OneUp n (to.Connect m) rest w v
    connected true here e = absurd (cc)
    connected false here e = record { then_so = true; one = ap (λ c. if c then Some (stands true) else Some (stands false)) here; others = e }

    by_test : (b : Bool) → (m == n) ≡ b → OneUp n (to.Connect m) rest u v
    by_test true here = connected u here (subst (λ c. moves_up ((if c then opens ∷ [] else []) ++ rest) u ≡ Some v) (turned n m ∙ here) is)
    by_test false other =
        record { then_so = u; one = ap (λ c. if c then connects (stands u) else Some (stands u)) other; others = subst (λ c. moves_up ((if c then opens ∷ [] else []) ++ rest) u ≡ Some v) (turned n m ∙ other) is }
one_up n low (to.Bytes m Down []) rest u v high is = record { then_so = u; one = ap (λ c. if c then passes Down [] (stands u) else Some (stands u)) (lines_apart m n high low); others = is }
one_up n low (to.Bytes m Up []) rest u v high is = record {
  then_so = u;
  one = ap (λ c. if c then passes Up [] (stands u) else Some (stands u)) (lines_apart m n high low);
  others = subst (λ c. moves_up ((if c then map byte [] else []) ++ rest) u ≡ Some v) (turned n m ∙ lines_apart m n high low) is;
}
one_up n low (to.Bytes m Down (b ∷ bytes)) rest u v quiet is = record { then_so = u; one = if_same (m == n) (stands u); others = is }
one_up n low (to.Bytes m Up (b ∷ bytes)) rest u v quiet is = by_test (m == n) refl
  where
    gone_up : (w : Bool) → (m == n) ≡ true → moves_up (byte b ∷ map byte bytes ++ rest) w ≡ Some v → OneUp n (to.Bytes m Up (b ∷ bytes)) rest w v
    gone_up false here e = absurd (cc)
    gone_up true here e = record { then_so = true; one = if_same (m == n) (stands true); others = sym (ups_then (map byte bytes) rest true ∙ ap (then_up (moves_up rest)) (bytes_up bytes)) ∙ e }

    by_test : (c : Bool) → (m == n) ≡ c → OneUp n (to.Bytes m Up (b ∷ bytes)) rest u v
    by_test true here = gone_up u here (subst (λ c. moves_up ((if c then map byte (b ∷ bytes) else []) ++ rest) u ≡ Some v) (turned n m ∙ here) is)
    by_test false other =
        record { then_so = u; one = ap (λ c. if c then passes Up (b ∷ bytes) (stands u) else Some (stands u)) other; others = subst (λ c. moves_up ((if c then map byte (b ∷ bytes) else []) ++ rest) u ≡ Some v) (turned n m ∙ other) is }
one_up n low (to.Close m Down) rest u v high is = record { then_so = u; one = ap (λ c. if c then closes Down (stands u) else Some (stands u)) (lines_apart m n high low); others = is }
one_up n low (to.Close m Up) rest u v high is = record {
  then_so = u;
  one = ap (λ c. if c then closes Up (stands u) else Some (stands u)) (lines_apart m n high low);
  others = subst (λ c. moves_up ((if c then closing ∷ [] else []) ++ rest) u ≡ Some v) (turned n m ∙ lines_apart m n high low) is;
}
one_up n low (to.Log level text) rest u v quiet is = record { then_so = u; one = refl; others = is }

-- where the client is connected, it is in order as it is in order upwards
pub open_runs : (n : ℕ) → is_call_line n ≡ false → (more : List Sent) (u v : Bool) → AreQuiet more → moves_up (up_traffic n more) u ≡ Some v → state_after n more (stands u) ≡ Some (stands v)
open_runs n low [] u v quiet is = let same : u ≡ v = cc in ap (λ c. Some (stands c)) same
open_runs n low (e ∷ more) u v quiet is =
    let o : OneUp n e (up_traffic n more) u v = one_up n low e (up_traffic n more) u v quiet.0 is in
    ap (and_then (state_after n more)) o.one ∙ open_runs n low more o.then_so v quiet.1 o.others

-- ---- what is of other lines

one_beside : (n : ℕ) → is_call_line n ≡ false → (e : Sent) (a b : List Traffic) (s : State) → IsQuiet e → up_of n e ++ a ≡ [] → client_of n e ++ b ≡ [] → (state_after_one n e s ≡ Some s) × (a ≡ []) × (b ≡ [])
one_beside n low (to.Connect m) a b s quiet up down = by_test (m == n) refl
  where
    by_test : (c : Bool) → (m == n) ≡ c → (state_after_one n (to.Connect m) s ≡ Some s) × (a ≡ []) × (b ≡ [])
    by_test true here = let never : opens ∷ a ≡ [] = subst (λ c. (if c then opens ∷ [] else []) ++ a ≡ []) (turned n m ∙ here) up in absurd (cc)
    by_test false other = (ap (λ c. if c then connects s else Some s) other, subst (λ c. (if c then opens ∷ [] else []) ++ a ≡ []) (turned n m ∙ other) up, down)
one_beside n low (to.Bytes m Up []) a b s high up down =
    let apart = lines_apart m n high low in
    (ap (λ c. if c then passes Up [] s else Some s) apart, subst (λ c. (if c then map byte [] else []) ++ a ≡ []) (turned n m ∙ apart) up, down)
one_beside n low (to.Bytes m Down []) a b s high up down =
    let apart = lines_apart m n high low in
    (ap (λ c. if c then passes Down [] s else Some s) apart, up, subst (λ c. (if c then map byte [] else []) ++ b ≡ []) (turned n m ∙ apart) down)
one_beside n low (to.Bytes m Up (o ∷ bytes)) a b s quiet up down = by_test (m == n) refl
  where
    by_test : (c : Bool) → (m == n) ≡ c → (state_after_one n (to.Bytes m Up (o ∷ bytes)) s ≡ Some s) × (a ≡ []) × (b ≡ [])
    by_test true here = let never : byte o ∷ map byte bytes ++ a ≡ [] = subst (λ c. (if c then map byte (o ∷ bytes) else []) ++ a ≡ []) (turned n m ∙ here) up in absurd (cc)
    by_test false other = (ap (λ c. if c then passes Up (o ∷ bytes) s else Some s) other, subst (λ c. (if c then map byte (o ∷ bytes) else []) ++ a ≡ []) (turned n m ∙ other) up, down)
one_beside n low (to.Bytes m Down (o ∷ bytes)) a b s quiet up down = by_test (m == n) refl
  where
    by_test : (c : Bool) → (m == n) ≡ c → (state_after_one n (to.Bytes m Down (o ∷ bytes)) s ≡ Some s) × (a ≡ []) × (b ≡ [])
    by_test true here = let never : byte o ∷ map byte bytes ++ b ≡ [] = subst (λ c. (if c then map byte (o ∷ bytes) else []) ++ b ≡ []) (turned n m ∙ here) down in absurd (cc)
    by_test false other = (ap (λ c. if c then passes Down (o ∷ bytes) s else Some s) other, up, subst (λ c. (if c then map byte (o ∷ bytes) else []) ++ b ≡ []) (turned n m ∙ other) down)
one_beside n low (to.Close m Up) a b s high up down =
    let apart = lines_apart m n high low in
    (ap (λ c. if c then closes Up s else Some s) apart, subst (λ c. (if c then closing ∷ [] else []) ++ a ≡ []) (turned n m ∙ apart) up, down)
one_beside n low (to.Close m Down) a b s high up down =
    let apart = lines_apart m n high low in
    (ap (λ c. if c then closes Down s else Some s) apart, up, subst (λ c. (if c then closing ∷ [] else []) ++ b ≡ []) (turned n m ∙ apart) down)
one_beside n low (to.Log level text) a b s quiet up down = (refl, up, down)

pub beside_runs : (n : ℕ) → is_call_line n ≡ false → (more : List Sent) (s : State) → AreQuiet more → up_traffic n more ≡ [] → client_traffic n more ≡ [] → state_after n more s ≡ Some s
beside_runs n low [] s quiet up down = refl
beside_runs n low (e ∷ more) s quiet up down =
    let o = one_beside n low e (up_traffic n more) (client_traffic n more) s quiet.0 up down in
    ap (and_then (state_after n more)) o.0 ∙ beside_runs n low more s quiet.1 o.1 o.2
