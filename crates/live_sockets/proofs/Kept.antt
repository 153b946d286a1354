-- Lines of which nothing is heard.
use Rattle.std.proofs.Common.{◌≡◌, inl, inr, ℕ, zero, suc, List, [], ◌∷◌, Option, None, Some, set, length, refl, sym, subst}
use Rattle.std.specs.Prelude.{IsTrue, slice_get, remove}
use Rattle.gate_io.specs.declared.event.What.{What}
use Rattle.gate_io.specs.declared.event.What.TheVariants.{Opened, Bytes, End, Gone, Joined, Refused, Room, Clock, Stop}
use Rattle.live_sockets.specs.Keeping.{Stood, Remains, StandsOrIsOver, Tells, AreKept, Heard, WasHeard}
use Rattle.live_lines.specs.Lines.{IsHeardAt, HeardIn, HeardNext, Forgets, next_place, is_over}
use Rattle.live_lines.specs.Passing.{HeardOn}
use Rattle.live_lines.specs.Told.{IsOf}
use Rattle.live_lines.specs.declared.line.SocketPair.{SocketPair}
use Rattle.live_lines.proofs.Hearing.{heard_same, heard_more}

stood : {P : Type 0} (gave took : P → Option (List ℕ)) (lines : List (SocketPair P)) (i : ℕ) (now : SocketPair P) → slice_get lines i ≡ Some now → Stood gave took lines now
stood gave took lines i now at = record { at = i; line = now; stands = at; heard = heard_same gave took now }

remains : {P : Type 0} (gave took : P → Option (List ℕ)) (lines : List (SocketPair P)) (i : ℕ) (line : SocketPair P) → slice_get lines i ≡ Some line → Remains gave took line lines
remains gave took lines i line at = record { behind = line; heard = heard_same gave took line; stands = inl (i, at) }

pub kept_same : {P : Type 0} (gave took : P → Option (List ℕ)) (lines : List (SocketPair P)) → AreKept gave took lines lines
kept_same gave took lines = record { each = stood gave took lines; all = remains gave took lines }

stood_more : {P : Type 0} (gave took : P → Option (List ℕ)) (a b : List (SocketPair P)) (now : SocketPair P) → AreKept gave took a b → Stood gave took b now → Stood gave took a now
stood_more gave took a b now first two =
    let one = first.each two.at two.line two.stands in
    record { at = one.at; line = one.line; stands = one.stands; heard = heard_more gave took one.line two.line None now one.heard two.heard }

remains_more : {P : Type 0} (gave took : P → Option (List ℕ)) (b c : List (SocketPair P)) (line behind : SocketPair P) → HeardOn gave took line None behind → StandsOrIsOver behind b → AreKept gave took b c → Remains gave took line c
remains_more gave took b c line behind heard (inl there) second =
    let two = second.all there.0 behind there.1 in
    record { behind = two.behind; heard = heard_more gave took line behind None two.behind heard two.heard; stands = two.stands }
remains_more gave took b c line behind heard (inr over) second = record { behind = behind; heard = heard; stands = inr over }

pub kept_more : {P : Type 0} (gave took : P → Option (List ℕ)) (a b c : List (SocketPair P)) → AreKept gave took a b → AreKept gave took b c → AreKept gave took a c
kept_more gave took a b c first second = record {
  each = λ i now at. stood_more gave took a b now first (second.each i now at);
  all = λ i line at. (let one = first.all i line at in remains_more gave took b c line one.behind one.heard one.stands second);
}

-- after a line that stood
further : {P : Type 0} (gave took : P → Option (List ℕ)) (x : SocketPair P) (xs : List (SocketPair P)) (now : SocketPair P) → Stood gave took xs now → Stood gave took (x ∷ xs) now
further gave took x xs now s = record { at = suc s.at; line = s.line; stands = s.stands; heard = s.heard }

set_each : {P : Type 0} (gave took : P → Option (List ℕ)) (lines : List (SocketPair P)) (at : ℕ) (line next : SocketPair P) → slice_get lines at ≡ Some line → HeardOn gave took line None next
    → (i : ℕ) (now : SocketPair P) → slice_get (set lines at next) i ≡ Some now → Stood gave took lines now
set_each gave took [] at line next stands heard i now is = cc
set_each {P} gave took (x ∷ xs) zero line next stands heard zero now is =
    let h : Some next ≡ Some now = is in
    let e : next ≡ now = cc in record { at = 0; line = line; stands = stands; heard = subst (λ (y : SocketPair P). HeardOn gave took line None y) e heard }
set_each gave took (x ∷ xs) zero line next stands heard (suc i) now is = further gave took x xs now (stood gave took xs i now is)
set_each gave took (x ∷ xs) (suc at) line next stands heard zero now is = stood gave took (x ∷ xs) 0 now is
set_each gave took (x ∷ xs) (suc at) line next stands heard (suc i) now is = further gave took x xs now (set_each gave took xs at line next stands heard i now is)

-- after a line more
stands_further : {P : Type 0} (x line : SocketPair P) (lines : List (SocketPair P)) → StandsOrIsOver line lines → StandsOrIsOver line (x ∷ lines)
stands_further x line lines (inl there) = inl (suc there.0, there.1)
stands_further x line lines (inr over) = inr over

remains_further : {P : Type 0} (gave took : P → Option (List ℕ)) (x line : SocketPair P) (lines : List (SocketPair P)) → Remains gave took line lines → Remains gave took line (x ∷ lines)
remains_further gave took x line lines r = record { behind = r.behind; heard = r.heard; stands = stands_further x r.behind lines r.stands }

set_all : {P : Type 0} (gave took : P → Option (List ℕ)) (lines : List (SocketPair P)) (at : ℕ) (line next : SocketPair P) → slice_get lines at ≡ Some line → HeardOn gave took line None next
    → (i : ℕ) (old : SocketPair P) → slice_get lines i ≡ Some old → Remains gave took old (set lines at next)
set_all gave took [] at line next stands heard i old is = cc
set_all {P} gave took (x ∷ xs) zero line next stands heard zero old is =
    let a : Some x ≡ Some line = stands in
    let b : Some x ≡ Some old = is in
    let e : line ≡ old = cc in record { behind = next; heard = subst (λ (y : SocketPair P). HeardOn gave took y None next) e heard; stands = inl (0, refl) }
set_all gave took (x ∷ xs) zero line next stands heard (suc i) old is = remains_further gave took next old xs (remains gave took xs i old is)
set_all gave took (x ∷ xs) (suc at) line next stands heard zero old is = remains gave took (x ∷ set xs at next) 0 old is
set_all gave took (x ∷ xs) (suc at) line next stands heard (suc i) old is = remains_further gave took x old (set xs at next) (set_all gave took xs at line next stands heard i old is)

-- nothing was heard of the line that stands at a place
set_kept : {P : Type 0} (gave took : P → Option (List ℕ)) (lines : List (SocketPair P)) (at : ℕ) (line next : SocketPair P) → slice_get lines at ≡ Some line → HeardOn gave took line None next → AreKept gave took lines (set lines at next)
set_kept gave took lines at line next stands heard = record { each = set_each gave took lines at line next stands heard; all = set_all gave took lines at line next stands heard }

remove_each : {P : Type 0} (gave took : P → Option (List ℕ)) (lines : List (SocketPair P)) (at : ℕ) (i : ℕ) (now : SocketPair P) → slice_get (remove lines at) i ≡ Some now → Stood gave took lines now
remove_each gave took [] zero i now is = cc
remove_each gave took [] (suc at) i now is = cc
remove_each gave took (x ∷ xs) zero i now is = further gave took x xs now (stood gave took xs i now is)
remove_each gave took (x ∷ xs) (suc at) zero now is = stood gave took (x ∷ xs) 0 now is
remove_each gave took (x ∷ xs) (suc at) (suc i) now is = further gave took x xs now (remove_each gave took xs at i now is)

-- a line that is over, and is let go
remove_all : {P : Type 0} (gave took : P → Option (List ℕ)) (lines : List (SocketPair P)) (at : ℕ) (gone : SocketPair P) → slice_get lines at ≡ Some gone → IsTrue (is_over gone) → (i : ℕ) (line : SocketPair P) → slice_get lines i ≡ Some line → Remains gave took line (remove lines at)
remove_all gave took [] at gone stands over i line is = cc
remove_all {P} gave took (x ∷ xs) zero gone stands over zero line is =
    let a : Some x ≡ Some gone = stands in
    let b : Some x ≡ Some line = is in
    let e : gone ≡ line = cc in record { behind = line; heard = heard_same gave took line; stands = inr (subst (λ (y : SocketPair P). IsTrue (is_over y)) e over) }
remove_all gave took (x ∷ xs) zero gone stands over (suc i) line is = remains gave took xs i line is
remove_all gave took (x ∷ xs) (suc at) gone stands over zero line is = remains gave took (x ∷ remove xs at) 0 line is
remove_all gave took (x ∷ xs) (suc at) gone stands over (suc i) line is = remains_further gave took x line (remove xs at) (remove_all gave took xs at gone stands over i line is)

forgets_kept : {P : Type 0} (gave took : P → Option (List ℕ)) (a b : List (SocketPair P)) (at : ℕ) (c : List (SocketPair P)) → AreKept gave took a b → Forgets b at c → AreKept gave took a c
forgets_kept {P} gave took a b at c kept (inl same) = subst (λ (ls : List (SocketPair P)). AreKept gave took a ls) (sym same) kept
forgets_kept {P} gave took a b at c kept (inr gone) =
    subst (λ (ls : List (SocketPair P)). AreKept gave took a ls) (sym gone.lines) (kept_more gave took a b (remove b at) kept (record { each = remove_each gave took b at; all = remove_all gave took b at gone.line gone.stands gone.over }))

-- nothing was heard of the line at a place
pub heard_in_kept : {P : Type 0} (gave took : P → Option (List ℕ)) (old : List (SocketPair P)) (at : ℕ) (new : List (SocketPair P)) → HeardIn gave took old at None new → AreKept gave took old new
heard_in_kept gave took old at new h = forgets_kept gave took old (set old at h.behind) at new (set_kept gave took old at h.line h.behind h.stands h.heard) h.lines

-- nothing was heard of the next line
pub next_kept : {P : Type 0} (gave took : P → Option (List ℕ)) (old : List (SocketPair P)) (next : ℕ) (new : List (SocketPair P)) → HeardNext gave took old next None new → AreKept gave took old new
next_kept {P} gave took old next new (inl h) = subst (λ (ls : List (SocketPair P)). AreKept gave took old ls) (sym h.1) (kept_same gave took old)
next_kept gave took old next new (inr h) = heard_in_kept gave took old (next_place next (length old)) new h

-- nothing was heard of some lines, and then of the next
pub more_kept : {P : Type 0} (gave took : P → Option (List ℕ)) (a b : List (SocketPair P)) (next : ℕ) (c : List (SocketPair P)) → AreKept gave took a b → HeardNext gave took b next None c → AreKept gave took a c
more_kept gave took a b next c kept h = kept_more gave took a b c kept (next_kept gave took b next c h)

in_turn : {P : Type 0} (gave took : P → Option (List ℕ)) (a b : List (SocketPair P)) (at : ℕ) (what : What) (c : List (SocketPair P)) (line : ℕ) → IsOf line what → AreKept gave took a b → IsHeardAt b at what → HeardIn gave took b at (Some what) c → Heard gave took a (Some what) c
in_turn gave took a b at (Bytes l side bytes) c line is kept of heard = record { between = b; kept = kept; at = at; of = of; heard = heard }
in_turn gave took a b at (End l side) c line is kept of heard = record { between = b; kept = kept; at = at; of = of; heard = heard }
in_turn gave took a b at (Gone l side) c line is kept of heard = record { between = b; kept = kept; at = at; of = of; heard = heard }
in_turn gave took a b at (Joined l) c line is kept of heard = record { between = b; kept = kept; at = at; of = of; heard = heard }
in_turn gave took a b at (Refused l) c line is kept of heard = record { between = b; kept = kept; at = at; of = of; heard = heard }
in_turn gave took a b at (Room l side) c line is kept of heard = record { between = b; kept = kept; at = at; of = of; heard = heard }
in_turn gave took a b at (Opened l) c line is kept of heard = absurd is
in_turn gave took a b at Clock c line is kept of heard = absurd is
in_turn gave took a b at Stop c line is kept of heard = absurd is

-- nothing was heard of some, and then this of the next
pub next_heard : {P : Type 0} (gave took : P → Option (List ℕ)) (a b : List (SocketPair P)) (next : ℕ) (what : What) (c : List (SocketPair P)) → AreKept gave took a b → IsHeardAt b (next_place next (length b)) what → HeardNext gave took b next (Some what) c → Heard gave took a (Some what) c
next_heard gave took a b next what c kept of (inl h) = cc (h.0)
next_heard gave took a b next what c kept of (inr h) = in_turn gave took a b (next_place next (length b)) what c of.line.number of.of kept of h

tells_more : {P : Type 0} (gave took : P → Option (List ℕ)) (a b : List (SocketPair P)) (what : What) (c : List (SocketPair P)) → AreKept gave took a b → Tells gave took b what c → Tells gave took a what c
tells_more gave took a b what c kept tells = record { between = tells.between; kept = kept_more gave took a b tells.between kept tells.kept; at = tells.at; of = tells.of; heard = tells.heard }

pub was_heard : {P : Type 0} (gave took : P → Option (List ℕ)) (a b : List (SocketPair P)) (what : What) (c : List (SocketPair P)) → AreKept gave took a b → Heard gave took b (Some what) c → WasHeard gave took a what c
was_heard gave took a b (Bytes l side bytes) c kept h = tells_more gave took a b (Bytes l side bytes) c kept h
was_heard gave took a b (End l side) c kept h = tells_more gave took a b (End l side) c kept h
was_heard gave took a b (Gone l side) c kept h = tells_more gave took a b (Gone l side) c kept h
was_heard gave took a b (Joined l) c kept h = tells_more gave took a b (Joined l) c kept h
was_heard gave took a b (Refused l) c kept h = tells_more gave took a b (Refused l) c kept h
was_heard gave took a b (Room l side) c kept h = tells_more gave took a b (Room l side) c kept h
was_heard gave took a b (Opened l) c kept h = record { between = b; kept = kept; comes = h }
was_heard gave took a b Clock c kept h = absurd h
was_heard gave took a b Stop c kept h = absurd h
