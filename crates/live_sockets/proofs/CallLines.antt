-- Lines of clients beside those of callouts.
use Rattle.std.proofs.Common.{◌≡◌, ◌⊎◌, inl, inr, ◌<◌, ◌≤◌, ℕ, ◌+◌, List, [], ◌∷◌, ◌++◌, Option, None, length, refl, sym, subst, arith}
use Rattle.std.specs.Prelude.{◌==◌, cond, insert, is_none, IfSome, IsTrue}
use Rattle.std.specs.List.{position}
use Rattle.std.proofs.lemmas.List.Edits.{length-insert}
use Rattle.std.proofs.lemmas.List.Sums.{sum_by-insert}
use Rattle.live_sockets.specs.Calls.{BeginsIn, Calls, ConnectsIn, calls_in, first_call, is_call, most_calls}
use Rattle.live_lines.specs.Lines.{IsUnused, most_lines, peer_of}
use Rattle.live_lines.specs.declared.line.SocketPair.{SocketPair}
use Rattle.live_sockets.specs.Keeping.{AreFew, Comes}
use Rattle.live_sockets.proofs.Begun.{unused_up}

-- one client's line more, where there was room for it
pub few_more : {P : Type 0} (lines : List (SocketPair P)) (at : ℕ) (line : SocketPair P) (new : List (SocketPair P)) → at ≤ length lines → length lines < most_lines + calls_in lines → new ≡ insert lines at line → AreFew new
few_more {P} lines at line new within few is =
    subst (λ (ls : List (SocketPair P)). AreFew ls) (sym is)
    (let longer = length-insert lines at line within in let counted = sum_by-insert (λ (l : SocketPair P). cond (is_call l.number) 1 0) lines at line in omega arith)

-- a number of which no callout's line may begin, and that no line has
pub left_out : {P : Type 0} (lines : List (SocketPair P)) (number : ℕ) → position (λ (other : SocketPair P). other.number == number) lines ≡ None → (number < first_call) ⊎ (most_calls ≤ calls_in lines) → ConnectsIn lines number lines
left_out lines number none why = inr (inl why, inl (none, refl))

pub left_out_anew : {P : Type 0} (gave took : P → Option (List ℕ)) (lines : List (SocketPair P)) (number : ℕ) → position (λ (other : SocketPair P). other.number == number) lines ≡ None → (number < first_call) ⊎ (most_calls ≤ calls_in lines)
    → BeginsIn gave took lines number lines
left_out_anew gave took lines number none why = inr (inl why, inl (none, refl))

calls_of : {P : Type 0} (old : List (SocketPair P)) (number : ℕ) (line : SocketPair P) (new : List (SocketPair P)) → IsTrue (is_call number) → position (λ (other : SocketPair P). other.number == number) old ≡ None → calls_in old < most_calls
    → line.number ≡ number → line.down ≡ None → IfSome line.up (λ up. up.waiting ≡ []) → line.refused ≡ is_none line.up → new ≡ old ++ line ∷ [] → Calls old number new
calls_of old number line new call none few same down fresh refused lines =
    record { line = line; call = call; none = none; few = few; number_is = same; down = down; fresh = fresh; refused = refused; lines = lines }

-- a callout's line begins
pub called : {P : Type 0} (old : List (SocketPair P)) (number : ℕ) (line : SocketPair P) (new : List (SocketPair P)) → IsTrue (is_call number) → position (λ (other : SocketPair P). other.number == number) old ≡ None → calls_in old < most_calls
    → line.number ≡ number → line.down ≡ None → IfSome line.up (λ up. up.waiting ≡ []) → line.refused ≡ is_none line.up → new ≡ old ++ line ∷ [] → ConnectsIn old number new
called old number line new call none few same down fresh refused lines = inl (calls_of old number line new call none few same down fresh refused lines)

-- and by an unused connection, or by none
pub called_anew : {P : Type 0} (gave took : P → Option (List ℕ)) (old : List (SocketPair P)) (number : ℕ) (line : SocketPair P) (new : List (SocketPair P)) (peer : Option P)
    → IsTrue (is_call number) → position (λ (other : SocketPair P). other.number == number) old ≡ None → calls_in old < most_calls
    → line.number ≡ number → line.down ≡ None → IfSome line.up (λ up. up.waiting ≡ []) → line.refused ≡ is_none line.up → new ≡ old ++ line ∷ []
    → peer_of line.up ≡ peer → IfSome peer (IsUnused gave took) → BeginsIn gave took old number new
unfolding calls_of
called_anew gave took old number line new peer call none few same down fresh refused lines is unused =
    inl (record { calls = calls_of old number line new call none few same down fresh refused lines; unused = unused_up gave took peer line.up is unused })

-- a client's line comes
pub comes : {P : Type 0} (old : List (SocketPair P)) (number : ℕ) (line : SocketPair P) (at : ℕ) (new : List (SocketPair P)) → number < first_call → position (λ (other : SocketPair P). other.number == number) old ≡ None
    → line.number ≡ number → at ≤ length old → new ≡ insert old at line → Comes old number new
comes old number line at new client fresh same within lines = record { line = line; number_is = same; client = client; fresh = fresh; at = at; within = within; lines = lines }
