-- An answer 502 that begins.
use Rattle.std.proofs.Common.{◌≡◌, ◌<◌, ◌∙◌, ℕ, zero, suc, Bool, List, [], ◌∷◌, length, slice_index_or, HoldsAt, refl, ap, arith}
use Rattle.live_lines.specs.declared.line.SocketPair.{SocketPair}
use Rattle.live_sockets.specs.Notices.{BeginsAt, begins_answer}

-- within a list it is the same whatever stands beyond it
any_default : {A : Type 0} (xs : List A) (k : ℕ) (d e : A) → k < length xs → slice_index_or xs k d ≡ slice_index_or xs k e
any_default [] k d e low = absurd (omega arith)
any_default (x ∷ xs) zero d e low = refl
any_default (x ∷ xs) (suc k) d e low = any_default xs k d e (omega arith)

-- what begins at a line that was found
pub begins_at : {P : Type 0} (lines : List (SocketPair P)) (number at : ℕ) (line : SocketPair P) (begins : Bool)
    → at < length lines → slice_index_or lines at line ≡ line → HoldsAt (λ (l : SocketPair P). l.number ≡ number) lines at → begins_answer line ≡ begins → BeginsAt lines number begins
begins_at lines number at line begins inside is found answer = (at, λ d. (found d, ap begins_answer (any_default lines at d line inside ∙ is) ∙ answer))
