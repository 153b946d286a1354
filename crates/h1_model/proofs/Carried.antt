-- The bytes of a body that a text carries, one after the other, for each way in which a body ends.
use Rattle.std.proofs.Common.{◌≡◌, ℕ, zero, suc, ◌+◌, ◌-◌, ◌≤◌, Bool, List, [], ◌∷◌, length, take, drop, get_or, Option, refl, sym, ap, subst, arith}
use Rattle.h1_model.specs.Chunks.{Place, inside, Sought, data_at, section_at, waiting, malformed, sought, Run, run_of}
use Rattle.h1_model.specs.Messages.{octet, counted, coded, unbounded, body, item, section_step, IsCodedStep, StepsTo}
use Rattle.h1_model.specs.Trailers as trailing
use Rattle.h1_model.specs.Unread.{Carries}
use Rattle.h1_model.proofs.ChunkLaws.{run_behind, run_step, run_zero}

-- what a run carries
abbrev pub IsCarried : Bool → Option (List ℕ) → List (List ℕ) → Place → List ℕ → Run → Type 0
IsCarried ended asked connection place text run = Carries ended asked (body (coded connection place)) text run.bytes run.used (body (coded connection run.place))

-- the data of a chunked body
pub run_carries : (ended : Bool) (asked : Option (List ℕ)) (connection : List (List ℕ)) (room : ℕ) (place : Place) (text : List ℕ)
    → Carries ended asked (body (coded connection place)) text (run_of room place text).bytes (run_of room place text).used (body (coded connection (run_of room place text).place))
run_carries ended asked connection zero place text = subst (IsCarried ended asked connection place text) (sym (run_zero place text)) (refl, refl)
run_carries ended asked connection (suc room) place text = by_sought (sought place text) refl (run_carries ended asked connection room)
  where
    moved : (s : Sought) → sought place text ≡ s → IsCarried ended asked connection place text (run_behind room place text s)
        → IsCarried ended asked connection place text (run_of (suc room) place text)
    moved s is x = subst (IsCarried ended asked connection place text) (sym (run_step room place text s is)) x

    by_sought : (s : Sought) → sought place text ≡ s → ((p : Place) (t : List ℕ) → IsCarried ended asked connection p t (run_of room p t))
        → IsCarried ended asked connection place text (run_of (suc room) place text)
    by_sought (data_at at left) is later =
        let p = inside (left - 1) in
        let run = run_of room p (drop (at + 1) text) in
        let here : IsCodedStep ended asked connection text (data_at at left) (item (octet (get_or text at 0)) (at + 1) (body (coded connection p))) = refl in
        let there : StepsTo ended asked (body (coded connection place)) text (item (octet (get_or text at 0)) (at + 1) (body (coded connection p))) =
        subst (λ (s : Sought). IsCodedStep ended asked connection text s (item (octet (get_or text at 0)) (at + 1) (body (coded connection p)))) (sym is) here in
        moved (data_at at left) is (at + 1, run.used, body (coded connection p), there, later p (drop (at + 1) text), refl)
    by_sought (section_at at) is later = moved (section_at at) is (refl, refl)
    by_sought waiting is later = moved waiting is (refl, refl)
    by_sought malformed is later = moved malformed is (refl, refl)

-- the bytes of a body of so many
pub take_carries : (ended : Bool) (asked : Option (List ℕ)) (n k : ℕ) (text : List ℕ) → k ≤ n → k ≤ length text
    → Carries ended asked (body (counted n)) text (take k text) k (body (counted (n - k)))
take_carries ended asked n zero text within fits = (refl, ap (λ (m : ℕ). body (counted m)) (omega arith))
take_carries ended asked n (suc k) [] within fits = absurd (omega arith)
take_carries ended asked zero (suc k) (b ∷ text) within fits = absurd (omega arith)
take_carries ended asked (suc n) (suc k) (b ∷ text) within fits =
    let less : n - k ≡ suc n - suc k = omega arith in
    let later = take_carries ended asked n k text (omega arith) (omega arith) in
    let moved : Carries ended asked (body (counted n)) text (take k text) k (body (counted (suc n - suc k))) =
    subst (λ (m : ℕ). Carries ended asked (body (counted n)) text (take k text) k (body (counted m))) less later in
    (1, k, body (counted n), refl, moved, omega arith)

-- the bytes of one that ends with its line
pub take_carries_unbounded : (ended : Bool) (asked : Option (List ℕ)) (k : ℕ) (text : List ℕ) → k ≤ length text
    → Carries ended asked (body unbounded) text (take k text) k (body unbounded)
take_carries_unbounded ended asked zero text fits = (refl, refl)
take_carries_unbounded ended asked (suc k) [] fits = absurd (omega arith)
take_carries_unbounded ended asked (suc k) (b ∷ text) fits =
    (1, k, body unbounded, refl, take_carries_unbounded ended asked k text (omega arith), omega arith)

-- ---- what is no data of a chunked body

abbrev pub IsNoRun : trailing.ChunkStep → Type 0
IsNoRun (trailing.carried run) = ⊥
IsNoRun (trailing.ended fields used) = Unit {0}
IsNoRun trailing.not_yet = Unit {0}
IsNoRun (trailing.refused number) = Unit {0}

-- an end, a rest or a refusal of the coding is that step of the message
pub coded_there : (ended : Bool) (asked : Option (List ℕ)) (connection : List (List ℕ)) (place : Place) (text : List ℕ) (c : trailing.ChunkStep)
    → trailing.SpellsChunks place text c → IsNoRun c → StepsTo ended asked (body (coded connection place)) text (section_step ended asked connection c)
coded_there ended asked connection place text c x no_run = by_sought (sought place text) x
  where
    by_sought : (s : Sought) → trailing.IsBehind place text s c → IsCodedStep ended asked connection text s (section_step ended asked connection c)
    by_sought (data_at at left) y = absurd (subst IsNoRun y no_run)
    by_sought (section_at at) y = (c, y, refl)
    by_sought waiting y = ap (section_step ended asked connection) y
    by_sought malformed y = ap (section_step ended asked connection) y
