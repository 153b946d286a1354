-- What was offered is what was taken and then what the queue holds. One pass at most may offer, and it has the list of what was offered. The same for taking. Any
-- pass may have been told of the first lines that were offered, and of the first that were taken.
use Rattle.std.specs.Prelude.{◌≡◌, ℕ, ◌+◌, ◌≤◌, ◌⊎◌, Bool, true, false, List, [], ◌∷◌, ◌++◌, map, length, nat_lt, if◌then◌else◌}
use mathlib.Core.Option.{some}
use lib.ListN.{get_elem?}
use Rattle.atomic_table.specs.Seated.{TableId}
use Rattle.crossbeam_queue.specs.Fifo.{Held}
use Rattle.handoff.specs.declared.rule.Hands.{Hands}

abbrev pub hands : Bool → Bool → List ℕ → List ℕ → List ℕ → List ℕ → ℕ → Hands
hands a b offered taken told_offered told_taken refusals =
    record { gives = a; takes = b; offered = offered; taken = taken; told_offered = told_offered; told_taken = told_taken; refusals = refusals }

-- one call more that the queue refused
abbrev pub counted : Hands → Hands
counted v = hands v.gives v.takes v.offered v.taken v.told_offered v.told_taken (v.refusals + 1)

-- one list is what another begins with
abbrev pub IsFront : (front whole : List ℕ) → Type 0
IsFront front whole = (behind : List ℕ) × (front ++ behind ≡ whole)

-- one of the two is a front of the other
abbrev pub AreFronts : (one other : List ℕ) → Type 0
AreFronts one other = IsFront one other ⊎ IsFront other one

-- of two fronts of one list, the one that has more of it
abbrev pub longer : List ℕ → List ℕ → List ℕ
longer one other = if nat_lt (length one) (length other) then other else one

-- what a pass has been told is so; that which may offer has what was offered, and that which may take what was taken
pub record Fits (giver taker : ℕ) (offered taken : List ℕ) (port : ℕ) (v : Hands) : Type 0 where
  pub gives : v.gives ≡ true → (port ≡ giver) × (v.offered ≡ offered)
  pub takes : v.takes ≡ true → (port ≡ taker) × (v.taken ≡ taken)
  pub told_offered : IsFront v.told_offered offered
  pub told_taken : IsFront v.told_taken taken

abbrev pub Relayed : {L : Type 0} → (L → ℕ) → List L → List Hands → Type 0
Relayed line items views = (giver : ℕ) × (taker : ℕ) × (offered : List ℕ) × (taken : List ℕ) × (offered ≡ taken ++ map line items)
    × ((port : ℕ) (v : Hands) → get_elem? views port ≡ some v → Fits giver taker offered taken port v)

-- the queue, the numbers of the lines that were offered or taken by this right, those of the first that it was told were taken or offered by the other one, and
-- how many of its calls the queue refused
pub record Rights : Type 0 where
  pub queue : TableId
  pub lines : List ℕ
  pub told : List ℕ
  pub refusals : ℕ

abbrev pub new_rights : TableId → Rights
new_rights queue = record { queue = queue; lines = []; told = []; refusals = 0 }

-- the queue, and the numbers of the first lines that were offered at it, and of the first that were taken
pub record Noted : Type 0 where
  pub queue : TableId
  pub offered : List ℕ
  pub taken : List ℕ

-- of the lines offered, these were not taken
abbrev pub Untaken : {L : Type 0} → (L → ℕ) → List ℕ → List L → Type 0
Untaken line offered items = (taken : List ℕ) × (offered ≡ taken ++ map line items)

-- there are 128 lines whose numbers are the last of those offered: so at least 128 were offered
abbrev pub WasFull : {L : Type 0} → (L → ℕ) → List ℕ → Type 0
WasFull line offered = Held 128 (Untaken line offered)

-- the lines that are held are the last of those offered, and behind those that are told to be taken
abbrev pub Holds : {L : Type 0} → (L → ℕ) → Hands → List L → Type 0
Holds line v items = Untaken line v.offered items × (length v.told_taken + length items ≤ length v.offered)

-- what is told to be offered is a front of what was taken and what is held
abbrev pub Leaves : {L : Type 0} → (L → ℕ) → Hands → List L → Type 0
Leaves line v items = IsFront v.told_offered (v.taken ++ map line items)

-- what was offered is what was taken, in order and each once, and then what the queue holds
abbrev pub IsInOrder : {L : Type 0} → (L → ℕ) → List ℕ → List ℕ → List L → Type 0
IsInOrder line offered taken items = offered ≡ taken ++ map line items

abbrev pub itself : ℕ → ℕ
itself n = n

-- lines 1 and 2 were offered
abbrev pub giver_of_two : Hands
giver_of_two = hands true false (1 ∷ 2 ∷ []) [] [] [] 0

abbrev pub taker_of : List ℕ → Hands
taker_of taken = hands false true [] taken [] [] 0

-- the queue holds 2: line 1 was not taken twice
abbrev pub twice_is_not : Type 0
twice_is_not = Relayed itself (2 ∷ []) (giver_of_two ∷ taker_of (1 ∷ 1 ∷ []) ∷ []) → ⊥

-- the queue holds 1: line 2 was not taken before line 1
abbrev pub overtaken_is_not : Type 0
overtaken_is_not = Relayed itself (1 ∷ []) (giver_of_two ∷ taker_of (2 ∷ []) ∷ []) → ⊥

-- the queue holds nothing, and one line was taken: the taker was not told of two
abbrev pub told_of_more_is_not : Type 0
told_of_more_is_not = Relayed itself [] (hands false true [] (1 ∷ []) (1 ∷ 2 ∷ []) [] 0 ∷ []) → ⊥

-- the queue holds the one line that was offered: the giver was not told that it was taken
abbrev pub held_is_not_taken : Type 0
held_is_not_taken = Relayed itself (1 ∷ []) (hands true false (1 ∷ []) [] [] (1 ∷ []) 0 ∷ []) → ⊥
