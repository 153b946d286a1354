-- What is after a stage, up to the exit or to a later stage.
use Rattle.std.proofs.Common.{◌≡◌, ℕ, zero, suc, List, [], ◌∷◌, ◌++◌, ap, ◌∙◌, sym, refl}
use Rattle.std.specs.Prelude.{Some, slice_get, slice_set, drop}
use Rattle.std.proofs.lemmas.List.{append-nil}
use Rattle.filter_chain.specs.declared.stage.Stage.{Stage}
use Rattle.filter_chain.specs.declared.item.ChainItem.{ChainItem}
use Rattle.filter_chain.specs.declared.item.PassOutcome.{PassOutcome}
use Rattle.filter_chain.specs.Chains.{without_hold, bypassed_stage}
use Rattle.filter_chain.specs.Flow.{left_in}
use Rattle.law_chain.specs.PassThrough.{bare_all, bare_held, bare_at, bare_in, Thinner}
use Rattle.law_chain.specs.Sound.{AreOpen, IsCut}
use Rattle.law_chain.proofs.Targets.{comes_in, goes_in}
use Rattle.law_chain.proofs.Order.{comes_ends, thin_both, thin_here}
use Rattle.law_asked.specs.Asked.{where_same, Gathered}
use Rattle.law_asked.proofs.Gathering.{gather_here, gather_same, gather_both, gather_then, gather_at, of_thin, where_gathers}
use Rattle.law_asked.proofs.Inside.{fore, stops_at, fore_comes, fore_goes, in_goes, Asks, in_asks, fore_asks}
use Rattle.law_asked.proofs.Seen.{Tag, still, lost, came, goes, opens, asks, gone_with, asked_with, Seen, seen_still, seen_lost, seen_came, seen_goes, seen_opens, seen_asks}

-- What is inside a chain up to an end of it; what goes out there where these items leave the chain, and where the stage at a place is asked of an item; whether
-- what waits at a place goes out there by asks alone; and what holds of the chain.
pub record End : Type 1 where
  pub inside : List Stage → List ChainItem
  pub out : List ChainItem → List ChainItem
  pub told : ℕ → ChainItem → List ChainItem
  pub Is : ℕ → Type 0
  pub Holds : List Stage → Type 0
  pub silent : out [] ≡ []
  pub comes : (items : List ChainItem) (ss : List Stage) → AreOpen ss → Holds ss → Gathered (inside ss ++ bare_all items) (out (bare_all (left_in (comes_in items ss).0)) ++ inside (comes_in items ss).1)
  pub goes_out : (items : List ChainItem) (ss : List Stage) (j : ℕ) (s t : Stage) → slice_get ss j ≡ Some s → AreOpen ss → Holds ss → (Is j → t.waiting ≡ s.waiting)
      → Thinner (bare_at s) (bare_all items ++ bare_at t) → Gathered (inside ss) (out (bare_all (left_in (goes_in j t items ss).0)) ++ inside (goes_in j t items ss).1)
  pub is_asked : (item : ChainItem) (s t : Stage) → Asks item s t → (ss : List Stage) (j : ℕ) → slice_get ss j ≡ Some s → Gathered (inside ss) (told j item ++ inside (slice_set ss j t))

-- the exit
abbrev pub exit : End
exit = record {
  inside = bare_in;
  out = λ items. items;
  told = λ j item. [];
  Is = λ j. ⊥;
  Holds = λ ss. Unit {0};
  silent = refl;
  comes = λ items ss all holds. of_thin (comes_ends items ss all);
  goes_out = λ items ss j s t at all holds waits thin. in_goes items ss j s t at all thin;
  is_asked = λ item s t asked ss j at. in_asks asked ss j at;
}

-- where the stage at a place is asked
abbrev pub stage_at : ℕ → End
stage_at m = record {
  inside = fore m;
  out = λ items. [];
  told = λ j item. where_same m j (item ∷ []);
  Is = λ j. j ≡ m;
  Holds = λ ss. IsCut (suc m) ss;
  silent = refl;
  comes = λ items ss all holds. fore_comes m items ss all holds;
  goes_out = λ items ss j s t at all holds waits thin. fore_goes m items ss j s t at all holds waits thin;
  is_asked = λ item s t asked ss j at. fore_asks asked m ss j at;
}

-- ---- what is after the stage at a place

-- the place of the one so many after it
abbrev pub place : ℕ → ℕ → ℕ
place zero m = suc m
place (suc k) m = suc (place k m)

abbrev pub told_behind : End → ℕ → ℕ → ChainItem → List ChainItem
told_behind e zero zero item = []
told_behind e zero (suc j) item = e.told j item
told_behind e (suc k) zero item = []
told_behind e (suc k) (suc j) item = told_behind e k j item

abbrev pub HoldsBehind : End → ℕ → List Stage → Type 0
HoldsBehind e k ss = e.Holds (drop (suc k) ss)

come_behind : (e : End) (k : ℕ) (items : List ChainItem) (ss : List Stage) → IsCut (suc k) ss
    → Gathered (e.inside (drop (suc k) ss)) (e.out (bare_all (left_in (comes_in items ss).0)) ++ e.inside (drop (suc k) (comes_in items ss).1))
come_behind e k items ss cut =
    let stops = stops_at k items ss cut in
    gather_same (e.inside (drop (suc k) ss)) (e.out (bare_all (left_in (comes_in items ss).0)) ++ e.inside (drop (suc k) (comes_in items ss).1))
    (sym (ap (λ (p : PassOutcome). e.out (bare_all (left_in p)) ++ e.inside (drop (suc k) (comes_in items ss).1)) stops.0
    ∙ (ap (λ (l : List ChainItem). l ++ e.inside (drop (suc k) (comes_in items ss).1)) e.silent ∙ ap e.inside stops.1)))

go_behind : (e : End) (k : ℕ) (items : List ChainItem) (ss : List Stage) (j : ℕ) (s t : Stage) → slice_get ss j ≡ Some s → AreOpen ss → IsCut (suc k) ss → HoldsBehind e k ss
    → ((i : ℕ) → e.Is i → j ≡ place k i → t.waiting ≡ s.waiting) → Thinner (bare_at s) (bare_all items ++ bare_at t)
    → Gathered (e.inside (drop (suc k) ss) ++ where_same k j (bare_all items)) (e.out (bare_all (left_in (goes_in j t items ss).0)) ++ e.inside (drop (suc k) (goes_in j t items ss).1))
go_behind e k items [] j s t at all cut holds waits thin = absurd (cc at)
go_behind e zero items (x ∷ xs) zero s t at all cut holds waits thin = e.comes items xs all.1 holds
go_behind e zero items (x ∷ xs) (suc j) s t at all cut holds waits thin =
    gather_at (e.inside xs ++ []) (e.inside xs) (e.out (bare_all (left_in (goes_in j t items xs).0)) ++ e.inside (goes_in j t items xs).1)
    (e.out (bare_all (left_in (goes_in j t items xs).0)) ++ e.inside (goes_in j t items xs).1) (append-nil (e.inside xs)) refl
    (e.goes_out items xs j s t at all.1 holds (λ is. waits j is refl) thin)
go_behind e (suc k) items (x ∷ xs) zero s t at all cut holds waits thin =
    gather_at (e.inside (drop (suc k) xs) ++ []) (e.inside (drop (suc k) xs)) (e.out (bare_all (left_in (comes_in items xs).0)) ++ e.inside (drop (suc k) (comes_in items xs).1))
    (e.out (bare_all (left_in (comes_in items xs).0)) ++ e.inside (drop (suc k) (comes_in items xs).1)) (append-nil (e.inside (drop (suc k) xs))) refl
    (come_behind e k items xs cut)
go_behind e (suc k) items (x ∷ xs) (suc j) s t at all cut holds waits thin =
    go_behind e k items xs j s t at all.1 cut holds (λ i is same. waits i is (ap suc same)) thin

asks_behind : (e : End) (k : ℕ) (item : ChainItem) (s t : Stage) → Asks item s t → (ss : List Stage) (j : ℕ) → slice_get ss j ≡ Some s
    → Gathered (e.inside (drop (suc k) ss)) (told_behind e k j item ++ e.inside (drop (suc k) (slice_set ss j t)))
asks_behind e k item s t asked [] j at = absurd (cc at)
asks_behind e zero item s t asked (x ∷ xs) zero at = gather_here (e.inside xs)
asks_behind e zero item s t asked (x ∷ xs) (suc j) at = e.is_asked item s t asked xs j at
asks_behind e (suc k) item s t asked (x ∷ xs) zero at = gather_here (e.inside (drop (suc k) xs))
asks_behind e (suc k) item s t asked (x ∷ xs) (suc j) at = asks_behind e k item s t asked xs j at

-- what goes out at the end
abbrev pub outs : End → ℕ → Tag → List ChainItem → List ChainItem
outs e k still left = e.out left
outs e k (lost end) left = e.out left
outs e k (came items) left = e.out left
outs e k (goes j s) left = e.out left
outs e k (opens j) left = e.out left
outs e k (asks j told) left = told_behind e k j told

pub lets_thin : (s : Stage) (items : List ChainItem) → Thinner (bare_held s.held) (bare_all items) → Thinner (bare_at s) (bare_all items ++ bare_at (without_hold s))
lets_thin s items thin = thin_both thin (thin_here (bare_all s.waiting))

-- no stage that is let through is one of those
abbrev pub AreKeptAt : End → ℕ → (ℕ → Type 0) → Type 0
AreKeptAt e k kept = (i : ℕ) → e.Is i → kept (place k i)

still_behind : (e : End) (k : ℕ) (ss : List Stage) → Gathered (e.inside (drop (suc k) ss) ++ []) (e.out [] ++ e.inside (drop (suc k) ss))
still_behind e k ss =
    gather_same (e.inside (drop (suc k) ss) ++ []) (e.out [] ++ e.inside (drop (suc k) ss))
    (append-nil (e.inside (drop (suc k) ss)) ∙ sym (ap (λ (l : List ChainItem). l ++ e.inside (drop (suc k) ss)) e.silent))

where_empty : (k j : ℕ) (a : List ChainItem) → (j ≡ k → ⊥) → where_same k j a ≡ []
where_empty zero zero a apart = absurd (apart refl)
where_empty zero (suc j) a apart = refl
where_empty (suc k) zero a apart = refl
where_empty (suc k) (suc j) a apart = where_empty k j a (λ is. apart (ap suc is))

pub seen_behind : (e : End) (k : ℕ) {kept : ℕ → Type 0} {ss : List Stage} {tag : Tag} {left : List ChainItem} {after : List Stage} → Seen kept ss tag left after → kept k → AreKeptAt e k kept
    → AreOpen ss → IsCut (suc k) ss → HoldsBehind e k ss → Gathered (e.inside (drop (suc k) ss) ++ gone_with k tag) (outs e k tag left ++ e.inside (drop (suc k) after))
seen_behind e k {kept} {ss} seen_still here there all cut holds = still_behind e k ss
seen_behind e k {kept} {ss} (seen_lost end) here there all cut holds = still_behind e k ss
seen_behind e k {kept} {ss} (seen_came items) here there all cut holds =
    let r : PassOutcome × List Stage = comes_in items ss in
    gather_at (e.inside (drop (suc k) ss) ++ []) (e.inside (drop (suc k) ss)) (e.out (bare_all (left_in r.0)) ++ e.inside (drop (suc k) r.1))
    (e.out (bare_all (left_in r.0)) ++ e.inside (drop (suc k) r.1)) (append-nil (e.inside (drop (suc k) ss))) refl (come_behind e k items ss cut)
seen_behind e k {kept} {ss} (seen_goes j s items at thin) here there all cut holds =
    gather_then (gather_both (gather_here (e.inside (drop (suc k) ss))) (where_gathers k j (of_thin thin)))
    (go_behind e k items ss j s (without_hold s) at all cut holds (λ i is same. refl) (lets_thin s items thin))
seen_behind e k {kept} {ss} (seen_opens j s items at thin apart) here there all cut holds =
    let r : PassOutcome × List Stage = goes_in j (bypassed_stage s) items ss in
    gather_at (e.inside (drop (suc k) ss) ++ []) (e.inside (drop (suc k) ss) ++ where_same k j (bare_all items)) (e.out (bare_all (left_in r.0)) ++ e.inside (drop (suc k) r.1))
    (e.out (bare_all (left_in r.0)) ++ e.inside (drop (suc k) r.1)) (ap (λ (l : List ChainItem). e.inside (drop (suc k) ss) ++ l) (sym (where_empty k j (bare_all items) (apart k here)))) refl
    (go_behind e k items ss j s (bypassed_stage s) at all cut holds (λ i is same. absurd (apart (place k i) (there i is) same)) thin)
seen_behind e k {kept} {ss} (seen_asks j s t told at asked) here there all cut holds =
    let out : List ChainItem = told_behind e k j told ++ e.inside (drop (suc k) (slice_set ss j t)) in
    gather_at (e.inside (drop (suc k) ss) ++ []) (e.inside (drop (suc k) ss)) out out (append-nil (e.inside (drop (suc k) ss))) refl (asks_behind e k told s t asked ss j at)

-- ---- at the two ends

pub exit_outs : (k : ℕ) {kept : ℕ → Type 0} {ss : List Stage} {tag : Tag} {left : List ChainItem} {after : List Stage} → Seen kept ss tag left after → outs exit k tag left ≡ left
exit_outs k seen_still = refl
exit_outs k (seen_lost end) = refl
exit_outs k (seen_came items) = refl
exit_outs k (seen_goes j s items at thin) = refl
exit_outs k (seen_opens j s items at thin apart) = refl
exit_outs k (seen_asks j s t told at asked) = no_told k j
  where
    no_told : (k j : ℕ) → told_behind exit k j told ≡ []
    no_told zero zero = refl
    no_told zero (suc j) = refl
    no_told (suc k) zero = refl
    no_told (suc k) (suc j) = no_told k j

told_at : (m k j : ℕ) (told : ChainItem) → told_behind (stage_at m) k j told ≡ where_same (place k m) j (told ∷ [])
told_at m zero zero told = refl
told_at m zero (suc j) told = refl
told_at m (suc k) zero told = refl
told_at m (suc k) (suc j) told = told_at m k j told

pub stage_outs : (m k : ℕ) (tag : Tag) (left : List ChainItem) → outs (stage_at m) k tag left ≡ asked_with (place k m) tag
stage_outs m k still left = refl
stage_outs m k (lost end) left = refl
stage_outs m k (came items) left = refl
stage_outs m k (goes j s) left = refl
stage_outs m k (opens j) left = refl
stage_outs m k (asks j told) left = told_at m k j told
