-- What an act does to the stages of a chain.
use Rattle.std.proofs.Common.{◌≡◌, ℕ, zero, suc, ◌+◌, ◌==◌, Bool, true, false, ◌&&◌, List, [], ◌∷◌, ◌++◌, length, ap, ◌∙◌, sym, refl, subst}
use Rattle.std.specs.Prelude.{Option, None, Some, slice_get, slice_set, nat_le}
use Rattle.contexts.specs.declared.parts.Contexts.{Contexts}
use Rattle.contexts.specs.Stages.{with_buffered}
use Rattle.filter_chain.specs.declared.stage.Stage.{Stage}
use Rattle.filter_chain.specs.declared.item.Ask.{Ask}
use Rattle.filter_chain.specs.declared.item.AskKind.TheVariants as kinds
use Rattle.filter_chain.specs.declared.item.Asking.{Asking}
use Rattle.filter_chain.specs.declared.item.Asking.TheVariants.{Over}
use Rattle.filter_chain.specs.declared.item.Held.{Held}
use Rattle.filter_chain.specs.declared.item.Held.TheVariants as held
use Rattle.filter_chain.specs.declared.item.ChainItem.{ChainItem}
use Rattle.filter_chain.specs.declared.item.ChainItem.TheVariants.{Head, Piece, Trailers}
use Rattle.filter_chain.specs.declared.item.PassOutcome.{PassOutcome}
use Rattle.filter_chain.specs.declared.item.PassOutcome.TheVariants as passed
use Rattle.filter_chain.specs.Items.{size, held_items, holds_bytes, is_free}
use Rattle.filter_chain.specs.Chains.{limit, target, append_to, accepts, put, without_hold, bypassed_stage, bytes_at, bytes_held, without_held, unless_over, continued_at, continued, let_through_at, let_through, is_any, ready, asked, asked_at, ask_stage, ask_item, with_stage, ask_of}
use Rattle.filter_chain.specs.Flow.{left_in}
use Rattle.filter_chain.proofs.Picks.{ready_picks}
use Rattle.law_chain.specs.Acts.{Act, comes, calls, answers, resumes, lets, turns, Standing, done_by, item_in, called, answered, after_return}
use Rattle.law_chain.specs.PassThrough.{bare, bare_all, bare_held, bare_at, Thinner}
use Rattle.law_chain.proofs.Targets.{by_bool, comes_in, goes_in, comes_is, goes_is}
use Rattle.law_chain.proofs.Order.{thin_here, thin_both, held_thin, ends_more}
use Rattle.std.proofs.lemmas.List.{append-nil}
use Rattle.law_asked.specs.Asked.{where_same, asked_in, asked_by, held_by, unless_too_much, gone_at, gone_behind, gone_by, IsKept, Gathered, joins, drops}
use Rattle.law_asked.proofs.Gathering.{gather_here, where_none}
use Rattle.law_asked.proofs.Inside as inside

-- nothing; a piece comes that is too much; items come; the stage at a place lets go what it holds; it is let through; it is asked
pub data Tag : Type 0 where
  still : Tag
  lost : Bool → Tag
  came : List ChainItem → Tag
  goes : ℕ → Stage → Tag
  opens : ℕ → Tag
  asks : ℕ → ChainItem → Tag

abbrev pub came_by : Tag → List ChainItem
came_by still = []
came_by (lost end) = Piece [] end ∷ []
came_by (came items) = bare_all items
came_by (goes j s) = []
came_by (opens j) = []
came_by (asks j told) = []

abbrev pub gone_with : ℕ → Tag → List ChainItem
gone_with k still = []
gone_with k (lost end) = []
gone_with k (came items) = []
gone_with k (goes j s) = where_same k j (bare_held s.held)
gone_with k (opens j) = []
gone_with k (asks j told) = []

abbrev pub asked_with : ℕ → Tag → List ChainItem
asked_with k still = []
asked_with k (lost end) = []
asked_with k (came items) = []
asked_with k (goes j s) = []
asked_with k (opens j) = []
asked_with k (asks j told) = where_same k j (told ∷ [])

-- it does that; what left is this, and the stages are these then
pub data Seen (kept : ℕ → Type 0) (ss : List Stage) : Tag → List ChainItem → List Stage → Type 0 where
  seen_still : Seen kept ss still [] ss
  seen_lost : (end : Bool) → Seen kept ss (lost end) [] ss
  seen_came : (items : List ChainItem) → Seen kept ss (came items) (bare_all (left_in (comes_in items ss).0)) (comes_in items ss).1
  seen_goes : (j : ℕ) (s : Stage) (items : List ChainItem) → slice_get ss j ≡ Some s → Thinner (bare_held s.held) (bare_all items)
      → Seen kept ss (goes j s) (bare_all (left_in (goes_in j (without_hold s) items ss).0)) (goes_in j (without_hold s) items ss).1
  seen_opens : (j : ℕ) (s : Stage) (items : List ChainItem) → slice_get ss j ≡ Some s → Thinner (bare_at s) (bare_all items ++ bare_at (bypassed_stage s)) → ((k : ℕ) → kept k → j ≡ k → ⊥)
      → Seen kept ss (opens j) (bare_all (left_in (goes_in j (bypassed_stage s) items ss).0)) (goes_in j (bypassed_stage s) items ss).1
  seen_asks : (j : ℕ) (s t : Stage) (told : ChainItem) → slice_get ss j ≡ Some s → inside.Asks told s t → Seen kept ss (asks j told) [] (slice_set ss j t)

pub record Did (kept : ℕ → Type 0) (ss : List Stage) (coming : List ChainItem) (gone asked_ : ℕ → List ChainItem) (left : List ChainItem) (after : List Stage) : Type 0 where
  pub tag : Tag
  pub seen : Seen kept ss tag left after
  pub comes_is : coming ≡ came_by tag
  pub gone_is : (k : ℕ) → gone k ≡ gone_with k tag
  pub asked_is : (k : ℕ) → asked_ k ≡ asked_with k tag

abbrev pub nothing_of : ℕ → List ChainItem
nothing_of k = []

did_nothing : (kept : ℕ → Type 0) (ss : List Stage) → Did kept ss [] nothing_of nothing_of [] ss
did_nothing kept ss = record { tag = still; seen = seen_still; comes_is = refl; gone_is = λ k. refl; asked_is = λ k. refl }

-- ---- an item comes

abbrev pub PutDid : (kept : ℕ → Type 0) (ss : List Stage) → ChainItem → PassOutcome × List Stage → Type 0
PutDid kept ss item r = Did kept ss (bare item ∷ []) nothing_of nothing_of (bare_all (left_in r.0)) r.1

put_there : (kept : ℕ → Type 0) (ss : List Stage) (item : ChainItem) → PutDid kept ss item (append_to (target 0 ss) (item ∷ []) ss (slice_get ss (target 0 ss)))
put_there kept ss item =
    subst (PutDid kept ss item) (sym (comes_is (item ∷ []) ss))
    (record { tag = came (item ∷ []); seen = seen_came (item ∷ []); comes_is = refl; gone_is = λ k. refl; asked_is = λ k. refl })

put_light : (kept : ℕ → Type 0) (h : Contexts) (ss : List Stage) (item : ChainItem) → size (item ∷ []) ≡ 0 → PutDid kept ss item (put h item ss)
put_light kept h ss item light =
    by_bool (PutDid kept ss item) (accepts h (size (item ∷ [])) (slice_get ss (target 0 ss))) (append_to (target 0 ss) (item ∷ []) ss (slice_get ss (target 0 ss))) (passed.Over, ss)
    (λ is. put_there kept ss item) (λ is. absurd (fits_none (slice_get ss (target 0 ss)) is))
  where
    fits_none : (o : Option Stage) → accepts h (size (item ∷ [])) o ≡ false → ⊥
    fits_none None is = cc is
    fits_none (Some s) is = cc (ap (λ (n : ℕ). accepts h n (Some s)) (sym light) ∙ is)

put_did : (kept : ℕ → Type 0) (h : Contexts) (ss : List Stage) (item : ChainItem) → PutDid kept ss item (put h item ss)
put_did kept h ss (Head end) = put_light kept h ss (Head end) refl
put_did kept h ss (Piece bytes end) =
    by_bool (PutDid kept ss (Piece bytes end)) (accepts h (size (Piece bytes end ∷ [])) (slice_get ss (target 0 ss)))
    (append_to (target 0 ss) (Piece bytes end ∷ []) ss (slice_get ss (target 0 ss))) (passed.Over, ss) (λ is. put_there kept ss (Piece bytes end))
    (λ is. record { tag = lost end; seen = seen_lost end; comes_is = refl; gone_is = λ k. refl; asked_is = λ k. refl })
put_did kept h ss Trailers = put_light kept h ss Trailers refl

-- ---- what a stage holds goes on

onto_left : (to : ℕ) (items : List ChainItem) (ss : List Stage) (o : Option Stage) → (out : List ChainItem) × ((append_to to items ss o).0 ≡ passed.Left out)
onto_left to items ss None = (items, refl)
onto_left to items ss (Some s) = ([], refl)

over_is : (b c : Contexts) (r : PassOutcome × List Stage) (out : List ChainItem) → r.0 ≡ passed.Left out → unless_over b c r ≡ (r.0, r.1, c)
over_is b c (passed.Over, ss) out is = absurd (cc is)
over_is b c (passed.Left items, ss) out is = refl

abbrev pub WentDid : (kept : ℕ → Type 0) (ss : List Stage) (j : ℕ) → Option Stage → PassOutcome × List Stage × Contexts → Type 0
WentDid kept ss j o r = Did kept ss [] (λ k. gone_at k j r.0 o) nothing_of (bare_all (left_in r.0)) r.1

went_there : (kept : ℕ → Type 0) (b c : Contexts) (ss : List Stage) (j : ℕ) (s : Stage) (items : List ChainItem) → slice_get ss j ≡ Some s → Thinner (bare_held s.held) (bare_all items)
    → WentDid kept ss j (Some s) (unless_over b c (append_to (target (j + 1) ss) items (slice_set ss j (without_hold s)) (slice_get ss (target (j + 1) ss))))
went_there kept b c ss j s items at thin =
    let r : PassOutcome × List Stage = append_to (target (j + 1) ss) items (slice_set ss j (without_hold s)) (slice_get ss (target (j + 1) ss)) in
    let g : PassOutcome × List Stage = goes_in j (without_hold s) items ss in
    let left = onto_left (target (j + 1) ss) items (slice_set ss j (without_hold s)) (slice_get ss (target (j + 1) ss)) in
    let same : r ≡ g = goes_is items ss j s (without_hold s) at in
    let is : g.0 ≡ passed.Left left.0 = ap (λ (q : PassOutcome × List Stage). q.0) (sym same) ∙ left.1 in
    subst (λ (q : PassOutcome × List Stage × Contexts). WentDid kept ss j (Some s) q) (sym (over_is b c r left.0 left.1))
    (subst (λ (q : PassOutcome × List Stage). WentDid kept ss j (Some s) (q.0, q.1, c)) (sym same)
    (record {
      tag = goes j s;
      seen = seen_goes j s items at thin;
      comes_is = refl;
      gone_is = λ k. ap (λ (p : PassOutcome). gone_at k j p (Some s)) is;
      asked_is = λ k. refl;
    }))

went_not : (kept : ℕ → Type 0) (ss : List Stage) (j : ℕ) (o : Option Stage) (p : PassOutcome) (h : Contexts) → left_in p ≡ [] → unless_too_much p (held_by o) ≡ [] → WentDid kept ss j o (p, ss, h)
went_not kept ss j o p h none_left none_gone =
    subst (λ (l : List ChainItem). Did kept ss [] (λ k. gone_at k j p o) nothing_of l ss) (sym (ap bare_all none_left))
    (record { tag = still; seen = seen_still; comes_is = refl; gone_is = λ k. ap (where_same k j) none_gone ∙ where_none k j; asked_is = λ k. refl })

went_did : (kept : ℕ → Type 0) (h : Contexts) (j : ℕ) (ss : List Stage) → WentDid kept ss j (slice_get ss j) (continued h j ss)
went_did kept h j ss = by_stage (slice_get ss j) refl
  where
    by_stage : (o : Option Stage) → slice_get ss j ≡ o → WentDid kept ss j o (continued_at h j ss o)
    by_stage None at = went_not kept ss j None (passed.Left []) h refl refl
    by_stage (Some s) at =
        let items : List ChainItem = held_items s.held (bytes_held h s) in
        by_bool (λ (r : PassOutcome × List Stage). WentDid kept ss j (Some s) (unless_over h (without_held h s) r))
        (accepts h (length (bytes_held h s)) (slice_get ss (target (j + 1) ss)))
        (append_to (target (j + 1) ss) items (slice_set ss j (without_hold s)) (slice_get ss (target (j + 1) ss))) (passed.Over, ss)
        (λ is. went_there kept h (without_held h s) ss j s items at (held_thin s.held (bytes_held h s)))
        (λ is. went_not kept ss j (Some s) passed.Over h refl refl)

-- ---- a stage is let through

abbrev pub LetDid : (kept : ℕ → Type 0) (ss : List Stage) → PassOutcome × List Stage × Contexts → Type 0
LetDid kept ss r = Did kept ss [] nothing_of nothing_of (bare_all (left_in r.0)) r.1

let_there : (kept : ℕ → Type 0) (b c : Contexts) (ss : List Stage) (j : ℕ) (s : Stage) (bytes : List ℕ) → slice_get ss j ≡ Some s → ((k : ℕ) → kept k → j ≡ k → ⊥)
    → LetDid kept ss (unless_over b c (append_to (target (j + 1) ss) (held_items s.held bytes ++ s.waiting) (slice_set ss j (bypassed_stage s)) (slice_get ss (target (j + 1) ss))))
let_there kept b c ss j s bytes at apart =
    let items : List ChainItem = held_items s.held bytes ++ s.waiting in
    let r : PassOutcome × List Stage = append_to (target (j + 1) ss) items (slice_set ss j (bypassed_stage s)) (slice_get ss (target (j + 1) ss)) in
    let g : PassOutcome × List Stage = goes_in j (bypassed_stage s) items ss in
    let left = onto_left (target (j + 1) ss) items (slice_set ss j (bypassed_stage s)) (slice_get ss (target (j + 1) ss)) in
    let same : r ≡ g = goes_is items ss j s (bypassed_stage s) at in
    subst (LetDid kept ss) (sym (over_is b c r left.0 left.1))
    (subst (λ (q : PassOutcome × List Stage). LetDid kept ss (q.0, q.1, c)) (sym same)
    (record {
      tag = opens j;
      seen = seen_opens j s items at
          (subst (Thinner (bare_at s)) (sym (append-nil (bare_all items) ∙ ends_more (held_items s.held bytes) s.waiting)) (thin_both (held_thin s.held bytes) (thin_here (bare_all s.waiting)))) apart;
      comes_is = refl;
      gone_is = λ k. refl;
      asked_is = λ k. refl;
    }))

let_did : (kept : ℕ → Type 0) (h : Contexts) (j : ℕ) (ss : List Stage) → ((k : ℕ) → kept k → j ≡ k → ⊥) → LetDid kept ss (let_through h j ss)
let_did kept h j ss apart = by_stage (slice_get ss j) refl
  where
    by_stage : (o : Option Stage) → slice_get ss j ≡ o → LetDid kept ss (let_through_at h j ss o)
    by_stage None at = did_nothing kept ss
    by_stage (Some s) at =
        by_bool (λ (r : PassOutcome × List Stage). LetDid kept ss (unless_over h (without_held h s) r))
        (accepts h (length (bytes_held h s) + size s.waiting) (slice_get ss (target (j + 1) ss)))
        (append_to (target (j + 1) ss) (held_items s.held (bytes_held h s) ++ s.waiting) (slice_set ss j (bypassed_stage s)) (slice_get ss (target (j + 1) ss))) (passed.Over, ss)
        (λ is. let_there kept h (without_held h s) ss j s (bytes_held h s) at apart) (λ is. did_nothing kept ss)

-- ---- a stage is asked

abbrev pub AskDid : (kept : ℕ → Type 0) (ss : List Stage) (w : Standing) (after : Contexts) → Asking × List Stage × Contexts → Type 0
AskDid kept ss w after r = Did kept ss [] nothing_of (λ k. asked_in k r) (bare_all (called after w r).0) (called after w r).1.stages

-- what it held, where it may be asked, and the item
head_holds : (h : Held) (end : Bool) → is_free h ≡ true → Gathered (bare_held h ++ Head end ∷ []) (Head end ∷ [])
head_holds held.Nothing end free = gather_here (Head end ∷ [])
head_holds (held.Head e) end free = absurd (cc free)
head_holds (held.Body e) end free = drops (gather_here (Head end ∷ []))
head_holds (held.Trailers b) end free = absurd (cc free)

piece_holds : (h : Held) (end : Bool) → is_free h ≡ true → Gathered (bare_held h ++ Piece [] end ∷ []) (Piece [] end ∷ [])
piece_holds held.Nothing end free = gather_here (Piece [] end ∷ [])
piece_holds (held.Head e) end free = absurd (cc free)
piece_holds (held.Body e) end free = drops (gather_here (Piece [] end ∷ []))
piece_holds (held.Trailers b) end free = absurd (cc free)

trailers_hold : (h : Held) → is_free h ≡ true → Gathered (bare_held h ++ Trailers ∷ []) (bare_held (held.Trailers (holds_bytes h)))
trailers_hold held.Nothing free = gather_here (Trailers ∷ [])
trailers_hold (held.Head e) free = absurd (cc free)
trailers_hold (held.Body e) free = joins (gather_here (Trailers ∷ []))
trailers_hold (held.Trailers b) free = absurd (cc free)

ask_there : (kept : ℕ → Type 0) (w : Standing) (after : Contexts) (h : Contexts) (j : ℕ) (s : Stage) (items : List ChainItem) → slice_get w.stages j ≡ Some s → is_free s.held ≡ true
    → s.waiting ≡ items → AskDid kept w.stages w after (with_stage j w.stages (ask_item h j s items))
ask_there kept w after h j s [] at free waits = did_nothing kept w.stages
ask_there kept w after h j s (Head end ∷ later) at free waits = record {
  tag = asks j (Head end);
  seen = seen_asks j s (record s { waiting = later; held = held.Head end }) (Head end) at
      (record { item = Head end; later = later; waits = waits; is = refl; rest = refl; holds = head_holds s.held end free; passes = refl });
  comes_is = refl;
  gone_is = λ k. refl;
  asked_is = λ k. refl;
}
ask_there kept w after h j s (Piece bytes end ∷ later) at free waits =
    by_bool (λ (r : Asking × Stage × Contexts). AskDid kept w.stages w after (with_stage j w.stages r)) (nat_le (length (bytes_at h s) + length bytes) limit)
    (ask_of j kinds.Piece (length (bytes_at h s) + length bytes) end, record s { waiting = later; held = held.Body end }, with_buffered h s.vm s.context s.response bytes end) (Over j, s, h)
    (λ is. record {
      tag = asks j (Piece [] end);
      seen = seen_asks j s (record s { waiting = later; held = held.Body end }) (Piece [] end) at
          (record { item = Piece bytes end; later = later; waits = waits; is = refl; rest = refl; holds = piece_holds s.held end free; passes = refl });
      comes_is = refl;
      gone_is = λ k. refl;
      asked_is = λ k. refl;
    })
    (λ is. did_nothing kept w.stages)
ask_there kept w after h j s (Trailers ∷ later) at free waits = record {
  tag = asks j Trailers;
  seen = seen_asks j s (record s { waiting = later; held = held.Trailers (holds_bytes s.held) }) Trailers at
      (record { item = Trailers; later = later; waits = waits; is = refl; rest = refl; holds = trailers_hold s.held free; passes = refl });
  comes_is = refl;
  gone_is = λ k. refl;
  asked_is = λ k. refl;
}

free_of : (a b : Bool) → (a && b) ≡ true → b ≡ true
free_of true b is = is
free_of false b is = absurd (cc)

ask_did : (kept : ℕ → Type 0) (w : Standing) (after : Contexts) → AskDid kept w.stages w after (asked w.contexts w.stages)
ask_did kept w after = by_ready (ready w.stages) refl
  where
    by_stage : (j : ℕ) → ready w.stages ≡ suc j → (o : Option Stage) → slice_get w.stages j ≡ o → AskDid kept w.stages w after (ask_stage w.contexts j w.stages o)
    by_stage j is None at = did_nothing kept w.stages
    by_stage j is (Some s) at =
        ask_there kept w after w.contexts j s s.waiting at (free_of (is_any s.waiting) (is_free s.held) (ready_picks w.stages j s is at)) refl

    by_ready : (n : ℕ) → ready w.stages ≡ n → AskDid kept w.stages w after (asked_at w.contexts w.stages n)
    by_ready zero is = did_nothing kept w.stages
    by_ready (suc j) is = by_stage j is (slice_get w.stages j) refl

-- ---- each act

abbrev pub ActDid : Act → Standing → Type 0
ActDid act w = Did (λ k. IsKept k act) w.stages (bare_all (item_in act)) (λ k. gone_by k act w) (λ k. asked_by k act w) (bare_all (done_by act w).0) (done_by act w).1.stages

answer_did : (kept : ℕ → Type 0) (value : ℕ) (w : Standing) (o : Option Ask)
    → Did kept w.stages [] (λ k. gone_behind k value w o) nothing_of (bare_all (answered value w o).0) (answered value w o).1.stages
answer_did kept value w None = did_nothing kept w.stages
answer_did kept value w (Some ask) = by_value (value == 0) refl
  where
    by_value : (b : Bool) → (value == 0) ≡ b
        → Did kept w.stages [] (λ k. gone_behind k value w (Some ask)) nothing_of (bare_all (answered value w (Some ask)).0) (answered value w (Some ask)).1.stages
    by_value true is = rw is (went_did kept (after_return ask w) ask.stage w.stages)
    by_value false is = rw is (did_nothing kept w.stages)

pub did : (act : Act) (w : Standing) → ActDid act w
did (comes item) w = put_did (λ k. Unit {0}) w.contexts w.stages item
did (calls after) w = ask_did (λ k. Unit {0}) w after
did (answers value) w = answer_did (λ k. Unit {0}) value w w.due
did (resumes j) w = went_did (λ k. Unit {0}) w.contexts j w.stages
did (lets j) w = let_did (λ k. IsKept k (lets j)) w.contexts j w.stages (λ k apart is. apart is)
did (turns after) w = did_nothing (λ k. Unit {0}) w.stages
