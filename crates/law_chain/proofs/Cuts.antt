-- What passes the cut in front of a stage, and what is after it.
use Rattle.std.proofs.Common.{◌≡◌, ◌≤◌, ℕ, zero, suc, Bool, true, false, List, [], ◌∷◌, ◌++◌, ap, ◌∙◌, sym, refl, arith}
use Rattle.std.specs.Prelude.{Some, slice_get, slice_set, drop, if◌then◌else◌}
use Rattle.std.proofs.lemmas.List.{append_assoc, append-nil}
use Rattle.contexts.specs.declared.parts.Contexts.{Contexts}
use Rattle.filter_chain.specs.declared.stage.Stage.{Stage}
use Rattle.filter_chain.specs.declared.item.ChainItem.{ChainItem}
use Rattle.filter_chain.specs.declared.item.ChainItem.TheVariants.{Trailers}
use Rattle.filter_chain.specs.declared.item.Held.{Held}
use Rattle.filter_chain.specs.declared.item.Held.TheVariants as held
use Rattle.filter_chain.specs.Items.{bytes_in, item_bytes, piece_of, held_items, holds_bytes}
use Rattle.filter_chain.specs.declared.item.PassOutcome.{PassOutcome}
use Rattle.filter_chain.specs.declared.item.PassOutcome.TheVariants as passed
use Rattle.filter_chain.specs.Chains.{with_more, bytes_at}
use Rattle.filter_chain.specs.Flow.{stage_bytes, flow, left_in}
use Rattle.law_chain.specs.Acts.{HoldSame, where_one}
use Rattle.law_chain.specs.Sound.{IsEmpty, AreOpen, IsCut, IsClean, AreClean}
use Rattle.law_chain.proofs.Calm.{clean_same, clean_behind}
use Rattle.law_chain.proofs.Holding.{HoldBut}
use Rattle.law_chain.proofs.Open.{cut_tail}
use Rattle.law_chain.proofs.Targets.{by_bool, ahead, comes_in, goes_in}

-- ---- items

pub joined_more : (a b : List ChainItem) → item_bytes (a ++ b) ≡ item_bytes a ++ item_bytes b
joined_more [] b = refl
joined_more (i ∷ a) b = ap (λ (x : List ℕ). bytes_in i ++ x) (joined_more a b) ∙ sym (append_assoc (bytes_in i) (item_bytes a) (item_bytes b))

joined_piece : (bytes : List ℕ) (end : Bool) → item_bytes (piece_of bytes end) ≡ bytes
joined_piece [] false = refl
joined_piece [] true = refl
joined_piece (b ∷ bytes) end = append-nil (b ∷ bytes)

-- what a stage holds, as items, is its bytes
pub joined_held : (h : Held) (bytes : List ℕ) → item_bytes (held_items h (if holds_bytes h then bytes else [])) ≡ (if holds_bytes h then bytes else [])
joined_held held.Nothing bytes = refl
joined_held (held.Head end) bytes = refl
joined_held (held.Body end) bytes = joined_piece bytes end
joined_held (held.Trailers false) bytes = refl
joined_held (held.Trailers true) bytes = joined_more (piece_of bytes false) (Trailers ∷ []) ∙ (append-nil (item_bytes (piece_of bytes false)) ∙ joined_piece bytes false)

-- ---- what is in the stages after a cut

pub flow_same : (b c : Contexts) (ss : List Stage) → HoldSame b c ss → flow c ss ≡ flow b ss
flow_same b c [] same = refl
flow_same b c (s ∷ ss) same = λ i. flow_same b c ss same.1 i ++ (same.0 i ++ item_bytes s.waiting)

flow_behind : (n : ℕ) (b c : Contexts) (ss : List Stage) → HoldSame b c ss → flow c (drop n ss) ≡ flow b (drop n ss)
flow_behind zero b c ss same = flow_same b c ss same
flow_behind (suc n) b c [] same = refl
flow_behind (suc n) b c (s ∷ ss) same = flow_behind n b c ss same.1

-- one stage has what it had
pub cut_set : (n : ℕ) (b c : Contexts) (ss : List Stage) (k : ℕ) (s t : Stage) → slice_get ss k ≡ Some s → stage_bytes c t ≡ stage_bytes b s → HoldBut b c k ss
    → flow c (drop n (slice_set ss k t)) ≡ flow b (drop n ss)
cut_set zero b c [] k s t at keeps same = refl
cut_set zero b c (x ∷ xs) zero s t at keeps same =
    let here : x ≡ s = (cc) in
    let there : stage_bytes c t ≡ stage_bytes b x = keeps ∙ ap (stage_bytes b) (sym here) in
    λ i. flow_same b c xs same i ++ there i
cut_set zero b c (x ∷ xs) (suc k) s t at keeps same = λ i. cut_set zero b c xs k s t at keeps same.1 i ++ (same.0 i ++ item_bytes x.waiting)
cut_set (suc n) b c [] k s t at keeps same = refl
cut_set (suc n) b c (x ∷ xs) zero s t at keeps same = flow_behind n b c xs same
cut_set (suc n) b c (x ∷ xs) (suc k) s t at keeps same = cut_set n b c xs k s t at keeps same.1

-- ---- an item comes

-- what passes the cut in front of the stage at this place, where it comes to the first one
abbrev pub into : ℕ → List ℕ → List ℕ
into zero bytes = bytes
into (suc n) bytes = []

more_kept : (b c : Contexts) (items : List ChainItem) (r : Stage) → bytes_at c r ≡ bytes_at b r → stage_bytes c (with_more items r) ≡ stage_bytes b r ++ item_bytes items
more_kept b c items r same =
    ap (λ (l : List ℕ). bytes_at c r ++ l) (joined_more r.waiting items)
    ∙ (sym (append_assoc (bytes_at c r) (item_bytes r.waiting) (item_bytes items)) ∙ ap (λ (l : List ℕ). (l ++ item_bytes r.waiting) ++ item_bytes items) same)

empty_kept : (h : Contexts) (s : Stage) → IsEmpty s → IsClean h s → stage_bytes h s ≡ []
empty_kept h s empty clean = λ i. clean (ap holds_bytes empty.holding) i ++ item_bytes (empty.waiting i)

pub cut_comes : (n : ℕ) (h : Contexts) (items : List ChainItem) (ss : List Stage) → AreOpen ss → AreClean h (drop n ss) → IsCut n ss
    → item_bytes (left_in (comes_in items ss).0) ++ flow h (drop n (comes_in items ss).1) ≡ flow h (drop n ss) ++ into n (item_bytes items)
cut_comes zero h items [] all clean cut = append-nil (item_bytes items)
cut_comes zero h items (s ∷ ss) all clean cut =
    by_bool (λ (r : PassOutcome × List Stage). item_bytes (left_in r.0) ++ flow h r.1 ≡ (flow h ss ++ stage_bytes h s) ++ item_bytes items) s.passes (ahead s (comes_in items ss)) (passed.Left [], with_more items s ∷ ss)
    (λ is.
    let r : PassOutcome × List Stage = comes_in items ss in
    let nothing : stage_bytes h s ≡ [] = empty_kept h s (all.0 is) clean.0 in
    ap (λ (l : List ℕ). item_bytes (left_in r.0) ++ (flow h r.1 ++ l)) nothing
    ∙ (ap (λ (l : List ℕ). item_bytes (left_in r.0) ++ l) (append-nil (flow h r.1))
    ∙ (cut_comes zero h items ss all.1 clean.1 tt
    ∙ sym (ap (λ (l : List ℕ). (flow h ss ++ l) ++ item_bytes items) nothing ∙ ap (λ (l : List ℕ). l ++ item_bytes items) (append-nil (flow h ss))))))
    (λ is. ap (λ (l : List ℕ). flow h ss ++ l) (more_kept h h items s refl) ∙ sym (append_assoc (flow h ss) (stage_bytes h s) (item_bytes items)))
cut_comes (suc n) h items [] all clean cut = absurd cut
cut_comes (suc zero) h items (s ∷ ss) all clean cut =
    by_bool (λ (r : PassOutcome × List Stage). item_bytes (left_in r.0) ++ flow h (drop (suc zero) r.1) ≡ flow h ss ++ []) s.passes (ahead s (comes_in items ss)) (passed.Left [], with_more items s ∷ ss)
    (λ is. absurd (cc (is, cut))) (λ is. sym (append-nil (flow h ss)))
cut_comes (suc (suc n)) h items (s ∷ ss) all clean cut =
    by_bool (λ (r : PassOutcome × List Stage). item_bytes (left_in r.0) ++ flow h (drop (suc (suc n)) r.1) ≡ flow h (drop (suc n) ss) ++ []) s.passes (ahead s (comes_in items ss))
    (passed.Left [], with_more items s ∷ ss)
    (λ is. cut_comes (suc n) h items ss all.1 clean cut) (λ is. sym (append-nil (flow h (drop (suc n) ss))))

-- ---- what a stage holds goes to the next one, or leaves

-- what passes the cut in front of the stage at this place, where it is let go by the stage at a place
abbrev pub over : ℕ → ℕ → List ℕ → List ℕ
over zero k bytes = []
over (suc n) k bytes = where_one n k bytes

over_next : (n k : ℕ) (bytes : List ℕ) → over (suc n) (suc k) bytes ≡ over n k bytes
over_next zero k bytes = refl
over_next (suc n) k bytes = refl

pub over_apart : (n k : ℕ) (bytes : List ℕ) → (suc k ≡ n → ⊥) → over n k bytes ≡ []
over_apart zero k bytes apart = refl
over_apart (suc zero) zero bytes apart = absurd (apart refl)
over_apart (suc zero) (suc k) bytes apart = refl
over_apart (suc (suc n)) zero bytes apart = refl
over_apart (suc (suc n)) (suc k) bytes apart = over_apart (suc n) k bytes (λ is. apart (ap suc is))

-- the stage at a place is another one then; where it stands after the cut, it has what is left
pub cut_goes : (n : ℕ) (b c : Contexts) (items : List ChainItem) (ss : List Stage) (k : ℕ) (s t : Stage) → slice_get ss k ≡ Some s → (n ≤ k → item_bytes items ++ stage_bytes c t ≡ stage_bytes b s)
    → HoldBut b c k ss → AreOpen ss → AreClean b (drop n ss) → IsCut n ss
    → item_bytes (left_in (goes_in k t items ss).0) ++ flow c (drop n (goes_in k t items ss).1) ≡ flow b (drop n ss) ++ over n k (item_bytes items)
cut_goes n b c items [] k s t at keeps same all clean cut = absurd (cc)
cut_goes zero b c items (x ∷ xs) zero s t at keeps same all clean cut =
    let here : x ≡ s = (cc) in
    let r : PassOutcome × List Stage = comes_in items xs in
    let there : item_bytes items ++ stage_bytes c t ≡ stage_bytes b x = keeps (omega arith) ∙ ap (stage_bytes b) (sym here) in
    sym (append_assoc (item_bytes (left_in r.0)) (flow c r.1) (stage_bytes c t))
    ∙ (ap (λ (l : List ℕ). l ++ stage_bytes c t) (cut_comes zero c items xs all.1 (clean_same b c xs same clean.1) tt)
    ∙ (append_assoc (flow c xs) (item_bytes items) (stage_bytes c t)
    ∙ ((λ i. flow_same b c xs same i ++ there i) ∙ sym (append-nil (flow b xs ++ stage_bytes b x)))))
cut_goes zero b c items (x ∷ xs) (suc k) s t at keeps same all clean cut =
    let r : PassOutcome × List Stage = goes_in k t items xs in
    sym (append_assoc (item_bytes (left_in r.0)) (flow c r.1) (stage_bytes c x))
    ∙ ((λ i. (cut_goes zero b c items xs k s t at (λ less. keeps (omega arith)) same.1 all.1 clean.1 tt ∙ append-nil (flow b xs)) i ++ (same.0 i ++ item_bytes x.waiting))
    ∙ sym (append-nil (flow b xs ++ stage_bytes b x)))
cut_goes (suc zero) b c items (x ∷ xs) zero s t at keeps same all clean cut =
    cut_comes zero c items xs all.1 (clean_same b c xs same clean) tt ∙ ap (λ (l : List ℕ). l ++ item_bytes items) (flow_same b c xs same)
cut_goes (suc (suc n)) b c items (x ∷ xs) zero s t at keeps same all clean cut =
    cut_comes (suc n) c items xs all.1 (clean_behind (suc n) b c xs same clean) cut ∙ ap (λ (l : List ℕ). l ++ []) (flow_behind (suc n) b c xs same)
cut_goes (suc n) b c items (x ∷ xs) (suc k) s t at keeps same all clean cut =
    cut_goes n b c items xs k s t at (λ less. keeps (omega (arith, less))) same.1 all.1 clean (cut_tail n x xs cut) ∙ ap (λ (l : List ℕ). flow b (drop n xs) ++ l) (sym (over_next n k (item_bytes items)))

pub cut_same : (n : ℕ) (b c : Contexts) (ss : List Stage) → HoldSame b c ss → flow c (drop n ss) ≡ flow b (drop n ss)
cut_same n b c ss same = flow_behind n b c ss same
