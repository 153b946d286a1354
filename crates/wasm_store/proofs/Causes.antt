-- Of the causes that stand against linking the first is told.
use Rattle.std.proofs.Common.{◌≡◌, ◌<◌, ◌+◌, ◌*◌, refl, sym, ap, ap₂, subst, ◌∙◌, ℕ, zero, suc, Bool, true, false, not, nat_lt, cond, List, [], ◌∷◌, length, slice_get, Option, Some, None, inl, inr, rules, if◌then◌else◌, arith}
use Rattle.std.specs.List.{position, position_from}
use Rattle.std.specs.Option.{option_map, option_or}
use Rattle.std.proofs.lemmas.Bool.{cases_order, ltb-true}
use Rattle.std.proofs.lemmas.Iterator.Adapters.{position_from-zero}
use Rattle.std.proofs.lemmas.List.Quantifiers.{position-Some}
use Rattle.std.proofs.lemmas.Option.{slice_get-get_or, get_or_from_slice_get}
use Rattle.wasm_syntax.specs.declared.module.Module.{Module}
use Rattle.wasm_syntax.specs.Memory.{page}
use Rattle.wasm_syntax.specs.Stores.{offset_of, first_pages, table_size, fits}
use Rattle.wasm_store.specs.declared.links.Judged.{Judged}
use Rattle.wasm_store.specs.declared.links.Judged.TheVariants as judged
use Rattle.wasm_store.specs.declared.instance.LinkEnd.{LinkEnd}
use Rattle.wasm_store.specs.declared.instance.LinkEnd.TheVariants as end
use Rattle.wasm_store.specs.Linking.{Host, judgement, is_unknown, is_other_type, link_fault, first_unknown, first_other_type, first_element_outside, first_segment_outside}
use Rattle.wasm_store.specs.LinkCauses.{HasAt, StandsAgainst, rank, index_of, ComesBefore, IsFirst}

-- ---- the first index of such a member

-- one passes at that index and none below it, or none at all
record Finds (P : ℕ → Type 0) (o : Option ℕ) : Type 0 where
  pub found : (n : ℕ) → o ≡ Some n → P n × ((k : ℕ) → k < n → P k → ⊥)
  pub none : o ≡ None → (k : ℕ) → P k → ⊥

not_head : (b : Bool) (n : ℕ) (o : Option ℕ) → cond b (Some n) o ≡ None → (b ≡ false) × (o ≡ None)
not_head true n o h = absurd cc
not_head false n o h = (refl, h)

none_from : {X : Type 0} (p : X → Bool) (xs : List X) (from k : ℕ) (y : X) → position_from p from xs ≡ None → slice_get xs k ≡ Some y → p y ≡ false
none_from p [] from k y h g = absurd cc
none_from p (x ∷ xs) from zero y h g =
    let same : x ≡ y = cc in ap p (sym same) ∙ (not_head (p x) from (position_from p (from + 1) xs) h).0
none_from p (x ∷ xs) from (suc k) y h g = none_from p xs (from + 1) k y (not_head (p x) from (position_from p (from + 1) xs) h).1 g

found_at : {X : Type 0} (p : X → Bool) (P : X → Type 0) (xs : List X) → ((x : X) → p x ≡ true → P x) → ((x : X) → p x ≡ false → P x → ⊥)
    → (n : ℕ) → position p xs ≡ Some n → HasAt xs n P × ((k : ℕ) → k < n → HasAt xs k P → ⊥)
found_at p P [] passes fails n e = absurd cc
found_at p P (x ∷ xs) passes fails n e =
    let s = position-Some p (x ∷ xs) n x e in (
      record { member = _; there = slice_get-get_or (x ∷ xs) n x s.0; such = passes _ s.1 },
      λ k l h. fails h.member (ap p (sym (get_or_from_slice_get (x ∷ xs) k h.member x h.there)) ∙ s.2 k l) h.such,
    )

finds : {X : Type 0} (p : X → Bool) (P : X → Type 0) (xs : List X) → ((x : X) → p x ≡ true → P x) → ((x : X) → p x ≡ false → P x → ⊥) → Finds (λ n. HasAt xs n P) (position p xs)
finds p P xs passes fails = record {
  found = found_at p P xs passes fails;
  none = λ e k h. fails h.member (none_from p xs 0 k h.member (sym (position_from-zero p xs) ∙ e) h.there) h.such;
}

-- ---- a cause is its rank and its index

of_rank : ℕ → ℕ → LinkEnd
of_rank zero i = end.UnknownImport i
of_rank (suc zero) i = end.ImportType i
of_rank (suc (suc zero)) i = end.PagesOverCap
of_rank (suc (suc (suc zero))) i = end.ElementOutside i
of_rank (suc (suc (suc (suc zero)))) i = end.DataOutside i
of_rank (suc (suc (suc (suc (suc r))))) i = end.OutOfMemory

again : (d : LinkEnd) → of_rank (rank d) (index_of d) ≡ d
unfolding of_rank
again (end.UnknownImport n) = refl
again (end.ImportType n) = refl
again end.PagesOverCap = refl
again (end.ElementOutside n) = refl
again (end.DataOutside n) = refl
again end.OutOfMemory = refl

rank_below : (d : LinkEnd) → rank d < 6
rank_below (end.UnknownImport n) = omega arith
rank_below (end.ImportType n) = omega arith
rank_below end.PagesOverCap = omega arith
rank_below (end.ElementOutside n) = omega arith
rank_below (end.DataOutside n) = omega arith
rank_below end.OutOfMemory = omega arith

at_rank : (S : LinkEnd → Type 0) (r : ℕ) (d : LinkEnd) → rank d ≡ r → S d → S (of_rank r (index_of d))
at_rank S r d e s = subst (λ x. S (of_rank x (index_of d))) e (subst S (sym (again d)) s)

-- ---- none below a rank

abbrev Clear : (LinkEnd → Type 0) → ℕ → Type 0
Clear S r = (d : LinkEnd) → rank d < r → S d → ⊥

nothing_below : (S : LinkEnd → Type 0) → Clear S 0
nothing_below S d l s = absurd (omega (arith, l))

next : (S : LinkEnd → Type 0) (r : ℕ) → Clear S r → ((i : ℕ) → S (of_rank r i) → ⊥) → Clear S (suc r)
next S r clear none d l s =
    elim (cases_order (rank d) r) [
      | inl e ↦ none (index_of d) (at_rank S r d e s)
      | inr (inl below) ↦ clear d below s
      | inr (inr above) ↦ absurd (omega (arith, l, above))
    ]

none_before : (S : LinkEnd → Type 0) (r n : ℕ) → Clear S r → ((k : ℕ) → k < n → S (of_rank r k) → ⊥) → (e : LinkEnd) → rank e ≡ r → index_of e ≡ n → (d : LinkEnd) → S d → ComesBefore d e → ⊥
none_before S r n clear lowest e re ie d t (inl l) = clear d (subst (λ x. rank d < x) re l) t
none_before S r n clear lowest e re ie d t (inr p) = lowest (index_of d) (subst (λ x. index_of d < x) ie p.1) (at_rank S r d (p.0 ∙ re) t)

first : (S : LinkEnd → Type 0) (r n : ℕ) → Clear S r → ((k : ℕ) → k < n → S (of_rank r k) → ⊥) → (e : LinkEnd) → rank e ≡ r → index_of e ≡ n → S e → IsFirst S e
first S r n clear lowest e re ie s = record { stands = s; first = none_before S r n clear lowest e re ie }

-- ---- one is the first

neither_less : (a b : ℕ) → (a < b → ⊥) → (b < a → ⊥) → a ≡ b
neither_less a b f g =
    elim (cases_order a b) [
      | inl e ↦ e
      | inr (inl l) ↦ absurd (f l)
      | inr (inr l) ↦ absurd (g l)
    ]

one_first : (S : LinkEnd → Type 0) (d e : LinkEnd) → IsFirst S d → IsFirst S e → d ≡ e
one_first S d e f g =
    let ranks : rank d ≡ rank e = neither_less (rank d) (rank e) (λ l. g.first d f.stands (inl l)) (λ l. f.first e g.stands (inl l)) in
    let indices : index_of d ≡ index_of e = neither_less (index_of d) (index_of e) (λ l. g.first d f.stands (inr (ranks, l))) (λ l. f.first e g.stands (inr (sym ranks, l))) in
    sym (again d) ∙ ap₂ of_rank ranks indices ∙ again e

-- ---- what is told

abbrev chain : Option ℕ → Option ℕ → Bool → Option ℕ → Option ℕ → Option LinkEnd
chain a b c d e =
    option_or (option_map end.UnknownImport a)
    (option_or (option_map end.ImportType b)
    (option_or (if c then Some end.PagesOverCap else None)
    (option_or (option_map end.ElementOutside d)
    (option_map end.DataOutside e))))

abbrev Told : (LinkEnd → Type 0) → Option LinkEnd → Type 0
Told S None = (d : LinkEnd) → S d → ⊥
Told S (Some e) = IsFirst S e

record Looked (S : LinkEnd → Type 0) (a b : Option ℕ) (c : Bool) (d e : Option ℕ) : Type 0 where
  pub unknown : Finds (λ n. S (end.UnknownImport n)) a
  pub of_type : Finds (λ n. S (end.ImportType n)) b
  pub over : c ≡ true → S end.PagesOverCap
  pub under : c ≡ false → S end.PagesOverCap → ⊥
  pub element : Finds (λ n. S (end.ElementOutside n)) d
  pub data_outside : Finds (λ n. S (end.DataOutside n)) e
  pub memory : S end.OutOfMemory → ⊥

told : (S : LinkEnd → Type 0) (a b : Option ℕ) (c : Bool) (d e : Option ℕ) → Looked S a b c d e → Told S (chain a b c d e)
unfolding of_rank
told S (Some n) b c d e w =
    first S 0 n (nothing_below S) (w.unknown.found n refl).1 (end.UnknownImport n) refl refl (w.unknown.found n refl).0
told S None (Some n) c d e w =
    first S 1 n (next S 0 (nothing_below S) (w.unknown.none refl)) (w.of_type.found n refl).1 (end.ImportType n) refl refl (w.of_type.found n refl).0
told S None None true d e w =
    let one = next S 0 (nothing_below S) (w.unknown.none refl) in
    first S 2 0 (next S 1 one (w.of_type.none refl)) (λ k l s. absurd (omega (arith, l))) end.PagesOverCap refl refl (w.over refl)
told S None None false (Some n) e w =
    let one = next S 0 (nothing_below S) (w.unknown.none refl) in
    let two = next S 1 one (w.of_type.none refl) in
    first S 3 n (next S 2 two (λ i. w.under refl)) (w.element.found n refl).1 (end.ElementOutside n) refl refl (w.element.found n refl).0
told S None None false None (Some n) w =
    let one = next S 0 (nothing_below S) (w.unknown.none refl) in
    let two = next S 1 one (w.of_type.none refl) in
    let three = next S 2 two (λ i. w.under refl) in
    first S 4 n (next S 3 three (w.element.none refl)) (w.data_outside.found n refl).1 (end.DataOutside n) refl refl (w.data_outside.found n refl).0
told S None None false None None w =
    let one = next S 0 (nothing_below S) (w.unknown.none refl) in
    let two = next S 1 one (w.of_type.none refl) in
    let three = next S 2 two (λ i. w.under refl) in
    let four = next S 3 three (w.element.none refl) in
    let five = next S 4 four (w.data_outside.none refl) in
    λ x s. next S 5 five (λ i. w.memory) x (rank_below x) s

-- ---- what is looked at

unknown_yes : (j : Judged) → is_unknown j ≡ true → j ≡ judged.Unknown
unknown_yes judged.Linked h = absurd cc
unknown_yes judged.Unknown h = refl
unknown_yes judged.OtherType h = absurd cc

unknown_no : (j : Judged) → is_unknown j ≡ false → j ≡ judged.Unknown → ⊥
unknown_no judged.Linked h e = absurd cc
unknown_no judged.Unknown h e = absurd cc
unknown_no judged.OtherType h e = absurd cc

type_yes : (j : Judged) → is_other_type j ≡ true → j ≡ judged.OtherType
type_yes judged.Linked h = absurd cc
type_yes judged.Unknown h = absurd cc
type_yes judged.OtherType h = refl

type_no : (j : Judged) → is_other_type j ≡ false → j ≡ judged.OtherType → ⊥
type_no judged.Linked h e = absurd cc
type_no judged.Unknown h e = absurd cc
type_no judged.OtherType h e = absurd cc

outside_yes : (size at count : ℕ) → not (fits size at count) ≡ true → size < at + count
outside_yes size at count h = search rules

outside_no : (size at count : ℕ) → not (fits size at count) ≡ false → size < at + count → ⊥
outside_no size at count h l = search rules

looked : (host : Host) (m : Module) (pages : ℕ) → Looked (StandsAgainst host m pages) (first_unknown host m) (first_other_type host m) (nat_lt pages (first_pages m)) (first_element_outside m) (first_segment_outside m)
looked host m pages = record {
  unknown = finds _ _ m.imports (λ i. unknown_yes (judgement host m.types i)) (λ i. unknown_no (judgement host m.types i));
  of_type = finds _ _ m.imports (λ i. type_yes (judgement host m.types i)) (λ i. type_no (judgement host m.types i));
  over = ltb-true pages (first_pages m);
  under = λ h l. search rules;
  element = finds _ _ m.elements (λ e. outside_yes (table_size m) (offset_of e.offset) (length e.functions)) (λ e. outside_no (table_size m) (offset_of e.offset) (length e.functions));
  data_outside = finds _ _ m.segments (λ s. outside_yes (page * first_pages m) (offset_of s.offset) (length s.bytes)) (λ s. outside_no (page * first_pages m) (offset_of s.offset) (length s.bytes));
  memory = λ s. s;
}

pub all_told : (host : Host) (m : Module) (pages : ℕ) → Told (StandsAgainst host m pages) (link_fault host m pages)
all_told host m pages = told _ (first_unknown host m) (first_other_type host m) (nat_lt pages (first_pages m)) (first_element_outside m) (first_segment_outside m) (looked host m pages)

pub told_is_first : (host : Host) (m : Module) (pages : ℕ) (e : LinkEnd) → link_fault host m pages ≡ Some e → IsFirst (StandsAgainst host m pages) e
told_is_first host m pages e h = subst (Told (StandsAgainst host m pages)) h (all_told host m pages)

by_first : (S : LinkEnd → Type 0) (o : Option LinkEnd) (e : LinkEnd) → Told S o → IsFirst S e → o ≡ Some e
by_first S None e none f = absurd (none e f.stands)
by_first S (Some d) e g f = ap (λ x. Some x) (one_first S d e g f)

pub first_is_told : (host : Host) (m : Module) (pages : ℕ) (e : LinkEnd) → IsFirst (StandsAgainst host m pages) e → link_fault host m pages ≡ Some e
first_is_told host m pages e f = by_first (StandsAgainst host m pages) (link_fault host m pages) e (all_told host m pages) f

pub none_is_clear : (host : Host) (m : Module) (pages : ℕ) → link_fault host m pages ≡ None → (e : LinkEnd) → StandsAgainst host m pages e → ⊥
none_is_clear host m pages h = subst (Told (StandsAgainst host m pages)) h (all_told host m pages)

by_none : (S : LinkEnd → Type 0) (o : Option LinkEnd) → Told S o → ((e : LinkEnd) → S e → ⊥) → o ≡ None
by_none S None t c = refl
by_none S (Some d) t c = absurd (c d t.stands)

pub clear_is_none : (host : Host) (m : Module) (pages : ℕ) → ((e : LinkEnd) → StandsAgainst host m pages e → ⊥) → link_fault host m pages ≡ None
clear_is_none host m pages c = by_none (StandsAgainst host m pages) (link_fault host m pages) (all_told host m pages) c
