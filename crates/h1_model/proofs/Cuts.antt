-- What is unread of a text is what it spells, cut.
use Rattle.std.proofs.Common.{◌≡◌, ℕ, ◌+◌, ◌<◌, ◌≤◌, Bool, true, false, List, [], ◌∷◌, ◌++◌, map, length, drop, Option, Some, refl, sym, ap, ◌∙◌, subst, inl, inr, arith}
use Rattle.std.proofs.lemmas.Bool.{cond-true, cond-false, ne_eqb, eq-eqb}
use Rattle.std.proofs.lemmas.List.{drop-drop, append-nil, append_assoc, length-append}
use Rattle.std.specs.Prelude.{◌⊎◌}
use Rattle.h1_model.specs.Messages.{Item, request, interim, response, octet, end, trailers, Placed, Due, Stop, Step, item, stop, StepsTo, SpellsFrom}
use Rattle.h1_model.specs.Trailers.{piece_limit}
use Rattle.h1_model.specs.Unread.{Part, head_part, interim_part, piece, trailer_part, Next, part, none, Carries, by_itself, piece_before, IsNoOctet, IsAlone, IsPiece, IsNext, held_piece, cut_behind}
use Rattle.h1_model.specs.ReadingLaws.{item_at, UnreadIsCut}
use Rattle.h1_model.proofs.Readings.{StepsTo-unique, item_is_no_stop, same_stop, same_item}
use Rattle.h1_model.proofs.Parts.{none_is_stop, same_part, same_next}

-- the bytes that are held take further ones in, up to a whole piece
cut_run : (held bytes : List ℕ) (items : List Item) → length held + length bytes ≤ piece_limit
    → cut_behind held (map octet bytes ++ items) ≡ cut_behind (held ++ bytes) items
cut_run held [] items few = ap (λ (h : List ℕ). cut_behind h items) (sym (append-nil held))
cut_run held (b ∷ bytes) items few =
    cond-false _ _ _ (ne_eqb (length held) piece_limit (λ e. omega (arith, e)))
    ∙ cut_run (held ++ b ∷ []) bytes items (omega (arith, length-append held (b ∷ [])))
    ∙ ap (λ (h : List ℕ). cut_behind h items) (append_assoc held (b ∷ []) bytes)

-- the items after a run of bytes
record Behind (text : List ℕ) (ended : Bool) (asked : Option (List ℕ)) (mid : Due) (to : ℕ) (bytes : List ℕ) (items : List Placed) (why : Stop) : Type 0 where
  later : List Placed
  spelled : SpellsFrom text ended asked mid to later why
  are : map item_at items ≡ map octet bytes ++ map item_at later

items_behind : (text : List ℕ) (ended : Bool) (asked : Option (List ℕ)) (due : Due) (at : ℕ) (bytes : List ℕ) (used : ℕ) (mid : Due) (items : List Placed) (why : Stop)
    → Carries ended asked due (drop at text) bytes used mid → SpellsFrom text ended asked due at items why
    → Behind text ended asked mid (at + used) bytes items why
items_behind text ended asked due at [] used mid items why c x =
    let here : SpellsFrom text ended asked mid at items why = subst (λ (d : Due). SpellsFrom text ended asked d at items why) (sym c.1) x in
    let place : at ≡ at + used = omega (arith, c.0) in
    record { later = items; spelled = subst (λ (n : ℕ). SpellsFrom text ended asked mid n items why) place here; are = refl }
items_behind text ended asked due at (b ∷ bytes) used mid [] why c x =
    absurd (item_is_no_stop (octet b) c.0 c.2 why (StepsTo-unique ended asked due (drop at text) (item (octet b) c.0 c.2) (stop why) c.3 x))
items_behind text ended asked due at (b ∷ bytes) used mid (p ∷ items) why c x =
    let same = same_item p.item (octet b) x.0 c.0 x.1 c.2
    (StepsTo-unique ended asked due (drop at text) (item p.item x.0 x.1) (item (octet b) c.0 c.2) x.2 c.3) in
    let used_moved : SpellsFrom text ended asked x.1 (at + c.0) items why =
    subst (λ (n : ℕ). SpellsFrom text ended asked x.1 (at + n) items why) same.1 x.5 in
    let moved : SpellsFrom text ended asked c.2 (at + c.0) items why =
    subst (λ (d : Due). SpellsFrom text ended asked d (at + c.0) items why) same.2 used_moved in
    let carried : Carries ended asked c.2 (drop (at + c.0) text) bytes c.1 mid =
    subst (λ (t : List ℕ). Carries ended asked c.2 t bytes c.1 mid) (drop-drop c.0 at text) c.4 in
    let r = items_behind text ended asked c.2 (at + c.0) bytes c.1 mid items why carried moved in
    let place : at + c.0 + c.1 ≡ at + used = omega (arith, c.5) in
    record {
      later = r.later;
      spelled = subst (λ (n : ℕ). SpellsFrom text ended asked mid n r.later why) place r.spelled;
      are = (λ k. same.0 k ∷ r.are k);
    }

-- a step that is a part by itself makes that part
record MakesPart (i : Item) (p : Part) (n used : ℕ) (d next : Due) : Type 0 where
  same_used : n ≡ used
  same_due : d ≡ next
  cut : (items : List Item) → p ∷ cut_behind [] items ≡ cut_behind [] (i ∷ items)

makes_part : (i : Item) (p : Part) (n used : ℕ) (d next : Due) → by_itself (item i n d) ≡ Some (part p used next) → MakesPart i p n used d next
makes_part (request h) p n used d next e =
    let same = same_part (head_part h) p n used d next e in
    record { same_used = same.1; same_due = same.2; cut = λ items. ap (λ (q : Part). q ∷ cut_behind [] items) (sym same.0) }
makes_part (interim h) p n used d next e =
    let same = same_part (interim_part h) p n used d next e in
    record { same_used = same.1; same_due = same.2; cut = λ items. ap (λ (q : Part). q ∷ cut_behind [] items) (sym same.0) }
makes_part (response h) p n used d next e =
    let same = same_part (head_part h) p n used d next e in
    record { same_used = same.1; same_due = same.2; cut = λ items. ap (λ (q : Part). q ∷ cut_behind [] items) (sym same.0) }
makes_part (octet b) p n used d next e = absurd (cc)
makes_part end p n used d next e =
    let same = same_part (piece [] true) p n used d next e in
    record { same_used = same.1; same_due = same.2; cut = λ items. ap (λ (q : Part). q ∷ cut_behind [] items) (sym same.0) }
makes_part (trailers fields) p n used d next e =
    let same = same_part (trailer_part fields) p n used d next e in
    record { same_used = same.1; same_due = same.2; cut = λ items. ap (λ (q : Part). q ∷ cut_behind [] items) (sym same.0) }

-- what the rest of the parts is
abbrev Later : List ℕ → Bool → Option (List ℕ) → Due → ℕ → List Part → Stop → Stop → Type 0
Later text ended asked next to parts why reason =
    (items : List Placed) → SpellsFrom text ended asked next to items why → (parts ≡ cut_behind [] (map item_at items)) × (why ≡ reason)

by_alone : (text : List ℕ) (ended : Bool) (asked : Option (List ℕ)) (due : Due) (at : ℕ) (items : List Placed) (p : Part) (parts : List Part)
    → (used : ℕ) (next : Due) (why reason : Stop) → SpellsFrom text ended asked due at items why
    → IsAlone ended asked due (drop at text) (part p used next) → Later text ended asked next (at + used) parts why reason
    → (p ∷ parts ≡ cut_behind [] (map item_at items)) × (why ≡ reason)
by_alone text ended asked due at [] p parts used next why reason x a later =
    absurd (no_part (sym (ap by_itself (StepsTo-unique ended asked due (drop at text) a.step (stop why) a.there x)) ∙ a.is))
  where
    no_part : ◌≡◌ {A = Option Next} (Some (none why)) (Some (part p used next)) → ⊥
    no_part e = cc
by_alone text ended asked due at (q ∷ items) p parts used next why reason x a later =
    let step_is : a.step ≡ item q.item x.0 x.1 = StepsTo-unique ended asked due (drop at text) a.step (item q.item x.0 x.1) a.there x.2 in
    let m = makes_part q.item p x.0 used x.1 next (sym (ap by_itself step_is) ∙ a.is) in
    let used_moved : SpellsFrom text ended asked x.1 (at + used) items why =
    subst (λ (n : ℕ). SpellsFrom text ended asked x.1 (at + n) items why) m.same_used x.5 in
    let moved : SpellsFrom text ended asked next (at + used) items why =
    subst (λ (d : Due). SpellsFrom text ended asked d (at + used) items why) m.same_due used_moved in
    let rest = later items moved in
    (ap (λ (ps : List Part). p ∷ ps) rest.0 ∙ m.cut (map item_at items), rest.1)

held_some : (bytes : List ℕ) → 0 < length bytes → held_piece bytes ≡ piece bytes false ∷ []
held_some [] some = absurd (omega arith)
held_some (b ∷ bytes) some = refl

-- the parts behind bytes with which no end comes
unended : (text : List ℕ) (ended : Bool) (asked : Option (List ℕ)) (mid : Due) (to : ℕ) (bytes : List ℕ) (at : ℕ) (p : Part) (parts : List Part)
    → (used m : ℕ) (next : Due) (js : List Placed) (why reason : Stop) → part p used next ≡ part (piece bytes false) m mid → to ≡ at + m
    → SpellsFrom text ended asked mid to js why → Later text ended asked next (at + used) parts why reason
    → cut_behind bytes (map item_at js) ≡ piece bytes false ∷ cut_behind [] (map item_at js)
    → (p ∷ parts ≡ cut_behind bytes (map item_at js)) × (why ≡ reason)
unended text ended asked mid to bytes at p parts used m next js why reason e place x later cut =
    let same = same_next p (piece bytes false) used m next mid e in
    let place_is : to ≡ at + used = omega (arith, place, same.1) in
    let here : SpellsFrom text ended asked next to js why = subst (λ (d : Due). SpellsFrom text ended asked d to js why) (sym same.2) x in
    let rest = later js (subst (λ (n : ℕ). SpellsFrom text ended asked next n js why) place_is here) in
    ((λ k. same.0 k ∷ rest.0 k) ∙ sym cut, rest.1)

-- the parts after the bytes of a piece
behind_piece : (text : List ℕ) (ended : Bool) (asked : Option (List ℕ)) (mid : Due) (to : ℕ) (bytes : List ℕ) (at : ℕ) (p : Part) (parts : List Part)
    → (used m : ℕ) (next : Due) (js : List Placed) (why reason : Stop) (s : Step) → 0 < length bytes → IsNoOctet s ⊎ (length bytes ≡ piece_limit)
    → part p used next ≡ piece_before bytes m mid s → to ≡ at + m → StepsTo ended asked mid (drop to text) s
    → SpellsFrom text ended asked mid to js why → Later text ended asked next (at + used) parts why reason
    → (p ∷ parts ≡ cut_behind bytes (map item_at js)) × (why ≡ reason)
behind_piece text ended asked mid to bytes at p parts used m next [] why reason s some all e place there x later =
    let step_is : s ≡ stop why = StepsTo-unique ended asked mid (drop to text) s (stop why) there x in
    unended text ended asked mid to bytes at p parts used m next [] why reason (e ∙ ap (piece_before bytes m mid) step_is) place x later
    (held_some bytes some)
behind_piece text ended asked mid to bytes at p parts used m next (q ∷ js) why reason s some all e place there x later =
    let step_is : s ≡ item q.item x.0 x.1 = StepsTo-unique ended asked mid (drop to text) s (item q.item x.0 x.1) there x.2 in
    by_item q.item refl (e ∙ ap (piece_before bytes m mid) step_is) (subst (λ (s : Step). IsNoOctet s ⊎ (length bytes ≡ piece_limit)) step_is all)
  where
    goes_on : part p used next ≡ part (piece bytes false) m mid
        → cut_behind bytes (map item_at (q ∷ js)) ≡ piece bytes false ∷ cut_behind [] (map item_at (q ∷ js))
        → (p ∷ parts ≡ cut_behind bytes (map item_at (q ∷ js))) × (why ≡ reason)
    goes_on e cut = unended text ended asked mid to bytes at p parts used m next (q ∷ js) why reason e place x later cut

    held_then : (r : Part) (i : Item) → q.item ≡ i → ((h : List ℕ) → cut_behind h (i ∷ map item_at js) ≡ held_piece h ++ (r ∷ cut_behind [] (map item_at js)))
        → cut_behind bytes (map item_at (q ∷ js)) ≡ piece bytes false ∷ cut_behind [] (map item_at (q ∷ js))
    held_then r i is cut =
        ap (λ (i : Item). cut_behind bytes (i ∷ map item_at js)) is ∙ cut bytes
        ∙ ap (λ (ps : List Part). ps ++ (r ∷ cut_behind [] (map item_at js))) (held_some bytes some)
        ∙ ap (λ (ps : List Part). piece bytes false ∷ ps) (sym (cut []) ∙ ap (λ (i : Item). cut_behind [] (i ∷ map item_at js)) (sym is))

    by_item : (i : Item) → q.item ≡ i → part p used next ≡ piece_before bytes m mid (item i x.0 x.1)
        → IsNoOctet (item i x.0 x.1) ⊎ (length bytes ≡ piece_limit)
        → (p ∷ parts ≡ cut_behind bytes (map item_at (q ∷ js))) × (why ≡ reason)
    by_item (request h) is e all = goes_on e (held_then (head_part h) (request h) is (λ h. refl))
    by_item (interim h) is e all = goes_on e (held_then (interim_part h) (interim h) is (λ h. refl))
    by_item (response h) is e all = goes_on e (held_then (head_part h) (response h) is (λ h. refl))
    by_item (trailers fields) is e all = goes_on e (held_then (trailer_part fields) (trailers fields) is (λ h. refl))
    by_item (octet b) is e (inl no_byte) = absurd no_byte
    by_item (octet b) is e (inr full) =
        goes_on e (ap (λ (i : Item). cut_behind bytes (i ∷ map item_at js)) is
        ∙ cond-true _ _ _ (eq-eqb (length bytes) piece_limit full)
        ∙ ap (λ (i : Item). piece bytes false ∷ cut_behind [] (i ∷ map item_at js)) (sym is))
    by_item end is e all =
        let same = same_next p (piece bytes true) used (m + x.0) next x.1 e in
        let place_is : to + x.0 ≡ at + used = omega (arith, place, same.1) in
        let here : SpellsFrom text ended asked next (to + x.0) js why =
        subst (λ (d : Due). SpellsFrom text ended asked d (to + x.0) js why) (sym same.2) x.5 in
        let rest = later js (subst (λ (n : ℕ). SpellsFrom text ended asked next n js why) place_is here) in
        ((λ k. same.0 k ∷ rest.0 k) ∙ ap (λ (i : Item). cut_behind bytes (i ∷ map item_at js)) (sym is), rest.1)

by_piece : (text : List ℕ) (ended : Bool) (asked : Option (List ℕ)) (due : Due) (at : ℕ) (items : List Placed) (p : Part) (parts : List Part)
    → (used : ℕ) (next : Due) (why reason : Stop) → SpellsFrom text ended asked due at items why
    → IsPiece ended asked due (drop at text) (part p used next) → Later text ended asked next (at + used) parts why reason
    → (p ∷ parts ≡ cut_behind [] (map item_at items)) × (why ≡ reason)
by_piece text ended asked due at items p parts used next why reason x a later =
    let r = items_behind text ended asked due at a.bytes a.used a.mid items why a.carried x in
    let there : StepsTo ended asked a.mid (drop (at + a.used) text) a.behind =
    subst (λ (t : List ℕ). StepsTo ended asked a.mid t a.behind) (drop-drop a.used at text) a.there in
    let parts_are = behind_piece text ended asked a.mid (at + a.used) a.bytes at p parts used a.used next r.later why reason a.behind
    a.some a.all a.is refl there r.spelled later in
    (parts_are.0 ∙ sym (ap (cut_behind []) r.are ∙ cut_run [] a.bytes (map item_at r.later) (omega (arith, a.few))), parts_are.1)

pub unread_is_cut : UnreadIsCut
unread_is_cut text ended asked due at [] [] why reason x y =
    (refl, same_stop why reason (StepsTo-unique ended asked due (drop at text) (stop why) (stop reason) x (none_is_stop ended asked due (drop at text) reason y)))
unread_is_cut text ended asked due at (q ∷ items) [] why reason x y =
    absurd (item_is_no_stop q.item x.0 x.1 reason
    (StepsTo-unique ended asked due (drop at text) (item q.item x.0 x.1) (stop reason) x.2 (none_is_stop ended asked due (drop at text) reason y)))
unread_is_cut text ended asked due at items (p ∷ parts) why reason x y =
    by_next y.2 (λ its z. unread_is_cut text ended asked y.1 (at + y.0) its parts why reason z y.3)
  where
    by_next : IsNext ended asked due (drop at text) (part p y.0 y.1) → Later text ended asked y.1 (at + y.0) parts why reason
        → (p ∷ parts ≡ cut_behind [] (map item_at items)) × (why ≡ reason)
    by_next (inl a) later = by_alone text ended asked due at items p parts y.0 y.1 why reason x a later
    by_next (inr a) later = by_piece text ended asked due at items p parts y.0 y.1 why reason x a later
