-- Reading gives a module exactly where the bytes spell it.
use Rattle.std.proofs.Common.{◌≡◌, ℕ, ◌+◌, ◌-◌, ◌<◌, ◌≤◌, zero, suc, Bool, true, false, cond, eqb, ◌⊎◌, List, [], ◌∷◌, ◌++◌, length, Result, Ok, Err, refl, sym, ap, subst, ◌∙◌, arith, inl, inr}
use Rattle.std.specs.Prelude.{nat_le}
use Rattle.std.proofs.lemmas.List.{length-append}
use Rattle.std.proofs.lemmas.Bool.{eqb-true, eq-eqb}
use Rattle.wasm_syntax.specs.declared.module.Module.{Module}
use Rattle.wasm_syntax.specs.declared.section.Section.{Section}
use Rattle.wasm_syntax.specs.declared.section.Before.{Before}
use Rattle.wasm_syntax.specs.Format.{Fault, Reading, ok, fault, and_then, tested, Passes, Links}
use Rattle.wasm_syntax.specs.Grammar.{before_all, section, after, is_complete, SectionsSpell, sections_read, empty_module, with_sections, header, most_bytes, Spells, header_read, module_made, body_read, module_read, FirstFault}
use Rattle.wasm_syntax.proofs.FormatLaws.{and_then_ok, ok_first, ok_rest, tested_ok}
use Rattle.wasm_syntax.proofs.GrammarLaws.{section_lawful, section_takes_a_byte}

-- ---- sections

sections_last : (before : Before) (xs : List Section) (rest : List ℕ) → tested (is_complete before.functions before.codes) 4 0 [] [] ≡ ok xs rest → SectionsSpell before xs [] × (rest ≡ [])
unfolding SectionsSpell
sections_last before xs rest e =
    let t = tested_ok (is_complete before.functions before.codes) 4 0 [] [] xs rest e in
    (subst (λ (l : List Section). SectionsSpell before l []) t.1 (refl, t.0), sym t.2)

sections_joined : (before : Before) (x : Section) (xs : List Section) (front back : List ℕ) → (section before).spells x front → SectionsSpell (after before x) xs back → SectionsSpell before (x ∷ xs) (front ++ back)
unfolding SectionsSpell
sections_joined before x xs front back one others = record { front = front; back = back; parts = refl; first_spelled = one; others_spelled = others }

pub sections_take : (fuel : ℕ) (before : Before) (bytes : List ℕ) (xs : List Section) (rest : List ℕ) → sections_read fuel before bytes ≡ ok xs rest → SectionsSpell before xs bytes × (rest ≡ [])
unfolding sections_read
sections_take zero before [] xs rest e = sections_last before xs rest e
sections_take (suc fuel) before [] xs rest e = sections_last before xs rest e
sections_take zero before (b ∷ bs) xs rest e = absurd (let f : fault 2 0 ≡ ok xs rest = e in cc)
sections_take (suc fuel) before (b ∷ bs) xs rest e =
    let p = and_then_ok ((section before).reads (Passes 0) (b ∷ bs)) (λ x r. and_then (sections_read fuel (after before x) r) (λ ys z. ok (x ∷ ys) z)) xs rest e in
    let t = (section_lawful before).takes (Passes 0) (b ∷ bs) p.0 p.1 (omega arith) p.2 in
    let q = and_then_ok (sections_read fuel (after before p.0) p.1) (λ ys z. ok (p.0 ∷ ys) z) xs rest p.3 in
    let u = sections_take fuel (after before p.0) p.1 q.0 q.1 q.2 in (
      subst (λ (l : List Section). SectionsSpell before l (b ∷ bs)) (ok_first (p.0 ∷ q.0) xs q.1 rest q.3)
          (subst (λ (l : List ℕ). SectionsSpell before (p.0 ∷ q.0) l) (sym t.parts) (sections_joined before p.0 q.0 t.text p.1 t.spelled u.0)),
      sym (ok_rest (p.0 ∷ q.0) xs q.1 rest q.3) ∙ u.1,
    )

sections_end : (before : Before) (text : List ℕ) → SectionsSpell before [] text → (text ≡ []) × (is_complete before.functions before.codes ≡ true)
unfolding SectionsSpell
sections_end before text s = s

sections_first : (before : Before) (x : Section) (xs : List Section) (text : List ℕ) → SectionsSpell before (x ∷ xs) text → Links (section before).spells (SectionsSpell (after before x) xs) x text
unfolding SectionsSpell
sections_first before x xs text s = s

read_at_end : (fuel : ℕ) (before : Before) → is_complete before.functions before.codes ≡ true → sections_read fuel before [] ≡ ok [] []
unfolding sections_read
read_at_end zero before c = rw c refl
read_at_end (suc fuel) before c = rw c refl

-- where there are bytes one more section is read
read_more : (fuel : ℕ) (before : Before) (bytes : List ℕ) → 0 < length bytes → sections_read (suc fuel) before bytes ≡ and_then ((section before).reads (Passes 0) bytes) (λ x r. and_then (sections_read fuel (after before x) r) (λ ys z. ok (x ∷ ys) z))
unfolding sections_read
read_more fuel before [] some = absurd (omega arith)
read_more fuel before (b ∷ bs) some = refl

pub sections_again : (fuel : ℕ) (before : Before) (xs : List Section) (text : List ℕ) → SectionsSpell before xs text → length text ≤ fuel → sections_read fuel before text ≡ ok xs []
sections_again fuel before [] text s le =
    let e = sections_end before text s in
    ap (sections_read fuel before) e.0 ∙ read_at_end fuel before e.1
sections_again zero before (x ∷ xs) text s le =
    let l = sections_first before x xs text s in
    absurd (omega (arith, ap length l.parts, length-append l.front l.back, section_takes_a_byte before x l.front l.first_spelled))
sections_again (suc fuel) before (x ∷ xs) text s le =
    let l = sections_first before x xs text s in
    let some = section_takes_a_byte before x l.front l.first_spelled in
    let n : length text ≡ length l.front + length l.back = ap length l.parts ∙ length-append l.front l.back in
    let one : (section before).reads (Passes 0) text ≡ ok x l.back = ap ((section before).reads (Passes 0)) l.parts ∙ (section_lawful before).again (Passes 0) l.front x l.back l.first_spelled (omega arith) in
    read_more fuel before text (omega arith)
    ∙ ap (λ r. and_then r (λ x r. and_then (sections_read fuel (after before x) r) (λ ys z. ok (x ∷ ys) z))) one
    ∙ ap (λ r. and_then r (λ ys z. ok (x ∷ ys) z)) (sections_again fuel (after before x) xs l.back l.others_spelled (omega arith))

-- ---- the header

not_err : {A : Type 0} (t : Bool) (r : Result A Fault) (f : Fault) (x : A) → cond t r (Err f) ≡ Ok x → (t ≡ true) × (r ≡ Ok x)
not_err true r f x e = (refl, e)
not_err false r f x e = absurd cc

header_takes : (wanted bytes rest : List ℕ) → header_read wanted bytes ≡ Ok rest → bytes ≡ wanted ++ rest
header_takes [] bytes rest e = cc
header_takes (w ∷ wanted) [] rest e = absurd cc
header_takes (w ∷ wanted) (b ∷ bytes) rest e =
    let t = not_err (eqb b w) (header_read wanted bytes) (record { number = 1; left = length (b ∷ bytes) }) rest e in
    ap (λ (l : List ℕ). b ∷ l) (header_takes wanted bytes rest t.1) ∙ ap (λ (c : ℕ). c ∷ (wanted ++ rest)) (eqb-true b w t.0)

header_again : (wanted rest : List ℕ) → header_read wanted (wanted ++ rest) ≡ Ok rest
header_again [] rest = refl
header_again (w ∷ wanted) rest = rw (eq-eqb w w refl) (header_again wanted rest)

-- ---- modules

made_ok : (r : Reading (List Section)) (m : Module) → module_made r ≡ Ok m → (xs : List Section) × (rest : List ℕ) × (r ≡ ok xs rest) × (m ≡ with_sections empty_module xs)
made_ok (Ok x) m e = (x.0, x.1, refl, (let f : Ok (with_sections empty_module x.0) ≡ Ok m = e in cc))
made_ok (Err d) m e = absurd cc

body_ok : (r : Result (List ℕ) Fault) (m : Module) → body_read r ≡ Ok m → (bytes : List ℕ) × (r ≡ Ok bytes) × (module_made (sections_read (length bytes) before_all bytes) ≡ Ok m)
body_ok (Ok bytes) m e = (bytes, refl, e)
body_ok (Err d) m e = absurd cc

small_ok : (t : Bool) (r : Result Module Fault) (left : ℕ) (m : Module) → cond t r (Err (record { number = 9; left = left })) ≡ Ok m → (t ≡ true) × (r ≡ Ok m)
small_ok true r left m e = (refl, e)
small_ok false r left m e = absurd cc

pub read_is_spelled : (b : List ℕ) (m : Module) → module_read b ≡ Ok m → Spells b m
unfolding module_read
read_is_spelled b m e =
    let s = small_ok (nat_le (length b) most_bytes) (body_read (header_read header b)) (length b) m e in
    let h = body_ok (header_read header b) m s.1 in
    let d = made_ok (sections_read (length h.0) before_all h.0) m h.2 in
    let t = sections_take (length h.0) before_all h.0 d.0 d.1 d.2 in
    record { within = s.0; sections = d.0; text = h.0; parts = header_takes header b h.0 h.1; spelled = t.0; made = d.3 }

pub spelled_is_read : (b : List ℕ) (m : Module) → Spells b m → module_read b ≡ Ok m
unfolding module_read
spelled_is_read b m s =
    ap (λ t. cond t (body_read (header_read header b)) (Err (record { number = 9; left = length b }))) s.within
    ∙ ap (λ l. body_read (header_read header l)) s.parts
    ∙ ap body_read (header_again header s.text)
    ∙ ap module_made (sections_again (length s.text) before_all s.sections s.text s.spelled (omega arith))
    ∙ ap (λ (n : Module). Ok n) (sym s.made)

pub one_module : (b : List ℕ) (m n : Module) → Spells b m → Spells b n → m ≡ n
one_module b m n s t = let e : Ok m ≡ Ok n = sym (spelled_is_read b m s) ∙ spelled_is_read b n t in cc

abbrev read_as : Module → Result Module Fault
read_as m = Ok m

apart : (m : Module) (f : Fault) → read_as m ≡ Err f → ⊥
apart m f e = absurd cc

pub not_both : (b : List ℕ) (m : Module) (number place : ℕ) → Spells b m → FirstFault b number place → ⊥
not_both b m number place s f = absurd (apart m (record { number = number; left = f.left }) (sym (spelled_is_read b m s) ∙ f.reading))

abbrev record_of : ℕ → ℕ → Fault
record_of number left = record { number = number; left = left }

pub one_fault : (b : List ℕ) (m n p q : ℕ) → FirstFault b m p → FirstFault b n q → (m ≡ n) × (p ≡ q)
one_fault b m n p q f g =
    let e : Err (record { number = m; left = f.left }) ≡ Err (record { number = n; left = g.left }) = sym f.reading ∙ g.reading in
    let d : record_of m f.left ≡ record_of n g.left = cc in
    (ap (λ (x : Fault). x.number) d, f.at ∙ (ap (λ (x : Fault). length b - x.left) d ∙ sym g.at))

faults_or_spells : (b : List ℕ) (r : Result Module Fault) → module_read b ≡ r → ((m : Module) × Spells b m) ⊎ ((number : ℕ) × (place : ℕ) × FirstFault b number place)
faults_or_spells b (Ok m) e = inl (m, read_is_spelled b m e)
faults_or_spells b (Err f) e = inr (f.number, length b - f.left, record { left = f.left; reading = e; at = refl })

pub spelled_or_faulty : (b : List ℕ) → ((m : Module) × Spells b m) ⊎ ((number : ℕ) × (place : ℕ) × FirstFault b number place)
spelled_or_faulty b = faults_or_spells b (module_read b) refl
