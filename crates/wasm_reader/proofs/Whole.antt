-- Reading the header and the sections, as the loops do.
use Rattle.std.proofs.Common.{◌≡◌, ◌≢◌, ℕ, zero, suc, ◌-◌, ◌+◌, ◌≤◌, ◌<◌, true, false, cond, eqb, List, [], ◌∷◌, length, get_or, drop, Result, Ok, Err, refl, sym, ap, subst, ◌∙◌, arith}
use Rattle.std.specs.Prelude.{IfOk, IfErr, OnOk}
use Rattle.std.proofs.lemmas.List.{length-drop, drop_more, drop_all}
use Rattle.std.proofs.lemmas.Bool.{eq-eqb}
use Rattle.std.proofs.lemmas.Bool.Decides.{nat_tests}
use Rattle.wasm_syntax.specs.declared.module.Module.{Module}
use Rattle.wasm_syntax.specs.declared.section.Section.{Section}
use Rattle.wasm_syntax.specs.declared.section.Before.{Before}
use Rattle.wasm_syntax.specs.Format.{Fault, Reading, ok, fault, and_then, tested, Fence, Passes}
use Rattle.wasm_syntax.specs.Grammar.{header, header_read, section, after, is_complete, sections_read, with_section, empty_module, module_made, before_all, module_read, Spells, FirstFault}
use Rattle.wasm_reader.specs.declared.ends.ReadEnd.{ReadEnd}
use Rattle.wasm_reader.specs.declared.ends.ReadEnd.TheVariants.{Refused, OutOfMemory}
use Rattle.wasm_reader.specs.declared.ends.Bounds.TheVariants as bounds
use Rattle.wasm_reader.specs.Steps.{fence_of, Gives, GivesModule, made_from, Answers, Refuses, IsFirstFault}

not_equal : (a b : ℕ) → a ≢ b → eqb a b ≡ false
not_equal a b h = grind (arith, nat_tests)

pub header_step : (i : ℕ) (b : List ℕ) → i < 8 → i < length b
    → header_read (drop i header) (drop i b) ≡ cond (eqb (get_or b i 0) (get_or header i 0)) (header_read (drop (i + 1) header) (drop (i + 1) b)) (Err (record { number = 1; left = length (get_or b i 0 ∷ drop (i + 1) b) }))
header_step i b small lt = ap (λ w. header_read w (drop i b)) (drop_more header i 0 small) ∙ ap (header_read (get_or header i 0 ∷ drop (i + 1) header)) (drop_more b i 0 lt)

pub header_goes_on : (i : ℕ) (b : List ℕ) → i < 8 → i < length b → get_or b i 0 ≡ get_or header i 0 → header_read (drop i header) (drop i b) ≡ header_read (drop (i + 1) header) (drop (i + 1) b)
header_goes_on i b small lt e = header_step i b small lt ∙ ap (λ t. cond t (header_read (drop (i + 1) header) (drop (i + 1) b)) (Err (record { number = 1; left = length (get_or b i 0 ∷ drop (i + 1) b) }))) (eq-eqb (get_or b i 0) (get_or header i 0) e)

pub header_differs : (i : ℕ) (b : List ℕ) → i < 8 → i < length b → get_or b i 0 ≢ get_or header i 0 → header_read (drop i header) (drop i b) ≡ Err (record { number = 1; left = length b - i })
header_differs i b small lt ne =
    let n : length (get_or b i 0 ∷ drop (i + 1) b) ≡ length b - i = ap length (sym (drop_more b i 0 lt)) ∙ length-drop i b in
    header_step i b small lt ∙ ap (λ t. cond t (header_read (drop (i + 1) header) (drop (i + 1) b)) (Err (record { number = 1; left = length (get_or b i 0 ∷ drop (i + 1) b) }))) (not_equal (get_or b i 0) (get_or header i 0) ne)
    ∙ ap (λ l. Err (record { number = 1; left = l })) n

pub header_cut : (i : ℕ) (b : List ℕ) → i < 8 → length b ≤ i → header_read (drop i header) (drop i b) ≡ Err (record { number = 2; left = length b - length b })
header_cut i b small le =
    let z : 0 ≡ length b - length b = omega arith in
    ap (λ w. header_read w (drop i b)) (drop_more header i 0 small) ∙ ap (header_read (get_or header i 0 ∷ drop (i + 1) header)) (drop_all i b le) ∙ ap (λ l. Err (record { number = 2; left = l })) z

-- ---- sections

-- nothing is left
pub sections_end : (fuel : ℕ) (before : Before) (m : Module) → is_complete before.functions before.codes ≡ true → made_from m (sections_read fuel before []) ≡ Ok m
unfolding sections_read
sections_end zero before m c = ap (λ t. made_from m (tested t 4 0 [] [])) c
sections_end (suc fuel) before m c = ap (λ t. made_from m (tested t 4 0 [] [])) c

pub sections_lack : (fuel : ℕ) (before : Before) (m : Module) → is_complete before.functions before.codes ≡ false → made_from m (sections_read fuel before []) ≡ Err (record { number = 4; left = 0 })
unfolding sections_read
sections_lack zero before m c = ap (λ t. made_from m (tested t 4 0 [] [])) c
sections_lack (suc fuel) before m c = ap (λ t. made_from m (tested t 4 0 [] [])) c

one_section : (fuel : ℕ) (before : Before) (bytes : List ℕ) → 0 < length bytes → sections_read (suc fuel) before bytes ≡ and_then ((section before).reads (Passes 0) bytes) (λ x r. and_then (sections_read fuel (after before x) r) (λ ys z. ok (x ∷ ys) z))
unfolding sections_read
one_section fuel before [] some = absurd (omega arith)
one_section fuel before (b ∷ bs) some = refl

no_fuel : (before : Before) (bytes : List ℕ) → 0 < length bytes → sections_read 0 before bytes ≡ fault 2 0
unfolding sections_read
no_fuel before [] some = absurd (omega arith)
no_fuel before (b ∷ bs) some = refl

made_more : (m : Module) (x : Section) (r : Reading (List Section)) → made_from m (and_then r (λ ys z. ok (x ∷ ys) z)) ≡ made_from (with_section m x) r
made_more m x (Ok y) = refl
made_more m x (Err e) = refl

-- the fence of the whole
pub no_fence : (b : List ℕ) → fence_of b (bounds.Passes (length b)) ≡ Passes 0
no_fence b = let z : length b - length b ≡ 0 = omega arith in ap Passes z

pub section_goes_on : (m : Module) (fuel : ℕ) (before : Before) (k : Fence) (bytes : List ℕ) (x : Section) (after_it : List ℕ) (total : Result Module Fault) → 0 < fuel → 0 < length bytes → k ≡ Passes 0 → (section before).reads k bytes ≡ ok x after_it
    → made_from m (sections_read fuel before bytes) ≡ total → made_from (with_section m x) (sections_read (fuel - 1) (after before x) after_it) ≡ total
section_goes_on m fuel before k bytes x after_it total some there f h so_far =
    let n : fuel ≡ suc (fuel - 1) = omega arith in
    let h2 : (section before).reads (Passes 0) bytes ≡ ok x after_it = ap (λ z. (section before).reads z bytes) (sym f) ∙ h in
    let one = ap (λ g. sections_read g before bytes) n ∙ one_section (fuel - 1) before bytes there ∙ ap (λ r. and_then r (λ x r. and_then (sections_read (fuel - 1) (after before x) r) (λ ys z. ok (x ∷ ys) z))) h2 in
    sym (made_more m x (sections_read (fuel - 1) (after before x) after_it)) ∙ sym (ap (made_from m) one) ∙ so_far

pub section_ends : (m : Module) (b : List ℕ) (e : ReadEnd) (fuel : ℕ) (before : Before) (k : Fence) (bytes : List ℕ) (total : Result Module Fault) → 0 < fuel → 0 < length bytes → k ≡ Passes 0 → Gives {A = Section} b (Err e) ((section before).reads k bytes)
    → made_from m (sections_read fuel before bytes) ≡ total → GivesModule {A = Module} b (Err e) total
section_ends m b OutOfMemory fuel before k bytes total some there f h so_far = tt
section_ends m b (Refused number place) fuel before k bytes total some there f h so_far =
    let n : fuel ≡ suc (fuel - 1) = omega arith in
    let h2 : (section before).reads (Passes 0) bytes ≡ fault number (length b - place) = ap (λ z. (section before).reads z bytes) (sym f) ∙ h.1 in
    let one = ap (λ g. sections_read g before bytes) n ∙ one_section (fuel - 1) before bytes there ∙ ap (λ r. and_then r (λ x r. and_then (sections_read (fuel - 1) (after before x) r) (λ ys z. ok (x ∷ ys) z))) h2 in
    (h.0, sym so_far ∙ ap (made_from m) one)

pub sections_cut : (m : Module) (fuel : ℕ) (before : Before) (bytes : List ℕ) (total : Result Module Fault) → fuel ≡ 0 → 0 < length bytes → made_from m (sections_read fuel before bytes) ≡ total → total ≡ Err (record { number = 2; left = 0 })
sections_cut m fuel before bytes total none there so_far =
    sym so_far ∙ ap (λ f. made_from m (sections_read f before bytes)) none ∙ ap (made_from m) (no_fuel before bytes there)

made_is : (r : Reading (List Section)) → made_from empty_module r ≡ module_made r
made_is (Ok x) = refl
made_is (Err e) = refl

pub sections_start : (r : Reading (List Section)) (m : Module) → m ≡ empty_module → made_from m r ≡ module_made r
sections_start r m e = ap (λ n. made_from n r) e ∙ made_is r

end_same : (fuel : ℕ) (before : Before) → sections_read fuel before [] ≡ sections_read 0 before []
unfolding sections_read
end_same zero before = refl
end_same (suc fuel) before = refl

nothing_left : (m : Module) (b : List ℕ) (fuel place : ℕ) (before : Before) (total : Result Module Fault) → length b ≤ place → made_from m (sections_read fuel before (drop place b)) ≡ total
    → made_from m (sections_read 0 before []) ≡ total
nothing_left m b fuel place before total e so_far =
    sym (ap (λ l. made_from m (sections_read fuel before l)) (drop_all place b e) ∙ ap (made_from m) (end_same fuel before)) ∙ so_far

-- nothing is left, and what the end says stands
pub at_the_end : (m : Module) (b : List ℕ) (r : Result (Unit {0}) ReadEnd) (fuel place : ℕ) (before : Before) (total : Result Module Fault) → length b ≤ place → made_from m (sections_read fuel before (drop place b)) ≡ total
    → OnOk r (made_from m (sections_read 0 before []) ≡ Ok m) → OnOk r (total ≡ Ok m)
at_the_end m b (Ok u) fuel place before total e so_far h = sym (nothing_left m b fuel place before total e so_far) ∙ h
at_the_end m b (Err x) fuel place before total e so_far h = tt

pub lacks_at_the_end : (m : Module) (b : List ℕ) (r : Result (Unit {0}) ReadEnd) (fuel place : ℕ) (before : Before) (total : Result Module Fault) → length b ≤ place → made_from m (sections_read fuel before (drop place b)) ≡ total
    → IfErr r (λ x. GivesModule {A = Module} b (Err x) (made_from m (sections_read 0 before []))) → IfErr r (λ x. GivesModule {A = Module} b (Err x) total)
lacks_at_the_end m b (Ok u) fuel place before total e so_far h = tt
lacks_at_the_end m b (Err x) fuel place before total e so_far h =
    subst (λ (t : Result Module Fault). GivesModule {A = Module} b (Err x) t) (nothing_left m b fuel place before total e so_far) h

-- ---- the whole

abbrev read_as : Module → Result Module Fault
read_as m = Ok m

abbrev faulty_as : Fault → Result Module Fault
faulty_as f = Err f

ok_is : (x m : Module) → read_as x ≡ read_as m → x ≡ m
ok_is x m e = cc

ok_no_err : (m : Module) (f : Fault) → read_as m ≡ faulty_as f → ⊥
ok_no_err m f e = absurd cc

fault_is : (f g : Fault) → faulty_as f ≡ faulty_as g → f ≡ g
fault_is f g e = cc

pub is_read : (b : List ℕ) (r : Result Module ReadEnd) → ((m : Module) → module_read b ≡ Ok m → Spells b m) → GivesModule b r (module_read b) → IfOk r (Spells b)
is_read b (Ok m) law h = law m h
is_read b (Err OutOfMemory) law h = tt
is_read b (Err (Refused number place)) law h = tt

pub is_answered : (b : List ℕ) (r : Result Module ReadEnd) (m : Module) → module_read b ≡ Ok m → GivesModule b r (module_read b) → Answers r m
is_answered b (Ok x) m s h = ok_is x m (sym h ∙ s)
is_answered b (Err OutOfMemory) m s h = tt
is_answered b (Err (Refused number place)) m s h = ok_no_err m (record { number = number; left = length b - place }) (sym s ∙ h.1)

pub is_refused : (b : List ℕ) (r : Result Module ReadEnd) → GivesModule b r (module_read b) → IfErr r (IsFirstFault b)
is_refused b (Ok m) h = tt
is_refused b (Err OutOfMemory) h = tt
is_refused b (Err (Refused number place)) h = record { left = length b - place; reading = h.1; at = (let e : place ≡ length b - (length b - place) = omega (arith, h.0) in e) }

pub refuses : (b : List ℕ) (r : Result Module ReadEnd) (n p : ℕ) → FirstFault b n p → GivesModule b r (module_read b) → Refuses r n p
refuses b (Ok m) n p f h = ok_no_err m (record { number = n; left = f.left }) (sym h ∙ f.reading)
refuses b (Err OutOfMemory) n p f h = tt
refuses b (Err (Refused number place)) n p f h =
    let e = fault_is (record { number = number; left = length b - place }) (record { number = n; left = f.left }) (sym h.1 ∙ f.reading) in
    let l : length b - place ≡ f.left = ap (λ (x : Fault). x.left) e in
    (ap (λ (x : Fault). x.number) e, omega (arith, l, f.at, h.0))
