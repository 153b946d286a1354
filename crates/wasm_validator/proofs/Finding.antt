-- Entries in order.
use Rattle.std.proofs.Common.{◌≡◌, ℕ, zero, suc, ◌+◌, ◌<◌, ◌≤◌, List, [], ◌∷◌, ◌++◌, length, take, get_or, Option, Some, None, refl, sym, ap, subst, ◌∙◌, arith, ⊎_elim}
use Rattle.std.specs.Prelude.{All, slice_get}
use Rattle.std.proofs.lemmas.List.{get_or_default}
use Rattle.std.specs.List.{cons_option}
use Rattle.std.proofs.Math.Seq.{take-suc}
use Rattle.std.proofs.lemmas.Bool.{cases_lt}
use Rattle.std.proofs.lemmas.List.Elements.{filter_map-append}
use Rattle.std.proofs.lemmas.Option.{slice_get-get_or}
use Rattle.wasm_syntax.specs.declared.module.Import.{Import}
use Rattle.wasm_syntax.specs.declared.module.ImportKind.{ImportKind}
use Rattle.wasm_syntax.specs.declared.module.Global.{Global}
use Rattle.wasm_syntax.specs.Validity.{At, imports_of, types_of_globals}

-- what holds of those before and of this one
pub grown : (P : ℕ → Type 0) (n : ℕ) → ((k : ℕ) → k < n → P k) → P n → (k : ℕ) → k < n + 1 → P k
grown P n before here k lt = ⊎_elim (λ (l : k < n). before k l) (λ (g : n ≤ k). let e : n ≡ k = omega arith in subst P e here) (cases_lt k n)

-- an entry that is so
pub so_at : {A : Type 0} (xs : List A) (n : ℕ) (d : A) (P : A → Type 0) → n < length xs → P (get_or xs n d) → At xs n P
so_at xs n d P lt h = (get_or xs n d, slice_get-get_or xs n d lt, h)

-- an entry that was read
pub read_at : {A : Type 0} (xs : List A) (n : ℕ) (x : A) (P : A → Type 0) → n < length xs → x ≡ get_or xs n x → P x → At xs n P
read_at xs n x P lt read h = (x, slice_get-get_or xs n x lt ∙ ap Some (sym read), h)

pub not_at : {A : Type 0} (xs : List A) (n : ℕ) (x : A) (P : A → Type 0) → n < length xs → x ≡ get_or xs n x → (P x → ⊥) → At xs n P → ⊥
not_at xs n x P lt read bad h =
    let e : Some h.0 ≡ Some x = sym h.1 ∙ slice_get-get_or xs n x lt ∙ ap Some (sym read) in
    let same : h.0 ≡ x = cc in
    bad (subst P same h.2)

-- the imports of one kind, with one import more
pub imports-more : {A : Type 0} (kind : ImportKind → Option A) (imports : List Import) (n : ℕ) (i : Import) → n < length imports → i ≡ get_or imports n i → imports_of kind (take (n + 1) imports) ≡ imports_of kind (take n imports) ++ cons_option (kind i.kind) []
imports-more kind imports n i lt read =
    let next : n + 1 ≡ suc n = omega arith in
    let parts : take (n + 1) imports ≡ take n imports ++ i ∷ [] = ap (λ (k : ℕ). take k imports) next ∙ take-suc imports n i lt ∙ ap (λ x. take n imports ++ x ∷ []) (sym read) in
    ap (imports_of kind) parts ∙ filter_map-append (λ (j : Import). kind j.kind) (take n imports) (i ∷ [])

none-put : {A : Type 0} (o : Option A) (rest : List A) → cons_option o rest ≡ [] → (o ≡ None) × (rest ≡ [])
none-put None rest e = (refl, e)
none-put (Some x) rest e = absurd (let bad : x ∷ rest ≡ [] = e in let n : length (x ∷ rest) ≡ 0 = ap length bad in omega (arith, n))

-- where none is of a kind, each is of another
pub lacks : {A : Type 0} (kind : ImportKind → Option A) (imports : List Import) (n : ℕ) (d : Import) → n < length imports → imports_of kind imports ≡ [] → kind (get_or imports n d).kind ≡ None
lacks kind [] n d lt e = absurd (omega arith)
lacks kind (i ∷ is) zero d lt e = (none-put (kind i.kind) (imports_of kind is) e).0
lacks kind (i ∷ is) (suc n) d lt e = lacks kind is n d (omega arith) (none-put (kind i.kind) (imports_of kind is) e).1

-- one more that is of another kind
pub lacking-more : {A : Type 0} (kind : ImportKind → Option A) (imports : List Import) (n : ℕ) (i : Import) → n < length imports → i ≡ get_or imports n i → imports_of kind (take n imports) ≡ [] → kind i.kind ≡ None → imports_of kind (take (n + 1) imports) ≡ []
lacking-more kind imports n i lt read before other =
    imports-more kind imports n i lt read ∙ ap (λ xs. xs ++ cons_option (kind i.kind) []) before ∙ ap (λ o. cons_option o []) other

types-append : (gs hs : List Global) → types_of_globals (gs ++ hs) ≡ types_of_globals gs ++ types_of_globals hs
types-append [] hs = refl
types-append (g ∷ gs) hs = ap (λ ts. g.of ∷ ts) (types-append gs hs)

-- the types of the globals, with one global more
pub types-more : (gs : List Global) (n : ℕ) (g : Global) → n < length gs → g ≡ get_or gs n g → types_of_globals (take (n + 1) gs) ≡ types_of_globals (take n gs) ++ g.of ∷ []
types-more gs n g lt read =
    let next : n + 1 ≡ suc n = omega arith in
    let parts : take (n + 1) gs ≡ take n gs ++ g ∷ [] = ap (λ (k : ℕ). take k gs) next ∙ take-suc gs n g lt ∙ ap (λ x. take n gs ++ x ∷ []) (sym read) in
    ap types_of_globals parts ∙ types-append (take n gs) (g ∷ [])

-- an entry that was read is this one
pub read_is : {A : Type 0} (xs : List A) (n : ℕ) (x : A) → n < length xs → x ≡ get_or xs n x → slice_get xs n ≡ Some x
read_is xs n x lt read = slice_get-get_or xs n x lt ∙ ap Some (sym read)

pub held_at : {A : Type 0} (xs : List A) (n : ℕ) (x : A) (P : A → Type 0) → n < length xs → x ≡ get_or xs n x → At xs n P → P x
held_at xs n x P lt read h =
    let e : Some h.0 ≡ Some x = sym h.1 ∙ read_is xs n x lt read in
    let same : h.0 ≡ x = cc in
    subst P same h.2

-- what holds of each entry holds of all
pub all_at : {A : Type 0} (xs : List A) (P : A → Type 0) → ((n : ℕ) → n < length xs → At xs n P) → All P xs
all_at xs P h = λ k d lt. held_at xs k (get_or xs k d) P lt (get_or_default xs k d (get_or xs k d) lt) (h k lt)
