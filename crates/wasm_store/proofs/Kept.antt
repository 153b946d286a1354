-- What a linked module's first stores keep.
use Rattle.std.proofs.Common.{◌≡◌, refl, ◌∙◌, ap, sym, subst, rules, ℕ, zero, suc, ◌+◌, ◌*◌, ◌<◌, ◌≤◌, Bool, true, false, not, List, [], ◌∷◌, ◌++◌, length, map, take, drop, get_or, replicate, slice_get, Option, Some, None, unwrap_or, All, min, arith, if◌then◌else◌, nat_lt}
use Rattle.std.specs.List.{AllByRecursion, position, position_from, cons_option}
use Rattle.std.specs.Option.{option_map, option_or}
use Rattle.std.proofs.lemmas.Option.{none-some}
use Rattle.std.proofs.lemmas.Bool.{ltb-false}
use Rattle.std.proofs.lemmas.List.Elements.{All-append, All-take, All-drop, All-map, All-replicate}
use Rattle.wasm_syntax.specs.declared.types.ValueType.{ValueType}
use Rattle.wasm_syntax.specs.declared.types.Value.{Value}
use Rattle.wasm_syntax.specs.declared.types.FunctionType.{FunctionType}
use Rattle.wasm_syntax.specs.declared.types.GlobalType.{GlobalType}
use Rattle.wasm_syntax.specs.declared.types.Limits.{Limits}
use Rattle.wasm_syntax.specs.declared.instr.Instr.{Instr}
use Rattle.wasm_syntax.specs.declared.module.ImportKind.{ImportKind}
use Rattle.wasm_syntax.specs.declared.module.ImportKind.TheVariants as imported
use Rattle.wasm_syntax.specs.declared.module.Import.{Import}
use Rattle.wasm_syntax.specs.declared.module.Global.{Global}
use Rattle.wasm_syntax.specs.declared.module.Element.{Element}
use Rattle.wasm_syntax.specs.declared.module.Module.{Module}
use Rattle.wasm_syntax.specs.declared.valid.Part.TheVariants as part
use Rattle.wasm_syntax.specs.Rows.{row_of}
use Rattle.wasm_syntax.specs.Typing.{Is}
use Rattle.wasm_syntax.specs.Validity.{IsValid, At, IsConstant, IsAtMost, IsElement, IsMemory, imports_of, function_of, table_of, memory_of, global_of, functions_of}
use Rattle.wasm_syntax.specs.Memory.{written, most_pages}
use Rattle.wasm_syntax.specs.Numeric.{type_of, constant}
use Rattle.wasm_syntax.specs.Stores.{initial, initial_globals, offset_of, with_element, with_elements, minimum_of, most_of, first_pages, growth_bound, table_size}
use Rattle.wasm_store.specs.declared.links.Judged.{Judged}
use Rattle.wasm_store.specs.declared.links.Judged.TheVariants as judged
use Rattle.wasm_store.specs.declared.instance.LinkEnd.{LinkEnd}
use Rattle.wasm_store.specs.declared.instance.LinkEnd.TheVariants as end
use Rattle.wasm_store.specs.Memories.{Bounded, IsWhole}
use Rattle.wasm_store.specs.Instances.{Instantiated, IsElementOf, IsShort, ImportsFunctions, IsInstance}
use Rattle.wasm_store.specs.Linking.{Host, judged_as, judged_kind, judgement, is_unknown, is_other_type, first_unknown, first_other_type, over_cap, first_element_outside, first_segment_outside, link_fault}
use Rattle.wasm_store.proofs.Outside.{none_passes}
use Rattle.wasm_store.proofs.Constants.{constant_type}

some_same : {A : Type 0} (x y : A) → Some x ≡ Some y → x ≡ y
some_same x y e = cc

read_there : {A : Type 0} (xs : List A) (n : ℕ) (x d : A) → slice_get xs n ≡ Some x → get_or xs n d ≡ x
read_there [] n x d e = absurd (none-some x e)
read_there (y ∷ xs) zero x d e = some_same y x e
read_there (y ∷ xs) (suc n) x d e = read_there xs n x d e

true_false : true ≡ false → ⊥
true_false e = search rules

-- ---- globals

initial_type : (t : ValueType) (is : List Instr) → IsConstant [] t is → type_of (initial is) ≡ t
initial_type t [] h = absurd h
initial_type t (i ∷ []) h = absurd h
initial_type t (i ∷ j ∷ []) h = constant_type i t h.0
initial_type t (i ∷ j ∷ k ∷ is) h = absurd h

pub globals_have_types : (imports : List GlobalType) (gs : List Global) → imports ≡ [] → ((n : ℕ) → n < length gs → At gs n (λ (g : Global). IsConstant imports g.of.value g.initial)) → map type_of (map (λ (g : Global). initial g.initial) gs) ≡ map (λ (g : Global). g.of.value) gs
globals_have_types imports [] none good = refl
globals_have_types imports (g ∷ gs) none good =
    let here = good zero (omega arith) in
    let same : here.0 ≡ g = some_same here.0 g (sym here.1) in
    let constant_here : IsConstant imports g.of.value g.initial = subst (λ (x : Global). IsConstant imports x.of.value x.initial) same here.2 in
    let typed = initial_type g.of.value g.initial (subst (λ (ts : List GlobalType). IsConstant ts g.of.value g.initial) none constant_here) in
    ap (λ t. t ∷ map type_of (map (λ (x : Global). initial x.initial) gs)) typed ∙ ap (λ ts. g.of.value ∷ ts) (globals_have_types imports gs none (λ n lt. good (suc n) (omega arith)))

-- ---- imports

known_kind : (host : Host) (types : List FunctionType) (home name : List ℕ) (k : ImportKind) → is_unknown (judged_kind host types home name k) ≡ false → (table_of k ≡ None) × (memory_of k ≡ None) × (global_of k ≡ None)
known_kind host types home name (imported.Function x) e = (refl, refl, refl)
known_kind host types home name (imported.Table l) e = absurd (true_false e)
known_kind host types home name (imported.Memory l) e = absurd (true_false e)
known_kind host types home name (imported.Global g) e = absurd (true_false e)

own_alone : {A : Type 0} (kind : ImportKind → Option A) (imports : List Import) → ((n : ℕ) (d : Import) → n < length imports → kind (get_or imports n d).kind ≡ None) → imports_of kind imports ≡ []
own_alone kind [] none = refl
own_alone kind (i ∷ is) none =
    ap (λ o. cons_option o (imports_of kind is)) (none zero i (omega arith)) ∙ own_alone kind is (λ n d lt. none (suc n) d (omega arith))

pub imports_functions : (host : Host) (m : Module) → first_unknown host m ≡ None → ImportsFunctions m
imports_functions host m e =
    let known : (n : ℕ) (d : Import) → n < length m.imports → is_unknown (judgement host m.types (get_or m.imports n d)) ≡ false = none_passes (λ (i : Import). is_unknown (judgement host m.types i)) m.imports e in
    let of_kind : (n : ℕ) (d : Import) → n < length m.imports → (table_of (get_or m.imports n d).kind ≡ None) × (memory_of (get_or m.imports n d).kind ≡ None) × (global_of (get_or m.imports n d).kind ≡ None) =
    λ n d lt. known_kind host m.types (get_or m.imports n d).module (get_or m.imports n d).name (get_or m.imports n d).kind (known n d lt) in
    record {
      tables = own_alone table_of m.imports (λ n d lt. (of_kind n d lt).0);
      memories = own_alone memory_of m.imports (λ n d lt. (of_kind n d lt).1);
      globals = own_alone global_of m.imports (λ n d lt. (of_kind n d lt).2);
    }

linked_then : (j : Judged) → is_unknown j ≡ false → is_other_type j ≡ false → j ≡ judged.Linked
linked_then judged.Linked e f = refl
linked_then judged.Unknown e f = absurd (true_false e)
linked_then judged.OtherType e f = absurd (true_false f)

short_kind : (host : Host) → ((home name : List ℕ) (t : FunctionType) → host home name t ≡ judged.Linked → length t.parameters ≤ 16) → (types : List FunctionType) (home name : List ℕ) (k : ImportKind) → judged_kind host types home name k ≡ judged.Linked → (x : ℕ) (t : FunctionType) → function_of k ≡ Some x → Is types x t → length t.parameters ≤ 16
short_kind host law types home name (imported.Function y) linked x t of there =
    let same : y ≡ x = some_same y x of in
    let read : slice_get types y ≡ Some t = ap (slice_get types) same ∙ there in
    law home name t (sym (ap (judged_as host home name) read) ∙ linked)
short_kind host law types home name (imported.Table l) linked x t of there = absurd (none-some x of)
short_kind host law types home name (imported.Memory l) linked x t of there = absurd (none-some x of)
short_kind host law types home name (imported.Global g) linked x t of there = absurd (none-some x of)

pub imports_are_short : (host : Host) → ((home name : List ℕ) (t : FunctionType) → host home name t ≡ judged.Linked → length t.parameters ≤ 16) → (m : Module) → first_unknown host m ≡ None → first_other_type host m ≡ None → All (IsShort m.types) m.imports
imports_are_short host law m e f n d lt =
    let i = get_or m.imports n d in
    let known = none_passes (λ (j : Import). is_unknown (judgement host m.types j)) m.imports e n d lt in
    let typed = none_passes (λ (j : Import). is_other_type (judgement host m.types j)) m.imports f n d lt in
    short_kind host law m.types i.module i.name i.kind (linked_then (judgement host m.types i) known typed)

-- ---- the table

pub elements_stay : (count : ℕ) (table : List (Option ℕ)) (es : List Element) → All (IsElementOf count) table → ((n : ℕ) (d : Element) → n < length es → All (λ f. f < count) (get_or es n d).functions) → All (IsElementOf count) (with_elements table es)
elements_stay count table [] all good = all
elements_stay count table (e ∷ es) all good =
    let at = offset_of e.offset in
    let fs = map (λ (f : ℕ). Some f) e.functions in
    let new : All (IsElementOf count) fs = All-map (IsElementOf count) (λ (f : ℕ). Some f) e.functions (good zero e (omega arith)) in
    let rest = drop (at + length fs) table in
    let set : All (IsElementOf count) (with_element table e) =
    All-append (IsElementOf count) (take at table) (fs ++ rest) (All-take (IsElementOf count) at table all)
    (All-append (IsElementOf count) fs rest new (All-drop (IsElementOf count) (at + length fs) table all)) in
    elements_stay count (with_element table e) es set (λ n d lt. good (suc n) d (omega arith))

element_good : (m : Module) (n : ℕ) (d : Element) → At m.elements n (IsElement m) → All (λ f. f < length (functions_of m)) (get_or m.elements n d).functions
element_good m n d good =
    let same : get_or m.elements n d ≡ good.0 = read_there m.elements n good.0 d good.1 in
    subst (λ (e : Element). All (λ f. f < length (functions_of m)) e.functions) (sym same) good.2.2

-- ---- the memory

at_most_fits : (n : ℕ) (most : Option ℕ) (pages : ℕ) → n ≤ 65536 → IsAtMost n most → n ≤ pages → n ≤ min (unwrap_or most 65536) pages
at_most_fits n None pages small ordered le = omega (arith, small, le)
at_most_fits n (Some k) pages small ordered le = omega (arith, ordered, le)

memories_fit : (k : ℕ) (ls : List Limits) (pages : ℕ) → ((n : ℕ) → n < length ls → At ls n (λ (l : Limits). IsMemory l × (k + n ≡ 0))) → minimum_of ls ≤ pages → minimum_of ls ≤ most_of ls pages
memories_fit k [] pages good le = omega (arith)
memories_fit k (l ∷ ls) pages good le =
    let here = good zero (omega arith) in
    let same : here.0 ≡ l = some_same here.0 l (sym here.1) in
    let limits : IsMemory l = subst IsMemory same here.2.0 in
    at_most_fits l.minimum l.maximum pages limits.0 limits.2 le

pub minimum_fits : (m : Module) (pages : ℕ) → IsValid m → first_pages m ≤ pages → first_pages m ≤ growth_bound m pages
minimum_fits m pages valid le = memories_fit (length (imports_of memory_of m.imports)) m.memories pages (λ n lt. valid.entries part.Memory n lt) le

-- ---- all of it

none_first : {A : Type 0} (o p : Option A) → option_or o p ≡ None → (o ≡ None) × (p ≡ None)
none_first None p e = (refl, e)
none_first (Some x) p e = absurd (none-some x (sym e))

none_mapped : {A B : Type 0} (f : A → B) (o : Option A) → option_map f o ≡ None → o ≡ None
none_mapped f None e = refl
none_mapped f (Some x) e = absurd (none-some (f x) (sym e))

not_capped : (b : Bool) → (if b then Some end.PagesOverCap else None) ≡ None → b ≡ false
not_capped true e = absurd (none-some end.PagesOverCap (sym e))
not_capped false e = refl

pub record NothingAgainst (host : Host) (m : Module) (pages : ℕ) : Type 0 where
  pub unknown : first_unknown host m ≡ None
  pub other : first_other_type host m ≡ None
  pub cap : over_cap m pages ≡ None
  pub elements : first_element_outside m ≡ None
  pub segments : first_segment_outside m ≡ None

pub nothing_against : (host : Host) (m : Module) (pages : ℕ) → link_fault host m pages ≡ None → NothingAgainst host m pages
nothing_against host m pages e =
    let a = none_first (option_map end.UnknownImport (first_unknown host m)) _ e in
    let b = none_first (option_map end.ImportType (first_other_type host m)) _ a.1 in
    let c = none_first (over_cap m pages) _ b.1 in
    let d = none_first (option_map end.ElementOutside (first_element_outside m)) _ c.1 in
    record {
      unknown = none_mapped end.UnknownImport (first_unknown host m) a.0;
      other = none_mapped end.ImportType (first_other_type host m) b.0;
      cap = c.0;
      elements = none_mapped end.ElementOutside (first_element_outside m) d.0;
      segments = none_mapped end.DataOutside (first_segment_outside m) d.1;
    }

pub cap_passes : (m : Module) (pages : ℕ) → over_cap m pages ≡ None → first_pages m ≤ pages
cap_passes m pages e = ltb-false pages (first_pages m) (not_capped (nat_lt pages (first_pages m)) e)

pub instance_kept : (host : Host) → ((home name : List ℕ) (t : FunctionType) → host home name t ≡ judged.Linked → length t.parameters ≤ 16) → (m : Module) (pages : ℕ) (memory : Bounded) (table : List (Option ℕ)) (globals : List Value) → IsValid m → link_fault host m pages ≡ None → IsWhole memory → memory.most ≡ growth_bound m pages → table ≡ with_elements (replicate (table_size m) None) m.elements → length table ≡ table_size m → globals ≡ initial_globals m → IsInstance (record { of = m; memory = memory; table = table; globals = globals })
instance_kept host law m pages memory table globals valid e whole most is size values =
    let clear = nothing_against host m pages e in
    let own = imports_functions host m clear.unknown in
    let count = length (functions_of m) in
    record {
      valid = valid;
      imports = own;
      short = imports_are_short host law m clear.unknown clear.other;
      memory = whole;
      no_memory = λ none. most ∙ ap (λ ls. most_of ls pages) none;
      table = size;
      elements = subst (λ t. All (IsElementOf count) t) (sym is) (elements_stay count (replicate (table_size m) None) m.elements (All-replicate (IsElementOf count) (table_size m) None tt) (λ n d lt. element_good m n d (valid.entries part.Element n lt)));
      globals = ap (map type_of) values ∙ globals_have_types (imports_of global_of m.imports) m.globals own.globals (λ n lt. valid.entries part.Global n lt);
    }
