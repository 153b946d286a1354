-- What a module that fits exports has the types of the table.
use Rattle.std.proofs.Common.{◌≡◌, ◌<◌, ℕ, List, [], ◌∷◌, Bool, true, false, not, Option, None, Some, refl, sym, ap, ◌∙◌, subst, arith}
use Rattle.std.specs.Prelude.{slice_get, bytes_eq, ◌||◌, if◌then◌else◌}
use Rattle.std.specs.List.{list_any}
use Rattle.std.proofs.lemmas.Slice.Eq.{bytes_eq-Decides}
use Rattle.std.specs.Option.{option_or, option_map, option_and_then}
use Rattle.wasm_syntax.specs.declared.types.Value.{Value}
use Rattle.wasm_syntax.specs.declared.types.Value.TheVariants.{I32}
use Rattle.wasm_syntax.specs.declared.types.FunctionType.{FunctionType}
use Rattle.wasm_syntax.specs.declared.module.Export.{Export}
use Rattle.wasm_syntax.specs.declared.module.Module.{Module}
use Rattle.wasm_syntax.specs.declared.valid.Part.TheVariants as part
use Rattle.wasm_syntax.specs.Validity.{IsValid, IsGood, IsStart, starts, functions_of}
use Rattle.wasm_syntax.specs.Reduction.{Program}
use Rattle.wasm_syntax.specs.ReductionPrograms.{program_of}
use Rattle.wasm_store.specs.Linking.{link_fault}
use Rattle.wasm_flat.specs.Holds.{HasType, types_of}
use Rattle.wasm_machine.specs.Machines.{Takes, results_in, results_of}
use Rattle.wasm_flat.proofs.Splits.{same_some, no_some}
use Rattle.wasm_flat.proofs.Valid.{program_fits}
use Rattle.abi_links.specs.Judging.{types_in, judged_of}
use Rattle.abi_links.specs.Short.{has_types}
use Rattle.vm_host.specs.declared.fitting.FitEnd.TheVariants as ends
use Rattle.vm_host.specs.declared.roles.Role.{Role}
use Rattle.vm_host.specs.declared.roles.Role.TheVariants as role
use Rattle.vm_host.specs.Roles.{role_name, role_row, role_named}
use Rattle.vm_host.specs.Fits.{function_in, exported, type_in, role_results, fits_type, misfits_role, is_misfit, unlinked, no_marker, a_misfit, fit_fault}
use Rattle.vm_host.specs.Seeing.{IsAllocator}
use Rattle.vm_host.specs.declared.vm.Counts.{Counts}
use Rattle.vm_host.specs.RoleTypes.{functions_for, function_for, allocator_in, beginner_in, HasRole, AreFunctions, numbers_for, TakesNothing}

-- ---- nothing stands against it

or_none : {A : Type 0} (a b : Option A) → option_or a b ≡ None → (a ≡ None) × (b ≡ None)
or_none None b is = (refl, is)
or_none (Some x) b is = absurd (cc)

map_none : {A B : Type 0} (f : A → B) (a : Option A) → option_map f a ≡ None → a ≡ None
map_none f None is = refl
map_none f (Some x) is = absurd (cc)

pub fits_linked : (m : Module) (pages : ℕ) → fit_fault m pages ≡ None → link_fault judged_of m pages ≡ None
unfolding unlinked
fits_linked m pages none = map_none ends.Unlinked (link_fault judged_of m pages) (or_none (unlinked m pages) (option_or (no_marker m.exports) (a_misfit m)) none).0

if_misfit : (b : Bool) → (if b then Some ends.CallbackType else None) ≡ None → b ≡ false
if_misfit true is = absurd (cc)
if_misfit false is = refl

no_misfit : (m : Module) (pages : ℕ) → fit_fault m pages ≡ None → list_any (is_misfit m) m.exports ≡ false
unfolding a_misfit
no_misfit m pages none =
    if_misfit (list_any (is_misfit m) m.exports) (or_none (no_marker m.exports) (a_misfit m) (or_none (unlinked m pages) (option_or (no_marker m.exports) (a_misfit m)) none).1).1

-- ---- each export of the table has its type

-- a name names its role
named : (r : Role) → role_named (role_name r) ≡ Some r
unfolding role_named
named role.Initialize = refl
named role.Start = refl
named role.MemoryAllocate = refl
named role.Malloc = refl
named role.ContextCreate = refl
named role.VmStart = refl
named role.Configure = refl
named role.Tick = refl
named role.Log = refl
named role.Delete = refl
named role.QueueReady = refl
named role.RequestHeaders = refl
named role.ResponseHeaders = refl
named role.RequestBody = refl
named role.ResponseBody = refl
named role.RequestTrailers = refl
named role.ResponseTrailers = refl
named role.Done = refl
named role.CallAnswered = refl
named role.NewConnection = refl
named role.DownstreamData = refl
named role.UpstreamData = refl
named role.DownstreamClose = refl
named role.UpstreamClose = refl

not_false : (b : Bool) → not b ≡ false → b ≡ true
not_false true is = refl
not_false false is = absurd (cc)

any_false : (b c : Bool) → (b || c) ≡ false → (b ≡ false) × (c ≡ false)
any_false true c is = absurd (cc)
any_false false c is = (refl, is)

module _ (m : Module) (r : Role) where
  here : (e : Export) (x : ℕ) → is_misfit m e ≡ false → e.name ≡ role_name r → function_in e.kind ≡ Some x → fits_type r (type_in m x) ≡ true
  unfolding is_misfit
  here e x fit name is =
      not_false (fits_type r (type_in m x))
      (subst (λ (f : Option ℕ). misfits_role m f (Some r) ≡ false) is
      (subst (λ (o : Option Role). misfits_role m (function_in e.kind) o ≡ false) (ap role_named name ∙ named r) fit))

  by_name : (e : Export) (es : List Export) (b : Bool) → bytes_eq e.name (role_name r) ≡ b → is_misfit m e ≡ false →
      ((x : ℕ) → exported (role_name r) es ≡ Some x → fits_type r (type_in m x) ≡ true) →
      (o : Option ℕ) → function_in e.kind ≡ o → (x : ℕ) → option_or (if b then o else None) (exported (role_name r) es) ≡ Some x → fits_type r (type_in m x) ≡ true
  by_name e es false same fit more o is x found = more x found
  by_name e es true same fit more None is x found = more x found
  by_name e es true same fit more (Some y) is x found =
      let one : y ≡ x = same_some y x found in
      subst (λ (z : ℕ). fits_type r (type_in m z) ≡ true) one (here e y fit ((bytes_eq-Decides e.name (role_name r)).0 same) is)

  typed_in : (es : List Export) → list_any (is_misfit m) es ≡ false → (x : ℕ) → exported (role_name r) es ≡ Some x → fits_type r (type_in m x) ≡ true
  typed_in [] none x found = absurd (no_some x found)
  typed_in (e ∷ es) none x found =
      let h = any_false (is_misfit m e) (list_any (is_misfit m) es) none in
      by_name e es (bytes_eq e.name (role_name r)) refl h.0 (λ y f. typed_in es h.1 y f) (function_in e.kind) refl x found

-- a type that fits is that of the function
type_found : (r : Role) (o : Option FunctionType) → fits_type r o ≡ true → (t : FunctionType) × (o ≡ Some t) × (t.parameters ≡ types_in (role_row r)) × (t.results ≡ role_results r)
type_found r None is = absurd (cc)
type_found r (Some t) is = let h = has_types (types_in (role_row r)) (role_results r) t is in (t, refl, h.0, h.1)

index_found : (types : List FunctionType) (o : Option ℕ) (t : FunctionType) → option_and_then (λ k. slice_get types k) o ≡ Some t → (k : ℕ) × (o ≡ Some k) × (slice_get types k ≡ Some t)
index_found types None t is = absurd (cc)
index_found types (Some k) t is = (k, refl, is)

has_role : (m : Module) (pages : ℕ) → IsValid m → (r : Role) (x : ℕ) → fits_type r (type_in m x) ≡ true → HasRole (program_of m pages) r x
unfolding type_in
has_role m pages valid r x fit =
    let h = type_found r (type_in m x) fit in
    let k = index_found m.types (slice_get (functions_of m) x) h.0 h.1 in
    record { type = h.0; has = (program_fits m pages valid).typed x k.0 h.0 k.1 k.2; takes = h.2; gives = h.3 }

pub function_at : (exports : List Export) (r : Role) → function_for (functions_for exports) r ≡ exported (role_name r) exports
function_at exports role.Initialize = refl
function_at exports role.Start = refl
function_at exports role.MemoryAllocate = refl
function_at exports role.Malloc = refl
function_at exports role.ContextCreate = refl
function_at exports role.VmStart = refl
function_at exports role.Configure = refl
function_at exports role.Tick = refl
function_at exports role.Log = refl
function_at exports role.Delete = refl
function_at exports role.QueueReady = refl
function_at exports role.RequestHeaders = refl
function_at exports role.ResponseHeaders = refl
function_at exports role.RequestBody = refl
function_at exports role.ResponseBody = refl
function_at exports role.RequestTrailers = refl
function_at exports role.ResponseTrailers = refl
function_at exports role.Done = refl
function_at exports role.CallAnswered = refl
function_at exports role.NewConnection = refl
function_at exports role.DownstreamData = refl
function_at exports role.UpstreamData = refl
function_at exports role.DownstreamClose = refl
function_at exports role.UpstreamClose = refl

-- THE TIE of what is exported to what is called
pub are_functions : (m : Module) (pages : ℕ) → IsValid m → fit_fault m pages ≡ None → AreFunctions (program_of m pages) (functions_for m.exports)
are_functions m pages valid none r f is =
    has_role m pages valid r f (typed_in m r m.exports (no_misfit m pages none) f (sym (function_at m.exports r) ∙ is))

-- ---- what is called so takes its arguments

pub takes_of : (p : Program) (r : Role) (f : ℕ) → HasRole p r f → (args : List Value) → types_of args ≡ types_in (role_row r) → Takes p f args
takes_of p r f h args is = (h.type, h.has, is ∙ sym h.takes)

pub numbers_typed : (r : Role) (a b c : ℕ) (d : Counts) → types_of (numbers_for r a b c d) ≡ types_in (role_row r)
numbers_typed role.Initialize a b c d = refl
numbers_typed role.Start a b c d = refl
numbers_typed role.MemoryAllocate a b c d = refl
numbers_typed role.Malloc a b c d = refl
numbers_typed role.ContextCreate a b c d = refl
numbers_typed role.VmStart a b c d = refl
numbers_typed role.Configure a b c d = refl
numbers_typed role.Tick a b c d = refl
numbers_typed role.Log a b c d = refl
numbers_typed role.Delete a b c d = refl
numbers_typed role.QueueReady a b c d = refl
numbers_typed role.RequestHeaders a b c d = refl
numbers_typed role.ResponseHeaders a b c d = refl
numbers_typed role.RequestBody a b c d = refl
numbers_typed role.ResponseBody a b c d = refl
numbers_typed role.RequestTrailers a b c d = refl
numbers_typed role.ResponseTrailers a b c d = refl
numbers_typed role.Done a b c d = refl
numbers_typed role.CallAnswered a b c d = refl
numbers_typed role.NewConnection a b c d = refl
numbers_typed role.DownstreamData a b c d = refl
numbers_typed role.UpstreamData a b c d = refl
numbers_typed role.DownstreamClose a b c d = refl
numbers_typed role.UpstreamClose a b c d = refl

results_there : (p : Program) (f : ℕ) (t : FunctionType) → HasType p f t → results_of p f ≡ t.results
results_there p f t (g, is, same) = ap results_in is ∙ ap (λ (u : FunctionType). u.results) same

allocates : (p : Program) (r : Role) (f : ℕ) → types_in (role_row r) ≡ types_of (I32 0 ∷ []) → role_results r ≡ types_of (I32 0 ∷ []) → HasRole p r f → IsAllocator p (Some f)
allocates p r f row gives h = (λ n. takes_of p r f h (I32 n ∷ []) (sym row), results_there p f h.type h.has ∙ h.gives ∙ gives)

pub is_allocator : (p : Program) (functions : List (Option ℕ)) → AreFunctions p functions → IsAllocator p (allocator_in functions)
is_allocator p functions are = first (function_for functions role.MemoryAllocate) refl (function_for functions role.Malloc) refl
  where
    second : (b : Option ℕ) → function_for functions role.Malloc ≡ b → IsAllocator p b
    second None is = tt
    second (Some f) is = allocates p role.Malloc f refl refl (are role.Malloc f is)

    first : (a : Option ℕ) → function_for functions role.MemoryAllocate ≡ a → (b : Option ℕ) → function_for functions role.Malloc ≡ b → IsAllocator p (option_or a b)
    first None is b same = second b same
    first (Some f) is b same = allocates p role.MemoryAllocate f refl refl (are role.MemoryAllocate f is)

pub beginner_takes : (p : Program) (functions : List (Option ℕ)) → AreFunctions p functions → TakesNothing p (beginner_in functions)
beginner_takes p functions are = first (function_for functions role.Initialize) refl (function_for functions role.Start) refl
  where
    second : (b : Option ℕ) → function_for functions role.Start ≡ b → TakesNothing p b
    second None is = tt
    second (Some f) is = takes_of p role.Start f (are role.Start f is) [] refl

    first : (a : Option ℕ) → function_for functions role.Initialize ≡ a → (b : Option ℕ) → function_for functions role.Start ≡ b → TakesNothing p (option_or a b)
    first None is b same = second b same
    first (Some f) is b same = takes_of p role.Initialize f (are role.Initialize f is) [] refl

-- ---- the start function

starts_at : (m : Module) (x : ℕ) → IsValid m → m.start ≡ Some x → IsStart m x
starts_at m x valid e =
    let good : IsGood m part.Start 0 = valid.entries part.Start 0 (subst (λ (n : ℕ). 0 < n) (sym (ap starts e)) (omega arith)) in
    subst (λ (y : ℕ). IsStart m y) (same_some good.0 x (sym good.1 ∙ e)) good.2

pub start_takes : (m : Module) (pages : ℕ) → IsValid m → (o : Option ℕ) → m.start ≡ o → TakesNothing (program_of m pages) o
start_takes m pages valid None e = tt
start_takes m pages valid (Some x) e =
    let start = starts_at m x valid e in
    (record { parameters = []; results = [] }, (program_fits m pages valid).typed x start.0 (record { parameters = []; results = [] }) start.1 start.2, refl)
